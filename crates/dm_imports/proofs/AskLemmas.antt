-- Who may ask.
use Rattle.std.proofs.Common.{◌≡◌, refl, cond, subst, sym, true, false, Bool, Option, None, Some}
use Rattle.std.specs.Map.{lookup}
use Rattle.std.specs.Option.{option_map}
use Rattle.std.specs.Prelude.{IsTrue}
use Rattle.dm_base.specs.declared.ids.ModuleId.{ModuleId}
use Rattle.dm_base.specs.declared.per_ns.Namespace.{Namespace}
use Rattle.dm_base.specs.declared.per_ns.Namespace.TheVariants.{Types, Values, Macros}
use Rattle.dm_base.specs.declared.visibility.Visibility.{Visibility}
use Rattle.dm_base.specs.declared.visibility.Visibility.TheVariants.{Module, PubCrate, Public}
use Rattle.dm_base.specs.declared.visibility.VisibilityExplicitness.{VisibilityExplicitness}
use Rattle.dm_base.specs.Names.{Name}
use Rattle.dm_base.specs.Tree.{IsKnown}
use Rattle.dm_base.specs.Visibility.{NamesKnown}
use Rattle.dm_maps.specs.declared.check.held.HeldId.TheVariants as held
use Rattle.dm_maps.specs.Known.{knows}
use Rattle.dm_maps.specs.Trees.{tree_of}
use Rattle.dm_maps.specs.World.{World}
use Rattle.dm_imports.specs.declared.glob_import.GlobImport.{GlobImport}
use Rattle.dm_imports.specs.declared.joined.Joined.{Joined}
use Rattle.dm_imports.specs.declared.meaning.Meaning.{Meaning}
use Rattle.dm_imports.specs.declared.named_import.NamedImport.{NamedImport}
use Rattle.dm_imports.specs.Asked.{module_asks}
use Rattle.dm_imports.specs.Brought.{AreAllNamed, IsBrought}
use Rattle.dm_imports.specs.Declarations.{same_variant, vis_in}
use Rattle.dm_imports.specs.Meanings.{AreNamed, IsNamed, joined}
use Rattle.dm_imports.specs.Paths.{AreVariantsNamed, Asking, DefMaps, MayAsk, constructor_of, variant_vis}
use Rattle.dm_imports.specs.Rules.{AreImportsKnown, AreMapsKnown, all_offers, brought, glob_asks, import_asks}
use Rattle.dm_imports.specs.Slots.{Slots, slot_at}
use Rattle.dm_imports.specs.Tables.{MapTables, named_or_public, of_tables}

pub module-known : (w : World) (m : ModuleId) → IsTrue (knows w (held.Module m)) → IsKnown (tree_of w) m
unfolding tree_of
module-known w m h = h

pub glob-may : (d : DefMaps) (g : GlobImport) (a : Asking) → a ≡ glob_asks g → IsKnown (tree_of d.world) g.into → AreVariantsNamed d → MayAsk d a
glob-may d g a is home variants = subst (MayAsk d) (sym is) (record { home = home; variants = variants; below = λ m n s x e. cc })

pub joined-named : (w : World) (j : Joined) → AreNamed w j → NamesKnown (tree_of w) (joined j).vis
joined-named w j h = by j.is_ambiguous
  where
    by : (b : Bool) → NamesKnown (tree_of w) (cond b j.least j.most)
    by true = h.least
    by false = h.most

pub brought-named : (d : DefMaps) (b : Slots Joined) → IsBrought d b → AreAllNamed d.world b → (m : ModuleId) (n : Name) (s : Namespace) → IsNamed d.world (brought d m n s)
brought-named d b are all m n s x e = by (all_offers d d.globs m n s) (are m n s) e
  where
    by : (o : Option Joined) → slot_at b m n s ≡ o → option_map joined o ≡ Some x → NamesKnown (tree_of d.world) x.vis
    by None h e = cc
    by (Some j) h e = let same : joined j ≡ x = cc in subst (λ (y : Meaning). NamesKnown (tree_of d.world) y.vis) same (joined-named d.world j (all m n s j h))

pub import-may : (d : DefMaps) (i : NamedImport) (a : Asking) (b : Slots Joined) → a ≡ import_asks d i → IsBrought d b → AreAllNamed d.world b → IsKnown (tree_of d.world) i.home → AreVariantsNamed d → MayAsk d a
import-may d i a b is are all home variants = subst (MayAsk d) (sym is) (record { home = home; variants = variants; below = brought-named d b are all })

-- each visibility of a variant names a module of the world's, or none
pub variants-named : (t : MapTables) → AreVariantsNamed (of_tables t)
variants-named t e s v = of s
  where
    to : (m : ModuleId) (x : VisibilityExplicitness) (b : Bool) → (tree_of t.world).has m ≡ b → NamesKnown (tree_of t.world) (cond b (Module m x) Public)
    to m x true h = h
    to m x false h = tt

    by : (u : Visibility) → NamesKnown (tree_of t.world) (named_or_public (tree_of t.world) u)
    by (Module m x) = to m x ((tree_of t.world).has m) refl
    by (PubCrate k) = tt
    by Public = tt

    constructor_by : (u : Visibility) → NamesKnown (tree_of t.world) u → (o : Option Visibility)
        → NamesKnown (tree_of t.world) (constructor_of u (option_map (named_or_public (tree_of t.world)) o))
    constructor_by (Module m x) h o = h
    constructor_by (PubCrate k) h o = h
    constructor_by Public h None = h
    constructor_by Public h (Some u) = by u

    of : (n : Namespace) → NamesKnown (tree_of t.world) (variant_vis (of_tables t) e n v)
    of Types = by (vis_in t.declarations.enums e)
    of Values = constructor_by (named_or_public (tree_of t.world) (vis_in t.declarations.enums e)) (by (vis_in t.declarations.enums e))
        (lookup (same_variant v) t.declarations.constructors)
    of Macros = by (vis_in t.declarations.enums e)

pub maps-known : (t : MapTables) → AreImportsKnown (of_tables t) → AreMapsKnown (of_tables t)
maps-known t h = record { variants = variants-named t; imports = h.imports; globs = h.globs }

pub module-may : (t : MapTables) (m : ModuleId) (a : Asking) → a ≡ module_asks m → IsKnown (tree_of t.world) m → MayAsk (of_tables t) a
module-may t m a is home = subst (MayAsk (of_tables t)) (sym is) (record { home = home; variants = variants-named t; below = λ k n s x e. cc })

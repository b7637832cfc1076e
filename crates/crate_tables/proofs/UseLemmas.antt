-- Uses that a table gets hold what is the builder's.
use Rattle.std.proofs.Common.{◌++◌, ◌∷◌, [], ℕ, zero, suc, Bool, true, false, List, Option, Some, None}
use Rattle.std.specs.Prelude.{◌&&◌, All, IsTrue, map}
use Rattle.std.specs.Option.{option_and_then}
use Rattle.std.proofs.lemmas.List.Elements.{All-append, All-cons, All-head, All-nil, All-tail, All-weaker}
use Rattle.crate_items.specs.TextualScopes.{macro_before, scope_at}
use Rattle.crate_items.specs.declared.items.declared_import.DeclaredImport.{DeclaredImport}
use Rattle.crate_items.specs.declared.items.declared_item.DeclaredItem.{DeclaredItem}
use Rattle.crate_tables.proofs.TableLemmas.{table-on}
use Rattle.crate_tables.specs.CrateTables.{IsLeafOf, IsMacroOf, IsTableOf, Table, textual_holds, with_leaves}
use Rattle.crate_tables.specs.CrateUses.{Textual, is_plain, is_single, leaf_in, named_by, textual_of}
use Rattle.crate_tables.specs.TextualMacros.{macro_at}
use Rattle.dm_base.specs.Names.{Name}
use Rattle.dm_base.specs.declared.ids.Crate.{Crate}
use Rattle.dm_base.specs.declared.ids.ModuleId.{ModuleId}
use Rattle.dm_base.specs.declared.ids.UseId.{UseId}
use Rattle.dm_base.specs.declared.item_ids.MacroId.{MacroId}
use Rattle.dm_base.specs.declared.visibility.Visibility.{Visibility}
use Rattle.dm_maps.specs.Added.{IsGrown}
use Rattle.dm_maps.specs.Holding.{vis_holds}
use Rattle.dm_maps.specs.Known.{knows, KnowsAll}
use Rattle.dm_maps.specs.KnownLaws.{knows-append}
use Rattle.dm_maps.specs.World.{World}
use Rattle.dm_maps.specs.declared.check.held.HeldId.TheVariants as held

-- macros stay the builder's
pub macros-on : (v w : World) (ids : List (Option MacroId)) → IsGrown v w → All (IsMacroOf v) ids → All (IsMacroOf w) ids
macros-on v w ids grown known = All-weaker (IsMacroOf v) (IsMacroOf w) (λ id k. grown.all (textual_holds id) k) ids known

-- so is the macro that an item is
at-known : (w : World) (ids : List (Option MacroId)) (n : ℕ) → All (IsMacroOf w) ids → IsMacroOf w (macro_at ids n)
at-known w [] n known = tt
at-known w (id ∷ ids) zero known = All-head (IsMacroOf w) id ids known
at-known w (id ∷ ids) (suc n) known = at-known w ids n (All-tail (IsMacroOf w) id ids known)

named-known : (w : World) (t : Textual) (m i : ℕ) → All (IsMacroOf w) t.macros → (b : Bool) (names : List Name) → IsMacroOf w (named_by t m i b names)
named-known w t m i known true (name ∷ []) = by (macro_before t.items (scope_at t.scopes m) i name)
  where
    by : (o : Option ℕ) → IsMacroOf w (option_and_then (macro_at t.macros) o)
    by None = tt
    by (Some n) = at-known w t.macros n known
named-known w t m i known true [] = tt
named-known w t m i known true (a ∷ b ∷ rest) = tt
named-known w t m i known false [] = tt
named-known w t m i known false (a ∷ rest) = tt

all-leaves : (w : World) (t : Textual) (i : ℕ) (x : DeclaredItem) (m : ModuleId) (vis : Visibility) (u : UseId) (xs : List DeclaredImport)
    → IsTrue (knows w (held.Module m)) → IsTrue (knows w (held.Use u)) → KnowsAll w (vis_holds vis) → All (IsMacroOf w) t.macros
    → All (IsLeafOf w) (map (leaf_in t i x m vis u) xs)
all-leaves w t i x m vis u [] km ku kv kt = All-nil (IsLeafOf w)
all-leaves w t i x m vis u (import ∷ imports) km ku kv kt =
    All-cons (IsLeafOf w) (leaf_in t i x m vis u import) (map (leaf_in t i x m vis u) imports)
    (knows-append w ((held.Module m ∷ held.Use u ∷ []) ++ vis_holds vis) (textual_holds (textual_of t x.«module» i import)) (km, (ku, kv))
    (named-known w t x.«module» i kt (is_single import.kind && is_plain import.path.kind) import.path.segments))
    (all-leaves w t i x m vis u imports km ku kv kt)

-- a table with the leaves of a use more
pub table-used : (v w : World) (k : Crate) (s : Table) (t : Textual) (i : ℕ) (x : DeclaredItem) (m : ModuleId) (vis : Visibility) (u : UseId) (xs : List DeclaredImport)
    → IsGrown v w → IsTrue (knows v (held.Module m)) → IsTrue (knows w (held.Use u)) → All (IsMacroOf v) t.macros → IsTableOf v k s → KnowsAll v (vis_holds vis)
    → IsTableOf w k (with_leaves s (map (leaf_in t i x m vis u) xs))
table-used v w k s t i x m vis u xs grown km ku kt is kv =
    let on = table-on v w k s grown is in
    record {
      krate = on.krate;
      ids = on.ids;
      names = on.names;
      leaves = All-append (IsLeafOf w) s.leaves (map (leaf_in t i x m vis u) xs) on.leaves
          (all-leaves w t i x m vis u xs (grown.known (held.Module m) km) ku (grown.all (vis_holds vis) kv) (macros-on v w t.macros grown kt));
    }

-- Def maps, as they are seen by one who knows some slots alone, and who may ask there.
use Rattle.std.proofs.Common.{◌≡◌, refl, subst, sym, true, not, Bool, Option, None, Some}
use Rattle.std.specs.Prelude.{is_none, is_some}
use Rattle.std.specs.Option.{option_map}
use Rattle.dm_base.specs.declared.ids.ModuleId.{ModuleId}
use Rattle.dm_base.specs.declared.per_ns.Namespace.{Namespace}
use Rattle.dm_base.specs.Names.{Name}
use Rattle.dm_base.specs.Visibility.{NamesKnown}
use Rattle.dm_maps.specs.Trees.{tree_of}
use Rattle.dm_imports.specs.declared.glob_import.GlobImport.{GlobImport}
use Rattle.dm_imports.specs.declared.joined.Joined.{Joined}
use Rattle.dm_imports.specs.declared.meaning.Meaning.{Meaning}
use Rattle.dm_imports.specs.declared.named_import.NamedImport.{NamedImport}
use Rattle.dm_imports.specs.Grounded.{Offers, SlotSet, knowing, knowing_asks}
use Rattle.dm_imports.specs.Grounding.{AreReady, MayOffer, slots_of}
use Rattle.dm_imports.specs.Meanings.{IsNamed}
use Rattle.dm_imports.specs.Paths.{Asking, DefMaps, MayAsk}
use Rattle.dm_imports.specs.Rules.{IsImportKnown, all_offers}
use Rattle.dm_imports.specs.Slots.{Slots, slot_at}
use Rattle.dm_imports.specs.Tables.{MapTables, of_tables, spoiled_if}
use Rattle.dm_imports.proofs.AskLemmas.{joined-named, module-known}

none-not : {T : Type 0} (o : Option T) → is_none o ≡ not (is_some o)
none-not None = refl
none-not (Some x) = refl

-- def maps whose ambiguous slots are all but those of a table are seen so
pub known-tables : (t : MapTables) (k : Slots Bool) → of_tables (record t { ambiguous = record { table = k; is_all_but = true } }) ≡ knowing (of_tables t) (slots_of k)
known-tables t k = λ i. record (of_tables t) { is_ambiguous = λ m n s. none-not (slot_at k m n s) i }

-- what globs bring is named, also where it does not lead on
below-named : (d : DefMaps) (b : Slots Joined) → AreReady d b → (u : Bool) (m : ModuleId) (n : Name) (s : Namespace) → IsNamed d.world (option_map (spoiled_if u) (all_offers d d.globs m n s))
below-named d b ready u m n s x e = by (all_offers d d.globs m n s) (ready.brought m n s) e
  where
    by : (o : Option Joined) → slot_at b m n s ≡ o → option_map (spoiled_if u) o ≡ Some x → NamesKnown (tree_of d.world) x.vis
    by None h e = cc
    by (Some j) h e = let same : spoiled_if u j ≡ x = cc in subst (λ (y : Meaning). NamesKnown (tree_of d.world) y.vis) same (joined-named d.world j (ready.named m n s j h))

pub knowing-may : (d : DefMaps) (b : Slots Joined) (k : SlotSet) (o : Offers) (i : NamedImport) (e : DefMaps) (a : Asking) → e ≡ knowing d k → a ≡ knowing_asks d o i
    → AreReady d b → IsImportKnown d i → MayAsk e a
knowing-may d b k o i e a same asks ready known =
    let may : MayAsk (knowing d k) (knowing_asks d o i) = record {
      home = module-known d.world i.home known.0.0;
      variants = ready.known.variants;
      below = λ m n s. below-named d b ready (is_none (o m n s)) m n s;
    } in
    subst (λ (v : DefMaps). MayAsk v a) (sym same) (subst (MayAsk (knowing d k)) (sym asks) may)

-- who may offer in def maps may offer there as they are seen so
pub knowing-offer : (d : DefMaps) (k : SlotSet) (e : DefMaps) (g : GlobImport) → e ≡ knowing d k → MayOffer d g → MayOffer e g
knowing-offer d k e g same may = subst (λ (v : DefMaps). MayOffer v g) (sym same) (record { into = may.into; vis = may.vis; variants = may.variants })

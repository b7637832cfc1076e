-- What a push leaves: its keys put last, and then its values written.
use Rattle.std.proofs.Common.{◌≡◌, ℕ, Bool, true, cond, List, Option, None, Some, refl, sym, ap, ◌∙◌}
use Rattle.std.specs.Str.{bytes_eq}
use Rattle.std.specs.Map.{lookup}
use Rattle.std.specs.Cmp.Lexicographic.{nat_list_eq_equiv}
use Rattle.dm_base.specs.declared.per_ns.Item.{Item}
use Rattle.dm_base.specs.declared.imports.ImportOrDef.{ImportOrDef}
use Rattle.dm_scope.specs.Shadowing.{Reading, writes}
use Rattle.dm_scope.specs.Bindings.{Bound, with_record, bound, pushed, stored, recorded}
use Rattle.dm_scope.specs.PushSteps.{written, with_keys, add_import, set_import, is_new_import, without_keys}
use Rattle.dm_scope.specs.Entries.{is_new, without_new}
use Rattle.dm_scope.proofs.EntryLemmas.{set_value-add_entry, without_new-add_entry}

module _ {D I : Type 0} (r : Reading D I) (same : (i : I) → r.same_import i i ≡ true) where
  records-written : (records : List (I × ImportOrDef)) (import : Option I) (value : ImportOrDef)
      → set_import r.same_import (add_import r.same_import records import value) import value ≡ with_record r records import value
  records-written records None value = refl
  records-written records (Some i) value = set_value-add_entry r.same_import i value same records value

  -- a push that writes: its new keys are put last, and its values written at the keys
  pub written-with_keys : (s : Bound D I) (flag : Bool) (name : List ℕ) (item : Item D I) (import : Option I)
      → writes r (lookup (bytes_eq name) s.items) flag item import ≡ true
      → written r (with_keys r s name item import) name item import ≡ pushed r s flag name item import
  written-with_keys s flag name item import h =
      (λ i. record {
        items = set_value-add_entry bytes_eq name (stored r item import) nat_list_eq_equiv.refl s.items (stored r item import) i;
        records = records-written s.records import (recorded r item) i;
      })
      ∙ ap (λ b. cond b (bound r s name item import) s) (sym h)

  imports-taken_off : (records : List (I × ImportOrDef)) (import : Option I) (value : ImportOrDef)
      → without_new (is_new_import r.same_import records import) (add_import r.same_import records import value) ≡ records
  imports-taken_off records None value = refl
  imports-taken_off records (Some i) value = without_new-add_entry r.same_import i value records

  -- the new keys of a push taken off again
  pub without_keys-with_keys : (s : Bound D I) (name : List ℕ) (item : Item D I) (import : Option I)
      → without_keys (with_keys r s name item import) (is_new bytes_eq s.items name) (is_new_import r.same_import s.records import) ≡ s
  without_keys-with_keys s name item import = λ i. record {
    items = without_new-add_entry bytes_eq name (stored r item import) s.items i;
    records = imports-taken_off s.records import (recorded r item) i;
  }

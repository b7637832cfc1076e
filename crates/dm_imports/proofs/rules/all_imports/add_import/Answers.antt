use Rattle.std.proofs.Common.{◌≡◌, ◌∙◌, ap, cond, refl, sym, true, false, Bool, Option, None}
use Rattle.std.specs.Option.{option_or}
use Rattle.dm_base.specs.declared.per_ns.Namespace.{Namespace}
use Rattle.dm_base.specs.declared.per_ns.Namespace.TheVariants.{Types, Values, Macros}
use Rattle.dm_base.specs.Overlays.{option_or_none}
use Rattle.dm_imports.specs.declared.meaning.Meaning.{Meaning}
use Rattle.dm_imports.specs.declared.rules.meanings.ImportMeanings.{ImportMeanings}
use Rattle.dm_imports.specs.Rules.{import_brings}
use Rattle.dm_imports.specs.Slots.{same_place, same_slot, slot_at}
use Rattle.dm_imports.specs.Tables.{of_tables}
use Rattle.dm_imports.proofs.SlotLemmas.{Written, three-slots}
use Rattle.dm_imports.proofs.rules.all_imports.add_import.Goals as goal

-- what is brought to a place, or nothing elsewhere
placed : (b : Bool) (y o : Option Meaning) → cond b (option_or y o) y ≡ option_or y (cond b o None)
placed true y o = refl
placed false y o = sym (option_or_none y)

pub returns-clause-slots : goal.returns-clause-slots
returns-clause-slots c k x t =
    let d = of_tables c.args.maps.now in
    let i = c.args.import.now in
    let f : Namespace → Option Meaning → Option Meaning = λ s y. option_or y (import_brings d i s) in
    let one : Written c.args.all.now.slots c.put_if_vacant.new.all i.home i.name Types (f Types) = λ l z s. c.in_ok-put_if_vacant.ensures l z s ∙ ap (λ o. cond (same_slot i.home i.name Types l z s) (option_or (slot_at c.args.all.now.slots l z s) o) (slot_at c.args.all.now.slots l z s)) (ap (λ (x : ImportMeanings). x.types) c.meanings_of-found.ensures) in
    let two : Written c.put_if_vacant.new.all c.put_if_vacant-2.new.all i.home i.name Values (f Values) = λ l z s. c.in_ok-put_if_vacant-2.ensures l z s ∙ ap (λ o. cond (same_slot i.home i.name Values l z s) (option_or (slot_at c.put_if_vacant.new.all l z s) o) (slot_at c.put_if_vacant.new.all l z s)) (ap (λ (x : ImportMeanings). x.values) c.meanings_of-found.ensures) in
    let three : Written c.put_if_vacant-2.new.all c.put_if_vacant-3.new.all i.home i.name Macros (f Macros) = λ l z s. c.in_ok-put_if_vacant-3.ensures l z s ∙ ap (λ o. cond (same_slot i.home i.name Macros l z s) (option_or (slot_at c.put_if_vacant-2.new.all l z s) o) (slot_at c.put_if_vacant-2.new.all l z s)) (ap (λ (x : ImportMeanings). x.macros) c.meanings_of-found.ensures) in
    three-slots c.args.all.now.slots c.put_if_vacant.new.all c.put_if_vacant-2.new.all c.put_if_vacant-3.new.all i.home i.name f one two three k x t
    ∙ placed (same_place i.home i.name k x) (slot_at c.args.all.now.slots k x t) (import_brings d i t)

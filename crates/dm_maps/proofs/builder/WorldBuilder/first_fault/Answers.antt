use Rattle.std.proofs.Common.{◌≡◌, ◌++◌, ◌∷◌, [], List, Some, map, rules, subst}
use Rattle.std.specs.List.{AllByRecursion}
use Rattle.dm_maps.specs.declared.check.fault.Holder.TheVariants as holder
use Rattle.dm_maps.specs.TablesHold.{tables_hold}
use Rattle.dm_maps.specs.First.{Held, IsAnswer, IsFirstFault, block_holder, crate_holder, each_from, holders, module_holder, tables_holder}
use Rattle.dm_maps.specs.World.{World}
use Rattle.dm_maps.proofs.FirstLemmas.{AllKnown, first-before, first-behind, none-checked}
use Rattle.dm_maps.proofs.builder.WorldBuilder.first_fault.Goals as goal

abbrev crates : World → List Held
crates w = each_from (crate_holder w.local_maps) 0 w.crate_maps

abbrev blocks : World → List Held
blocks w = map block_holder w.block_maps

abbrev modules : World → List Held
modules w = each_from (module_holder w) 0 w.places

abbrev tables : World → List Held
tables w = tables_holder w ∷ []

pub returns-in-Some-clause-answer : goal.returns-in-Some-clause-answer
returns-in-Some-clause-answer c =
    let w = c.args.self.now in
    let f = c.in-Some.fault in
    let own : each_from (crate_holder c.deref.result.now) 0 c.crates.result.now ≡ crates w = search rules in
    let first = subst (λ hs. IsFirstFault w hs f) own c.in-Some.ensures in
    first-before w (crates w) (blocks w ++ (modules w ++ tables w)) f first

pub returns-in-Some-of_block_maps-clause-answer : goal.returns-in-Some-of_block_maps-clause-answer
returns-in-Some-of_block_maps-clause-answer c =
    let w = c.args.self.now in
    let f = c.in-Some-of_block_maps.fault in
    let own : each_from (crate_holder c.deref.result.now) 0 c.crates.result.now ≡ crates w = search rules in
    let fine = subst (AllByRecursion (AllKnown w)) own c.in_default.ensures in
    let next : map block_holder c.blocks-2.result.now ≡ blocks w = search rules in
    let first = subst (λ hs. IsFirstFault w hs f) next c.in-Some-of_block_maps.ensures in
    first-behind w (crates w) (blocks w ++ (modules w ++ tables w)) (Some f) fine (first-before w (blocks w) (modules w ++ tables w) f first)

pub returns-in-Some-of_modules-clause-answer : goal.returns-in-Some-of_modules-clause-answer
returns-in-Some-of_modules-clause-answer c =
    let w = c.args.self.now in
    let f = c.in-Some-of_modules.fault in
    let own : each_from (crate_holder c.deref.result.now) 0 c.crates.result.now ≡ crates w = search rules in
    let fine = subst (AllByRecursion (AllKnown w)) own c.in_default.ensures in
    let next : map block_holder c.blocks-2.result.now ≡ blocks w = search rules in
    let too = subst (AllByRecursion (AllKnown w)) next c.in_default-of_block_maps.ensures in
    let last : each_from (module_holder w) 0 c.deref-2.result.now ≡ modules w = search rules in
    let first = subst (λ hs. IsFirstFault w hs f) last c.in-Some-of_modules.ensures in
    first-behind w (crates w) (blocks w ++ (modules w ++ tables w)) (Some f) fine
    (first-behind w (blocks w) (modules w ++ tables w) (Some f) too (first-before w (modules w) (tables w) f first))

pub returns-clause-answer : goal.returns-clause-answer
returns-clause-answer c =
    let w = c.args.self.now in
    let r = c.tables_fault.result in
    let own : each_from (crate_holder c.deref.result.now) 0 c.crates.result.now ≡ crates w = search rules in
    let fine = subst (AllByRecursion (AllKnown w)) own c.in_default.ensures in
    let next : map block_holder c.blocks-2.result.now ≡ blocks w = search rules in
    let too = subst (AllByRecursion (AllKnown w)) next c.in_default-of_block_maps.ensures in
    let last : each_from (module_holder w) 0 c.deref-2.result.now ≡ modules w = search rules in
    let also = subst (AllByRecursion (AllKnown w)) last c.in_default-of_modules.ensures in
    let others : tables_hold c.self.inside.item_tables ≡ tables_hold w.item_tables = search rules in
    first-behind w (crates w) (blocks w ++ (modules w ++ tables w)) r fine
    (first-behind w (blocks w) (modules w ++ tables w) r too
    (first-behind w (modules w) (tables w) r also
    (subst (λ ids. IsAnswer w ((holder.Tables, ids) ∷ []) r) others c.tables_fault.ensures)))

pub returns-in-Some-clause-checked : goal.returns-in-Some-clause-checked
returns-in-Some-clause-checked c = none-checked c.args.self.now (holders c.args.self.now) (Some c.in-Some.fault) (returns-in-Some-clause-answer c)

pub returns-in-Some-of_block_maps-clause-checked : goal.returns-in-Some-of_block_maps-clause-checked
returns-in-Some-of_block_maps-clause-checked c = none-checked c.args.self.now (holders c.args.self.now) (Some c.in-Some-of_block_maps.fault) (returns-in-Some-of_block_maps-clause-answer c)

pub returns-in-Some-of_modules-clause-checked : goal.returns-in-Some-of_modules-clause-checked
returns-in-Some-of_modules-clause-checked c = none-checked c.args.self.now (holders c.args.self.now) (Some c.in-Some-of_modules.fault) (returns-in-Some-of_modules-clause-answer c)

pub returns-clause-checked : goal.returns-clause-checked
returns-clause-checked c = none-checked c.args.self.now (holders c.args.self.now) c.tables_fault.result (returns-clause-answer c)

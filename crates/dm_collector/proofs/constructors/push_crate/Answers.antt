use Rattle.std.proofs.Common.{◌≡◌, ◌∙◌, ◌++◌, Option, Some, ap, subst, sym}
use Rattle.std.proofs.lemmas.List.{append-nil}
use Rattle.std.proofs.lemmas.Option.{slice_get-get_or, slice_get_past}
use Rattle.std.specs.Prelude.{OnOk}
use Rattle.crate_items.specs.Modules.{Listing}
use Rattle.dm_collector.specs.Constructors.{of_crate}
use Rattle.dm_collector.proofs.constructors.push_crate.Goals as goal

pub returns-in-None : goal.returns-in-None
returns-in-None c =
    let had = c.args.found.now.items in
    sym (append-nil had)
    ∙ ap (λ (l : Option Listing). had ++ of_crate c.args.world.now c.args.files.now c.args.krate c.args.described.now c.args.places.now l)
    (sym (slice_get_past c.args.lists.now c.args.krate.0 c.in-None.ensures.lookup.3))

pub returns-in-Some : goal.returns-in-Some
returns-in-Some c =
    let had = c.args.found.now.items in
    subst (λ (l : Option Listing). OnOk c.push_listed.result
    (c.push_listed.new.found.items ≡ had ++ of_crate c.args.world.now c.args.files.now c.args.krate c.args.described.now c.args.places.now l))
    (sym (slice_get-get_or c.args.lists.now c.args.krate.0 c.in-Some.list.now c.in-Some.ensures.lookup.3.0 ∙ ap (λ (l : Listing). Some l) (sym c.in-Some.ensures.lookup.1))) c.push_listed.ensures

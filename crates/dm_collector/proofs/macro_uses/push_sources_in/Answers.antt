use Rattle.std.proofs.Common.{◌≡◌, ◌∙◌, ◌++◌, Option, Some, ap, subst, sym}
use Rattle.std.proofs.lemmas.List.{append-nil}
use Rattle.std.proofs.lemmas.Option.{slice_get-get_or, slice_get_past}
use Rattle.std.specs.Prelude.{OnOk}
use Rattle.crate_items.specs.Modules.{Listing}
use Rattle.dm_collector.specs.MacroUses.{sources_if}
use Rattle.dm_collector.proofs.macro_uses.push_sources_in.Goals as goal

pub returns-in-None : goal.returns-in-None
returns-in-None c =
    let had = c.args.sources.now.items in
    sym (append-nil had)
    ∙ ap (λ (l : Option Listing). had ++ sources_if c.args.files.now c.args.rows.now c.args.krate c.args.described.now l) (sym (slice_get_past c.args.lists.now c.args.krate.0 c.in-None.ensures.lookup.3))

pub returns-in-Some : goal.returns-in-Some
returns-in-Some c =
    let had = c.args.sources.now.items in
    subst (λ (l : Option Listing). OnOk c.push_sources.result (c.push_sources.new.sources.items ≡ had ++ sources_if c.args.files.now c.args.rows.now c.args.krate c.args.described.now l))
    (sym (slice_get-get_or c.args.lists.now c.args.krate.0 c.in-Some.list.now c.in-Some.ensures.lookup.3.0 ∙ ap (λ (l : Listing). Some l) (sym c.in-Some.ensures.lookup.1))) c.push_sources.ensures

use Rattle.std.proofs.Common.{◌≡◌, ◌∙◌, ap}
use Rattle.crate_items.specs.CrateAttributes.{crate_attributes}
use Rattle.crate_tables.specs.CrateFillings.{attributes_of}
use Rattle.crate_tables.specs.StandardPreludes.{library}
use Rattle.dm_base.specs.declared.ids.FileId.{FileId}
use Rattle.dm_collector.proofs.macro_uses.library_of.Goals as goal

pub returns : goal.returns
returns c =
    let list = c.args.list.now in
    let files = c.args.files.now in
    let attributes : c.as_slice.result.now ≡ attributes_of files c.args.described.now list =
    c.as_slice.ensures.value ∙ c.in_ok-attributes.ensures ∙ ap (λ (root : FileId). crate_attributes list files root) c.root_file_id.ensures in
    c.library.ensures ∙ (λ i. library (attributes i) (c.dependencies.ensures i))

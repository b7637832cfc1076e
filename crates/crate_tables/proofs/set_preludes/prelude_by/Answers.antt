use Rattle.std.proofs.Common.{◌≡◌, ◌∙◌, ap, None}
use Rattle.crate_items.specs.CrateAttributes.{crate_attributes}
use Rattle.crate_tables.specs.CrateFillings.{attributes_of, importer_of, or_standard}
use Rattle.crate_tables.specs.PreludeImports.{Importer, named_among}
use Rattle.dm_base.specs.declared.ids.FileId.{FileId}
use Rattle.crate_tables.proofs.set_preludes.prelude_by.Goals as goal

pub returns : goal.returns
returns c =
    let list = c.args.list.now in
    let files = c.args.files.now in
    let table = c.args.table.now in
    let attributes : c.as_slice.result.now ≡ attributes_of files c.args.described.now list =
    c.as_slice.ensures.value ∙ c.in_ok-attributes.ensures ∙ ap (λ (root : FileId). crate_attributes list files root) c.root_file_id.ensures in
    let made : record { krate = c.args.krate; edition = c.edition.result; attributes = c.as_slice.result.now; dependencies = c.dependencies.result.now } ≡ importer_of files c.args.krate c.args.described.now list =
    λ i. record { krate = c.args.krate; edition = c.edition.ensures i; attributes = attributes i; dependencies = c.dependencies.ensures i } in
    c.or_standard.ensures
    ∙ ap (or_standard c.args.crates.now (record { krate = c.args.krate; edition = c.edition.result; attributes = c.as_slice.result.now; dependencies = c.dependencies.result.now })) c.in_ok-named.ensures
    ∙ ap (λ (importer : Importer). or_standard c.args.crates.now importer (named_among c.args.crates.now importer list table.leaves None table.uses)) made

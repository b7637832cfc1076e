use Rattle.std.proofs.Common.{◌∙◌}
use Rattle.crate_items.proofs.FileLemmas.{number_by_key}
use Rattle.crate_items.proofs.files.file_table.number_of.Goals as goal

pub returns-clause-exact : goal.returns-clause-exact
returns-clause-exact c = c.get_index_of.ensures.index ∙ number_by_key c.args.path.now c.args.texts.now.entries

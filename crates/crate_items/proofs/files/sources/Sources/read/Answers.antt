use Rattle.std.proofs.Common.{ℕ, List, subst}
use Rattle.crate_items.specs.Sources.{IsSourceOf}
use Rattle.crate_items.proofs.SourceLemmas.{right_more}
use Rattle.crate_items.proofs.files.sources.Sources.read.Goals as goal

pub returns-clause-right : goal.returns-clause-right
returns-clause-right c =
    right_more c.args.edition c.args.options.now c.args.files.now c.args.self.now c.put.new.self c.args.file c.in_ok-source.source c.requires.right c.put.ensures.exact
    (subst (λ (text : List ℕ). IsSourceOf c.args.edition c.args.options.now text c.in_ok-source.source) c.text.ensures c.in_ok-source.ensures)

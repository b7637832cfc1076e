use Rattle.std.proofs.Common.{◌≡◌, ◌<◌, ◌∙◌, List, Option, Some, ap, length, nat_eq, rules}
use Rattle.std.specs.Prelude.{if◌then◌else◌}
use Rattle.crate_items.specs.Sources.{Source, source_at}
use Rattle.crate_items.proofs.SourceLemmas.{set_known}
use Rattle.crate_items.proofs.files.sources.Sources.put.Goals as goal

pub returns-clause-exact : goal.returns-clause-exact
returns-clause-exact c = λ id.
    let within : c.args.file.0 < length c.self.inside.read.items = search rules in
    let same : c.self.inside.read.items ≡ c.args.self.now = search rules in
    set_known c.self.inside.read.items c.args.file.0 c.args.source id.0 within
    ∙ ap (λ (t : List (Option Source)). if nat_eq id.0 c.args.file.0 then Some c.args.source else source_at t id) same

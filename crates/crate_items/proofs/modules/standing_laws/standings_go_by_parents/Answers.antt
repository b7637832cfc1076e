use Rattle.crate_items.proofs.StandingLemmas as lemma
use Rattle.crate_items.proofs.modules.standing_laws.standings_go_by_parents.Goals as goal

pub returns : goal.returns
returns c = lemma.standings_go_by_parents

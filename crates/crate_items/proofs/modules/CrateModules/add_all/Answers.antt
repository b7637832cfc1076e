use Rattle.crate_items.proofs.ModuleLemmas.{adds_more}
use Rattle.crate_items.proofs.modules.CrateModules.add_all.Goals as goal

pub loop-found-preserved : goal.loop-found-preserved
loop-found-preserved c = (
  c.in_ok-add_found.ensures.listing,
  adds_more c.args.self.now c.loop-found.self c.add_found.new.self c.loop-found.yielded c.in-Some.found c.loop-found.invariant.1 c.in_ok-add_found.ensures.adds,
)

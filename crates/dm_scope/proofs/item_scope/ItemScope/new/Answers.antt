use Rattle.std.proofs.Common.{rules, [], sym, subst}
use Rattle.dm_scope.specs.Flags.{no_globs}
use Rattle.dm_scope.specs.Shows.{Shows}
use Rattle.dm_scope.proofs.ClosedLemmas.{Shows-none}
use Rattle.dm_scope.proofs.item_scope.ItemScope.new.Goals as goal

pub returns-clause-empty : goal.returns-clause-empty
returns-clause-empty c = search rules

pub returns-clause-shown : goal.returns-clause-shown
returns-clause-shown c m = subst (λ s. Shows s no_globs m []) (sym (returns-clause-empty c)) (Shows-none m)

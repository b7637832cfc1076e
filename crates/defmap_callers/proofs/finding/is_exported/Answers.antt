use Rattle.std.proofs.Common.{rules}
use Rattle.dm_scope.specs.BindingLookups.{MayAskNames-any}
use Rattle.defmap_callers.specs.Finding.{public_name}
use Rattle.defmap_callers.proofs.NameLemmas.{AsksNames-first}
use Rattle.defmap_callers.proofs.finding.is_exported.Goals as goal

pub names_of-requires : goal.names_of-requires
names_of-requires c = search (rules, MayAskNames-any)

pub returns : goal.returns
returns c = AsksNames-first _ _ _ _ _ c.names_of.ensures.1 public_name (λ k x a h asked. search rules)

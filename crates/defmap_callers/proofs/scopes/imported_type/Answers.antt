use Rattle.std.proofs.Common.{◌∙◌, ap}
use Rattle.dm_base.specs.PerNs.{definition}
use Rattle.defmap_callers.proofs.scopes.imported_type.Goals as goal

pub returns : goal.returns
returns g c = λ fits d chain. c.take_types.ensures ∙ ap definition (c.fully_resolve_import.ensures.types.whole fits d chain)

use Rattle.std.proofs.Common.{◌≡◌, slice_get}
use Rattle.dm_scope.specs.BindingLookups.{names_in}
use Rattle.dm_scope.proofs.bindings.Bindings.name_of.Given as goal

-- the first name is among the entries that are left
abbrev pub invariant-loop-name : goal.invariant-loop-name
invariant-loop-name g l = slice_get (names_in g.D.PartialEq.eq l.def l.entries) 0 ≡ slice_get (names_in g.D.PartialEq.eq l.def l.fn.self.items) 0

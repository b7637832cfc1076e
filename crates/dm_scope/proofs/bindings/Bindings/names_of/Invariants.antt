use Rattle.std.proofs.Common.{Option}
use Rattle.dm_scope.specs.BindingLookups.{names_in, MayAskNames, AsksNames}
use Rattle.dm_scope.proofs.bindings.Bindings.names_of.Given as goal

-- the callback may be called with the entries that are left; and what it answers for them, it answers for all of them
abbrev pub invariant-loop-name : goal.invariant-loop-name
invariant-loop-name g l =
    MayAskNames (goal.F-pre g) (goal.F-step g) (names_in g.D.PartialEq.eq l.def l.entries) l.f
    × ((r : Option _) (last : _) → AsksNames (goal.F-step g) (names_in g.D.PartialEq.eq l.def l.entries) l.f r last → AsksNames (goal.F-step g) (names_in g.D.PartialEq.eq l.def l.fn.self.items) l.fn.f r last)

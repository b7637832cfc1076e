use Rattle.std.proofs.Common.{List, subst, sym}
use Rattle.std.specs.List.{All}
use Rattle.def_diagnostics.specs.OpenModules.{IsClosedAt}
use Rattle.def_diagnostics.proofs.OpenLemmas.{are_open}
use Rattle.dm_base.specs.declared.ids.ModuleId.{ModuleId}
use Rattle.def_diagnostics.proofs.open_modules.close.Goals as goal

pub returns-then-not-branch : goal.returns-then-not-branch
returns-then-not-branch c =
    let inv = c.loop.invariant in
    let own = c.in_ok-pass.ensures in
    let none = c.if-not-branch.true in
    are_open c.args.modules.now.keys c.args.edges.now c.pass.new.modules.keys
    (λ m h. own.kept m (inv.kept m h))
    (own.sound c.args.modules.now.keys inv.sound)
    (subst (λ (ms : List ModuleId). All (IsClosedAt ms) c.args.edges.now) (sym (own.same none)) (own.closed none))

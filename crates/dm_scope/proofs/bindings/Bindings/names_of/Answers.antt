use Rattle.std.proofs.Common.{Some, refl, sym}
use Rattle.dm_scope.proofs.AskLemmas.{AsksNames-answered}
use Rattle.dm_scope.proofs.bindings.Bindings.names_of.Goals as goal

pub returns-in-Some-f : goal.returns-in-Some-f
returns-in-Some-f g c = (
  c.f.new.self,
  c.loop-name.invariant.1 (Some c.in-Some-f.answer) c.f.new.self
      (AsksNames-answered _ g.D.PartialEq.eq c.args.def c.loop-name.entries c.next.new.self (c.in-Some.name.now, c.in-Some.item.now) c.loop-name.f c.f.new.self
      c.in-Some.name c.is_none.result c.in-Some-f.answer c.in-Some.ensures.steps (sym c.if-eq.ensures) refl c.is_none.ensures c.in-Some-f.ensures),
)

use Rattle.std.proofs.Common.{None, Some}
use Rattle.dm_maps.proofs.OutwardLemmas.{fewer-next, asks-answered, asks-ended, asks-on, may-first, may-on}
use Rattle.dm_maps.proofs.world.outwards.ask_outwards.Goals as goal

pub f-requires : goal.f-requires
f-requires g c = may-first c.args.world.now (goal.F-pre g) (goal.F-step g) c.maps.map c.maps.at c.maps.f c.maps.invariant.0

pub returns-in-Some : goal.returns-in-Some
returns-in-Some g c = (
  c.f.new.self,
  c.maps.invariant.1 (Some c.in-Some.answer) c.f.new.self
      (asks-answered c.args.world.now _ c.maps.map c.maps.at c.maps.f c.f.new.self c.in-Some.answer c.in-Some.ensures),
)

pub returns-in-None-next_outwards : goal.returns-in-None-next_outwards
returns-in-None-next_outwards g c = (
  c.f.new.self,
  c.maps.invariant.1 None c.f.new.self
      (asks-ended c.args.world.now c.next_outwards.ensures.lawful _ c.maps.map c.maps.at c.maps.f c.f.new.self c.in-None-next_outwards.ensures.value c.in-None.ensures),
)

pub maps-smaller : goal.maps-smaller
maps-smaller g c = fewer-next c.args.world.now c.next_outwards.ensures.lawful c.maps.map.now c.in-Some-next_outwards.outer.now c.maps.at c.in-Some-next_outwards.container c.in-Some-next_outwards.ensures.value

pub maps-preserved : goal.maps-preserved
maps-preserved g c = (
  may-on c.args.world.now c.next_outwards.ensures.lawful (goal.F-step g) (goal.F-pre g) c.maps.map c.in-Some-next_outwards.outer.now c.maps.at c.in-Some-next_outwards.container c.maps.f c.f.new.self c.in-Some-next_outwards.ensures.value
      (record { own = c.in-Some-next_outwards.ensures.own; facts = c.in-Some-next_outwards.ensures.facts; lies = c.in-Some-next_outwards.ensures.lies })
      c.in-None.ensures c.maps.invariant.0,
  λ r last rest. c.maps.invariant.1 r last
      (asks-on c.args.world.now c.next_outwards.ensures.lawful _ c.maps.map c.in-Some-next_outwards.outer.now c.maps.at c.in-Some-next_outwards.container c.maps.f c.f.new.self last r c.in-Some-next_outwards.ensures.value c.in-None.ensures rest),
)

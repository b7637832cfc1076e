use Rattle.std.proofs.Common.{◌∙◌, List, map, sym, ap, subst, arith}
use Rattle.std.proofs.lemmas.Option.{slice_get_within}
use Rattle.dm_def_map.specs.Maps.{Map}
use Rattle.dm_maps.specs.BuildCrateData.{map_with_shared}
use Rattle.dm_maps.proofs.SharedMaps.{Stays, given-twice, map-entry, given-next, all-given}
use Rattle.dm_maps.proofs.maps.share.hand_out.Goals as goal

pub loop-b-preserved : goal.loop-b-preserved
loop-b-preserved c =
    let k = c.args.krate in
    let new = c.args.new.now in
    let given = map_with_shared k new in
    let before = c.loop-b.invariant in
    let h = c.hand_over_at.ensures in record {
      same = ap (map given) h.maps ∙ map-entry given (given-twice k new) c.loop-b.maps.items _ ∙ before.same;
      done = λ i b less e. subst (λ (ms : List Map). Stays given (given-twice k new) ms b.0) (sym h.maps) (given-next k new c.loop-b.maps.items c.args.own.now c.loop-b.b-index _ before.done i b less e);
      enough = let left = h.left in let l = before.enough in omega arith;
      handles = h.same;
    }

pub returns : goal.returns
returns c =
    all-given c.args.krate c.args.new.now c.args.maps.now.items c.loop-b.maps.items c.args.own.now c.requires.own c.loop-b.invariant.same
    (λ i b e. let h = slice_get_within c.args.own.now i b e in let past = c.loop-b-test.false in c.loop-b.invariant.done i b (omega arith) e)

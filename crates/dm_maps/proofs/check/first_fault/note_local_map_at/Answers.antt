use Rattle.std.proofs.Common.{length, refl, subst, sym}
use Rattle.std.proofs.lemmas.Bool.{ltb-true}
use Rattle.std.proofs.lemmas.Option.{slice_get_read}
use Rattle.std.specs.Option.{option_map_or}
use Rattle.std.specs.Prelude.{[]}
use Rattle.dm_maps.specs.Held.{IsLeastFault}
use Rattle.dm_maps.specs.Holding.{local_holds}
use Rattle.dm_maps.specs.Known.{knows}
use Rattle.dm_maps.proofs.check.first_fault.note_local_map_at.Goals as goal

pub returns-in-Some : goal.returns-in-Some
returns-in-Some c =
    let Ls = c.args.locals.now in
    let k = c.args.k in
    let there = slice_get_read Ls (length Ls) k c.in-Some.local.now refl (ltb-true k (length Ls) (sym c.in-Some.ensures.lookup.0)) c.in-Some.ensures.lookup.1 in
    subst (λ o. IsLeastFault (knows c.args.world.now) (local_holds (option_map_or (λ L. L) o [])) c.note_local_map.result) (sym there) c.note_local_map.ensures

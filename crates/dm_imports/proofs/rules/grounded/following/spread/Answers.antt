use Rattle.std.proofs.Common.{subst, sym}
use Rattle.std.specs.List.{All}
use Rattle.dm_imports.specs.declared.rules.grounded.following.Followed.{Followed}
use Rattle.dm_imports.specs.Following.{Follows, IsReader}
use Rattle.dm_imports.specs.Grounding.{IsWay, slots_of}
use Rattle.dm_imports.specs.Tables.{of_tables}
use Rattle.dm_imports.proofs.PassLemmas.{kept-ways}
use Rattle.dm_imports.proofs.SourceLemmas.{readers-more}
use Rattle.dm_imports.proofs.rules.grounded.following.spread.Goals.{in-Some-get+in_ok-tell_all, in_default-get}
use Rattle.dm_imports.proofs.rules.grounded.following.spread.Goals as goal

pub tell_all-requires-clause-readers : goal.tell_all-requires-clause-readers
tell_all-requires-clause-readers c =
    let d = of_tables c.args.maps.now in
    let all = c.args.readers.now.all.items in
    let l = slots_of c.loop-slot.followed.known in
    subst (All (IsReader d l)) (sym c.as_slice-all.ensures.value) (readers-more d (slots_of c.args.followed.now.known) l c.loop-slot.invariant.more all c.requires.readers)

pub tell_all-requires-clause-sound : goal.tell_all-requires-clause-sound
tell_all-requires-clause-sound c =
    let sound = c.loop-slot.invariant.sound in
    record {
      safe = sound.safe;
      offers = sound.offers;
      named = sound.named;
      ways = kept-ways (IsWay (of_tables c.args.maps.now)) c.loop-slot.followed.fresh.items c.take_of.new.fresh.items c.in_ok-slots.ensures sound.ways;
    }

pub loop-slot-preserved : goal.loop-slot-preserved
loop-slot-preserved c =
    let d = of_tables c.args.maps.now in
    let before = c.loop-slot.invariant in
    let taken : Follows d c.args.followed.now (record c.loop-slot.followed { fresh = c.take_of.new.fresh }) = record {
      sound = record { safe = before.sound.safe; offers = before.sound.offers; named = before.sound.named; ways = kept-ways (IsWay d) c.loop-slot.followed.fresh.items c.take_of.new.fresh.items c.in_ok-slots.ensures before.sound.ways };
      more = before.more;
    } in
    elim c.match-get.branch [
      | in-Some-get+in_ok-tell_all w ↦
          let told = w.in_ok-tell_all.ensures in
          subst (λ (f : Followed). Follows d c.args.followed.now f) (sym w.followed-is) (record { sound = told.sound; more = λ m n s h. told.more m n s (before.more m n s h) })
      | in_default-get w ↦ subst (λ (f : Followed). Follows d c.args.followed.now f) (sym w.followed-is) taken
    ]

use Rattle.std.proofs.Common.{◌∙◌, ◌&&◌, ap, nat_eq, not, sym}
use Rattle.std.specs.List.{list_any}
use Rattle.dm_retry.specs.Index.{Entries, places_of}
use Rattle.dm_retry.proofs.PlaceLemmas.{any-without, found, has-removed, places-set}
use Rattle.dm_retry.proofs.worklist.index.remove_name.Goals as goal

pub returns-in-Some : goal.returns-in-Some
returns-in-Some c =
    let es : Entries = c.args.index.now.entries in
    let ks = c.in-Some.places.now in
    let l = c.remove.new.self in
    has-removed es (c.get_mut.follows.lender l).entries c.args.name.now c.args.k l
    (λ n. ap (λ (e : Entries). places_of e n) (c.get_mut.follows.holds l).0 ∙ places-set es c.args.name.now ks l (sym c.in-Some.ensures.value) n)
    (λ j. ap (list_any (nat_eq j)) c.remove.ensures ∙ any-without ks c.args.k j ∙ ap (λ o. list_any (nat_eq j) (found o) && not (nat_eq j c.args.k)) c.in-Some.ensures.value)

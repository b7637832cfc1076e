use Rattle.std.proofs.Common.{◌∙◌, ◌||◌, ◌++◌, ◌∷◌, [], ap, nat_eq, sym}
use Rattle.std.proofs.lemmas.Result.{err_from_is_err_and}
use Rattle.std.specs.List.{list_any}
use Rattle.dm_retry.specs.Index.{Entries, places_of}
use Rattle.dm_retry.proofs.PlaceLemmas.{any-push, found, has-added, has-kept, on-ok, places-new, places-set}
use Rattle.dm_retry.proofs.worklist.index.add_name.Goals as goal

pub returns-in_ok-pushed-in-Some-clause-ok : goal.returns-in_ok-pushed-in-Some-clause-ok
returns-in_ok-pushed-in-Some-clause-ok c =
    let es : Entries = c.args.index.now.entries in
    let ks = c.in-Some.places.now in
    let l = c.push.new.self in
    has-added es (c.get_mut.follows.lender l).entries c.args.name.now c.args.k l
    (λ n. ap (λ (e : Entries). places_of e n) (c.get_mut.follows.holds l).0 ∙ places-set es c.args.name.now ks l (sym c.in-Some.ensures.value) n)
    (λ j. ap (list_any (nat_eq j)) c.in_ok-pushed-in-Some.ensures.ok ∙ any-push ks c.args.k j ∙ ap (λ o. list_any (nat_eq j) (found o) || nat_eq j c.args.k) c.in-Some.ensures.value)

pub returns-in-None-clause-ok : goal.returns-in-None-clause-ok
returns-in-None-clause-ok c =
    let es : Entries = c.args.index.now.entries in
    let k = c.args.k in
    on-ok c.add_new_name.result
    (λ added. has-added es c.add_new_name.new.index.entries c.args.name.now k (k ∷ [])
    (λ n. ap (λ (e : Entries). places_of e n) (added ∙ ap (λ m. m.entries ++ (c.args.name.now, k ∷ []) ∷ []) c.get_mut.follows.holds-at-none) ∙ places-new es c.args.name.now (k ∷ []) (sym c.in-None.ensures.value) n)
    (λ j. any-push [] k j ∙ ap (λ o. list_any (nat_eq j) (found o) || nat_eq j k) c.in-None.ensures.value))
    c.add_new_name.ensures.ok

pub returns-in_err-pushed-in-Some-clause-err : goal.returns-in_err-pushed-in-Some-clause-err
returns-in_err-pushed-in-Some-clause-err c =
    let es : Entries = c.args.index.now.entries in
    let ks = c.in-Some.places.now in
    let l = c.push.new.self in
    let p = err_from_is_err_and c.from_residual.result c.from_residual.ensures.1 in
    rw p.1 (has-kept es (c.get_mut.follows.lender l).entries c.args.name.now c.args.k l
    (λ n. ap (λ (e : Entries). places_of e n) (c.get_mut.follows.holds l).0 ∙ places-set es c.args.name.now ks l (sym c.in-Some.ensures.value) n)
    (λ j. ap (list_any (nat_eq j)) c.in_err-pushed-in-Some.ensures.err ∙ ap (λ o. list_any (nat_eq j) (found o)) c.in-Some.ensures.value))

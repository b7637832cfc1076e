use Rattle.std.proofs.Common.{◌+◌, Bor, List, Option, drop, subst, sym}
use Rattle.std.proofs.lemmas.List.{drop_all}
use Rattle.dm_base.specs.declared.per_ns.Namespace.{Namespace}
use Rattle.dm_base.specs.Names.{Name}
use Rattle.dm_scope.specs.Sorted.{seen}
use Rattle.dm_imports.specs.declared.meaning.Meaning.{Meaning}
use Rattle.dm_imports.specs.Brought.{HasJoined}
use Rattle.dm_imports.specs.Grounding.{known_from, slots_of}
use Rattle.dm_imports.specs.Tables.{of_tables}
use Rattle.dm_imports.proofs.JoinLemmas.{joined-none, joined-then}
use Rattle.dm_imports.proofs.ListLemmas.{next-of}
use Rattle.dm_imports.proofs.rules.grounded.known_offers.add_names.Goals as goal

pub loop-name-preserved : goal.loop-name-preserved
loop-name-preserved c =
    let d = of_tables c.args.maps.now in
    let g = c.args.glob.now in
    let offer : Name → Namespace → Option Meaning = known_from d (slots_of c.args.known.now) g c.args.source in
    let ns = c.args.names.now in
    let i = c.loop-name.name-index in
    let n = c.name-item.result in
    record {
      offers = λ new rest.
          let here = joined-then d.world g.into offer n.now (seen (drop (i + 1) ns)) c.loop-name.all c.add_name.new.all new c.in_ok-add_name.ensures.joined rest in
          c.loop-name.invariant.offers new
          (subst (λ (xs : List (Bor Name)). HasJoined d.world g.into offer (seen xs) c.loop-name.all new) (sym (next-of ns i n c.loop-name-test.true c.name-item.is)) here);
      named = c.in_ok-add_name.ensures.named;
    }

pub returns-clause-joined : goal.returns-clause-joined
returns-clause-joined c =
    let d = of_tables c.args.maps.now in
    let g = c.args.glob.now in
    let offer : Name → Namespace → Option Meaning = known_from d (slots_of c.args.known.now) g c.args.source in
    let ns = c.args.names.now in
    c.loop-name.invariant.offers c.loop-name.all
    (subst (λ (xs : List (Bor Name)). HasJoined d.world g.into offer (seen xs) c.loop-name.all c.loop-name.all) (sym (drop_all c.loop-name.name-index ns c.loop-name-test.false))
    (joined-none d.world g.into offer c.loop-name.all))

use Rattle.std.proofs.Common.{Bor, None, subst, take}
use Rattle.std.proofs.lemmas.List.{take_all}
use Rattle.std.proofs.lemmas.List.Elements.{All-more, All-weaker}
use Rattle.std.specs.List.{All}
use Rattle.dm_base.specs.Names.{Name}
use Rattle.dm_imports.specs.Grounding.{IsNameSettled, slots_of}
use Rattle.dm_imports.specs.Tables.{of_tables}
use Rattle.dm_imports.proofs.ListedLemmas.{all-settled-more, more-then, name-ways}
use Rattle.dm_imports.proofs.rules.grounded.ways.add_names.Goals as goal

pub add_name-requires : goal.add_name-requires
add_name-requires c = name-ways (of_tables c.args.maps.now) c.args.m c.requires c.name-item.result.now

pub loop-name-preserved : goal.loop-name-preserved
loop-name-preserved c =
    let d = of_tables c.args.maps.now in
    let n = c.name-item.result in
    let ns = c.args.names.now in
    let m = c.args.m in
    let k = c.loop-name.known in
    let l = c.add_name.new.known in
    let vs = c.loop-name.ways.items in
    let ws = c.add_name.new.ways.items in
    let more = c.in_ok-add_name.ensures.more in
    let P : Bor Name → Type 0 = IsNameSettled d (slots_of l) ws m in
    let before = All-weaker (IsNameSettled d (slots_of k) vs m) P (λ x. all-settled-more d k l vs ws more m x.now None) (take c.loop-name.name-index ns) c.loop-name.invariant.settled in
    record {
      more = more-then d c.args.known.now k l c.args.ways.now.items vs ws c.loop-name.invariant.more more;
      settled = All-more P ns c.loop-name.name-index n c.loop-name-test.true before (subst P c.name-item.is c.in_ok-add_name.ensures.settled);
    }

pub returns-clause-settled : goal.returns-clause-settled
returns-clause-settled c =
    let d = of_tables c.args.maps.now in
    subst (All (IsNameSettled d (slots_of c.loop-name.known) c.loop-name.ways.items c.args.m)) (take_all c.loop-name.name-index c.args.names.now c.loop-name-test.false) c.loop-name.invariant.settled

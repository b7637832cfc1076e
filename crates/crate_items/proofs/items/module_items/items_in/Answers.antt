use Rattle.std.proofs.Common.{◌≡◌, ◌<◌, ◌≤◌, ◌+◌, ◌++◌, ◌∷◌, ◌∙◌, None, [], add-one, length, map, drop, drop-cons, get_or, ap, arith, rules, refl, subst, sym}
use Rattle.std.proofs.lemmas.List.{append_assoc, append-nil}
use Rattle.crate_items.specs.ModuleItems.{AreItemsIn, row_of}
use Rattle.crate_items.specs.declared.items.module_items.ItemHome.{ItemHome}
use Rattle.crate_items.proofs.ItemLemmas.{all_below, none_left, one_before}
use Rattle.crate_items.proofs.items.module_items.items_in.Goals as goal

pub loop-number-preserved : goal.loop-number-preserved
loop-number-preserved c =
    let table = c.args.list.now.sources in
    let hs = c.args.homes.now in
    let n = c.loop-number.number in
    let no_home : ItemHome = record { file = record { 0 = 0 }; item = None } in
    let h : ItemHome = get_or hs n no_home in
    let there : n < length hs = search rules in
    let next : drop n hs ≡ h ∷ drop (n + 1) hs = rw (add-one, drop-cons hs n no_home there) refl in
    let added = c.in_ok-push_home.ensures.rows in
    let own = map (row_of n h) added.0 in
    record {
      rows = λ rest more.
          subst (AreItemsIn table 0 hs) (sym (append_assoc c.loop-number.rows.items own rest) ∙ ap (λ rows. rows ++ rest) (sym added.2))
          (c.loop-number.invariant.rows (own ++ rest) (one_before table n hs h added.0 rest next added.1 more));
      tables = c.in_ok-push_home.ensures.tables;
    }

pub returns : goal.returns
returns c =
    let table = c.args.list.now.sources in
    let hs = c.args.homes.now in
    let all : length hs ≤ c.loop-number.number = search rules in
    let whole = c.loop-number.invariant.rows [] (none_left table c.loop-number.number hs all) in
    let exact = subst (AreItemsIn table 0 hs) (append-nil c.loop-number.rows.items) whole in
    let counted : 0 + length hs ≡ length hs = omega arith in
    record { exact = exact; within = all_below table (length hs) 0 hs c.loop-number.rows.items counted exact }

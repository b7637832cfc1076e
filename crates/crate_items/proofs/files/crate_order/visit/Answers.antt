use Rattle.std.proofs.Common.{◌<◌, inr, arith, ap, subst, sym, ◌∙◌}
use Rattle.std.proofs.lemmas.List.{get_or_push, length_push}
use Rattle.crate_items.specs.CrateGraphs.{rows}
use Rattle.crate_items.specs.OrderSearch.{HasBegun, IsSearch, left_of}
use Rattle.crate_items.proofs.SearchLemmas.{IsSearch-opened}
use Rattle.crate_items.proofs.StepLemmas.{off-path}
use Rattle.crate_items.proofs.files.crate_order.visit.Goals as goal

pub path-init : goal.path-init
path-init c =
    let rs = rows c.args.crates.now in
    let s = c.args.search.now in
    let root = c.args.root.0 in
    let entered = c.in_ok-enter.ensures in
    let undone : 0 < left_of s root = omega (arith, c.left.ensures, c.if-left-eq0.false) in
    record {
      kept = subst (IsSearch rs) (sym entered)
          (IsSearch-opened rs s c.requires.kept root c.requires.known undone (off-path rs s root c.requires.kept c.requires.idle)
          (λ i end. absurd (omega (arith, end, c.requires.idle))));
      done = λ a z. ap (λ t. left_of t a) entered ∙ z;
      begun = subst (λ t. HasBegun t root) (sym entered) (inr (omega (arith, length_push s.path root), get_or_push s.path root 0 0 c.requires.idle));
    }

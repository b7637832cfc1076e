use Rattle.std.proofs.Common.{◌≡◌, rules}
use Rattle.std.proofs.lemmas.List.Sorted.{answers_always}
use Rattle.def_diagnostics.specs.Lines.{place_of}
use Rattle.def_diagnostics.proofs.lines.in_order.Goals as goal

pub returns : goal.returns
returns c = record {
  each_once = c.in_ok-sort_by_key.ensures.permutation;
  in_order = c.in_ok-sort_by_key.ensures.sorted place_of (answers_always _ _ _ (λ f a r g h. search rules));
  stable = c.in_ok-sort_by_key.ensures.stable place_of (answers_always _ _ _ (λ f a r g h. search rules));
}

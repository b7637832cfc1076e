-- Merging answers, part by part, and the laws of that.
use Rattle.std.specs.Prelude.{◌≡◌, ◌||◌, Bool, true, false, refl}
use Rattle.std.proofs.Math.Bool.{or_assoc, or-false}
use Rattle.dm_base.specs.Overlays.{greatest_associative, greatest_none, greatest_same, over_associative, over_nothing, over_same}
use Rattle.hir_def_map.specs.declared.path_resolution.result.ReachedFixedPoint.{ReachedFixedPoint}
use Rattle.hir_def_map.specs.declared.path_resolution.result.ReachedFixedPoint.TheVariants.{Yes, No}
use Rattle.hir_def_map.specs.declared.path_resolution.result.ResolvePathResult.{ResolvePathResult}
use Rattle.hir_def_map.specs.declared.path_resolution.result.ResolvePathResultPrefixInfo.{ResolvePathResultPrefixInfo}
use Rattle.hir_def_map.specs.Answers.{no_flags, nothing_no, either_yes, either_flags, over_answer}

pub yes_associative : (x y z : ReachedFixedPoint) → either_yes (either_yes x y) z ≡ either_yes x (either_yes y z)
yes_associative Yes y z = refl
yes_associative No y z = refl

pub yes_over_no : (x : ReachedFixedPoint) → either_yes x No ≡ x
yes_over_no Yes = refl
yes_over_no No = refl

pub yes_same : (x : ReachedFixedPoint) → either_yes x x ≡ x
yes_same Yes = refl
yes_same No = refl

or_same : (x : Bool) → (x || x) ≡ x
or_same true = refl
or_same false = refl

pub flags_associative : (x y z : ResolvePathResultPrefixInfo) → either_flags (either_flags x y) z ≡ either_flags x (either_flags y z)
flags_associative x y z = λ i. record {
  differing_crate = or_assoc x.differing_crate y.differing_crate z.differing_crate i;
  enum_variant = or_assoc x.enum_variant y.enum_variant z.enum_variant i;
}

pub flags_over_none : (x : ResolvePathResultPrefixInfo) → either_flags x no_flags ≡ x
flags_over_none x = λ i. record { differing_crate = or-false x.differing_crate i; enum_variant = or-false x.enum_variant i }

pub flags_same : (x : ResolvePathResultPrefixInfo) → either_flags x x ≡ x
flags_same x = λ i. record { differing_crate = or_same x.differing_crate i; enum_variant = or_same x.enum_variant i }

pub answers_associative : (x y z : ResolvePathResult) → over_answer (over_answer x y) z ≡ over_answer x (over_answer y z)
answers_associative x y z = λ i. record {
  resolved_def = over_associative x.resolved_def y.resolved_def z.resolved_def i;
  segment_index = greatest_associative x.segment_index y.segment_index z.segment_index i;
  reached_fixedpoint = yes_associative x.reached_fixedpoint y.reached_fixedpoint z.reached_fixedpoint i;
  prefix_info = flags_associative x.prefix_info y.prefix_info z.prefix_info i;
}

pub answer_over_nothing : (x : ResolvePathResult) → over_answer x nothing_no ≡ x
answer_over_nothing x = λ i. record {
  resolved_def = over_nothing x.resolved_def i;
  segment_index = greatest_none x.segment_index i;
  reached_fixedpoint = yes_over_no x.reached_fixedpoint i;
  prefix_info = flags_over_none x.prefix_info i;
}

pub answer_same : (x : ResolvePathResult) → over_answer x x ≡ x
answer_same x = λ i. record {
  resolved_def = over_same x.resolved_def i;
  segment_index = greatest_same x.segment_index i;
  reached_fixedpoint = yes_same x.reached_fixedpoint i;
  prefix_info = flags_same x.prefix_info i;
}

use Rattle.std.proofs.Common.{◌≡◌, ◌∙◌, ◌≤◌, [], ap, arith, length}
use Rattle.std.proofs.lemmas.Grind.{common_steps}
use Rattle.std.proofs.lemmas.List.{take_all}
use Rattle.std.specs.Cmp.Lexicographic.{nat_list_eq_equiv}
use Rattle.indexmap.specs.IndexSet.{insert_all, insert_key}
use Rattle.indexmap.proofs.SetLemmas.{set_all_distinct}
use Rattle.dm_base.specs.Names.{same_name}
use Rattle.dm_def_map.proofs.crate_data.unstable_features.copy_enabled.Goals as goal

pub loop-feature-preserved : goal.loop-feature-preserved
loop-feature-preserved c =
    let added : c.insert.new.self.keys ≡ insert_key same_name c.loop-feature.copies.keys c.in_ok-copy.copy = c.in_ok-insert.ensures.keys in
    grind (arith, common_steps, added)

-- no feature stands twice among those that were there, so that each is added
pub returns : goal.returns
returns c =
    let all : length c.as_slice-features.result.now ≤ c.loop-feature.feature-index = omega (arith, c.loop-feature-test.false) in
    c.loop-feature.invariant
    ∙ ap (insert_all same_name []) (take_all c.loop-feature.feature-index c.as_slice-features.result.now all ∙ c.as_slice-features.ensures.keys)
    ∙ set_all_distinct nat_list_eq_equiv [] c.args.enabled.now.keys c.as_slice-features.ensures.unique

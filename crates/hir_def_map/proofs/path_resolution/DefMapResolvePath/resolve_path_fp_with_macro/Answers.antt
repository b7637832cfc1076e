use Rattle.std.proofs.Common.{◌∙◌, ap}
use Rattle.dm_base.specs.declared.mod_path.PathKind.{PathKind}
use Rattle.hir_def_map.specs.declared.path_resolution.question.Ask.{Ask}
use Rattle.hir_def_map.specs.Paths.{answer, asked}
use Rattle.hir_def_map.proofs.CallLemmas.{answer_resolves}
use Rattle.hir_def_map.proofs.path_resolution.DefMapResolvePath.resolve_path_fp_with_macro.Goals as goal

pub returns : goal.returns
unfolding answer
returns c =
    let w = c.args.world.now in
    let L = c.args.local.now in
    let q = λ (k : PathKind). asked c.args.original_module c.args.mode c.args.shadow c.args.expected_macro_subns k in
    answer_resolves w L (q c.args.path.now.kind) c.args.path.now.segments c.answer_outwards.result
    (c.answer_outwards.ensures.value
    ∙ ap (λ (a : Ask). answer w L a c.segments.result.now) c.new-ask.ensures
    ∙ (λ i. answer w L (q (c.kind.ensures i)) (c.segments.ensures i)))
    c.answer_outwards.ensures.known

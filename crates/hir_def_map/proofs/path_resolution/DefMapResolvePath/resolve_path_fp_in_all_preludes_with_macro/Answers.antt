use Rattle.std.proofs.Common.{◌∙◌, map, ap}
use Rattle.dm_base.specs.declared.mod_path.PathKind.{PathKind}
use Rattle.dm_maps.specs.Readings.{setting_of, read}
use Rattle.hir_def_map.specs.Paths.{prelude_answer, asked, single}
use Rattle.hir_def_map.specs.declared.path_resolution.place.Place.TheVariants.{Preludes}
use Rattle.hir_def_map.proofs.CallLemmas.{preludes_resolve}
use Rattle.hir_def_map.proofs.path_resolution.DefMapResolvePath.resolve_path_fp_in_all_preludes_with_macro.Goals as goal

pub returns : goal.returns
unfolding prelude_answer
returns c =
    let w = c.args.world.now in
    let L = c.args.local.now in
    let m = c.args.original_module in
    let q = λ (k : PathKind). asked m c.args.mode c.args.shadow c.args.expected_macro_subns k in
    preludes_resolve w L (q c.args.path.now.kind) c.args.path.now.segments c.single.result c.args.self.now.id
    (c.single.ensures.value ∙ (λ i. single (setting_of w) ((c.new-ask.ensures ∙ ap q c.kind.ensures) i) (map (read w L) (c.segments.ensures i)) (Preludes (c.id.ensures i) m)))
    c.single.ensures.known

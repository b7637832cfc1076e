use Rattle.std.proofs.Common.{◌∙◌, map, ap}
use Rattle.dm_base.specs.declared.mod_path.PathKind.{PathKind}
use Rattle.dm_maps.specs.Readings.{setting_of, read}
use Rattle.hir_def_map.specs.Paths.{answer_alone, asked, single}
use Rattle.hir_def_map.specs.declared.path_resolution.place.Place.TheVariants.{In}
use Rattle.hir_def_map.proofs.CallLemmas.{alone_resolves}
use Rattle.hir_def_map.proofs.path_resolution.DefMapResolvePath.resolve_path_fp_with_macro_single.Goals as goal

pub returns : goal.returns
unfolding answer_alone
returns c =
    let w = c.args.world.now in
    let L = c.args.local.now in
    let m = c.args.original_module in
    let q = λ (k : PathKind). asked m c.args.mode c.args.shadow c.args.expected_macro_subns k in
    alone_resolves w L (q c.args.path.now.kind) c.args.path.now.segments c.single.result
    (c.single.ensures.value ∙ (λ i. single (setting_of w) ((c.new-ask.ensures ∙ ap q c.kind.ensures) i) (map (read w L) (c.segments.ensures i)) (In m)))
    c.single.ensures.known

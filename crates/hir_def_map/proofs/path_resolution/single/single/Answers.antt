use Rattle.std.proofs.Common.{◌∙◌, ap, sym, map}
use Rattle.dm_base.specs.declared.mod_path.PathKind.TheVariants as kind
use Rattle.dm_maps.specs.Readings.{setting_of, read}
use Rattle.hir_def_map.specs.Paths.{from_root}
use Rattle.hir_def_map.proofs.LayerLemmas.{single-kind}
use Rattle.hir_def_map.proofs.path_resolution.single.single.Goals as goal

pub returns-in-In-Crate-clause-value : goal.returns-in-In-Crate-clause-value
unfolding setting_of
returns-in-In-Crate-clause-value c =
    let w = c.args.world.now in
    let S = map (read w c.args.local.now) c.args.segments.now in
    c.from_root.ensures.value c.args.local.now ∙ ap (λ k. from_root (setting_of w) c.in-In-Crate.m k S) c.krate.ensures
    ∙ sym (single-kind (setting_of w) c.args.ask.now S c.args.place c.in-In-Crate.m kind.Crate c.in-In-Crate.is-0 c.in-In-Crate.is-1)

pub returns-in-In-DollarCrate-clause-value : goal.returns-in-In-DollarCrate-clause-value
returns-in-In-DollarCrate-clause-value c =
    let w = c.args.world.now in
    let S = map (read w c.args.local.now) c.args.segments.now in
    c.from_root-in-In-DollarCrate.ensures.value c.args.local.now
    ∙ sym (single-kind (setting_of w) c.args.ask.now S c.args.place c.in-In-DollarCrate.m (kind.DollarCrate c.in-In-DollarCrate.krate) c.in-In-DollarCrate.is-0 c.in-In-DollarCrate.is-1)

pub returns-in-In-Super-clause-value : goal.returns-in-In-Super-clause-value
unfolding setting_of
returns-in-In-Super-clause-value c =
    let w = c.args.world.now in
    let S = map (read w c.args.local.now) c.args.segments.now in
    c.from_super.ensures.value c.args.local.now
    ∙ sym (single-kind (setting_of w) c.args.ask.now S c.args.place c.in-In-Super.m (kind.Super c.in-In-Super.k) c.in-In-Super.is-0 c.in-In-Super.is-1)

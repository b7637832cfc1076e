use Rattle.std.proofs.Common.{None, Some, subst, sym}
use Rattle.dm_base.specs.declared.ids.ModuleId.{ModuleId}
use Rattle.dm_base.specs.declared.imports.ImportId.{ImportId}
use Rattle.dm_base.specs.declared.visibility.Visibility.{Visibility}
use Rattle.dm_base.specs.Tree.{IsKnown}
use Rattle.dm_base.specs.Visibility.{NamesKnown}
use Rattle.dm_maps.specs.Holding.{path_holds, vis_holds}
use Rattle.dm_def_map.specs.declared.modules.modes.BuiltinShadowMode.TheVariants as shadow
use Rattle.dm_maps.specs.GoesOn.{HasTraitMore}
use Rattle.dm_maps.specs.Trees.{tree_of}
use Rattle.hir_def_map.specs.declared.path_resolution.result.ResolveMode.TheVariants as mode
use Rattle.hir_def_map.specs.Paths.{asked}
use Rattle.dm_maps.specs.KnownLaws.{knows-right}
use Rattle.dm_retry.proofs.ChangeLemmas.{trait-others, trait-own}
use Rattle.dm_retry.proofs.KnownLemmas.{home-known, vis-known}
use Rattle.dm_retry.proofs.unnamed.push_trait.Goals as goal

pub is_new_trait-requires-clause-home : goal.is_new_trait-requires-clause-home
is_new_trait-requires-clause-home c =
    subst (λ (m : ModuleId). IsKnown (tree_of c.args.world.now) m) (sym c.origin-m.ensures) (home-known c.args.world.now c.args.pending.now c.requires.parts)

pub is_new_trait-requires-clause-named : goal.is_new_trait-requires-clause-named
is_new_trait-requires-clause-named c =
    subst (λ (v : Visibility). NamesKnown (tree_of c.args.world.now) v) (sym c.visibility-vis.ensures) (vis-known c.args.world.now c.args.pending.now c.requires.parts)

pub returns-clause-others : goal.returns-clause-others
returns-clause-others c =
    let w = c.args.world.now in
    let v = c.push_unnamed_trait.new.self in
    let t = c.in-Some.tr in
    let e = c.in_ok-push_unnamed_trait.ensures in
    let scoped = subst (λ (z : ModuleId × Visibility × ImportId). HasTraitMore w v z.0 t z.1 (Some z.2)) (λ k. (c.origin-m.ensures k, c.visibility-vis.ensures k, c.import.ensures k)) e.scopes in
    trait-others w v c.args.pending.now c.args.items t (λ w v L K m kind S. c.answers_alike.ensures w v L K (asked m mode.Import shadow.Module None kind) S) e.stays_known e.stays scoped

pub returns-clause-own : goal.returns-clause-own
returns-clause-own c =
    let w = c.args.world.now in
    let p = c.args.pending.now in
    let v = c.push_unnamed_trait.new.self in
    let t = c.in-Some.tr in
    let e = c.in_ok-push_unnamed_trait.ensures in
    let scoped = subst (λ (z : ModuleId × Visibility × ImportId). HasTraitMore w v z.0 t z.1 (Some z.2)) (λ k. (c.origin-m.ensures k, c.visibility-vis.ensures k, c.import.ensures k)) e.scopes in
    trait-own w v p c.args.items t (λ w v L K m kind S. c.answers_alike.ensures w v L K (asked m mode.Import shadow.Module None kind) S) e.stays_known e.stays scoped
    (knows-right w (path_holds p.path.kind) (vis_holds p.visibility) c.requires.parts.1.1) (sym c.in-Some.ensures)

use Rattle.std.proofs.Common.{◌≡◌, ◌∙◌, Bool, ap, not, sym, subst}
use Rattle.dm_base.specs.declared.per_ns.PerNs.{PerNs}
use Rattle.dm_base.specs.PerNs.{over}
use Rattle.dm_maps.specs.Holding.{res_holds}
use Rattle.dm_maps.specs.Known.{KnowsAll}
use Rattle.dm_maps.specs.Readings.{read, setting_of}
use Rattle.hir_def_map.specs.Paths.{builtins_of, builtins_or_scope, fitting}
use Rattle.hir_def_map.specs.KnownLaws.{over-known}
use Rattle.hir_def_map.proofs.path_resolution.first_segment.over_scope.Goals as goal

pub returns-then-builtins_first-clause-value : goal.returns-then-builtins_first-clause-value
unfolding read
returns-then-builtins_first-clause-value c = λ L.
    let w = setting_of c.args.world.now in
    let s = read c.args.world.now L c.args.segment.now in
    let m = c.args.m in
    let own = c.fitting-own.ensures.value ∙ ap (fitting w c.args.ask.now.expected) c.requires.bound in
    let laid : Bool → PerNs = λ b. over (over c.args.found (builtins_or_scope w c.args.ask.now m s b)) (builtins_or_scope w c.args.ask.now m s (not b)) in
    c.or.ensures
    ∙ (λ i. over (c.over_builtins.ensures.value L i) (own i))
    ∙ sym (ap laid c.if-builtins_first.true)

pub returns-else-builtins_first-clause-value : goal.returns-else-builtins_first-clause-value
unfolding read
returns-else-builtins_first-clause-value c = λ L.
    let w = setting_of c.args.world.now in
    let s = read c.args.world.now L c.args.segment.now in
    let m = c.args.m in
    let own = c.fitting-own.ensures.value ∙ ap (fitting w c.args.ask.now.expected) c.requires.bound in
    let laid : Bool → PerNs = λ b. over (over c.args.found (builtins_or_scope w c.args.ask.now m s b)) (builtins_or_scope w c.args.ask.now m s (not b)) in
    c.over_builtins-else-builtins_first.ensures.value L
    ∙ ap (λ x. over x (builtins_of w m s)) (c.or-else-builtins_first.ensures ∙ ap (over c.args.found) own)
    ∙ sym (ap laid c.if-builtins_first.false)

pub returns-then-builtins_first-clause-known : goal.returns-then-builtins_first-clause-known
returns-then-builtins_first-clause-known c =
    let P : PerNs → Type 0 = λ x. KnowsAll c.args.world.now (res_holds x) in
    subst P (sym c.or.ensures) (over-known c.args.world.now c.over_builtins.result c.fitting-own.result c.over_builtins.ensures.known c.fitting-own.ensures.known)

pub over_builtins-requires-else-builtins_first-clause-known : goal.over_builtins-requires-else-builtins_first-clause-known
over_builtins-requires-else-builtins_first-clause-known c =
    let P : PerNs → Type 0 = λ x. KnowsAll c.args.world.now (res_holds x) in
    subst P (sym c.or-else-builtins_first.ensures) (over-known c.args.world.now c.args.found c.fitting-own.result c.requires.known c.fitting-own.ensures.known)

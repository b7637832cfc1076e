use Rattle.std.proofs.Common.{◌∙◌, sym, ap, map}
use Rattle.std.specs.Option.{option_map, option_copied, option_and_then}
use Rattle.smallvec.specs.SmallVec.{SmallVec}
use Rattle.dm_scope.specs.declared.derives.DeriveMacroInvocation.{DeriveMacroInvocation}
use Rattle.dm_scope.specs.Derives.{derive_of, find_derive, derive_at}
use Rattle.dm_scope.specs.Rare.{RareScope}
use Rattle.dm_scope.proofs.DeriveLemmas.{find-derive_of, lookup-derives_of}
use Rattle.dm_scope.proofs.rare.Rare.first_derive.Goals as goal

pub returns-in_err-derives : goal.returns-in_err-derives
returns-in_err-derives c =
    ap (λ o. option_map derive_of (option_copied o)) c.from_residual-in_err-derives.ensures
    ∙ sym (ap (option_and_then (find_derive c.args.attr_id)) (lookup-derives_of c.args.adt c.in_ok-tables.tables.now.derive_macros.entries
    ∙ ap (option_map (λ (v : SmallVec DeriveMacroInvocation). map derive_of v.items)) (sym c.in_err-derives.ensures.value)))
    ∙ ap (λ (s : RareScope). derive_at c.args.adt c.args.attr_id s.derive_macros) c.in_ok-tables.ensures

pub returns : goal.returns
returns c =
    ap (option_map derive_of) c.find_derive.ensures
    ∙ find-derive_of c.args.attr_id c.as_slice.result.now
    ∙ ap (λ ds. find_derive c.args.attr_id (map derive_of ds)) c.as_slice.ensures
    ∙ sym (ap (option_and_then (find_derive c.args.attr_id)) (lookup-derives_of c.args.adt c.in_ok-tables.tables.now.derive_macros.entries
    ∙ ap (option_map (λ (v : SmallVec DeriveMacroInvocation). map derive_of v.items)) (sym c.in_ok-derives.ensures.value)))
    ∙ ap (λ (s : RareScope). derive_at c.args.adt c.args.attr_id s.derive_macros) c.in_ok-tables.ensures

use Rattle.std.proofs.Common.{◌≡◌, ◌∙◌, ◌++◌, false, true≢false, is_some, List, ap, map, subst, sym}
use Rattle.std.specs.List.{Contains}
use Rattle.dm_base.specs.Names.{Name}
use Rattle.dm_maps.specs.Known.{knows}
use Rattle.dm_maps.specs.declared.check.held.HeldId.TheVariants as held
use Rattle.dm_scope.specs.Scope.{Scope}
use Rattle.dm_scope.specs.Sorted.{AreNames, deref_entry, names_of, seen}
use Rattle.dm_imports.proofs.ListLemmas.{unknown-scope}
use Rattle.dm_imports.proofs.rules.source_names.module_names.Goals as goal

pub returns-in_default-clause-names : goal.returns-in_default-clause-names
returns-in_default-clause-names c = λ yes. absurd (true≢false (sym yes ∙ sym c.scope_of.ensures.there ∙ ap is_some c.in_default.is))

pub returns-in_default-clause-listed : goal.returns-in_default-clause-listed
returns-in_default-clause-listed c = λ n has.
    let unknown : knows c.args.world.now (held.Module c.args.m) ≡ false = sym c.scope_of.ensures.there ∙ ap is_some c.in_default.is in
    let none = subst (λ (s : Scope). Contains (names_of s) n) (unknown-scope c.args.world.now c.args.m unknown) has in
    subst (λ ns. Contains (seen ns) n) (sym c.new-names.ensures.items) none

pub returns-clause-none : goal.returns-clause-none
returns-clause-none c = λ no. absurd (true≢false (sym (ap is_some c.in-Some.is) ∙ c.scope_of.ensures.there ∙ no))

pub returns-clause-names : goal.returns-clause-names
returns-clause-names c = λ yes.
    let same = c.in_ok-add_names.ensures ∙ (λ i. seen (c.new-names.ensures.items i) ++ map (λ e. e.0) (map deref_entry (c.as_slice.ensures.value i))) in
    subst (λ (s : Scope). AreNames (seen c.add_names.new.names.items) s) c.in-Some.ensures.own
    (subst (λ (l : List Name). AreNames l c.in-Some.scope.now) (sym same) c.in_ok-entries.ensures.0)

pub returns-clause-listed : goal.returns-clause-listed
returns-clause-listed c = λ n has.
    let own = subst (λ (s : Scope). Contains (names_of s) n) (sym c.in-Some.ensures.own) has in
    let listed = (c.in_ok-entries.ensures.0.same n).1 own in
    let same = c.in_ok-add_names.ensures ∙ (λ i. seen (c.new-names.ensures.items i) ++ map (λ e. e.0) (map deref_entry (c.as_slice.ensures.value i))) in
    subst (λ (l : List Name). Contains l n) (sym same) listed

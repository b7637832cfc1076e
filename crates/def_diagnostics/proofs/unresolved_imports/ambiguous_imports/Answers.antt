use Rattle.std.proofs.Common.{rules, ◌≡◌, ◌∙◌, ◌++◌, ap, inl, inr, length, List, ℕ, sym}
use Rattle.std.proofs.lemmas.List.{append-nil}
use Rattle.std.specs.Prelude.{◌⊎◌}
use Rattle.def_diagnostics.specs.UnresolvedImports.{ambiguous_imports}
use Rattle.def_diagnostics.specs.declared.diagnostic.Diagnostic.{Diagnostic}
use Rattle.def_diagnostics.proofs.AmbiguousLemmas.{more-told, none-left}
use Rattle.def_diagnostics.proofs.unresolved_imports.ambiguous_imports.Goals as goal

pub loop-meant-init : goal.loop-meant-init
loop-meant-init c = search rules

pub loop-meant-preserved : goal.loop-meant-preserved
loop-meant-preserved c =
    let uses = c.args.uses.now in
    let next = c.next.new.self in
    let was = c.loop-meant.meant-iterator in
    ap (λ (l : List Diagnostic). l ++ ambiguous_imports uses next.a.rest.now next.b.rest.now) c.in_ok-push_ambiguous.ensures
    ∙ more-told uses c.in-Some.meant.now c.in-Some.import.now next.a.rest.now was.a.rest.now next.b.rest.now was.b.rest.now c.loop-meant.found.items
    (search rules) (search rules)
    ∙ c.loop-meant.invariant

pub returns : goal.returns
returns c =
    let uses = c.args.uses.now in
    let was = c.loop-meant.meant-iterator in
    let had = c.loop-meant.found.items in
    let over : (length was.a.rest.now ≡ 0) ⊎ (length was.b.rest.now ≡ 0) =
    elim c.in-None.ensures.steps as (λ x. (length was.a.rest.now ≡ 0) ⊎ (length was.b.rest.now ≡ 0)) [
      | inl x ↦ inl x.1.0
      | inr x ↦ inr x.1.0
    ] in
    sym (append-nil had)
    ∙ ap (λ (l : List Diagnostic). had ++ l) (sym (none-left uses was.a.rest.now was.b.rest.now over))
    ∙ c.loop-meant.invariant

use Rattle.std.proofs.Common.{◌≡◌, ◌∙◌, None, Some, ap, cond, refl, subst, sym, true≢false}
use Rattle.std.specs.Prelude.{Err}
use Rattle.dm_maps.specs.Faults.{Answers, child_fault}
use Rattle.dm_maps.specs.declared.build_fault.BuildFault.TheVariants.{TakenChild}
use Rattle.crate_tables.proofs.ChildLemmas.{added-free, refused-short, refused-taken}
use Rattle.dm_base.specs.declared.ids.ModuleId.{ModuleId}
use Rattle.dm_maps.specs.Build.{next_module, with_module}
use Rattle.crate_tables.proofs.crate_maps.add_child.Goals as goal

pub returns-in-Ok-clause-world : goal.returns-in-Ok-clause-world
returns-in-Ok-clause-world c =
    let free = added-free c.args.builder.now c.args.parent c.args.name c.in-Ok.m c.in-Ok.ensures.fault in
    c.in-Ok.ensures.ok
    ∙ ap (λ b. cond b c.args.builder.now (with_module c.args.builder.now c.args.parent c.args.name c.args.origin c.args.visibility)) (sym free)

pub returns-in-Ok-clause-id : goal.returns-in-Ok-clause-id
returns-in-Ok-clause-id c =
    let free = added-free c.args.builder.now c.args.parent c.args.name c.in-Ok.m c.in-Ok.ensures.fault in
    ap (λ m. Some m) c.in-Ok.ensures.number ∙ ap (λ b. cond b None (Some (next_module c.args.builder.now))) (sym free)

pub returns-then-is_taken-clause-world : goal.returns-then-is_taken-clause-world
returns-then-is_taken-clause-world c =
    let same : c.in-Err.fault ≡ TakenChild = c.if-is_taken.ensures.0 refl in
    let taken = refused-taken _ c.args.builder.now c.args.parent c.args.name (subst (λ f. Answers {A = ModuleId} (child_fault c.args.builder.now c.args.parent c.args.name) (Err f)) same c.in-Err.ensures.fault) in
    c.in-Err.ensures.err
    ∙ ap (λ b. cond b c.args.builder.now (with_module c.args.builder.now c.args.parent c.args.name c.args.origin c.args.visibility)) (sym taken)

pub returns-then-is_taken-clause-id : goal.returns-then-is_taken-clause-id
returns-then-is_taken-clause-id c =
    let same : c.in-Err.fault ≡ TakenChild = c.if-is_taken.ensures.0 refl in
    let taken = refused-taken _ c.args.builder.now c.args.parent c.args.name (subst (λ f. Answers {A = ModuleId} (child_fault c.args.builder.now c.args.parent c.args.name) (Err f)) same c.in-Err.ensures.fault) in
    ap (λ b. cond b None (Some (next_module c.args.builder.now))) (sym taken)

pub returns-else-is_taken-clause-fault : goal.returns-else-is_taken-clause-fault
returns-else-is_taken-clause-fault c =
    refused-short _ c.args.builder.now c.args.parent c.args.name c.args.origin c.args.visibility c.in-Err.fault c.requires.known c.in-Err.ensures.fault
    (λ same. true≢false (sym (c.if-is_taken.ensures.1 same)))

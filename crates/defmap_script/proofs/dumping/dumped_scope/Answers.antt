use Rattle.std.proofs.Common.{◌++◌, ◌∙◌, Ok, Err, Result, ap, cond, sym}
use Rattle.dm_maps.specs.MapDumps.{scope_text}
use Rattle.dm_maps.specs.ScopeTables.{scope_tables}
use Rattle.dm_maps.specs.World.{scope_of}
use Rattle.defmap_script.specs.declared.dump_lines.Dumping.TheVariants.{Scope}
use Rattle.defmap_script.specs.declared.engine.Reply.{Reply}
use Rattle.defmap_script.specs.declared.engine.Reply.TheVariants.{Dumped}
use Rattle.defmap_script.specs.declared.fault.Fault.{Fault}
use Rattle.defmap_script.specs.declared.fault.Fault.TheVariants.{Unknown}
use Rattle.defmap_script.proofs.Refusals.{refused-dump}
use Rattle.defmap_script.proofs.dumping.dumped_scope.Goals as goal

pub returns-in_err-dump : goal.returns-in_err-dump
returns-in_err-dump c =
    let w = c.args.world.now in
    let reply = Dumped (scope_text (scope_tables w) c.in-Some.scope.now) in
    refused-dump w (Scope c.args.m) reply c.from_residual.result
    (ap (λ b. cond {A = Result Reply Fault} b (Ok (Dumped (scope_text (scope_tables w) (scope_of w c.args.m)))) (Err Unknown)) (sym c.in-Some.ensures.there)
    ∙ ap (λ s. Ok (Dumped (scope_text (scope_tables w) s))) (sym c.in-Some.ensures.own))
    c.from_residual.ensures.0 c.from_residual.ensures.1

pub returns : goal.returns
returns c =
    let w = c.args.world.now in
    let text = scope_text (scope_tables w) c.in-Some.scope.now in
    ap (λ b. cond {A = Result Reply Fault} b (Ok (Dumped (scope_text (scope_tables w) (scope_of w c.args.m)))) (Err Unknown)) (sym c.in-Some.ensures.there)
    ∙ ap (λ s. Ok (Dumped (scope_text (scope_tables w) s))) (sym c.in-Some.ensures.own)
    ∙ ap (λ x. Ok (Dumped x)) (sym (c.in_ok-dump.ensures.exact text (c.scope_is_dumped.ensures (scope_tables w) c.in-Some.scope.now) ∙ ap (λ x. x ++ text) c.new-text.ensures.bytes) ∙ sym c.new.ensures)

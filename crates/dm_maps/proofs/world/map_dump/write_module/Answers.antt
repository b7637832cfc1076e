use Rattle.std.proofs.Common.{◌≡◌, ◌++◌, ◌∙◌, ap, codes, sym, string_bytes}
use Rattle.std.proofs.lemmas.List.{append_assoc}
use Rattle.dm_maps.specs.MapDumps.{module_text, scope_text}
use Rattle.dm_maps.specs.ScopeTables.{scope_tables}
use Rattle.dm_maps.specs.Branches.{children_text, left_text}
use Rattle.dm_maps.proofs.TreeLemmas.{tree-step}
use Rattle.dm_maps.proofs.world.map_dump.write_module.Goals as goal

pub returns-clause-text : goal.returns-clause-text
returns-clause-text c =
    let w = c.args.world.now in
    let t = scope_tables w in
    let own = c.args.map.now in
    let d = c.module-parent.result.now in
    let path = c.args.path.now in
    let before = string_bytes c.args.text.now in
    let rest = left_text w own c.args.left.now.items in
    let scope = scope_text t d.scope in
    let written : string_bytes c.write_scope.new.text ≡ before ++ module_text t path d =
    c.in_ok-write_scope.ensures
    ∙ ap (λ s. string_bytes c.push_str-2.new.self ++ scope_text t s) c.scope.ensures
    ∙ ap (λ x. x ++ scope) (c.in_ok-push_str-2.ensures.bytes ∙ ap (λ x. x ++ codes "\n") c.in_ok-push_str.ensures.bytes ∙ append_assoc before path (codes "\n"))
    ∙ append_assoc before (path ++ codes "\n") scope in
    (λ i. written i ++ c.in_ok-add_children.ensures.text i)
    ∙ sym (append_assoc (before ++ module_text t path d) (children_text w own path d) rest)
    ∙ ap (λ x. x ++ rest)
    (append_assoc before (module_text t path d) (children_text w own path d)
    ∙ ap (λ x. before ++ x) (sym (tree-step w own c.requires.facts path c.args.m d c.module-parent.ensures)))

use Rattle.std.proofs.Common.{◌∙◌, ◌++◌, ap, sym}
use Rattle.std.specs.Prelude.{Some, reverse}
use Rattle.item_tree.specs.Imports.{import_path}
use Rattle.item_tree.proofs.ImportPaths.{path_of, path_begun, path_further, path_done}
use Rattle.item_tree.proofs.items.imports.import_path.Goals as goal

pub loop-next-init : goal.loop-next-init
loop-next-init c =
    ap (λ xs. path_of c.args.lexemes.now c.args.trees.now (Some c.args.number) ++ reverse xs) c.new-places.ensures.items
    ∙ path_begun c.args.lexemes.now c.args.trees.now c.args.number

pub loop-next-preserved : goal.loop-next-preserved
loop-next-preserved c =
    path_further c.args.lexemes.now c.args.trees.now c.in-Some.inner c.loop-next.places.items c.push_tree.new.places.items
    (import_path c.args.lexemes.now c.args.trees.now c.args.number) c.outer_of-next.result c.in_ok-push_tree.ensures c.outer_of-next.ensures.exact
    (ap (λ o. path_of c.args.lexemes.now c.args.trees.now o ++ reverse c.loop-next.places.items) (sym c.in-Some.is) ∙ c.loop-next.invariant)

pub returns : goal.returns
returns c =
    c.in_ok-turned.ensures ∙ ap reverse c.as_slice.ensures.value
    ∙ path_done c.args.lexemes.now c.args.trees.now c.loop-next.places.items (import_path c.args.lexemes.now c.args.trees.now c.args.number) c.loop-next.next c.in_default.is c.loop-next.invariant

use Rattle.crate_tables.proofs.ShortLemmas.{passed, use-short}
use Rattle.std.proofs.Common.{◌∙◌, List, ap, subst, sym}
use Rattle.crate_tables.proofs.UseLemmas.{table-used}
use Rattle.crate_tables.specs.CrateTables.{IsTableOf, with_leaves}
use Rattle.crate_tables.specs.declared.use_leaf.UseLeaf.{UseLeaf}
use Rattle.crate_tables.proofs.crate_uses.add_use.Goals as goal

pub returns-clause-kept : goal.returns-clause-kept
returns-clause-kept c = λ k is seen.
    c.in_ok-push_use.ensures.kept c.add_use.new.self k
    (subst (IsTableOf c.add_use.new.self k) (sym (c.in_ok-push_leaves.ensures ∙ ap (λ (ls : List UseLeaf). with_leaves c.args.table.now ls) c.in_ok-leaves.ensures))
    (table-used c.args.builder.now c.add_use.new.self k c.args.table.now c.args.textual.now c.args.number c.args.item.now c.args.m c.args.visibility c.in_ok-use_.use_ c.args.imports.items
    c.in_ok-use_.ensures.added.grown c.requires.home c.in_ok-use_.ensures.added.known.0 c.requires.macros is seen))

pub returns-in_err-use_-clause-fault : goal.returns-in_err-use_-clause-fault
returns-in_err-use_-clause-fault c = passed c.from_residual.result c.in_err-use_.field-0.0 _ c.from_residual.ensures.1 (use-short _ c.args.builder.now c.args.m _ c.requires.home c.in_err-use_.ensures.fault)

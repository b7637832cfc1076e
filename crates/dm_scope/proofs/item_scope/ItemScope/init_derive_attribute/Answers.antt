use Rattle.std.proofs.Common.{rules, ◌≡◌, ◌∙◌, List, None, replicate, ap, map}
use Rattle.dm_base.specs.declared.source.AstId.{AstId}
use Rattle.dm_scope.specs.Derives.{derive_of, derives_of, fresh_derive}
use Rattle.dm_base.specs.Sameness.{same_ast}
use Rattle.dm_scope.specs.Rare.{RareScope, rare_in}
use Rattle.dm_scope.specs.Scope.{Scope}
use Rattle.dm_scope.specs.TableLists.{lists_of, add_to_list}
use Rattle.dm_scope.proofs.TableListLemmas.{add_to_list-map}
use Rattle.dm_scope.proofs.item_scope.ItemScope.init_derive_attribute.Goals as goal

pub returns-clause-ok : goal.returns-clause-ok
returns-clause-ok c =
    let old = c.deref_mut.result.now in
    let empty : c.in_ok-derive_call_ids.derive_call_ids.items ≡ replicate c.args.slots None = c.in_ok-derive_call_ids.ensures.items_if_clones_equal (λ y h. search rules) in
    let added : derives_of c.add_to_list-added.new.table.entries ≡ add_to_list same_ast (derives_of old.derive_macros.entries) c.args.adt (fresh_derive c.args.attr_id c.args.attr_call_id c.args.slots) =
    ap (λ (es : List (AstId × List _)). map (λ e. (e.0, map derive_of e.1)) es) c.in_ok-added.ensures.ok
    ∙ add_to_list-map _ derive_of (lists_of old.derive_macros.entries) c.args.adt _
    ∙ (λ k. add_to_list same_ast (derives_of old.derive_macros.entries) c.args.adt (record { attr_id = c.args.attr_id; attr_call_id = c.args.attr_call_id; slots = empty k })) in
    let with_rare : RareScope → Scope = λ r. record {
      types = c.self.inside.types;
      values = c.self.inside.values;
      macros = c.self.inside.macros;
      unresolved = r.unresolved;
      legacy_macros = r.legacy_macros;
      declarations = c.self.inside.declarations.items;
      impls = r.impls;
      builtin_derive_impls = r.builtin_derive_impls;
      extern_blocks = r.extern_blocks;
      extern_crate_decls = r.extern_crate_decls;
      unnamed_consts = r.unnamed_consts;
      unnamed_traits = r.unnamed_traits;
      attr_macros = r.attr_macros;
      macro_invocations = r.macro_invocations;
      derive_macros = r.derive_macros;
    } in
    ap with_rare (c.put.ensures ∙ ap (λ d. record (rare_in old) { derive_macros = d }) added)
    ∙ ap (λ r. record (with_rare r) { derive_macros = add_to_list same_ast r.derive_macros c.args.adt (fresh_derive c.args.attr_id c.args.attr_call_id c.args.slots) }) (ap rare_in c.deref_mut.ensures.value ∙ c.in_ok-tables.ensures.ok)
    ∙ ap (λ (s : Scope). record s { derive_macros = add_to_list same_ast s.derive_macros c.args.adt (fresh_derive c.args.attr_id c.args.attr_call_id c.args.slots) }) c.self.view_is

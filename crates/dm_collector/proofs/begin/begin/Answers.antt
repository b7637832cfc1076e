use Rattle.std.proofs.Common.{◌∙◌, [], List, ap, subst, sym}
use Rattle.std.specs.Map.{lookup}
use Rattle.std.specs.Prelude.{All}
use Rattle.crate_tables.specs.AssocItems.{AreAllAdded, Filled}
use Rattle.crate_items.specs.Modules.{Listing}
use Rattle.crate_tables.specs.CrateFillings.{IsKnownTable}
use Rattle.crate_tables.specs.CrateTables.{HasKnownDefs, Table}
use Rattle.std.proofs.lemmas.List.Elements.{All-weaker}
use Rattle.dm_collector.proofs.FaultLemmas.{passed}
use Rattle.dm_base.specs.declared.ids.EnumId.{EnumId}
use Rattle.dm_base.specs.declared.visibility.Visibility.{Visibility}
use Rattle.dm_collector.specs.BareModules.{all_bare, is_among}
use Rattle.dm_collector.specs.CollectFaults.{IsFault}
use Rattle.dm_collector.specs.Constructors.{constructor_vis, constructors}
use Rattle.dm_collector.specs.MacroUses.{macro_uses}
use Rattle.dm_def_map.specs.Variants.{same_enum}
use Rattle.dm_collector.proofs.begin.begin.Goals as goal

pub declare-requires-clause-known : goal.declare-requires-clause-known
declare-requires-clause-known c =
    All-weaker (IsKnownTable c.in_ok-made.made.builder) (IsKnownTable c.add_items.new.builder) c.add_items.ensures.known c.in_ok-made.made.tables.items c.in_ok-made.ensures.known

pub declare-requires-clause-checked : goal.declare-requires-clause-checked
declare-requires-clause-checked c =
    c.in_ok-assocs.ensures.checked c.in_ok-made.ensures.checked
    (subst (λ (ts : List Table). All (HasKnownDefs c.in_ok-made.made.builder) ts) (sym c.as_slice-2.ensures.value) c.in_ok-made.ensures.defs)

pub declare-requires-clause-empty : goal.declare-requires-clause-empty
declare-requires-clause-empty c = c.add_items.ensures.empty c.in_ok-made.ensures.empty

pub returns-clause-begun : goal.returns-clause-begun
returns-clause-begun c =
    let lists = c.in_ok-made.made.lists.items in
    let tables = c.in_ok-made.made.tables.items in
    let places = c.in_ok-assocs.assocs.items in
    let before : Filled = record { world = c.in_ok-made.made.builder; places = [] } in
    let whole : Filled = record { world = c.add_items.new.builder; places = places } in
    record {
      crates = record { world = c.in_ok-made.made.builder; lists = lists; tables = tables; rows = c.in_ok-made.made.externs.items };
      filled = c.in_ok-made.ensures.filled;
      whole = whole;
      items =
          subst (λ (both : List Listing × List Table). AreAllAdded c.args.reading.now.files both.0 0 0 both.1 before whole)
          (λ i. (c.as_slice.ensures.value i, c.as_slice-2.ensures.value i)) c.in_ok-assocs.ensures.added;
      kept = λ i. record { lists = lists; tables = c.in_ok-declared.ensures.rest i; rows = c.in_ok-made.made.externs.items; assocs = places };
      world = c.in_ok-declared.ensures.world;
      declared = c.in_ok-declared.ensures.declared;
      imports = c.in_ok-declared.ensures.imports;
      globs = c.in_ok-declared.ensures.globs;
      enums = λ e. ap (λ (es : List (EnumId × Visibility)). lookup (same_enum e) es) c.in_ok-declarations.ensures.enums ∙ c.in_ok-declared.ensures.enums e;
      constructors = λ v. c.in_ok-declarations.ensures.constructors v
          ∙ (λ i. constructor_vis (constructors c.in_ok-declared.declared.world c.args.reading.now.files (c.as_slice-5.ensures.value i) (c.as_slice-6.ensures.value i) 0 c.args.graph.now) v);
      bare = λ m. c.in_ok-declarations.ensures.bare m ∙ (λ i. is_among (all_bare (c.as_slice-5.ensures.value i) 0 (c.as_slice-6.ensures.value i)) m);
      uses = c.in_ok-uses.ensures.uses
          ∙ (λ i. macro_uses c.args.reading.now.files (c.as_slice-3.ensures.value i) (c.as_slice-4.ensures.value i) 0 c.args.graph.now);
    }

pub returns-in_err-assocs-clause-fault : goal.returns-in_err-assocs-clause-fault
returns-in_err-assocs-clause-fault c =
    passed c.from_residual-in_err-assocs.result c.in_err-assocs.field-0.0 (IsFault c.args.reading.now c.args.graph.now) c.from_residual-in_err-assocs.ensures.1 (c.in_err-assocs.ensures.fault c.args.reading.now c.args.graph.now)

use Rattle.std.proofs.Common.{All, List, subst₂, sym}
use Rattle.dm_collector.specs.Collecting.{IsImported, given_in, state_of}
use Rattle.dm_collector.specs.Steps.{MapsOf}
use Rattle.dm_collector.specs.UnnamedTraits.{HasBrought}
use Rattle.dm_collector.specs.declared.collected.Collected.{Collected}
use Rattle.dm_imports.specs.Grounding.{slots_of}
use Rattle.dm_imports.specs.Marking.{AreThoseDependent}
use Rattle.dm_imports.specs.Rules.{AreImportsKnown}
use Rattle.dm_imports.specs.Slots.{Slots}
use Rattle.dm_imports.specs.Tables.{of_tables}
use Rattle.dm_imports.specs.declared.glob_import.GlobImport.{GlobImport}
use Rattle.dm_imports.specs.declared.named_import.NamedImport.{NamedImport}
use Rattle.std.specs.Prelude.{Bool, false}
use Rattle.dm_collector.proofs.collect.finish.Goals as goal

-- the def maps of some imports and globs
abbrev maps_of : Collected → Slots Bool → List NamedImport → List GlobImport → MapsOf
maps_of m t is gs w = of_tables (record {
  world = w;
  imports = is;
  globs = gs;
  declarations = m.declarations;
  ambiguous = record { table = t; is_all_but = false };
})

pub returns-clause-imported : goal.returns-clause-imported
returns-clause-imported c =
    let m = c.args.made.now in
    subst₂ (λ is gs. IsImported (maps_of m c.import.new.ambiguous is gs) 0 (given_in m) (state_of m) (record { world = c.import.new.world; flags = c.import.new.flags }))
    c.as_slice.ensures.value c.as_slice-2.ensures.value
    (c.in_ok-found.ensures.imported (given_in m) (sym c.as_slice.ensures.value) (sym c.as_slice-2.ensures.value) (sym c.as_slice-3.ensures.value))

pub returns-clause-limited : goal.returns-clause-limited
returns-clause-limited c = λ late.
    let m = c.args.made.now in
    subst₂ (λ is gs. IsImported (maps_of m c.import.new.ambiguous is gs) 4294967295 (given_in m) (state_of m) (record { world = c.import.new.world; flags = c.import.new.flags }))
    c.as_slice.ensures.value c.as_slice-2.ensures.value
    (c.in_ok-found.ensures.limited late (given_in m) (sym c.as_slice.ensures.value) (sym c.as_slice-2.ensures.value) (sym c.as_slice-3.ensures.value))

pub returns-clause-brought : goal.returns-clause-brought
returns-clause-brought c = λ settled.
    let m = c.args.made.now in
    subst₂ (λ is gs. All (HasBrought (maps_of m c.import.new.ambiguous is gs c.import.new.world)) gs)
    c.as_slice.ensures.value c.as_slice-2.ensures.value (c.in_ok-found.ensures.brought settled)

pub returns-clause-dependent : goal.returns-clause-dependent
returns-clause-dependent c =
    let m = c.args.made.now in
    subst₂ (λ is gs. AreImportsKnown (maps_of m c.import.new.ambiguous is gs c.import.new.world) → AreThoseDependent (maps_of m c.import.new.ambiguous is gs c.import.new.world) (slots_of c.in_ok-found.found.order_dependent))
    c.as_slice.ensures.value c.as_slice-2.ensures.value c.in_ok-found.ensures.dependent

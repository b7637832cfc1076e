-- The preludes that crates get are modules that the world knows, and so are the uses that name them.
use Rattle.std.proofs.Common.{◌≡◌, ◌+◌, ℕ, Bool, true, false, cond, List, [], ◌∷◌, Option, None, Some, slice_get, refl}
use Rattle.std.specs.Prelude.{◌==◌}
use Rattle.std.specs.List.{AllByRecursion, find, list_any}
use Rattle.std.specs.Option.{option_and_then, option_map, option_map_or}
use Rattle.crate_tables.proofs.AllLemmas.{all-get, all-weaker}
use Rattle.crate_tables.proofs.FitCrates.{IsFitTable, table-on}
use Rattle.crate_tables.proofs.FitLemmas.{IsFit, Known}
use Rattle.crate_tables.proofs.FitMaps.{goes-prelude}
use Rattle.crate_tables.proofs.FitSteps.{Goes, goes-further, goes-same}
use Rattle.crate_items.specs.CrateGraphs.{Data, Graph}
use Rattle.crate_items.specs.Files.{SourceFile}
use Rattle.crate_items.specs.ItemAttributes.{kinds_from}
use Rattle.crate_items.specs.Modules.{Listing}
use Rattle.crate_items.specs.PreludeModules.{module_behind, prelude_module}
use Rattle.crate_items.specs.Sources.{source_at}
use Rattle.crate_items.specs.declared.files.dependency.Dependency.{Dependency}
use Rattle.crate_items.specs.declared.items.crate_attributes.CrateAttribute.{CrateAttribute}
use Rattle.crate_tables.specs.CrateFillings as filling
use Rattle.crate_tables.specs.CrateTables.{Table}
use Rattle.crate_tables.specs.PreludeImports as named
use Rattle.crate_tables.specs.StandardPreludes as standard
use Rattle.crate_tables.specs.Visibilities.{id_at}
use Rattle.crate_tables.specs.declared.item_place.UsePlace.{UsePlace}
use Rattle.crate_tables.specs.declared.use_leaf.UseLeaf.{UseLeaf}
use Rattle.dm_base.specs.Names.{Name}
use Rattle.dm_base.specs.declared.edition.Edition.{Edition}
use Rattle.dm_base.specs.declared.edition.Edition.TheVariants as edition
use Rattle.dm_base.specs.declared.ids.Crate.{Crate}
use Rattle.dm_base.specs.declared.ids.ModuleId.{ModuleId}
use Rattle.dm_base.specs.declared.ids.UseId.{UseId}
use Rattle.dm_base.specs.declared.mod_path.PathKind.{PathKind}
use Rattle.dm_base.specs.declared.mod_path.PathKind.TheVariants as path
use Rattle.dm_maps.specs.Known.{KnowsAll}
use Rattle.dm_maps.specs.ScopeHolds.{prelude_holds}
use Rattle.dm_maps.specs.World.{World}
use Rattle.dm_maps.specs.declared.check.held.HeldId.TheVariants as held

abbrev pub AreFitTables : World → List Table → Type 0
AreFitTables w ts = AllByRecursion (IsFitTable w) ts

pub tables-on : (w v : World) (ts : List Table) → Goes w v → AreFitTables w ts → AreFitTables v ts
tables-on w v ts goes fit = all-weaker (IsFitTable w) (IsFitTable v) (λ t. table-on w v t goes) ts fit

abbrev IsModuleIf : World → Option ModuleId → Type 0
IsModuleIf w None = Unit {0}
IsModuleIf w (Some m) = Known w (held.Module m)

abbrev IsNamed : World → Option (ModuleId × Option UseId) → Type 0
IsNamed w p = KnowsAll w (option_map_or prelude_holds p [])

-- ---- Modules of tables

module _ (w : World) (tables : List Table) (fit : AreFitTables w tables) where
  module-fits : (k : Crate) (o : Option ℕ) → IsModuleIf w (standard.id_in tables k o)
  module-fits k None = tt
  module-fits k (Some n) = by (slice_get tables k.0) refl
    where
      at : (t : Table) → IsFitTable w t → (o : Option ModuleId) → id_at t.ids n ≡ o → IsModuleIf w o
      at t is None e = tt
      at t is (Some m) e = is.ids n m e

      by : (o : Option Table) → slice_get tables k.0 ≡ o → IsModuleIf w (standard.id_of o n)
      by None e = tt
      by (Some t) e = at t (all-get (IsFitTable w) tables k.0 t fit e) (id_at t.ids n) refl

  prelude_of-fits : (k : Crate) (e : Edition) (l : Option Listing) → IsModuleIf w (standard.prelude_of tables k e l)
  prelude_of-fits k e None = tt
  prelude_of-fits k e (Some l) = module-fits k (prelude_module l.modules e)

  prelude_in-fits : (lists : List Listing) (e : Edition) (k : Option Crate) → IsModuleIf w (standard.prelude_in lists tables e k)
  prelude_in-fits lists e None = tt
  prelude_in-fits lists e (Some k) = prelude_of-fits k e (slice_get lists k.0)

  standard-fits : (lists : List Listing) (e : Edition) (attrs : List CrateAttribute) (ds : List Dependency) → IsModuleIf w (standard.standard_prelude lists tables e attrs ds)
  standard-fits lists e attrs ds = prelude_in-fits lists e (standard.library attrs ds)

  -- ---- Modules that paths lead to

  behind-fits : (k : Crate) (names : List Name) (l : Option Listing) → IsModuleIf w (named.behind tables k names l)
  behind-fits k names None = tt
  behind-fits k names (Some l) = module-fits k (module_behind l.modules (Some 0) names)

  module _ (lists : List Listing) (i : named.Importer) where
    abbrev c : named.Lists
    c = record { lists = lists; tables = tables }

    root-fits : (k : Crate) (names : List Name) → IsModuleIf w (named.behind_root c k names)
    root-fits k names = behind-fits k names (slice_get lists k.0)

    dependency-fits : (names : List Name) → IsModuleIf w (named.in_dependency c i names)
    dependency-fits [] = tt
    dependency-fits (n ∷ ns) = by (standard.crate_named i.attributes i.dependencies n)
      where
        by : (o : Option Crate) → IsModuleIf w (option_and_then (λ k. named.behind_root c k ns) o)
        by None = tt
        by (Some k) = root-fits k ns

    or_else-fits : (a b : Option ModuleId) → IsModuleIf w a → IsModuleIf w b → IsModuleIf w (named.or_else a b)
    or_else-fits None b ka kb = kb
    or_else-fits (Some m) b ka kb = ka

    either-fits : (names : List Name) → IsModuleIf w (named.in_either c i names)
    either-fits names = or_else-fits (named.behind_root c i.krate names) (named.in_dependency c i names) (root-fits i.krate names) (dependency-fits names)

    colons-fit : (e : Edition) (names : List Name) → IsModuleIf w (named.behind_colons c i e names)
    colons-fit edition.Edition2015 names = either-fits names
    colons-fit _ names = dependency-fits names

    written-fits : (k : PathKind) (names : List Name) → IsModuleIf w (named.written_module c i k names)
    written-fits path.Plain names = either-fits names
    written-fits path.Abs names = colons-fit i.edition names
    written-fits path.Crate names = root-fits i.krate names
    written-fits (path.Super n) names = by (n == 0)
      where
        by : (b : Bool) → IsModuleIf w (cond b (named.behind_root c i.krate names) None)
        by true = root-fits i.krate names
        by false = tt
    written-fits _ names = tt

    -- ---- Preludes that uses name

    use-fits : (u : UseId) (o : Option ModuleId) → Known w (held.Use u) → IsModuleIf w o → IsNamed w (option_map (named.with_use u) o)
    use-fits u None ku km = tt
    use-fits u (Some m) ku km = (km, (ku, tt))

    leaf-fits : (u : UseId) (o : Option UseLeaf) → Known w (held.Use u) → IsNamed w (option_and_then (named.named_by c i u) o)
    leaf-fits u None ku = tt
    leaf-fits u (Some x) ku = use-fits u (named.written_module c i x.import.path.kind x.import.path.segments) ku (written-fits x.import.path.kind x.import.path.segments)

    at-fits : (l : Listing) (leaves : List UseLeaf) (p : UsePlace) → Known w (held.Use p.use_) → IsNamed w (named.named_at c i l leaves p)
    at-fits l leaves p ku = by (list_any named.is_prelude_import (kinds_from (source_at l.sources p.file) p.item))
      where
        by : (b : Bool) → IsNamed w (cond b (named.named_by_use c i leaves p.use_) None)
        by true = leaf-fits p.use_ (find (named.is_root_glob i.krate p.use_) leaves) ku
        by false = tt

    later-fits : (a b : Option (ModuleId × Option UseId)) → IsNamed w a → IsNamed w b → IsNamed w (named.later a b)
    later-fits a None ka kb = ka
    later-fits a (Some p) ka kb = kb

    among-fits : (l : Listing) (leaves : List UseLeaf) (before : Option (ModuleId × Option UseId)) (ps : List UsePlace)
        → IsNamed w before → AllByRecursion (λ (p : UsePlace). Known w (held.Use p.use_)) ps → IsNamed w (named.named_among c i l leaves before ps)
    among-fits l leaves before [] known all = known
    among-fits l leaves before (p ∷ ps) known all =
        among-fits l leaves (named.later before (named.named_at c i l leaves p)) ps (later-fits before (named.named_at c i l leaves p) known (at-fits l leaves p all.0)) all.1

    unnamed-fits : (o : Option ModuleId) → IsModuleIf w o → IsNamed w (option_map standard.unnamed o)
    unnamed-fits None k = tt
    unnamed-fits (Some m) k = (k, tt)

    or_standard-fits : (p : Option (ModuleId × Option UseId)) → IsNamed w p → IsNamed w (filling.or_standard c i p)
    or_standard-fits None k = unnamed-fits (standard.standard_prelude lists tables i.edition i.attributes i.dependencies) (standard-fits lists i.edition i.attributes i.dependencies)
    or_standard-fits (Some p) k = k

    from-fits : (l : Listing) (t : Table) → IsFitTable w t → IsNamed w (filling.prelude_from c i l t)
    from-fits l t is = or_standard-fits (named.named_among c i l t.leaves None t.uses) (among-fits l t.leaves None t.uses tt is.uses)

  prelude-fits : (files : List SourceFile) (lists : List Listing) (k : Crate) (d : Data) (l : Option Listing) (o : Option Table) → slice_get tables k.0 ≡ o
      → IsNamed w (filling.prelude_of files (record { lists = lists; tables = tables }) k d l o)
  prelude-fits files lists k d (Some l) (Some t) e = from-fits lists (filling.importer_of files k d l) l t (all-get (IsFitTable w) tables k.0 t fit e)
  prelude-fits files lists k d (Some l) None e = tt
  prelude-fits files lists k d None o e = tt

  pub goes-prelude_of : (files : List SourceFile) (lists : List Listing) (k : Crate) (d : Data) → IsFit w → Goes w (filling.with_prelude_of files lists tables k d w)
  goes-prelude_of files lists k d is =
      goes-prelude w (standard.own_map k) _ is (prelude-fits files lists k d (slice_get lists k.0) (slice_get tables k.0) refl)

pub goes-preludes : (files : List SourceFile) (lists : List Listing) (tables : List Table) (w : World) (n : ℕ) (g : Graph) → IsFit w → AreFitTables w tables
    → Goes w (filling.with_preludes_from files lists tables n g w)
goes-preludes files lists tables w n [] is fit = goes-same w is
goes-preludes files lists tables w n (d ∷ ds) is fit =
    let v = filling.with_prelude_of files lists tables (record { 0 = n }) d w in
    let one = goes-prelude_of w tables fit files lists (record { 0 = n }) d is in
    goes-further w v (filling.with_preludes_from files lists tables (n + 1) ds v) one (goes-preludes files lists tables v (n + 1) ds one.fit (tables-on w v tables one fit))

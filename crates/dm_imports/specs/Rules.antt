-- What the rules give of def maps: a slot has what its module declares, else what an import by name brings, else what
-- globs bring.
use Rattle.std.specs.Prelude.{◌≡◌, ◌<◌, ◌||◌, ◌&&◌, All, IsTrue, Bool, true, false, not, List, [], ◌∷◌, Option, Some, None, fold, if◌then◌else◌}
use Rattle.std.specs.List.{filter_map, list_any}
use Rattle.std.specs.Option.{option_and_then, option_map, option_map_or, option_or}
use Rattle.dm_base.specs.declared.ids.ModuleId.{ModuleId}
use Rattle.dm_base.specs.declared.per_ns.Namespace.{Namespace}
use Rattle.dm_base.specs.declared.per_ns.Namespace.TheVariants.{Types, Values, Macros}
use Rattle.dm_base.specs.declared.item_ids.ModuleDefId.TheVariants as def
use Rattle.dm_base.specs.declared.visibility.Visibility.{Visibility}
use Rattle.dm_base.specs.declared.visibility.Visibility.TheVariants as vis
use Rattle.dm_base.specs.Names.{Name}
use Rattle.dm_base.specs.PerNs.{keep}
use Rattle.dm_base.specs.Sameness.{same_def}
use Rattle.dm_base.specs.Tree.{same_module}
use Rattle.dm_base.specs.Visibility.{NamesKnown, max_of, min_of}
use Rattle.dm_maps.specs.declared.check.held.HeldId.TheVariants as held
use Rattle.dm_maps.specs.ItemHomes.{homes_of}
use Rattle.dm_maps.specs.Known.{knows}
use Rattle.dm_maps.specs.Readings.{root_of}
use Rattle.dm_maps.specs.Trees.{tree_of}
use Rattle.dm_maps.specs.World.{World}
use Rattle.dm_imports.specs.declared.container.Container.{Container}
use Rattle.dm_imports.specs.declared.container.Container.TheVariants as container
use Rattle.dm_imports.specs.declared.glob_import.GlobImport.{GlobImport}
use Rattle.dm_imports.specs.declared.joined.Joined.{Joined}
use Rattle.dm_imports.specs.declared.meaning.Meaning.{Meaning}
use Rattle.dm_imports.specs.declared.meaning.Source.TheVariants as source
use Rattle.dm_imports.specs.declared.named_import.ImportKind.{ImportKind}
use Rattle.dm_imports.specs.declared.named_import.ImportKind.TheVariants as kind
use Rattle.dm_imports.specs.declared.named_import.NamedImport.{NamedImport}
use Rattle.dm_imports.specs.Meanings.{is_declared, joined}
use Rattle.dm_imports.specs.Paths.{AreVariantsNamed, Asking, DefMaps, at, leads, member, path_meaning}
use Rattle.dm_imports.specs.Slots.{same_place}

-- ---- Visibilities that meet in a module: one of two is always the less permissive

abbrev pub least : World → ModuleId → Visibility → Visibility → Visibility
least w m a b = option_map_or (λ v. v) (min_of (tree_of w) ((tree_of w).map_of m) a b) a

abbrev pub most : World → ModuleId → Visibility → Visibility → Visibility
most w m a b = option_map_or (λ v. v) (max_of (tree_of w) ((tree_of w).map_of m) a b) a

-- ---- Globs

abbrev pub glob_asks : GlobImport → Asking
glob_asks g = record { home = g.into; import = None; below = λ m n s. None }

-- the module or enum that a glob's path means, if that is not the glob's own module
abbrev pub is_other : ModuleId → Container → Bool
is_other m (container.Module k) = not (same_module m k)
is_other m (container.Enum e) = true

abbrev pub source_of : DefMaps → GlobImport → Option Container
source_of d g = keep (is_other g.into) (option_and_then leads (path_meaning d (glob_asks g) None g.path Types))

-- what a glob offers its module: what that sees of the source, as the glob shows it
abbrev pub offered : DefMaps → GlobImport → Meaning → Meaning
offered d g x = record x { vis = least d.world g.into g.vis x.vis; source = source.Glob g.import }

abbrev pub offer_from : DefMaps → GlobImport → Container → Name → Namespace → Option Meaning
offer_from d g c n s = option_map (offered d g) (member d (glob_asks g) c n s)

abbrev pub offer : DefMaps → GlobImport → Name → Namespace → Option Meaning
offer d g n s = option_and_then (λ c. offer_from d g c n s) (source_of d g)

-- the offer of a glob to a module, if it is one of the module
abbrev pub offer_to : DefMaps → ModuleId → Name → Namespace → GlobImport → Option Meaning
offer_to d m n s g = if same_module g.into m then offer d g n s else None

-- what the globs of a module offer, in the order of the globs
abbrev pub offers_to : DefMaps → List GlobImport → ModuleId → Name → Namespace → List Meaning
offers_to d gs m n s = filter_map (offer_to d m n s) gs

-- the most permissive of a visibility and those of offers, in a module
abbrev pub most_of : World → ModuleId → Visibility → List Meaning → Visibility
most_of w m v xs = fold (λ u x. most w m u x.vis) v xs

-- the least permissive of them
abbrev pub least_of : World → ModuleId → Visibility → List Meaning → Visibility
least_of w m v xs = fold (λ u x. least w m u x.vis) v xs

-- an offer conflicts with the first where it is ambiguous, or has another definition
abbrev pub conflicts : Meaning → Meaning → Bool
conflicts first x = x.is_ambiguous || not (same_def first.def x.def)

-- Offers, joined: the first, the most and the least permissive of all visibilities, and whether they are ambiguous
-- together, as they are where the first is or another conflicts with it. No offers bring nothing.
abbrev pub join_all : World → ModuleId → List Meaning → Option Joined
join_all w m [] = None
join_all w m (x ∷ xs) = Some (record {
  first = x;
  most = most_of w m x.vis xs;
  least = least_of w m x.vis xs;
  is_ambiguous = x.is_ambiguous || list_any (conflicts x) xs;
})

-- the offers of all globs of a module, joined
abbrev pub all_offers : DefMaps → List GlobImport → ModuleId → Name → Namespace → Option Joined
all_offers d gs m n s = join_all d.world m (offers_to d gs m n s)

-- what globs bring
abbrev pub brought : DefMaps → ModuleId → Name → Namespace → Option Meaning
brought d m n s = option_map joined (all_offers d d.globs m n s)

-- ---- Imports by name

abbrev pub import_asks : DefMaps → NamedImport → Asking
import_asks d i = record { home = i.home; import = Some i.import; below = brought d }

abbrev pub brings : ImportKind → Namespace → Bool
brings kind.All s = true
brings kind.TypeOnly Types = true
brings kind.TypeOnly Values = false
brings kind.TypeOnly Macros = false
brings kind.Unnamed s = false

-- an extern crate that a module declares is the root of a crate
abbrev pub is_root : World → ModuleId → Bool
is_root w m = option_map_or (same_module m) (option_and_then (root_of w) ((homes_of w).krate m)) false

abbrev pub is_extern_crate : World → Meaning → Bool
is_extern_crate w x = is_declared x && elim x.def [ def.ModuleId m ↦ is_root w m | _ ↦ false ]

abbrev pub is_public : Visibility → Bool
is_public v = elim v [ vis.Public ↦ true | _ ↦ false ]

-- what an import brings is shown to none who does not see what its path means; but `pub use` shows an extern crate to all
abbrev pub imported_vis : DefMaps → NamedImport → Meaning → Visibility
imported_vis d i x = if is_public i.vis && is_extern_crate d.world x then vis.Public else least d.world i.home i.vis x.vis

abbrev pub imported : DefMaps → NamedImport → Meaning → Meaning
imported d i x = record x { vis = imported_vis d i x; source = source.Import i.import }

abbrev pub import_brings : DefMaps → NamedImport → Namespace → Option Meaning
import_brings d i s = if brings i.kind s then option_map (imported d i) (path_meaning d (import_asks d i) i.textual i.path s) else None

abbrev pub import_to : DefMaps → ModuleId → Name → Namespace → NamedImport → Option Meaning
import_to d m n s i = if same_place i.home i.name m n then import_brings d i s else None

-- what the first import of a slot brings that brings anything
abbrev pub all_imports : DefMaps → List NamedImport → ModuleId → Name → Namespace → Option Meaning
all_imports d is m n s = fold (λ x i. option_or x (import_to d m n s i)) None is

-- ---- The rules

abbrev pub declared : DefMaps → ModuleId → Name → Namespace → Option Meaning
declared d m n s = keep is_declared (at d m n s)

abbrev pub given : DefMaps → ModuleId → Name → Namespace → Option Meaning
given d m n s = option_or (declared d m n s) (option_or (all_imports d d.imports m n s) (brought d m n s))

-- a module of the world's
abbrev pub IsModule : DefMaps → ModuleId → Type 0
IsModule d m = IsTrue (knows d.world (held.Module m)) × (m.0 < 4294967295)

-- Def maps are supported where each slot has what the rules give of these def maps themselves.
abbrev pub SupportedIn : DefMaps → ModuleId → Type 0
SupportedIn d m = (n : Name) (s : Namespace) → at d m n s ≡ given d m n s

abbrev pub IsSupported : DefMaps → Type 0
IsSupported d = (m : ModuleId) → IsModule d m → SupportedIn d m

-- ---- What is asked of def maps

abbrev pub IsImportKnown : DefMaps → NamedImport → Type 0
IsImportKnown d i = IsModule d i.home × NamesKnown (tree_of d.world) i.vis

abbrev pub IsGlobKnown : DefMaps → GlobImport → Type 0
IsGlobKnown d g = IsModule d g.into × NamesKnown (tree_of d.world) g.vis

-- imports and globs stand in modules of the world's, and so are those that their visibilities name
pub record AreImportsKnown (d : DefMaps) : Type 0 where
  pub imports : All (IsImportKnown d) d.imports
  pub globs : All (IsGlobKnown d) d.globs

-- so are those that the visibilities of enums name
pub record AreMapsKnown (d : DefMaps) : Type 0 where
  pub variants : AreVariantsNamed d
  pub imports : All (IsImportKnown d) d.imports
  pub globs : All (IsGlobKnown d) d.globs

-- Def maps and who asks, as calls have them: what is a set or a function there is a table here.
use Rattle.std.specs.Prelude.{◌||◌, Bool, true, List, Option, None, Some, is_none, is_some, if◌then◌else◌}
use Rattle.std.specs.List.{list_any}
use Rattle.std.specs.Map.{lookup}
use Rattle.std.specs.Option.{option_and_then, option_map, option_map_or}
use Rattle.dm_base.specs.declared.ids.ModuleId.{ModuleId}
use Rattle.dm_base.specs.declared.imports.ImportId.{ImportId}
use Rattle.dm_base.specs.declared.per_ns.Namespace.{Namespace}
use Rattle.dm_base.specs.declared.visibility.Visibility.{Visibility}
use Rattle.dm_base.specs.declared.visibility.Visibility.TheVariants.{Module, PubCrate, Public}
use Rattle.dm_base.specs.Names.{Name}
use Rattle.dm_base.specs.Tree.{Tree, same_module}
use Rattle.dm_maps.specs.Trees.{tree_of}
use Rattle.dm_maps.specs.World.{World}
use Rattle.dm_imports.specs.Declarations.{Declarations, same_variant, vis_in}
use Rattle.dm_imports.specs.declared.glob_import.GlobImport.{GlobImport}
use Rattle.dm_imports.specs.declared.joined.Joined.{Joined}
use Rattle.dm_imports.specs.declared.meaning.Meaning.{Meaning}
use Rattle.dm_imports.specs.declared.named_import.NamedImport.{NamedImport}
use Rattle.dm_imports.specs.Meanings.{joined}
use Rattle.dm_imports.specs.Paths.{Asking, DefMaps}
use Rattle.dm_imports.specs.Slots.{Slots, slot_at}

-- A set of slots: those of a table, or all but those.
pub record Marks : Type 0 where
  pub table : Slots Bool
  pub is_all_but : Bool

abbrev pub has_mark : Marks → ModuleId → Name → Namespace → Bool
has_mark k m n s = if k.is_all_but then is_none (slot_at k.table m n s) else is_some (slot_at k.table m n s)

pub record MapTables : Type 0 where
  pub world : World
  pub imports : List NamedImport
  pub globs : List GlobImport
  pub declarations : Declarations
  pub ambiguous : Marks

-- a visibility of a module that is not the world's counts as public
abbrev pub is_named : Tree → Visibility → Bool
is_named t (Module m x) = t.has m
is_named t (PubCrate k) = true
is_named t Public = true

abbrev pub named_or_public : Tree → Visibility → Visibility
named_or_public t v = if is_named t v then v else Public

abbrev pub of_tables : MapTables → DefMaps
of_tables t = record {
  world = t.world;
  imports = t.imports;
  globs = t.globs;
  enum_vis = λ e. named_or_public (tree_of t.world) (vis_in t.declarations.enums e);
  constructor_vis = λ v. option_map (named_or_public (tree_of t.world)) (lookup (same_variant v) t.declarations.constructors);
  is_bare = λ m. list_any (same_module m) t.declarations.bare_modules;
  is_ambiguous = has_mark t.ambiguous;
}

pub record Asked : Type 0 where
  pub home : ModuleId
  pub import : Option ImportId
  -- what globs bring, and the slots where that leads on; all where there is no table
  pub below : Option (Slots Joined)
  pub offered : Option (Slots Joined)

-- what some globs bring together, which may be spoiled
abbrev pub spoiled_if : Bool → Joined → Meaning
spoiled_if b j = let x = joined j in record x { is_ambiguous = x.is_ambiguous || b }

abbrev pub joined_by : Option (Slots Joined) → ModuleId → Name → Namespace → Joined → Meaning
joined_by None m n s j = joined j
joined_by (Some k) m n s j = spoiled_if (is_none (slot_at k m n s)) j

abbrev pub asks : Asked → Asking
asks a = record { home = a.home; import = a.import; below = λ m n s. option_map (joined_by a.offered m n s) (option_and_then (λ b. slot_at b m n s) a.below) }

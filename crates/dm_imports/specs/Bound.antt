-- Def maps in which imports and globs were bound.
use Rattle.std.specs.Prelude.{◌≡◌, ◌⊎◌, ◌++◌, All, Contains, List, [], ◌∷◌, Option, Some, None, fold, if◌then◌else◌}
use Rattle.std.specs.List.{filter_map}
use Rattle.dm_base.specs.declared.ids.ModuleId.{ModuleId}
use Rattle.dm_base.specs.declared.imports.ImportOrExternCrate.{ImportOrExternCrate}
use Rattle.dm_base.specs.declared.imports.ImportOrExternCrate.TheVariants as wide
use Rattle.dm_base.specs.declared.imports.ImportOrGlob.{ImportOrGlob}
use Rattle.dm_base.specs.declared.imports.ImportOrGlob.TheVariants as narrow
use Rattle.dm_base.specs.declared.item_ids.ModuleDefId.TheVariants as def
use Rattle.dm_base.specs.declared.per_ns.Namespace.{Namespace}
use Rattle.dm_base.specs.declared.per_ns.Namespace.TheVariants.{Types, Values, Macros}
use Rattle.dm_base.specs.declared.per_ns.PerNs.{PerNs}
use Rattle.dm_base.specs.Names.{Name}
use Rattle.dm_base.specs.PerNs.{macro_alone, nothing, type_alone, value_alone}
use Rattle.dm_base.specs.Tree.{same_module}
use Rattle.dm_maps.specs.PushRes.{with_push}
use Rattle.dm_maps.specs.World.{World, scope_of}
use Rattle.dm_scope.specs.Flags.{Globs}
use Rattle.dm_scope.specs.Push.{globs_after}
use Rattle.dm_scope.specs.Shows.{ScopePush, Shows, push_of}
use Rattle.dm_imports.specs.declared.glob_import.GlobImport.{GlobImport}
use Rattle.dm_imports.specs.declared.meaning.Meaning.{Meaning}
use Rattle.dm_imports.specs.declared.meaning.Source.{Source}
use Rattle.dm_imports.specs.declared.meaning.Source.TheVariants as source
use Rattle.dm_imports.specs.declared.named_import.NamedImport.{NamedImport}

-- ---- What is pushed for a meaning in a namespace

abbrev pub import_of : Source → Option ImportOrExternCrate
import_of source.Declaration = None
import_of (source.Import i) = Some (wide.Import i)
import_of (source.Glob g) = Some (wide.Glob g)

abbrev pub value_import_of : Source → Option ImportOrGlob
value_import_of source.Declaration = None
value_import_of (source.Import i) = Some (narrow.Import i)
value_import_of (source.Glob g) = Some (narrow.Glob g)

-- a macro, if it is one
abbrev pub macro_of : Meaning → PerNs
macro_of x = elim x.def [ def.MacroId k ↦ macro_alone k x.vis (import_of x.source) | _ ↦ nothing ]

abbrev pub items_of : Namespace → Meaning → PerNs
items_of Types x = type_alone x.def x.vis (import_of x.source)
items_of Values x = value_alone x.def x.vis (value_import_of x.source)
items_of Macros x = macro_of x

-- ---- Def maps before and after

-- a world, and which of its names globs brought
pub record Maps : Type 0 where
  pub world : World
  pub flags : Globs

-- What a slot gets: a name of a module, in a namespace.
pub record Binding : Type 0 where
  pub home : ModuleId
  pub name : Name
  pub namespace : Namespace
  pub meaning : Meaning

-- the def maps in which a slot was bound
abbrev pub with_binding : Maps → Binding → Maps
with_binding d b = let x = items_of b.namespace b.meaning in let i = import_of b.meaning.source in record {
  world = with_push d.world d.flags b.home b.name x i;
  flags = globs_after (scope_of d.world b.home) d.flags b.home b.name x i;
}

-- those in which some were, one after another
abbrev pub with_bindings : Maps → List Binding → Maps
with_bindings d bs = fold with_binding d bs

-- An import binds the name that it stands for in its own module, a glob any name in its own module; no declaration is
-- made.
abbrev pub IsBroughtBy : List NamedImport → List GlobImport → Source → Binding → Type 0
IsBroughtBy is gs source.Declaration b = ⊥
IsBroughtBy is gs (source.Import k) b = (i : NamedImport) × Contains is i × (i.import ≡ k) × (b.home ≡ i.home) × (b.name ≡ i.name)
IsBroughtBy is gs (source.Glob k) b = (g : GlobImport) × Contains gs g × (g.import ≡ k) × (b.home ≡ g.into)

abbrev pub IsBrought : List NamedImport → List GlobImport → Binding → Type 0
IsBrought is gs b = IsBroughtBy is gs b.meaning.source b

-- ---- What modules show

-- the push of a binding
abbrev pub push_by : Binding → ScopePush
push_by b = push_of b.name (items_of b.namespace b.meaning) (import_of b.meaning.source)

-- the same, where its module is k
abbrev pub push_to : ModuleId → Binding → Option ScopePush
push_to k b = if same_module b.home k then Some (push_by b) else None

-- the pushes of some bindings that go to module k, in order
abbrev pub pushes_to : ModuleId → List Binding → List ScopePush
pushes_to k bs = filter_map (push_to k) bs

-- each module shows, behind what it showed, the pushes of these bindings that go to it
abbrev pub ShowMore : List Binding → Maps → Maps → Type 0
ShowMore bs old new =
    (k : ModuleId) (ps : List ScopePush) →
    Shows (scope_of old.world k) old.flags k ps → Shows (scope_of new.world k) new.flags k (ps ++ pushes_to k bs)

-- ---- Def maps, bound

-- Def maps come of others by what these imports and globs bring, one binding after another; so each module shows that
-- behind what it showed, and a name that it declared stays what it was.
pub record AreBound (is : List NamedImport) (gs : List GlobImport) (old new : Maps) : Type 0 where
  pub bindings : List Binding
  pub brought : All (IsBrought is gs) bindings
  pub maps : new ≡ with_bindings old bindings
  pub shown : ShowMore bindings old new

-- a slot was bound, or nothing was
abbrev pub IsBoundOrSame : Binding → Maps → Maps → Type 0
IsBoundOrSame b old new = (new ≡ with_binding old b) ⊎ (new ≡ old)

abbrev pub IsShownOrSame : Binding → Maps → Maps → Type 0
IsShownOrSame b old new = ShowMore (b ∷ []) old new ⊎ (new ≡ old)

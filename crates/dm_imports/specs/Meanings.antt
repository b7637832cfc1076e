-- What a name of a module means in one namespace: a definition, who sees it, by what it came into the module, and
-- whether it is ambiguous.
use Rattle.std.specs.Prelude.{Bool, true, false, Option, Some, None, if◌then◌else◌}
use Rattle.std.specs.Option.{ForSome, option_map}
use Rattle.dm_base.specs.declared.imports.ImportOrExternCrate.{ImportOrExternCrate}
use Rattle.dm_base.specs.declared.imports.ImportOrExternCrate.TheVariants as wide
use Rattle.dm_base.specs.declared.imports.ImportOrGlob.{ImportOrGlob}
use Rattle.dm_base.specs.declared.imports.ImportOrGlob.TheVariants as narrow
use Rattle.dm_base.specs.declared.item_ids.MacroId.{MacroId}
use Rattle.dm_base.specs.declared.item_ids.ModuleDefId.{ModuleDefId}
use Rattle.dm_base.specs.declared.item_ids.ModuleDefId.TheVariants as def
use Rattle.dm_base.specs.declared.per_ns.Item.{Item}
use Rattle.dm_base.specs.declared.per_ns.Namespace.{Namespace}
use Rattle.dm_base.specs.declared.per_ns.Namespace.TheVariants.{Types, Values, Macros}
use Rattle.dm_base.specs.declared.per_ns.PerNs.{PerNs}
use Rattle.dm_base.specs.declared.visibility.Visibility.TheVariants.{Public}
use Rattle.dm_base.specs.Visibility.{NamesKnown}
use Rattle.dm_maps.specs.Trees.{tree_of}
use Rattle.dm_maps.specs.World.{World}
use Rattle.dm_imports.specs.declared.joined.Joined.{Joined}
use Rattle.dm_imports.specs.declared.meaning.Meaning.{Meaning}
use Rattle.dm_imports.specs.declared.meaning.Source.{Source}
use Rattle.dm_imports.specs.declared.meaning.Source.TheVariants as source

-- by what a type or a macro came; an extern crate declares
abbrev pub source_of : Option ImportOrExternCrate → Source
source_of None = source.Declaration
source_of (Some (wide.ExternCrate e)) = source.Declaration
source_of (Some (wide.Import i)) = source.Import i
source_of (Some (wide.Glob g)) = source.Glob g

-- by what a value came
abbrev pub value_source : Option ImportOrGlob → Source
value_source None = source.Declaration
value_source (Some (narrow.Import i)) = source.Import i
value_source (Some (narrow.Glob g)) = source.Glob g

abbrev pub type_meaning : Item ModuleDefId ImportOrExternCrate → Meaning
type_meaning i = record { def = i.def; vis = i.vis; source = source_of i.import; is_ambiguous = false }

abbrev pub value_meaning : Item ModuleDefId ImportOrGlob → Meaning
value_meaning i = record { def = i.def; vis = i.vis; source = value_source i.import; is_ambiguous = false }

abbrev pub macro_meaning : Item MacroId ImportOrExternCrate → Meaning
macro_meaning i = record { def = def.MacroId i.def; vis = i.vis; source = source_of i.import; is_ambiguous = false }

-- the item of a namespace
abbrev pub in_namespace : Namespace → PerNs → Option Meaning
in_namespace Types x = option_map type_meaning x.types
in_namespace Values x = option_map value_meaning x.values
in_namespace Macros x = option_map macro_meaning x.macros

-- whether a module declares it
abbrev pub is_declared : Meaning → Bool
is_declared x = elim x.source [ source.Declaration ↦ true | _ ↦ false ]

-- what is there by itself, and seen by all
abbrev pub public_def : ModuleDefId → Meaning
public_def d = record { def = d; vis = Public; source = source.Declaration; is_ambiguous = false }

-- the module that its visibility names, if there is a meaning, is the world's
abbrev pub IsNamed : World → Option Meaning → Type 0
IsNamed w o = ForSome o (λ x. NamesKnown (tree_of w) x.vis)

-- What the globs of a module bring together: of one definition, the most permissive of the visibilities; where they
-- bring two definitions, or an ambiguous name, it is ambiguous, and seen by those alone who see all of them.
abbrev pub joined : Joined → Meaning
joined j = record j.first { vis = if j.is_ambiguous then j.least else j.most; is_ambiguous = j.is_ambiguous }

-- the modules that its visibilities name are the world's
pub record AreNamed (w : World) (j : Joined) : Type 0 where
  pub most : NamesKnown (tree_of w) j.most
  pub least : NamesKnown (tree_of w) j.least

-- Which pushes into a namespace are effective: explicit names shadow what a glob bound.
use Rattle.std.specs.Prelude.{◌&&◌, ◌||◌, Bool, true, false, not, Option, None, Some}
use Rattle.std.specs.Option.{option_and_then}
use Rattle.dm_base.specs.declared.ids.ModuleId.{ModuleId}
use Rattle.dm_base.specs.declared.imports.ImportOrExternCrate.{ImportOrExternCrate}
use Rattle.dm_base.specs.declared.item_ids.ModuleDefId.{ModuleDefId}
use Rattle.dm_base.specs.Names.{Name}
use Rattle.dm_base.specs.declared.per_ns.Item.{Item}
use Rattle.dm_base.specs.PerNs.{is_reresolved}
use Rattle.dm_scope.specs.Flags.{Flags, with_flag}

-- How a namespace compares and converts its imports and definitions.
pub record Reading (D I : Type 0) : Type 0 where
  pub same_import : I → I → Bool
  pub same_def : D → D → Bool
  pub globs : I → Bool
  pub narrowed : ImportOrExternCrate → Option I
  pub widened : I → ImportOrExternCrate
  pub widened_def : D → ModuleDefId

abbrev pub reading : {D I : Type 0} → (I → I → Bool) → (D → D → Bool) → (I → Bool) → (ImportOrExternCrate → Option I) → (I → ImportOrExternCrate) → (D → ModuleDefId) → Reading D I
reading same_import same_def globs narrowed widened widened_def =
    record { same_import = same_import; same_def = same_def; globs = globs; narrowed = narrowed; widened = widened; widened_def = widened_def }

abbrev pub is_glob_by : {I : Type 0} → (I → Bool) → Option I → Bool
is_glob_by globs None = false
is_glob_by globs (Some i) = globs i

module _ {D I : Type 0} (r : Reading D I) where
  -- the import of a push, as the namespace stores and records it
  abbrev pub import_of : Option ImportOrExternCrate → Option I
  import_of by = option_and_then r.narrowed by

  abbrev pub is_glob : Option I → Bool
  is_glob import = is_glob_by r.globs import

  -- both are there, and they are one import
  abbrev pub is_same : Option I → Option I → Bool
  is_same None other = false
  is_same (Some i) None = false
  is_same (Some i) (Some j) = r.same_import i j

  -- Whether a push is effective, from what is bound under its name and whether the glob flag stands. A vacant name is
  -- bound. Where the name is bound a glob push does nothing, since globs shadow nothing. Any other push replaces the
  -- binding if the glob flag stood, since explicit names shadow globs, or if it resolves the stored import anew, to
  -- another definition: an import may resolve to another one after more names were bound.
  abbrev pub writes : Option (Item D I) → Bool → Item D I → Option I → Bool
  writes None flag item import = true
  writes (Some old) flag item import =
      not (is_glob import) && (flag || is_reresolved r.same_import r.same_def old item.def import)

  -- the flags after an effective push: a glob's is set, and any other push's is cleared
  abbrev pub flagged : Flags → ModuleId → Name → Option I → Flags
  flagged fs m name import = with_flag fs m name (is_glob import)

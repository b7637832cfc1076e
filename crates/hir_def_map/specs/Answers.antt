-- Results of path resolution, and how they are merged.
use Rattle.std.specs.Prelude.{ℕ, ◌+◌, ◌||◌, if◌then◌else◌, Bool, true, false, List, [], ◌∷◌, Some, None}
use Rattle.std.specs.Option.{option_map}
use Rattle.dm_base.specs.declared.fields_shape.FieldsShape.{FieldsShape}
use Rattle.dm_base.specs.declared.ids.EnumVariantId.{EnumVariantId}
use Rattle.dm_base.specs.declared.item_ids.ModuleDefId.{ModuleDefId}
use Rattle.dm_base.specs.declared.item_ids.ModuleDefId.TheVariants as def
use Rattle.dm_base.specs.declared.imports.ImportOrExternCrate.{ImportOrExternCrate}
use Rattle.dm_base.specs.declared.per_ns.Item.{Item}
use Rattle.dm_base.specs.declared.per_ns.PerNs.{PerNs}
use Rattle.dm_base.specs.PerNs.{nothing, over}
use Rattle.dm_base.specs.Overlays.{greatest}
use Rattle.dm_base.specs.Kinds.{has_constructor}
use Rattle.hir_def_map.specs.declared.path_resolution.result.ReachedFixedPoint.{ReachedFixedPoint}
use Rattle.hir_def_map.specs.declared.path_resolution.result.ReachedFixedPoint.TheVariants.{Yes, No}
use Rattle.hir_def_map.specs.declared.path_resolution.result.ResolvePathResult.{ResolvePathResult}
use Rattle.hir_def_map.specs.declared.path_resolution.result.ResolvePathResultPrefixInfo.{ResolvePathResultPrefixInfo}

abbrev pub no_flags : ResolvePathResultPrefixInfo
no_flags = record { differing_crate = false; enum_variant = false }

-- what was reached
abbrev pub reached : PerNs → ResolvePathResult
reached x = record { resolved_def = x; segment_index = None; reached_fixedpoint = Yes; prefix_info = no_flags }

abbrev pub nothing_yes : ResolvePathResult
nothing_yes = reached nothing

abbrev pub nothing_no : ResolvePathResult
nothing_no = record (reached nothing) { reached_fixedpoint = No }

abbrev pub types_alone : Item ModuleDefId ImportOrExternCrate → PerNs
types_alone i = record { types = Some i; values = None; macros = None }

-- the types item alone, at the segment that it leaves unresolved
abbrev pub stopped : Item ModuleDefId ImportOrExternCrate → ℕ → ResolvePathResult
stopped i j = record (reached (types_alone i)) { segment_index = Some j }

-- a variant: a type, and also a value where it has a constructor; it has the visibility of the enum's binding
abbrev pub variant_answer : Item ModuleDefId ImportOrExternCrate → EnumVariantId × FieldsShape → ResolvePathResult
variant_answer i v = record (reached (record {
  types = Some (record { def = def.EnumVariantId v.0; vis = i.vis; import = None });
  values = if has_constructor v.1 then Some (record { def = def.EnumVariantId v.0; vis = i.vis; import = None }) else None;
  macros = None;
})) { prefix_info = record { differing_crate = false; enum_variant = true } }

-- the answer that another crate gave to the segments from j on
abbrev pub from_other_crate : ℕ → ResolvePathResult → ResolvePathResult
from_other_crate j a = record {
  resolved_def = a.resolved_def;
  segment_index = option_map (λ i. i + j) a.segment_index;
  reached_fixedpoint = Yes;
  prefix_info = record { differing_crate = true; enum_variant = a.prefix_info.enum_variant };
}

-- yes if either is
abbrev pub either_yes : ReachedFixedPoint → ReachedFixedPoint → ReachedFixedPoint
either_yes Yes b = Yes
either_yes No b = b

-- each flag if either has it
abbrev pub either_flags : ResolvePathResultPrefixInfo → ResolvePathResultPrefixInfo → ResolvePathResultPrefixInfo
either_flags a b = record { differing_crate = a.differing_crate || b.differing_crate; enum_variant = a.enum_variant || b.enum_variant }

-- in each namespace the first item; yes if either is; each flag if either has it; the greatest index
abbrev pub over_answer : ResolvePathResult → ResolvePathResult → ResolvePathResult
over_answer a b = record {
  resolved_def = over a.resolved_def b.resolved_def;
  segment_index = greatest a.segment_index b.segment_index;
  reached_fixedpoint = either_yes a.reached_fixedpoint b.reached_fixedpoint;
  prefix_info = either_flags a.prefix_info b.prefix_info;
}

-- an answer of a module that lies in a block, or does not: a block's is yes
abbrev pub yes_in_block : Bool → ResolvePathResult → ResolvePathResult
yes_in_block in_block a = record a { reached_fixedpoint = either_yes a.reached_fixedpoint (if in_block then Yes else No) }

abbrev pub merged : List ResolvePathResult → ResolvePathResult
merged [] = nothing_no
merged (a ∷ rest) = over_answer a (merged rest)

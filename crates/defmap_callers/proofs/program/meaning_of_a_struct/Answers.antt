use Rattle.std.proofs.Common.{◌≡◌, ◌∙◌, [], ◌∷◌, Some, None, ap, refl, slice_get, subst, sym}
use Rattle.std.specs.Option.{option_map_or}
use Rattle.std.specs.Prelude.{codes}
use Rattle.dm_base.specs.Names.{Name}
use Rattle.dm_base.specs.declared.ids.Crate.{Crate}
use Rattle.dm_base.specs.declared.edition.Edition.TheVariants.{Edition2021}
use Rattle.dm_base.specs.declared.source.EditionedFileId.{EditionedFileId}
use Rattle.dm_base.specs.Path.{Path}
use Rattle.dm_base.specs.PerNs.{definition}
use Rattle.dm_base.specs.declared.mod_path.PathKind.TheVariants.{Plain}
use Rattle.dm_base.specs.declared.per_ns.PerNs.{PerNs}
use Rattle.dm_def_map.specs.Maps.{LocalMap, Map}
use Rattle.dm_def_map.specs.declared.modules.modes.BuiltinShadowMode.TheVariants.{Module}
use Rattle.dm_maps.specs.Build.{fresh_crate}
use Rattle.dm_maps.specs.World.{World, crate_map}
use Rattle.hir_def_map.specs.Paths.{answer, asked}
use Rattle.hir_def_map.specs.declared.path_resolution.result.ResolveMode.TheVariants.{Other}
use Rattle.defmap_callers.specs.Program.{is_struct, root, struct_0, tables_of, world_of}
use Rattle.defmap_callers.proofs.program.meaning_of_a_struct.Goals as goal

abbrev first : Crate
first = record { 0 = 0 }

-- the map of that crate
abbrev the_map : EditionedFileId → Map
the_map f = option_map_or (λ m. m) (crate_map (world_of (tables_of f) (codes "S")) first) (fresh_crate first Edition2021 f root)

-- what is found in the root of a world, by its own extern prelude
abbrev Finds : World → Path → PerNs → Type 0
Finds w p r = (map : Map) (local : LocalMap) → crate_map w first ≡ Some map → slice_get w.local_maps 0 ≡ Some local → r ≡ (answer w local (asked map.root Other Module None p.kind) p.segments).resolved_def

found : (f : EditionedFileId) (w : World) (p : Path) (r : PerNs) → w ≡ world_of (tables_of f) (codes "S") → p ≡ record { kind = Plain; segments = codes "S" ∷ [] } → Finds w p r → definition r.types ≡ Some struct_0
found f w p r is path value =
    let at : Finds (world_of (tables_of f) (codes "S")) (record { kind = Plain; segments = codes "S" ∷ [] }) r = subst (λ (x : World × Path). Finds x.0 x.1 r) (λ k. (is k, path k)) value in
    ap (λ (x : PerNs). definition x.types) (at (the_map f) [] refl refl) ∙ is_struct f

pub returns : goal.returns
returns c =
    let world = c.in_ok-world.ensures ∙ (λ k. world_of (c.in_ok-tables.ensures k) (c.in_ok-new.ensures k)) in
    c.take_types.ensures ∙ found c.args.file c.in_ok-world.world c.in_ok-path.field-0 c.meaning_in_root-found.result world c.in_ok-path.ensures c.meaning_in_root-found.ensures.value

-- The ids, names and places that most proofs cite, re-exported from one place. Declares nothing.
pub use Rattle.dm_base.specs.Names.{Name, find_name, same_name}
pub use Rattle.dm_base.specs.declared.fields_shape.FieldsShape.{FieldsShape}
pub use Rattle.dm_base.specs.declared.ids.BlockId.{BlockId}
pub use Rattle.dm_base.specs.declared.ids.Crate.{Crate}
pub use Rattle.dm_base.specs.declared.ids.EnumId.{EnumId}
pub use Rattle.dm_base.specs.declared.ids.EnumVariantId.{EnumVariantId}
pub use Rattle.dm_base.specs.declared.ids.ExternCrateId.{ExternCrateId}
pub use Rattle.dm_base.specs.declared.ids.MapId.{MapId}
pub use Rattle.dm_base.specs.declared.ids.ModuleId.{ModuleId}
pub use Rattle.dm_base.specs.declared.ids.TraitId.{TraitId}
pub use Rattle.dm_base.specs.declared.ids.UseId.{UseId}
pub use Rattle.dm_base.specs.declared.imports.ImportOrDef.{ImportOrDef}
pub use Rattle.dm_base.specs.declared.imports.ImportOrExternCrate.{ImportOrExternCrate}
pub use Rattle.dm_base.specs.declared.imports.ImportOrGlob.{ImportOrGlob}
pub use Rattle.dm_base.specs.declared.item_ids.AssocItemId.{AssocItemId}
pub use Rattle.dm_base.specs.declared.item_ids.ItemContainerId.{ItemContainerId}
pub use Rattle.dm_base.specs.declared.item_ids.ItemKind.{ItemKind}
pub use Rattle.dm_base.specs.declared.item_ids.MacroId.{MacroId}
pub use Rattle.dm_base.specs.declared.item_ids.ModuleDefId.{ModuleDefId}
pub use Rattle.dm_base.specs.declared.item_ids.VariantId.{VariantId}
pub use Rattle.dm_base.specs.declared.macros.MacroLoc.{MacroLoc}
pub use Rattle.dm_base.specs.declared.source.AstId.{AstId}
pub use Rattle.dm_base.specs.declared.edition.Edition.{Edition}
pub use Rattle.dm_base.specs.declared.source.EditionedFileId.{EditionedFileId}
pub use Rattle.dm_maps.specs.declared.place.Place.{Place}

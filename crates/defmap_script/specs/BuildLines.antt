-- Grammar of the lines that add to a builder.
use Rattle.std.specs.Prelude.{ℕ, List, [], ◌∷◌, Option, Some, None, codes}
use Rattle.std.specs.Option.{option_map, option_and_then}
use Rattle.dm_base.specs.Names.{Name, find_name}
use Rattle.dm_base.specs.declared.fields_shape.FieldsShape.{FieldsShape}
use Rattle.dm_base.specs.declared.ids.Crate.{Crate}
use Rattle.dm_base.specs.declared.ids.EnumId.{EnumId}
use Rattle.dm_base.specs.declared.ids.ExternCrateId.{ExternCrateId}
use Rattle.dm_base.specs.declared.ids.FileAstId.{FileAstId}
use Rattle.dm_base.specs.declared.ids.FileId.{FileId}
use Rattle.dm_base.specs.declared.ids.ModuleId.{ModuleId}
use Rattle.dm_base.specs.declared.item_ids.ItemKind.{ItemKind}
use Rattle.dm_base.specs.declared.item_ids.MacroId.{MacroId}
use Rattle.dm_base.specs.declared.macros.MacroLoc.{MacroLoc}
use Rattle.dm_base.specs.declared.edition.Edition.{Edition}
use Rattle.dm_base.specs.declared.visibility.Visibility.{Visibility}
use Rattle.dm_maps.specs.declared.rules.Rules.{Rules}
use Rattle.defmap_script.specs.declared.build_lines.Addition.{Addition}
use Rattle.defmap_script.specs.declared.build_lines.Addition.TheVariants as additions
use Rattle.defmap_script.specs.declared.build_words.MapName.{MapName}
use Rattle.defmap_script.specs.Words.{number, editions, item_kinds, visibility}
use Rattle.defmap_script.specs.BuildWords.{map_name, shapes, versions, macro_id, macro_loc, extern_crate}

-- what a line adds, or sets
pub data Added : Type 0 where
  NewCrate : Edition → FileId → Added
  NewModule : ModuleId → Name → Visibility → Added
  NewBlock : ModuleId → FileAstId → Added
  NewUse : ModuleId → Added
  NewItem : ItemKind → ModuleId → Added
  NewVariant : EnumId → Name → FieldsShape → Added
  NewMacro : ModuleId → MacroLoc → Added
  NewPrelude : MapName → ModuleId → Added
  NewMacroUse : MapName → Name → MacroId → Option ExternCrateId → Added
  NewExtern : Crate → Name → ModuleId → Option ExternCrateId → Added
  NewLegacy : ModuleId → Name → MacroId → Added
  NewRaw : Name → Added
  NewRules : Rules → Added

-- what an addition adds
abbrev pub added : Addition → Added
added (additions.Crate e f) = NewCrate e f
added (additions.Module m n v) = NewModule m n.now v
added (additions.Block m b) = NewBlock m b
added (additions.Use m) = NewUse m
added (additions.Item k m) = NewItem k m
added (additions.Variant e n s) = NewVariant e n.now s
added (additions.Macro m l) = NewMacro m l
added (additions.Prelude map m) = NewPrelude map m
added (additions.MacroUse map n m x) = NewMacroUse map n.now m x
added (additions.Extern k n m x) = NewExtern k n.now m x
added (additions.Legacy m n l) = NewLegacy m n.now l
added (additions.Raw n) = NewRaw n.now
added (additions.Rules r) = NewRules r

-- the words behind the first of each kind of line
abbrev pub crate_line : List Name → Option Added
crate_line (e ∷ f ∷ []) = option_and_then (λ edition. option_map (λ n. NewCrate edition (record { 0 = n })) (number f)) (find_name e editions)
crate_line _ = None

abbrev pub module_line : List Name → Option Added
module_line (m ∷ name ∷ v ∷ []) = option_and_then (λ n. option_map (λ vis. NewModule (record { 0 = n }) name vis) (visibility v)) (number m)
module_line _ = None

abbrev pub block_line : List Name → Option Added
block_line (m ∷ a ∷ []) = option_and_then (λ n. option_map (λ ast. NewBlock (record { 0 = n }) (record { 0 = ast })) (number a)) (number m)
block_line _ = None

abbrev pub use_line : List Name → Option Added
use_line (m ∷ []) = option_map (λ n. NewUse (record { 0 = n })) (number m)
use_line _ = None

abbrev pub item_line : List Name → Option Added
item_line (k ∷ m ∷ []) = option_and_then (λ kind. option_map (λ n. NewItem kind (record { 0 = n })) (number m)) (find_name k item_kinds)
item_line _ = None

abbrev pub variant_line : List Name → Option Added
variant_line (e ∷ name ∷ s ∷ []) = option_and_then (λ n. option_map (λ shape. NewVariant (record { 0 = n }) name shape) (find_name s shapes)) (number e)
variant_line _ = None

abbrev pub macro_line : List Name → Option Added
macro_line (kind ∷ m ∷ style ∷ []) = option_and_then (λ n. option_map (λ loc. NewMacro (record { 0 = n }) loc) (macro_loc kind style)) (number m)
macro_line _ = None

abbrev pub prelude_line : List Name → Option Added
prelude_line (map ∷ m ∷ []) = option_and_then (λ in_map. option_map (λ n. NewPrelude in_map (record { 0 = n })) (number m)) (map_name map)
prelude_line _ = None

abbrev pub macro_use_parts : Name → Option MapName → Option MacroId → Option (Option ExternCrateId) → Option Added
macro_use_parts name (Some map) (Some m) (Some x) = Some (NewMacroUse map name m x)
macro_use_parts name _ _ _ = None

abbrev pub macro_use_line : List Name → Option Added
macro_use_line (map ∷ name ∷ m ∷ x ∷ []) = macro_use_parts name (map_name map) (macro_id m) (extern_crate x)
macro_use_line _ = None

abbrev pub extern_parts : Name → Option ℕ → Option ℕ → Option (Option ExternCrateId) → Option Added
extern_parts name (Some k) (Some m) (Some x) = Some (NewExtern (record { 0 = k }) name (record { 0 = m }) x)
extern_parts name _ _ _ = None

abbrev pub extern_line : List Name → Option Added
extern_line (k ∷ name ∷ m ∷ x ∷ []) = extern_parts name (number k) (number m) (extern_crate x)
extern_line _ = None

abbrev pub legacy_line : List Name → Option Added
legacy_line (m ∷ name ∷ l ∷ []) = option_and_then (λ n. option_map (λ id. NewLegacy (record { 0 = n }) name id) (macro_id l)) (number m)
legacy_line _ = None

abbrev pub raw_line : List Name → Option Added
raw_line (name ∷ []) = Some (NewRaw name)
raw_line _ = None

abbrev pub rules_line : List Name → Option Added
rules_line (v ∷ []) = option_map (λ r. NewRules r) (find_name v versions)
rules_line _ = None

-- what reads the words behind each first word
abbrev pub addition_forms : List (Name × (List Name → Option Added))
addition_forms =
    (codes "crate", crate_line) ∷ (codes "module", module_line) ∷ (codes "block", block_line) ∷ (codes "use", use_line)
    ∷ (codes "item", item_line) ∷ (codes "variant", variant_line) ∷ (codes "macro", macro_line) ∷ (codes "prelude", prelude_line)
    ∷ (codes "macrouse", macro_use_line) ∷ (codes "extern", extern_line) ∷ (codes "legacy", legacy_line)
    ∷ (codes "raw", raw_line) ∷ (codes "rules", rules_line) ∷ []

abbrev pub addition : List Name → Option Added
addition [] = None
addition (w ∷ ws) = option_and_then (λ form. form ws) (find_name w addition_forms)

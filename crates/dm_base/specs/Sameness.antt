-- Equality of imports, definitions, AST items, and sets of items (`PerNs`) is structural.
use Rattle.std.specs.Prelude.{◌≡◌, ◌&&◌, Bool, true, Option, Some, None, refl}
use Rattle.std.specs.Option.{option_eq}
use Rattle.std.proofs.Common.{ap}
use Rattle.std.proofs.lemmas.Bool.{and_parts}
use Rattle.dm_base.specs.declared.imports.ImportOrExternCrate.{ImportOrExternCrate}
use Rattle.dm_base.specs.declared.imports.ImportOrGlob.{ImportOrGlob}
use Rattle.dm_base.specs.declared.item_ids.MacroId.{MacroId}
use Rattle.dm_base.specs.declared.item_ids.ModuleDefId.{ModuleDefId}
use Rattle.dm_base.specs.declared.per_ns.Item.{Item}
use Rattle.dm_base.specs.declared.per_ns.PerNs.{PerNs}
use Rattle.dm_base.specs.declared.source.AstId.{AstId}
use Rattle.dm_base.specs.declared.visibility.Visibility.{Visibility}
use Rattle.dm_base.specs.contracts.imports.ImportOrExternCratePartialEq.TheImpl as import_eq
use Rattle.dm_base.specs.contracts.imports.ImportOrGlobPartialEq.TheImpl as value_import_eq
use Rattle.dm_base.specs.contracts.item_ids.MacroIdPartialEq.TheImpl as macro_eq
use Rattle.dm_base.specs.contracts.item_ids.ModuleDefIdPartialEq.TheImpl as def_eq
use Rattle.dm_base.specs.contracts.source.AstIdPartialEq.TheImpl as ast_eq
use Rattle.dm_base.specs.contracts.value_eq.ImportOrExternCrateValueEq.TheImpl.Laws as import_value
use Rattle.dm_base.specs.contracts.value_eq.ImportOrGlobValueEq.TheImpl.Laws as value_import_value
use Rattle.dm_base.specs.contracts.value_eq.MacroIdValueEq.TheImpl.Laws as macro_value
use Rattle.dm_base.specs.contracts.value_eq.ModuleDefIdValueEq.TheImpl.Laws as def_value
use Rattle.dm_base.specs.contracts.value_eq.VisibilityValueEq.TheImpl.Laws as visibility_value
use Rattle.dm_base.specs.contracts.visibility.VisibilityPartialEq.TheImpl as visibility_eq
use Rattle.dm_base.specs.contracts.per_ns.PerNsPartialEq.TheImpl as per_ns_eq

-- imports of types and macros
abbrev pub same_import : ImportOrExternCrate → ImportOrExternCrate → Bool
same_import = import_eq.ghosts.eq

-- imports of values
abbrev pub same_value_import : ImportOrGlob → ImportOrGlob → Bool
same_value_import = value_import_eq.ghosts.eq

abbrev pub same_macro : MacroId → MacroId → Bool
same_macro = macro_eq.ghosts.eq

abbrev pub same_def : ModuleDefId → ModuleDefId → Bool
same_def = def_eq.ghosts.eq

-- items in syntax
abbrev pub same_ast : AstId → AstId → Bool
same_ast = ast_eq.ghosts.eq

abbrev pub same_visibility : Visibility → Visibility → Bool
same_visibility = visibility_eq.ghosts.eq

-- optional values are one where they are both missing, or both there and one
pub options_same : {A : Type 0} {E : A → A → Bool} → ((a b : A) → E a b ≡ true → a ≡ b) → (x y : Option A) → option_eq E x y ≡ true → x ≡ y
options_same same None None e = refl
options_same same None (Some y) e = cc
options_same same (Some x) None e = cc
options_same same (Some x) (Some y) e = ap Some (same x y e)

-- items are one where their definitions, visibilities and imports are
pub item_same : {D I : Type 0} {E : D → D → Bool} {F : I → I → Bool} → ((a b : D) → E a b ≡ true → a ≡ b) → ((a b : I) → F a b ≡ true → a ≡ b)
    → (x y : Item D I) → (E x.def y.def && (same_visibility x.vis y.vis && option_eq F x.import y.import)) ≡ true → x ≡ y
item_same defs imports x y e =
    let first = and_parts _ _ e in
    let rest = and_parts _ _ first.1 in
    λ i. record { def = defs x.def y.def first.0 i; vis = visibility_value.same-law x.vis y.vis rest.0 i; import = options_same imports x.import y.import rest.1 i }

-- sets of items are one where they have the same items
pub per_ns_same : (x y : PerNs) → per_ns_eq.ghosts.eq x y ≡ true → x ≡ y
per_ns_same x y e =
    let first = and_parts _ _ e in
    let rest = and_parts _ _ first.1 in
    λ i. record {
      types = options_same (item_same def_value.same-law import_value.same-law) x.types y.types first.0 i;
      values = options_same (item_same def_value.same-law value_import_value.same-law) x.values y.values rest.0 i;
      macros = options_same (item_same macro_value.same-law import_value.same-law) x.macros y.macros rest.1 i;
    }

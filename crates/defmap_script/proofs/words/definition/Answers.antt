use Rattle.std.proofs.Common.{◌≡◌, ◌∙◌, Option, Some, ap, sym}
use Rattle.std.specs.Option.{option_map, option_and_then}
use Rattle.dm_base.specs.Names.{Name}
use Rattle.dm_base.specs.declared.item_ids.ModuleDefId.{ModuleDefId}
use Rattle.dm_base.specs.declared.item_ids.AdtId.TheVariants as adt
use Rattle.dm_base.specs.declared.item_ids.MacroId.TheVariants as «macro»
use Rattle.dm_base.specs.declared.item_ids.ModuleDefId.TheVariants as def
use Rattle.defmap_script.specs.Words.{at_colon, read_by, definition, definition_forms}
use Rattle.defmap_script.proofs.words.definition.Goals as goal

-- a word of a known form, by what that form reads behind the colon
formed : (w k named r : Name) (o : Option ModuleDefId) → Some (k, r) ≡ at_colon w → k ≡ named → o ≡ read_by definition_forms (named, r) → o ≡ definition w
formed w k named r o cut is there = there ∙ sym (ap (λ n. read_by definition_forms (n, r)) is) ∙ ap (option_and_then (read_by definition_forms)) cut

pub returns-in-mod : goal.returns-in-mod
returns-in-mod c = formed c.args.word.now c.in_ok-kind.kind.now _ c.in_ok-kind.rest.now _ c.in_ok-kind.ensures c.in-mod.is (ap (option_map (λ n. def.ModuleId (record { 0 = n }))) c.in_ok-number.ensures)

pub returns-in-fn : goal.returns-in-fn
returns-in-fn c = formed c.args.word.now c.in_ok-kind.kind.now _ c.in_ok-kind.rest.now _ c.in_ok-kind.ensures c.in-fn.is (ap (option_map (λ n. def.FunctionId (record { 0 = n }))) c.in_ok-number.ensures)

pub returns-in-struct : goal.returns-in-struct
returns-in-struct c = formed c.args.word.now c.in_ok-kind.kind.now _ c.in_ok-kind.rest.now _ c.in_ok-kind.ensures c.in-struct.is (ap (option_map (λ n. def.AdtId (adt.StructId (record { 0 = n })))) c.in_ok-number.ensures)

pub returns-in-union : goal.returns-in-union
returns-in-union c = formed c.args.word.now c.in_ok-kind.kind.now _ c.in_ok-kind.rest.now _ c.in_ok-kind.ensures c.in-union.is (ap (option_map (λ n. def.AdtId (adt.UnionId (record { 0 = n })))) c.in_ok-number.ensures)

pub returns-in-enum : goal.returns-in-enum
returns-in-enum c = formed c.args.word.now c.in_ok-kind.kind.now _ c.in_ok-kind.rest.now _ c.in_ok-kind.ensures c.in-enum.is (ap (option_map (λ n. def.AdtId (adt.EnumId (record { 0 = n })))) c.in_ok-number.ensures)

pub returns-in-const : goal.returns-in-const
returns-in-const c = formed c.args.word.now c.in_ok-kind.kind.now _ c.in_ok-kind.rest.now _ c.in_ok-kind.ensures c.in-const.is (ap (option_map (λ n. def.ConstId (record { 0 = n }))) c.in_ok-number.ensures)

pub returns-in-static : goal.returns-in-static
returns-in-static c = formed c.args.word.now c.in_ok-kind.kind.now _ c.in_ok-kind.rest.now _ c.in_ok-kind.ensures c.in-static.is (ap (option_map (λ n. def.StaticId (record { 0 = n }))) c.in_ok-number.ensures)

pub returns-in-trait : goal.returns-in-trait
returns-in-trait c = formed c.args.word.now c.in_ok-kind.kind.now _ c.in_ok-kind.rest.now _ c.in_ok-kind.ensures c.in-trait.is (ap (option_map (λ n. def.TraitId (record { 0 = n }))) c.in_ok-number.ensures)

pub returns-in-type : goal.returns-in-type
returns-in-type c = formed c.args.word.now c.in_ok-kind.kind.now _ c.in_ok-kind.rest.now _ c.in_ok-kind.ensures c.in-type.is (ap (option_map (λ n. def.TypeAliasId (record { 0 = n }))) c.in_ok-number.ensures)

pub returns-in-variant : goal.returns-in-variant
returns-in-variant c = formed c.args.word.now c.in_ok-kind.kind.now _ c.in_ok-kind.rest.now _ c.in_ok-kind.ensures c.in-variant.is (ap (option_map (λ n. def.EnumVariantId (record { 0 = n }))) c.in_ok-number.ensures)

pub returns-in-macro2 : goal.returns-in-macro2
returns-in-macro2 c = formed c.args.word.now c.in_ok-kind.kind.now _ c.in_ok-kind.rest.now _ c.in_ok-kind.ensures c.in-macro2.is (ap (option_map (λ n. def.MacroId («macro».Macro2Id (record { 0 = n })))) c.in_ok-number.ensures)

pub returns-in-rules : goal.returns-in-rules
returns-in-rules c = formed c.args.word.now c.in_ok-kind.kind.now _ c.in_ok-kind.rest.now _ c.in_ok-kind.ensures c.in-rules.is (ap (option_map (λ n. def.MacroId («macro».MacroRulesId (record { 0 = n })))) c.in_ok-number.ensures)

pub returns-in-proc : goal.returns-in-proc
returns-in-proc c = formed c.args.word.now c.in_ok-kind.kind.now _ c.in_ok-kind.rest.now _ c.in_ok-kind.ensures c.in-proc.is (ap (option_map (λ n. def.MacroId («macro».ProcMacroId (record { 0 = n })))) c.in_ok-number.ensures)

-- Grammar of the words of the lines that build. A word of another form is parsed to none.
use Rattle.std.specs.Prelude.{ℕ, ◌==◌, nat_lt, List, [], ◌∷◌, Option, Some, None, if◌then◌else◌, codes}
use Rattle.std.specs.Option.{option_map, option_map_or, option_and_then, option_or}
use Rattle.dm_base.specs.Names.{Name, same_name, find_name}
use Rattle.dm_base.specs.declared.fields_shape.FieldsShape.{FieldsShape}
use Rattle.dm_base.specs.declared.fields_shape.FieldsShape.TheVariants.{Record, Tuple, Unit}
use Rattle.dm_base.specs.declared.ids.ExternCrateId.{ExternCrateId}
use Rattle.dm_base.specs.declared.item_ids.MacroId.{MacroId}
use Rattle.dm_base.specs.declared.macros.MacroExpander.{MacroExpander}
use Rattle.dm_base.specs.declared.macros.MacroExpander.TheVariants.{Declarative, BuiltIn, BuiltInEager, BuiltInAttr, BuiltInDerive, UnimplementedBuiltIn}
use Rattle.dm_base.specs.declared.macros.MacroLoc.{MacroLoc}
use Rattle.dm_base.specs.declared.macros.MacroLoc.TheVariants as loc
use Rattle.dm_base.specs.declared.macros.ProcMacroKind.{ProcMacroKind}
use Rattle.dm_base.specs.declared.macros.ProcMacroKind.TheVariants as proc
use Rattle.dm_maps.specs.declared.rules.Rules.{Rules}
use Rattle.dm_maps.specs.declared.rules.Rules.TheVariants.{V1, V2}
use Rattle.defmap_script.specs.declared.build_words.MapName.{MapName}
use Rattle.defmap_script.specs.declared.build_words.MapName.TheVariants as named
use Rattle.defmap_script.specs.Words.{number, Forms, by_form, macro_forms}

-- what is behind a first byte
abbrev pub behind : ℕ → Name → Option Name
behind c [] = None
behind c (x ∷ xs) = if x == c then Some xs else None

abbrev pub crate_named : Name → Option MapName
crate_named w = option_map (λ n. named.Crate (record { 0 = n })) (number w)

abbrev pub block_named : Name → Option MapName
block_named w = option_map (λ n. named.Block (record { 0 = n })) (number w)

-- `c` and the number of a crate, or `b` and that of a block
abbrev pub map_name : Name → Option MapName
map_name w = option_map_or crate_named (behind 99 w) (option_and_then block_named (behind 98 w))

abbrev pub shapes : List (Name × FieldsShape)
shapes = (codes "record", Record) ∷ (codes "tuple", Tuple) ∷ (codes "unit", Unit) ∷ []

-- `1` or `2`, as they are written here
abbrev pub versions : List (Name × Rules)
versions = (codes "1", V1) ∷ (codes "2", V2) ∷ []

-- `macro2:N`, `rules:N` or `proc:N`
abbrev pub macro_id : Name → Option MacroId
macro_id w = by_form macro_forms w

-- ---- The styles of macros

abbrev pub expanders : List (Name × MacroExpander)
expanders =
    (codes "builtin", BuiltIn) ∷ (codes "eager", BuiltInEager) ∷ (codes "attr", BuiltInAttr)
    ∷ (codes "derive", BuiltInDerive) ∷ (codes "unimplemented", UnimplementedBuiltIn) ∷ []

-- a set of styles is a number below 8
abbrev pub expander_forms : Forms MacroExpander
expander_forms =
    (codes "declarative", λ w. option_and_then (λ n. if nat_lt n 8 then Some (Declarative (record { 0 = n })) else None) (number w)) ∷ []

-- `builtin`, `eager`, `attr`, `derive`, `unimplemented`, or `declarative:B`
abbrev pub expander : Name → Option MacroExpander
expander w = option_or (find_name w expanders) (by_form expander_forms w)

abbrev pub proc_kinds : List (Name × ProcMacroKind)
proc_kinds = (codes "custom_derive", proc.CustomDerive) ∷ (codes "bang", proc.Bang) ∷ (codes "attr", proc.Attr) ∷ []

-- what reads the style behind each kind of macro
abbrev pub macro_kinds : List (Name × (Name → Option MacroLoc))
macro_kinds =
    (codes "macro2", λ w. option_map (λ e. loc.Macro2 e) (expander w)) ∷ (codes "rules", λ w. option_map (λ e. loc.MacroRules e) (expander w))
    ∷ (codes "proc", λ w. option_map (λ k. loc.Proc k) (find_name w proc_kinds)) ∷ []

-- what a macro is, by the words of its kind and its style
abbrev pub macro_loc : Name → Name → Option MacroLoc
macro_loc kind style = option_and_then (λ form. form style) (find_name kind macro_kinds)

-- `none`, or the number of an extern crate
abbrev pub extern_crate : Name → Option (Option ExternCrateId)
extern_crate w = if same_name w (codes "none") then Some None else option_map (λ n. Some (record { 0 = n })) (number w)

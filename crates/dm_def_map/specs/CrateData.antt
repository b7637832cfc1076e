-- The data of a crate that its def map and the def maps of its blocks share.
use Rattle.std.specs.Prelude.{ℕ, Bool, true, false, ◌||◌, nat_eq, List, [], ◌∷◌, ◌++◌, Option, None, Some, codes}
use Rattle.std.specs.List.{fold, list_any}
use Rattle.std.specs.Map.{lookup}
use Rattle.std.specs.Option.{option_map_or}
use Rattle.indexmap.specs.IndexMap.{insert_entry}
use Rattle.indexmap.specs.IndexSet.{insert_key}
use Rattle.dm_base.specs.declared.ids.FunctionId.{FunctionId}
use Rattle.dm_base.specs.declared.ids.ProcMacroId.{ProcMacroId}
use Rattle.dm_base.specs.Names.{same_name}
use Rattle.dm_def_map.specs.declared.crate_data.crate_setting.CrateSetting.{CrateSetting}
use Rattle.dm_def_map.specs.declared.crate_data.crate_setting.CrateSetting.TheVariants.{NoStd, NoCore, CoherenceIsCore, RecursionLimit, Tool, Feature, ProcMacro}

-- a symbol is its bytes
abbrev pub Symbol : Type 0
Symbol = List ℕ

pub record CrateData : Type 0 where
  -- whether the crate is `no_std`, and `no_core`
  pub no_std : Bool
  pub no_core : Bool
  pub coherence_is_core : Bool
  pub recursion_limit : Option ℕ
  -- the registered tools, whose attributes it may have, and the unstable features that it enables
  pub tools : List Symbol
  pub features : List Symbol
  -- the procedural macro that each function defines, and the function of each
  pub macro_of_fn : List (FunctionId × ProcMacroId)
  pub fn_of_macro : List (ProcMacroId × FunctionId)

-- the data of a new crate
abbrev pub fresh_data : CrateData
fresh_data = record {
  no_std = false;
  no_core = false;
  coherence_is_core = false;
  recursion_limit = None;
  tools = codes "clippy" ∷ codes "rustfmt" ∷ codes "diagnostic" ∷ codes "miri" ∷ codes "rust_analyzer" ∷ [];
  features = [];
  macro_of_fn = [];
  fn_of_macro = [];
}

-- with a feature: one that is there stays at its place
abbrev pub with_feature : CrateData → Symbol → CrateData
with_feature d f = record d { features = insert_key same_name d.features f }

abbrev pub same_function : FunctionId → FunctionId → Bool
same_function a b = nat_eq a.0 b.0

abbrev pub same_proc_macro : ProcMacroId → ProcMacroId → Bool
same_proc_macro a b = nat_eq a.0 b.0

-- with a procedural macro that a function defines: in a table each way, what is there keeps its place and is replaced
abbrev pub with_proc_macro : CrateData → FunctionId → ProcMacroId → CrateData
with_proc_macro d f m = record d {
  macro_of_fn = insert_entry same_function d.macro_of_fn f m;
  fn_of_macro = insert_entry same_proc_macro d.fn_of_macro m f;
}

-- with one attribute set
abbrev pub with_setting : CrateData → CrateSetting → CrateData
with_setting d NoStd = record d { no_std = true }
with_setting d NoCore = record d { no_core = true }
with_setting d CoherenceIsCore = record d { coherence_is_core = true }
with_setting d (RecursionLimit limit) = record d { recursion_limit = Some limit }
with_setting d (Tool tool) = record d { tools = d.tools ++ tool ∷ [] }
with_setting d (Feature feature) = with_feature d feature
with_setting d (ProcMacro f m) = with_proc_macro d f m

-- with these attributes set, in order
abbrev pub with_settings : CrateData → List CrateSetting → CrateData
with_settings d settings = fold with_setting d settings

-- the recursion limit of macro expansion: 128 where the crate sets none
abbrev pub limit_of : CrateData → ℕ
limit_of d = option_map_or (λ limit. limit) d.recursion_limit 128

-- whether the crate is `no_std`: it is where it is `no_core`
abbrev pub goes_without_std : CrateData → Bool
goes_without_std d = d.no_std || d.no_core

-- whether one of these features is f
abbrev pub enables : List Symbol → Symbol → Bool
enables fs f = list_any (same_name f) fs

-- the procedural macro that a function defines, and the function of one
abbrev pub macro_of : CrateData → FunctionId → Option ProcMacroId
macro_of d f = lookup (same_function f) d.macro_of_fn

abbrev pub fn_of : CrateData → ProcMacroId → Option FunctionId
fn_of d m = lookup (same_proc_macro m) d.fn_of_macro

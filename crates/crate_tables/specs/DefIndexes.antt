-- Which definition of a crate's table an item is: the one that is written there.
use Rattle.std.specs.Prelude.{◌≡◌, ◌==◌, ◌&&◌, ℕ, Bool, true, false, not, List, [], ◌∷◌, Option, None, Some, if◌then◌else◌}
use Rattle.std.specs.Map.{lookup}
use Rattle.crate_tables.specs.declared.item_place.DefPlace.{DefPlace}
use Rattle.dm_base.specs.declared.ids.FileId.{FileId}
use Rattle.dm_base.specs.declared.ids.ModuleId.{ModuleId}
use Rattle.dm_base.specs.declared.item_ids.MacroId.{MacroId}
use Rattle.dm_base.specs.declared.item_ids.MacroId.TheVariants as macro
use Rattle.dm_base.specs.declared.item_ids.ModuleDefId.{ModuleDefId}
use Rattle.dm_base.specs.declared.item_ids.ModuleDefId.TheVariants as def

-- a procedural macro is a definition beside the function that it is
abbrev pub is_procedural : ModuleDefId → Bool
is_procedural (def.MacroId (macro.ProcMacroId p)) = true
is_procedural _ = false

-- where an item is written: the numbers of its module, its file, and the item there
abbrev pub Key : Type 0
Key = (ℕ × ℕ) × ℕ

abbrev pub key_at : ModuleId → FileId → ℕ → Key
key_at m f n = ((m.0, f.0), n)

abbrev pub key_of : DefPlace → Key
key_of p = key_at p.home p.file p.item

abbrev pub same_key : Key → Key → Bool
same_key a b = ((a.0.0 == b.0.0) && (a.0.1 == b.0.1)) && (a.1 == b.1)

-- those that are meant: procedural macros, or all others
abbrev pub is_meant : Bool → ModuleDefId → Bool
is_meant procedural d = if procedural then is_procedural d else not (is_procedural d)

-- one of them that is written there
abbrev pub is_at : Bool → Key → DefPlace → Bool
is_at procedural k p = is_meant procedural p.def && same_key k (key_of p)

-- the first of these that is written there
abbrev pub def_at : Bool → List DefPlace → Key → Option ModuleDefId
def_at procedural [] k = None
def_at procedural (p ∷ ps) k = if is_at procedural k p then Some p.def else def_at procedural ps k

-- ---- By a table

abbrev pub found_in : List (Key × ModuleDefId) → Key → Option ModuleDefId
found_in entries k = lookup (same_key k) entries

-- a table tells of each place which of some definitions is written there
abbrev pub AreDefsOf : Bool → List DefPlace → List (Key × ModuleDefId) → Type 0
AreDefsOf procedural ps entries = (k : Key) → found_in entries k ≡ def_at procedural ps k

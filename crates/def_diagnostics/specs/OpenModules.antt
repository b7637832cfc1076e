-- The modules to which a macro that is not expanded may give more names than are known.
use Rattle.std.specs.Prelude.{◌≡◌, ◌&&◌, ◌||◌, ◌↔◌, ℕ, zero, suc, Bool, true, List, [], fold, if◌then◌else◌}
use Rattle.std.specs.List.{list_any}
use Rattle.def_diagnostics.specs.declared.open_modules.GlobEdge.{GlobEdge}
use Rattle.dm_base.specs.Tree.{is_among, same_module}
use Rattle.dm_base.specs.declared.ids.ModuleId.{ModuleId}
use Rattle.indexmap.specs.IndexSet.{insert_key}

-- ---- The rule

-- within so many globs: a module is open that has a macro call among its items, and one with a glob of an open module
abbrev pub is_open_within : List ModuleId → List GlobEdge → ℕ → ModuleId → Bool
is_open_within calls edges zero m = is_among m calls
is_open_within calls edges (suc n) m =
    is_among m calls || list_any (λ (e : GlobEdge). same_module m e.into && is_open_within calls edges n e.from) edges

-- however far
abbrev pub IsOpen : List ModuleId → List GlobEdge → ModuleId → Type 0
IsOpen calls edges m = (n : ℕ) × (is_open_within calls edges n m ≡ true)

-- These are the open modules.
abbrev pub AreOpen : List ModuleId → List GlobEdge → List ModuleId → Type 0
AreOpen calls edges ms = (m : ModuleId) → (is_among m ms ≡ true) ↔ IsOpen calls edges m

-- ---- Modules, each once

-- with one more, unless it is among them
abbrev pub with_module : List ModuleId → ModuleId → List ModuleId
with_module ms m = insert_key same_module ms m

-- each once
abbrev pub each_once : List ModuleId → List ModuleId
each_once ms = fold with_module [] ms

-- ---- How they are found

-- a glob of one of some modules adds its own
abbrev pub with_edge : List ModuleId → GlobEdge → List ModuleId
with_edge ms e = if is_among e.into ms then ms else (if is_among e.from ms then with_module ms e.into else ms)

-- a glob adds nothing
abbrev pub IsClosedAt : List ModuleId → GlobEdge → Type 0
IsClosedAt ms e = is_among e.from ms ≡ true → is_among e.into ms ≡ true

abbrev pub Keeps : List ModuleId → List ModuleId → Type 0
Keeps old new = (m : ModuleId) → is_among m old ≡ true → is_among m new ≡ true

abbrev pub AllOpen : List ModuleId → List GlobEdge → List ModuleId → Type 0
AllOpen calls edges ms = (m : ModuleId) → is_among m ms ≡ true → IsOpen calls edges m

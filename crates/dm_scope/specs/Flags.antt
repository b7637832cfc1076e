-- The glob flags of a namespace: which names of which modules a glob bound, and explicit names may therefore replace.
use Rattle.std.specs.Prelude.{◌∷◌, Bool, true, false, not, List, [], Option, None, Some, is_some, if◌then◌else◌}
use Rattle.std.specs.List.{list_any}
use Rattle.std.specs.HashSet.{HashSet}
use Rattle.std.specs.Ordering.{eq_by_cmp, nat_cmp, on}
use Rattle.std.specs.Cmp.Lexicographic.{slice_cmp}
use Rattle.std.specs.FinMap.Entries.{find, put, where_key}
use Rattle.std.specs.declared.cmp.Ordering.{Ordering}
use Rattle.dm_base.specs.declared.ids.ModuleId.{ModuleId}
use Rattle.dm_base.specs.Names.{Name, same_name}
use Rattle.dm_base.specs.Tree.{same_module}

-- flags in order: by the module's number, and then by the name's bytes
abbrev pub flag_cmp : ModuleId × Name → ModuleId × Name → Ordering
flag_cmp = on (λ f. f.0.0 ∷ f.1) (slice_cmp nat_cmp)

-- The flags of one namespace: those that stand, in order, with nothing at each. Two that say the same of each name of
-- each module are equal, so nothing but what they say can be read. (A function has no code, so it is no model's value.)
abbrev pub Flags : Type 0
Flags = List ((ModuleId × Name) × Unit {0})

-- no name has one
abbrev pub no_flags : Flags
no_flags = []

-- whether a name of a module has a flag
abbrev pub has_flag : Flags → ModuleId → Name → Bool
has_flag fs m name = is_some (find flag_cmp (m, name) fs)

-- the flags after the one of a name is set or cleared: every other one stays
abbrev pub with_flag : Flags → ModuleId → Name → Bool → Flags
with_flag fs m name true = if has_flag fs m name then fs else put flag_cmp (m, name) tt fs
with_flag fs m name false = where_key flag_cmp (λ f. not (eq_by_cmp flag_cmp (m, name) f)) fs

-- the flags without those of a module
abbrev pub without_module : ModuleId → Flags → Flags
without_module m fs = where_key flag_cmp (λ f. not (same_module m f.0)) fs

-- and with those of some names of one
abbrev pub with_names : ModuleId → List Name → Flags → Flags
with_names m [] fs = fs
with_names m (n ∷ ns) fs = with_flag (with_names m ns fs) m n true

-- what a table of sets says
abbrev pub flags_of : {S : Type 0} → List (ModuleId × HashSet Name S) → Flags
flags_of [] = []
flags_of (e ∷ es) = with_names e.0 e.1.keys (without_module e.0 (flags_of es))

-- whether a set that may be there has a name
abbrev pub has_name : {S : Type 0} → Name → Option (HashSet Name S) → Bool
has_name name None = false
has_name name (Some s) = list_any (same_name name) s.keys

-- the flags after the first step of a push that writes: a glob's flag is set
abbrev pub flags_grown : Flags → ModuleId → Name → Bool → Flags
flags_grown fs m name glob = if glob then with_flag fs m name true else fs

-- the first step taken back: a flag that it set is cleared
abbrev pub flags_undone : Flags → ModuleId → Name → Bool → Flags
flags_undone fs m name new = if new then with_flag fs m name false else fs

-- and after the second step: the flag of any other push is cleared
abbrev pub flags_finished : Flags → ModuleId → Name → Bool → Flags
flags_finished fs m name glob = if glob then fs else with_flag fs m name false

-- The glob table: the flags of each namespace.
pub record Globs : Type 0 where
  pub types : Flags
  pub values : Flags
  pub macros : Flags

-- a new table
abbrev pub no_globs : Globs
no_globs = record { types = no_flags; values = no_flags; macros = no_flags }

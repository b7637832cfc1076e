-- How slots are marked that have not what the rules give.
use Rattle.std.specs.Prelude.{◌≡◌, ◌↔◌, ◌⊎◌, All, Contains, true, false, List, None}
use Rattle.dm_base.specs.declared.ids.ModuleId.{ModuleId}
use Rattle.dm_base.specs.declared.per_ns.Namespace.{Namespace}
use Rattle.dm_base.specs.Names.{Name}
use Rattle.dm_maps.specs.World.{scope_of}
use Rattle.dm_scope.specs.Sorted.{names_of}
use Rattle.dm_imports.specs.declared.glob_import.GlobImport.{GlobImport}
use Rattle.dm_imports.specs.declared.rules.unsupported.Judged.{Judged}
use Rattle.dm_imports.specs.Grounded.{SlotSet}
use Rattle.dm_imports.specs.Grounding.{IsMore, Way, slots_of, way_of}
use Rattle.dm_imports.specs.OrderDependent.{DependsOnOrder, IsUngrounded, IsUnsupported}
use Rattle.dm_imports.specs.Paths.{DefMaps, at}
use Rattle.dm_imports.specs.Rules.{IsModule, IsSupported, given}
use Rattle.dm_imports.specs.Supporting.{names_brought}

-- No slot is marked that has what the rules give, and where none is, that is noted; where the def maps are supported, too.
pub record IsJust (d : DefMaps) (j : Judged) : Type 0 where
  pub marked : (m : ModuleId) (n : Name) (s : Namespace) → slots_of j.unsupported m n s ≡ true → IsUnsupported d m n s
  pub none : j.is_supported ≡ true → (m : ModuleId) (n : Name) (s : Namespace) → slots_of j.unsupported m n s ≡ false
  pub noted : IsSupported d → j.is_supported ≡ true

-- more slots are marked
pub record Marks (d : DefMaps) (old new : Judged) : Type 0 where
  pub more : IsMore (slots_of old.unsupported) (slots_of new.unsupported)
  pub just : IsJust d old → IsJust d new

-- a slot has what the rules give, or is marked
abbrev pub IsJudged : DefMaps → SlotSet → ModuleId → Name → Namespace → Type 0
IsJudged d k m n s = (at d m n s ≡ given d m n s) ⊎ (k m n s ≡ true)

-- so has a name in each namespace
abbrev pub AreJudged : DefMaps → SlotSet → ModuleId → Name → Type 0
AreJudged d k m n = (s : Namespace) → IsJudged d k m n s

-- so has each name that a module binds
abbrev pub AreJudgedIn : DefMaps → SlotSet → ModuleId → Type 0
AreJudgedIn d k m = (n : Name) → Contains (names_of (scope_of d.world m)) n → AreJudged d k m n

abbrev pub AreAllJudged : DefMaps → SlotSet → Type 0
AreAllJudged d k = (m : ModuleId) → IsModule d m → AreJudgedIn d k m

-- so has each name of what a glob brings
abbrev pub IsGlobJudged : DefMaps → SlotSet → GlobImport → Type 0
IsGlobJudged d k g = (n : Name) → Contains (names_brought d g) n → AreJudged d k g.into n

-- ---- Ways that stay open

-- each is of a slot that is ungrounded
abbrev pub IsUngroundedWay : DefMaps → Way → Type 0
IsUngroundedWay d w = IsModule d w.home × IsUngrounded d w.home w.name w.namespace

abbrev pub AreUngrounded : DefMaps → List Way → Type 0
AreUngrounded d ws = All (IsUngroundedWay d) ws

-- each ungrounded slot has a way among them
abbrev pub HasUngrounded : DefMaps → List Way → Type 0
HasUngrounded d ws = (m : ModuleId) → IsModule d m → (n : Name) (s : Namespace) → IsUngrounded d m n s → Contains ws (way_of m n None s)

-- ---- Slots that depend on the order of imports

-- no other slot is marked
abbrev pub AreDependent : DefMaps → SlotSet → Type 0
AreDependent d k = (m : ModuleId) (n : Name) (s : Namespace) → k m n s ≡ true → DependsOnOrder d m n s

-- of the slots of modules those are marked that depend on it
abbrev pub AreThoseDependent : DefMaps → SlotSet → Type 0
AreThoseDependent d k = (m : ModuleId) → IsModule d m → (n : Name) (s : Namespace) → (k m n s ≡ true) ↔ DependsOnOrder d m n s

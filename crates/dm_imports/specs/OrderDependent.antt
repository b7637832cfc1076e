-- Slots of def maps whose meaning depends on the order in which imports are taken: they mean something else than the rules
-- give, or do not have to follow from declarations.
use Rattle.std.specs.Prelude.{◌≡◌, ◌⊎◌, true, false, is_some}
use Rattle.dm_base.specs.declared.ids.ModuleId.{ModuleId}
use Rattle.dm_base.specs.declared.per_ns.Namespace.{Namespace}
use Rattle.dm_base.specs.Names.{Name}
use Rattle.dm_imports.specs.Grounded.{IsClosed, SlotSet}
use Rattle.dm_imports.specs.Paths.{DefMaps, at}
use Rattle.dm_imports.specs.Rules.{given}

-- a slot has not what the rules give
abbrev pub IsUnsupported : DefMaps → ModuleId → Name → Namespace → Type 0
IsUnsupported d m n s = at d m n s ≡ given d m n s → ⊥

-- A slot is ungrounded where it means something, and a closed set lacks it.
pub record IsUngrounded (d : DefMaps) (m : ModuleId) (n : Name) (s : Namespace) : Type 0 where
  pub means : is_some (at d m n s) ≡ true
  pub known : SlotSet
  pub closed : IsClosed d known
  pub lacks : known m n s ≡ false

abbrev pub DependsOnOrder : DefMaps → ModuleId → Name → Namespace → Type 0
DependsOnOrder d m n s = IsUnsupported d m n s ⊎ IsUngrounded d m n s

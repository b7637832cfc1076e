-- The first dangling id of a holder: that of the least kind of fault, and of this kind the least id.
use Rattle.std.specs.Prelude.{◌≡◌, ℕ, Bool, true, false, ◌&&◌, ◌||◌, Option, Some, None, List, ◌++◌, nat_eq, nat_lt, if◌then◌else◌, MatchOption, Contains, IsTrue, ◌⊎◌}
use Rattle.std.specs.List.{AllByRecursion}
use Rattle.dm_maps.specs.declared.check.fault.WorldFaultKind.{WorldFaultKind}
use Rattle.dm_maps.specs.declared.check.fault.WorldFaultKind.TheVariants.{UnknownModule, UnknownCrate, UnknownUse, UnknownItem, UnknownMacro}
use Rattle.dm_maps.specs.declared.check.held.HeldId.{HeldId}
use Rattle.dm_maps.specs.declared.check.held.HeldId.TheVariants as held
use Rattle.dm_maps.specs.declared.check.held.HeldFault.{HeldFault}
use Rattle.dm_maps.specs.Kinds.{macro_number}

-- what is wrong with an id where it is not the world's
abbrev pub fault_at : HeldId → HeldFault
fault_at (held.Module m) = record { kind = UnknownModule; id = m.0 }
fault_at (held.Crate k) = record { kind = UnknownCrate; id = k.0 }
fault_at (held.Use u) = record { kind = UnknownUse; id = u.0 }
fault_at (held.Item k n) = record { kind = UnknownItem; id = n }
fault_at (held.Variant v) = record { kind = UnknownItem; id = v.0 }
fault_at (held.Macro m) = record { kind = UnknownMacro; id = macro_number m }

abbrev pub rank : WorldFaultKind → ℕ
rank UnknownModule = 1
rank UnknownCrate = 2
rank UnknownUse = 3
rank UnknownItem = 4
rank UnknownMacro = 5

-- a lesser kind, or the same kind and a lesser id
abbrev pub comes_before : HeldFault → HeldFault → Bool
comes_before a b = nat_lt (rank a.kind) (rank b.kind) || (nat_eq (rank a.kind) (rank b.kind) && nat_lt a.id b.id)

-- the rule: an id of the list is not the world's, and no fault of another comes before its fault
pub record IsLeast (knows : HeldId → Bool) (hs : List HeldId) (f : HeldFault) : Type 0 where
  pub held : HeldId
  pub among : Contains hs held
  pub unknown : knows held ≡ false
  pub is : f ≡ fault_at held
  pub least : AllByRecursion (λ h. (knows h ≡ true) ⊎ (comes_before (fault_at h) f ≡ false)) hs

-- the least fault of a list; none where each id is the world's
abbrev pub IsLeastFault : (HeldId → Bool) → List HeldId → Option HeldFault → Type 0
IsLeastFault knows hs r = MatchOption r (AllByRecursion (λ h. IsTrue (knows h)) hs) (IsLeast knows hs)

-- of two least faults, the one that comes first
abbrev pub lesser : Option HeldFault → Option HeldFault → Option HeldFault
lesser None b = b
lesser (Some a) None = Some a
lesser (Some a) (Some b) = if comes_before b a then Some b else Some a

-- the rule for lists in a row: of the least fault of each it makes that of both
abbrev pub IsJoined : Option HeldFault → Option HeldFault → Option HeldFault → Type 0
IsJoined a b r = (knows : HeldId → Bool) (hs ks : List HeldId) → IsLeastFault knows hs a → IsLeastFault knows ks b → IsLeastFault knows (hs ++ ks) r

-- the least fault so far, with one more id looked at
abbrev pub noted : (HeldId → Bool) → Option HeldFault → HeldId → Option HeldFault
noted knows least h = if knows h then least else lesser least (Some (fault_at h))

-- The errors of builder calls.
use Rattle.std.specs.Prelude.{◌≡◌, Bool, false, not, nat_lt, List, [], ◌∷◌, Option, Some, None, Result, Err, length, if◌then◌else◌, is_some, IfErr}
use Rattle.std.specs.Option.{option_map_or}
use Rattle.dm_base.specs.declared.ids.ModuleId.{ModuleId}
use Rattle.dm_base.specs.Names.{Name, find_name}
use Rattle.dm_maps.specs.declared.build_fault.BuildFault.{BuildFault}
use Rattle.dm_maps.specs.declared.build_fault.BuildFault.TheVariants.{NoSuchCrate, NoSuchModule, NoSuchEnum, TakenChild, TakenVariant, OutOfNumbers, OutOfMemory}
use Rattle.dm_maps.specs.World.{World, module_of}

-- the fault that there is; where there is none, a value or an allocation failure
abbrev pub Answers : {A : Type 0} → Option BuildFault → Result A BuildFault → Type 0
Answers None r = IfErr r (λ fault. fault ≡ OutOfMemory)
Answers (Some fault) r = r ≡ Err fault

-- which faults a call finds, allocation failure aside
pub record Found : Type 0 where
  pub no_crate : Bool
  pub no_module : Bool
  pub no_enum : Bool
  pub taken_child : Bool
  pub taken_variant : Bool
  pub full : Bool

abbrev pub none_found : Found
none_found = record { no_crate = false; no_module = false; no_enum = false; taken_child = false; taken_variant = false; full = false }

-- The order of faults: of those that are found the first of these is answered.
abbrev pub fault_order : Found → List (Bool × BuildFault)
fault_order f =
    (f.no_crate, NoSuchCrate)
    ∷ (f.no_module, NoSuchModule)
    ∷ (f.no_enum, NoSuchEnum)
    ∷ (f.taken_child, TakenChild)
    ∷ (f.taken_variant, TakenVariant)
    ∷ (f.full, OutOfNumbers)
    ∷ []

abbrev pub first_of : List (Bool × BuildFault) → Option BuildFault
first_of [] = None
first_of (f ∷ fs) = if f.0 then Some f.1 else first_of fs

abbrev pub first_fault : Found → Option BuildFault
first_fault f = first_of (fault_order f)

-- whether there is no number for another entry
abbrev pub is_full : {A : Type 0} → List A → Bool
is_full xs = not (nat_lt (length xs) 4294967295)

abbrev pub lacks_module : World → ModuleId → Bool
lacks_module w m = not (nat_lt m.0 (length w.places))

-- whether a module has a child of that name
abbrev pub has_child : World → ModuleId → Name → Bool
has_child w m n = option_map_or (λ d. is_some (find_name n d.children)) (module_of w m) false

-- of a new crate
abbrev pub new_crate_fault : World → Option BuildFault
new_crate_fault w = first_fault (record none_found { full = is_full w.places })

-- of a new child of a module
unfoldable pub child_fault : World → ModuleId → Name → Option BuildFault
child_fault w m n = first_fault (record none_found { no_module = lacks_module w m; taken_child = has_child w m n; full = is_full w.places })

-- of a new item in a module
abbrev pub item_fault : World → ModuleId → Option BuildFault
item_fault w m = first_fault (record none_found { no_module = lacks_module w m; full = is_full w.items })

-- Def maps are grounded where each meaning follows, step by step, from declarations and names around modules. What they
-- leave absent counts as absent from the beginning, so a name that is there hides others before it is derived.
use Rattle.std.specs.Prelude.{◌≡◌, ◌&&◌, ◌||◌, Bool, true, false, not, Option, Some, None, is_none, is_some, if◌then◌else◌}
use Rattle.std.specs.List.{filter_map, list_any}
use Rattle.std.specs.Option.{option_map, option_map_or}
use Rattle.dm_base.specs.declared.ids.ModuleId.{ModuleId}
use Rattle.dm_base.specs.declared.per_ns.Namespace.{Namespace}
use Rattle.dm_base.specs.Names.{Name}
use Rattle.dm_base.specs.Sameness.{same_def}
use Rattle.dm_imports.specs.declared.glob_import.GlobImport.{GlobImport}
use Rattle.dm_imports.specs.declared.joined.Joined.{Joined}
use Rattle.dm_imports.specs.declared.meaning.Meaning.{Meaning}
use Rattle.dm_imports.specs.declared.named_import.NamedImport.{NamedImport}
use Rattle.dm_imports.specs.Meanings.{is_declared}
use Rattle.dm_imports.specs.Paths.{Asking, DefMaps, at, is_by, is_by_glob, path_meaning}
use Rattle.dm_imports.specs.Rules.{IsModule, all_offers, brings, brought, import_asks, join_all, offer_to}
use Rattle.dm_imports.specs.Slots.{same_place}
use Rattle.dm_imports.specs.Tables.{spoiled_if}

abbrev pub SlotSet : Type 0
SlotSet = ModuleId → Name → Namespace → Bool

-- ---- What is found by known slots

-- Def maps, as they are seen by one who knows some slots alone: any other slot is there, and leads nowhere.
abbrev pub knowing : DefMaps → SlotSet → DefMaps
knowing d k = record d { is_ambiguous = λ m n s. not (k m n s) }

-- something is found, and at a known slot or at none, as a variant or a name around the module
abbrev pub is_clear : Option Meaning → Bool
is_clear o = option_map_or (λ x. not x.is_ambiguous) o false

-- what a glob offers a slot, where it is found by known slots
abbrev pub known_offer : DefMaps → SlotSet → ModuleId → Name → Namespace → GlobImport → Option Meaning
known_offer d k m n s g = if is_clear (offer_to (knowing d k) m n s g) then offer_to d m n s g else None

-- what offers of globs are joined to
abbrev pub Offers : Type 0
Offers = ModuleId → Name → Namespace → Option Joined

-- all that is offered so, joined
abbrev pub known_offers : DefMaps → SlotSet → Offers
known_offers d k m n s = join_all d.world m (filter_map (known_offer d k m n s) d.globs)

-- An import that asks by known slots: at its own slot, what globs bring leads on where some of it is offered so.
abbrev pub knowing_asks : DefMaps → Offers → NamedImport → Asking
knowing_asks d o i = record (import_asks d i) { below = λ m n s. option_map (spoiled_if (is_none (o m n s))) (all_offers d d.globs m n s) }

-- an import's path leads to something by known slots
abbrev pub leads_by : DefMaps → SlotSet → Offers → NamedImport → Namespace → Bool
leads_by d k o i s = is_clear (path_meaning (knowing d k) (knowing_asks d o i) i.textual i.path s)

-- ---- A step, from known slots and what is offered by them

-- an import derives what it brought to a slot
abbrev pub is_import_step : DefMaps → SlotSet → Offers → ModuleId → Name → Namespace → Meaning → NamedImport → Bool
is_import_step d k o m n s x i = same_place i.home i.name m n && is_by (Some i.import) x.source && brings i.kind s && leads_by d k o i s

-- what globs bring to a slot is of that definition, and not ambiguous
abbrev pub is_brought : DefMaps → ModuleId → Name → Namespace → Meaning → Bool
is_brought d m n s x = option_map_or (λ y. not y.is_ambiguous && same_def y.def x.def) (brought d m n s) false

-- Globs derive what they bring where some of it is offered, also below an import by name that brings the same. That a
-- name is ambiguous they derive where what is offered is.
abbrev pub is_glob_step : DefMaps → Offers → ModuleId → Name → Namespace → Meaning → Bool
is_glob_step d o m n s x =
    if x.is_ambiguous then is_by_glob x && option_map_or (λ j. j.is_ambiguous) (o m n s) false
    else is_brought d m n s x && is_some (o m n s)

-- a declaration needs no slot
abbrev pub is_step : DefMaps → SlotSet → Offers → ModuleId → Name → Namespace → Meaning → Bool
is_step d k o m n s x = is_declared x || is_glob_step d o m n s x || list_any (is_import_step d k o m n s x) d.imports

-- ---- Grounded def maps

-- A set of slots is closed where it has each slot whose meaning one step derives from slots of the set.
abbrev pub IsClosed : DefMaps → SlotSet → Type 0
IsClosed d k =
    (m : ModuleId) → IsModule d m → (n : Name) (s : Namespace) (x : Meaning) →
    at d m n s ≡ Some x → is_step d k (known_offers d k) m n s x ≡ true → k m n s ≡ true

-- Def maps are grounded where each closed set has all slots that mean anything.
abbrev pub IsGrounded : DefMaps → Type 0
IsGrounded d =
    (k : SlotSet) → IsClosed d k →
    (m : ModuleId) → IsModule d m → (n : Name) (s : Namespace) → is_some (at d m n s) ≡ true → k m n s ≡ true

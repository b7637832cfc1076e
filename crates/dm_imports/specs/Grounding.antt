-- How it is seen that def maps are grounded: by ways in which slots may be derived, of which fewer and fewer are open.
use Rattle.std.specs.Prelude.{◌≡◌, ◌⊎◌, All, Contains, Bool, true, false, List, ◌&&◌, ◌||◌, not, Option, Some, None, cond, is_some}
use Rattle.std.specs.Borrow.{Bor}
use Rattle.std.specs.Option.{ForSome, option_map_or}
use Rattle.dm_base.specs.declared.ids.ModuleId.{ModuleId}
use Rattle.dm_base.specs.declared.per_ns.Namespace.{Namespace}
use Rattle.dm_base.specs.Names.{Name}
use Rattle.dm_base.specs.Tree.{IsKnown}
use Rattle.dm_base.specs.Visibility.{NamesKnown}
use Rattle.dm_maps.specs.Trees.{tree_of}
use Rattle.dm_maps.specs.World.{scope_of}
use Rattle.dm_scope.specs.Sorted.{names_of}
use Rattle.dm_imports.specs.declared.container.Container.{Container}
use Rattle.dm_imports.specs.declared.container.Container.TheVariants as container
use Rattle.dm_imports.specs.declared.glob_import.GlobImport.{GlobImport}
use Rattle.dm_imports.specs.declared.joined.Joined.{Joined}
use Rattle.dm_imports.specs.declared.meaning.Meaning.{Meaning}
use Rattle.dm_imports.specs.declared.named_import.NamedImport.{NamedImport}
use Rattle.dm_imports.specs.Brought.{AreAllNamed, IsBrought}
use Rattle.dm_imports.specs.Grounded.{IsClosed, Offers, SlotSet, is_brought, is_glob_step, is_import_step, known_offers, knowing}
use Rattle.dm_imports.specs.Meanings.{is_declared}
use Rattle.dm_imports.specs.Paths.{AreVariantsNamed, DefMaps, at, is_by_glob}
use Rattle.dm_imports.specs.Rules.{AreMapsKnown, IsModule, offer_from, source_of}
use Rattle.dm_imports.specs.Slots.{Slots, slot_at}

abbrev pub no_set : SlotSet
no_set m n s = false

-- the slots that a table has
abbrev pub slots_of : {T : Type 0} → Slots T → SlotSet
slots_of t m n s = is_some (slot_at t m n s)

-- what a table of offers has
abbrev pub offers_in : Slots Joined → Offers
offers_in t m n s = slot_at t m n s

-- what is asked of def maps, and of a table of what globs bring in them
pub record AreReady (d : DefMaps) (b : Slots Joined) : Type 0 where
  pub known : AreMapsKnown d
  pub brought : IsBrought d b
  pub named : AreAllNamed d.world b

-- ---- What a glob offers by known slots

-- what a source has under a name is found by known slots; the names of an enum need none
abbrev pub is_found : SlotSet → Container → Name → Namespace → Bool
is_found k (container.Module m) n s = k m n s
is_found k (container.Enum e) n s = true

abbrev pub known_from : DefMaps → SlotSet → GlobImport → Container → Name → Namespace → Option Meaning
known_from d k g c n s = cond (is_found k c n s) (offer_from d g c n s) None

-- a glob of a module of the world's, whose visibility names such
pub record MayOffer (d : DefMaps) (g : GlobImport) : Type 0 where
  pub into : IsKnown (tree_of d.world) g.into
  pub vis : NamesKnown (tree_of d.world) g.vis
  pub variants : AreVariantsNamed d

-- both sources of a glob are this one, or one of the two is none
abbrev pub HasSource : DefMaps → SlotSet → GlobImport → Option Container → Type 0
HasSource d k g None = (source_of d g ≡ None) ⊎ (source_of (knowing d k) g ≡ None)
HasSource d k g (Some c) = (source_of d g ≡ Some c) × (source_of (knowing d k) g ≡ Some c)

-- ---- Ways

-- A slot, and the import that may derive it; without one a declaration may, or globs.
pub record Way : Type 0 where
  pub home : ModuleId
  pub name : Name
  pub namespace : Namespace
  pub import : Option NamedImport

-- what the slot of a way means
abbrev pub means : DefMaps → Way → Option Meaning
means d w = at d w.home w.name w.namespace

abbrev pub has_slot : SlotSet → Way → Bool
has_slot k w = k w.home w.name w.namespace

-- globs brought what its slot means, and bring one definition there, so that any offer derives it
abbrev pub needs_one : DefMaps → Way → Bool
needs_one d w = option_map_or (λ x. is_by_glob x && not x.is_ambiguous && is_brought d w.home w.name w.namespace x) (means d w) false

abbrev pub is_way : DefMaps → SlotSet → Offers → Way → Meaning → Bool
is_way d k o w x = elim w.import [
  | None ↦ is_declared x || is_glob_step d o w.home w.name w.namespace x
  | Some i ↦ is_import_step d k o w.home w.name w.namespace x i
]

-- an import of def maps, and of that slot
pub record IsImportOf (d : DefMaps) (w : Way) (i : NamedImport) : Type 0 where
  pub listed : Contains d.imports i
  pub home : i.home ≡ w.home
  pub name : i.name ≡ w.name

-- its slot is one of a module, and so is its import's
pub record IsWay (d : DefMaps) (w : Way) : Type 0 where
  pub home : IsModule d w.home
  pub import : ForSome w.import (IsImportOf d w)

-- Its slot means something, is not known, and no step derives it in this way.
pub record IsOpen (d : DefMaps) (k : SlotSet) (o : Offers) (w : Way) : Type 0 where
  pub meaning : Meaning
  pub there : means d w ≡ Some meaning
  pub unknown : has_slot k w ≡ false
  pub fails : is_way d k o w meaning ≡ false

-- ---- What a table of known slots has

-- no more than each closed set
abbrev pub IsSafe : DefMaps → SlotSet → Type 0
IsSafe d k = (c : SlotSet) → IsClosed d c → (m : ModuleId) (n : Name) (s : Namespace) → k m n s ≡ true → c m n s ≡ true

-- no more is offered than by the slots of each closed set
abbrev pub is_conflict : Option Joined → Bool
is_conflict o = option_map_or (λ j. j.is_ambiguous) o false

pub record IsWithin (o p : Option Joined) : Type 0 where
  pub there : is_some o ≡ true → is_some p ≡ true
  pub conflict : is_conflict o ≡ true → is_conflict p ≡ true

abbrev pub AreWithin : Offers → Offers → Type 0
AreWithin o p = (m : ModuleId) (n : Name) (s : Namespace) → IsWithin (o m n s) (p m n s)

abbrev pub AreSafeOffers : DefMaps → Offers → Type 0
AreSafeOffers d o = (c : SlotSet) → IsClosed d c → AreWithin o (known_offers d c)

-- the slot of a way is known, or the way is listed
abbrev pub IsSettled : SlotSet → List Way → Way → Type 0
IsSettled k ws w = (has_slot k w ≡ true) ⊎ Contains ws w

-- so it is with each way whose slot means something
abbrev pub AreCovered : DefMaps → SlotSet → List Way → Type 0
AreCovered d k ws = (w : Way) → IsWay d w → is_some (means d w) ≡ true → IsSettled k ws w

-- no slot is lost
abbrev pub IsMore : SlotSet → SlotSet → Type 0
IsMore k l = (m : ModuleId) (n : Name) (s : Namespace) → k m n s ≡ true → l m n s ≡ true

-- ---- Ways that are listed, while slots are made known

-- slots were made known, and ways were added
pub record HasMore (d : DefMaps) (old new : Slots Bool) (vs ws : List Way) : Type 0 where
  pub more : IsMore (slots_of old) (slots_of new)
  pub kept : (w : Way) → Contains vs w → Contains ws w
  pub ways : All (IsWay d) vs → All (IsWay d) ws
  pub safe : IsSafe d (slots_of old) → IsSafe d (slots_of new)

abbrev pub way_of : ModuleId → Name → Option NamedImport → Namespace → Way
way_of m n i s = record { home = m; name = n; namespace = s; import = i }

-- they are ways in each namespace
abbrev pub AreWays : DefMaps → ModuleId → Name → Option NamedImport → Type 0
AreWays d m n i = (s : Namespace) → IsWay d (way_of m n i s)

-- each whose slot means something is settled
abbrev pub AreSettled : DefMaps → SlotSet → List Way → ModuleId → Name → Option NamedImport → Type 0
AreSettled d k ws m n i = (s : Namespace) → is_some (means d (way_of m n i s)) ≡ true → IsSettled k ws (way_of m n i s)

abbrev pub IsImportSettled : DefMaps → SlotSet → List Way → NamedImport → Type 0
IsImportSettled d k ws i = AreSettled d k ws i.home i.name (Some i)

abbrev pub IsNameSettled : DefMaps → SlotSet → List Way → ModuleId → Bor Name → Type 0
IsNameSettled d k ws m n = AreSettled d k ws m n.now None

-- so is each name of a module
abbrev pub HasWaysOf : DefMaps → SlotSet → List Way → ModuleId → Type 0
HasWaysOf d k ws m = (n : Name) → Contains (names_of (scope_of d.world m)) n → AreSettled d k ws m n None

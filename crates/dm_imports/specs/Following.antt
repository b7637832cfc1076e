-- What is known while steps are followed in an order that a search found: never more than follows from declarations.
use Rattle.std.specs.Prelude.{◌≡◌, ◌⊎◌, All, Contains, Bool, true, List, None, Some, is_some}
use Rattle.std.specs.List.{filter_map, list_any}
use Rattle.std.specs.Option.{ForSome}
use Rattle.dm_base.specs.declared.ids.ModuleId.{ModuleId}
use Rattle.dm_base.specs.declared.per_ns.Namespace.{Namespace}
use Rattle.dm_base.specs.Names.{Name}
use Rattle.dm_imports.specs.declared.glob_import.GlobImport.{GlobImport}
use Rattle.dm_imports.specs.declared.joined.Joined.{Joined}
use Rattle.dm_imports.specs.declared.meaning.Meaning.{Meaning}
use Rattle.dm_imports.specs.declared.rules.grounded.following.Followed.{Followed}
use Rattle.dm_imports.specs.declared.rules.grounded.readers.Reader.{Reader}
use Rattle.dm_imports.specs.Brought.{AreAllNamed, join}
use Rattle.dm_imports.specs.Grounded.{IsClosed, SlotSet, known_offer, known_offers}
use Rattle.dm_imports.specs.Grounding.{HasSource, IsMore, IsSafe, IsWay, Way, is_conflict, known_from, slots_of}
use Rattle.dm_imports.specs.Paths.{DefMaps}
use Rattle.dm_imports.specs.Slots.{Slots, slot_at}

-- what the globs of a slot offer by known slots
abbrev pub known_list : DefMaps → SlotSet → ModuleId → Name → Namespace → List Meaning
known_list d k m n s = filter_map (known_offer d k m n s) d.globs

-- Some offers of a slot, joined, are among those of known slots: the first is one of them, and they are ambiguous only
-- where those are.
pub record IsOffered (d : DefMaps) (k : SlotSet) (m : ModuleId) (n : Name) (s : Namespace) (j : Joined) : Type 0 where
  pub first : (p : Meaning → Bool) → p j.first ≡ true → list_any p (known_list d k m n s) ≡ true
  pub conflict : j.is_ambiguous ≡ true → is_conflict (known_offers d k m n s) ≡ true

-- so are those of a table among those of each closed set
abbrev pub AreOffered : DefMaps → Slots Joined → Type 0
AreOffered d t = (k : SlotSet) → IsClosed d k → (m : ModuleId) (n : Name) (s : Namespace) → ForSome (slot_at t m n s) (IsOffered d k m n s)

-- What a glob offers by known slots was joined to some slots of a table, and the others are as before.
abbrev pub MayHaveOffers : DefMaps → SlotSet → GlobImport → Slots Joined → Slots Joined → Type 0
MayHaveOffers d k g old new =
    (m : ModuleId) (n : Name) (s : Namespace) →
    (slot_at new m n s ≡ slot_at old m n s) ⊎ (slot_at new m n s ≡ join d.world m (slot_at old m n s) (known_offer d k m n s g))

-- What is known is no more than each closed set has, and what is offered is among what that offers.
pub record IsSound (d : DefMaps) (f : Followed) : Type 0 where
  pub safe : IsSafe d (slots_of f.known)
  pub offers : AreOffered d f.offered
  pub named : AreAllNamed d.world f.offered
  pub ways : All (IsWay d) f.fresh.items

-- so it is then, and what was known is known
pub record Follows (d : DefMaps) (f g : Followed) : Type 0 where
  pub sound : IsSound d g
  pub more : IsMore (slots_of f.known) (slots_of g.known)

-- a glob of def maps, with what its path leads to both in them and by known slots
pub record IsReader (d : DefMaps) (k : SlotSet) (r : Reader) : Type 0 where
  pub listed : Contains d.globs r.glob.now
  pub source : HasSource d k r.glob.now (Some r.source)

-- what one offers of a slot by known slots may derive that, by globs
pub record IsOfferedBy (d : DefMaps) (k : SlotSet) (r : Reader) (w : Way) : Type 0 where
  pub home : w.home ≡ r.glob.now.into
  pub import : w.import ≡ None
  pub offer : is_some (known_from d k r.glob.now r.source w.name w.namespace) ≡ true

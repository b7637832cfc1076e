-- Tables of what globs bring, while they are made.
use Rattle.std.specs.Prelude.{◌≡◌, ◌&&◌, ◌||◌, List, Option, Some, None, cond}
use Rattle.std.specs.List.{list_any}
use Rattle.std.specs.Option.{ForSome}
use Rattle.dm_base.specs.declared.ids.ModuleId.{ModuleId}
use Rattle.dm_base.specs.declared.per_ns.Namespace.{Namespace}
use Rattle.dm_base.specs.Names.{Name, same_name}
use Rattle.dm_base.specs.Tree.{same_module}
use Rattle.dm_maps.specs.World.{World}
use Rattle.dm_imports.specs.declared.container.Container.{Container}
use Rattle.dm_imports.specs.declared.glob_import.GlobImport.{GlobImport}
use Rattle.dm_imports.specs.declared.joined.Joined.{Joined}
use Rattle.dm_imports.specs.declared.meaning.Meaning.{Meaning}
use Rattle.dm_imports.specs.Meanings.{AreNamed}
use Rattle.dm_imports.specs.Paths.{DefMaps}
use Rattle.dm_imports.specs.Rules.{all_offers, conflicts, least, most, offer_from}
use Rattle.dm_imports.specs.Slots.{Slots, slot_at}

-- ---- One offer more

-- the only one
abbrev pub alone : Meaning → Joined
alone x = record { first = x; most = x.vis; least = x.vis; is_ambiguous = x.is_ambiguous }

-- behind others
abbrev pub both : World → ModuleId → Joined → Meaning → Joined
both w m j x = record {
  first = j.first;
  most = most w m j.most x.vis;
  least = least w m j.least x.vis;
  is_ambiguous = j.is_ambiguous || conflicts j.first x;
}

-- if there is one
abbrev pub join : World → ModuleId → Option Joined → Option Meaning → Option Joined
join w m j None = j
join w m None (Some x) = Some (alone x)
join w m (Some j) (Some x) = Some (both w m j x)

-- ---- Tables

-- all that a table has is named
abbrev pub AreAllNamed : World → Slots Joined → Type 0
AreAllNamed w b = (k : ModuleId) (x : Name) (t : Namespace) → ForSome (slot_at b k x t) (AreNamed w)

-- a table has what is offered a module under some names joined to what another has
abbrev pub HasJoined : World → ModuleId → (Name → Namespace → Option Meaning) → List Name → Slots Joined → Slots Joined → Type 0
HasJoined w m offer ns old new =
    (k : ModuleId) (x : Name) (t : Namespace) →
    slot_at new k x t ≡ cond (same_module m k && list_any (same_name x) ns) (join w m (slot_at old k x t) (offer x t)) (slot_at old k x t)

-- what a glob offers of a source is
abbrev pub HasOffers : DefMaps → GlobImport → Container → List Name → Slots Joined → Slots Joined → Type 0
HasOffers d g c ns old new = HasJoined d.world g.into (offer_from d g c) ns old new

-- a table has what globs bring together
abbrev pub IsBrought : DefMaps → Slots Joined → Type 0
IsBrought d b = (k : ModuleId) (x : Name) (t : Namespace) → slot_at b k x t ≡ all_offers d d.globs k x t

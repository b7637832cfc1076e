-- What associated items stand in: the traits and the implementations of a crate.
use Rattle.std.specs.Prelude.{◌+◌, ◌++◌, ℕ, List, [], ◌∷◌, Option, None, Some}
use Rattle.std.specs.List.{cons_option, filter_map}
use Rattle.crate_tables.specs.declared.assoc_items.containers.Container.{Container}
use Rattle.crate_items.specs.declared.items.module_items.ItemHome.{ItemHome}
use Rattle.crate_tables.specs.CrateTables.{Table}
use Rattle.crate_tables.specs.declared.item_place.BlockKind.{BlockKind}
use Rattle.crate_tables.specs.declared.item_place.BlockKind.TheVariants.{Extern}
use Rattle.crate_tables.specs.declared.item_place.BlockPlace.{BlockPlace}
use Rattle.crate_tables.specs.declared.item_place.DefPlace.{DefPlace}
use Rattle.dm_base.specs.declared.item_ids.ItemContainerId.TheVariants.{ImplId, TraitId}
use Rattle.dm_base.specs.declared.item_ids.ModuleDefId.{ModuleDefId}
use Rattle.dm_base.specs.declared.item_ids.ModuleDefId.TheVariants as def

abbrev pub trait_as : DefPlace → ModuleDefId → Option Container
trait_as p (def.TraitId t) = Some (record { id = TraitId t; home = p.home; file = p.file; item = p.item })
trait_as p _ = None

-- the trait that a definition is
abbrev pub trait_of : DefPlace → Option Container
trait_of p = trait_as p p.def

abbrev pub impl_as : ℕ → BlockPlace → BlockKind → Option Container
impl_as n b Extern = None
impl_as n b _ = Some (record { id = ImplId (record { 0 = n }); home = b.home; file = b.file; item = b.item })

-- the implementation that a block of a number is
abbrev pub impl_of : ℕ → BlockPlace → Option Container
impl_of n b = impl_as n b b.kind

-- those among blocks from a number on
abbrev pub impls_from : ℕ → List BlockPlace → List Container
impls_from n [] = []
impls_from n (b ∷ bs) = cons_option (impl_of n b) (impls_from (n + 1) bs)

-- The traits and the implementations of a crate whose blocks begin at a number, as scopes have them.
abbrev pub containers_of : ℕ → Table → List Container
containers_of n t = filter_map trait_of t.defs ++ impls_from n t.blocks

-- what its items stand in
abbrev pub home_of : Container → ItemHome
home_of c = record { file = c.file; item = Some c.item }

-- Imports of traits without a name (`use path::Trait as _`): when one writes, and what it leaves.
use Rattle.std.specs.Prelude.{◌&&◌, Bool, false, not, nat_eq, Option, Some, None, if◌then◌else◌}
use Rattle.std.specs.List.{list_all, list_any}
use Rattle.std.specs.Option.{option_and_then, option_eq, option_map_or}
use Rattle.dm_base.specs.declared.ids.ModuleId.{ModuleId}
use Rattle.dm_base.specs.declared.ids.TraitId.{TraitId}
use Rattle.dm_base.specs.declared.imports.ImportId.{ImportId}
use Rattle.dm_base.specs.declared.item_ids.ModuleDefId.{ModuleDefId}
use Rattle.dm_base.specs.declared.item_ids.ModuleDefId.TheVariants as def
use Rattle.dm_base.specs.declared.per_ns.PerNs.{PerNs}
use Rattle.dm_base.specs.declared.visibility.Visibility.{Visibility}
use Rattle.dm_base.specs.Sameness.{same_visibility}
use Rattle.dm_base.specs.Tree.{Tree}
use Rattle.dm_base.specs.Visibility.{max_of}
use Rattle.dm_maps.specs.Holding.{vis_holds}
use Rattle.dm_maps.specs.GoesOn.{with_unnamed_trait}
use Rattle.dm_maps.specs.Known.{knows}
use Rattle.dm_maps.specs.Trees.{tree_of}
use Rattle.dm_maps.specs.World.{World, scope_of}

-- the trait that a type is
abbrev pub trait_in : ModuleDefId → Option TraitId
trait_in (def.TraitId t) = Some t
trait_in _ = None

-- the trait among some items, which is a type
abbrev pub trait_of : PerNs → Option TraitId
trait_of x = option_and_then (λ i. trait_in i.def) x.types

-- Whether a visibility is at least as permissive as another, in the map of module m: it is the most permissive of both.
abbrev pub is_as_permissive : Tree → ModuleId → Visibility → Visibility → Bool
is_as_permissive t m old new = option_eq same_visibility (max_of t (t.map_of m) old new) (Some old)

-- the same of one that is the world's, as each is that a checked world holds
abbrev pub allows : World → ModuleId → Visibility → Visibility → Bool
allows w m old new = list_all (knows w) (vis_holds old) && is_as_permissive (tree_of w) m old new

-- whether an entry of module m is of that trait, and lets all those see it whom v lets
abbrev pub shows_trait : World → ModuleId → TraitId → Visibility → TraitId × Visibility × Option ImportId → Bool
shows_trait w m t v e = nat_eq e.0.0 t.0 && allows w m e.1 v

-- whether no entry of module m is
abbrev pub is_new_trait : World → ModuleId → TraitId → Visibility → Bool
is_new_trait w m t v = not (list_any (shows_trait w m t v) (scope_of w m).unnamed_traits)

-- Whether an import as `_`, in module m, of some items writes: they have a trait, which is new there.
abbrev pub unnamed_answer : World → ModuleId → Visibility → PerNs → Bool
unnamed_answer w m v x = option_map_or (λ t. is_new_trait w m t v) (trait_of x) false

-- the world after it: where it writes, the trait is the last of the module's list
abbrev pub with_unnamed : World → ModuleId → Visibility → ImportId → PerNs → World
with_unnamed w m v i x = option_map_or (λ t. if is_new_trait w m t v then with_unnamed_trait w m t v (Some i) else w) (trait_of x) w

-- Which imports a world can be asked about, and why imports are not taken.
use Rattle.std.specs.Prelude.{ℕ, ◌+◌, Bool, false, not, List, [], ◌∷◌, ◌++◌, Option, Some, None, if◌then◌else◌}
use Rattle.std.specs.List.{list_any, list_all, position_from}
use Rattle.std.specs.Option.{option_map, option_map_or, option_or}
use Rattle.dm_base.specs.declared.imports.ImportId.{ImportId}
use Rattle.dm_base.specs.declared.imports.ImportOrExternCrate.{ImportOrExternCrate}
use Rattle.dm_base.specs.declared.imports.ImportOrExternCrate.TheVariants as wide
use Rattle.dm_base.specs.contracts.imports.ImportIdPartialEq.TheImpl as import_eq
use Rattle.dm_maps.specs.declared.check.held.HeldId.{HeldId}
use Rattle.dm_maps.specs.declared.check.held.HeldId.TheVariants as held
use Rattle.dm_maps.specs.Holding.{path_holds, vis_holds}
use Rattle.dm_maps.specs.Known.{knows}
use Rattle.dm_maps.specs.World.{World}
use Rattle.dm_retry.specs.Rounds.{Pending}
use Rattle.dm_retry.specs.declared.add_fault.AddFault.{AddFault}
use Rattle.dm_retry.specs.declared.add_fault.AddFault.TheVariants as adding
use Rattle.dm_retry.specs.declared.retry_fault.RetryFault.{RetryFault}
use Rattle.dm_retry.specs.declared.retry_fault.RetryFault.TheVariants.{DoubleImport, UnknownPart}

-- what an import holds: its module, its use, the crate of its path's `$crate`, and what its visibility names
abbrev pub parts : Pending → List HeldId
parts p = (held.Module p.origin ∷ held.Use p.import.use_ ∷ []) ++ path_holds p.path.kind ++ vis_holds p.visibility

-- whether all that an import holds is the world's
abbrev pub is_known : World → Pending → Bool
is_known w p = list_all (knows w) (parts p)

abbrev pub same_leaf : ImportId → ImportId → Bool
same_leaf = import_eq.ghosts.eq

-- whether an import is one of a list
abbrev pub is_listed : List Pending → ImportId → Bool
is_listed ps i = list_any (λ q. same_leaf i q.import) ps

-- the place of the first import that is listed again behind it, where the first of these is at place i
abbrev pub double_from : ℕ → List Pending → Option ℕ
double_from i [] = None
double_from i (p ∷ ps) = if is_listed ps p.import then Some i else double_from (i + 1) ps

-- the place of the first import that is listed twice
abbrev pub first_double : List Pending → Option ℕ
first_double ps = double_from 0 ps

-- the place of the first import that holds an id the world does not have
abbrev pub first_unknown : World → List Pending → Option ℕ
first_unknown w ps = position_from (λ p. not (is_known w p)) 0 ps

-- Why imports are not taken, and the place of the one that is meant: a duplicate before an unknown id; nothing where
-- they are taken.
abbrev pub refusal : World → List Pending → Option (RetryFault × ℕ)
refusal w ps = option_or (option_map (λ i. (DoubleImport, i)) (first_double ps)) (option_map (λ i. (UnknownPart, i)) (first_unknown w ps))

-- why they are not taken
abbrev pub fault_of : World → List Pending → Option RetryFault
fault_of w ps = option_map (λ r. r.0) (refusal w ps)

-- Why an import is not added to these, where memory does not run out: it is one of them, or it holds an id that the world
-- does not have; nothing where it is added.
abbrev pub add_fault : World → List Pending → Pending → Option AddFault
add_fault w ps p = if is_listed ps p.import then Some adding.Double else if is_known w p then None else Some adding.UnknownPart

-- what is answered where it is not added: that fault, or where there is none that memory ran out
abbrev pub unadded : World → List Pending → Pending → AddFault
unadded w ps p = option_map_or (λ f. f) (add_fault w ps p) adding.OutOfMemory

-- whether the import of a push is one of a list: a named import may be, and no other
abbrev pub comes_by : List Pending → Option ImportOrExternCrate → Bool
comes_by ps None = false
comes_by ps (Some (wide.Import i)) = is_listed ps i
comes_by ps (Some _) = false

-- Look-ups in tables that are seen by what their values show.
use Rattle.std.proofs.Common.{◌≡◌, List}
use Rattle.std.specs.Option.{option_map}
use Rattle.std.proofs.lemmas.Map.Made.{lookup-map_values}
use Rattle.smallvec.specs.SmallVec.{SmallVec}
use Rattle.dm_base.specs.Names.{Name, same_name, find_name}
use Rattle.dm_base.specs.declared.item_ids.MacroId.{MacroId}
use Rattle.dm_scope.specs.TableLists.{lists_of}

pub find_legacy : (n : Name) (es : List (Name × SmallVec MacroId)) → find_name n (lists_of es) ≡ option_map (λ (v : SmallVec MacroId). v.items) (find_name n es)
find_legacy n es = lookup-map_values (λ (v : SmallVec MacroId). v.items) (same_name n) es

-- What a scope's mutators do to a namespace, beside pushes.
use Rattle.std.specs.Prelude.{◌&&◌, Bool, false, true, List, [], ◌∷◌, Option, Some, None, map, is_none, if◌then◌else◌}
use Rattle.std.specs.Map.{remove_entry}
use Rattle.dm_base.specs.declared.ids.Crate.{Crate}
use Rattle.dm_base.specs.declared.imports.ImportOrExternCrate.{ImportOrExternCrate}
use Rattle.dm_base.specs.declared.item_ids.MacroId.{MacroId}
use Rattle.dm_base.specs.declared.item_ids.MacroId.TheVariants as macro
use Rattle.dm_base.specs.declared.per_ns.Item.{Item}
use Rattle.dm_base.specs.declared.visibility.Visibility.{Visibility}
use Rattle.dm_base.specs.declared.visibility.Visibility.TheVariants.{PubCrate}
use Rattle.dm_base.specs.Names.{Name, same_name, find_name}
use Rattle.dm_scope.specs.Bindings.{Bound}

-- whether a binding is of a definition
abbrev pub is_of : {D I : Type 0} → (D → D → Bool) → D → Option (Item D I) → Bool
is_of same d None = false
is_of same d (Some x) = same x.def d

module _ {D I : Type 0} where
  -- a namespace without a binding, where it is of the definition: the order of the others stays, and the import records
  abbrev pub without_binding : (D → D → Bool) → Name → D → Bound D I → Bound D I
  without_binding same n d s = if is_of same d (find_name n s.items) then record s { items = remove_entry (same_name n) s.items } else s

  -- the bindings with one changed, in its place
  abbrev pub change_item : (Item D I → Item D I) → Name → List (Name × Item D I) → List (Name × Item D I)
  change_item f n [] = []
  change_item f n (e ∷ es) = if same_name n e.0 then (e.0, f e.1) ∷ es else e ∷ change_item f n es

  -- a namespace in which others see a binding
  abbrev pub with_vis : Name → Visibility → Bound D I → Bound D I
  with_vis n v s = record s { items = change_item (λ x. record x { vis = v }) n s.items }

  -- and in which it is of another definition too
  abbrev pub with_def : Name → D → Visibility → Bound D I → Bound D I
  with_def n d v s = record s { items = change_item (λ x. record x { def = d; vis = v }) n s.items }

  -- each item changed, in its place
  abbrev pub change_all : (Item D I → Item D I) → Bound D I → Bound D I
  change_all f s = record s { items = map (λ e. (e.0, f e.1)) s.items }

-- an item restricted to its crate
abbrev pub censored : {D I : Type 0} → Crate → Item D I → Item D I
censored k x = record x { vis = PubCrate k }

abbrev pub is_proc_macro : MacroId → Bool
is_proc_macro (macro.Macro2Id m) = false
is_proc_macro (macro.MacroRulesId m) = false
is_proc_macro (macro.ProcMacroId m) = true

-- a procedural macro that is no import
abbrev pub is_own_proc_macro : Item MacroId ImportOrExternCrate → Bool
is_own_proc_macro x = is_proc_macro x.def && is_none x.import

abbrev pub censored_macro : Crate → Item MacroId ImportOrExternCrate → Item MacroId ImportOrExternCrate
censored_macro k x = if is_own_proc_macro x then x else censored k x

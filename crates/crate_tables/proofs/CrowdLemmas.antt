-- What was short while the items of a crate were added is short of all of them.
use Rattle.std.proofs.Common.{◌≡◌, ◌≤◌, ◌||◌, ◌∙◌, ℕ, Bool, true, List, Option, [], ◌∷◌, length, ap, refl, subst, sym}
use Rattle.std.specs.List.{flat_map}
use Rattle.crate_tables.proofs.MoreCrates.{IsMoreLinked, crowded-on, linked-later, more-all_items, more-externs, more-listings, more-macros_added, more-others}
use Rattle.crate_tables.proofs.MoreSteps.{many-on, or-left, or-on, or-right, short-for, short-on}
use Rattle.crate_items.specs.DeclaredItems.{declared_of}
use Rattle.crate_items.specs.ModuleItems.{AreItemsFrom}
use Rattle.crate_items.specs.TextualScopes.{Scopes, textual_scopes}
use Rattle.crate_items.specs.declared.files.dependency.Dependency.{Dependency}
use Rattle.crate_items.specs.declared.items.declared_item.DeclaredItem.{DeclaredItem}
use Rattle.crate_items.specs.declared.items.module_items.ModuleItem.{ModuleItem}
use Rattle.crate_tables.specs.Blocks.{with_blocks}
use Rattle.crate_tables.specs.CrateFillings as filling
use Rattle.crate_tables.specs.CrateMacros.{WithMacros}
use Rattle.crate_tables.specs.CrateMaps.{Filled, with_crate_modules}
use Rattle.crate_tables.specs.CrateRoots.{root_id}
use Rattle.crate_tables.specs.CrateTables.{Table}
use Rattle.crate_tables.specs.CrateUses.{Textual, with_uses}
use Rattle.crate_tables.specs.ExternCrates.{Linked, with_extern_crates}
use Rattle.crate_tables.specs.NewModules.{CrateView}
use Rattle.crate_tables.specs.Numbers.{has_far, has_too_many, is_past, is_shortage, IsShortage}
use Rattle.crate_tables.specs.RawVisibilities.{with_written_items}
use Rattle.crate_tables.specs.TextualMacros.{with_scopes}
use Rattle.crate_tables.specs.declared.extern_crates.ExternCrateRow.{ExternCrateRow}
use Rattle.crate_tables.specs.declared.library_name.LibraryName.{LibraryName}
use Rattle.dm_base.specs.declared.ids.ModuleId.{ModuleId}
use Rattle.dm_maps.specs.World.{World}
use Rattle.dm_maps.specs.declared.build_fault.BuildFault.{BuildFault}

-- while the uses were added, where each module has the macros of its textual scope
pub scope-crowd : (c : CrateView) (made : WithMacros) (items : List DeclaredItem) (w : World) (scopes : Scopes) (f : BuildFault)
    → w ≡ with_scopes items made.ids made.table.ids made.world scopes → scopes ≡ textual_scopes c.list items
    → is_shortage (has_too_many (with_uses c (record { items = items; macros = made.ids; scopes = scopes }) (record { world = w; table = made.table })).world) f ≡ true
    → is_shortage (has_too_many (filling.in_scope c made items).world) f ≡ true
scope-crowd c made items w scopes f given all h =
    subst (λ (x : Filled). is_shortage (has_too_many x.world) f ≡ true)
    (ap (λ (v : World). with_uses c (textual scopes) (record { world = v; table = made.table })) given
    ∙ ap (λ (ss : Scopes). with_uses c (textual ss) (record { world = with_scopes items made.ids made.table.ids made.world ss; table = made.table })) all) h
  where
    textual : Scopes → Textual
    textual ss = record { items = items; macros = made.ids; scopes = ss }

module _ (c : CrateView) (ds : List Dependency) (s : Linked) (items : List DeclaredItem) where
  abbrev first : Linked
  first = with_extern_crates c ds (filling.blocks_added c s items) items

  abbrev second : Linked
  second = filling.macros_added c first items

  abbrev third : Linked
  third = filling.others_added c second items

  abbrev last : Linked
  last = filling.listed c third (length s.rows) items

  two-last : IsMoreLinked c second last
  two-last = linked-later c items second third last (more-others c items second) (more-listings c items third (length s.rows))

  one-last : IsMoreLinked c first last
  one-last = linked-later c items first second last (more-macros_added c items first) two-last

  -- while the extern crates were added
  pub externs-crowd : (x : Linked) (f : BuildFault) → x ≡ first → is_shortage (is_past (length x.rows)) f ≡ true → is_shortage (filling.is_crowded (filling.with_all_items c ds s items)) f ≡ true
  unfolding filling.with_all_items
  externs-crowd x f same h =
      short-on (is_past (length x.rows)) (filling.is_crowded last)
      (λ past. crowded-on c items first last one-last (or-right (has_too_many first.world) (is_past (length first.rows)) (subst (λ (z : Linked). is_past (length z.rows) ≡ true) same past))) f h

  -- while the macros and the uses were
  pub macros-crowd : (x : Linked) (f : BuildFault) → x ≡ first → is_shortage (has_too_many (filling.with_all_macros c (record { world = x.world; table = x.table }) items).world) f ≡ true
      → is_shortage (filling.is_crowded (filling.with_all_items c ds s items)) f ≡ true
  unfolding filling.with_all_items
  macros-crowd x f same h =
      short-on (has_too_many (filling.with_all_macros c (record { world = x.world; table = x.table }) items).world) (filling.is_crowded last)
      (λ many. crowded-on c items second last two-last
      (or-left (has_too_many second.world) (is_past (length second.rows))
      (subst (λ (z : Linked). has_too_many (filling.with_all_macros c (record { world = z.world; table = z.table }) items).world ≡ true) same many))) f h

  -- while all other items were
  pub others-crowd : (x : Filled) (f : BuildFault) → x ≡ record { world = second.world; table = second.table } → is_shortage (has_too_many (with_written_items c x items).world) f ≡ true
      → is_shortage (filling.is_crowded (filling.with_all_items c ds s items)) f ≡ true
  unfolding filling.with_all_items
  others-crowd x f same h =
      short-on (has_too_many (with_written_items c x items).world) (filling.is_crowded last)
      (λ many. crowded-on c items third last (more-listings c items third (length s.rows))
      (or-left (has_too_many third.world) (is_past (length third.rows)) (subst (λ (z : Filled). has_too_many (with_written_items c z items).world ≡ true) same many))) f h

  -- while lists were filled
  pub lists-crowd : (x : Linked) (f : BuildFault) → x ≡ first → is_shortage (is_past (length x.rows)) f ≡ true → is_shortage (filling.is_crowded (filling.with_all_items c ds s items)) f ≡ true
  lists-crowd = externs-crowd

-- ---- A crate

module _ (c : CrateView) (ds : List Dependency) (lib : Option LibraryName) (w : World) (rows : List ExternCrateRow) (is : List ModuleItem) (order : AreItemsFrom c.list.sources 0 c.list.modules is) where
  abbrev made : Filled
  made = with_crate_modules c w (root_id c.krate)

  abbrev all : List DeclaredItem
  all = flat_map (declared_of c.edition c.list c.files) is

  abbrev filled : Linked
  filled = filling.with_all_bound c ds lib (filling.with_rows made rows) all

  -- while its modules were added
  pub modules-reason : (root : ModuleId) (f : BuildFault) → root ≡ root_id c.krate → is_shortage (has_too_many (with_crate_modules c w root).world || has_far c.list) f ≡ true
      → IsShortage (filling.ListRunsOut c ds lib w rows) f
  modules-reason root f same h =
      short-for (has_too_many (with_crate_modules c w root).world || has_far c.list) (filling.ListRunsOut c ds lib w rows)
      (λ many. (
        filled,
        record { items = is; order = order; filled = refl },
        or-on (has_too_many (with_crate_modules c w root).world) (has_far c.list) (filling.is_crowded filled) (has_far c.list) over (λ far. far) many,
      )) f h
    where
      over : has_too_many (with_crate_modules c w root).world ≡ true → filling.is_crowded filled ≡ true
      over many =
          let later = filling.with_all_items c ds (filling.with_rows made rows) all in
          or-left (has_too_many filled.world) (is_past (length filled.rows))
          (many-on made.world later.world (more-all_items c all ds (filling.with_rows made rows)).world (subst (λ (m : ModuleId). has_too_many (with_crate_modules c w m).world ≡ true) same many))

  -- while its items were
  pub items-reason : (now : Filled) (items : List DeclaredItem) (f : BuildFault) → now ≡ made → items ≡ all
      → is_shortage (filling.is_crowded (filling.with_all_bound c ds lib (filling.with_rows now rows) items)) f ≡ true → IsShortage (filling.ListRunsOut c ds lib w rows) f
  items-reason now items f same found h =
      let here = filling.with_all_bound c ds lib (filling.with_rows now rows) items in
      let one : here ≡ filled =
      ap (λ (z : Filled). filling.with_all_bound c ds lib (filling.with_rows z rows) items) same
      ∙ ap (λ (xs : List DeclaredItem). filling.with_all_bound c ds lib (filling.with_rows made rows) xs) found in
      short-for (filling.is_crowded here) (filling.ListRunsOut c ds lib w rows)
      (λ over. (here, record { items = is; order = order; filled = one }, or-left (filling.is_crowded here) (has_far c.list) over)) f h

-- the same of a library and a world that are found
pub list-on : (c : CrateView) (ds : List Dependency) (rows : List ExternCrateRow) (l m : Option LibraryName) (v w : World) (f : BuildFault) → l ≡ m → v ≡ w
    → IsShortage (filling.ListRunsOut c ds l v rows) f → IsShortage (filling.ListRunsOut c ds m w rows) f
list-on c ds rows l m v w f library world h =
    subst (λ (z : Option LibraryName × World). IsShortage (filling.ListRunsOut c ds z.0 z.1 rows) f) (λ i. (library i, world i)) h

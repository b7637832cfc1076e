-- What holds of each map of a checked world.
use Rattle.std.proofs.Common.{◌≡◌, ◌<◌, ◌∙◌, Option, None, Some, map, slice_get, is_some, refl, sym, ap, subst, true≢false, IsTrue, IsSome}
use Rattle.std.specs.List.{AllByRecursion}
use Rattle.std.specs.Option.{option_map, option_map_or, option_and_then, option_or}
use Rattle.std.proofs.lemmas.List.Elements.{All-from_recursion}
use Rattle.std.proofs.lemmas.Option.{slice_get-map, slice_get_within}
use Rattle.dm_maps.proofs.Ids.{BlockId, ModuleId, Name, Place, same_name}
use Rattle.dm_base.specs.IdLaws.{same_module-true}
use Rattle.dm_base.specs.Tree.{containing, same_module}
use Rattle.dm_maps.specs.declared.check.held.HeldId.TheVariants as held
use Rattle.dm_def_map.specs.Maps.{Map, Module, module_at}
use Rattle.dm_def_map.specs.Queries.{containing_in}
use Rattle.dm_maps.specs.Family.{IsParent, AreParents, common, HaveFamilies, IsFamily}
use Rattle.dm_maps.specs.Known.{knows}
use Rattle.dm_maps.specs.MapFacts.{HasContainer, IsChild, IsMapOf}
use Rattle.dm_maps.specs.Sound.{IsCheckedWorld}
use Rattle.dm_maps.specs.Trees.{no_map, outline, containers_of, container_in, parent_in, map_id_in, tree_of, IsMap, IsWorld}
use Rattle.dm_maps.specs.World.{World, crate_map, map_of, module_of, numbered_map}
use Rattle.dm_maps.proofs.AllLemmas.{all-get, all-weaker, found, found-entry, some-is}
use Rattle.dm_maps.proofs.FamilyLemmas.{families}
use Rattle.dm_maps.proofs.InOrder.{ascending, lies-in, its-id, its-parent, its-module, parent-lies, one-root, contained}
use Rattle.dm_maps.proofs.MapLemmas.{map-lists}
use Rattle.dm_maps.proofs.SoundLemmas.{lies-there, map-lawful, placed-known}

module _ (w : World) (is : IsWorld w) (fam : IsFamily w) (own : Map) (there : numbered_map w own.id ≡ Some own) where
  family : HaveFamilies w.places w.crate_maps w.block_maps
  family = families w.places w.crate_maps w.block_maps fam

  -- the map of a crate, or that of a block
  either : (P : Type 0) → (own.id.block ≡ None → slice_get w.crate_maps own.id.krate.0 ≡ Some own → P) → ((b : BlockId) → own.id.block ≡ Some b → slice_get w.block_maps b.0 ≡ Some own → P) → P
  either P crates blocks = by own.id.block refl there
    where
      by : (block : Option BlockId) → own.id.block ≡ block → elim block [ None ↦ slice_get w.crate_maps own.id.krate.0 | Some b ↦ slice_get w.block_maps b.0 ] ≡ Some own → P
      by None e g = crates e g
      by (Some b) e g = blocks b e g

  lies : (m : ModuleId) → IsSome (module_at own.modules m) → map_of w m ≡ Some own
  lies m some = lies-there w is own m there some

  known : (m : ModuleId) → IsSome (module_at own.modules m) → IsTrue (knows w (held.Module m))
  known m some = placed-known w m (ap is_some (lies m some))

  lawful : IsMap w.places (outline own)
  lawful = map-lawful w is own.id own there

  root-lies : IsSome (module_at own.modules own.root)
  root-lies = map-lists w is own.root own (ap (option_and_then (λ (p : Place). numbered_map w p.map)) (lawful.listed 0 own.root None lawful.root) ∙ there)

  found-by : (m : ModuleId) → IsSome (module_at own.modules m) → module_of w m ≡ module_at own.modules m
  found-by m some = let d = some-is (module_at own.modules m) some in its-module w is own there m d.0 d.1 ∙ sym d.1

  block : (m : ModuleId) → IsSome (module_at own.modules m) → (b : BlockId) → own.id.block ≡ Some b → HasContainer w m own
  block m some = let d = some-is (module_at own.modules m) some in contained w is own there m d.0 d.1

  above : (m q : ModuleId) (d : Module) → module_at own.modules m ≡ Some d → d.parent ≡ Some q → (q.0 < m.0) × IsSome (module_at own.modules q)
  above m q d e up = let over = parent-lies w is own there m d e q up in (over.0, map-lists w is q own over.1)

  -- a module whose parent is m
  is-child : (m : ModuleId) → IsSome (module_at own.modules m) → (c : ModuleId) → parent_in w.places c ≡ Some m → IsChild own m c
  is-child m some c up = by (slice_get w.places c.0) refl up
    where
      by : (o : Option Place) → slice_get w.places c.0 ≡ o → option_and_then (λ (p : Place). p.parent) o ≡ Some m → IsChild own m c
      by None e g = cc
      by (Some p) e g =
          let d = some-is (module_at own.modules m) some in
          let over = (is.placed c p e).parent m g in
          let id : map_id_in w.places c ≡ own.id = ap (λ o. option_map_or (λ (y : Place). y.map) o no_map) e ∙ sym over.1 ∙ its-id w is own there m d.0 d.1 in
          let child = some-is (module_at own.modules c) (map-lists w is c own (lies-in w is own there c (slice_get_within w.places c.0 p e) id)) in
          record {
            lies = ap is_some child.1;
            parent = ap (option_and_then (λ (x : Module). x.parent)) child.1 ∙ sym (its-parent w is own there c child.0 child.1) ∙ up;
            greater = over.0;
          }

  parents : AreParents w.places own
  parents = either (AreParents w.places own) (λ e g. all-get (AreParents w.places) w.crate_maps own.id.krate.0 own family.of_crates g) (λ b e g. all-get (AreParents w.places) w.block_maps b.0 own family.of_blocks g)

  listed-children : (m : ModuleId) (d : Module) → module_at own.modules m ≡ Some d → AllByRecursion (λ x. IsChild own m x.1) d.children
  listed-children m d e =
      let x = found-entry (IsParent w.places) (same_module m) own.modules d parents e in
      let children = subst (λ (k : ModuleId). IsParent w.places (k, d)) (sym (same_module-true m x.0 x.1)) x.2 in
      all-weaker (λ (x : Name × ModuleId). parent_in w.places x.1 ≡ Some m) (λ x. IsChild own m x.1) (λ x g. is-child m (ap is_some e) x.1 g) d.children
      children

  outermost : own.id.block ≡ None → own.parent ≡ None
  outermost none =
      either (own.parent ≡ None) (λ e g. all-get (λ (m : Map). m.parent ≡ None) w.crate_maps own.id.krate.0 own family.outermost g)
      (λ b e g. let n : None ≡ Some b = sym none ∙ e in cc)

  -- the module that contains the map's block, by the tree
  around : option_and_then (λ b. container_in (containers_of w.block_maps) (Some b)) own.id.block ≡ own.parent
  around =
      either (option_and_then (λ b. container_in (containers_of w.block_maps) (Some b)) own.id.block ≡ own.parent)
      (λ e g. ap (option_and_then (λ b. container_in (containers_of w.block_maps) (Some b))) e ∙ sym (outermost e))
      (λ b e g. ap (option_and_then (λ x. container_in (containers_of w.block_maps) (Some x))) e ∙ ap (option_and_then (λ (c : Option ModuleId). c)) (slice_get-map (λ (m : Map). m.parent) w.block_maps b.0 ∙ ap (option_map (λ (m : Map). m.parent)) g))

  contains : (m : ModuleId) → IsSome (module_at own.modules m) → containing_in own m ≡ containing (tree_of w) m
  unfolding tree_of
  contains m some = by (module_at own.modules m) refl some
    where
      by : (o : Option Module) → module_at own.modules m ≡ o → IsSome o → option_or (option_and_then (λ (d : Module). d.parent) o) own.parent ≡ containing (tree_of w) m
      by None e g = absurd (true≢false (sym g))
      by (Some d) e g =
          sym ((λ i. option_or (its-parent w is own there m d e i) (option_and_then (λ b. container_in (containers_of w.block_maps) (Some b)) (its-id w is own there m d e i).block)) ∙ ap (option_or d.parent) around)

  shared : option_map common (crate_map w own.id.krate) ≡ Some (common own)
  shared =
      either (option_map common (crate_map w own.id.krate) ≡ Some (common own)) (λ e g. ap (option_map common) g)
      (λ b e g. sym (slice_get-map common w.crate_maps own.id.krate.0) ∙ all-get (λ (m : Map). slice_get (map common w.crate_maps) m.id.krate.0 ≡ Some (common m)) w.block_maps b.0 own family.shared g)

  whole : IsMapOf w own
  whole = record {
    known = known;
    its_map = lies;
    found = found-by;
    ascending = ascending w is own there;
    root = root-lies;
    one_root = one-root w is own there;
    parent = above;
    children = λ m d e. All-from_recursion (λ (x : Name × ModuleId). IsChild own m x.1) d.children (listed-children m d e);
    child = λ m d e n x. found (IsChild own m) (same_name n) d.children x (listed-children m d e);
    contains = contains;
    block = block;
    outermost = outermost;
    shared = shared;
  }

pub IsMapOf-checked : (w : World) → IsCheckedWorld w → (m : Map) → numbered_map w m.id ≡ Some m → IsMapOf w m
IsMapOf-checked w is m there = whole w is.lawful is.family m there

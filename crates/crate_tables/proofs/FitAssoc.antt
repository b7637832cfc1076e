-- All that a world holds stays known, as associated items are added.
use Rattle.std.proofs.Common.{◌≡◌, ◌+◌, ℕ, Bool, true, false, cond, List, [], ◌∷◌, ◌++◌, Option, None, Some, length, map, slice_get, refl, subst, sym}
use Rattle.std.specs.Prelude.{All}
use Rattle.std.specs.List.{AllByRecursion, cons_option, filter_map}
use Rattle.std.proofs.lemmas.List.Elements.{recursion_from_All}
use Rattle.crate_tables.proofs.AllLemmas.{all-append, all-get, all-left, all-right, all-weaker}
use Rattle.crate_tables.proofs.FitCrates.{IsKnownDef}
use Rattle.crate_tables.proofs.FitFree.{visibility-free}
use Rattle.crate_tables.proofs.FitLemmas.{Known}
use Rattle.crate_tables.proofs.FitSteps.{assocs-put, known-item, known-tables, new-item}
use Rattle.crate_items.specs.Files.{SourceFile}
use Rattle.crate_items.specs.Modules.{Listing}
use Rattle.crate_items.specs.RawVisibilities.{item_visibility}
use Rattle.crate_items.specs.Sources.{source_at}
use Rattle.crate_items.specs.declared.items.module_items.ModuleItem.{ModuleItem}
use Rattle.crate_tables.specs.AssocItems as assocs
use Rattle.crate_tables.specs.Containers.{containers_of, impl_of, impls_from, trait_as, trait_of, impl_as}
use Rattle.crate_tables.specs.CrateTables.{HasKnownDefs, Table}
use Rattle.crate_tables.specs.declared.assoc_items.containers.Container.{Container}
use Rattle.crate_tables.specs.declared.assoc_items.items.AssocPlace.{AssocPlace}
use Rattle.crate_tables.specs.declared.item_place.BlockKind.{BlockKind}
use Rattle.crate_tables.specs.declared.item_place.BlockKind.TheVariants.{TraitImpl, InherentImpl, Extern}
use Rattle.crate_tables.specs.declared.item_place.BlockPlace.{BlockPlace}
use Rattle.crate_tables.specs.declared.item_place.DefPlace.{DefPlace}
use Rattle.dm_base.specs.declared.ids.ModuleId.{ModuleId}
use Rattle.dm_base.specs.declared.item_ids.AssocItemId.{AssocItemId}
use Rattle.dm_base.specs.declared.item_ids.ItemContainerId.{ItemContainerId}
use Rattle.dm_base.specs.declared.item_ids.ItemKind.{ItemKind}
use Rattle.dm_base.specs.declared.item_ids.ItemKind.TheVariants as kind
use Rattle.dm_base.specs.declared.item_ids.ModuleDefId.{ModuleDefId}
use Rattle.dm_base.specs.declared.item_ids.ModuleDefId.TheVariants as def
use Rattle.dm_base.specs.declared.visibility.RawVisibility.{RawVisibility}
use Rattle.dm_def_map.specs.TableChanges.{with_assoc}
use Rattle.dm_maps.specs.Build.{item_def, with_item}
use Rattle.dm_maps.specs.BuildTables.{with_assoc_item}
use Rattle.dm_maps.specs.First.{Held, IsChecked, block_holder, crate_holder, each_from, holders, module_holder, tables_holder}
use Rattle.dm_maps.specs.Holding.{def_holds}
use Rattle.dm_maps.specs.Known.{KnowsAll, knows}
use Rattle.dm_maps.specs.TablesHold.{assoc_id_holds, container_holds, raw_holds, tables_hold}
use Rattle.dm_maps.specs.World.{World}
use Rattle.dm_maps.specs.declared.check.held.HeldId.{HeldId}
use Rattle.dm_maps.specs.declared.check.held.HeldId.TheVariants as held

-- v knows what w knows, and is checked
record Checks (w v : World) : Type 0 where
  wider : (h : HeldId) → Known w h → Known v h
  checked : IsChecked v

checks-same : (w : World) → IsChecked w → Checks w w
checks-same w is = record { wider = λ h k. k; checked = is }

checks-further : (u v w : World) → Checks u v → Checks v w → Checks u w
checks-further u v w a b = record { wider = λ h k. b.wider h (a.wider h k); checked = b.checked }

abbrev Fine : World → Held → Type 0
Fine w h = KnowsAll w h.1

holders-on : (w v : World) → ((h : HeldId) → Known w h → Known v h) → (hs : List Held) → AllByRecursion (Fine w) hs → AllByRecursion (Fine v) hs
holders-on w v wider hs all = all-weaker (Fine w) (Fine v) (λ h. all-weaker (Known w) (Known v) wider h.1) hs all

checks-item : (w : World) (k : ItemKind) (m : ModuleId) → IsChecked w → Checks w (with_item w k m)
checks-item w k m is = record { wider = known-item w k m; checked = holders-on w (with_item w k m) (known-item w k m) (holders w) is }

checks-assoc : (w : World) (a : AssocItemId) (c : ItemContainerId) (x : RawVisibility) → IsChecked w → Known w (assoc_id_holds a) → KnowsAll w (container_holds c)
    → KnowsAll w (raw_holds x) → Checks w (with_assoc_item w a c x)
checks-assoc w a c x is ka kc kx =
    let t = with_assoc w.item_tables a c x in
    let v = with_assoc_item w a c x in
    let wider = known-tables w t in
    let crates = each_from (crate_holder w.local_maps) 0 w.crate_maps in
    let blocks = map block_holder w.block_maps in
    let modules = each_from (module_holder w) 0 w.places in
    let old = tables_holder w ∷ [] in
    let new = tables_holder v ∷ [] in
    let all = holders-on w v wider (holders w) is in
    let behind_crates = all-right (Fine v) crates (blocks ++ (modules ++ old)) all in
    let behind_blocks = all-right (Fine v) blocks (modules ++ old) behind_crates in
    let tables = all-right (Fine v) modules old behind_blocks in
    let more = assocs-put (Known v) w.item_tables a c x tables.0 (wider (assoc_id_holds a) ka) (all-weaker (Known w) (Known v) wider (container_holds c) kc) (all-weaker (Known w) (Known v) wider (raw_holds x) kx) in
    record {
      wider = wider;
      checked = all-append (Fine v) crates (blocks ++ (modules ++ new)) (all-left (Fine v) crates (blocks ++ (modules ++ old)) all)
          (all-append (Fine v) blocks (modules ++ new) (all-left (Fine v) blocks (modules ++ old) behind_crates)
          (all-append (Fine v) modules new (all-left (Fine v) modules old behind_blocks) (more, tt)));
    }

-- ---- Containers

abbrev IsInside : World → Container → Type 0
IsInside w c = KnowsAll w (container_holds c.id)

abbrev AreInside : World → List Container → Type 0
AreInside w cs = AllByRecursion (IsInside w) cs

inside-on : (w v : World) (cs : List Container) → Checks w v → AreInside w cs → AreInside v cs
inside-on w v cs checks all = all-weaker (IsInside w) (IsInside v) (λ c. all-weaker (Known w) (Known v) checks.wider (container_holds c.id)) cs all

abbrev IsInsideIf : World → Option Container → Type 0
IsInsideIf w None = Unit {0}
IsInsideIf w (Some c) = IsInside w c

inside-more : (w : World) (o : Option Container) (cs : List Container) → IsInsideIf w o → AreInside w cs → AreInside w (cons_option o cs)
inside-more w None cs one rest = rest
inside-more w (Some c) cs one rest = (one, rest)

trait-inside : (w : World) (p : DefPlace) (d : ModuleDefId) → KnowsAll w (def_holds d) → IsInsideIf w (trait_as p d)
trait-inside w p (def.TraitId t) k = k
trait-inside w p _ k = tt

traits-inside : (w : World) (ps : List DefPlace) → AllByRecursion (IsKnownDef w) ps → AreInside w (filter_map trait_of ps)
traits-inside w [] all = tt
traits-inside w (p ∷ ps) all = inside-more w (trait_of p) (filter_map trait_of ps) (trait-inside w p p.def all.0) (traits-inside w ps all.1)

impl-inside : (w : World) (n : ℕ) (b : BlockPlace) (k : BlockKind) → IsInsideIf w (impl_as n b k)
impl-inside w n b TraitImpl = tt
impl-inside w n b InherentImpl = tt
impl-inside w n b Extern = tt

impls-inside : (w : World) (n : ℕ) (bs : List BlockPlace) → AreInside w (impls_from n bs)
impls-inside w n [] = tt
impls-inside w n (b ∷ bs) = inside-more w (impl_of n b) (impls_from (n + 1) bs) (impl-inside w n b b.kind) (impls-inside w (n + 1) bs)

containers-inside : (w : World) (n : ℕ) (t : Table) → HasKnownDefs w t → AreInside w (containers_of n t)
containers-inside w n t known =
    all-append (IsInside w) (filter_map trait_of t.defs) (impls_from n t.blocks) (traits-inside w t.defs (recursion_from_All (IsKnownDef w) t.defs known)) (impls-inside w n t.blocks)

-- ---- Items

abbrev IsKnownIf : World → Option AssocItemId → Type 0
IsKnownIf w None = Unit {0}
IsKnownIf w (Some a) = Known w (assoc_id_holds a)

assoc-known : (w : World) (k : ItemKind) (m : ModuleId) → IsKnownIf (with_item w k m) (assocs.assoc_of (item_def k (length w.items)))
assoc-known w kind.Function m = new-item w kind.Function m
assoc-known w kind.Struct m = tt
assoc-known w kind.Union m = tt
assoc-known w kind.Enum m = tt
assoc-known w kind.Const m = new-item w kind.Const m
assoc-known w kind.Static m = tt
assoc-known w kind.Trait m = tt
assoc-known w kind.TypeAlias m = new-item w kind.TypeAlias m

placed-checks : (w : World) (ps : List AssocPlace) (c : Container) (r : ModuleItem) (v : RawVisibility) (o : Option AssocItemId) → IsChecked w → IsInside w c → KnowsAll w (raw_holds v) → IsKnownIf w o
    → Checks w (assocs.placed w ps c r v o).world
placed-checks w ps c r v None is inside free known = checks-same w is
placed-checks w ps c r v (Some a) is inside free known = checks-assoc w a c.id v is known inside free

module _ (files : List SourceFile) (l : Listing) where
  added-checks : (s : assocs.Filled) (c : Container) (r : ModuleItem) (o : Option ItemKind) → IsChecked s.world → IsInside s.world c → Checks s.world (assocs.added_in files l s c r o).world
  added-checks s c r None is inside = checks-same s.world is
  added-checks s c r (Some k) is inside = by (knows s.world (held.Module c.home))
    where
      by : (b : Bool) → Checks s.world (cond b (assocs.added files l s c r k) s).world
      by true =
          let v = with_item s.world k c.home in
          let one = checks-item s.world k c.home is in
          let written = item_visibility l files r.file r.item in
          let id = assocs.assoc_of (item_def k (length s.world.items)) in
          checks-further s.world v (assocs.added files l s c r k).world one
          (placed-checks v s.places c r written id one.checked (all-weaker (Known s.world) (Known v) one.wider (container_holds c.id) inside) (visibility-free (Known v) l files r.file r.item) (assoc-known s.world k c.home))
      by false = checks-same s.world is

  row-checks : (cs : List Container) (s : assocs.Filled) (r : ModuleItem) → IsChecked s.world → AreInside s.world cs → Checks s.world (assocs.with_row files l cs s r).world
  row-checks cs s r is inside = by (slice_get cs r.«module») refl
    where
      by : (o : Option Container) → slice_get cs r.«module» ≡ o → Checks s.world (assocs.with_row_in files l s r o).world
      by None e = checks-same s.world is
      by (Some c) e = added-checks s c r (assocs.kind_in (source_at l.sources r.file) r.item) is (all-get (IsInside s.world) cs r.«module» c inside e)

  rows-check : (cs : List Container) (s : assocs.Filled) (rs : List ModuleItem) → IsChecked s.world → AreInside s.world cs → Checks s.world (assocs.with_rows files l cs s rs).world
  rows-check cs s [] is inside = checks-same s.world is
  rows-check cs s (r ∷ rs) is inside =
      let next = assocs.with_row files l cs s r in
      let one = row-checks cs s r is inside in
      checks-further s.world next.world (assocs.with_rows files l cs next rs).world one (rows-check cs next rs one.checked (inside-on s.world next.world cs one inside))

if-checks : (files : List SourceFile) (l : Option Listing) (cs : List Container) (s t : assocs.Filled) → assocs.AreAddedIf files l cs s t → IsChecked s.world → AreInside s.world cs → Checks s.world t.world
if-checks files None cs s t same is inside = subst (λ (x : assocs.Filled). Checks s.world x.world) (sym same) (checks-same s.world is)
if-checks files (Some l) cs s t added is inside = subst (λ (x : assocs.Filled). Checks s.world x.world) (sym added.filled) (rows-check files l cs s added.rows is inside)

defs-on : (w v : World) → Checks w v → (ts : List Table) → AllByRecursion (HasKnownDefs w) ts → AllByRecursion (HasKnownDefs v) ts
defs-on w v checks ts all =
    all-weaker (HasKnownDefs w) (HasKnownDefs v) (λ t known i d lt. all-weaker (Known w) (Known v) checks.wider _ (known i d lt)) ts all

all-check : (files : List SourceFile) (ls : List Listing) (k n : ℕ) (ts : List Table) (s all : assocs.Filled) → assocs.AreAllAdded files ls k n ts s all
    → IsChecked s.world → AllByRecursion (HasKnownDefs s.world) ts → IsChecked all.world
all-check files ls k n [] s all same is defs = subst (λ (x : assocs.Filled). IsChecked x.world) (sym same) is
all-check files ls k n (t ∷ ts) s all (next, one, rest) is defs =
    let checks = if-checks files (slice_get ls k) (containers_of n t) s next one is (containers-inside s.world n t defs.0) in
    all-check files ls (k + 1) (n + length t.blocks) ts next all rest checks.checked (defs-on s.world next.world checks ts defs.1)

-- where all that a world holds is known, and the definitions of some crates are, all is known with their associated items
pub assocs-check : (files : List SourceFile) (ls : List Listing) (ts : List Table) (s all : assocs.Filled) → assocs.AreAllAdded files ls 0 0 ts s all
    → IsChecked s.world → All (HasKnownDefs s.world) ts → IsChecked all.world
assocs-check files ls ts s all added is defs = all-check files ls 0 0 ts s all added is (recursion_from_All (HasKnownDefs s.world) ts defs)

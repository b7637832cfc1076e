-- What was short while associated items were added is short of all of them.
use Rattle.std.proofs.Common.{◌≡◌, ◌≤◌, ◌<◌, ◌⊎◌, inl, inr, ◌+◌, ◌++◌, ◌∷◌, ◌∙◌, [], ℕ, zero, suc, Bool, true, false, cond, List, Option, None, Some, ap, arith, drop, length, length-append, map, refl, slice_get, subst, sym, take}
use Rattle.crate_tables.proofs.MoreSteps.{IsMore, more-further, more-item, more-same, more-tables, many-short, past-on, reason-on, short-for}
use Rattle.crate_tables.proofs.RunLemmas.{take-count, take-next}
use Rattle.crate_tables.proofs.ShortLemmas.{later-short}
use Rattle.crate_items.specs.Files.{SourceFile}
use Rattle.crate_items.specs.ModuleItems.{AreItemsIn}
use Rattle.crate_items.specs.Modules.{Listing}
use Rattle.crate_items.specs.RawVisibilities.{item_visibility}
use Rattle.crate_items.specs.Sources.{source_at}
use Rattle.crate_items.specs.declared.items.module_items.ModuleItem.{ModuleItem}
use Rattle.crate_tables.specs.AssocItems as assocs
use Rattle.crate_tables.specs.BlockLists.{blocks_of}
use Rattle.crate_tables.specs.Containers.{containers_of, home_of}
use Rattle.crate_tables.specs.CrateTables.{Table}
use Rattle.crate_tables.specs.Numbers.{has_too_many, is_past, is_shortage, IsShortage}
use Rattle.crate_tables.specs.declared.assoc_items.containers.Container.{Container}
use Rattle.crate_tables.specs.declared.assoc_items.items.AssocPlace.{AssocPlace}
use Rattle.dm_base.specs.declared.item_ids.AssocItemId.{AssocItemId}
use Rattle.dm_base.specs.declared.item_ids.ItemKind.{ItemKind}
use Rattle.dm_base.specs.declared.visibility.RawVisibility.{RawVisibility}
use Rattle.dm_maps.specs.Build.{item_def, with_item}
use Rattle.dm_maps.specs.Known.{knows}
use Rattle.dm_maps.specs.World.{World}
use Rattle.dm_maps.specs.declared.build_fault.BuildFault.{BuildFault}
use Rattle.dm_maps.specs.declared.check.held.HeldId.TheVariants as held

more-placed : (w : World) (ps : List AssocPlace) (c : Container) (r : ModuleItem) (v : RawVisibility) (o : Option AssocItemId) → IsMore w (assocs.placed w ps c r v o).world
more-placed w ps c r v None = more-same w
more-placed w ps c r v (Some a) = more-tables w _

module _ (files : List SourceFile) (l : Listing) where
  pub more-placed_item : (s : assocs.Filled) (c : Container) (r : ModuleItem) (k : ItemKind) → IsMore (with_item s.world k c.home) (assocs.added files l s c r k).world
  more-placed_item s c r k = more-placed (with_item s.world k c.home) s.places c r (item_visibility l files r.file r.item) (assocs.assoc_of (item_def k (length s.world.items)))

  more-added : (s : assocs.Filled) (c : Container) (r : ModuleItem) (o : Option ItemKind) → IsMore s.world (assocs.added_in files l s c r o).world
  more-added s c r None = more-same s.world
  more-added s c r (Some k) = by (knows s.world (held.Module c.home))
    where
      by : (b : Bool) → IsMore s.world (cond b (assocs.added files l s c r k) s).world
      by true = more-further s.world (with_item s.world k c.home) (assocs.added files l s c r k).world (more-item s.world k c.home) (more-placed_item s c r k)
      by false = more-same s.world

  more-row : (cs : List Container) (s : assocs.Filled) (r : ModuleItem) → IsMore s.world (assocs.with_row files l cs s r).world
  more-row cs s r = by (slice_get cs r.«module»)
    where
      by : (o : Option Container) → IsMore s.world (assocs.with_row_in files l s r o).world
      by None = more-same s.world
      by (Some c) = more-added s c r (assocs.kind_in (source_at l.sources r.file) r.item)

  more-rows : (cs : List Container) (s : assocs.Filled) (rs : List ModuleItem) → IsMore s.world (assocs.with_rows files l cs s rs).world
  more-rows cs s [] = more-same s.world
  more-rows cs s (r ∷ rs) =
      let next = assocs.with_row files l cs s r in
      more-further s.world next.world (assocs.with_rows files l cs next rs).world (more-row cs s r) (more-rows cs next rs)

  pub rows-short : (cs : List Container) (s t : assocs.Filled) (xs rest : List ModuleItem) (r : ModuleItem) (f : BuildFault) → xs ≡ r ∷ rest → assocs.with_rows files l cs s xs ≡ t
      → is_shortage (has_too_many (assocs.with_row files l cs s r).world) f ≡ true → is_shortage (has_too_many t.world) f ≡ true
  rows-short cs s t xs rest r f first later h =
      let next = assocs.with_row files l cs s r in
      later-short next.world (assocs.with_rows files l cs next rest).world t.world (more-rows cs next rest)
      (ap (λ (z : assocs.Filled). z.world) (sym (ap (assocs.with_rows files l cs s) first) ∙ later)) f h

  -- of the containers of a crate
  pub rows-reason : (P : Type 0) (cs ds : List Container) (s : assocs.Filled) (rs : List ModuleItem) (f : BuildFault) → cs ≡ ds → AreItemsIn l.sources 0 (map home_of cs) rs
      → is_shortage (has_too_many (assocs.with_rows files l cs s rs).world) f ≡ true → IsShortage (P ⊎ assocs.ItemsRunOut files l ds s) f
  rows-reason P cs ds s rs f same order h =
      subst (λ (xs : List Container). IsShortage (P ⊎ assocs.ItemsRunOut files l xs s) f) same
      (short-for (has_too_many (assocs.with_rows files l cs s rs).world) (P ⊎ assocs.ItemsRunOut files l cs s)
      (λ many. inr (assocs.with_rows files l cs s rs, record { rows = rs; order = order; filled = refl }, many)) f h)

-- ---- Crates

module _ (files : List SourceFile) (ls : List Listing) where
  added-snoc : (k n : ℕ) (ts : List Table) (t : Table) (s now next : assocs.Filled) → assocs.AreAllAdded files ls k n ts s now
      → assocs.AreAddedIf files (slice_get ls (k + length ts)) (containers_of (n + length (blocks_of ts)) t) now next → assocs.AreAllAdded files ls k n (ts ++ t ∷ []) s next
  added-snoc k n [] t s now next same one =
      let here = subst (λ (i : ℕ). assocs.AreAddedIf files (slice_get ls i) (containers_of (n + 0) t) now next) (let e : k + 0 ≡ k = omega arith in e) one in
      let there = subst (λ (i : ℕ). assocs.AreAddedIf files (slice_get ls k) (containers_of i t) now next) (let e : n + 0 ≡ n = omega arith in e) here in
      (next, subst (λ (x : assocs.Filled). assocs.AreAddedIf files (slice_get ls k) (containers_of n t) x next) same there, refl)
  added-snoc k n (u ∷ us) t s now next (mid, first, rest) one =
      let at : k + suc (length us) ≡ (k + 1) + length us = omega arith in
      let from : n + length (blocks_of (u ∷ us)) ≡ (n + length u.blocks) + length (blocks_of us) = omega (arith, length-append u.blocks (blocks_of us)) in
      let here = subst (λ (i : ℕ). assocs.AreAddedIf files (slice_get ls i) (containers_of (n + length (blocks_of (u ∷ us))) t) now next) at one in
      let there = subst (λ (i : ℕ). assocs.AreAddedIf files (slice_get ls ((k + 1) + length us)) (containers_of i t) now next) from here in
      (mid, first, added-snoc (k + 1) (n + length u.blocks) us t mid now next rest there)

  -- the blocks of one crate more are numbered
  pub blocks-before : (n k m : ℕ) (ts rest : List Table) (t : Table) → drop n ts ≡ t ∷ rest → k ≡ length (blocks_of (take n ts)) → m ≡ k + length t.blocks → m ≡ length (blocks_of (take (n + 1) ts))
  blocks-before n k m ts rest t first before next =
      let one : length (blocks_of (take (n + 1) ts)) ≡ length (blocks_of (take n ts ++ t ∷ [])) = ap (λ (l : List Table). length (blocks_of l)) (take-next n ts t rest first) in
      next ∙ ap (λ (i : ℕ). i + length t.blocks) before ∙ sym (one ∙ blocks-push (take n ts) t)
    where
      blocks-push : (ts : List Table) (t : Table) → length (blocks_of (ts ++ t ∷ [])) ≡ length (blocks_of ts) + length t.blocks
      blocks-push [] t = omega (arith, length-append t.blocks (blocks_of []))
      blocks-push (u ∷ us) t =
          let rest = blocks-push us t in
          omega (arith, length-append u.blocks (blocks_of (us ++ t ∷ [])), length-append u.blocks (blocks_of us))

  pub added-next : (n k : ℕ) (ts rest : List Table) (t : Table) (s now next : assocs.Filled) → drop n ts ≡ t ∷ rest → k ≡ length (blocks_of (take n ts)) → assocs.AreAllAdded files ls 0 0 (take n ts) s now
      → assocs.AreAddedIf files (slice_get ls n) (containers_of k t) now next → assocs.AreAllAdded files ls 0 0 (take (n + 1) ts) s next
  added-next n k ts rest t s now next first before so_far one =
      let at : n ≡ 0 + length (take n ts) = omega (arith, take-count n ts t rest first) in
      let from : k ≡ 0 + length (blocks_of (take n ts)) = omega (arith, before) in
      let here = subst (λ (i : ℕ). assocs.AreAddedIf files (slice_get ls i) (containers_of k t) now next) at one in
      let there = subst (λ (i : ℕ). assocs.AreAddedIf files (slice_get ls (0 + length (take n ts))) (containers_of i t) now next) from here in
      subst (λ (xs : List Table). assocs.AreAllAdded files ls 0 0 xs s next) (sym (take-next n ts t rest first)) (added-snoc 0 0 (take n ts) t s now next so_far there)

  -- why those of one crate were not added is why not all were
  pub next-reason : (n k : ℕ) (ts rest : List Table) (t : Table) (s now : assocs.Filled) (f : BuildFault) → drop n ts ≡ t ∷ rest → k ≡ length (blocks_of (take n ts)) → k + length t.blocks ≤ length (blocks_of ts)
      → assocs.AreAllAdded files ls 0 0 (take n ts) s now → IsShortage (assocs.CrateRunsOut files (slice_get ls n) k t now) f → IsShortage (assocs.RunsOut files ls ts s) f
  next-reason n k ts rest t s now f first before least so_far h =
      reason-on (assocs.CrateRunsOut files (slice_get ls n) k t now) (assocs.RunsOut files ls ts s) on f h
    where
      on : assocs.CrateRunsOut files (slice_get ls n) k t now → assocs.RunsOut files ls ts s
      on (inl past) = inl (past-on (k + length t.blocks) (length (blocks_of ts)) least past)
      on (inr (next, one, many)) = inr (n + 1, next, added-next n k ts rest t s now next first before so_far one, many)

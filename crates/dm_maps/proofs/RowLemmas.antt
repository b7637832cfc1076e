-- What jump pointers (ladders) say of the tree of their modules.
use Rattle.std.proofs.Common.{◌≡◌, ◌≢◌, ◌≤◌, ◌<◌, ◌+◌, ◌^◌, ℕ, zero, suc, List, [], ◌∷◌, Option, None, Some, refl, sym, ap, ◌∙◌, subst, arith, length, map, slice_get, slice_index, unwrap_or, nat_eq, if◌then◌else◌, ◌⊎◌, inl, inr}
use Rattle.std.specs.Option.{option_map, option_map_or, option_and_then, option_or}
use Rattle.std.proofs.lemmas.Bool.{ne_eqb, lt-ltb, ltb-true}
use Rattle.std.proofs.lemmas.List.{length-map}
use Rattle.std.proofs.lemmas.Option.{slice_get-map}
use Rattle.std.proofs.Math.Nat.{pow-suc}
use Rattle.dm_base.specs.declared.ids.ModuleId.{ModuleId}
use Rattle.dm_base.specs.Tree.{IsTree, IsKnown, containing}
use Rattle.dm_maps.specs.Ancestry.{depth}
use Rattle.dm_maps.specs.JumpPointers.{climb, tree_of, above, depth_at, entry_at, IsLadder, AreLadders}
use Rattle.dm_maps.specs.declared.ladders.Ladder.{Ladder}
use Rattle.dm_maps.proofs.ChainLemmas.{climb-add, climb-alone, depth-alone, depth-containing}

get-within : {X : Type 0} (xs : List X) (i : ℕ) → i < length xs → (x : X) × (slice_get xs i ≡ Some x)
get-within [] i h = absurd (omega arith)
get-within (x ∷ xs) zero h = (x, refl)
get-within (x ∷ xs) (suc i) h = get-within xs i (omega arith)

or-none : {X : Type 0} (o : Option X) → option_or o None ≡ o
or-none None = refl
or-none (Some x) = refl

pub above-outmost : (l : Ladder) → l.depth ≡ 0 → above l ≡ None
above-outmost l e = let none : Option ModuleId = None in ap (λ n. if nat_eq n 0 then none else Some (record { 0 = slice_index l.entries 0 })) e

pub above-below : (l : Ladder) → l.depth ≢ 0 → above l ≡ Some (record { 0 = slice_index l.entries 0 })
above-below l deep = let none : Option ModuleId = None in ap (λ b. if b then none else Some (record { 0 = slice_index l.entries 0 })) (ne_eqb l.depth 0 deep)

-- what ladders say of an outmost module, and of one that c contains
pub record IsOutmost (ls : List Ladder) (m : ModuleId) : Type 0 where
  pub alone : containing (tree_of ls) m ≡ None
  pub depth : depth_at ls m.0 ≡ 0
  pub entries : (k : ℕ) → k < 32 → entry_at ls m.0 k ≡ m.0

pub record IsInside (ls : List Ladder) (m : ModuleId) : Type 0 where
  pub c : ModuleId
  pub inside : containing (tree_of ls) m ≡ Some c
  pub depth : depth_at ls m.0 ≡ suc (depth_at ls c.0)
  pub first : entry_at ls m.0 0 ≡ c.0
  pub smaller : (k : ℕ) → k < 32 → entry_at ls m.0 k < m.0
  pub next : (k : ℕ) → k < 31 → entry_at ls m.0 (suc k) ≡ entry_at ls (entry_at ls m.0 k) k

module _ (ls : List Ladder) where
  pub known-from : (m : ModuleId) → m.0 < length ls → IsKnown (tree_of ls) m
  known-from m less = let same = length-map ls above in lt-ltb m.0 (length (map above ls)) (omega arith)

  pub known-within : (m : ModuleId) → IsKnown (tree_of ls) m → m.0 < length ls
  known-within m known = let same = length-map ls above in let less = ltb-true m.0 (length (map above ls)) known in omega arith

module _ (ls : List Ladder) (are : AreLadders ls) where
  -- the containing module is entry 0 of the ladder
  containing-above : (m : ModuleId) (l : Ladder) → slice_get ls m.0 ≡ Some l → containing (tree_of ls) m ≡ above l
  containing-above m l e = ap (λ o. option_or (option_and_then (λ c. c) o) None) (slice_get-map above ls m.0 ∙ ap (option_map above) e) ∙ or-none (above l)

  pub step : (m : ModuleId) → m.0 < length ls → IsOutmost ls m ⊎ IsInside ls m
  step m less = let there = get-within ls m.0 less in by there.0 there.1 (are.each m.0 there.0 there.1) there.0.depth refl
    where
      by : (l : Ladder) → slice_get ls m.0 ≡ Some l → IsLadder ls m.0 l → (d : ℕ) → l.depth ≡ d → IsOutmost ls m ⊎ IsInside ls m
      by l e is zero outmost = inl (record {
        alone = containing-above m l e ∙ above-outmost l outmost;
        depth = ap (λ o. option_map_or (λ (x : Ladder). x.depth) o 0) e ∙ outmost;
        entries = λ k h. ap (λ o. option_map_or (λ (x : Ladder). slice_index x.entries k) o 0) e ∙ is.outmost outmost k h;
      })
      by l e is (suc d) deep =
          let below : l.depth ≢ 0 = λ h. (absurd (omega arith)) in
          let b = is.below below in
          let entry : (k : ℕ) → entry_at ls m.0 k ≡ slice_index l.entries k = λ k. ap (λ o. option_map_or (λ (x : Ladder). slice_index x.entries k) o 0) e in
          inr (record {
            c = record { 0 = slice_index l.entries 0 };
            inside = containing-above m l e ∙ above-below l below;
            depth = ap (λ o. option_map_or (λ (x : Ladder). x.depth) o 0) e ∙ b.deeper;
            first = entry 0;
            smaller = λ k h. subst (λ n. n < m.0) (sym (entry k)) (b.smaller k h);
            next = λ k h. entry (suc k) ∙ b.entries k h ∙ sym (ap (λ n. entry_at ls n k) (entry k));
          })

  pub shallow : (m : ModuleId) → m.0 < length ls → depth_at ls m.0 ≤ m.0
  shallow m less =
      let there = get-within ls m.0 less in
      let is = are.each m.0 there.0 there.1 in
      subst (λ n. n ≤ m.0) (sym (ap (λ o. option_map_or (λ (x : Ladder). x.depth) o 0) there.1)) is.shallow

  -- what contains a module has a smaller number
  containing-smaller : (m c : ModuleId) → m.0 < length ls → containing (tree_of ls) m ≡ Some c → c.0 < m.0
  containing-smaller m c less e = elim (step m less) [
    | inl o ↦ let never : None ≡ Some c = sym o.alone ∙ e in cc
    | inr i ↦
        let same : Some i.c ≡ Some c = sym i.inside ∙ e in
        let number : i.c ≡ c = cc in
        let first = i.first in
        let small = i.smaller 0 (omega arith) in
        let here : i.c.0 ≡ c.0 = ap (λ (x : ModuleId). x.0) number in
        omega arith
  ]

  -- they make a lawful tree
  pub ladders-tree : IsTree (tree_of ls)
  ladders-tree = record {
    parent_map = λ m p known e. refl;
    containing_known = λ m c known e. (let less = containing-smaller m c (known-within ls m known) e in let more = known-within ls m known in known-from ls c (omega arith));
    containing_smaller = λ m c known e. containing-smaller m c (known-within ls m known) e;
    containing_crate = λ m c known e. refl;
    outside_known = λ m o known e. cc;
    outside_smaller = λ m o known e. cc;
    outside_crate = λ m o known e. refl;
    outside_there = λ m known. refl;
  }

  -- a ladder has the depth of its module
  depth-within : (n : ℕ) (m : ModuleId) → m.0 ≤ n → m.0 < length ls → depth_at ls m.0 ≡ depth (tree_of ls) m
  depth-within zero m h less = elim (step m less) [
    | inl o ↦ o.depth ∙ sym (depth-alone (tree_of ls) ladders-tree m (known-from ls m less) o.alone)
    | inr i ↦ let small = i.smaller 0 (omega arith) in absurd (omega arith)
  ]
  depth-within (suc n) m h less = elim (step m less) [
    | inl o ↦ o.depth ∙ sym (depth-alone (tree_of ls) ladders-tree m (known-from ls m less) o.alone)
    | inr i ↦
        let first = i.first in
        let small = i.smaller 0 (omega arith) in
        i.depth ∙ ap suc (depth-within n i.c (omega arith) (omega arith)) ∙ sym (depth-containing (tree_of ls) ladders-tree m i.c (known-from ls m less) i.inside)
  ]

  pub depth-is : (m : ModuleId) → m.0 < length ls → depth_at ls m.0 ≡ depth (tree_of ls) m
  depth-is m less = depth-within m.0 m (omega arith) less

  -- and entry k is where 2 ^ k steps lead
  pub entry-is : (k : ℕ) (m : ModuleId) → k < 32 → m.0 < length ls → entry_at ls m.0 k ≡ (climb (tree_of ls) (2 ^ k) m).0
  entry-is zero m h less = elim (step m less) [
    | inl o ↦ o.entries 0 h ∙ ap (λ (x : ModuleId). x.0) (sym (climb-alone (tree_of ls) ladders-tree 1 m o.alone))
    | inr i ↦ i.first ∙ ap (λ o. (unwrap_or o m).0) (sym i.inside)
  ]
  entry-is (suc k) m h less = elim (step m less) [
    | inl o ↦ o.entries (suc k) h ∙ ap (λ (x : ModuleId). x.0) (sym (climb-alone (tree_of ls) ladders-tree (2 ^ suc k) m o.alone))
    | inr i ↦
        let t = tree_of ls in
        let half = entry-is k m (omega arith) less in
        let small = i.smaller k (omega arith) in
        let at : ModuleId = record { 0 = entry_at ls m.0 k } in
        let there : at ≡ climb t (2 ^ k) m = (λ j. record { 0 = half j }) in
        let twice : 2 ^ k + 2 ^ k ≡ 2 ^ suc k = let p = pow-suc 2 k in omega arith in
        i.next k (omega arith)
        ∙ entry-is k at (omega arith) (omega arith)
        ∙ ap (λ (x : ModuleId). (climb t (2 ^ k) x).0) there
        ∙ ap (λ (x : ModuleId). x.0) (sym (climb-add t (2 ^ k) (2 ^ k) m))
        ∙ ap (λ n. (climb t n m).0) twice
  ]

-- a module that has a containing module, or none, in what contracts see has a ladder
pub listed : (ls : List Ladder) (ups : List (Option ModuleId)) (m : ModuleId) → map above ls ≡ ups → m.0 < length ups → m.0 < length ls
listed ls ups m is less =
    let same = length-map ls above in
    let long : length (map above ls) ≡ length ups = ap length is in
    omega arith

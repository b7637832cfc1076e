-- The hops of a climb, one for each set bit of its length.
use Rattle.std.proofs.Common.{◌≡◌, ◌≢◌, ◌<◌, ◌≤◌, ◌+◌, ◌-◌, ◌*◌, ◌^◌, ◌/◌, ◌%◌, length, count_ones, nat_eq, false, ℕ, List, sym, ap, ◌∙◌, arith, add-one}
use Rattle.std.proofs.Math.Nat.{pow-succ'}
use Rattle.std.specs.Int.Count.{ones_step}
use Rattle.dm_base.specs.declared.ids.ModuleId.{ModuleId}
use Rattle.std.proofs.lemmas.Nat.{ones_le_self}
use Rattle.dm_base.specs.Tree.{Tree, chain, is_among}
use Rattle.dm_maps.specs.Ancestry.{depth, moves}
use Rattle.dm_maps.specs.JumpPointers.{climb, tree_of, depth_at, entry_at, AreLadders}
use Rattle.dm_maps.specs.declared.ladders.Ladder.{Ladder}
use Rattle.dm_maps.proofs.ChainLemmas.{climb-add, among-less_deep, among-climb}
use Rattle.dm_maps.proofs.RowLemmas.{entry-is, depth-is, ladders-tree, known-from}

-- half the rest at twice the step, and one step more where the rest is odd
halves-odd : (rest k : ℕ) → rest % 2 ≡ 1 → rest * 2 ^ k ≡ 2 ^ k + rest / 2 * 2 ^ (k + 1)
halves-odd rest k odd =
    let p : 2 ^ (k + 1) ≡ 2 * 2 ^ k = rw add-one (pow-succ' 2 k) in
    let r : rest ≡ 2 * (rest / 2) + 1 = omega arith in
    ap (λ n. n * 2 ^ k) r ∙ (let q : (2 * (rest / 2) + 1) * 2 ^ k ≡ 2 ^ k + rest / 2 * (2 * 2 ^ k) = omega arith in q) ∙ ap (λ n. 2 ^ k + rest / 2 * n) (sym p)

halves-even : (rest k : ℕ) → rest % 2 ≢ 1 → rest * 2 ^ k ≡ rest / 2 * 2 ^ (k + 1)
halves-even rest k even =
    let p : 2 ^ (k + 1) ≡ 2 * 2 ^ k = rw add-one (pow-succ' 2 k) in
    let r : rest ≡ 2 * (rest / 2) = omega arith in
    ap (λ n. n * 2 ^ k) r ∙ (let q : 2 * (rest / 2) * 2 ^ k ≡ rest / 2 * (2 * 2 ^ k) = omega arith in q) ∙ ap (λ n. rest / 2 * n) (sym p)

-- the loop invariant of a climb: what is left of it leads on to the same module, in as many hops as it has set bits
pub record IsOnTheWay (ls : List Ladder) (m deeper at rest count k : ℕ) : Type 0 where
  pub known : at < length ls
  pub same : (climb (tree_of ls) (rest * 2 ^ k) (record { 0 = at })).0 ≡ (climb (tree_of ls) deeper (record { 0 = m })).0
  pub below : rest * 2 ^ k ≤ deeper
  pub moves : count + count_ones rest ≡ count_ones deeper
  pub few : count ≤ k

pub moves-odd : (ls : List Ladder) (are : AreLadders ls) (m deeper at rest count k next : ℕ) → k < 32 → rest % 2 ≡ 1 → next ≡ entry_at ls at k → next < length ls
    → IsOnTheWay ls m deeper at rest count k → IsOnTheWay ls m deeper next (rest / 2) (count + 1) (k + 1)
moves-odd ls are m deeper at rest count k next rung odd is within way =
    let t : Tree = tree_of ls in
    let from : ModuleId = record { 0 = at } in
    let to : next ≡ (climb t (2 ^ k) from).0 = is ∙ entry-is ls are k from rung way.known in
    let half = halves-odd rest k odd in record {
      known = within;
      same =
          ap (λ n. (climb t (rest / 2 * 2 ^ (k + 1)) (record { 0 = n })).0) to
          ∙ ap (λ (x : ModuleId). x.0) (sym (climb-add t (2 ^ k) (rest / 2 * 2 ^ (k + 1)) from))
          ∙ ap (λ n. (climb t n from).0) (sym half)
          ∙ way.same;
      below = let b = way.below in omega arith;
      moves = let e = ones_step rest in let w = way.moves in omega arith;
      few = let f = way.few in omega arith;
    }

pub moves-even : (ls : List Ladder) (m deeper at rest count k : ℕ) → rest % 2 ≢ 1 → IsOnTheWay ls m deeper at rest count k → IsOnTheWay ls m deeper at (rest / 2) count (k + 1)
moves-even ls m deeper at rest count k even way =
    let half = halves-even rest k even in record {
      known = way.known;
      same = ap (λ n. (climb (tree_of ls) n (record { 0 = at })).0) (sym half) ∙ way.same;
      below = let b = way.below in omega arith;
      moves = let e = ones_step rest in let w = way.moves in omega arith;
      few = let f = way.few in omega arith;
    }

-- ---- What is answered, of modules of the depths `outer` and `inner`.

module _ (ls : List Ladder) (are : AreLadders ls) (a m : ModuleId) (outer inner : ℕ) (ancestor : a.0 < length ls) (module_ : m.0 < length ls)
    (of_a : outer ≡ depth_at ls a.0) (of_m : inner ≡ depth_at ls m.0) where
  abbrev t : Tree
  t = tree_of ls

  a-depth : outer ≡ depth t a
  a-depth = of_a ∙ depth-is ls are a ancestor

  m-depth : inner ≡ depth t m
  m-depth = of_m ∙ depth-is ls are m module_

  deeper : inner - outer ≡ depth t m - depth t a
  deeper = λ i. m-depth i - a-depth i

  pub not-among : inner < outer → false ≡ is_among a (chain t m)
  not-among less = let x = a-depth in let y = m-depth in sym (among-less_deep t (ladders-tree ls are) a m (known-from ls m module_) (omega arith))

  pub no-moves : inner < outer → 0 ≡ moves t a m
  no-moves less =
      let none : depth t m - depth t a ≡ 0 = let x = a-depth in let y = m-depth in omega arith in
      let zeros : count_ones 0 ≡ 0 = let e = ones_le_self 0 in omega arith in
      sym (ap count_ones none ∙ zeros)

  pub is-among : outer ≤ inner → (at : ℕ) → at ≡ (climb t (inner - outer) m).0 → nat_eq a.0 at ≡ is_among a (chain t m)
  is-among less at is =
      let x = a-depth in
      let y = m-depth in
      ap (nat_eq a.0) is
      ∙ ap (λ n. nat_eq a.0 (climb t n m).0) deeper
      ∙ sym (among-climb t (ladders-tree ls are) a m (known-from ls m module_) (omega arith))

  pub all-moves : (count : ℕ) → count ≡ count_ones (inner - outer) → count ≡ moves t a m
  all-moves count is = is ∙ ap count_ones deeper

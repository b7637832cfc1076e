-- The jump pointers (ladder) of a module, as they are filled in.
use Rattle.std.proofs.Common.{◌≡◌, ◌≤◌, ◌<◌, ℕ, suc, List, length, replicate, slice_index, refl, sym, ap, ◌∙◌, subst, arith}
use Rattle.std.proofs.lemmas.List.{get_or-replicate}
use Rattle.dm_maps.specs.JumpPointers.{depth_at, entry_at, IsLadder}
use Rattle.dm_maps.specs.declared.ladders.Ladder.{Ladder}

-- the entries below k of a module in module c are filled
pub record IsFilled (ls : List Ladder) (c : ℕ) (es : List ℕ) (k : ℕ) : Type 0 where
  pub long : length es ≡ 32
  pub first : slice_index es 0 ≡ c
  pub known : (j : ℕ) → j < 32 → slice_index es j < length ls
  pub next : (j : ℕ) → suc j < k → slice_index es (suc j) ≡ entry_at ls (slice_index es j) j

pub IsFilled-first : (ls : List Ladder) (c : ℕ) → c < length ls → IsFilled ls c (replicate 32 c) 1
IsFilled-first ls c known = record {
  long = refl;
  first = refl;
  known = λ j h. subst (λ n. n < length ls) (sym (get_or-replicate 32 j c 0 h)) known;
  next = λ j h. absurd (omega arith);
}

-- what is filled is the ladder of the next module
pub filled-ladder : (ls : List Ladder) (c d : ℕ) (es : List ℕ) → d ≡ suc (depth_at ls c) → d ≤ length ls → IsFilled ls c es 32 → IsLadder ls (length ls) (record { depth = d; entries = es })
filled-ladder ls c d es is fits filled = record {
  long = filled.long;
  shallow = fits;
  outmost = λ none. absurd (omega arith);
  below = λ deep. record {
    smaller = filled.known;
    deeper = is ∙ sym (ap (λ n. suc (depth_at ls n)) filled.first);
    entries = λ k h. filled.next k (omega arith);
  };
}

-- the ladder of a next module that nothing contains
pub alone-ladder : (ls : List Ladder) (n : ℕ) → n ≡ length ls → IsLadder ls (length ls) (record { depth = 0; entries = replicate 32 n })
alone-ladder ls n is = record {
  long = refl;
  shallow = omega arith;
  outmost = λ none k h. get_or-replicate 32 k n 0 h ∙ is;
  below = λ deep. absurd (deep refl);
}

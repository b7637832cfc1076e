-- The items of the homes from a number on.
use Rattle.std.proofs.Common.{◌≡◌, ◌+◌, ◌-◌, ◌++◌, ◌<◌, ◌≤◌, ℕ, List, [], ◌∷◌, length, drop, map, refl, sym, subst, arith}
use Rattle.std.specs.Prelude.{◌&&◌, All, None, Option, Some, nat_le, nat_lt, not}
use Rattle.std.specs.Ordering.{is_lt, nat_cmp}
use Rattle.std.proofs.lemmas.List.{drop_all}
use Rattle.std.proofs.lemmas.List.Elements.{All-append, All-cons, All-map, All-nil}
use Rattle.crate_items.specs.FileItems.{rank_of}
use Rattle.crate_items.specs.ModuleItems.{AreItemsIn, AreItemsOf, IsBelow, row_of}
use Rattle.crate_items.specs.declared.items.module_items.ItemHome.{ItemHome}
use Rattle.crate_items.specs.declared.items.module_items.ModuleItem.{ModuleItem}
use Rattle.crate_items.specs.declared.items.file_items.Homed.{Homed}
use Rattle.crate_items.specs.Modules.{is_same}
use Rattle.crate_items.specs.Sources.{Source}

-- the ranks up to that of a module, without those of modules before it
pub same_rank : (home : Option ℕ) (x : Option ℕ) → (nat_lt (rank_of home - 1) (rank_of x) && nat_le (rank_of x) (rank_of home)) ≡ is_same x home
same_rank None None = grind arith
same_rank None (Some n) = grind arith
same_rank (Some m) None = grind arith
same_rank (Some m) (Some n) = grind arith

-- who has the rank of a module stands in it
pub same_ties : (home : Option ℕ) (x : Option ℕ)
    → (not (is_lt (nat_cmp (rank_of home) (rank_of x))) && not (is_lt (nat_cmp (rank_of x) (rank_of home)))) ≡ is_same x home
same_ties None None = grind arith
same_ties None (Some n) = grind arith
same_ties (Some m) None = grind arith
same_ties (Some m) (Some n) = grind arith

pub none_left : (table : List (Option Source)) (n : ℕ) (hs : List ItemHome) → length hs ≤ n → AreItemsIn table n (drop n hs) []
none_left table n hs past = subst (λ (left : List ItemHome). AreItemsIn table n left []) (sym (drop_all n hs past)) refl

pub one_before : (table : List (Option Source)) (n : ℕ) (hs : List ItemHome) (h : ItemHome) (own : List Homed) (rest : List ModuleItem)
    → drop n hs ≡ h ∷ drop (n + 1) hs
    → AreItemsOf table h own
    → AreItemsIn table (n + 1) (drop (n + 1) hs) rest
    → AreItemsIn table n (drop n hs) (map (row_of n h) own ++ rest)
one_before table n hs h own rest next order more =
    subst (λ (left : List ItemHome). AreItemsIn table n left (map (row_of n h) own ++ rest)) (sym next)
    (own, rest, order, more, refl)

each_below : (k n : ℕ) (h : ItemHome) (own : List Homed) → n < k → All (λ (x : Homed). IsBelow k (row_of n h x)) own
each_below k n h [] less = All-nil (λ (x : Homed). IsBelow k (row_of n h x))
each_below k n h (x ∷ xs) less = All-cons (λ (y : Homed). IsBelow k (row_of n h y)) x xs less (each_below k n h xs less)

pub all_below : (table : List (Option Source)) (k n : ℕ) (hs : List ItemHome) (rows : List ModuleItem)
    → n + length hs ≡ k → AreItemsIn table n hs rows → All (IsBelow k) rows
all_below table k n [] rows e are = subst (All (IsBelow k)) (sym are) (All-nil (IsBelow k))
all_below table k n (h ∷ hs) rows e (own, rest, order, more, is) =
    let less : n < k = omega arith in
    let behind : (n + 1) + length hs ≡ k = omega arith in
    subst (All (IsBelow k)) (sym is)
    (All-append (IsBelow k) (map (row_of n h) own) rest (All-map (IsBelow k) (row_of n h) own (each_below k n h own less))
    (all_below table k (n + 1) hs rest behind more))

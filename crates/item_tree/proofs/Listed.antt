-- Use trees stand behind the lists that they are in.
use Rattle.std.proofs.Common.{◌≡◌, ◌+◌, ◌-◌, ◌++◌, ◌<◌, ◌≤◌, ℕ, zero, suc, Bool, true, false, List, [], ◌∷◌, length, drop, refl, ap, sym, ◌∙◌, subst, arith, cond, inl, inr, length-append}
use Rattle.std.specs.Prelude.{◌⊎◌, ◌||◌, Option, Some, None, slice_get, nat_lt}
use Rattle.std.proofs.lemmas.Bool.{cases_order}
use Rattle.std.proofs.lemmas.Option.{slice_get_within, slice_get-get_or}
use Rattle.std.proofs.lemmas.List.{get_or_push}
use Rattle.std.proofs.Math.ListN.{get_or-append}
use Rattle.item_tree.specs.Heads.{is_mark}
use Rattle.item_tree.specs.Lists.{kind_of, IsListBefore, StandInLists}
use Rattle.item_tree.specs.UseTrees.{first_use_tree, parent_of, outer, inner, inner_of, closes_list, step_of, step_to, with_tree, use_trees_from, use_trees_of}
use Rattle.item_tree.specs.Visibilities.{lexeme_at}
use Rattle.item_tree.specs.declared.items.Range.{Range}
use Rattle.item_tree.specs.declared.lexer.lexeme.Lexeme.{Lexeme}
use Rattle.item_tree.specs.declared.items.use_tree.Step.{Step}
use Rattle.item_tree.specs.declared.items.use_tree.UseTree.{UseTree}
use Rattle.item_tree.specs.declared.items.use_tree.UseTreeKind.{UseTreeKind}
use Rattle.item_tree.specs.declared.items.use_tree.UseTreeKind.TheVariants as tree

get_front : (trees : List UseTree) (t : UseTree) (n : ℕ) → n < length trees → slice_get (trees ++ t ∷ []) n ≡ slice_get trees n
get_front trees t n h =
    let longer : n < length (trees ++ t ∷ []) = omega (arith, length-append trees (t ∷ [])) in
    slice_get-get_or (trees ++ t ∷ []) n t longer ∙ (ap (λ (u : UseTree). Some u) (get_or-append trees (t ∷ []) t n h) ∙ sym (slice_get-get_or trees n t h))

get_last : (trees : List UseTree) (t : UseTree) → slice_get (trees ++ t ∷ []) (length trees) ≡ Some t
get_last trees t =
    let longer : length trees < length (trees ++ t ∷ []) = omega (arith, length-append trees (t ∷ [])) in
    slice_get-get_or (trees ++ t ∷ []) (length trees) t longer ∙ ap (λ (u : UseTree). Some u) (get_or_push trees t t (length trees) refl)

-- where more stand behind, and for a later place
later : (trees : List UseTree) (t : UseTree) (n m : ℕ) (parent : Option ℕ) → n ≤ length trees → n ≤ m → IsListBefore trees n parent → IsListBefore (trees ++ t ∷ []) m parent
later trees t n m None low up h = tt
later trees t n m (Some p) low up h = let before = h.0 in (omega arith, ap kind_of (get_front trees t p (omega arith)) ∙ h.1)

wider : (trees : List UseTree) (n m : ℕ) (parent : Option ℕ) → n ≤ m → IsListBefore trees n parent → IsListBefore trees m parent
wider trees n m None up h = tt
wider trees n m (Some p) up h = let before = h.0 in (omega arith, h.1)

-- the trees that are read, and the list that the next one is in
record Listed (trees : List UseTree) (parent : Option ℕ) : Type 0 where
  pub each : StandInLists trees
  pub next : IsListBefore trees (length trees) parent

outer_listed : (trees : List UseTree) (parent : Option ℕ) → Listed trees parent → Listed trees (outer trees parent)
outer_listed trees None l = record { each = l.each; next = tt }
outer_listed trees (Some p) l = record { each = l.each; next = by (slice_get trees p) refl }
  where
    by : (o : Option UseTree) → slice_get trees p ≡ o → IsListBefore trees (length trees) (parent_of o)
    by None e = tt
    by (Some t) e = let within = slice_get_within trees p t e in wider trees p (length trees) t.parent (omega arith) (l.each p t e)

inner_listed : (trees : List UseTree) (t : UseTree) (k : UseTreeKind) → t.kind ≡ k → IsListBefore trees (length trees) t.parent → IsListBefore (trees ++ t ∷ []) (length (trees ++ t ∷ [])) (inner_of k t.parent (length trees))
inner_listed trees t tree.Prefixed e h = (omega (arith, length-append trees (t ∷ [])), ap kind_of (get_last trees t) ∙ e)
inner_listed trees t tree.Single e h = later trees t (length trees) (length (trees ++ t ∷ [])) t.parent (omega arith) (omega (arith, length-append trees (t ∷ []))) h
inner_listed trees t tree.Glob e h = later trees t (length trees) (length (trees ++ t ∷ [])) t.parent (omega arith) (omega (arith, length-append trees (t ∷ []))) h
inner_listed trees t tree.Error e h = later trees t (length trees) (length (trees ++ t ∷ [])) t.parent (omega arith) (omega (arith, length-append trees (t ∷ []))) h

same_tree : (t u : UseTree) (o : Option UseTree) → o ≡ Some t → o ≡ Some u → t ≡ u
same_tree t u o e f = cc

tree_listed : (trees : List UseTree) (t : UseTree) → IsListBefore trees (length trees) t.parent → StandInLists trees → Listed (trees ++ t ∷ []) (inner t (length trees))
tree_listed trees t h each = record { each = λ n u e. by n u e (cases_order n (length trees)); next = inner_listed trees t t.kind refl h }
  where
    by : (n : ℕ) (u : UseTree) → slice_get (trees ++ t ∷ []) n ≡ Some u → ((n ≡ length trees) ⊎ ((n < length trees) ⊎ (length trees < n))) → IsListBefore (trees ++ t ∷ []) n u.parent
    by n u e (inl at) =
        let is : t ≡ u = same_tree t u (slice_get (trees ++ t ∷ []) n) (ap (λ m. slice_get (trees ++ t ∷ []) m) at ∙ get_last trees t) e in
        subst (λ (v : UseTree). IsListBefore (trees ++ t ∷ []) n v.parent) is (later trees t (length trees) n t.parent (omega arith) (omega arith) h)
    by n u e (inr (inl less)) = later trees t n n u.parent (omega arith) (omega arith) (each n u (sym (get_front trees t n less) ∙ e))
    by n u e (inr (inr past)) = let within = slice_get_within (trees ++ t ∷ []) n u e in absurd (omega (arith, length-append trees (t ∷ [])))

first_in : (i : ℕ) (parent : Option ℕ) (ls : List Lexeme) → (first_use_tree i parent ls).parent ≡ parent
unfolding first_use_tree
first_in i parent ls = refl

step_listed : (trees : List UseTree) (parent : Option ℕ) (i : ℕ) (ls : List Lexeme) → Listed trees parent → Listed (with_tree trees (step_of trees parent i ls).tree) (step_of trees parent i ls).parent
unfolding step_of
step_listed trees parent i ls l = by (is_mark 44 (lexeme_at ls 0) || is_mark 59 (lexeme_at ls 0)) (closes_list (lexeme_at ls 0))
  where
    one : UseTree
    one = first_use_tree i parent ls

    comma : Step
    comma = record { tree = None; parent = parent; behind = i + 1 }

    closing : Step
    closing = record { tree = None; parent = outer trees parent; behind = i + 1 }

    by : (a b : Bool) → Listed (with_tree trees (cond a comma (cond b closing (step_to one (length trees)))).tree) (cond a comma (cond b closing (step_to one (length trees)))).parent
    by true b = l
    by false true = outer_listed trees parent l
    by false false = tree_listed trees one (subst (λ (o : Option ℕ). IsListBefore trees (length trees) o) (sym (first_in i parent ls)) l.next) l.each

all_listed : (end : ℕ) (trees : List UseTree) (parent : Option ℕ) (n i : ℕ) (ls : List Lexeme) → Listed trees parent → StandInLists (use_trees_from end trees parent n i ls)
all_listed end trees parent n i [] l = l.each
all_listed end trees parent zero i (x ∷ ls) l =
    by (nat_lt i end) (all_listed end (with_tree trees s.tree) s.parent (s.behind - (i + 1)) (i + 1) ls (step_listed trees parent i (x ∷ ls) l))
  where
    s : Step
    s = step_of trees parent i (x ∷ ls)

    by : (b : Bool) → StandInLists (use_trees_from end (with_tree trees s.tree) s.parent (s.behind - (i + 1)) (i + 1) ls)
        → StandInLists (cond b (use_trees_from end (with_tree trees s.tree) s.parent (s.behind - (i + 1)) (i + 1) ls) trees)
    by true rest = rest
    by false rest = l.each
all_listed end trees parent (suc n) i (x ∷ ls) l = all_listed end trees parent n (i + 1) ls l

pub stand_in_lists : (lexemes : List Lexeme) (range : Range) → StandInLists (use_trees_of lexemes range)
stand_in_lists lexemes range = all_listed range.behind [] None 0 range.first (drop range.first lexemes) (record { each = λ n t e. absurd (nothing n t e); next = tt })
  where
    nothing : (n : ℕ) (t : UseTree) → slice_get [] n ≡ Some t → ⊥
    nothing n t e = let within = slice_get_within [] n t e in omega arith

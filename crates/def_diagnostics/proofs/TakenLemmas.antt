-- A name is taken exactly where an item takes it.
use Rattle.std.proofs.Common.{◌≡◌, ◌∙◌, ◌||◌, ℕ, Bool, true, false, cond, List, [], ◌∷◌, ◌++◌, refl, ap, sym}
use Rattle.std.specs.Prelude.{fold}
use Rattle.std.specs.Cmp.{IsEquivalence, and_equiv, nat_eq_equiv, on_equiv}
use Rattle.std.specs.Cmp.Lexicographic.{nat_list_eq_equiv}
use Rattle.std.specs.List.{list_any}
use Rattle.std.proofs.lemmas.List.Folds.{list_any-append}
use Rattle.std.proofs.lemmas.Map.Steps.{list_any_congr}
use Rattle.def_diagnostics.specs.Duplicates.{taken_with}
use Rattle.def_diagnostics.specs.TakenLaws.{TakenByItems}
use Rattle.def_diagnostics.specs.TakenNames.{namespace_place, names_of, same_taken, with_name}
use Rattle.def_diagnostics.specs.declared.taken_names.TakenName.{TakenName}
use Rattle.crate_items.specs.declared.items.declared_item.DeclaredItem.{DeclaredItem}
use Rattle.crate_items.specs.Files.{SourceFile}
use Rattle.crate_items.specs.Modules.{Listing}

or_true : (b : Bool) → (b || true) ≡ true
or_true true = refl
or_true false = refl

or_false : (b : Bool) → (b || false) ≡ b
or_false true = refl
or_false false = refl

or_assoc : (a b c : Bool) → ((a || b) || c) ≡ (a || (b || c))
or_assoc true b c = refl
or_assoc false b c = refl

same_equivalence : IsEquivalence same_taken
same_equivalence =
    and_equiv (and_equiv (on_equiv (λ (t : TakenName). t.«module») nat_eq_equiv) (on_equiv (λ (t : TakenName). namespace_place t.namespace) nat_eq_equiv))
    (on_equiv (λ (t : TakenName). t.name) nat_list_eq_equiv)

any_inserted : (ks : List TakenName) (x k : TakenName) → list_any (same_taken k) (with_name ks x) ≡ (list_any (same_taken k) ks || same_taken k x)
any_inserted ks x k = by (list_any (same_taken x) ks) refl (same_taken k x) refl
  where
    by : (a : Bool) → list_any (same_taken x) ks ≡ a → (c : Bool) → same_taken k x ≡ c → list_any (same_taken k) (cond a ks (ks ++ x ∷ [])) ≡ (list_any (same_taken k) ks || c)
    by true p true q = (list_any_congr same_equivalence k x ks q ∙ p) ∙ sym (or_true (list_any (same_taken k) ks))
    by true p false q = sym (or_false (list_any (same_taken k) ks))
    by false p c q = list_any-append (same_taken k) ks (x ∷ []) ∙ ap (λ b. list_any (same_taken k) ks || (b || false)) q ∙ ap (λ b. list_any (same_taken k) ks || b) (or_false c)

any_taken : (ns ks : List TakenName) (k : TakenName) → list_any (same_taken k) (fold with_name ks ns) ≡ (list_any (same_taken k) ks || list_any (same_taken k) ns)
any_taken [] ks k = sym (or_false (list_any (same_taken k) ks))
any_taken (n ∷ ns) ks k =
    any_taken ns (with_name ks n) k
    ∙ ap (λ b. b || list_any (same_taken k) ns) (any_inserted ks n k)
    ∙ or_assoc (list_any (same_taken k) ks) (same_taken k n) (list_any (same_taken k) ns)

any_behind : (l : Listing) (files : List SourceFile) (mods : List (ℕ × ℕ)) (ys : List DeclaredItem) (ks : List TakenName) (k : TakenName)
    → list_any (same_taken k) (fold (taken_with l files mods) ks ys) ≡ (list_any (same_taken k) ks || list_any (λ (y : DeclaredItem). list_any (same_taken k) (names_of l files mods y)) ys)
any_behind l files mods [] ks k = sym (or_false (list_any (same_taken k) ks))
any_behind l files mods (y ∷ ys) ks k =
    let more = list_any (λ (z : DeclaredItem). list_any (same_taken k) (names_of l files mods z)) ys in
    any_behind l files mods ys (taken_with l files mods ks y) k
    ∙ ap (λ b. b || more) (any_taken (names_of l files mods y) ks k)
    ∙ or_assoc (list_any (same_taken k) ks) (list_any (same_taken k) (names_of l files mods y)) more

pub taken_by_items : TakenByItems
taken_by_items l files mods ys k = any_behind l files mods ys [] k

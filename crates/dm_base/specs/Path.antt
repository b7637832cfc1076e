-- Paths, as contracts see them.
use Rattle.std.specs.Prelude.{◌≡◌, ℕ, List, [], ◌∷◌, Bool, true, nat_eq, refl}
use Rattle.std.specs.Ordering.{on, eq_of_both}
use Rattle.std.specs.Cmp.{IsEquivalence, and_equiv, on_equiv, nat_eq_equiv}
use Rattle.std.specs.Cmp.Lexicographic.{pointwise, bytes_decides, lists_equiv, nat_list_eq_equiv}
use Rattle.std.proofs.Common.{rules}
use Rattle.std.proofs.lemmas.Bool.{and_parts}
use Rattle.dm_base.specs.Names.{Name}
use Rattle.dm_base.specs.declared.mod_path.PathKind.{PathKind}
use Rattle.dm_base.specs.declared.mod_path.PathKind.TheVariants as kind

-- a path: its kind, and its segments in order
pub record Path : Type 0 where
  pub kind : PathKind
  pub segments : List Name

-- a kind is its place among the five and its number, if it has one
abbrev pub kind_place : PathKind → ℕ
kind_place kind.Plain = 0
kind_place kind.Abs = 1
kind_place kind.Crate = 2
kind_place (kind.DollarCrate k) = 3
kind_place (kind.Super k) = 4

abbrev pub kind_number : PathKind → ℕ
kind_number kind.Plain = 0
kind_number kind.Abs = 0
kind_number kind.Crate = 0
kind_number (kind.DollarCrate k) = k.0
kind_number (kind.Super k) = k

abbrev pub same_kind : PathKind → PathKind → Bool
same_kind = eq_of_both (on kind_place nat_eq) (on kind_number nat_eq)

-- the same kind, and the same segments in order
abbrev pub same_path : Path → Path → Bool
same_path = eq_of_both (on (λ p. p.kind) same_kind) (on (λ p. p.segments) (pointwise (pointwise nat_eq)))

pub same_path_equivalence : IsEquivalence same_path
same_path_equivalence =
    and_equiv (on_equiv (λ p. p.kind) (and_equiv (on_equiv kind_place nat_eq_equiv) (on_equiv kind_number nat_eq_equiv)))
    (on_equiv (λ p. p.segments) (lists_equiv nat_list_eq_equiv))

kinds_same : (x y : PathKind) → same_kind x y ≡ true → x ≡ y
kinds_same = Prim.search rules

names_same : (xs ys : List Name) → pointwise (pointwise nat_eq) xs ys ≡ true → xs ≡ ys
names_same [] [] e = refl
names_same [] (y ∷ ys) e = cc
names_same (x ∷ xs) [] e = cc
names_same (x ∷ xs) (y ∷ ys) e = let parts = and_parts _ _ e in λ i. (bytes_decides x y).0 parts.0 i ∷ names_same xs ys parts.1 i

-- equal paths are the same path
pub paths_same : (x y : Path) → same_path x y ≡ true → x ≡ y
paths_same x y e =
    let parts = and_parts _ _ e in λ i. record { kind = kinds_same x.kind y.kind parts.0 i; segments = names_same x.segments y.segments parts.1 i }

-- Values of which one shadows another, part by part, and the laws of that: an idempotent monoid.
use Rattle.std.specs.Prelude.{◌≡◌, ℕ, max, Option, Some, None, refl}
use Rattle.std.specs.Option.{option_or}
use Rattle.std.proofs.Common.{ap, arith}
use Rattle.dm_base.specs.declared.per_ns.PerNs.{PerNs}
use Rattle.dm_base.specs.PerNs.{nothing, over}

pub option_or_associative : {A : Type 0} → (x y z : Option A) → option_or (option_or x y) z ≡ option_or x (option_or y z)
option_or_associative None y z = refl
option_or_associative (Some x) y z = refl

pub option_or_none : {A : Type 0} → (x : Option A) → option_or x None ≡ x
option_or_none None = refl
option_or_none (Some x) = refl

pub option_or_same : {A : Type 0} → (x : Option A) → option_or x x ≡ x
option_or_same None = refl
option_or_same (Some x) = refl

-- the greatest number of those that are there
abbrev pub greatest : Option ℕ → Option ℕ → Option ℕ
greatest None b = b
greatest (Some a) None = Some a
greatest (Some a) (Some b) = Some (max a b)

pub greatest_associative : (x y z : Option ℕ) → greatest (greatest x y) z ≡ greatest x (greatest y z)
greatest_associative None y z = refl
greatest_associative (Some x) None z = refl
greatest_associative (Some x) (Some y) None = refl
greatest_associative (Some x) (Some y) (Some z) = let same : max (max x y) z ≡ max x (max y z) = omega arith in ap Some same

pub greatest_none : (x : Option ℕ) → greatest x None ≡ x
greatest_none None = refl
greatest_none (Some x) = refl

pub greatest_same : (x : Option ℕ) → greatest x x ≡ x
greatest_same None = refl
greatest_same (Some x) = let same : max x x ≡ x = omega arith in ap Some same

pub over_associative : (x y z : PerNs) → over (over x y) z ≡ over x (over y z)
over_associative x y z = λ i. record {
  types = option_or_associative x.types y.types z.types i;
  values = option_or_associative x.values y.values z.values i;
  macros = option_or_associative x.macros y.macros z.macros i;
}

pub over_nothing : (x : PerNs) → over x nothing ≡ x
over_nothing x = λ i. record { types = option_or_none x.types i; values = option_or_none x.values i; macros = option_or_none x.macros i }

pub over_same : (x : PerNs) → over x x ≡ x
over_same x = λ i. record { types = option_or_same x.types i; values = option_or_same x.values i; macros = option_or_same x.macros i }

-- The order of faults.
use Rattle.std.proofs.Common.{◌≡◌, ℕ, Bool, true, false, ◌&&◌, ◌||◌, nat_eq, arith}
use Rattle.std.specs.Prelude.{nat_lt}
use Rattle.std.proofs.lemmas.Bool.Decides.{nat_tests}
use Rattle.dm_maps.specs.declared.check.held.HeldFault.{HeldFault}
use Rattle.dm_maps.specs.Held.{comes_before, rank}

abbrev before : ℕ → ℕ → ℕ → ℕ → Bool
before a b c d = nat_lt a c || (nat_eq a c && nat_lt b d)

before-irrefl : (a b : ℕ) → before a b a b ≡ false
before-irrefl a b = grind (arith, nat_tests)

before-later : (a b c d e f : ℕ) → before c d e f ≡ true → before a b e f ≡ false → before a b c d ≡ false
before-later a b c d e f h g = grind (arith, nat_tests)

before-other : (a b c d e f : ℕ) → before c d e f ≡ false → before a b c d ≡ false → before a b e f ≡ false
before-other a b c d e f h g = grind (arith, nat_tests)

pub comes_before-irrefl : (f : HeldFault) → comes_before f f ≡ false
comes_before-irrefl f = before-irrefl (rank f.kind) f.id

-- what does not come before a later one does not come before the earlier one
pub comes_before-later : (x h old : HeldFault) → comes_before h old ≡ true → comes_before x old ≡ false → comes_before x h ≡ false
comes_before-later x h old e g = before-later (rank x.kind) x.id (rank h.kind) h.id (rank old.kind) old.id e g

-- what does not come before one that does not come before another does not come before the other
pub comes_before-other : (x h old : HeldFault) → comes_before h old ≡ false → comes_before x h ≡ false → comes_before x old ≡ false
comes_before-other x h old e g = before-other (rank x.kind) x.id (rank h.kind) h.id (rank old.kind) old.id e g

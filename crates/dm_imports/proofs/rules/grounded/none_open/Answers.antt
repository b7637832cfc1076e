use Rattle.std.proofs.Common.{◌≡◌, ◌∙◌, Bool, length, nat_eq, refl, sym, false, true}
use Rattle.std.proofs.lemmas.Bool.{eqb-true}
use Rattle.dm_imports.specs.Grounded.{IsGrounded}
use Rattle.dm_imports.specs.Tables.{of_tables}
use Rattle.dm_imports.proofs.PassLemmas.{all-grounded, some-left, some-ungrounded}
use Rattle.dm_imports.proofs.rules.grounded.none_open.Goals as goal

pub returns : goal.returns
returns c =
    let d = of_tables c.args.maps.now in
    let ways = c.args.left.now in (
      λ yes. all-grounded d ways c.requires.all (eqb-true (length ways) 0 (sym c.is_empty.ensures ∙ yes)),
      λ grounded. by (nat_eq (length ways) 0) refl grounded,
    )
  where
    by : (b : Bool) → nat_eq (length c.args.left.now) 0 ≡ b → IsGrounded (of_tables c.args.maps.now) → c.is_empty.result ≡ true
    by true e grounded = c.is_empty.ensures ∙ e
    by false e grounded = absurd (some-ungrounded (of_tables c.args.maps.now) c.args.left.now c.requires.each (some-left (length c.args.left.now) e) grounded)

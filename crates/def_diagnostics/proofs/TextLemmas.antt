-- What is no UTF-8 is a question mark.
use Rattle.std.proofs.Common.{◌≡◌, ℕ, Bool, true, false, List, refl, ap, sym, cond}
use Rattle.std.specs.Prelude.{codes}
use Rattle.std.specs.Str.{IsUtf8, is_utf8}
use Rattle.std.proofs.lemmas.Str.{IsUtf8-from_is_utf8, is_utf8-from_IsUtf8}
use Rattle.def_diagnostics.specs.Texts.{as_text}

pub text_is_text : (bytes : List ℕ) → IsUtf8 bytes → bytes ≡ as_text bytes
text_is_text bytes is = ap (λ b. cond b bytes (codes "?")) (sym (is_utf8-from_IsUtf8 bytes is))

pub no_text_is_mark : (bytes : List ℕ) → ¬ (IsUtf8 bytes) → codes "?" ≡ as_text bytes
no_text_is_mark bytes not = by (is_utf8 bytes) refl
  where
    by : (b : Bool) → is_utf8 bytes ≡ b → codes "?" ≡ cond b bytes (codes "?")
    by true e = absurd (not (IsUtf8-from_is_utf8 bytes e))
    by false e = refl

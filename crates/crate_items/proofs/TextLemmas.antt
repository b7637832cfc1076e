-- Names are texts.
use Rattle.std.proofs.Common.{◌≡◌, ℕ, Bool, true, false, List, refl, ap, sym, cond}
use Rattle.std.specs.Prelude.{Some, None}
use Rattle.std.specs.Str.{IsUtf8, is_utf8}
use Rattle.std.proofs.lemmas.Str.{IsUtf8-from_is_utf8, is_utf8-from_IsUtf8}
use Rattle.crate_items.specs.Modules.{as_name, normalized}

pub text_is_name : (bytes : List ℕ) → IsUtf8 bytes → Some (normalized bytes) ≡ as_name bytes
text_is_name bytes is = ap (λ b. cond b (Some (normalized bytes)) None) (sym (is_utf8-from_IsUtf8 bytes is))

pub no_text_is_none : (bytes : List ℕ) → ¬ (IsUtf8 bytes) → None ≡ as_name bytes
no_text_is_none bytes not = by (is_utf8 bytes) refl
  where
    by : (b : Bool) → is_utf8 bytes ≡ b → None ≡ cond b (Some (normalized bytes)) None
    by true e = absurd (not (IsUtf8-from_is_utf8 bytes e))
    by false e = refl

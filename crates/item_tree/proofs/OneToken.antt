-- What makes the first bytes of a text its first token.
use Rattle.std.proofs.Common.{◌≡◌, ◌+◌, ◌<◌, ◌≤◌, ◌++◌, ℕ, Bool, true, false, List, [], length, take, drop, refl, ap, sym, ◌∙◌, arith, length-drop, take-append-drop}
use Rattle.std.specs.Prelude.{◌==◌, ◌||◌, ◌&&◌, nat_le}
use Rattle.std.proofs.lemmas.Grind.{common_steps}
use Rattle.std.proofs.lemmas.Bool.{le-leb}
use Rattle.std.proofs.lemmas.List.{append-nil, drop-drop, drop-take, length-take-le}
use Rattle.std.proofs.Math.ListN.{drop_of_length-le}
use Rattle.std.proofs.Math.Seq.{take-length, drop-length}
use Rattle.dm_base.specs.declared.edition.Edition.{Edition}
use Rattle.item_tree.specs.Openings.{opening}
use Rattle.item_tree.specs.Tokens.{fills, never_ends, number_of, are_tokens, IsFirst}
use Rattle.item_tree.specs.declared.items.openings.Opening.{Opening}
use Rattle.item_tree.specs.declared.lexer.token.Token.{Token}
use Rattle.item_tree.specs.declared.lexer.token.TokenKind.TheVariants.{Error}

same_number : (n : ℕ) → (n == n) ≡ true
same_number n = grind (arith, common_steps)

or_true : (b : Bool) → (b || true) ≡ true
or_true true = refl
or_true false = refl

-- an opening and all of its body
pub first_closed : (edition : Edition) (at_start : Bool) (o : Opening) (n : ℕ) (t : List ℕ) → o ≡ opening edition at_start t → 0 < o.len → o.len ≤ length t
    → n ≤ length (drop o.len t) → fills o.body (take n (drop o.len t)) (drop n (drop o.len t)) ≡ true
    → IsFirst edition at_start (record { kind = o.kind; len = o.len + n }) t
first_closed edition at_start o n t is some opened in_range filled =
    let long : o.len + n ≤ length t = omega (arith, length-drop o.len t) in
    let body : fills o.body (drop o.len (take (o.len + n) t)) (drop (o.len + n) t) ≡ true
    = (λ i. fills o.body (drop-take o.len n t i) (sym (drop-drop n o.len t) i)) ∙ filled in
    let enough : nat_le o.len (length (take (o.len + n) t)) ≡ true = le-leb o.len (length (take (o.len + n) t)) (omega (arith, length-take-le (o.len + n) t long)) in
    record {
      some_byte = omega arith;
      in_range = long;
      checked = rw (take-append-drop (o.len + n) t, sym is, enough, same_number (number_of o.kind), body) refl;
    }

-- an opening of what never ends
pub first_open : (edition : Edition) (at_start : Bool) (o : Opening) (t : List ℕ) → o ≡ opening edition at_start t → 0 < o.len → o.len ≤ length t
    → never_ends o.body (drop o.len t) ≡ true → IsFirst edition at_start (record { kind = Error; len = length t }) t
first_open edition at_start o t is some opened unended =
    let enough : nat_le o.len (length t) ≡ true = le-leb o.len (length t) opened in
    record {
      some_byte = omega arith;
      in_range = omega arith;
      checked = rw (take-length t, drop-length t, append-nil t, sym is, enough, unended) (or_true ((number_of Error == number_of o.kind) && fills o.body (drop o.len t) []));
    }

-- tokens that are cut up to the end of a text are its tokens
pub tokens_of_all : (edition : Edition) (at_start : Bool) (ts : List Token) (text : List ℕ) (at : ℕ) → length text ≤ at
    → ((us : List Token) → are_tokens edition true (ts ++ us) text ≡ are_tokens edition at_start us (drop at text)) → are_tokens edition true ts text ≡ true
tokens_of_all edition at_start ts text at h read =
    ap (λ l. are_tokens edition true l text) (sym (append-nil ts)) ∙ read [] ∙ ap (λ l. length l == 0) (drop_of_length-le text h)

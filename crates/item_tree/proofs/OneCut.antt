-- A text has one cut into tokens.
use Rattle.std.proofs.Common.{◌≡◌, ◌+◌, ◌-◌, ◌<◌, ◌≤◌, ◌++◌, ℕ, Bool, true, false, not, List, [], ◌∷◌, Option, Some, None, length, take, drop, get_or, refl, ap, sym, ◌∙◌, arith, length-drop, take-append-drop}
use Rattle.std.specs.Prelude.{◌&&◌, ◌==◌, ◌||◌, is_none, if◌then◌else◌, nat_lt, nat_le, sum_by}
use Rattle.std.specs.List.{prefix_len}
use Rattle.std.proofs.lemmas.Grind.{common_steps}
use Rattle.std.proofs.lemmas.Bool.{ltb-true, leb-true}
use Rattle.std.proofs.lemmas.List.{drop-append-le, take_all}
use Rattle.std.proofs.lemmas.List.Sums.{sum_by-cons}
use Rattle.std.proofs.Math.Seq.{drop-append_seam}
use Rattle.dm_base.specs.declared.edition.Edition.{Edition}
use Rattle.item_tree.specs.Shapes.{is_no_newline, is_escape, matched_with, past_quote, past_comment, past_raw, is_longest_run, is_exact}
use Rattle.item_tree.specs.Characters.{is_following, is_blank, is_word_char, chars_len}
use Rattle.item_tree.specs.Numbers.{number_len}
use Rattle.item_tree.specs.Openings.{opening, begins_order_mark}
use Rattle.item_tree.specs.Tokens.{fills, never_ends, number_of, same_kind, is_opened, is_token, are_tokens}
use Rattle.item_tree.specs.declared.items.bodies.NumberPart.TheVariants.{Digits}
use Rattle.item_tree.specs.declared.items.openings.Body.{Body}
use Rattle.item_tree.specs.declared.items.openings.Body.TheVariants.{Empty, Following, Blanks, Line, Word, Number, Comment, Quoted, Raw}
use Rattle.item_tree.specs.declared.items.openings.Opening.{Opening}
use Rattle.item_tree.specs.declared.lexer.token.Token.{Token}
use Rattle.item_tree.specs.declared.lexer.token.TokenKind.{TokenKind}
use Rattle.item_tree.specs.declared.lexer.token.TokenKind.TheVariants as kind
use Rattle.item_tree.proofs.Runs.{run_len, chars_are, number_is}

both : (a b : Bool) → (a && b) ≡ true → (a ≡ true) × (b ≡ true)
both true true e = (refl, refl)
both true false e = cc
both false b e = cc

either : {A : Type 0} (a b : Bool) → (a || b) ≡ true → (a ≡ true → A) → (b ≡ true → A) → A
either true b e f g = f refl
either false b e f g = g e

equal_numbers : (a b : ℕ) → (a == b) ≡ true → a ≡ b
equal_numbers a b e = grind (arith, common_steps)

exact_is : (o : Option (List ℕ)) → is_exact o ≡ true → o ≡ Some []
exact_is None e = cc
exact_is (Some []) e = refl
exact_is (Some (x ∷ xs)) e = cc

none_is : (o : Option (List ℕ)) → is_none o ≡ true → o ≡ None
none_is None e = refl
none_is (Some x) e = cc

-- more text behind a shape's end is left over
more_quote : (q : ℕ) (e : Bool) (xs ys zs : List ℕ) → past_quote q e xs ≡ Some zs → past_quote q e (xs ++ ys) ≡ Some (zs ++ ys)
more_quote q e [] ys zs h = cc
more_quote q e (x ∷ xs) ys zs h = by (not e && (x == q)) h (more_quote q (is_escape e x) xs ys zs)
  where
    by : (b : Bool) → (if b then Some xs else past_quote q (is_escape e x) xs) ≡ Some zs
        → (past_quote q (is_escape e x) xs ≡ Some zs → past_quote q (is_escape e x) (xs ++ ys) ≡ Some (zs ++ ys))
        → (if b then Some (xs ++ ys) else past_quote q (is_escape e x) (xs ++ ys)) ≡ Some (zs ++ ys)
    by true h step = cc
    by false h step = step h

more_raw : (n m : ℕ) (xs ys zs : List ℕ) → past_raw n m xs ≡ Some zs → past_raw n m (xs ++ ys) ≡ Some (zs ++ ys)
more_raw n m [] ys zs h = cc
more_raw n m (x ∷ xs) ys zs h = by (nat_lt n (matched_with m x)) h (more_raw n (matched_with m x) xs ys zs)
  where
    by : (b : Bool) → (if b then Some xs else past_raw n (matched_with m x) xs) ≡ Some zs
        → (past_raw n (matched_with m x) xs ≡ Some zs → past_raw n (matched_with m x) (xs ++ ys) ≡ Some (zs ++ ys))
        → (if b then Some (xs ++ ys) else past_raw n (matched_with m x) (xs ++ ys)) ≡ Some (zs ++ ys)
    by true h step = cc
    by false h step = step h

more_comment : (d b : ℕ) (xs ys zs : List ℕ) → past_comment d b xs ≡ Some zs → past_comment d b (xs ++ ys) ≡ Some (zs ++ ys)
more_comment d b [] ys zs h = cc
more_comment d b (x ∷ xs) ys zs h =
    by ((b == 47) && (x == 42)) ((b == 42) && (x == 47)) (d == 0) h (more_comment (d + 1) 0 xs ys zs) (more_comment (d - 1) 0 xs ys zs) (more_comment d x xs ys zs)
  where
    by : (opens closes last : Bool)
        → (if opens then past_comment (d + 1) 0 xs else if closes then (if last then Some xs else past_comment (d - 1) 0 xs) else past_comment d x xs) ≡ Some zs
        → (past_comment (d + 1) 0 xs ≡ Some zs → past_comment (d + 1) 0 (xs ++ ys) ≡ Some (zs ++ ys))
        → (past_comment (d - 1) 0 xs ≡ Some zs → past_comment (d - 1) 0 (xs ++ ys) ≡ Some (zs ++ ys))
        → (past_comment d x xs ≡ Some zs → past_comment d x (xs ++ ys) ≡ Some (zs ++ ys))
        → (if opens then past_comment (d + 1) 0 (xs ++ ys) else if closes then (if last then Some (xs ++ ys) else past_comment (d - 1) 0 (xs ++ ys)) else past_comment d x (xs ++ ys)) ≡ Some (zs ++ ys)
    by true closes last h up down on = up h
    by false true true h up down on = cc
    by false true false h up down on = down h
    by false false last h up down on = on h

-- what is left behind a body that begins a text, where it ends
abbrev left : Body → List ℕ → Option (List ℕ)
left Empty t = Some t
left Following t = Some (drop (prefix_len is_following t) t)
left Blanks t = Some (drop (chars_len is_blank t) t)
left Line t = Some (drop (prefix_len is_no_newline t) t)
left Word t = Some (drop (chars_len is_word_char t) t)
left Number t = Some (drop (number_len Digits t) t)
left Comment t = past_comment 0 0 t
left (Quoted q) t = past_quote q false t
left (Raw n) t = past_raw n 0 t

left_behind : (n : ℕ) (xs ys : List ℕ) → n ≡ length xs → ◌≡◌ {A = Option (List ℕ)} (Some (drop n (xs ++ ys))) (Some ys)
left_behind n xs ys e = ap (λ m. Some (drop m (xs ++ ys))) e ∙ ap (λ (l : List ℕ). Some l) (drop-append_seam xs ys)

left_of_run : (p : ℕ → Bool) (xs ys : List ℕ) → is_longest_run p xs ys ≡ true → ◌≡◌ {A = Option (List ℕ)} (Some (drop (prefix_len p (xs ++ ys)) (xs ++ ys))) (Some ys)
left_of_run p xs ys e = left_behind (prefix_len p (xs ++ ys)) xs ys (run_len p xs ys e)

left_of_nothing : (xs ys : List ℕ) → (length xs == 0) ≡ true → ◌≡◌ {A = Option (List ℕ)} (Some (xs ++ ys)) (Some ys)
left_of_nothing [] ys e = refl
left_of_nothing (x ∷ xs) ys e = absurd (omega (arith, equal_numbers (length (x ∷ xs)) 0 e))

filled : (b : Body) (xs ys : List ℕ) → fills b xs ys ≡ true → left b (xs ++ ys) ≡ Some ys
filled Empty xs ys e = left_of_nothing xs ys e
filled Following xs ys e = left_of_run is_following xs ys e
filled Blanks xs ys e = left_behind (chars_len is_blank (xs ++ ys)) xs ys (chars_are is_blank xs ys e)
filled Line xs ys e = left_of_run is_no_newline xs ys e
filled Word xs ys e = left_behind (chars_len is_word_char (xs ++ ys)) xs ys (chars_are is_word_char xs ys e)
filled Number xs ys e = left_behind (number_len Digits (xs ++ ys)) xs ys (number_is Digits xs ys e)
filled Comment xs ys e = more_comment 0 0 xs ys [] (exact_is (past_comment 0 0 xs) e)
filled (Quoted q) xs ys e = more_quote q false xs ys [] (exact_is (past_quote q false xs) e)
filled (Raw n) xs ys e = more_raw n 0 xs ys [] (exact_is (past_raw n 0 xs) e)

unended : (b : Body) (t : List ℕ) → never_ends b t ≡ true → left b t ≡ None
unended Empty t e = cc
unended Following t e = cc
unended Blanks t e = cc
unended Line t e = cc
unended Word t e = cc
unended Number t e = cc
unended Comment t e = none_is (past_comment 0 0 t) e
unended (Quoted q) t e = none_is (past_quote q false t) e
unended (Raw n) t e = none_is (past_raw n 0 t) e

-- the token that a text begins with, by its opening and what is left behind its body
abbrev by_left : TokenKind → Option (List ℕ) → List ℕ → Token
by_left k None t = record { kind = kind.Error; len = length t }
by_left k (Some rest) t = record { kind = k; len = length t - length rest }

abbrev token_of : Opening → List ℕ → Token
token_of o t = by_left o.kind (left o.body (drop o.len t)) t

-- the kinds by their numbers
abbrev kind_numbered : ℕ → TokenKind
kind_numbered n =
    get_or (kind.Blank ∷ kind.LineComment ∷ kind.BlockComment ∷ kind.Shebang ∷ kind.Identifier ∷ kind.Lifetime ∷ kind.Char ∷ kind.Str ∷ kind.RawStr ∷ kind.Number ∷ kind.Punctuation ∷ []) n kind.Error

numbered : (k : TokenKind) → kind_numbered (number_of k) ≡ k
numbered kind.Blank = refl
numbered kind.LineComment = refl
numbered kind.BlockComment = refl
numbered kind.Shebang = refl
numbered kind.Identifier = refl
numbered kind.Lifetime = refl
numbered kind.Char = refl
numbered kind.Str = refl
numbered kind.RawStr = refl
numbered kind.Number = refl
numbered kind.Punctuation = refl
numbered kind.Error = refl

same_is : (a b : TokenKind) → same_kind a b ≡ true → b ≡ a
same_is a b e = sym (numbered b) ∙ ap kind_numbered (sym (equal_numbers (number_of a) (number_of b) e)) ∙ numbered a

-- a cut within a text, behind the opening
cut_behind : (m n : ℕ) (t : List ℕ) → n ≤ length t → m ≤ length (take n t) → drop m (take n t) ++ drop n t ≡ drop m t
cut_behind m n t in_range opened = sym (drop-append-le m (take n t) (drop n t) opened) ∙ ap (drop m) (take-append-drop n t)

by_end : (o : Opening) (k : TokenKind) (n : ℕ) (t : List ℕ) → n ≤ length t → o.len ≤ length (take n t) → same_kind k o.kind ≡ true
    → fills o.body (drop o.len (take n t)) (drop n t) ≡ true → token_of o t ≡ record { kind = k; len = n }
by_end o k n t in_range opened same body =
    let whole : left o.body (drop o.len t) ≡ Some (drop n t)
    = ap (left o.body) (sym (cut_behind o.len n t in_range opened)) ∙ filled o.body (drop o.len (take n t)) (drop n t) body in
    let is : length t - length (drop n t) ≡ n = omega (arith, length-drop n t) in
    ap (λ l. by_left o.kind l t) whole ∙ (λ i. record { kind = same_is k o.kind same i; len = is i })

by_no_end : (o : Opening) (k : TokenKind) (n : ℕ) (t : List ℕ) → n ≤ length t → same_kind k kind.Error ≡ true
    → (length (drop n t) == 0) ≡ true → never_ends o.body (drop o.len (take n t)) ≡ true → token_of o t ≡ record { kind = k; len = n }
by_no_end o k n t in_range same last body =
    let none_left : length (drop n t) ≡ 0 = equal_numbers (length (drop n t)) 0 last in
    let is : length t ≡ n = omega (arith, length-drop n t) in
    let all : take n t ≡ t = take_all n t (omega arith) in
    let whole : left o.body (drop o.len t) ≡ None = unended o.body (drop o.len t) (ap (λ l. never_ends o.body (drop o.len l)) (sym all) ∙ body) in
    ap (λ l. by_left o.kind l t) whole ∙ (λ i. record { kind = same_is k kind.Error same i; len = is i })

-- the first token of a text is the one that it begins with
determined : (o : Opening) (k : TokenKind) (n : ℕ) (t : List ℕ) → n ≤ length t → is_opened o k (take n t) (drop n t) ≡ true
    → token_of o t ≡ record { kind = k; len = n }
determined o k n t in_range e =
    let piece = drop o.len (take n t) in
    let a = both (nat_le o.len (length (take n t))) ((same_kind k o.kind && fills o.body piece (drop n t)) || (same_kind k kind.Error && (length (drop n t) == 0) && never_ends o.body piece)) e in
    let opened = leb-true o.len (length (take n t)) a.0 in
    either (same_kind k o.kind && fills o.body piece (drop n t)) (same_kind k kind.Error && (length (drop n t) == 0) && never_ends o.body piece) a.1
    (λ f. let b = both (same_kind k o.kind) (fills o.body piece (drop n t)) f in by_end o k n t in_range opened b.0 b.1)
    (λ f. let b = both (same_kind k kind.Error && (length (drop n t) == 0)) (never_ends o.body piece) f in let d = both (same_kind k kind.Error) (length (drop n t) == 0) b.0 in by_no_end o k n t in_range d.0 d.1 b.1)

-- the first of some tokens of a text, and those of its rest
record IsCut (edition : Edition) (at_start : Bool) (token : Token) (ts : List Token) (text : List ℕ) : Type 0 where
  pub some_byte : 0 < token.len
  pub in_range : token.len ≤ length text
  pub first : token_of (opening edition at_start text) text ≡ token
  pub others : are_tokens edition (at_start && begins_order_mark text) ts (drop token.len text) ≡ true

cut : (edition : Edition) (at_start : Bool) (token : Token) (ts : List Token) (text : List ℕ) → are_tokens edition at_start (token ∷ ts) text ≡ true → IsCut edition at_start token ts text
cut edition at_start token ts text e =
    let a = both (nat_lt 0 token.len && nat_le token.len (length text) && is_token edition at_start token.kind (take token.len text) (drop token.len text)) (are_tokens edition (at_start && begins_order_mark text) ts (drop token.len text)) e in
    let b = both (nat_lt 0 token.len && nat_le token.len (length text)) (is_token edition at_start token.kind (take token.len text) (drop token.len text)) a.0 in
    let c = both (nat_lt 0 token.len) (nat_le token.len (length text)) b.0 in
    let in_range = leb-true token.len (length text) c.1 in
    let opened : is_opened (opening edition at_start text) token.kind (take token.len text) (drop token.len text) ≡ true
    = ap (λ l. is_opened (opening edition at_start l) token.kind (take token.len text) (drop token.len text)) (sym (take-append-drop token.len text)) ∙ b.1 in
    record {
      some_byte = ltb-true 0 token.len c.0;
      in_range = in_range;
      first = determined (opening edition at_start text) token.kind token.len text in_range opened;
      others = a.1;
    }

cut_of_nothing : (edition : Edition) (at_start : Bool) (t : Token) (ts : List Token) (text : List ℕ) → length text ≡ 0 → are_tokens edition at_start (t ∷ ts) text ≡ true → ⊥
cut_of_nothing edition at_start t ts text empty e =
    let a = cut edition at_start t ts text e in
    let some = a.some_byte in
    let in_range = a.in_range in
    omega arith

-- a text has one cut into tokens
pub one_cut : (edition : Edition) (at_start : Bool) (ts us : List Token) (text : List ℕ) → are_tokens edition at_start ts text ≡ true → are_tokens edition at_start us text ≡ true → us ≡ ts
one_cut edition at_start [] [] text e f = refl
one_cut edition at_start [] (u ∷ us) text e f =
    let empty : length text ≡ 0 = equal_numbers (length text) 0 e in
    absurd (cut_of_nothing edition at_start u us text empty f)
one_cut edition at_start (t ∷ ts) [] text e f = absurd (cut_of_nothing edition at_start t ts text (equal_numbers (length text) 0 f) e)
one_cut edition at_start (t ∷ ts) (u ∷ us) text e f =
    let a = cut edition at_start t ts text e in
    let b = cut edition at_start u us text f in
    let same : u ≡ t = sym b.first ∙ a.first in
    let others : are_tokens edition (at_start && begins_order_mark text) us (drop t.len text) ≡ true = ap (λ (v : Token). are_tokens edition (at_start && begins_order_mark text) us (drop v.len text)) (sym same) ∙ b.others in
    let rest : us ≡ ts = one_cut edition (at_start && begins_order_mark text) ts us (drop t.len text) a.others others in
    cc

-- the lengths of the tokens add up to the length of the text
pub lengths_add_up : (edition : Edition) (at_start : Bool) (ts : List Token) (text : List ℕ) → are_tokens edition at_start ts text ≡ true → sum_by (λ (t : Token). t.len) ts ≡ length text
lengths_add_up edition at_start [] text e = sym (equal_numbers (length text) 0 e)
lengths_add_up edition at_start (t ∷ ts) text e =
    let a = cut edition at_start t ts text e in
    let in_range = a.in_range in
    let rest = lengths_add_up edition (at_start && begins_order_mark text) ts (drop t.len text) a.others in
    let sums = sum_by-cons (λ (t : Token). t.len) t ts in
    omega (arith, rest, sums, length-drop t.len text)

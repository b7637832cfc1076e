-- What is told of the open delimiters, and what that says of the next lexeme.
use Rattle.std.proofs.Common.{◌≡◌, ◌+◌, ◌++◌, ◌<◌, ℕ, Bool, true, false, List, [], ◌∷◌, length, drop, get_or, refl, ap, sym, ◌∙◌, subst, arith, cond, length-append, drop-cons, add-one}
use Rattle.std.specs.Prelude.{Option, Some, None, IfSome, slice_get, is_none}
use Rattle.std.proofs.lemmas.Option.{slice_get_within, slice_get-get_or, get_or_from_slice_get}
use Rattle.std.proofs.lemmas.List.{get_or_push, length-set}
use Rattle.std.proofs.Math.ListN.{get_or-append}
use Rattle.item_tree.specs.Delimiters.{Opened, same, innermost, outside, closes, open_behind, with_partner, partners_from, partners_of}
use Rattle.item_tree.specs.Innermost as inner
use Rattle.item_tree.specs.declared.lexer.delimiters.Innermost.{Innermost}
use Rattle.item_tree.specs.declared.lexer.lexeme.Delimiter.{Delimiter}
use Rattle.item_tree.specs.declared.lexer.lexeme.Delimiter.TheVariants.{Parenthesis, Bracket, Brace}
use Rattle.item_tree.specs.declared.lexer.lexeme.LexemeKind.{LexemeKind}
use Rattle.item_tree.specs.declared.lexer.lexeme.LexemeKind.TheVariants.{Word, Open, Close, Mark, Lifetime, Str, Literal, Error}
use Rattle.item_tree.specs.declared.lexer.lexeme.Lexeme.{Lexeme}

-- the innermost of each kind is told
abbrev pub Tracks : Innermost → List Opened → Type 0
Tracks pending stack = (d : Delimiter) → inner.of_kind d pending ≡ innermost d stack

-- at the place of each that is open it is told what was open outside of it
abbrev pub Kept : List Innermost → List Opened → Type 0
Kept before [] = Unit {0}
Kept before (o ∷ stack) = (saved : Innermost) × (slice_get before o.place ≡ Some saved) × Tracks saved stack × Kept before stack

get_front : (before : List Innermost) (x saved : Innermost) (i : ℕ) → slice_get before i ≡ Some saved → slice_get (before ++ x ∷ []) i ≡ Some saved
get_front before x saved i e =
    let within = slice_get_within before i saved e in
    let longer : i < length (before ++ x ∷ []) = omega (arith, length-append before (x ∷ [])) in
    slice_get-get_or (before ++ x ∷ []) i x longer ∙ ap (λ (y : Innermost). Some y) (get_or-append before (x ∷ []) x i within ∙ get_or_from_slice_get before i saved x e)

get_last : (before : List Innermost) (x : Innermost) (i : ℕ) → length before ≡ i → slice_get (before ++ x ∷ []) i ≡ Some x
get_last before x i e =
    let longer : i < length (before ++ x ∷ []) = omega (arith, length-append before (x ∷ [])) in
    slice_get-get_or (before ++ x ∷ []) i x longer ∙ ap (λ (y : Innermost). Some y) (get_or_push before x x i e)

kept_front : (before : List Innermost) (x : Innermost) (stack : List Opened) → Kept before stack → Kept (before ++ x ∷ []) stack
kept_front before x [] kept = tt
kept_front before x (o ∷ stack) kept = (kept.0, get_front before x kept.0 o.place kept.1, kept.2, kept_front before x stack kept.3)

innermost_within : (d : Delimiter) (before : List Innermost) (stack : List Opened) → Kept before stack → IfSome (innermost d stack) (λ i. i < length before)
innermost_within d before [] kept = tt
innermost_within d before (o ∷ stack) kept = by (same d o.delimiter) (innermost_within d before stack kept.3)
  where
    by : (b : Bool) → IfSome (innermost d stack) (λ i. i < length before) → IfSome (cond b (Some o.place) (innermost d stack)) (λ i. i < length before)
    by true rest = slice_get_within before o.place kept.0 kept.1
    by false rest = rest

-- what a lexeme closes stands before it
closes_within : (k : LexemeKind) (pending : Innermost) (before : List Innermost) (stack : List Opened) → Tracks pending stack → Kept before stack
    → IfSome (inner.closes k pending) (λ i. i < length before)
closes_within (Close d) pending before stack tracks kept = subst (λ (o : Option ℕ). IfSome o (λ i. i < length before)) (sym (tracks d)) (innermost_within d before stack kept)
closes_within (Word w) pending before stack tracks kept = tt
closes_within (Open d) pending before stack tracks kept = tt
closes_within (Mark b) pending before stack tracks kept = tt
closes_within Lifetime pending before stack tracks kept = tt
closes_within Str pending before stack tracks kept = tt
closes_within Literal pending before stack tracks kept = tt
closes_within Error pending before stack tracks kept = tt

-- and is the innermost one
closes_alike : (k : LexemeKind) (pending : Innermost) (stack : List Opened) → Tracks pending stack → inner.closes k pending ≡ closes k stack
closes_alike (Close d) pending stack tracks = tracks d
closes_alike (Word w) pending stack tracks = refl
closes_alike (Open d) pending stack tracks = refl
closes_alike (Mark b) pending stack tracks = refl
closes_alike Lifetime pending stack tracks = refl
closes_alike Str pending stack tracks = refl
closes_alike Literal pending stack tracks = refl
closes_alike Error pending stack tracks = refl

opened_tracks : (i : ℕ) (d : Delimiter) (pending : Innermost) (stack : List Opened) → Tracks pending stack
    → Tracks (inner.opened i d pending) ((record { place = i; delimiter = d }) ∷ stack)
opened_tracks i Parenthesis pending stack tracks Parenthesis = refl
opened_tracks i Parenthesis pending stack tracks Bracket = tracks Bracket
opened_tracks i Parenthesis pending stack tracks Brace = tracks Brace
opened_tracks i Bracket pending stack tracks Parenthesis = tracks Parenthesis
opened_tracks i Bracket pending stack tracks Bracket = refl
opened_tracks i Bracket pending stack tracks Brace = tracks Brace
opened_tracks i Brace pending stack tracks Parenthesis = tracks Parenthesis
opened_tracks i Brace pending stack tracks Bracket = tracks Bracket
opened_tracks i Brace pending stack tracks Brace = refl

-- what is open, with what is told of it
record Told (pending : Innermost) (before : List Innermost) (stack : List Opened) : Type 0 where
  pub tracks : Tracks pending stack
  pub kept : Kept before stack

-- what was open outside of the innermost one of a kind
told_outside : (d : Delimiter) (before : List Innermost) (pending : Innermost) (stack : List Opened) (i : ℕ) → innermost d stack ≡ Some i → Kept before stack
    → Told (inner.at_or (slice_get before i) pending) before (outside d stack)
told_outside d before pending [] i e kept = cc
told_outside d before pending (o ∷ stack) i e kept = by (same d o.delimiter) e (λ f. told_outside d before pending stack i f kept.3)
  where
    here : slice_get before i ≡ Some kept.0 → Told (inner.at_or (slice_get before i) pending) before stack
    here is = record {
      tracks = λ f. ap (λ (s : Option Innermost). inner.of_kind f (inner.at_or s pending)) is ∙ kept.2 f;
      kept = kept.3;
    }

    by : (b : Bool) → cond b (Some o.place) (innermost d stack) ≡ Some i → (innermost d stack ≡ Some i → Told (inner.at_or (slice_get before i) pending) before (outside d stack))
        → Told (inner.at_or (slice_get before i) pending) before (cond b stack (outside d stack))
    by true e rest = let same_place : o.place ≡ i = cc in here (subst (λ j. slice_get before j ≡ Some kept.0) same_place kept.1)
    by false e rest = rest e

told_closed : (d : Delimiter) (before : List Innermost) (pending : Innermost) (stack : List Opened) → Tracks pending stack → Kept before stack
    → Told (inner.at_place (inner.of_kind d pending) before pending) before (open_behind 0 (Close d) stack)
told_closed d before pending stack tracks kept = by (innermost d stack) refl (inner.of_kind d pending) (tracks d)
  where
    by : (o : Option ℕ) → innermost d stack ≡ o → (p : Option ℕ) → p ≡ innermost d stack
        → Told (inner.at_place p before pending) before (cond (is_none (innermost d stack)) stack (outside d stack))
    by None e p f = rw (f, e) (record { tracks = tracks; kept = kept })
    by (Some i) e p f = rw (f, e) (told_outside d before pending stack i e kept)

told_behind : (i : ℕ) (k : LexemeKind) (before : List Innermost) (pending : Innermost) (stack : List Opened) → length before ≡ i → Tracks pending stack → Kept before stack
    → Told (inner.open_behind i k pending (before ++ pending ∷ [])) (before ++ pending ∷ []) (open_behind i k stack)
told_behind i (Open d) before pending stack e tracks kept = record {
  tracks = opened_tracks i d pending stack tracks;
  kept = (pending, get_last before pending i e, tracks, kept_front before pending stack kept);
}
told_behind i (Close d) before pending stack e tracks kept = told_closed d (before ++ pending ∷ []) pending stack tracks (kept_front before pending stack kept)
told_behind i (Word w) before pending stack e tracks kept = record { tracks = tracks; kept = kept_front before pending stack kept }
told_behind i (Mark b) before pending stack e tracks kept = record { tracks = tracks; kept = kept_front before pending stack kept }
told_behind i Lifetime before pending stack e tracks kept = record { tracks = tracks; kept = kept_front before pending stack kept }
told_behind i Str before pending stack e tracks kept = record { tracks = tracks; kept = kept_front before pending stack kept }
told_behind i Literal before pending stack e tracks kept = record { tracks = tracks; kept = kept_front before pending stack kept }
told_behind i Error before pending stack e tracks kept = record { tracks = tracks; kept = kept_front before pending stack kept }

-- one more lexeme has one more partner
pub one_more_partner : (i : ℕ) (o : Option ℕ) (partners : List ℕ) → length (with_partner i o partners) ≡ length partners + 1
one_more_partner i None partners = length-append partners (i ∷ [])
one_more_partner i (Some opening) partners = length-set (partners ++ opening ∷ []) opening i ∙ length-append partners (opening ∷ [])

-- the lexemes before a place are read
pub record Reading (lexemes : List Lexeme) (i : ℕ) (pending : Innermost) (before : List Innermost) (partners : List ℕ) : Type 0 where
  pub stack : List Opened
  pub tracks : Tracks pending stack
  pub kept : Kept before stack
  pub places : length before ≡ i
  pub so_far : length partners ≡ i
  pub read : partners_from i stack partners (drop i lexemes) ≡ partners_of lexemes

-- what the next lexeme closes has a partner so far
pub closed_before : (lexemes : List Lexeme) (i : ℕ) (pending : Innermost) (before : List Innermost) (partners : List ℕ) (k : LexemeKind) (closed : Option ℕ) → Reading lexemes i pending before partners
    → closed ≡ inner.closes k pending → IfSome closed (λ p. p < length partners)
closed_before lexemes i pending before partners k closed r is =
    subst (λ (o : Option ℕ). IfSome o (λ p. p < length partners)) (sym is)
    (subst (λ (n : ℕ). IfSome (inner.closes k pending) (λ p. p < n)) (r.places ∙ sym r.so_far) (closes_within k pending before r.stack r.tracks r.kept))

pub read_nothing : (lexemes : List Lexeme) → Reading lexemes 0 (record { parenthesis = None; bracket = None; brace = None }) [] []
read_nothing lexemes = record {
  stack = [];
  tracks = none;
  kept = tt;
  places = refl;
  so_far = refl;
  read = refl;
}
  where
    none : Tracks (record { parenthesis = None; bracket = None; brace = None }) []
    none Parenthesis = refl
    none Bracket = refl
    none Brace = refl

pub read_more : (lexemes : List Lexeme) (i : ℕ) (pending : Innermost) (before : List Innermost) (partners : List ℕ) (d : Lexeme) → i < length lexemes
    → Reading lexemes i pending before partners
    → Reading lexemes (i + 1) (inner.open_behind i (get_or lexemes i d).kind pending (before ++ pending ∷ [])) (before ++ pending ∷ [])
    (with_partner i (inner.closes (get_or lexemes i d).kind pending) partners)
read_more lexemes i pending before partners d within r =
    let k = (get_or lexemes i d).kind in
    let told = told_behind i k before pending r.stack r.places r.tracks r.kept in
    let places = r.places in
    let so_far = r.so_far in
    let next : drop i lexemes ≡ get_or lexemes i d ∷ drop (i + 1) lexemes = rw add-one (drop-cons lexemes i d within) in
    record {
      stack = open_behind i k r.stack;
      tracks = told.tracks;
      kept = told.kept;
      places = omega (arith, places, length-append before (pending ∷ []));
      so_far = omega (arith, so_far, one_more_partner i (inner.closes k pending) partners);
      read = ap (λ o. partners_from (i + 1) (open_behind i k r.stack) (with_partner i o partners) (drop (i + 1) lexemes)) (closes_alike k pending r.stack r.tracks)
          ∙ (ap (λ ls. partners_from i r.stack partners ls) (sym next) ∙ r.read);
    }

-- the same, with names for what the code holds
pub read_next : (lexemes : List Lexeme) (i place : ℕ) (pending next : Innermost) (before after shown : List Innermost) (partners more : List ℕ) (closed : Option ℕ) (d : Lexeme)
    → i < length lexemes → Reading lexemes i pending before partners → place ≡ length partners → closed ≡ inner.closes (get_or lexemes i d).kind pending
    → more ≡ with_partner (length partners) closed partners → after ≡ before ++ pending ∷ [] → shown ≡ after
    → next ≡ inner.open_behind place (get_or lexemes i d).kind pending shown → Reading lexemes (i + 1) next after more
read_next lexemes i place pending next before after shown partners more closed d within r at_place closed_is more_is after_is shown_is next_is =
    let k = (get_or lexemes i d).kind in
    let same_place : place ≡ i = at_place ∙ r.so_far in
    let all : next ≡ inner.open_behind i k pending (before ++ pending ∷ [])
    = next_is ∙ (ap (λ p. inner.open_behind p k pending shown) same_place ∙ ap (λ b. inner.open_behind i k pending b) (shown_is ∙ after_is)) in
    let added : more ≡ with_partner i (inner.closes k pending) partners
    = more_is ∙ (ap (λ p. with_partner p closed partners) r.so_far ∙ ap (λ o. with_partner i o partners) closed_is) in
    subst (λ (p : Innermost). Reading lexemes (i + 1) p after more) (sym all)
    (subst (λ (b : List Innermost). Reading lexemes (i + 1) (inner.open_behind i k pending (before ++ pending ∷ [])) b more) (sym after_is)
    (subst (λ (m : List ℕ). Reading lexemes (i + 1) (inner.open_behind i k pending (before ++ pending ∷ [])) (before ++ pending ∷ []) m) (sym added)
    (read_more lexemes i pending before partners d within r)))

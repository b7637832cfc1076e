-- Pairs of delimiters nest.
use Rattle.std.proofs.Common.{◌≡◌, ◌+◌, ◌++◌, ◌<◌, ◌≤◌, ℕ, zero, suc, Bool, true, false, List, [], ◌∷◌, length, drop, get_or, refl, ap, sym, ◌∙◌, subst, arith, cond, inl, inr, length-append, length-drop}
use Rattle.std.specs.Prelude.{◌⊎◌, Option, Some, None, slice_set, is_none}
use Rattle.std.proofs.lemmas.Bool.{cases_order}
use Rattle.std.proofs.lemmas.List.{get_or_push, get_or_past, length-set, get_or-set_same, get_or-set_other, drop-drop}
use Rattle.std.proofs.Math.ListN.{get_or-append, set}
use Rattle.item_tree.specs.Delimiters.{Opened, same, innermost, outside, closes, open_behind, with_partner, partners_from, partners_of}
use Rattle.item_tree.specs.Pairs.{IsPair, ArePartners}
use Rattle.item_tree.specs.Visibilities.{lexeme_at}
use Rattle.item_tree.specs.declared.lexer.lexeme.Delimiter.{Delimiter}
use Rattle.item_tree.specs.declared.lexer.lexeme.Delimiter.TheVariants.{Parenthesis, Bracket, Brace}
use Rattle.item_tree.specs.declared.lexer.lexeme.LexemeKind.{LexemeKind}
use Rattle.item_tree.specs.declared.lexer.lexeme.LexemeKind.TheVariants.{Word, Open, Close, Mark, Lifetime, Str, Literal, Error}
use Rattle.item_tree.specs.declared.lexer.lexeme.Lexeme.{Lexeme}

abbrev g : List ℕ → ℕ → ℕ
g ps k = get_or ps k 0

-- no pair has this place between its own
abbrev Clear : List ℕ → ℕ → Type 0
Clear ps p = (a : ℕ) → a < p → p < g ps a → ⊥

-- what is open stands before a place, innermost first, has no partner yet, and is in no pair
abbrev StillOpen : List Lexeme → List ℕ → ℕ → List Opened → Type 0
StillOpen ls ps top [] = Unit {0}
StillOpen ls ps top (o ∷ stack) = (o.place < top) × (g ps o.place ≡ o.place) × (lexeme_at ls o.place ≡ Open o.delimiter) × Clear ps o.place × StillOpen ls ps o.place stack

-- the lexemes before a place have their partners
record Paired (ls : List Lexeme) (i : ℕ) (stack : List Opened) (ps : List ℕ) : Type 0 where
  pub low : i ≤ length ls
  pub all : length ps ≡ i
  pub within : (k : ℕ) → k < i → g ps k < i
  pub both : (k : ℕ) → k < i → g ps (g ps k) ≡ k
  pub delimiters : (k : ℕ) → k < i → k < g ps k → IsPair ls k (g ps k)
  pub nested : (a k : ℕ) → a < k → k < g ps a → (a < g ps k) × (g ps k < g ps a)
  pub stays : StillOpen ls ps i stack

-- partners of more lexemes, the first of which stay as they are
clear_kept : (ps more : List ℕ) (top p : ℕ) → p < top → ((k : ℕ) → k < top → g more k ≡ g ps k) → Clear ps p → Clear more p
clear_kept ps more top p low same clear a before between = clear a before (let e = same a (omega arith) in omega arith)

open_kept : (ls : List Lexeme) (ps more : List ℕ) (top : ℕ) (stack : List Opened) → ((k : ℕ) → k < top → g more k ≡ g ps k) → StillOpen ls ps top stack → StillOpen ls more top stack
open_kept ls ps more top [] same stays = tt
open_kept ls ps more top (o ∷ stack) same stays =
    let low = stays.0 in
    (stays.0, same o.place stays.0 ∙ stays.1, stays.2, clear_kept ps more top o.place stays.0 same stays.3, open_kept ls ps more o.place stack (λ k h. same k (omega arith)) stays.4)

open_wider : (ls : List Lexeme) (ps : List ℕ) (top wide : ℕ) (stack : List Opened) → top ≤ wide → StillOpen ls ps top stack → StillOpen ls ps wide stack
open_wider ls ps top wide [] h stays = tt
open_wider ls ps top wide (o ∷ stack) h stays = let low = stays.0 in (omega arith, stays.1, stays.2, stays.3, stays.4)

-- one more lexeme that is its own partner
record Longer (ps more : List ℕ) (i : ℕ) : Type 0 where
  pub all : length more ≡ i + 1
  pub front : (k : ℕ) → k < i → g more k ≡ g ps k
  pub last : g more i ≡ i
  pub past : (k : ℕ) → i < k → g more k ≡ 0

longer : (ps : List ℕ) (i : ℕ) → length ps ≡ i → Longer ps (ps ++ i ∷ []) i
longer ps i e =
    let size = length-append ps (i ∷ []) in
    record {
      all = omega (arith, size);
      front = λ k h. get_or-append ps (i ∷ []) 0 k (omega arith);
      last = get_or_push ps i 0 i e;
      past = λ k h. get_or_past (ps ++ i ∷ []) k 0 (omega (arith, size));
    }

alone : (ls : List Lexeme) (i : ℕ) (stack behind : List Opened) (ps more : List ℕ) → i < length ls → Longer ps more i → Paired ls i stack ps → StillOpen ls more (i + 1) behind → Paired ls (i + 1) behind more
alone ls i stack behind ps more there m p stays = record {
  low = omega arith;
  all = m.all;
  within = λ k h. within k (cases_order k i) h;
  both = λ k h. both k (cases_order k i) h;
  delimiters = λ k h before. delimiters k (cases_order k i) h before;
  nested = λ a k before between. nested a k (cases_order a i) before between;
  stays = stays;
}
  where
    last_of : (k : ℕ) → k ≡ i → g more k ≡ i
    last_of k e = ap (λ n. g more n) e ∙ m.last

    within : (k : ℕ) → ((k ≡ i) ⊎ ((k < i) ⊎ (i < k))) → k < i + 1 → g more k < i + 1
    within k (inl e) h = let v = last_of k e in omega arith
    within k (inr (inl less)) h = let v = m.front k less in let w = p.within k less in omega arith
    within k (inr (inr past)) h = absurd (omega arith)

    both : (k : ℕ) → ((k ≡ i) ⊎ ((k < i) ⊎ (i < k))) → k < i + 1 → g more (g more k) ≡ k
    both k (inl e) h = ap (λ n. g more n) (last_of k e) ∙ (m.last ∙ sym e)
    both k (inr (inl less)) h = ap (λ n. g more n) (m.front k less) ∙ (m.front (g ps k) (p.within k less) ∙ p.both k less)
    both k (inr (inr past)) h = absurd (omega arith)

    delimiters : (k : ℕ) → ((k ≡ i) ⊎ ((k < i) ⊎ (i < k))) → k < i + 1 → k < g more k → IsPair ls k (g more k)
    delimiters k (inl e) h before = let v = last_of k e in absurd (omega arith)
    delimiters k (inr (inl less)) h before =
        let v = m.front k less in
        subst (λ (n : ℕ). IsPair ls k n) (sym v) (p.delimiters k less (omega arith))
    delimiters k (inr (inr past)) h before = absurd (omega arith)

    nested : (a k : ℕ) → ((a ≡ i) ⊎ ((a < i) ⊎ (i < a))) → a < k → k < g more a → (a < g more k) × (g more k < g more a)
    nested a k (inl e) before between = let v = last_of a e in absurd (omega arith)
    nested a k (inr (inl less)) before between =
        let v = m.front a less in
        let high = p.within a less in
        let w = m.front k (omega arith) in
        let old = p.nested a k before (omega arith) in
        let one = old.0 in
        let two = old.1 in
        (omega arith, omega arith)
    nested a k (inr (inr past)) before between = let v = m.past a past in absurd (omega arith)

-- one more lexeme that closes the delimiter at a place
record Closed (ps more : List ℕ) (p i : ℕ) : Type 0 where
  pub all : length more ≡ i + 1
  pub front : (k : ℕ) → k < i → (k ≡ p → ⊥) → g more k ≡ g ps k
  pub opening : g more p ≡ i
  pub last : g more i ≡ p
  pub past : (k : ℕ) → i < k → g more k ≡ 0

closed : (ps : List ℕ) (p i : ℕ) → length ps ≡ i → p < i → Closed ps (slice_set (ps ++ p ∷ []) p i) p i
closed ps p i e low =
    let size = length-append ps (p ∷ []) in
    let same = length-set (ps ++ p ∷ []) p i in
    record {
      all = omega (arith, size, same);
      front = λ k h other. get_or-set_other (ps ++ p ∷ []) p k i 0 other ∙ get_or-append ps (p ∷ []) 0 k (omega arith);
      opening = get_or-set_same (ps ++ p ∷ []) p i 0 (omega (arith, size));
      last = get_or-set_other (ps ++ p ∷ []) p i i 0 (λ f. omega arith) ∙ get_or_push ps p 0 i e;
      past = λ k h. get_or_past (slice_set (ps ++ p ∷ []) p i) k 0 (omega (arith, size, same));
    }

-- what is known of the delimiter that is closed
record Found (ls : List Lexeme) (ps : List ℕ) (top : ℕ) (d : Delimiter) (p : ℕ) (behind : List Opened) : Type 0 where
  pub low : p < top
  pub none_yet : g ps p ≡ p
  pub opens : lexeme_at ls p ≡ Open d
  pub clear : Clear ps p
  pub stays : StillOpen ls ps p behind

same_is : (a b : Delimiter) → same a b ≡ true → b ≡ a
same_is Parenthesis Parenthesis e = refl
same_is Parenthesis Bracket e = cc
same_is Parenthesis Brace e = cc
same_is Bracket Parenthesis e = cc
same_is Bracket Bracket e = refl
same_is Bracket Brace e = cc
same_is Brace Parenthesis e = cc
same_is Brace Bracket e = cc
same_is Brace Brace e = refl

found_in : (ls : List Lexeme) (ps : List ℕ) (top : ℕ) (d : Delimiter) (p : ℕ) (stack : List Opened) → innermost d stack ≡ Some p → StillOpen ls ps top stack → Found ls ps top d p (outside d stack)
found_in ls ps top d p [] e stays = cc
found_in ls ps top d p (o ∷ stack) e stays = by (same d o.delimiter) refl e (λ f. found_in ls ps o.place d p stack f stays.4)
  where
    by : (b : Bool) → same d o.delimiter ≡ b → cond b (Some o.place) (innermost d stack) ≡ Some p → (innermost d stack ≡ Some p → Found ls ps o.place d p (outside d stack))
        → Found ls ps top d p (cond b stack (outside d stack))
    by true alike e rest =
        let at : o.place ≡ p = cc in
        let kind : o.delimiter ≡ d = same_is d o.delimiter alike in
        record {
          low = subst (λ (n : ℕ). n < top) at stays.0;
          none_yet = subst (λ (n : ℕ). g ps n ≡ n) at stays.1;
          opens = subst (λ (n : ℕ). lexeme_at ls n ≡ Open d) at (stays.2 ∙ ap (λ (f : Delimiter). Open f) kind);
          clear = subst (λ (n : ℕ). Clear ps n) at stays.3;
          stays = subst (λ (n : ℕ). StillOpen ls ps n stack) at stays.4;
        }
    by false alike e rest =
        let f = rest e in
        let low = f.low in
        let high = stays.0 in
        record { low = omega arith; none_yet = f.none_yet; opens = f.opens; clear = f.clear; stays = f.stays }

pair : (ls : List Lexeme) (i p : ℕ) (d : Delimiter) (stack behind : List Opened) (ps more : List ℕ) → i < length ls → lexeme_at ls i ≡ Close d → Closed ps more p i → Found ls ps i d p behind → Paired ls i stack ps
    → Paired ls (i + 1) behind more
pair ls i p d stack behind ps more there is m f q = record {
  low = omega arith;
  all = m.all;
  within = λ k h. within k (cases_order k i) (cases_order k p) h;
  both = λ k h. both k (cases_order k i) (cases_order k p) h;
  delimiters = λ k h before. delimiters k (cases_order k i) (cases_order k p) h before;
  nested = λ a k before between. nested a k (cases_order a i) (cases_order a p) (cases_order k p) before between;
  stays = open_wider ls more p (i + 1) behind (omega (arith, low)) (open_kept ls ps more p behind (λ k h. m.front k (omega (arith, low)) (λ e. omega arith)) f.stays);
}
  where
    low : p < i
    low = f.low

    at_opening : (k : ℕ) → k ≡ p → g more k ≡ i
    at_opening k e = ap (λ n. g more n) e ∙ m.opening

    at_last : (k : ℕ) → k ≡ i → g more k ≡ p
    at_last k e = ap (λ n. g more n) e ∙ m.last

    -- nothing else has the opening as its partner
    other : (k : ℕ) → k < i → (k ≡ p → ⊥) → g ps k ≡ p → ⊥
    other k less not_p e = not_p (sym (q.both k less) ∙ (ap (λ n. g ps n) e ∙ f.none_yet))

    apart : (k : ℕ) → ((k < p) ⊎ (p < k)) → k ≡ p → ⊥
    apart k (inl h) e = omega arith
    apart k (inr h) e = omega arith

    -- what stands behind the opening has its partner there
    inner : (a k : ℕ) → a ≡ p → k < i → (k ≡ p → ⊥) → g more k ≡ g ps k → g ps (g ps k) ≡ k → ((g ps k ≡ p) ⊎ ((g ps k < p) ⊎ (p < g ps k))) → a < k → a < g more k
    inner a k e inside not_p w back (inl same_place) before = absurd (other k inside not_p same_place)
    inner a k e inside not_p w back (inr (inl lower)) before = absurd (f.clear (g ps k) lower (omega arith))
    inner a k e inside not_p w back (inr (inr higher)) before = omega arith

    within : (k : ℕ) → ((k ≡ i) ⊎ ((k < i) ⊎ (i < k))) → ((k ≡ p) ⊎ ((k < p) ⊎ (p < k))) → k < i + 1 → g more k < i + 1
    within k (inl e) c h = let v = at_last k e in omega (arith, low)
    within k (inr (inl less)) (inl e) h = let v = at_opening k e in omega arith
    within k (inr (inl less)) (inr c) h = let v = m.front k less (apart k c) in let w = q.within k less in omega arith
    within k (inr (inr past)) c h = absurd (omega arith)

    both : (k : ℕ) → ((k ≡ i) ⊎ ((k < i) ⊎ (i < k))) → ((k ≡ p) ⊎ ((k < p) ⊎ (p < k))) → k < i + 1 → g more (g more k) ≡ k
    both k (inl e) c h = ap (λ n. g more n) (at_last k e) ∙ (m.opening ∙ sym e)
    both k (inr (inl less)) (inl e) h = ap (λ n. g more n) (at_opening k e) ∙ (m.last ∙ sym e)
    both k (inr (inl less)) (inr c) h =
        ap (λ n. g more n) (m.front k less (apart k c)) ∙ (m.front (g ps k) (q.within k less) (other k less (apart k c)) ∙ q.both k less)
    both k (inr (inr past)) c h = absurd (omega arith)

    delimiters : (k : ℕ) → ((k ≡ i) ⊎ ((k < i) ⊎ (i < k))) → ((k ≡ p) ⊎ ((k < p) ⊎ (p < k))) → k < i + 1 → k < g more k → IsPair ls k (g more k)
    delimiters k (inl e) c h before = let v = at_last k e in absurd (omega (arith, low))
    delimiters k (inr (inl less)) (inl e) h before =
        subst (λ (n : ℕ). IsPair ls k n) (sym (at_opening k e)) (d, ap (λ n. lexeme_at ls n) e ∙ f.opens, is)
    delimiters k (inr (inl less)) (inr c) h before =
        let v = m.front k less (apart k c) in
        subst (λ (n : ℕ). IsPair ls k n) (sym v) (q.delimiters k less (omega arith))
    delimiters k (inr (inr past)) c h before = absurd (omega arith)

    nested : (a k : ℕ) → ((a ≡ i) ⊎ ((a < i) ⊎ (i < a))) → ((a ≡ p) ⊎ ((a < p) ⊎ (p < a))) → ((k ≡ p) ⊎ ((k < p) ⊎ (p < k))) → a < k → k < g more a → (a < g more k) × (g more k < g more a)
    nested a k (inl e) c n before between = let v = at_last a e in absurd (omega (arith, low))
    nested a k (inr (inr past)) c n before between = let v = m.past a past in absurd (omega arith)
    nested a k (inr (inl less)) (inl e) (inl same_place) before between = absurd (omega arith)
    nested a k (inr (inl less)) (inl e) (inr n) before between =
        let v = at_opening a e in
        let inside : k < i = omega arith in
        let w = m.front k inside (apart k n) in
        let high = q.within k inside in
        let back = q.both k inside in
        (inner a k e inside (apart k n) w back (cases_order (g ps k) p) before, omega arith)
    nested a k (inr (inl less)) (inr c) (inl same_place) before between =
        let v = m.front a less (apart a c) in
        absurd (f.clear a (omega arith) (omega arith))
    nested a k (inr (inl less)) (inr c) (inr n) before between =
        let v = m.front a less (apart a c) in
        let high = q.within a less in
        let w = m.front k (omega arith) (apart k n) in
        let old = q.nested a k before (omega arith) in
        let one = old.0 in
        let two = old.1 in
        (omega arith, omega arith)

-- a lexeme that leaves open what is open
plain : (ls : List Lexeme) (i : ℕ) (stack : List Opened) (ps : List ℕ) → i < length ls → Paired ls i stack ps → Paired ls (i + 1) stack (ps ++ i ∷ [])
plain ls i stack ps there p =
    let m = longer ps i p.all in
    alone ls i stack stack ps (ps ++ i ∷ []) there m p (open_wider ls (ps ++ i ∷ []) i (i + 1) stack (omega arith) (open_kept ls ps (ps ++ i ∷ []) i stack m.front p.stays))

opening : (ls : List Lexeme) (i : ℕ) (d : Delimiter) (stack : List Opened) (ps : List ℕ) → i < length ls → lexeme_at ls i ≡ Open d → Paired ls i stack ps
    → Paired ls (i + 1) ((record { place = i; delimiter = d }) ∷ stack) (ps ++ i ∷ [])
opening ls i d stack ps there is p =
    let m = longer ps i p.all in
    alone ls i stack ((record { place = i; delimiter = d }) ∷ stack) ps (ps ++ i ∷ []) there m p
    (omega arith, m.last, is, (λ a before between. let v = m.front a before in let w = p.within a before in omega arith), open_kept ls ps (ps ++ i ∷ []) i stack m.front p.stays)

closing : (ls : List Lexeme) (i : ℕ) (d : Delimiter) (stack : List Opened) (ps : List ℕ) → i < length ls → lexeme_at ls i ≡ Close d → Paired ls i stack ps
    → Paired ls (i + 1) (cond (is_none (innermost d stack)) stack (outside d stack)) (with_partner i (innermost d stack) ps)
closing ls i d stack ps there is p = by (innermost d stack) refl
  where
    by : (o : Option ℕ) → innermost d stack ≡ o → Paired ls (i + 1) (cond (is_none o) stack (outside d stack)) (with_partner i o ps)
    by None e = plain ls i stack ps there p
    by (Some place) e =
        let f = found_in ls ps i d place stack e p.stays in
        pair ls i place d stack (outside d stack) ps (slice_set (ps ++ place ∷ []) place i) there is (closed ps place i p.all f.low) f p

one_more : (ls : List Lexeme) (i : ℕ) (k : LexemeKind) (stack : List Opened) (ps : List ℕ) → i < length ls → lexeme_at ls i ≡ k → Paired ls i stack ps
    → Paired ls (i + 1) (open_behind i k stack) (with_partner i (closes k stack) ps)
one_more ls i (Open d) stack ps there is p = opening ls i d stack ps there is p
one_more ls i (Close d) stack ps there is p = closing ls i d stack ps there is p
one_more ls i (Word w) stack ps there is p = plain ls i stack ps there p
one_more ls i (Mark b) stack ps there is p = plain ls i stack ps there p
one_more ls i Lifetime stack ps there is p = plain ls i stack ps there p
one_more ls i Str stack ps there is p = plain ls i stack ps there p
one_more ls i Literal stack ps there is p = plain ls i stack ps there p
one_more ls i Error stack ps there is p = plain ls i stack ps there p

at_front : (ls : List Lexeme) (i : ℕ) (l : Lexeme) (rest : List Lexeme) → drop i ls ≡ l ∷ rest → lexeme_at ls i ≡ l.kind
at_front [] zero l rest e = cc
at_front [] (suc i) l rest e = cc
at_front (x ∷ xs) zero l rest e = let same_lexeme : x ≡ l = cc in ap (λ (y : Lexeme). y.kind) same_lexeme
at_front (x ∷ xs) (suc i) l rest e = at_front xs i l rest e

finished : (ls : List Lexeme) (i : ℕ) (stack : List Opened) (ps : List ℕ) → length ls ≤ i → Paired ls i stack ps → ArePartners ls ps
finished ls i stack ps h p =
    let low = p.low in
    let size = p.all in
    record {
      all = omega arith;
      within = λ k less. let w = p.within k (omega arith) in omega arith;
      both = λ k less. p.both k (omega arith);
      delimiters = λ k before. by k before (cases_order k i);
      nested = p.nested;
    }
  where
    by : (k : ℕ) → k < g ps k → ((k ≡ i) ⊎ ((k < i) ⊎ (i < k))) → IsPair ls k (g ps k)
    by k before (inl e) = let size = p.all in let v = get_or_past ps k 0 (omega arith) in absurd (omega arith)
    by k before (inr (inl less)) = p.delimiters k less before
    by k before (inr (inr past)) = let size = p.all in let v = get_or_past ps k 0 (omega arith) in absurd (omega arith)

all_paired : (ls : List Lexeme) (i : ℕ) (stack : List Opened) (ps : List ℕ) (rest : List Lexeme) → drop i ls ≡ rest → Paired ls i stack ps → ArePartners ls (partners_from i stack ps rest)
all_paired ls i stack ps [] e p = let none = ap length e in finished ls i stack ps (omega (arith, none, length-drop i ls)) p
all_paired ls i stack ps (l ∷ rest) e p =
    let some = ap length e in
    let there : i < length ls = omega (arith, some, length-drop i ls) in
    let behind : drop (i + 1) ls ≡ rest = sym (drop-drop 1 i ls) ∙ ap (drop 1) e in
    all_paired ls (i + 1) (open_behind i l.kind stack) (with_partner i (closes l.kind stack) ps) rest behind (one_more ls i l.kind stack ps there (at_front ls i l rest e) p)

pub pairs_nest : (ls : List Lexeme) → ArePartners ls (partners_of ls)
pairs_nest ls = all_paired ls 0 [] [] ls refl (record {
  low = omega arith;
  all = refl;
  within = λ k h. absurd (omega arith);
  both = λ k h. absurd (omega arith);
  delimiters = λ k h before. absurd (omega arith);
  nested = λ a k before between. let v = get_or_past {X = ℕ} [] a 0 (omega arith) in absurd (omega arith);
  stays = tt;
})

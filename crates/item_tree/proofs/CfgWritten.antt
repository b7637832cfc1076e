-- A predicate that is written by the grammar is read as it.
use Rattle.std.proofs.Common.{◌≡◌, ℕ, ◌+◌, ◌-◌, Bool, true, false, List, [], ◌∷◌, ◌++◌, length, take, Option, Some, None, refl, ap, sym, ◌∙◌, append_assoc, arith, length-append}
use Rattle.std.specs.Prelude.{Ok, slice_get, option_to_list, option_map, option_and_then, if◌then◌else◌}
use Rattle.std.proofs.lemmas.Option.{slice_get_read}
use Rattle.std.proofs.Math.Seq.{take-append_seam, get_or-append_seam}
use Rattle.item_tree.specs.Cfg.{flat, flat_all, more_all, flat_any, more_any}
use Rattle.item_tree.specs.CfgGrammar.{Written, WrittenList, True, False, Name, Pair, Not, All, Any, End, Last, More, lexemes_of, list_lexemes_of, IsPredicate, IsList, IsWord, IsOpen, IsClose, IsComma, MayBeComma, expr_of, exprs_of}
use Rattle.item_tree.specs.CfgReading.{Reading, span_of, may_have_value, leaf, begun, list_of, popped, closed, with_nodes, ending, run, step, after, is_text, at_begin, behind, behind_name, value_of, reading, flushed}
use Rattle.item_tree.specs.declared.lexer.span.Span.{Span}
use Rattle.item_tree.specs.declared.lexer.word.Word.{Word}
use Rattle.item_tree.specs.declared.lexer.word.Word.TheVariants as word
use Rattle.item_tree.specs.declared.lexer.lexeme.LexemeKind.TheVariants as kind
use Rattle.item_tree.specs.declared.lexer.lexeme.Lexeme.{Lexeme}
use Rattle.item_tree.specs.declared.cfg.CfgNode.{CfgNode}
use Rattle.item_tree.specs.declared.cfg.CfgNode.TheVariants as node
use Rattle.item_tree.specs.declared.cfg.cfg_parser.CfgList.{CfgList}
use Rattle.item_tree.specs.declared.cfg.cfg_parser.CfgList.TheVariants as of
use Rattle.item_tree.specs.declared.cfg.cfg_parser.CfgLevel.{CfgLevel}
use Rattle.item_tree.specs.declared.cfg.cfg_parser.CfgPhase.{CfgPhase}
use Rattle.item_tree.specs.declared.cfg.cfg_parser.CfgPhase.TheVariants.{Begin, Named, Valued, Done}

abbrev at : List CfgNode → List CfgLevel → CfgLevel → CfgPhase → Reading
at ns os lv phase = record { nodes = ns; outer = os; level = lv; phase = phase }

abbrev level : CfgList → Bool → CfgLevel
level list b = record { list = list; begun = b }

-- what may follow a predicate
data Follows : List Lexeme → Type 0 where
  nothing : Follows []
  comma : (l : Lexeme) (ls : List Lexeme) → IsComma l → Follows (l ∷ ls)
  close : (l : Lexeme) (ls : List Lexeme) → IsClose l → Follows (l ∷ ls)

leaf_of_name : (w : Word) (s : Span) → may_have_value w ≡ true → leaf w s ≡ node.Flag s
leaf_of_name word.True s h = cc
leaf_of_name word.False s h = cc
leaf_of_name _ s h = refl

last_level : (os : List CfgLevel) (lv : CfgLevel) → slice_get (os ++ lv ∷ []) (length (os ++ lv ∷ []) - 1) ≡ Some lv
last_level os lv =
    let n : length (os ++ lv ∷ []) - 1 ≡ length os = omega (arith, length-append os (lv ∷ [])) in
    ap (slice_get (os ++ lv ∷ [])) n
    ∙ slice_get_read (os ++ lv ∷ []) (length (os ++ lv ∷ [])) (length os) lv refl (omega (arith, length-append os (lv ∷ []))) (sym (get_or-append_seam os lv [] lv))

outer_levels : (os : List CfgLevel) (lv : CfgLevel) → take (length (os ++ lv ∷ []) - 1) (os ++ lv ∷ []) ≡ os
outer_levels os lv =
    let n : length (os ++ lv ∷ []) - 1 ≡ length os = omega (arith, length-append os (lv ∷ [])) in
    ap (λ k. take k (os ++ lv ∷ [])) n ∙ take-append_seam os (lv ∷ [])

popped_is : (ns : List CfgNode) (os : List CfgLevel) (lv inner : CfgLevel) (phase : CfgPhase) → popped (at ns (os ++ lv ∷ []) inner phase) ≡ Some (at ns os lv Done)
popped_is ns os lv inner phase = rw (last_level os lv, outer_levels os lv) refl

module _ (text : List ℕ) where
  -- reading goes on from one state and some lexemes to another and the rest of them
  record Goes (i : ℕ) (r : Reading) (ls : List Lexeme) (s : Reading) (ms : List Lexeme) : Type 0 where
    pub number : ℕ
    pub same : run text i r ls ≡ run text number s ms

  along : {i : ℕ} {r s : Reading} {ls ms ks : List Lexeme} → ls ≡ ms → Goes i r ms s ks → Goes i r ls s ks
  along {i} {r} e g = record { number = g.number; same = ap (run text i r) e ∙ g.same }

  next : {i : ℕ} {r s t : Reading} {ls ms ks : List Lexeme} → Goes i r ls s ms → ((j : ℕ) → Goes j s ms t ks) → Goes i r ls t ks
  next g f = let h = f g.number in record { number = h.number; same = g.same ∙ h.same }

  with_end : {i : ℕ} {r : Reading} {ls ms : List Lexeme} {os : List CfgLevel} {lv : CfgLevel} {ns ns' : List CfgNode}
      → ns ≡ ns' → Goes i r ls (at ns os lv Done) ms → Goes i r ls (at ns' os lv Done) ms
  with_end {ms = ms} {os} {lv} e g = record { number = g.number; same = g.same ∙ ap (λ n. run text g.number (at n os lv Done) ms) e }

  one : (i : ℕ) (r s : Reading) (l : Lexeme) (ls : List Lexeme) → step text l r ≡ Some s → Goes i r (l ∷ ls) s ls
  one i r s l ls e = record { number = i + 1; same = ap (λ o. after i o (λ x. run text (i + 1) x ls)) e }

  name_ends : (i : ℕ) (ns : List CfgNode) (os : List CfgLevel) (lv : CfgLevel) (w : Word) (s : Span) (ls : List Lexeme) → Follows ls
      → Goes i (at ns os lv (Named w s)) ls (at (ns ++ leaf w s ∷ []) os lv Done) ls
  name_ends i ns os lv w s _ nothing = record { number = i; same = refl }
  name_ends i ns os lv w s _ (comma l ls h) = record {
    number = i;
    same = ap (λ o. after i o (λ x. run text (i + 1) x ls)) (
        ap (λ k. behind_name w s k (at ns os lv (Named w s))) h ∙ sym (ap (λ k. behind k (at (ns ++ leaf w s ∷ []) os lv Done)) h));
  }
  name_ends i ns os lv w s _ (close l ls h) = record {
    number = i;
    same = ap (λ o. after i o (λ x. run text (i + 1) x ls)) (
        ap (λ k. behind_name w s k (at ns os lv (Named w s))) h ∙ sym (ap (λ k. behind k (at (ns ++ leaf w s ∷ []) os lv Done)) h));
  }

  -- a predicate begins with a word
  word_begins : (i : ℕ) (ns ns' : List CfgNode) (os : List CfgLevel) (lv lv' : CfgLevel) (l : Lexeme) (w : Word) (ls : List Lexeme)
      → begun (at ns os lv Begin) ≡ Some (at ns' os lv' Begin) → IsWord w l
      → Goes i (at ns os lv Begin) (l ∷ ls) (at ns' os lv' (Named w (span_of l))) ls
  word_begins i ns ns' os lv lv' l w ls enters is =
      one i (at ns os lv Begin) (at ns' os lv' (Named w (span_of l))) l ls (
      ap (λ k. at_begin l k (at ns os lv Begin)) is
      ∙ ap (option_map (λ (b : Reading). record b { phase = Named w (span_of l) })) enters)

  -- a list opens
  list_opens : (i : ℕ) (ns : List CfgNode) (os : List CfgLevel) (lv : CfgLevel) (w : Word) (list : CfgList) (s : Span) (o : Lexeme) (ls : List Lexeme)
      → list_of w ≡ Some list → IsOpen o → Goes i (at ns os lv (Named w s)) (o ∷ ls) (at ns (os ++ lv ∷ []) (level list false) Begin) ls
  list_opens i ns os lv w list s o ls is open_ =
      one i (at ns os lv (Named w s)) (at ns (os ++ lv ∷ []) (level list false) Begin) o ls (
      ap (λ k. behind_name w s k (at ns os lv (Named w s))) open_
      ∙ ap (option_map (λ (x : CfgList). at ns (os ++ lv ∷ []) (level x false) Begin)) is)

  -- a list closes
  closed_is : (ns tail : List CfgNode) (os : List CfgLevel) (lv inner : CfgLevel) (phase : CfgPhase)
      → ending inner (length (os ++ lv ∷ []) + 1) ≡ Some tail → closed (at ns (os ++ lv ∷ []) inner phase) ≡ Some (at (ns ++ tail) os lv Done)
  closed_is ns tail os lv inner phase e =
      ap (option_and_then (λ (xs : List CfgNode). popped (with_nodes (ns ++ xs) (at ns (os ++ lv ∷ []) inner phase)))) e
      ∙ popped_is (ns ++ tail) os lv inner phase

  closes_done : (i : ℕ) (ns tail : List CfgNode) (os : List CfgLevel) (lv inner : CfgLevel) (c : Lexeme) (ls : List Lexeme)
      → ending inner (length (os ++ lv ∷ []) + 1) ≡ Some tail → IsClose c
      → Goes i (at ns (os ++ lv ∷ []) inner Done) (c ∷ ls) (at (ns ++ tail) os lv Done) ls
  closes_done i ns tail os lv inner c ls e is =
      one i (at ns (os ++ lv ∷ []) inner Done) (at (ns ++ tail) os lv Done) c ls (
      ap (λ k. behind k (at ns (os ++ lv ∷ []) inner Done)) is ∙ closed_is ns tail os lv inner Done e)

  closes_begin : (i : ℕ) (ns tail : List CfgNode) (os : List CfgLevel) (lv inner : CfgLevel) (c : Lexeme) (ls : List Lexeme)
      → ending inner (length (os ++ lv ∷ []) + 1) ≡ Some tail → IsClose c
      → Goes i (at ns (os ++ lv ∷ []) inner Begin) (c ∷ ls) (at (ns ++ tail) os lv Done) ls
  closes_begin i ns tail os lv inner c ls e is =
      one i (at ns (os ++ lv ∷ []) inner Begin) (at (ns ++ tail) os lv Done) c ls (
      ap (λ k. at_begin c k (at ns (os ++ lv ∷ []) inner Begin)) is ∙ closed_is ns tail os lv inner Begin e)

  comma_goes : (i : ℕ) (ns : List CfgNode) (os : List CfgLevel) (lv : CfgLevel) (m : Lexeme) (ls : List Lexeme) → IsComma m
      → Goes i (at ns os lv Done) (m ∷ ls) (at ns os lv Begin) ls
  comma_goes i ns os lv m ls is = one i (at ns os lv Done) (at ns os lv Begin) m ls (ap (λ k. behind k (at ns os lv Done)) is)

  -- the end of a list of one
  not_ends : (i : ℕ) (ns : List CfgNode) (os : List CfgLevel) (lv : CfgLevel) (m : Option Lexeme) (c : Lexeme) (ls : List Lexeme) → MayBeComma m → IsClose c
      → Goes i (at ns (os ++ lv ∷ []) (level of.Not true) Done) ((option_to_list m ++ c ∷ []) ++ ls) (at (ns ++ node.Not (length (os ++ lv ∷ []) + 1) ∷ []) os lv Done) ls
  not_ends i ns os lv None c ls is closed_ = closes_done i ns (node.Not (length (os ++ lv ∷ []) + 1) ∷ []) os lv (level of.Not true) c ls refl closed_
  not_ends i ns os lv (Some m) c ls is closed_ =
      next (comma_goes i ns (os ++ lv ∷ []) (level of.Not true) m (c ∷ ls) is)
      (λ j. closes_begin j ns (node.Not (length (os ++ lv ∷ []) + 1) ∷ []) os lv (level of.Not true) c ls refl closed_)

  not_follows : (m : Option Lexeme) (c : Lexeme) (ls : List Lexeme) → MayBeComma m → IsClose c → Follows ((option_to_list m ++ c ∷ []) ++ ls)
  not_follows None c ls is closed_ = close c ls closed_
  not_follows (Some m) c ls is closed_ = comma m (c ∷ ls) is

  equals_goes : (i : ℕ) (ns : List CfgNode) (os : List CfgLevel) (lv : CfgLevel) (w : Word) (s : Span) (e : Lexeme) (ls : List Lexeme)
      → may_have_value w ≡ true → e.kind ≡ kind.Mark 61 → Goes i (at ns os lv (Named w s)) (e ∷ ls) (at ns os lv (Valued s)) ls
  equals_goes i ns os lv w s e ls may is =
      one i (at ns os lv (Named w s)) (at ns os lv (Valued s)) e ls (
      ap (λ k. behind_name w s k (at ns os lv (Named w s))) is
      ∙ ap (λ b. if b then Some (at ns os lv (Valued s)) else behind (kind.Mark 61) (flushed (at ns os lv (Named w s)))) may)

  value_goes : (i : ℕ) (ns : List CfgNode) (os : List CfgLevel) (lv : CfgLevel) (key : Span) (v : Lexeme) (ls : List Lexeme)
      → v.kind ≡ kind.Str → is_text text v ≡ true → Goes i (at ns os lv (Valued key)) (v ∷ ls) (at (ns ++ node.KeyValue key (span_of v) ∷ []) os lv Done) ls
  value_goes i ns os lv key v ls is text_ =
      one i (at ns os lv (Valued key)) (at (ns ++ node.KeyValue key (span_of v) ∷ []) os lv Done) v ls (
      ap (λ k. value_of text key v k (at ns os lv (Valued key))) is
      ∙ ap (λ b. if b then Some (at (ns ++ node.KeyValue key (span_of v) ∷ []) os lv Done) else None) text_)

  deeper : (os : List CfgLevel) (lv : CfgLevel) → length (os ++ lv ∷ []) + 1 ≡ length os + 1 + 1
  deeper os lv = omega (arith, length-append os (lv ∷ []))

  mutual
    written : (p : Written) → IsPredicate text p → (i : ℕ) (ns : List CfgNode) (os : List CfgLevel) (lv : CfgLevel) (ns' : List CfgNode) (lv' : CfgLevel) (ls : List Lexeme)
        → begun (at ns os lv Begin) ≡ Some (at ns' os lv' Begin) → Follows ls
        → Goes i (at ns os lv Begin) (lexemes_of p ++ ls) (at (ns' ++ flat (expr_of p) (length os + 1)) os lv' Done) ls
    written (True l) h i ns os lv ns' lv' ls enters follows =
        next (word_begins i ns ns' os lv lv' l word.True ls enters h) (λ j. name_ends j ns' os lv' word.True (span_of l) ls follows)
    written (False l) h i ns os lv ns' lv' ls enters follows =
        next (word_begins i ns ns' os lv lv' l word.False ls enters h) (λ j. name_ends j ns' os lv' word.False (span_of l) ls follows)
    written (Name l) h i ns os lv ns' lv' ls enters follows =
        with_end (ap (λ n. ns' ++ n ∷ []) (leaf_of_name h.0 (span_of l) h.2)) (
        next (word_begins i ns ns' os lv lv' l h.0 ls enters h.1) (λ j. name_ends j ns' os lv' h.0 (span_of l) ls follows))
    written (Pair k e v) h i ns os lv ns' lv' ls enters follows =
        next (word_begins i ns ns' os lv lv' k h.0.0 (e ∷ v ∷ ls) enters h.0.1)
        (λ j. next (equals_goes j ns' os lv' h.0.0 (span_of k) e (v ∷ ls) h.0.2 h.1) (λ n. value_goes n ns' os lv' (span_of k) v ls h.2 h.3))
    written (Not w o p m c) h i ns os lv ns' lv' ls enters follows =
        let rest : List Lexeme = option_to_list m ++ c ∷ [] in
        with_end (append_assoc ns' (flat (expr_of p) (length (os ++ lv' ∷ []) + 1)) (node.Not (length (os ++ lv' ∷ []) + 1) ∷ [])
        ∙ ap (λ d. ns' ++ (flat (expr_of p) d ++ node.Not d ∷ [])) (deeper os lv')) (
        next (word_begins i ns ns' os lv lv' w word.Not (o ∷ ((lexemes_of p ++ rest) ++ ls)) enters h.0)
        (λ j. next (list_opens j ns' os lv' word.Not of.Not (span_of w) o ((lexemes_of p ++ rest) ++ ls) refl h.1)
        (λ n. along (append_assoc (lexemes_of p) rest ls) (
        next (written p h.2 n ns' (os ++ lv' ∷ []) (level of.Not false) ns' (level of.Not true) (rest ++ ls) refl (not_follows m c ls h.3 h.4))
        (λ k. not_ends k (ns' ++ flat (expr_of p) (length (os ++ lv' ∷ []) + 1)) os lv' m c ls h.3 h.4)))))
    written (All w o ps) h i ns os lv ns' lv' ls enters follows =
        with_end (ap (λ d. ns' ++ flat_all (exprs_of ps) d) (deeper os lv')) (
        next (word_begins i ns ns' os lv lv' w word.All (o ∷ (list_lexemes_of ps ++ ls)) enters h.0)
        (λ j. next (list_opens j ns' os lv' word.All of.All (span_of w) o (list_lexemes_of ps ++ ls) refl h.1)
        (λ n. all_first ps h.2 n ns' os lv' ls)))
    written (Any w o ps) h i ns os lv ns' lv' ls enters follows =
        with_end (ap (λ d. ns' ++ flat_any (exprs_of ps) d) (deeper os lv')) (
        next (word_begins i ns ns' os lv lv' w word.Any (o ∷ (list_lexemes_of ps ++ ls)) enters h.0)
        (λ j. next (list_opens j ns' os lv' word.Any of.Any (span_of w) o (list_lexemes_of ps ++ ls) refl h.1)
        (λ n. any_first ps h.2 n ns' os lv' ls)))

    all_first : (ps : WrittenList) → IsList text ps → (i : ℕ) (ns : List CfgNode) (os : List CfgLevel) (lv : CfgLevel) (ls : List Lexeme)
        → Goes i (at ns (os ++ lv ∷ []) (level of.All false) Begin) (list_lexemes_of ps ++ ls) (at (ns ++ flat_all (exprs_of ps) (length (os ++ lv ∷ []) + 1)) os lv Done) ls
    all_first (End c) h i ns os lv ls = closes_begin i ns (node.True ∷ []) os lv (level of.All false) c ls refl h
    all_first (Last p c) h i ns os lv ls =
        let e = flat (expr_of p) (length (os ++ lv ∷ []) + 1) in
        with_end (append_assoc ns e []) (
        along (append_assoc (lexemes_of p) (c ∷ []) ls) (
        next (written p h.0 i ns (os ++ lv ∷ []) (level of.All false) ns (level of.All true) (c ∷ ls) refl (close c ls h.1))
        (λ j. closes_done j (ns ++ e) [] os lv (level of.All true) c ls refl h.1)))
    all_first (More p m ps) h i ns os lv ls =
        let e = flat (expr_of p) (length (os ++ lv ∷ []) + 1) in
        with_end (append_assoc ns e (more_all (exprs_of ps) (length (os ++ lv ∷ []) + 1))) (
        along (append_assoc (lexemes_of p) (m ∷ list_lexemes_of ps) ls) (
        next (written p h.0 i ns (os ++ lv ∷ []) (level of.All false) ns (level of.All true) (m ∷ (list_lexemes_of ps ++ ls)) refl (comma m (list_lexemes_of ps ++ ls) h.1))
        (λ j. next (comma_goes j (ns ++ e) (os ++ lv ∷ []) (level of.All true) m (list_lexemes_of ps ++ ls) h.1)
        (λ k. all_more ps h.2 k (ns ++ e) os lv ls))))

    all_more : (ps : WrittenList) → IsList text ps → (i : ℕ) (ns : List CfgNode) (os : List CfgLevel) (lv : CfgLevel) (ls : List Lexeme)
        → Goes i (at ns (os ++ lv ∷ []) (level of.All true) Begin) (list_lexemes_of ps ++ ls) (at (ns ++ more_all (exprs_of ps) (length (os ++ lv ∷ []) + 1)) os lv Done) ls
    all_more (End c) h i ns os lv ls = closes_begin i ns [] os lv (level of.All true) c ls refl h
    all_more (Last p c) h i ns os lv ls =
        let e = flat (expr_of p) (length (os ++ lv ∷ []) + 1) in
        let b : List CfgNode = ns ++ node.All (length (os ++ lv ∷ []) + 1) ∷ [] in
        with_end (append_assoc b e [] ∙ append_assoc ns (node.All (length (os ++ lv ∷ []) + 1) ∷ []) (e ++ [])) (
        along (append_assoc (lexemes_of p) (c ∷ []) ls) (
        next (written p h.0 i ns (os ++ lv ∷ []) (level of.All true) b (level of.All true) (c ∷ ls) refl (close c ls h.1))
        (λ j. closes_done j (b ++ e) [] os lv (level of.All true) c ls refl h.1)))
    all_more (More p m ps) h i ns os lv ls =
        let e = flat (expr_of p) (length (os ++ lv ∷ []) + 1) in
        let b : List CfgNode = ns ++ node.All (length (os ++ lv ∷ []) + 1) ∷ [] in
        let es = more_all (exprs_of ps) (length (os ++ lv ∷ []) + 1) in
        with_end (append_assoc b e es ∙ append_assoc ns (node.All (length (os ++ lv ∷ []) + 1) ∷ []) (e ++ es)) (
        along (append_assoc (lexemes_of p) (m ∷ list_lexemes_of ps) ls) (
        next (written p h.0 i ns (os ++ lv ∷ []) (level of.All true) b (level of.All true) (m ∷ (list_lexemes_of ps ++ ls)) refl (comma m (list_lexemes_of ps ++ ls) h.1))
        (λ j. next (comma_goes j (b ++ e) (os ++ lv ∷ []) (level of.All true) m (list_lexemes_of ps ++ ls) h.1)
        (λ k. all_more ps h.2 k (b ++ e) os lv ls))))

    any_first : (ps : WrittenList) → IsList text ps → (i : ℕ) (ns : List CfgNode) (os : List CfgLevel) (lv : CfgLevel) (ls : List Lexeme)
        → Goes i (at ns (os ++ lv ∷ []) (level of.Any false) Begin) (list_lexemes_of ps ++ ls) (at (ns ++ flat_any (exprs_of ps) (length (os ++ lv ∷ []) + 1)) os lv Done) ls
    any_first (End c) h i ns os lv ls = closes_begin i ns (node.False ∷ []) os lv (level of.Any false) c ls refl h
    any_first (Last p c) h i ns os lv ls =
        let e = flat (expr_of p) (length (os ++ lv ∷ []) + 1) in
        with_end (append_assoc ns e []) (
        along (append_assoc (lexemes_of p) (c ∷ []) ls) (
        next (written p h.0 i ns (os ++ lv ∷ []) (level of.Any false) ns (level of.Any true) (c ∷ ls) refl (close c ls h.1))
        (λ j. closes_done j (ns ++ e) [] os lv (level of.Any true) c ls refl h.1)))
    any_first (More p m ps) h i ns os lv ls =
        let e = flat (expr_of p) (length (os ++ lv ∷ []) + 1) in
        with_end (append_assoc ns e (more_any (exprs_of ps) (length (os ++ lv ∷ []) + 1))) (
        along (append_assoc (lexemes_of p) (m ∷ list_lexemes_of ps) ls) (
        next (written p h.0 i ns (os ++ lv ∷ []) (level of.Any false) ns (level of.Any true) (m ∷ (list_lexemes_of ps ++ ls)) refl (comma m (list_lexemes_of ps ++ ls) h.1))
        (λ j. next (comma_goes j (ns ++ e) (os ++ lv ∷ []) (level of.Any true) m (list_lexemes_of ps ++ ls) h.1)
        (λ k. any_more ps h.2 k (ns ++ e) os lv ls))))

    any_more : (ps : WrittenList) → IsList text ps → (i : ℕ) (ns : List CfgNode) (os : List CfgLevel) (lv : CfgLevel) (ls : List Lexeme)
        → Goes i (at ns (os ++ lv ∷ []) (level of.Any true) Begin) (list_lexemes_of ps ++ ls) (at (ns ++ more_any (exprs_of ps) (length (os ++ lv ∷ []) + 1)) os lv Done) ls
    any_more (End c) h i ns os lv ls = closes_begin i ns [] os lv (level of.Any true) c ls refl h
    any_more (Last p c) h i ns os lv ls =
        let e = flat (expr_of p) (length (os ++ lv ∷ []) + 1) in
        let b : List CfgNode = ns ++ node.Any (length (os ++ lv ∷ []) + 1) ∷ [] in
        with_end (append_assoc b e [] ∙ append_assoc ns (node.Any (length (os ++ lv ∷ []) + 1) ∷ []) (e ++ [])) (
        along (append_assoc (lexemes_of p) (c ∷ []) ls) (
        next (written p h.0 i ns (os ++ lv ∷ []) (level of.Any true) b (level of.Any true) (c ∷ ls) refl (close c ls h.1))
        (λ j. closes_done j (b ++ e) [] os lv (level of.Any true) c ls refl h.1)))
    any_more (More p m ps) h i ns os lv ls =
        let e = flat (expr_of p) (length (os ++ lv ∷ []) + 1) in
        let b : List CfgNode = ns ++ node.Any (length (os ++ lv ∷ []) + 1) ∷ [] in
        let es = more_any (exprs_of ps) (length (os ++ lv ∷ []) + 1) in
        with_end (append_assoc b e es ∙ append_assoc ns (node.Any (length (os ++ lv ∷ []) + 1) ∷ []) (e ++ es)) (
        along (append_assoc (lexemes_of p) (m ∷ list_lexemes_of ps) ls) (
        next (written p h.0 i ns (os ++ lv ∷ []) (level of.Any true) b (level of.Any true) (m ∷ (list_lexemes_of ps ++ ls)) refl (comma m (list_lexemes_of ps ++ ls) h.1))
        (λ j. next (comma_goes j (b ++ e) (os ++ lv ∷ []) (level of.Any true) m (list_lexemes_of ps ++ ls) h.1)
        (λ k. any_more ps h.2 k (b ++ e) os lv ls))))

  -- the whole of it
  whole_follows : (m : Option Lexeme) → MayBeComma m → Follows (option_to_list m)
  whole_follows None is = nothing
  whole_follows (Some m) is = comma m [] is

  whole_ends : (i : ℕ) (ns : List CfgNode) (m : Option Lexeme) → MayBeComma m → run text i (at ns [] (level of.Whole true) Done) (option_to_list m) ≡ Ok ns
  whole_ends i ns None is = refl
  whole_ends i ns (Some m) is = (comma_goes i ns [] (level of.Whole true) m [] is).same

  pub read_written : (p : Written) (m : Option Lexeme) (ls : List Lexeme) → IsPredicate text p → MayBeComma m → ls ≡ lexemes_of p ++ option_to_list m
      → reading text ls ≡ Ok (flat (expr_of p) 1)
  read_written p m ls h is e =
      let g = written p h 0 [] [] (level of.Whole false) [] (level of.Whole true) (option_to_list m) refl (whole_follows m is) in
      ap (reading text) e ∙ g.same ∙ whole_ends g.number (flat (expr_of p) 1) m is

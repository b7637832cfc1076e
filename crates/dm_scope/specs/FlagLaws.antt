-- What flags say after one is set or cleared, and after the table of sets behind them is changed at one module.
use Rattle.std.proofs.Common.{◌≡◌, Bool, true, false, cond, not, ◌&&◌, ◌||◌, T, List, [], ◌∷◌, Option, None, Some, is_some, refl, sym, ap, ◌∙◌, true≢false, ℕ}
use Rattle.std.specs.List.{list_any}
use Rattle.std.specs.Map.{lookup}
use Rattle.std.specs.HashSet.{HashSet}
use Rattle.std.specs.Ordering.{eq_by_cmp, is_eq}
use Rattle.std.specs.Cmp.Lexicographic.{nat_list_eq_equiv, texts_ties, on_texts}
use Rattle.std.specs.Cmp.{IsTotalOrder}
use Rattle.std.specs.FinMap.{slice_cmp-IsAntisymmetric, nat_cmp-IsAntisymmetric}
use Rattle.std.specs.FinMap.Entries.{by_order, find, put, where_key, is_sorted, find-put, find-where_key, is_sorted-put, is_sorted-where_key, same_entries}
use Rattle.std.specs.declared.cmp.Ordering.{Ordering}
use Rattle.std.specs.declared.cmp.Ordering.TheVariants.{Less, Equal, Greater}
use Rattle.std.proofs.lemmas.Cmp.{nat_eq_equiv}
use Rattle.dm_base.specs.declared.ids.ModuleId.{ModuleId}
use Rattle.dm_base.specs.Names.{Name, same_name}
use Rattle.dm_base.specs.Tree.{same_module}
use Rattle.dm_base.specs.IdLaws.{same_module-true, same_module-refl}
use Rattle.dm_scope.specs.Shadowing.{Reading, is_glob, flagged}
use Rattle.dm_scope.specs.Flags.{Flags, flag_cmp, has_flag, has_name, flags_of, with_flag, with_names, without_module}

total : IsTotalOrder flag_cmp
total = on_texts (λ f. f.0.0 ∷ f.1)

abbrev front : List ℕ → ℕ
front [] = 0
front (n ∷ ns) = n

abbrev rest : List ℕ → List ℕ
rest [] = []
rest (n ∷ ns) = ns

flag_cmp-same : (f g : ModuleId × Name) → flag_cmp f g ≡ Equal → f ≡ g
flag_cmp-same f g e =
    let one = slice_cmp-IsAntisymmetric nat_cmp-IsAntisymmetric (f.0.0 ∷ f.1) (g.0.0 ∷ g.1) e in
    λ i. (record { 0 = front (one i) }, rest (one i))

-- a flag is that of a name of a module
ties : (m k : ModuleId) (name n : Name) → eq_by_cmp flag_cmp (m, name) (k, n) ≡ (same_module m k && same_name name n)
ties m k name n = sym (texts_ties (m.0 ∷ name) (k.0 ∷ n))

turned : (m k : ModuleId) (name n : Name) → eq_by_cmp flag_cmp (k, n) (m, name) ≡ (same_module m k && same_name name n)
turned m k name n = ties k m n name ∙ (λ i. nat_eq_equiv.symm k.0 m.0 i && nat_list_eq_equiv.symm n name i)

some-cond : (b : Bool) (o : Option (Unit {0})) → is_some (cond b (Some tt) o) ≡ cond b true (is_some o)
some-cond true o = refl
some-cond false o = refl

cond-none : (b : Bool) (o : Option (Unit {0})) → is_some (cond (not b) o None) ≡ cond b false (is_some o)
cond-none true o = refl
cond-none false o = refl

module _ (fs : Flags) (m : ModuleId) (name : Name) where
  -- what flags say after one is set or cleared
  pub has_flag-with : (b : Bool) (k : ModuleId) (n : Name) → has_flag (with_flag fs m name b) k n ≡ cond (same_module m k && same_name name n) b (has_flag fs k n)
  has_flag-with true k n = by (has_flag fs m name) refl
    where
      stood : (c : Bool) → (same_module m k && same_name name n) ≡ c → has_flag fs m name ≡ true → has_flag fs k n ≡ cond c true (has_flag fs k n)
      stood true e h = (λ i. is_some (find flag_cmp (sym (flag_cmp-same (m, name) (k, n) (is_eq-true (flag_cmp (m, name) (k, n)) (ties m k name n ∙ e))) i) fs)) ∙ h
        where
          is_eq-true : (o : Ordering) → is_eq o ≡ true → o ≡ Equal
          is_eq-true Less h = absurd (true≢false (sym h))
          is_eq-true Equal h = refl
          is_eq-true Greater h = absurd (true≢false (sym h))
      stood false e h = refl

      by : (b : Bool) → has_flag fs m name ≡ b → has_flag (cond b fs (put flag_cmp (m, name) tt fs)) k n ≡ cond (same_module m k && same_name name n) true (has_flag fs k n)
      by true h = stood (same_module m k && same_name name n) refl h
      by false h =
          ap is_some (find-put flag_cmp total (k, n) (m, name) tt fs)
          ∙ some-cond (eq_by_cmp flag_cmp (k, n) (m, name)) (find flag_cmp (k, n) fs)
          ∙ ap (λ b. cond b true (has_flag fs k n)) (turned m k name n)
  has_flag-with false k n =
      ap is_some (find-where_key flag_cmp (λ f. not (eq_by_cmp flag_cmp (m, name) f)) (k, n)
      (λ f e. ap (λ g. not (eq_by_cmp flag_cmp (m, name) g)) (sym (flag_cmp-same (k, n) f e))) fs)
      ∙ cond-none (eq_by_cmp flag_cmp (m, name) (k, n)) (find flag_cmp (k, n) fs)
      ∙ ap (λ b. cond b false (has_flag fs k n)) (ties m k name n)

  -- flags in order stay in order
  sorted-with : (b : Bool) → T (is_sorted flag_cmp fs) → T (is_sorted flag_cmp (with_flag fs m name b))
  sorted-with true h = by (has_flag fs m name)
    where
      by : (b : Bool) → T (is_sorted flag_cmp (cond b fs (put flag_cmp (m, name) tt fs)))
      by true = h
      by false = is_sorted-put flag_cmp total (m, name) tt fs h
  sorted-with false h = is_sorted-where_key flag_cmp (λ f. not (eq_by_cmp flag_cmp (m, name) f)) fs h

-- what is not there cannot be taken off
without-absent : (f : ModuleId × Name) (fs : Flags) → is_some (find flag_cmp f fs) ≡ false → where_key flag_cmp (λ g. not (eq_by_cmp flag_cmp f g)) fs ≡ fs
without-absent f [] h = refl
without-absent f (e ∷ es) h = by (eq_by_cmp flag_cmp f e.0) h (without-absent f es)
  where
    by : (b : Bool) → is_some (cond b (Some e.1) (find flag_cmp f es)) ≡ false → (is_some (find flag_cmp f es) ≡ false → where_key flag_cmp (λ g. not (eq_by_cmp flag_cmp f g)) es ≡ es)
        → cond (not b) (e ∷ where_key flag_cmp (λ g. not (eq_by_cmp flag_cmp f g)) es) (where_key flag_cmp (λ g. not (eq_by_cmp flag_cmp f g)) es) ≡ e ∷ es
    by true h more = absurd (true≢false h)
    by false h more = ap (λ l. e ∷ l) (more h)

-- what was put there is taken off again
without-put : (f : ModuleId × Name) (fs : Flags) → is_some (find flag_cmp f fs) ≡ false → where_key flag_cmp (λ g. not (eq_by_cmp flag_cmp f g)) (put flag_cmp f tt fs) ≡ fs
without-put f fs h = at fs h
  where
    itself : (gs : Flags) → where_key flag_cmp (λ g. not (eq_by_cmp flag_cmp f g)) ((f, tt) ∷ gs) ≡ where_key flag_cmp (λ g. not (eq_by_cmp flag_cmp f g)) gs
    itself gs = ap (λ b. cond (not b) ((f, tt) ∷ where_key flag_cmp (λ g. not (eq_by_cmp flag_cmp f g)) gs) (where_key flag_cmp (λ g. not (eq_by_cmp flag_cmp f g)) gs))
        (ties f.0 f.0 f.1 f.1 ∙ (λ i. same_module-refl f.0 i && nat_list_eq_equiv.refl f.1 i))

    at : (gs : Flags) → is_some (find flag_cmp f gs) ≡ false → where_key flag_cmp (λ g. not (eq_by_cmp flag_cmp f g)) (put flag_cmp f tt gs) ≡ gs
    at [] h = itself []
    at (e ∷ es) h = by (flag_cmp f e.0) refl h (at es)
      where
        by : (o : Ordering) → flag_cmp f e.0 ≡ o → is_some (cond (is_eq o) (Some e.1) (find flag_cmp f es)) ≡ false
            → (is_some (find flag_cmp f es) ≡ false → where_key flag_cmp (λ g. not (eq_by_cmp flag_cmp f g)) (put flag_cmp f tt es) ≡ es)
            → where_key flag_cmp (λ g. not (eq_by_cmp flag_cmp f g)) (by_order o ((f, tt) ∷ e ∷ es) ((e.0, tt) ∷ es) (e ∷ put flag_cmp f tt es)) ≡ e ∷ es
        by Less is h more = itself (e ∷ es) ∙ without-absent f (e ∷ es) (ap (λ o. is_some (cond (is_eq o) (Some e.1) (find flag_cmp f es))) is ∙ h)
        by Equal is h more = absurd (true≢false h)
        by Greater is h more =
            ap (λ o. cond (not (is_eq o)) (e ∷ where_key flag_cmp (λ g. not (eq_by_cmp flag_cmp f g)) (put flag_cmp f tt es)) (where_key flag_cmp (λ g. not (eq_by_cmp flag_cmp f g)) (put flag_cmp f tt es))) is
            ∙ ap (λ l. e ∷ l) (more h)

module _ (fs : Flags) (m : ModuleId) (name : Name) where
  -- a flag that stands is set, or one that does not is cleared
  pub with_flag-same : (b : Bool) → has_flag fs m name ≡ b → with_flag fs m name b ≡ fs
  with_flag-same true h = ap (λ b. cond b fs (put flag_cmp (m, name) tt fs)) h
  with_flag-same false h = without-absent (m, name) fs h

  -- a flag that was set and did not stand is cleared again
  pub with_flag-undone : has_flag fs m name ≡ false → with_flag (with_flag fs m name true) m name false ≡ fs
  with_flag-undone h = ap (λ b. with_flag (cond b fs (put flag_cmp (m, name) tt fs)) m name false) h ∙ without-put (m, name) fs h

-- flags in order that say the same are equal
same_flags : (fs gs : Flags) → T (is_sorted flag_cmp fs) → T (is_sorted flag_cmp gs) → ((k : ModuleId) (n : Name) → has_flag fs k n ≡ has_flag gs k n) → fs ≡ gs
same_flags fs gs s t says = same_entries flag_cmp total flag_cmp-same fs gs s t (λ q. found (find flag_cmp q fs) (find flag_cmp q gs) (says q.0 q.1))
  where
    found : (o p : Option (Unit {0})) → is_some o ≡ is_some p → o ≡ p
    found None None h = refl
    found None (Some u) h = absurd (true≢false (sym h))
    found (Some u) None h = absurd (true≢false h)
    found (Some u) (Some v) h = refl

module _ (m : ModuleId) where
  has_flag-without_module : (fs : Flags) (k : ModuleId) (n : Name) → has_flag (without_module m fs) k n ≡ cond (same_module m k) false (has_flag fs k n)
  has_flag-without_module fs k n =
      ap is_some (find-where_key flag_cmp (λ f. not (same_module m f.0)) (k, n) (λ f e. ap (λ (g : ModuleId × Name). not (same_module m g.0)) (sym (flag_cmp-same (k, n) f e))) fs)
      ∙ cond-none (same_module m k) (find flag_cmp (k, n) fs)

  has_flag-with_names : (ns : List Name) (fs : Flags) (k : ModuleId) (n : Name) → has_flag (with_names m ns fs) k n ≡ ((same_module m k && list_any (same_name n) ns) || has_flag fs k n)
  has_flag-with_names [] fs k n = none (same_module m k)
    where
      none : (a : Bool) → has_flag fs k n ≡ ((a && false) || has_flag fs k n)
      none true = refl
      none false = refl
  has_flag-with_names (x ∷ xs) fs k n =
      has_flag-with (with_names m xs fs) m x true k n
      ∙ (λ i. cond (same_module m k && nat_list_eq_equiv.symm x n i) true (has_flag-with_names xs fs k n i))
      ∙ more (same_module m k) (same_name n x)
    where
      more : (a b : Bool) → cond (a && b) true ((a && list_any (same_name n) xs) || has_flag fs k n) ≡ ((a && (b || list_any (same_name n) xs)) || has_flag fs k n)
      more true true = refl
      more true false = refl
      more false b = refl

  sorted-with_names : (ns : List Name) (fs : Flags) → T (is_sorted flag_cmp fs) → T (is_sorted flag_cmp (with_names m ns fs))
  sorted-with_names [] fs h = h
  sorted-with_names (x ∷ xs) fs h = sorted-with (with_names m xs fs) m x true (sorted-with_names xs fs h)

module _ {S : Type 0} where
  sorted-flags_of : (es : List (ModuleId × HashSet Name S)) → T (is_sorted flag_cmp (flags_of es))
  sorted-flags_of [] = tt
  sorted-flags_of (e ∷ es) = sorted-with_names e.0 e.1.keys (without_module e.0 (flags_of es)) (is_sorted-where_key flag_cmp (λ f. not (same_module e.0 f.0)) (flags_of es) (sorted-flags_of es))

  -- a table says what the set of the module has
  pub has_flag-flags_of : (es : List (ModuleId × HashSet Name S)) (k : ModuleId) (n : Name) → has_flag (flags_of es) k n ≡ has_name n (lookup (same_module k) es)
  has_flag-flags_of [] k n = refl
  has_flag-flags_of (e ∷ es) k n =
      has_flag-with_names e.0 e.1.keys (without_module e.0 (flags_of es)) k n
      ∙ (λ i. (nat_eq_equiv.symm e.0.0 k.0 i && list_any (same_name n) e.1.keys) || has_flag-without_module e.0 (flags_of es) k n i)
      ∙ (λ i. (same_module k e.0 && list_any (same_name n) e.1.keys) || cond (nat_eq_equiv.symm e.0.0 k.0 i) false (has_flag-flags_of es k n i))
      ∙ at (same_module k e.0) (list_any (same_name n) e.1.keys) refl
    where
      at : (b a : Bool) → list_any (same_name n) e.1.keys ≡ a → ((b && a) || cond b false (has_name n (lookup (same_module k) es))) ≡ has_name n (cond b (Some e.1) (lookup (same_module k) es))
      at true true h = sym h
      at true false h = sym h
      at false a h = refl

-- a table in which the set of one module is another
module _ {S : Type 0} (m : ModuleId) (es new : List (ModuleId × HashSet Name S)) (t : HashSet Name S)
    (changed : (k : ModuleId) → lookup (same_module k) new ≡ cond (same_module m k) (Some t) (lookup (same_module k) es)) where
  -- it has a name, or has it not, and every other name as before
  pub flags_of-with : (name : Name) (b : Bool) → ((n : Name) → list_any (same_name n) t.keys ≡ cond (same_name name n) b (has_name n (lookup (same_module m) es)))
      → flags_of new ≡ with_flag (flags_of es) m name b
  flags_of-with name b has = same_flags (flags_of new) (with_flag (flags_of es) m name b) (sorted-flags_of new) (sorted-with (flags_of es) m name b (sorted-flags_of es))
      (λ k n. has_flag-flags_of new k n ∙ ap (has_name n) (changed k) ∙ at k n (same_module m k) refl
      ∙ ap (cond (same_module m k && same_name name n) b) (sym (has_flag-flags_of es k n)) ∙ sym (has_flag-with (flags_of es) m name b k n))
    where
      at : (k : ModuleId) (n : Name) (c : Bool) → same_module m k ≡ c → has_name n (cond c (Some t) (lookup (same_module k) es)) ≡ cond (c && same_name name n) b (has_name n (lookup (same_module k) es))
      at k n true e = has n ∙ ap (λ j. cond (same_name name n) b (has_name n (lookup (same_module j) es))) (same_module-true m k e)
      at k n false e = refl

  -- it has the same names
  pub flags_of-kept : ((n : Name) → list_any (same_name n) t.keys ≡ has_name n (lookup (same_module m) es)) → flags_of new ≡ flags_of es
  flags_of-kept has = same_flags (flags_of new) (flags_of es) (sorted-flags_of new) (sorted-flags_of es)
      (λ k n. has_flag-flags_of new k n ∙ ap (has_name n) (changed k) ∙ at k n (same_module m k) refl ∙ sym (has_flag-flags_of es k n))
    where
      at : (k : ModuleId) (n : Name) (c : Bool) → same_module m k ≡ c → has_name n (cond c (Some t) (lookup (same_module k) es)) ≡ has_name n (lookup (same_module k) es)
      at k n true e = has n ∙ ap (λ j. has_name n (lookup (same_module j) es)) (same_module-true m k e)
      at k n false e = refl

module _ {D I : Type 0} (r : Reading D I) where
  -- the flags of the pushed name's module, after an effective push or another
  pub has_flag-after : (f : Flags) (w : Bool) (m : ModuleId) (name : Name) (by : Option I) (n : Name)
      → has_flag (cond w (flagged r f m name by) f) m n ≡ cond (w && same_name n name) (is_glob r by) (has_flag f m n)
  has_flag-after f true m name by n =
      has_flag-with f m name (is_glob r by) m n ∙ (λ i. cond (same_module-refl m i && nat_list_eq_equiv.symm name n i) (is_glob r by) (has_flag f m n))
  has_flag-after f false m name by n = refl

  -- the flags of another module
  pub has_flag-elsewhere : (f : Flags) (w : Bool) (m : ModuleId) (name : Name) (by : Option I) (k : ModuleId) (n : Name) → same_module m k ≡ false
      → has_flag (cond w (flagged r f m name by) f) k n ≡ has_flag f k n
  has_flag-elsewhere f true m name by k n h = has_flag-with f m name (is_glob r by) k n ∙ ap (λ c. cond (c && same_name name n) (is_glob r by) (has_flag f k n)) h
  has_flag-elsewhere f false m name by k n h = refl

-- Pushes into one namespace: one that writes nothing changes nothing, none writes twice, and what a named import would
-- not write it would not write after another push.
use Rattle.std.proofs.Common.{◌≡◌, ◌∙◌, Bool, true, false, cond, not, ◌&&◌, ◌||◌, Option, None, Some, refl, sym, ap, true≢false}
use Rattle.std.proofs.lemmas.Bool.{cond-false, and_right}
use Rattle.std.proofs.lemmas.Slice.Eq.{bytes_eq-Decides}
use Rattle.std.specs.Cmp.Lexicographic.{nat_list_eq_equiv}
use Rattle.dm_base.specs.declared.ids.ModuleId.{ModuleId}
use Rattle.dm_base.specs.Names.{Name, same_name, find_name}
use Rattle.dm_base.specs.declared.imports.ImportOrExternCrate.{ImportOrExternCrate}
use Rattle.dm_base.specs.Tree.{same_module}
use Rattle.dm_base.specs.declared.per_ns.Item.{Item}
use Rattle.dm_scope.specs.Shadowing.{Reading, import_of, is_glob, is_same, writes, flagged}
use Rattle.dm_scope.specs.Bindings.{Bound, stored, bound, is_effective_at, bound_after, flags_after}
use Rattle.dm_scope.specs.Flags.{Flags, has_flag}
use Rattle.dm_scope.specs.FlagLaws.{has_flag-with, has_flag-after, has_flag-elsewhere}
use Rattle.dm_scope.proofs.PushLemmas.{IsReading, is_same-turned}
use Rattle.dm_scope.proofs.ShowLemmas.{lookup-insert_entry}

module _ {D I : Type 0} (r : Reading D I) where
  -- a push that writes nothing leaves the bindings and the flags
  pub idle-bound : (s : Bound D I) (f : Flags) (m : ModuleId) (n : Name) (x : Option (Item D I)) (by : Option ImportOrExternCrate) → is_effective_at r s f m n x by ≡ false → bound_after r s f m n x by ≡ s
  idle-bound s f m n None by h = refl
  idle-bound s f m n (Some item) by h = cond-false _ (bound r s n item (import_of r by)) s h

  pub idle-flags : (s : Bound D I) (f : Flags) (m : ModuleId) (n : Name) (x : Option (Item D I)) (by : Option ImportOrExternCrate) → is_effective_at r s f m n x by ≡ false → flags_after r s f m n x by ≡ f
  idle-flags s f m n x by h = cond-false _ (flagged r f m n (import_of r by)) f h

  -- a push into another module answers, after a push of any scope, as before
  pub writes-elsewhere : {E J : Type 0} (q : Reading E J) (u : Bound E J) (s : Bound D I) (f : Flags) (m k : ModuleId) (n name : Name) (x : Option (Item D I)) (y : Option (Item E J)) (by to : Option ImportOrExternCrate)
      → same_module m k ≡ false → is_effective_at q u (flags_after r s f m n x by) k name y to ≡ is_effective_at q u f k name y to
  writes-elsewhere q u s f m k n name x None by to apart = refl
  writes-elsewhere q u s f m k n name x (Some item) by to apart =
      ap (λ b. writes q (find_name name u.items) b item (import_of q to)) (has_flag-elsewhere r f (is_effective_at r s f m n x by) m n (import_of r by) k name apart)

  module _ (law : IsReading r) where
    -- what is bound under a name after an effective push
    found : (s : Bound D I) (n name : Name) (item : Item D I) (j : Option I) → find_name n (bound r s name item j).items ≡ cond (same_name n name) (Some (stored r item j)) (find_name n s.items)
    found s n name item j = lookup-insert_entry same_name (λ x y. (bytes_eq-Decides x y).0) name n (stored r item j) s.items

    -- what a push has just bound it does not write again: a glob writes nothing that is bound, and another push clears
    -- the flag
    again-own : (item : Item D I) (j : Option I) → writes r (Some (stored r item j)) (is_glob r j) item j ≡ false
    again-own item j = by (is_glob r j)
      where
        by : (b : Bool) → (not b && (b || (is_same r j j && not (r.same_def item.def item.def)))) ≡ false
        by true = refl
        by false = ap (λ b. is_same r j j && not b) (law.def_refl item.def) ∙ and_right (is_same r j j) false refl

    -- a push that has been made writes nothing again
    pub writes-again : (s : Bound D I) (f : Flags) (m : ModuleId) (n : Name) (x : Option (Item D I)) (by : Option ImportOrExternCrate)
        → is_effective_at r (bound_after r s f m n x by) (flags_after r s f m n x by) m n x by ≡ false
    writes-again s f m n None by = refl
    writes-again s f m n (Some item) by = at (writes r (find_name n s.items) (has_flag f m n) item (import_of r by)) refl
      where
        at : (w : Bool) → writes r (find_name n s.items) (has_flag f m n) item (import_of r by) ≡ w
            → writes r (find_name n (cond w (bound r s n item (import_of r by)) s).items) (has_flag (cond w (flagged r f m n (import_of r by)) f) m n) item (import_of r by) ≡ false
        at true h =
            (λ i. writes r (found s n n item (import_of r by) i) (has_flag-after r f true m n (import_of r by) n i) item (import_of r by))
            ∙ (λ i. writes r (cond (nat_list_eq_equiv.refl n i) (Some (stored r item (import_of r by))) (find_name n s.items)) (cond (nat_list_eq_equiv.refl n i) (is_glob r (import_of r by)) (has_flag f m n)) item (import_of r by))
            ∙ again-own item (import_of r by)
        at false h = h

    -- where a push by no glob would write nothing, the name is bound, and no flag stands
    record Rests (o : Option (Item D I)) (flag : Bool) (item : Item D I) (j : Option I) : Type 0 where
      pub old : Item D I
      pub is : o ≡ Some old
      pub unset : flag ≡ false
      pub kept : writes r (Some old) false item j ≡ false

    unwritten : (o : Option (Item D I)) (flag : Bool) (item : Item D I) (j : Option I) → is_glob r j ≡ false → writes r o flag item j ≡ false → Rests o flag item j
    unwritten None flag item j named h = absurd (true≢false h)
    unwritten (Some old) true item j named h = absurd (true≢false (ap (λ b. not b && true) (sym named) ∙ h))
    unwritten (Some old) false item j named h = record { old = old; is = refl; unset = refl; kept = h }

    -- what another push has bound is not written by a push by no glob, where no flag stands
    other-kept : (item other : Item D I) (j k : Option I) → is_same r j k ≡ false → writes r (Some (stored r other k)) false item j ≡ false
    other-kept item other j k differ = ap (λ b. not (is_glob r j) && (b && not (r.same_def other.def item.def))) (is_same-turned r law j k differ) ∙ and_right (not (is_glob r j)) false refl

    -- the flags of a bound name that had none, after an effective push: a glob's is not of that name, since it writes
    -- no bound one
    unset-after : (f : Flags) (m h : ModuleId) (n name : Name) (k : Option I) → has_flag f m n ≡ false → (same_name name n ≡ true → is_glob r k ≡ false) → has_flag (flagged r f h name k) m n ≡ false
    unset-after f m h n name k unset other = has_flag-with f h name (is_glob r k) m n ∙ at (same_module h m) (same_name name n) refl
      where
        at : (a b : Bool) → same_name name n ≡ b → cond (a && b) (is_glob r k) (has_flag f m n) ≡ false
        at true true e = other e
        at true false e = unset
        at false b e = unset

    -- what is bound and flagged after an effective push or another
    rests-with : (s : Bound D I) (f : Flags) (m h : ModuleId) (n name : Name) (item other : Item D I) (j k : Option I) → is_same r j k ≡ false → Rests (find_name n s.items) (has_flag f m n) item j
        → (w : Bool) → writes r (find_name name s.items) (has_flag f h name) other k ≡ w
        → writes r (find_name n (cond w (bound r s name other k) s).items) (has_flag (cond w (flagged r f h name k) f) m n) item j ≡ false
    rests-with s f m h n name item other j k differ old true e =
        (λ i. writes r (found s n name other k i) (unset-after f m h n name k old.unset (no_glob (is_glob r k) refl) i) item j)
        ∙ here (same_name n name)
      where
        no_glob : (b : Bool) → is_glob r k ≡ b → same_name name n ≡ true → b ≡ false
        no_glob true is same =
            let there : find_name name s.items ≡ Some old.old = ap (λ q. find_name q s.items) ((bytes_eq-Decides name n).0 same) ∙ old.is in
            absurd (true≢false (sym e ∙ ap (λ o. writes r o (has_flag f h name) other k) there
            ∙ ap (λ b. not b && (has_flag f h name || (is_same r old.old.import k && not (r.same_def old.old.def other.def)))) is))
        no_glob false is same = refl

        here : (b : Bool) → writes r (cond b (Some (stored r other k)) (find_name n s.items)) false item j ≡ false
        here true = other-kept item other j k differ
        here false = ap (λ o. writes r o false item j) old.is ∙ old.kept
    rests-with s f m h n name item other j k differ old false e = (λ i. writes r (old.is i) (old.unset i) item j) ∙ old.kept

    -- What a push by no glob would not write, it would not write after a push that came by another import, by a glob or
    -- by none.
    pub writes-rests : (s : Bound D I) (f : Flags) (m h : ModuleId) (n name : Name) (x y : Option (Item D I)) (by to : Option ImportOrExternCrate)
        → is_glob r (import_of r by) ≡ false → is_same r (import_of r by) (import_of r to) ≡ false → is_effective_at r s f m n x by ≡ false
        → is_effective_at r (bound_after r s f h name y to) (flags_after r s f h name y to) m n x by ≡ false
    writes-rests s f m h n name None y by to named differ rest = refl
    writes-rests s f m h n name (Some item) None by to named differ rest = rest
    writes-rests s f m h n name (Some item) (Some other) by to named differ rest =
        rests-with s f m h n name item other (import_of r by) (import_of r to) differ (unwritten (find_name n s.items) (has_flag f m n) item (import_of r by) named rest)
        (writes r (find_name name s.items) (has_flag f h name) other (import_of r to)) refl

-- A name that is bound explicitly stays what it is, whatever pushes by other imports follow.
use Rattle.std.proofs.Common.{◌≡◌, ◌∙◌, ◌+◌, ◌++◌, ap, cond, not, refl, subst, sym, false, true, true≢false, ℕ, Bool, Option, None, Some, List, [], ◌∷◌}
use Rattle.std.specs.List.{AllByRecursion, cons_option, enumerate_from, filter}
use Rattle.std.specs.Option.{option_map}
use Rattle.std.specs.Prelude.{is_some, slice_get}
use Rattle.std.proofs.lemmas.List.{append-nil}
use Rattle.std.proofs.lemmas.List.Elements.{filter-append, filter_map-append}
use Rattle.dm_base.specs.Names.{Name, same_name}
use Rattle.dm_scope.specs.Pushes.{Push, binding, item_of, is_by, is_explicit, last_run, named, named_explicit, named_of, named_push}
use Rattle.dm_base.specs.declared.imports.ImportOrExternCrate.{ImportOrExternCrate}
use Rattle.dm_base.specs.declared.imports.ImportOrExternCrate.TheVariants as wide
use Rattle.dm_base.specs.declared.per_ns.Item.{Item}
use Rattle.dm_base.specs.declared.per_ns.PerNs.{PerNs}
use Rattle.dm_scope.specs.Shadowing.{Reading, import_of, is_glob, is_same}
use Rattle.dm_base.specs.declared.ids.ModuleId.{ModuleId}
use Rattle.dm_collector.specs.Declaring.{AreDeclaring, AreImporting, KeepsIn, is_declaring, is_importing}
use Rattle.dm_scope.specs.Flags.{Globs}
use Rattle.dm_scope.specs.Push.{macros_reading, types_reading, values_reading}
use Rattle.dm_scope.specs.Scope.{Scope}
use Rattle.dm_scope.specs.Shows.{ScopePush, Shows, push_in, pushes_in}

enum-append : {X : Type 0} (k : ℕ) (xs ys : List X) → (j : ℕ) × (enumerate_from k (xs ++ ys) ≡ enumerate_from k xs ++ enumerate_from j ys)
enum-append k [] ys = (k, refl)
enum-append k (x ∷ xs) ys = let rest = enum-append (k + 1) xs ys in (rest.0, ap (λ l. (k, x) ∷ l) rest.1)

module _ {D I : Type 0} (r : Reading D I) (n : Name) where
  abbrev of_name : List (ℕ × Push D I) → List (ℕ × Push D I)
  of_name ps = filter (λ p. same_name n p.1.name) ps

  abbrev explicit : List (ℕ × Push D I) → List (ℕ × Push D I)
  explicit ps = filter (λ p. is_explicit r p.1) ps

  abbrev by_import : I → List (ℕ × Push D I) → List (ℕ × Push D I)
  by_import i ps = filter (λ p. is_by r i p.1) ps

  abbrev pub IsNoneBy : I → List (Push D I) → Type 0
  IsNoneBy i qs = AllByRecursion (λ q. is_by r i q ≡ false) qs

  none-by : (i : I) (k : ℕ) (qs : List (Push D I)) → IsNoneBy i qs → by_import i (explicit (of_name (enumerate_from k qs))) ≡ []
  none-by i k [] h = refl
  none-by i k (q ∷ qs) h = by (same_name n q.name) (is_explicit r q) (none-by i (k + 1) qs h.1)
    where
      rest : List (ℕ × Push D I)
      rest = of_name (enumerate_from (k + 1) qs)

      by : (a b : Bool) → by_import i (explicit rest) ≡ [] → by_import i (explicit (cond a ((k, q) ∷ rest) rest)) ≡ []
      by false b e = e
      by true b e = own (is_explicit r q) refl e
        where
          own : (c : Bool) → is_explicit r q ≡ c → by_import i (explicit rest) ≡ [] → by_import i (cond c ((k, q) ∷ explicit rest) (explicit rest)) ≡ []
          own false s e = e
          own true s e = ap (λ c. cond c ((k, q) ∷ by_import i (explicit rest)) (by_import i (explicit rest))) h.0 ∙ e

  -- what a list names whose first explicit push is that
  pub stays : (ps qs : List (Push D I)) (e : ℕ × Push D I) (es : List (ℕ × Push D I)) → explicit (of_name (enumerate_from 0 ps)) ≡ e ∷ es
      → ((i : I) → e.1.by ≡ Some i → IsNoneBy i qs) → named_push r (ps ++ qs) n ≡ named_push r ps n
  stays ps qs e es is none = ap (λ l. named_of r (slice_get (of_name (enumerate_from 0 (ps ++ qs))) 0) l) whole ∙ by e.1.by refl ∙ sym (ap (λ l. named_of r (slice_get (of_name (enumerate_from 0 ps)) 0) l) is)
    where
      split : (j : ℕ) × (enumerate_from 0 (ps ++ qs) ≡ enumerate_from 0 ps ++ enumerate_from j qs)
      split = enum-append 0 ps qs

      more : List (ℕ × Push D I)
      more = explicit (of_name (enumerate_from split.0 qs))

      whole : explicit (of_name (enumerate_from 0 (ps ++ qs))) ≡ e ∷ (es ++ more)
      whole =
          ap (λ l. explicit (of_name l)) split.1
          ∙ ap explicit (filter-append (λ p. same_name n p.1.name) (enumerate_from 0 ps) (enumerate_from split.0 qs))
          ∙ filter-append (λ p. is_explicit r p.1) (of_name (enumerate_from 0 ps)) (of_name (enumerate_from split.0 qs))
          ∙ ap (λ l. l ++ more) is

      by : (o : Option I) → e.1.by ≡ o → named_explicit r e o (e ∷ (es ++ more)) ≡ named_explicit r e o (e ∷ es)
      by None s = refl
      by (Some i) s =
          ap (last_run r) (filter-append (λ p. is_by r i p.1) (e ∷ es) more ∙ ap (λ l. by_import i (e ∷ es) ++ l) (none-by i split.0 qs (none i s)) ∙ append-nil (by_import i (e ∷ es)))

-- what holds of all of a list holds of the first explicit push of a name
module _ {D I : Type 0} (r : Reading D I) (n : Name) (P : Push D I → Type 0) where
  pub first-explicit : (k : ℕ) (ps : List (Push D I)) → AllByRecursion P ps → (e : ℕ × Push D I) (es : List (ℕ × Push D I)) → explicit r n (of_name r n (enumerate_from k ps)) ≡ e ∷ es → P e.1
  first-explicit k [] all e es is = cc
  first-explicit k (p ∷ ps) all e es is = by (same_name n p.name) is (first-explicit (k + 1) ps all.1 e es)
    where
      rest : List (ℕ × Push D I)
      rest = of_name r n (enumerate_from (k + 1) ps)

      own : (b : Bool) → cond b ((k, p) ∷ explicit r n rest) (explicit r n rest) ≡ e ∷ es → (explicit r n rest ≡ e ∷ es → P e.1) → P e.1
      own true h more = subst (λ (x : ℕ × Push D I). P x.1) (let same : (k, p) ≡ e = cc in same) all.0
      own false h more = more h

      by : (a : Bool) → explicit r n (cond a ((k, p) ∷ rest) rest) ≡ e ∷ es → (explicit r n rest ≡ e ∷ es → P e.1) → P e.1
      by true h more = own (is_explicit r p) h more
      by false h more = more h

-- ---- Scopes in which items are declared, and then imported

module _ {D I : Type 0} (r : Reading D I) (item : PerNs → Option (Item D I))
    (explicit-own : (o : Option ImportOrExternCrate) → is_declaring o ≡ true → is_glob r (import_of r o) ≡ false)
    (others : (o q : Option ImportOrExternCrate) → is_declaring o ≡ true → is_importing q ≡ true → is_same r (import_of r o) (import_of r q) ≡ false) where
  abbrev read : List ScopePush → List (Push D I)
  read ps = pushes_in r item ps

  -- what declares something
  abbrev Declares : Push D I → Type 0
  Declares p = (o : Option ImportOrExternCrate) × (is_declaring o ≡ true) × (p.by ≡ import_of r o)

  declares : (ps : List ScopePush) → AreDeclaring ps → AllByRecursion Declares (read ps)
  declares [] all = tt
  declares (p ∷ ps) all = by (item p.res) (declares ps all.1)
    where
      by : (o : Option (Item D I)) → AllByRecursion Declares (read ps)
          → AllByRecursion Declares (cons_option (option_map (λ (x : Item D I). record { name = p.name; item = x; by = import_of r p.by }) o) (read ps))
      by None h = h
      by (Some x) h = ((p.by, all.0, refl), h)

  none-by-declared : (i : I) (o : Option ImportOrExternCrate) → is_declaring o ≡ true → import_of r o ≡ Some i → (qs : List ScopePush) → AreImporting qs → (n : Name) → IsNoneBy r n i (read qs)
  none-by-declared i o d is [] all n = tt
  none-by-declared i o d is (q ∷ qs) all n = by (item q.res) (none-by-declared i o d is qs all.1 n)
    where
      by : (y : Option (Item D I)) → IsNoneBy r n i (read qs)
          → IsNoneBy r n i (cons_option (option_map (λ (x : Item D I). record { name = q.name; item = x; by = import_of r q.by }) y) (read qs))
      by None h = h
      by (Some x) h = (ap (λ z. is_same r z (import_of r q.by)) (sym is) ∙ others o q.by d all.0, h)

  -- where no declaration of a name is explicit, there is none
  none-kept : (n : Name) (k : ℕ) (ps : List (Push D I)) → AllByRecursion Declares ps → explicit r n (of_name r n (enumerate_from k ps)) ≡ [] → of_name r n (enumerate_from k ps) ≡ []
  none-kept n k [] all e = refl
  none-kept n k (p ∷ ps) all e = by (same_name n p.name) e (none-kept n (k + 1) ps all.1)
    where
      rest : List (ℕ × Push D I)
      rest = of_name r n (enumerate_from (k + 1) ps)

      is-explicit : is_explicit r p ≡ true
      is-explicit = ap (λ o. not (is_glob r o)) all.0.2 ∙ ap not (explicit-own all.0.0 all.0.1)

      by : (a : Bool) → explicit r n (cond a ((k, p) ∷ rest) rest) ≡ [] → (explicit r n rest ≡ [] → rest ≡ []) → cond a ((k, p) ∷ rest) rest ≡ []
      by true h more = let there : cond (is_explicit r p) ((k, p) ∷ explicit r n rest) (explicit r n rest) ≡ (k, p) ∷ explicit r n rest = ap (λ b. cond b ((k, p) ∷ explicit r n rest) (explicit r n rest)) is-explicit in cc
      by false h more = more h

  -- what declarations bind to a name is bound, whatever is imported behind them
  pub keeps : (ps qs : List ScopePush) → AreDeclaring ps → AreImporting qs → (n : Name) (x : Item D I) → binding r (read ps) n ≡ Some x → binding r (read (ps ++ qs)) n ≡ Some x
  keeps ps qs declaring importing n x is =
      ap (λ l. binding r l n) (filter_map-append (push_in r item) ps qs)
      ∙ by (explicit r n (of_name r n (enumerate_from 0 (read ps)))) refl
    where
      all : AllByRecursion Declares (read ps)
      all = declares ps declaring

      some≢none : Some x ≡ None → ⊥
      some≢none e = absurd (true≢false (ap is_some e))

      by : (l : List (ℕ × Push D I)) → explicit r n (of_name r n (enumerate_from 0 (read ps))) ≡ l → binding r (read ps ++ read qs) n ≡ Some x
      by [] e =
          let kept = none-kept n 0 (read ps) all e in
          let none : binding r (read ps) n ≡ None = ap (λ l. item_of r (named r l)) kept in
          absurd (some≢none (sym is ∙ none))
      by (e ∷ es) h =
          let one = first-explicit r n Declares 0 (read ps) all e es h in
          ap (item_of r) (stays r n (read ps) (read qs) e es h (λ i s. none-by-declared i one.0 one.1 (sym one.2 ∙ s) qs importing n)) ∙ is

-- ---- In each namespace

module _ {D I : Type 0} (r : Reading D I) where
  abbrev ExplicitOwn : Type 0
  ExplicitOwn = (o : Option ImportOrExternCrate) → is_declaring o ≡ true → is_glob r (import_of r o) ≡ false

  abbrev Others : Type 0
  Others = (o q : Option ImportOrExternCrate) → is_declaring o ≡ true → is_importing q ≡ true → is_same r (import_of r o) (import_of r q) ≡ false

explicit-types : ExplicitOwn types_reading
explicit-types None d = refl
explicit-types (Some (wide.ExternCrate k)) d = refl
explicit-types (Some (wide.Import i)) d = absurd (true≢false (sym d))
explicit-types (Some (wide.Glob g)) d = absurd (true≢false (sym d))

explicit-values : ExplicitOwn values_reading
explicit-values None d = refl
explicit-values (Some (wide.ExternCrate k)) d = refl
explicit-values (Some (wide.Import i)) d = absurd (true≢false (sym d))
explicit-values (Some (wide.Glob g)) d = absurd (true≢false (sym d))

explicit-macros : ExplicitOwn macros_reading
explicit-macros None d = refl
explicit-macros (Some (wide.ExternCrate k)) d = refl
explicit-macros (Some (wide.Import i)) d = absurd (true≢false (sym d))
explicit-macros (Some (wide.Glob g)) d = absurd (true≢false (sym d))

others-types : Others types_reading
others-types None q d e = refl
others-types (Some (wide.ExternCrate k)) None d e = refl
others-types (Some (wide.ExternCrate k)) (Some (wide.Import i)) d e = refl
others-types (Some (wide.ExternCrate k)) (Some (wide.Glob g)) d e = refl
others-types (Some (wide.ExternCrate k)) (Some (wide.ExternCrate l)) d e = absurd (true≢false (sym e))
others-types (Some (wide.Import i)) q d e = absurd (true≢false (sym d))
others-types (Some (wide.Glob g)) q d e = absurd (true≢false (sym d))

others-values : Others values_reading
others-values None q d e = refl
others-values (Some (wide.ExternCrate k)) q d e = refl
others-values (Some (wide.Import i)) q d e = absurd (true≢false (sym d))
others-values (Some (wide.Glob g)) q d e = absurd (true≢false (sym d))

others-macros : Others macros_reading
others-macros None q d e = refl
others-macros (Some (wide.ExternCrate k)) None d e = refl
others-macros (Some (wide.ExternCrate k)) (Some (wide.Import i)) d e = refl
others-macros (Some (wide.ExternCrate k)) (Some (wide.Glob g)) d e = refl
others-macros (Some (wide.ExternCrate k)) (Some (wide.ExternCrate l)) d e = absurd (true≢false (sym e))
others-macros (Some (wide.Import i)) q d e = absurd (true≢false (sym d))
others-macros (Some (wide.Glob g)) q d e = absurd (true≢false (sym d))

pub scope-keeps : (s : Scope) (g : Globs) (m : ModuleId) (ps qs : List ScopePush) → Shows s g m (ps ++ qs) → AreDeclaring ps → AreImporting qs → (n : Name) → KeepsIn s ps n
scope-keeps s g m ps qs shows declaring importing n = record {
  types = λ x is. shows.types.bindings n ∙ keeps types_reading (λ y. y.types) explicit-types others-types ps qs declaring importing n x is;
  values = λ x is. shows.values.bindings n ∙ keeps values_reading (λ y. y.values) explicit-values others-values ps qs declaring importing n x is;
  macros = λ x is. shows.macros.bindings n ∙ keeps macros_reading (λ y. y.macros) explicit-macros others-macros ps qs declaring importing n x is;
}

-- A push makes a scope show one push more.
use Rattle.std.proofs.Common.{◌≡◌, Bool, true, false, cond, not, ◌&&◌, ◌||◌, List, [], ◌∷◌, ◌++◌, append-nil, Option, None, Some, refl, sym, ap, subst, ◌∙◌}
use Rattle.std.specs.Option.{option_map, option_map_or}
use Rattle.std.specs.List.{list_any, filter_map}
use Rattle.std.specs.Cmp.Lexicographic.{nat_list_eq_equiv}
use Rattle.std.proofs.lemmas.Slice.Eq.{bytes_eq-Decides}
use Rattle.std.proofs.lemmas.List.Elements.{filter_map-append}
use Rattle.std.proofs.lemmas.List.Folds.{list_any-append}
use Rattle.indexmap.specs.IndexSet.{insert_key}
use Rattle.dm_base.specs.Names.{Name, same_name}
use Rattle.dm_base.specs.Tree.{same_module}
use Rattle.dm_base.specs.declared.ids.ModuleId.{ModuleId}
use Rattle.dm_base.specs.declared.per_ns.Item.{Item}
use Rattle.dm_base.specs.declared.per_ns.PerNs.{PerNs}
use Rattle.dm_base.specs.declared.imports.ImportOrExternCrate.{ImportOrExternCrate}
use Rattle.dm_scope.specs.Shadowing.{Reading, import_of}
use Rattle.dm_scope.specs.Bindings.{Bound, is_effective_at, bound_after, flags_after}
use Rattle.dm_scope.specs.Flags.{Flags, Globs, has_flag, no_flags, no_globs}
use Rattle.dm_base.specs.PerNs.{is_empty}
use Rattle.dm_scope.specs.Push.{types_reading, values_reading, macros_reading, unresolved_after, scope_after, globs_after, push_answer}
use Rattle.dm_scope.specs.Pushes.{Push, is_effective, ShowsIn}
use Rattle.dm_scope.specs.Scope.{Scope, no_scope}
use Rattle.dm_scope.specs.Shows.{ScopePush, push_in, pushes_in, is_effective_in, has_empty_push, is_answered, Shows}
use Rattle.dm_scope.proofs.BindingPushLemmas.{ShowsIn-after, is_effective-after}
use Rattle.dm_scope.specs.FlagLaws.{has_flag-elsewhere}
use Rattle.dm_scope.proofs.PushLemmas.{IsReading}
use Rattle.dm_scope.proofs.ReadingLemmas.{types_lawful, values_lawful, macros_lawful}
use Rattle.dm_scope.proofs.ShowLemmas.{ShowsIn-none}

module _ {D I : Type 0} (r : Reading D I) (law : IsReading r) (s : Bound D I) (f : Flags) (m : ModuleId) where
  module _ (of : PerNs → Option (Item D I)) (ps : List ScopePush) (shows : ShowsIn r s (has_flag f m) (pushes_in r of ps)) (p : ScopePush) where
    pub ShowsIn-pushes_in : ShowsIn r (bound_after r s f m p.name (of p.res) p.by) (has_flag (flags_after r s f m p.name (of p.res) p.by) m) (pushes_in r of (ps ++ p ∷ []))
    ShowsIn-pushes_in = subst (λ qs. ShowsIn r (bound_after r s f m p.name (of p.res) p.by) (has_flag (flags_after r s f m p.name (of p.res) p.by) m) qs) (sym (filter_map-append (push_in r of) ps (p ∷ []))) (at (of p.res))
      where
        at : (o : Option (Item D I)) → ShowsIn r (bound_after r s f m p.name o p.by) (has_flag (flags_after r s f m p.name o p.by) m)
            (pushes_in r of ps ++ filter_map (λ (q : ScopePush). option_map (λ x. record { name = p.name; item = x; by = import_of r p.by }) o) (p ∷ []))
        at None = subst (λ qs. ShowsIn r s (has_flag f m) qs) (sym (append-nil (pushes_in r of ps))) shows
        at (Some x) = ShowsIn-after r law s f m (pushes_in r of ps) shows p.name x p.by

    pub is_effective-pushes_in : is_effective_at r s f m p.name (of p.res) p.by ≡ is_effective_in r of ps p
    is_effective-pushes_in = at (of p.res)
      where
        at : (o : Option (Item D I)) → is_effective_at r s f m p.name o p.by ≡ option_map_or (is_effective r (pushes_in r of ps)) (option_map (λ x. record { name = p.name; item = x; by = import_of r p.by }) o) false
        at None = refl
        at (Some x) = is_effective-after r law s f m (pushes_in r of ps) shows p.name x p.by

-- flags of another module are read as before
module _ {D I : Type 0} (r : Reading D I) (s : Bound D I) (f : Flags) (m : ModuleId) where
  module _ {E J : Type 0} (q : Reading E J) (t : Bound E J) (k : ModuleId) (ps : List (Push E J)) (apart : same_module m k ≡ false) (shows : ShowsIn q t (has_flag f k) ps) where
    pub ShowsIn-elsewhere : (name : Name) (item : Option (Item D I)) (by : Option ImportOrExternCrate) → ShowsIn q t (has_flag (flags_after r s f m name item by) k) ps
    ShowsIn-elsewhere name item by = record {
      bindings = shows.bindings;
      records = shows.records;
      flags = λ n. has_flag-elsewhere r f (is_effective_at r s f m name item by) m name (import_of r by) k n apart ∙ shows.flags n;
    }

-- which names stand among others after one is put there
pub list_any-insert_key : (ks : List Name) (name n : Name) → list_any (same_name n) (insert_key same_name ks name) ≡ cond (same_name name n) true (list_any (same_name n) ks)
list_any-insert_key ks name n = by (list_any (same_name name) ks) refl (same_name name n) refl
  where
    last : (a c : Bool) → same_name n name ≡ c → (a || (c || false)) ≡ cond c true a
    last true true e = refl
    last true false e = refl
    last false true e = refl
    last false false e = refl

    by : (a : Bool) → list_any (same_name name) ks ≡ a → (c : Bool) → same_name name n ≡ c → list_any (same_name n) (cond a ks (ks ++ name ∷ [])) ≡ cond c true (list_any (same_name n) ks)
    by true p true q = ap (λ x. list_any (same_name x) ks) (sym ((bytes_eq-Decides name n).0 q)) ∙ p
    by true p false q = refl
    by false p c q = list_any-append (same_name n) ks (name ∷ []) ∙ ap (λ x. list_any (same_name n) ks || (x || false)) (nat_list_eq_equiv.symm n name ∙ q) ∙ last (list_any (same_name n) ks) c (nat_list_eq_equiv.symm n name ∙ q)

-- the unresolved names after a push
unresolved-push : (ns : List Name) (ps : List ScopePush) → ((n : Name) → list_any (same_name n) ns ≡ has_empty_push ps n) → (p : ScopePush) (n : Name)
    → list_any (same_name n) (unresolved_after ns p.name p.res) ≡ has_empty_push (ps ++ p ∷ []) n
unresolved-push ns ps h p n = at (is_empty p.res) ∙ ap (λ b. b || ((is_empty p.res && same_name n p.name) || false)) (h n) ∙ sym (list_any-append (λ q. is_empty q.res && same_name n q.name) ps (p ∷ []))
  where
    or-nil : (a : Bool) → a ≡ (a || (false || false))
    or-nil true = refl
    or-nil false = refl

    turn : (c a : Bool) → same_name p.name n ≡ c → cond c true a ≡ (a || (same_name n p.name || false))
    turn true true e = refl
    turn true false e = sym (ap (λ b. b || false) (nat_list_eq_equiv.symm n p.name) ∙ ap (λ b. b || false) e)
    turn false true e = refl
    turn false false e = sym (ap (λ b. b || false) (nat_list_eq_equiv.symm n p.name) ∙ ap (λ b. b || false) e)

    at : (e : Bool) → list_any (same_name n) (cond e (insert_key same_name ns p.name) ns) ≡ (list_any (same_name n) ns || ((e && same_name n p.name) || false))
    at true = list_any-insert_key ns p.name n ∙ turn (same_name p.name n) (list_any (same_name n) ns) refl
    at false = or-nil (list_any (same_name n) ns)

module _ (s : Scope) (g : Globs) (m : ModuleId) (ps : List ScopePush) (shows : Shows s g m ps) (p : ScopePush) where
  -- the scope and the table after a push show the list with that push
  pub Shows-after : Shows (scope_after s g m p.name p.res p.by) (globs_after s g m p.name p.res p.by) m (ps ++ p ∷ [])
  Shows-after = record {
    types = ShowsIn-pushes_in types_reading types_lawful s.types g.types m (λ x. x.types) ps shows.types p;
    values = ShowsIn-pushes_in values_reading values_lawful s.values g.values m (λ x. x.values) ps shows.values p;
    macros = ShowsIn-pushes_in macros_reading macros_lawful s.macros g.macros m (λ x. x.macros) ps shows.macros p;
    unresolved = unresolved-push s.unresolved ps shows.unresolved p;
  }

  -- and the push answers as the list says
  pub push_answer-is_answered : push_answer s g m p.name p.res p.by ≡ is_answered ps p
  push_answer-is_answered = λ i.
      is_effective-pushes_in types_reading types_lawful s.types g.types m (λ x. x.types) ps shows.types p i
      || (is_effective-pushes_in values_reading values_lawful s.values g.values m (λ x. x.values) ps shows.values p i
      || (is_effective-pushes_in macros_reading macros_lawful s.macros g.macros m (λ x. x.macros) ps shows.macros p i
      || (is_empty p.res && not (shows.unresolved p.name i))))

-- a scope under another module shows what it showed
pub Shows-elsewhere : (s t : Scope) (g : Globs) (m k : ModuleId) (ps : List ScopePush) → same_module m k ≡ false → Shows t g k ps → (p : ScopePush) → Shows t (globs_after s g m p.name p.res p.by) k ps
Shows-elsewhere s t g m k ps apart shows p = record {
  types = ShowsIn-elsewhere types_reading s.types g.types m types_reading t.types k _ apart shows.types p.name p.res.types p.by;
  values = ShowsIn-elsewhere values_reading s.values g.values m values_reading t.values k _ apart shows.values p.name p.res.values p.by;
  macros = ShowsIn-elsewhere macros_reading s.macros g.macros m macros_reading t.macros k _ apart shows.macros p.name p.res.macros p.by;
  unresolved = shows.unresolved;
}

-- a fresh scope and a new table show the empty list
pub Shows-none : (m : ModuleId) → Shows no_scope no_globs m []
Shows-none m = record {
  types = ShowsIn-none types_reading types_lawful (has_flag no_flags m) (λ n. refl);
  values = ShowsIn-none values_reading values_lawful (has_flag no_flags m) (λ n. refl);
  macros = ShowsIn-none macros_reading macros_lawful (has_flag no_flags m) (λ n. refl);
  unresolved = λ n. refl;
}

-- What one push of a scope leaves of the others, as a worklist of imports needs it.
use Rattle.std.proofs.Common.{◌≡◌, ◌∙◌, Bool, true, false, cond, not, ◌&&◌, ◌||◌, ◌++◌, ◌∷◌, [], List, Option, None, Some, refl, sym, ap, true≢false}
use Rattle.std.specs.List.{list_any}
use Rattle.std.proofs.lemmas.Bool.{or_parts, or_from}
use Rattle.std.specs.Cmp.Lexicographic.{nat_list_eq_equiv}
use Rattle.indexmap.specs.IndexSet.{insert_key}
use Rattle.dm_base.specs.Names.{Name, same_name}
use Rattle.dm_base.specs.declared.ids.ModuleId.{ModuleId}
use Rattle.dm_base.specs.declared.imports.ImportOrExternCrate.{ImportOrExternCrate}
use Rattle.dm_base.specs.declared.imports.ImportOrExternCrate.TheVariants as wide
use Rattle.dm_base.specs.PerNs.{is_empty}
use Rattle.dm_base.specs.Tree.{same_module}
use Rattle.dm_base.specs.declared.per_ns.PerNs.{PerNs}
use Rattle.dm_scope.specs.Shadowing.{import_of, is_glob, is_same}
use Rattle.dm_scope.specs.Bindings.{is_effective_at}
use Rattle.dm_scope.specs.Flags.{Globs}
use Rattle.dm_scope.specs.Push.{types_reading, values_reading, macros_reading, unresolved_after, is_new_unresolved, scope_after, globs_after}
use Rattle.dm_scope.specs.PushLaw.{PushLaw, have_one_import, is_named, itself, would_write}
use Rattle.dm_scope.specs.Scope.{Scope}
use Rattle.dm_scope.specs.Shows.{ScopePush}
use Rattle.dm_scope.proofs.ClosedLemmas.{list_any-insert_key}
use Rattle.dm_scope.proofs.ReadingLemmas.{types_lawful, values_lawful, macros_lawful}
use Rattle.dm_scope.proofs.RestLemmas.{idle-bound, idle-flags, writes-again, writes-rests, writes-elsewhere}

-- a named import is no glob, as each namespace reads it
no_glob : (by : Option ImportOrExternCrate) → is_named by ≡ true → is_glob types_reading by ≡ false
no_glob None h = refl
no_glob (Some (wide.Glob i)) h = absurd (true≢false (sym h))
no_glob (Some (wide.Import i)) h = refl
no_glob (Some (wide.ExternCrate k)) h = refl

no_value_glob : (by : Option ImportOrExternCrate) → is_named by ≡ true → is_glob values_reading (import_of values_reading by) ≡ false
no_value_glob None h = refl
no_value_glob (Some (wide.Glob i)) h = absurd (true≢false (sym h))
no_value_glob (Some (wide.Import i)) h = refl
no_value_glob (Some (wide.ExternCrate k)) h = refl

-- imports that differ differ as values read them
values_differ : (by to : Option ImportOrExternCrate) → is_same types_reading by to ≡ false → is_same values_reading (import_of values_reading by) (import_of values_reading to) ≡ false
values_differ None to h = refl
values_differ (Some (wide.ExternCrate k)) to h = refl
values_differ (Some (wide.Glob i)) None h = refl
values_differ (Some (wide.Glob i)) (Some (wide.Glob j)) h = h
values_differ (Some (wide.Glob i)) (Some (wide.Import j)) h = refl
values_differ (Some (wide.Glob i)) (Some (wide.ExternCrate k)) h = refl
values_differ (Some (wide.Import i)) None h = refl
values_differ (Some (wide.Import i)) (Some (wide.Glob j)) h = refl
values_differ (Some (wide.Import i)) (Some (wide.Import j)) h = h
values_differ (Some (wide.Import i)) (Some (wide.ExternCrate k)) h = refl

-- the unresolved names: an empty push whose name stands leaves them, stands after it, and stands after any other
idle-unresolved : (ns : List Name) (n : Name) (x : PerNs) → is_new_unresolved ns n x ≡ false → unresolved_after ns n x ≡ ns
idle-unresolved ns n x = by (is_empty x) (list_any (same_name n) ns) refl
  where
    by : (e a : Bool) → list_any (same_name n) ns ≡ a → (e && not a) ≡ false → cond e (insert_key same_name ns n) ns ≡ ns
    by true true is h = ap (λ b. cond b ns (ns ++ n ∷ [])) is
    by true false is h = absurd (true≢false h)
    by false a is h = refl

again-unresolved : (ns : List Name) (n : Name) (x : PerNs) → is_new_unresolved (unresolved_after ns n x) n x ≡ false
again-unresolved ns n x = by (is_empty x)
  where
    by : (e : Bool) → (e && not (list_any (same_name n) (cond e (insert_key same_name ns n) ns))) ≡ false
    by true = ap not (list_any-insert_key ns n n ∙ ap (λ b. cond b true (list_any (same_name n) ns)) (nat_list_eq_equiv.refl n))
    by false = refl

rests-unresolved : (ns : List Name) (n name : Name) (x y : PerNs) → is_new_unresolved ns n x ≡ false → is_new_unresolved (unresolved_after ns name y) n x ≡ false
rests-unresolved ns n name x y = by (is_empty x) (list_any (same_name n) ns) refl
  where
    more : (b a : Bool) → list_any (same_name n) ns ≡ a → a ≡ true → cond b true (list_any (same_name n) ns) ≡ true
    more true a is h = refl
    more false a is h = is ∙ h

    stays : (f : Bool) → list_any (same_name n) ns ≡ true → list_any (same_name n) (cond f (insert_key same_name ns name) ns) ≡ true
    stays true h = list_any-insert_key ns name n ∙ more (same_name name n) true h refl
    stays false h = h

    by : (e a : Bool) → list_any (same_name n) ns ≡ a → (e && not a) ≡ false → (e && not (list_any (same_name n) (unresolved_after ns name y))) ≡ false
    by true true is h = ap not (stays (is_empty y) is)
    by true false is h = absurd (true≢false h)
    by false a is h = refl

-- a push that answers false writes in no namespace, and adds no unresolved name
record Idle (s : Scope) (g : Globs) (m : ModuleId) (p : ScopePush) : Type 0 where
  types : is_effective_at types_reading s.types g.types m p.name p.res.types p.by ≡ false
  values : is_effective_at values_reading s.values g.values m p.name p.res.values p.by ≡ false
  macros : is_effective_at macros_reading s.macros g.macros m p.name p.res.macros p.by ≡ false
  unresolved : is_new_unresolved s.unresolved p.name p.res ≡ false

idle : (s : Scope) (g : Globs) (m : ModuleId) (p : ScopePush) → would_write s g m p ≡ false → Idle s g m p
idle s g m p h =
    let first = or_parts _ _ h in
    let second = or_parts _ _ first.1 in
    let third = or_parts _ _ second.1 in
    record { types = first.0; values = second.0; macros = third.0; unresolved = third.1 }

from-idle : (s : Scope) (g : Globs) (m : ModuleId) (p : ScopePush) → Idle s g m p → would_write s g m p ≡ false
from-idle s g m p h = or_from _ _ h.types (or_from _ _ h.values (or_from _ _ h.macros h.unresolved))

module _ (s : Scope) (g : Globs) (m : ModuleId) (p : ScopePush) where
  idle-scope : Idle s g m p → scope_after s g m p.name p.res p.by ≡ s
  idle-scope h = λ i. record s {
    types = idle-bound types_reading s.types g.types m p.name p.res.types p.by h.types i;
    values = idle-bound values_reading s.values g.values m p.name p.res.values p.by h.values i;
    macros = idle-bound macros_reading s.macros g.macros m p.name p.res.macros p.by h.macros i;
    unresolved = idle-unresolved s.unresolved p.name p.res h.unresolved i;
  }

  idle-globs : Idle s g m p → globs_after s g m p.name p.res p.by ≡ g
  idle-globs h = λ i. record {
    types = idle-flags types_reading s.types g.types m p.name p.res.types p.by h.types i;
    values = idle-flags values_reading s.values g.values m p.name p.res.values p.by h.values i;
    macros = idle-flags macros_reading s.macros g.macros m p.name p.res.macros p.by h.macros i;
  }

  answers-again : Idle (scope_after s g m p.name p.res p.by) (globs_after s g m p.name p.res p.by) m p
  answers-again = record {
    types = writes-again types_reading types_lawful s.types g.types m p.name p.res.types p.by;
    values = writes-again values_reading values_lawful s.values g.values m p.name p.res.values p.by;
    macros = writes-again macros_reading macros_lawful s.macros g.macros m p.name p.res.macros p.by;
    unresolved = again-unresolved s.unresolved p.name p.res;
  }

  answers-rest : (k : ModuleId) (q : ScopePush) → is_named q.by ≡ true → have_one_import q p ≡ false → Idle s g k q → Idle (scope_after s g m p.name p.res p.by) (globs_after s g m p.name p.res p.by) k q
  answers-rest k q named differ h = record {
    types = writes-rests types_reading types_lawful s.types g.types k m q.name p.name q.res.types p.res.types q.by p.by (no_type_glob q.by named) (types_differ q.by p.by differ) h.types;
    values = writes-rests values_reading values_lawful s.values g.values k m q.name p.name q.res.values p.res.values q.by p.by (no_value_glob q.by named) (values_differ q.by p.by differ) h.values;
    macros = writes-rests macros_reading macros_lawful s.macros g.macros k m q.name p.name q.res.macros p.res.macros q.by p.by (no_type_glob q.by named) (types_differ q.by p.by differ) h.macros;
    unresolved = rests-unresolved s.unresolved q.name p.name q.res p.res h.unresolved;
  }
    where
      no_type_glob : (by : Option ImportOrExternCrate) → is_named by ≡ true → is_glob types_reading (import_of types_reading by) ≡ false
      no_type_glob None h = refl
      no_type_glob (Some i) h = no_glob (Some i) h

      types_differ : (by to : Option ImportOrExternCrate) → is_same types_reading by to ≡ false → is_same types_reading (import_of types_reading by) (import_of types_reading to) ≡ false
      types_differ None to h = refl
      types_differ (Some i) None h = refl
      types_differ (Some i) (Some j) h = h

  answers-elsewhere : (u : Scope) (k : ModuleId) (q : ScopePush) → same_module m k ≡ false → would_write u (globs_after s g m p.name p.res p.by) k q ≡ would_write u g k q
  answers-elsewhere u k q apart = λ i.
      writes-elsewhere types_reading types_reading u.types s.types g.types m k p.name q.name p.res.types q.res.types p.by q.by apart i
      || (writes-elsewhere values_reading values_reading u.values s.values g.values m k p.name q.name p.res.values q.res.values p.by q.by apart i
      || (writes-elsewhere macros_reading macros_reading u.macros s.macros g.macros m k p.name q.name p.res.macros q.res.macros p.by q.by apart i
      || is_new_unresolved u.unresolved q.name q.res))

  -- the law of a push into a scope
  pub push_law : PushLaw itself s g (scope_after s g m p.name p.res p.by) (globs_after s g m p.name p.res p.by) m p
  push_law = record {
    idle = λ h. let none = idle s g m p h in (idle-scope none, idle-globs none);
    again = from-idle _ _ m p answers-again;
    rests = λ k q named differ h. from-idle _ _ k q (answers-rest k q named differ (idle s g k q h));
    elsewhere = answers-elsewhere;
  }

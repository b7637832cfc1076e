-- Changes of a world that push no name: a scope answers to each push as before, and its unnamed traits stay.
use Rattle.std.proofs.Common.{◌≡◌, ◌∙◌, ◌||◌, Bool, true, false, cond, List, [], ◌∷◌, Option, None, Some, ap, refl, subst, sym, map}
use Rattle.std.specs.List.{list_any}
use Rattle.std.specs.Option.{option_map_or}
use Rattle.std.proofs.lemmas.Bool.{or_left}
use Rattle.std.proofs.lemmas.List.Folds.{list_any-append}
use Rattle.dm_base.specs.Names.{Name, find_name, same_name}
use Rattle.dm_base.specs.contracts.value_eq.ModuleIdValueEq.TheImpl.Laws as module_value
use Rattle.dm_base.specs.declared.ids.ModuleId.{ModuleId}
use Rattle.dm_base.specs.declared.ids.TraitId.{TraitId}
use Rattle.dm_base.specs.declared.imports.ImportId.{ImportId}
use Rattle.dm_base.specs.declared.imports.ImportOrExternCrate.{ImportOrExternCrate}
use Rattle.dm_base.specs.declared.per_ns.Item.{Item}
use Rattle.dm_base.specs.declared.per_ns.PerNs.{PerNs}
use Rattle.dm_base.specs.declared.visibility.Visibility.{Visibility}
use Rattle.dm_base.specs.Tree.{same_module}
use Rattle.dm_maps.specs.Holding.{vis_holds}
use Rattle.dm_scope.specs.Shadowing.{Reading, import_of, writes}
use Rattle.dm_scope.specs.Bindings.{Bound, is_effective_at}
use Rattle.dm_scope.specs.Changes.{change_item, with_vis}
use Rattle.dm_scope.specs.Flags.{Flags, Globs, has_flag}
use Rattle.dm_scope.specs.Push.{is_new_unresolved, macros_reading, push_answer, types_reading, values_reading}
use Rattle.dm_scope.specs.Scope.{Scope}
use Rattle.dm_maps.specs.Added.{IsGrown, IsScoped}
use Rattle.dm_maps.specs.Cut.{cut}
use Rattle.dm_maps.specs.GoesOn.{HasTraitMore, StaysBeside, and_trait, seen_macro, seen_type, seen_value}
use Rattle.dm_maps.specs.Known.{KnowsAll}
use Rattle.dm_maps.specs.Stays.{StaysKnown}
use Rattle.dm_maps.specs.World.{World, scope_of}
use Rattle.dm_retry.specs.Known.{parts}
use Rattle.dm_retry.specs.Kinds.{is_unnamed}
use Rattle.dm_retry.specs.Rounds.{Pending, State, answered, awoken, would_write, by_import, to_push}
use Rattle.dm_retry.specs.Settled.{IsSettled}
use Rattle.dm_retry.specs.Unnamed.{is_new_trait, trait_of, unnamed_answer}
use Rattle.dm_retry.proofs.AwakeLemmas.{woken}
use Rattle.dm_retry.proofs.TraitLemmas.{KeepsTraits, shown-again}
use Rattle.dm_retry.proofs.TryLemmas.{Alike, to_push-stays, still-rests}

-- a scope t that answers to each push of a name as s does, and has its unnamed traits, and maybe more
pub record Keeps (s t : Scope) : Type 0 where
  pub answers : (g : Globs) (m : ModuleId) (n : Name) (x : PerNs) (by : Option ImportOrExternCrate) → push_answer t g m n x by ≡ push_answer s g m n x by
  pub traits : KeepsTraits s t

keeps-same : (s t : Scope) → t ≡ s → Keeps s t
keeps-same s t e = record {
  answers = λ g m n x by. ap (λ (u : Scope). push_answer u g m n x by) e;
  traits = λ f h. ap (λ (u : Scope). list_any f u.unnamed_traits) e ∙ h;
}

-- ---- Another visibility

module _ {D I : Type 0} (r : Reading D I) (n : Name) (v : Visibility) where
  vis-writes : (es : List (Name × Item D I)) (name : Name) (flag : Bool) (item : Item D I) (by : Option I)
      → writes r (find_name name (change_item (λ x. record x { vis = v }) n es)) flag item by ≡ writes r (find_name name es) flag item by
  vis-writes [] name flag item by = refl
  vis-writes (e ∷ es) name flag item by = at (same_name n e.0) (vis-writes es name flag item by)
    where
      own : (c : Bool) → writes r (cond c (Some (record e.1 { vis = v })) (find_name name es)) flag item by ≡ writes r (cond c (Some e.1) (find_name name es)) flag item by
      own true = refl
      own false = refl

      next : (c : Bool) → writes r (find_name name (change_item (λ x. record x { vis = v }) n es)) flag item by ≡ writes r (find_name name es) flag item by
          → writes r (cond c (Some e.1) (find_name name (change_item (λ x. record x { vis = v }) n es))) flag item by ≡ writes r (cond c (Some e.1) (find_name name es)) flag item by
      next true rest = refl
      next false rest = rest

      at : (b : Bool) → writes r (find_name name (change_item (λ x. record x { vis = v }) n es)) flag item by ≡ writes r (find_name name es) flag item by
          → writes r (find_name name (cond b ((e.0, record e.1 { vis = v }) ∷ es) (e ∷ change_item (λ x. record x { vis = v }) n es))) flag item by ≡ writes r (find_name name (e ∷ es)) flag item by
      at true rest = own (same_name name e.0)
      at false rest = next (same_name name e.0) rest

  vis-effective : (s : Bound D I) (fs : Flags) (m : ModuleId) (name : Name) (x : Option (Item D I)) (by : Option ImportOrExternCrate)
      → is_effective_at r (with_vis n v s) fs m name x by ≡ is_effective_at r s fs m name x by
  vis-effective s fs m name None by = refl
  vis-effective s fs m name (Some item) by = vis-writes s.items name (has_flag fs m name) item (import_of r by)

module _ (s : Scope) (n : Name) (v : Visibility) where
  pub keeps-type : Keeps s (seen_type s n v)
  keeps-type = record {
    answers = λ g m name x by. ap (λ b. b || (is_effective_at values_reading s.values g.values m name x.values by || (is_effective_at macros_reading s.macros g.macros m name x.macros by || is_new_unresolved s.unresolved name x)))
        (vis-effective types_reading n v s.types g.types m name x.types by);
    traits = λ f h. h;
  }

  pub keeps-value : Keeps s (seen_value s n v)
  keeps-value = record {
    answers = λ g m name x by. ap (λ b. is_effective_at types_reading s.types g.types m name x.types by || (b || (is_effective_at macros_reading s.macros g.macros m name x.macros by || is_new_unresolved s.unresolved name x)))
        (vis-effective values_reading n v s.values g.values m name x.values by);
    traits = λ f h. h;
  }

  pub keeps-macro : Keeps s (seen_macro s n v)
  keeps-macro = record {
    answers = λ g m name x by. ap (λ b. is_effective_at types_reading s.types g.types m name x.types by || (is_effective_at values_reading s.values g.values m name x.values by || (b || is_new_unresolved s.unresolved name x)))
        (vis-effective macros_reading n v s.macros g.macros m name x.macros by);
    traits = λ f h. h;
  }

-- ---- An unnamed trait more

pub keeps-trait : (s : Scope) (t : TraitId) (v : Visibility) (i : Option ImportId) → Keeps s (and_trait s t v i)
keeps-trait s t v i = record {
  answers = λ g m n x by. refl;
  traits = λ f h. list_any-append f s.unnamed_traits ((t, v, i) ∷ []) ∙ or_left (list_any f s.unnamed_traits) _ h;
}

-- ---- A world of which one scope changes, or none

pub scoped-keeps : (w v : World) (m : ModuleId) (t : Scope) → IsScoped w v m t → Keeps (scope_of w m) t → (k : ModuleId) → Keeps (scope_of w k) (scope_of v k)
scoped-keeps w v m t scoped keeps k = by (same_module m k) refl
  where
    by : (b : Bool) → same_module m k ≡ b → Keeps (scope_of w k) (scope_of v k)
    by true e = subst (λ (j : ModuleId). Keeps (scope_of w j) (scope_of v j)) (module_value.same-law m k e) (subst (Keeps (scope_of w m)) (sym scoped.own) keeps)
    by false e = keeps-same (scope_of w k) (scope_of v k) (scoped.others k e)

pub grown-keeps : (w v : World) → IsGrown w v → (k : ModuleId) → Keeps (scope_of w k) (scope_of v k)
grown-keeps w v grown k = keeps-same (scope_of w k) (scope_of v k) (grown.scopes k)

-- ---- What becomes of imports

-- such a change of a world
pub record IsChanged (w v : World) : Type 0 where
  pub alike : Alike
  pub stays : StaysKnown w v
  pub scopes : (k : ModuleId) → Keeps (scope_of w k) (scope_of v k)
  pub none : cut v [] ≡ cut w []

pub change-rests : (w v : World) → IsChanged w v → (g : Globs) (q : Pending) → cut v q.path.segments ≡ cut w q.path.segments → would_write w g q ≡ false → would_write v g q ≡ false
change-rests w v change g q same none =
    still-rests w v change.alike change.stays change.none g g q same ((change.scopes q.origin).traits)
    (λ y idle. (change.scopes q.origin).answers g q.origin q.name y (by_import q) ∙ idle) none

module _ (s : State) (v : World) (before : IsSettled s) (change : IsChanged s.world v) where
  -- where it is under no name
  pub stay-settled : ((N : List Name) → cut v N ≡ cut s.world N) → IsSettled (record { world = v; globs = s.globs; pending = s.pending })
  stay-settled cuts = record {
    known = λ i p at. change.stays.all (parts p) (before.known i p at);
    single = before.single;
    settled = λ i p at none. change-rests s.world v change s.globs p (cuts p.path.segments) (before.settled i p at none);
  }

  -- and where it is under the name n
  pub wake-settled : (n : Name) → StaysBeside s.world v n → IsSettled (record { world = v; globs = s.globs; pending = map (awoken n) s.pending })
  wake-settled n cuts =
      woken s v s.globs n before (λ q. change.stays.all (parts q))
      (λ j q at other none. change-rests s.world v change s.globs q (cuts q.path.segments other) none)

-- ---- An import as `_` that found some items

-- whose trait is not new, if it has one
pub quiet : (w : World) (g : Globs) (p : Pending) (x : PerNs) → is_unnamed p.kind ≡ true → to_push w p ≡ Some x → unnamed_answer w p.origin p.visibility x ≡ false → would_write w g p ≡ false
quiet w g p x named is none =
    ap (answered w g p) is
    ∙ ap (λ b. cond b (unnamed_answer w p.origin p.visibility x) (push_answer (scope_of w p.origin) g p.origin p.name x (by_import p))) named
    ∙ none

-- whose trait was put among the unnamed ones
module _ (w v : World) (p : Pending) (x : PerNs) (t : TraitId) (alike : Alike) (stays : StaysKnown w v) (cuts : (N : List Name) → cut v N ≡ cut w N)
    (scoped : HasTraitMore w v p.origin t p.visibility (Some p.import)) where
  by-trait : IsChanged w v
  by-trait = record {
    alike = alike;
    stays = stays;
    scopes = scoped-keeps w v p.origin (and_trait (scope_of w p.origin) t p.visibility (Some p.import)) scoped (keeps-trait (scope_of w p.origin) t p.visibility (Some p.import));
    none = cuts [];
  }

  pub trait-others : (g : Globs) (q : Pending) → would_write w g q ≡ false → would_write v g q ≡ false
  trait-others g q none = change-rests w v by-trait g q (cuts q.path.segments) none

  pub trait-own : KnowsAll w (vis_holds p.visibility) → trait_of x ≡ Some t → (g : Globs) → is_unnamed p.kind ≡ true → to_push w p ≡ Some x → would_write v g p ≡ false
  trait-own seen is g named finds =
      let again = shown-again w v p.origin t p.visibility (Some p.import) (stays.all (vis_holds p.visibility) seen) scoped.own in
      quiet v g p x named (to_push-stays w v alike stays (cuts []) p (cuts p.path.segments) ∙ finds)
      (ap (λ o. option_map_or (λ t. is_new_trait v p.origin t p.visibility) o false) is ∙ again)

-- Lists of ways, while slots are made known and ways are added: what they have, and that they have all.
use Rattle.std.proofs.Common.{◌≡◌, ◌∙◌, ap, refl, subst, sym, true, false, true≢false, inl, inr, Bool, Option, None, Some, List, [], ◌∷◌, ◌++◌}
use Rattle.std.proofs.lemmas.List.Elements.{All-contains, All-push, Contains-append_left, Contains-push}
use Rattle.std.specs.List.{All, Contains, list_any}
use Rattle.std.specs.Option.{ForSome}
use Rattle.std.specs.Prelude.{is_some}
use Rattle.dm_base.specs.declared.ids.ModuleId.{ModuleId}
use Rattle.dm_base.specs.declared.per_ns.Namespace.{Namespace}
use Rattle.dm_base.specs.declared.per_ns.Namespace.TheVariants.{Types, Values, Macros}
use Rattle.dm_base.specs.Names.{Name, same_name}
use Rattle.dm_maps.specs.World.{scope_of}
use Rattle.dm_scope.specs.Sorted.{names_of}
use Rattle.dm_imports.specs.declared.meaning.Meaning.{Meaning}
use Rattle.dm_imports.specs.declared.named_import.NamedImport.{NamedImport}
use Rattle.dm_imports.specs.Grounding.{AreCovered, AreSettled, AreWays, HasMore, HasWaysOf, IsImportOf, IsImportSettled, IsSettled, IsWay, Way, has_slot, means, slots_of, way_of}
use Rattle.dm_imports.specs.Meanings.{is_declared}
use Rattle.dm_imports.specs.Paths.{DefMaps}
use Rattle.dm_imports.specs.Rules.{IsImportKnown, IsModule}
use Rattle.dm_imports.specs.Slots.{Slots}
use Rattle.dm_imports.proofs.ListLemmas.{name-absent, name-listed}
use Rattle.dm_imports.proofs.UnboundLemmas.{at-unbound}
use Rattle.dm_imports.proofs.WayLemmas.{IsGiven, declared-safe, given-more}

module _ (d : DefMaps) where
  pub more-none : (k : Slots Bool) (ws : List Way) → HasMore d k k ws ws
  more-none k ws = record { more = λ m n s h. h; kept = λ w h. h; ways = λ h. h; safe = λ h. h }

  pub more-then : (j k l : Slots Bool) (us vs ws : List Way) → HasMore d j k us vs → HasMore d k l vs ws → HasMore d j l us ws
  more-then j k l us vs ws one two = record {
    more = λ m n s h. two.more m n s (one.more m n s h);
    kept = λ w h. two.kept w (one.kept w h);
    ways = λ h. two.ways (one.ways h);
    safe = λ h. two.safe (one.safe h);
  }

  -- a way that was added
  pub more-added : (k : Slots Bool) (vs ws : List Way) (w : Way) → ws ≡ vs ++ w ∷ [] → IsWay d w → HasMore d k k vs ws
  more-added k vs ws w e is = record {
    more = λ m n s h. h;
    kept = λ v h. subst (λ (us : List Way). Contains us v) (sym e) (Contains-append_left vs (w ∷ []) v h);
    ways = λ h. subst (All (IsWay d)) (sym e) (All-push (IsWay d) vs w h is);
    safe = λ h. h;
  }

  -- a slot that its module declares, made known
  pub more-declared : (old new : Slots Bool) (ws : List Way) (w : Way) (x : Meaning) → IsGiven old new w → IsWay d w → means d w ≡ Some x → is_declared x ≡ true → HasMore d old new ws ws
  more-declared old new ws w x given is found declared = record {
    more = given-more old new w given;
    kept = λ v h. h;
    ways = λ h. h;
    safe = declared-safe d old new w x given is found declared;
  }

  -- what was settled is settled
  pub settled-more : (k l : Slots Bool) (vs ws : List Way) → HasMore d k l vs ws → (w : Way) → IsSettled (slots_of k) vs w → IsSettled (slots_of l) ws w
  settled-more k l vs ws more w h = elim h [
    | inl e ↦ inl (more.more w.home w.name w.namespace e)
    | inr e ↦ inr (more.kept w e)
  ]

  pub all-settled-more : (k l : Slots Bool) (vs ws : List Way) → HasMore d k l vs ws → (m : ModuleId) (n : Name) (i : Option NamedImport)
      → AreSettled d (slots_of k) vs m n i → AreSettled d (slots_of l) ws m n i
  all-settled-more k l vs ws more m n i all s some = settled-more k l vs ws more (way_of m n i s) (all s some)

  -- the ways of a name that were settled one after another
  pub three-settled : (j k l : Slots Bool) (us vs ws : List Way) (m : ModuleId) (n : Name) (i : Option NamedImport) → HasMore d j k us vs → HasMore d k l vs ws
      → (is_some (means d (way_of m n i Types)) ≡ true → IsSettled (slots_of j) us (way_of m n i Types))
      → (is_some (means d (way_of m n i Values)) ≡ true → IsSettled (slots_of k) vs (way_of m n i Values))
      → (is_some (means d (way_of m n i Macros)) ≡ true → IsSettled (slots_of l) ws (way_of m n i Macros))
      → AreSettled d (slots_of l) ws m n i
  three-settled j k l us vs ws m n i one two a b c Types some = settled-more k l vs ws two (way_of m n i Types) (settled-more j k us vs one (way_of m n i Types) (a some))
  three-settled j k l us vs ws m n i one two a b c Values some = settled-more k l vs ws two (way_of m n i Values) (b some)
  three-settled j k l us vs ws m n i one two a b c Macros some = c some

  -- a slot of a module may be derived by a declaration, or by globs
  pub name-ways : (m : ModuleId) → IsModule d m → (n : Name) → AreWays d m n None
  name-ways m is n s = record { home = is; import = λ i e. absurd (true≢false (sym (ap is_some e))) }

  -- and by an import of the slot
  pub import-ways : (i : NamedImport) → Contains d.imports i → IsImportKnown d i → AreWays d i.home i.name (Some i)
  import-ways i has known s = record { home = known.0; import = own }
    where
      own : ForSome (Some i) (IsImportOf d (way_of i.home i.name (Some i) s))
      own j e =
          let same : i ≡ j = cc in
          let its : IsImportOf d (way_of i.home i.name (Some i) s) i = record { listed = has; home = refl; name = refl } in
          subst (IsImportOf d (way_of i.home i.name (Some i) s)) same its

  -- where the ways of all imports, and of all names of all modules, are settled, all are
  pub ways-cover : (k : Slots Bool) (ws : List Way) → All (IsImportSettled d (slots_of k) ws) d.imports → ((m : ModuleId) → IsModule d m → HasWaysOf d (slots_of k) ws m)
      → AreCovered d (slots_of k) ws
  ways-cover k ws imports modules w is some = by w.import is.import
    where
      slot : (b : Bool) → list_any (same_name w.name) (names_of (scope_of d.world w.home)) ≡ b → IsSettled (slots_of k) ws (way_of w.home w.name None w.namespace)
      slot true e = modules w.home is.home w.name (name-listed w.name (names_of (scope_of d.world w.home)) e) w.namespace some
      slot false e = absurd (true≢false (sym some ∙ ap is_some (at-unbound d w.home w.name w.namespace (name-absent w.name (names_of (scope_of d.world w.home)) e))))

      by : (i : Option NamedImport) → ForSome i (IsImportOf d w) → IsSettled (slots_of k) ws (way_of w.home w.name i w.namespace)
      by None h = slot (list_any (same_name w.name) (names_of (scope_of d.world w.home))) refl
      by (Some i) h =
          let its = h i refl in
          let same : way_of i.home i.name (Some i) w.namespace ≡ way_of w.home w.name (Some i) w.namespace = λ j. way_of (its.home j) (its.name j) (Some i) w.namespace in
          let own = All-contains (IsImportSettled d (slots_of k) ws) d.imports i imports its.listed w.namespace in
          subst (λ (v : Way). is_some (means d v) ≡ true → IsSettled (slots_of k) ws v) same own some

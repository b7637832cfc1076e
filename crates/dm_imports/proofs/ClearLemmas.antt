-- What a path leads to by known slots it leads to by more, and it is the same.
use Rattle.std.proofs.Common.{◌≡◌, ◌∙◌, ap, cond, refl, sym, true, false, not, true≢false, Bool, Option, None, Some, List, [], ◌∷◌}
use Rattle.std.specs.Option.{option_and_then, option_map, option_or}
use Rattle.std.specs.Prelude.{slice_get}
use Rattle.dm_base.specs.declared.ids.ModuleId.{ModuleId}
use Rattle.dm_base.specs.declared.imports.ImportId.{ImportId}
use Rattle.dm_base.specs.declared.item_ids.MacroId.{MacroId}
use Rattle.dm_base.specs.declared.mod_path.PathKind.{PathKind}
use Rattle.dm_base.specs.declared.mod_path.PathKind.TheVariants as kind
use Rattle.dm_base.specs.declared.per_ns.Namespace.{Namespace}
use Rattle.dm_base.specs.declared.per_ns.Namespace.TheVariants.{Types, Values, Macros}
use Rattle.dm_base.specs.Names.{Name}
use Rattle.dm_base.specs.Path.{Path}
use Rattle.dm_base.specs.PerNs.{keep}
use Rattle.dm_base.specs.Tree.{crate_of, outer, sees}
use Rattle.dm_maps.specs.Readings.{prelude_of, root_of}
use Rattle.dm_maps.specs.Trees.{tree_of}
use Rattle.dm_maps.specs.World.{scope_of}
use Rattle.dm_scope.specs.Scope.{bound_in}
use Rattle.dm_imports.specs.declared.container.Container.{Container}
use Rattle.dm_imports.specs.declared.container.Container.TheVariants as container
use Rattle.dm_imports.specs.declared.meaning.Meaning.{Meaning}
use Rattle.dm_imports.specs.Grounded.{SlotSet, is_clear, knowing}
use Rattle.dm_imports.specs.Grounding.{IsMore}
use Rattle.dm_imports.specs.Meanings.{in_namespace}
use Rattle.dm_imports.specs.Paths.{Asking, DefMaps, around, around_bare, around_preluded, builtin_in, container_in, extern_crate_in, first, from_container, from_first, from_module, in_module, in_prelude, in_root, is_2015, is_by, is_by_glob, is_compilers, leads, marked, member, not_by_glob, path_meaning, plain, preluded, seen, shown, textual_in, through}

-- what is found clear is found again, and is the same
abbrev pub Same : Option Meaning → Option Meaning → Type 0
Same o p = is_clear o ≡ true → p ≡ o

-- so it is, and other than in marks the two never differ
abbrev pub Clearer : Option Meaning → Option Meaning → Type 0
Clearer o p = (option_map (marked true) o ≡ option_map (marked true) p) × Same o p

pub clearer-refl : (o : Option Meaning) → Clearer o o
clearer-refl o = (refl, λ h. refl)

clearer-if : (x y : Meaning) (a b : Bool) → a ≡ b → Clearer (Some x) (Some y) → Clearer (cond a (Some x) None) (cond b (Some y) None)
clearer-if x y true true e c = c
clearer-if x y true false e c = absurd (true≢false e)
clearer-if x y false true e c = absurd (true≢false (sym e))
clearer-if x y false false e c = clearer-refl None

-- what is kept by anything but marks
clearer-keep : (f : Meaning → Bool) → ((x : Meaning) → f (marked true x) ≡ f x) → (o p : Option Meaning) → Clearer o p → Clearer (keep f o) (keep f p)
clearer-keep f h None None c = c
clearer-keep f h None (Some y) c = let e = c.0 in cc
clearer-keep f h (Some x) None c = let e = c.0 in cc
clearer-keep f h (Some x) (Some y) c =
    let e = c.0 in
    let same : marked true x ≡ marked true y = cc in
    clearer-if x y (f x) (f y) (sym (h x) ∙ ap f same ∙ h y) c

clearer-or : (o p q r : Option Meaning) → Clearer o p → Clearer q r → Clearer (option_or o q) (option_or p r)
clearer-or None None q r c h = h
clearer-or None (Some y) q r c h = let e = c.0 in cc
clearer-or (Some x) None q r c h = let e = c.0 in cc
clearer-or (Some x) (Some y) q r c h = c

not-clear : {P : Type 0} → false ≡ true → P
not-clear e = absurd (true≢false (sym e))

-- what is clear leads on, to the same
pub led-same : (o p : Option Meaning) → Same o p → (f g : Option Container → Option Meaning) → f None ≡ None → ((c : Option Container) → Same (f c) (g c))
    → Same (f (option_and_then leads o)) (g (option_and_then leads p))
led-same None p c f g none h clear = not-clear (sym (ap is_clear none) ∙ clear)
led-same (Some x) p c f g none h clear = by x.is_ambiguous refl clear
  where
    by : (b : Bool) → x.is_ambiguous ≡ b → is_clear (f (cond b None (container_in x.def))) ≡ true → g (option_and_then leads p) ≡ f (cond b None (container_in x.def))
    by true e i = not-clear (sym (ap is_clear none) ∙ i)
    by false e i = ap (λ q. g (option_and_then leads q)) (c (ap not e)) ∙ ap (λ b. g (cond b None (container_in x.def))) e ∙ h (container_in x.def) i

on-some : (f g : Container → Option Meaning) → ((c : Container) → Same (f c) (g c)) → (o : Option Container) → Same (option_and_then f o) (option_and_then g o)
on-some f g h None = λ i. refl
on-some f g h (Some c) = h c

module _ (d : DefMaps) (k l : SlotSet) (more : IsMore k l) (home : ModuleId) (import : Option ImportId) (b c : ModuleId → Name → Namespace → Option Meaning)
    (below : (m : ModuleId) (n : Name) (s : Namespace) → Clearer (b m n s) (c m n s)) where
  abbrev one : Asking
  one = record { home = home; import = import; below = b }

  abbrev two : Asking
  two = record { home = home; import = import; below = c }

  shown-clearer : (m : ModuleId) (n : Name) (s : Namespace) → Clearer (shown (knowing d k) one m n s) (shown (knowing d l) two m n s)
  shown-clearer m n s = by (in_namespace s (bound_in (scope_of d.world m) n))
    where
      known : (x : Meaning) (v w : Bool) → (v ≡ true → w ≡ true) → Clearer (Some (marked (not v) x)) (Some (marked (not w) x))
      known x true w h = (refl, λ i. ap (λ u. Some (marked (not u) x)) (h refl))
      known x false w h = (refl, λ i. not-clear i)

      via : (x : Meaning) (p q : Bool) → Clearer (cond p (b m n s) (cond q (Some (marked (not (k m n s)) x)) None)) (cond p (c m n s) (cond q (Some (marked (not (l m n s)) x)) None))
      via x true q = below m n s
      via x false true = known x (k m n s) (l m n s) (more m n s)
      via x false false = clearer-refl None

      by : (o : Option Meaning) → Clearer (option_and_then (seen (knowing d k) one m n s) (option_map (marked (not (k m n s))) o)) (option_and_then (seen (knowing d l) two m n s) (option_map (marked (not (l m n s))) o))
      by None = clearer-refl None
      by (Some x) = via x (is_by import x.source) (sees (tree_of d.world) x.vis home)

  pub member-clearer : (v : Container) (n : Name) (s : Namespace) → Clearer (member (knowing d k) one v n s) (member (knowing d l) two v n s)
  member-clearer (container.Module m) n s = shown-clearer m n s
  member-clearer (container.Enum e) n s = clearer-refl (member (knowing d k) one (container.Enum e) n s)

  through-same : (v : Container) (n : Name) (rest : List Name) (s : Namespace) → Same (through (knowing d k) one v n rest s) (through (knowing d l) two v n rest s)
  through-same v n [] s = (member-clearer v n s).1
  through-same v n (next ∷ rest) s =
      led-same (member (knowing d k) one v n Types) (member (knowing d l) two v n Types) (member-clearer v n Types).1
      (option_and_then (λ x. through (knowing d k) one x next rest s)) (option_and_then (λ x. through (knowing d l) two x next rest s)) refl
      (on-some (λ x. through (knowing d k) one x next rest s) (λ x. through (knowing d l) two x next rest s) (λ x. through-same x next rest s))

  shown-in : (o : Option ModuleId) (n : Name) (s : Namespace) → Clearer (option_and_then (λ m. shown (knowing d k) one m n s) o) (option_and_then (λ m. shown (knowing d l) two m n s) o)
  shown-in None n s = clearer-refl None
  shown-in (Some m) n s = shown-clearer m n s

  preluded-clearer : (n : Name) (s : Namespace) → Clearer (preluded (knowing d k) home n s) (preluded (knowing d l) home n s)
  preluded-clearer n Types = clearer-refl (preluded (knowing d k) home n Types)
  preluded-clearer n Values = clearer-refl None
  preluded-clearer n Macros = clearer-refl (preluded (knowing d k) home n Macros)

  extern-clearer : (n : Name) (s : Namespace) → Clearer (extern_crate_in (knowing d k) one n s) (extern_crate_in (knowing d l) two n s)
  extern-clearer n Types = clearer-refl (extern_crate_in (knowing d k) one n Types)
  extern-clearer n Values = clearer-refl None
  extern-clearer n Macros = clearer-refl None

  textual-clearer : (t : Option MacroId) (n : Name) (s : Namespace) → Clearer (textual_in (knowing d k) one t n s) (textual_in (knowing d l) two t n s)
  textual-clearer t n Types = clearer-refl None
  textual-clearer t n Values = clearer-refl None
  textual-clearer t n Macros = clearer-refl (textual_in (knowing d k) one t n Macros)

  around-clearer : (n : Name) (s : Namespace) → Clearer (around (knowing d k) one n s) (around (knowing d l) two n s)
  around-clearer n s =
      by (d.is_bare home)
    where
      standard : Clearer (in_prelude (knowing d k) one n s) (in_prelude (knowing d l) two n s)
      standard = shown-in (prelude_of d.world ((tree_of d.world).map_of home)) n s

      by : (b : Bool) → Clearer (cond b (around_bare (knowing d k) one n s) (around_preluded (knowing d k) one n s))
          (cond b (around_bare (knowing d l) two n s) (around_preluded (knowing d l) two n s))
      by true =
          clearer-or (keep (is_compilers d.world) (in_prelude (knowing d k) one n s)) (keep (is_compilers d.world) (in_prelude (knowing d l) two n s))
          (builtin_in n s) (builtin_in n s)
          (clearer-keep (is_compilers d.world) (λ x. refl) (in_prelude (knowing d k) one n s) (in_prelude (knowing d l) two n s) standard)
          (clearer-refl (builtin_in n s))
      by false =
          clearer-or (preluded (knowing d k) home n s) (preluded (knowing d l) home n s) _ _ (preluded-clearer n s)
          (clearer-or (in_prelude (knowing d k) one n s) (in_prelude (knowing d l) two n s) (builtin_in n s) (builtin_in n s) standard (clearer-refl (builtin_in n s)))

  in_module-clearer : (n : Name) (s : Namespace) → Clearer (in_module (knowing d k) one n s) (in_module (knowing d l) two n s)
  in_module-clearer n s =
      let own = shown-clearer home n s in
      let p = shown (knowing d k) one home n s in
      let q = shown (knowing d l) two home n s in
      clearer-or (not_by_glob p) (not_by_glob q) _ _ (clearer-keep (λ x. not (is_by_glob x)) (λ x. refl) p q own)
      (clearer-or (around (knowing d k) one n s) (around (knowing d l) two n s) p q (around-clearer n s) own)

  in_root-clearer : (n : Name) (s : Namespace) → Clearer (in_root (knowing d k) one n s) (in_root (knowing d l) two n s)
  in_root-clearer n s = shown-in (root_of d.world (crate_of (tree_of d.world) home)) n s

  plain-clearer : (t : Option MacroId) (n : Name) (s : Namespace) → Clearer (plain (knowing d k) one t n s) (plain (knowing d l) two t n s)
  plain-clearer t n s =
      clearer-or (textual_in (knowing d k) one t n s) (textual_in (knowing d l) two t n s) (in_module (knowing d k) one n s) (in_module (knowing d l) two n s) (textual-clearer t n s) (in_module-clearer n s)

  first-clearer : (t : Option MacroId) (is_abs : Bool) (n : Name) (s : Namespace) → Clearer (first (knowing d k) one t is_abs n s) (first (knowing d l) two t is_abs n s)
  first-clearer t is_abs n s = by (is_2015 (knowing d k) one) is_abs
    where
      by : (p q : Bool) → Clearer (cond p (in_root (knowing d k) one n s) (cond q (extern_crate_in (knowing d k) one n s) (plain (knowing d k) one t n s)))
          (cond p (in_root (knowing d l) two n s) (cond q (extern_crate_in (knowing d l) two n s) (plain (knowing d l) two t n s)))
      by true q = in_root-clearer n s
      by false true = extern-clearer n s
      by false false = plain-clearer t n s

  from_container-same : (ns : List Name) (s : Namespace) (v : Container) → Same (from_container (knowing d k) one ns s v) (from_container (knowing d l) two ns s v)
  from_container-same [] s v = λ i. refl
  from_container-same (n ∷ rest) s v = through-same v n rest s

  from_module-same : (ns : List Name) (s : Namespace) (o : Option ModuleId) → Same (from_module (knowing d k) one ns s o) (from_module (knowing d l) two ns s o)
  from_module-same ns s None = λ i. refl
  from_module-same ns s (Some m) = from_container-same ns s (container.Module m)

  from_first-same : (t : Option MacroId) (is_abs : Bool) (ns : List Name) (s : Namespace) → Same (from_first (knowing d k) one t is_abs ns s) (from_first (knowing d l) two t is_abs ns s)
  from_first-same t is_abs [] s = by (is_2015 (knowing d k) one)
    where
      root : Option ModuleId
      root = root_of d.world (crate_of (tree_of d.world) home)

      by : (p : Bool) → Same (cond p (from_module (knowing d k) one [] s root) None) (cond p (from_module (knowing d l) two [] s root) None)
      by true = from_module-same [] s root
      by false = λ i. refl
  from_first-same t is_abs (n ∷ []) s = (first-clearer t is_abs n s).1
  from_first-same t is_abs (n ∷ next ∷ rest) s =
      led-same (first (knowing d k) one t is_abs n Types) (first (knowing d l) two t is_abs n Types) (first-clearer t is_abs n Types).1
      (option_and_then (λ x. through (knowing d k) one x next rest s)) (option_and_then (λ x. through (knowing d l) two x next rest s)) refl
      (on-some (λ x. through (knowing d k) one x next rest s) (λ x. through (knowing d l) two x next rest s) (λ x. through-same x next rest s))

  pub path-same : (t : Option MacroId) (p : Path) (s : Namespace) → Same (path_meaning (knowing d k) one t p s) (path_meaning (knowing d l) two t p s)
  path-same t p s = by p.kind p.segments
    where
      by : (v : PathKind) (ns : List Name) → Same (path_meaning (knowing d k) one t (record { kind = v; segments = ns }) s) (path_meaning (knowing d l) two t (record { kind = v; segments = ns }) s)
      by kind.Crate ns = from_module-same ns s (root_of d.world (crate_of (tree_of d.world) home))
      by (kind.DollarCrate v) ns = from_module-same ns s (root_of d.world v)
      by (kind.Super v) ns = from_module-same ns s (slice_get (outer (tree_of d.world) home) v)
      by kind.Abs ns = from_first-same t true ns s
      by kind.Plain ns = from_first-same t false ns s

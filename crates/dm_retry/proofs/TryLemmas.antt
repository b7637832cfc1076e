-- Tries of imports: one that resolves to nothing new changes nothing, and what a push of one import leaves of the
-- others.
use Rattle.std.proofs.Common.{◌≡◌, ◌∙◌, Bool, true, false, cond, List, [], Option, None, Some, ap, sym, refl, subst, slice_get}
use Rattle.std.specs.List.{list_any}
use Rattle.std.specs.Option.{option_map, option_map_or, option_and_then}
use Rattle.dm_base.specs.contracts.value_eq.ModuleIdValueEq.TheImpl.Laws as module_value
use Rattle.dm_base.specs.declared.ids.ModuleId.{ModuleId}
use Rattle.dm_base.specs.declared.imports.ImportId.{ImportId}
use Rattle.dm_base.specs.declared.imports.ImportOrExternCrate.{ImportOrExternCrate}
use Rattle.dm_base.specs.declared.imports.ImportOrExternCrate.TheVariants as wide
use Rattle.dm_base.specs.declared.mod_path.PathKind.{PathKind}
use Rattle.dm_base.specs.declared.per_ns.PerNs.{PerNs}
use Rattle.dm_base.specs.Names.{Name}
use Rattle.dm_base.specs.PerNs.{is_empty}
use Rattle.dm_base.specs.Tree.{same_module}
use Rattle.dm_def_map.specs.declared.modules.modes.BuiltinShadowMode.TheVariants as shadow
use Rattle.dm_def_map.specs.Maps.{LocalMap}
use Rattle.dm_scope.specs.Flags.{Globs}
use Rattle.dm_scope.specs.Shadowing.{is_same}
use Rattle.dm_scope.specs.Push.{globs_after, push_answer, scope_after, types_reading}
use Rattle.dm_scope.specs.PushLaw.{PushLaw}
use Rattle.dm_scope.specs.Scope.{Scope}
use Rattle.dm_scope.specs.Shows.{ScopePush, push_of}
use Rattle.dm_maps.specs.Cut.{among, cut, cut_local}
use Rattle.dm_maps.specs.ItemHomes.{homes_of}
use Rattle.dm_maps.specs.PushRes.{with_push}
use Rattle.dm_maps.specs.Stays.{StaysKnown}
use Rattle.dm_maps.specs.Trees.{tree_of}
use Rattle.dm_maps.specs.World.{World, scope_of, with_scope}
use Rattle.hir_def_map.specs.declared.path_resolution.result.ResolveMode.TheVariants as mode
use Rattle.hir_def_map.specs.Paths.{answer, asked}
use Rattle.dm_retry.specs.Kinds.{by_kind, if_any, is_unnamed}
use Rattle.dm_retry.specs.Rounds.{Pending, answered, would_write, resolved_items, by_import, to_push, given, globs_with, local_of, marked, meaning, world_after}
use Rattle.dm_retry.proofs.ScopeLemmas.{idle-scope, idle-globs}
use Rattle.dm_retry.specs.Unnamed.{unnamed_answer, with_unnamed}
use Rattle.dm_retry.proofs.TraitLemmas.{KeepsTraits, idle-unnamed, tree-same, unnamed-rests}
use Rattle.dm_retry.proofs.WorldLemmas.{scope-own}

-- ---- What is found is something

pub to_push-some : (w : World) (p : Pending) (x : PerNs) → to_push w p ≡ Some x → is_empty x ≡ false
unfolding to_push
to_push-some w p x is = of (resolved_items (meaning w p)) is
  where
    of : (o : Option PerNs) → option_and_then (given w p) o ≡ Some x → is_empty x ≡ false
    of None e = cc
    of (Some y) e = by (is_empty (by_kind (tree_of w) p.origin p.visibility p.kind y)) refl e
      where
        by : (b : Bool) → is_empty (by_kind (tree_of w) p.origin p.visibility p.kind y) ≡ b → cond b None (Some (by_kind (tree_of w) p.origin p.visibility p.kind y)) ≡ Some x → is_empty x ≡ false
        by true none e = cc
        by false some e = let same : by_kind (tree_of w) p.origin p.visibility p.kind y ≡ x = cc in ap is_empty (sym same) ∙ some

-- ---- A try that changes nothing

pub idle-push : (w : World) (g : Globs) (m : ModuleId) (n : Name) (x : PerNs) (by : Option ImportOrExternCrate) → is_empty x ≡ false → push_answer (scope_of w m) g m n x by ≡ false → with_push w g m n x by ≡ w
idle-push w g m n x by some none = ap (with_scope w m) (idle-scope (scope_of w m) g m n x by some none) ∙ scope-own w m

pub idle-world : (w : World) (g : Globs) (p : Pending) → would_write w g p ≡ false → world_after w g p (to_push w p) ≡ w
idle-world w g p none = by (to_push w p) refl none
  where
    by : (o : Option PerNs) → to_push w p ≡ o → answered w g p o ≡ false → world_after w g p o ≡ w
    by None is none = refl
    by (Some x) is none = by-kind (is_unnamed p.kind) none
      where
        by-kind : (b : Bool) → cond b (unnamed_answer w p.origin p.visibility x) (push_answer (scope_of w p.origin) g p.origin p.name x (by_import p)) ≡ false
            → cond b (with_unnamed w p.origin p.visibility p.import x) (with_push w g p.origin p.name x (by_import p)) ≡ w
        by-kind true none = idle-unnamed w p.origin p.visibility p.import x none
        by-kind false none = idle-push w g p.origin p.name x (by_import p) (to_push-some w p x is) none

pub idle-table : (w : World) (g : Globs) (p : Pending) → would_write w g p ≡ false → globs_with w g p (to_push w p) ≡ g
idle-table w g p none = by (to_push w p) none
  where
    by : (o : Option PerNs) → answered w g p o ≡ false → globs_with w g p o ≡ g
    by None none = refl
    by (Some x) none = by-kind (is_unnamed p.kind) none
      where
        by-kind : (b : Bool) → cond b (unnamed_answer w p.origin p.visibility x) (push_answer (scope_of w p.origin) g p.origin p.name x (by_import p)) ≡ false
            → cond b g (globs_after (scope_of w p.origin) g p.origin p.name x (by_import p)) ≡ g
        by-kind true none = refl
        by-kind false none = idle-globs (scope_of w p.origin) g p.origin p.name x (by_import p) none

-- marks are not read
pub would_write-marked : (w : World) (g : Globs) (d : Bool) (p : Pending) → would_write w g (marked d p) ≡ would_write w g p
unfolding to_push
would_write-marked w g d p = refl

-- ---- A push

-- worlds and local maps that have the same under the segments of an import's path answer it alike
abbrev pub Alike : Type 0
Alike = (w v : World) (L K : LocalMap) (m : ModuleId) (kind : PathKind) (S : List Name) → cut v S ≡ cut w S → cut_local K S ≡ cut_local L S
    → answer v K (asked m mode.Import shadow.Module None kind) S ≡ answer w L (asked m mode.Import shadow.Module None kind) S

module _ (w v : World) (alike : Alike) (stays : StaysKnown w v) (start : cut v [] ≡ cut w []) where
  local-stays : (k : ModuleId) → local_of v k ≡ local_of w k
  unfolding homes_of
  local-stays k =
      let places : v.places ≡ w.places = ap (λ (u : World). u.places) start in
      λ i. option_map_or (λ l. l) (option_and_then (λ k. slice_get (stays.locals i) k.0) (option_map (λ p. p.map.krate) (slice_get (places i) k.0))) []

  -- what an import finds where the world has under its segments what it had
  pub to_push-stays : (q : Pending) → cut v q.path.segments ≡ cut w q.path.segments → to_push v q ≡ to_push w q
  unfolding to_push
  to_push-stays q same =
      let S = q.path.segments in
      let means = alike w v (local_of w q.origin) (local_of v q.origin) q.origin q.path.kind S same (ap (λ L. cut_local L S) (local-stays q.origin)) in
      let tree = tree-same w v stays in
      λ i. option_and_then (λ x. if_any (by_kind (tree i) q.origin q.visibility q.kind x)) (resolved_items (means i))

  -- such an import that would bind nothing binds nothing, where its push would not write and unnamed traits are kept
  pub still-rests : (g h : Globs) (q : Pending) → cut v q.path.segments ≡ cut w q.path.segments → KeepsTraits (scope_of w q.origin) (scope_of v q.origin)
      → ((y : PerNs) → push_answer (scope_of w q.origin) g q.origin q.name y (by_import q) ≡ false → push_answer (scope_of v q.origin) h q.origin q.name y (by_import q) ≡ false)
      → would_write w g q ≡ false → would_write v h q ≡ false
  still-rests g h q same traits named none = ap (answered v h q) (to_push-stays q same) ∙ by-to_push (to_push w q) none
    where
      by-to_push : (o : Option PerNs) → answered w g q o ≡ false → answered v h q o ≡ false
      by-to_push None none = refl
      by-to_push (Some y) none = by-kind (is_unnamed q.kind) none
        where
          by-kind : (b : Bool) → cond b (unnamed_answer w q.origin q.visibility y) (push_answer (scope_of w q.origin) g q.origin q.name y (by_import q)) ≡ false
              → cond b (unnamed_answer v q.origin q.visibility y) (push_answer (scope_of v q.origin) h q.origin q.name y (by_import q)) ≡ false
          by-kind true none = unnamed-rests w v stays q.origin traits q.visibility y none
          by-kind false none = named y none

-- What a push into the module m leaves: the world v and the glob table h.
pub record IsPushed (w v : World) (g h : Globs) (m : ModuleId) (n : Name) (x : PerNs) (by : Option ImportOrExternCrate) : Type 0 where
  pub alike : Alike
  pub stays : StaysKnown w v
  pub traits : (k : ModuleId) → KeepsTraits (scope_of w k) (scope_of v k)
  pub law : PushLaw scope_of w g v h m (push_of n x by)
  pub cuts : (N : List Name) → among N n ≡ false → cut v N ≡ cut w N

-- a push keeps unnamed traits
pub push-traits : (w v : World) (g : Globs) (m : ModuleId) (n : Name) (x : PerNs) (by : Option ImportOrExternCrate) → scope_of v m ≡ scope_after (scope_of w m) g m n x by
    → ((k : ModuleId) → same_module m k ≡ false → scope_of v k ≡ scope_of w k) → (k : ModuleId) → KeepsTraits (scope_of w k) (scope_of v k)
push-traits w v g m n x by own others k = at (same_module m k) refl
  where
    like : (j : ModuleId) (t : Scope) → t.unnamed_traits ≡ (scope_of w j).unnamed_traits → scope_of v j ≡ t → KeepsTraits (scope_of w j) (scope_of v j)
    like j t traits is = λ f some. ap (λ (u : Scope). list_any f u.unnamed_traits) is ∙ ap (list_any f) traits ∙ some

    at : (b : Bool) → same_module m k ≡ b → KeepsTraits (scope_of w k) (scope_of v k)
    at true e = subst (λ (j : ModuleId). KeepsTraits (scope_of w j) (scope_of v j)) (module_value.same-law m k e) (like m (scope_after (scope_of w m) g m n x by) refl own)
    at false e = like k (scope_of w k) refl (others k e)

-- the same of a push whose module, name and import are those of p
pub pushed-by : (w v : World) (g h : Globs) (p : Pending) (x : PerNs) → Alike → StaysKnown w v → ((k : ModuleId) → KeepsTraits (scope_of w k) (scope_of v k))
    → (m : ModuleId) (n : Name) (i : ImportId) → m ≡ p.origin → n ≡ p.name → i ≡ p.import
    → PushLaw scope_of w g v h m (push_of n x (Some (wide.Import i))) → ((N : List Name) → among N n ≡ false → cut v N ≡ cut w N)
    → IsPushed w v g h p.origin p.name x (by_import p)
pushed-by w v g h p x alike stays traits m n i origin name import law cuts = record {
  alike = alike;
  stays = stays;
  traits = traits;
  law = subst (λ (q : ModuleId × ScopePush). PushLaw scope_of w g v h q.0 q.1) (λ k. (origin k, push_of (name k) x (Some (wide.Import (import k))))) law;
  cuts = λ N e. cuts N (ap (among N) name ∙ e);
}

module _ (w v : World) (g h : Globs) (m : ModuleId) (n : Name) (x : PerNs) (by : Option ImportOrExternCrate) (push : IsPushed w v g h m n x by) where
  -- another import that would bind nothing, and has no segment of the pushed name, binds nothing
  pub others-rest : (q : Pending) → is_same types_reading (by_import q) by ≡ false → among q.path.segments n ≡ false → would_write w g q ≡ false → would_write v h q ≡ false
  others-rest q differ other none =
      still-rests w v push.alike push.stays (push.cuts [] refl) g h q (push.cuts q.path.segments other) (push.traits q.origin)
      (λ y idle. push.law.rests q.origin (push_of q.name y (by_import q)) refl differ idle) none

-- and the import that was tried itself, if the name is none of its own segments
pub own-rests : (w v : World) (g h : Globs) (p : Pending) (x : PerNs) → IsPushed w v g h p.origin p.name x (by_import p) → is_unnamed p.kind ≡ false → to_push w p ≡ Some x
    → among p.path.segments p.name ≡ false → would_write v h p ≡ false
own-rests w v g h p x push named is other =
    ap (answered v h p) (to_push-stays w v push.alike push.stays (push.cuts [] refl) p (push.cuts p.path.segments other) ∙ is)
    ∙ ap (λ b. cond b (unnamed_answer v p.origin p.visibility x) (push_answer (scope_of v p.origin) h p.origin p.name x (by_import p))) named
    ∙ push.law.again

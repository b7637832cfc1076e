-- Def maps in which imports and globs were bound, step by step.
use Rattle.std.proofs.Common.{◌≡◌, ◌∙◌, inl, inr, Bool, true, false, cond, None, Some, List, [], ◌∷◌, ◌++◌, ap, refl, subst, sym}
use Rattle.std.specs.List.{cons_option, filter_map}
use Rattle.std.proofs.lemmas.List.{append-nil, append_assoc}
use Rattle.std.proofs.lemmas.List.Elements.{All-append, All-cons, All-nil, filter_map-append}
use Rattle.std.proofs.lemmas.List.Sums.{fold-append}
use Rattle.dm_base.specs.declared.ids.ModuleId.{ModuleId}
use Rattle.dm_base.specs.IdLaws.{same_module-true}
use Rattle.dm_base.specs.Tree.{same_module}
use Rattle.dm_maps.specs.PushRes.{StaysShown}
use Rattle.dm_maps.specs.World.{scope_of}
use Rattle.dm_scope.specs.Shows.{ScopePush, Shows}
use Rattle.dm_imports.specs.declared.glob_import.GlobImport.{GlobImport}
use Rattle.dm_imports.specs.declared.named_import.NamedImport.{NamedImport}
use Rattle.dm_imports.specs.Bound.{AreBound, Binding, IsBoundOrSame, IsBrought, IsShownOrSame, Maps, ShowMore, push_by, push_to, pushes_to, with_binding, with_bindings}

-- ---- What modules show

-- what one showed it shows behind which nothing was pushed
pub show-none : (d : Maps) → ShowMore [] d d
show-none d k ps h = subst (Shows (scope_of d.world k) d.flags k) (sym (append-nil ps)) h

pub show-then : (d e f : Maps) (bs cs : List Binding) → ShowMore bs d e → ShowMore cs e f → ShowMore (bs ++ cs) d f
show-then d e f bs cs one two k ps h =
    subst (Shows (scope_of f.world k) f.flags k)
    (append_assoc ps (pushes_to k bs) (pushes_to k cs) ∙ ap (λ (qs : List ScopePush). ps ++ qs) (sym (filter_map-append (push_to k) bs cs)))
    (two k (ps ++ pushes_to k bs) (one k ps h))

-- with one binding its module shows that, and any other what it showed
pub show-one : (d e : Maps) (b : Binding)
    → ((ps : List ScopePush) → Shows (scope_of d.world b.home) d.flags b.home ps → Shows (scope_of e.world b.home) e.flags b.home (ps ++ push_by b ∷ []))
    → ((k : ModuleId) → same_module b.home k ≡ false → StaysShown d.world d.flags e.world e.flags k)
    → ShowMore (b ∷ []) d e
show-one d e b here elsewhere k ps h = by (same_module b.home k) refl
  where
    by : (c : Bool) → same_module b.home k ≡ c → Shows (scope_of e.world k) e.flags k (ps ++ cons_option (cond c (Some (push_by b)) None) [])
    by true t =
        let one = same_module-true b.home k t in
        subst (λ (x : ModuleId). Shows (scope_of e.world x) e.flags x (ps ++ push_by b ∷ [])) one
        (here ps (subst (λ (x : ModuleId). Shows (scope_of d.world x) d.flags x ps) (sym one) h))
    by false t = subst (Shows (scope_of e.world k) e.flags k) (sym (append-nil ps)) (elsewhere k t ps h)

-- ---- Def maps, bound

module _ (is : List NamedImport) (gs : List GlobImport) where
  pub bound-none : (d : Maps) → AreBound is gs d d
  bound-none d = record { bindings = []; brought = All-nil (IsBrought is gs); maps = refl; shown = show-none d }

  pub bound-then : (d e f : Maps) → AreBound is gs d e → AreBound is gs e f → AreBound is gs d f
  bound-then d e f one two = record {
    bindings = one.bindings ++ two.bindings;
    brought = All-append (IsBrought is gs) one.bindings two.bindings one.brought two.brought;
    maps = two.maps ∙ ap (λ m. with_bindings m two.bindings) one.maps ∙ sym (fold-append with_binding d one.bindings two.bindings);
    shown = show-then d e f one.bindings two.bindings one.shown two.shown;
  }

  pub bound-once : (d e : Maps) (b : Binding) → IsBrought is gs b → IsBoundOrSame b d e → IsShownOrSame b d e → AreBound is gs d e
  bound-once d e b by (inl h) (inl shown) = record {
    bindings = b ∷ [];
    brought = All-cons (IsBrought is gs) b [] by (All-nil (IsBrought is gs));
    maps = h;
    shown = shown;
  }
  bound-once d e b by (inl h) (inr same) = subst (λ (m : Maps). AreBound is gs d m) (sym same) (bound-none d)
  bound-once d e b by (inr h) shown = subst (λ (m : Maps). AreBound is gs d m) (sym h) (bound-none d)

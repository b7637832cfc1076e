-- Which callbacks may be called on the maps from one outwards, and what is answered.
use Rattle.std.proofs.Common.{◌≡◌, ◌∙◌, ℕ, zero, suc, List, [], ◌∷◌, Option, Some, None, length, slice_get, ap, subst, sym}
use Rattle.std.specs.Borrow.{Bor}
use Rattle.std.specs.List.{filter_map, cons_option}
use Rattle.std.specs.Option.{option_map_or}
use Rattle.dm_base.specs.declared.ids.ModuleId.{ModuleId}
use Rattle.dm_def_map.specs.Maps.{Map}
use Rattle.dm_maps.specs.Outwards.{next_outwards, outwards_within, maps_outwards, AsksMaps, IsHandedOut, MayAskMap, MayAskMaps, MayAskNext}
use Rattle.dm_maps.specs.World.{World}

module _ {F T : Type 0} (w : World) (may : F → Bor Map → ModuleId → Type 0) (step : F → Bor Map → ModuleId → Option T → F → Type 0) where
  module _ (own : (g : F) (M : Bor Map) (m : ModuleId) → IsHandedOut w (M.now, m) → may g M m) where
    is_own : (x : Map × ModuleId) (f : F) → IsHandedOut w x → MayAskMap may f x
    is_own x f out M is = own f M x.1 (subst (λ N. IsHandedOut w (N, x.1)) (sym is) out)

    next-own : (xs : List (Map × ModuleId)) (f : F) → MayAskNext w may step xs f
    next-own [] f = tt
    next-own (x ∷ xs) f = (is_own x f, λ g asked. next-own xs g)

    -- a callback that may be called with each map of the world and a module in it may be called from such a map
    -- outwards
    pub MayAskMaps-own : (M : Map) (m : ModuleId) (f : F) → IsHandedOut w (M, m) → MayAskMaps w may step (maps_outwards w M m) f
    MayAskMaps-own M m f out = by (length w.places)
      where
        by : (n : ℕ) → MayAskMaps w may step (outwards_within n w M m) f
        by zero = (is_own (M, m) f out, λ g asked. tt)
        by (suc n) = (is_own (M, m) f out, λ g asked. next-own (option_map_or (λ x. outwards_within n w x.0 x.1) (next_outwards w M) []) g)

  module _ (holds : F → Type 0) (asks : (g : F) (M : Bor Map) (m : ModuleId) → holds g → may g M m) (keeps : (g h : F) (M : Bor Map) (m : ModuleId) (a : Option T) → holds g → step g M m a h → holds h) where
    next-kept : (xs : List (Map × ModuleId)) (f : F) → holds f → MayAskNext w may step xs f
    next-kept [] f h = tt
    next-kept (x ∷ xs) f h = (λ out M is. asks f M x.1 h, λ g asked. next-kept xs g (keeps f g asked.0 x.1 None h asked.2))

    -- so may one that may be called with any map as long as something holds of it that each answer keeps
    pub MayAskMaps-kept : (xs : List (Map × ModuleId)) (f : F) → holds f → MayAskMaps w may step xs f
    MayAskMaps-kept [] f h = tt
    MayAskMaps-kept (x ∷ xs) f h = (λ M is. asks f M x.1 h, λ g asked. next-kept xs g (keeps f g asked.0 x.1 None h asked.2))

  -- so may one that may be called with any map, whatever its state
  pub MayAskMaps-any : ((g : F) (M : Bor Map) (m : ModuleId) → may g M m) → (xs : List (Map × ModuleId)) (f : F) → MayAskMaps w may step xs f
  MayAskMaps-any any xs f = MayAskMaps-kept (λ _. Unit {0}) (λ g M m h. any g M m) (λ g h M m a k s. tt) xs f tt

-- where a callback answers of each map with a module what `answer` says of them, as long as something holds of it that
-- each answer keeps, what is answered is the first such answer
pub AsksMaps-first : {F T : Type 0} (step : F → Bor Map → ModuleId → Option T → F → Type 0) (xs : List (Map × ModuleId)) (f : F) (r : Option T) (last : F) → AsksMaps step xs f r last
    → (answer : Map × ModuleId → Option T) (holds : F → Type 0) → ((g h : F) (M : Bor Map) (m : ModuleId) (a : Option T) → holds g → step g M m a h → (a ≡ answer (M.now, m)) × holds h)
    → holds f → r ≡ slice_get (filter_map answer xs) 0
AsksMaps-first step [] f r last asked answer holds says start = asked.0
AsksMaps-first {F} {T} step (x ∷ xs) f r last asked answer holds says start =
    let said = says f asked.1 asked.2.0 x.1 asked.0 start asked.2.2 in
    by asked.0 (said.0 ∙ ap (λ (M : Map). answer (M, x.1)) asked.2.1) (λ more. AsksMaps-first step xs asked.1 r last more answer holds says said.1) asked.3
  where
    by : (a : Option T) → a ≡ answer x → (AsksMaps step xs asked.1 r last → r ≡ slice_get (filter_map answer xs) 0)
        → elim a as (λ _. Type 0) [ None ↦ AsksMaps step xs asked.1 r last | Some y ↦ (r ≡ Some y) × (last ≡ asked.1) ] → r ≡ slice_get (filter_map answer (x ∷ xs)) 0
    by None is rest more = rest more ∙ ap (λ (o : Option T). slice_get (cons_option o (filter_map answer xs)) 0) is
    by (Some y) is rest end = end.0 ∙ ap (λ (o : Option T). slice_get (cons_option o (filter_map answer xs)) 0) is

-- What a closure answers in the end that is called with names in order until it answers Some.
use Rattle.std.proofs.Common.{◌≡◌, ◌∙◌, Bool, List, [], ◌∷◌, Option, None, Some, ap, refl, slice_get}
use Rattle.std.specs.Borrow.{Bor}
use Rattle.std.specs.List.{cons_option, filter_map}
use Rattle.dm_base.specs.Names.{Name}
use Rattle.dm_base.specs.declared.visibility.Visibility.{Visibility}
use Rattle.dm_scope.specs.BindingLookups.{AsksName, AsksNames}

-- the first answer that is there, where each answer is that of a test
pub AsksNames-first : {F T : Type 0} (step : F → Bor Name → Visibility → Bool → Option T → F → Type 0) (xs : List (Name × Visibility × Bool)) (f : F) (r : Option T) (g : F) → AsksNames step xs f r g
    → (t : Name × Visibility × Bool → Option T) → ((k : F) (x : Name × Visibility × Bool) (a : Option T) (h : F) → AsksName step k x a h → a ≡ t x) → r ≡ slice_get (filter_map t xs) 0
AsksNames-first step [] f r g asks t is = asks.0
AsksNames-first {F} {T} step (x ∷ xs) f r g (a, h, asked, rest) t is =
    let others : AsksNames step xs h r g → r ≡ slice_get (filter_map t xs) 0 = λ more. AsksNames-first step xs h r g more t is in
    by a others (is f x a h asked) rest
  where
    by : (a : Option T) → (AsksNames step xs h r g → r ≡ slice_get (filter_map t xs) 0) → a ≡ t x → elim a as (λ x. Type 0) [ None ↦ AsksNames step xs h r g | Some y ↦ (r ≡ Some y) × (g ≡ h) ] → r ≡ slice_get (cons_option (t x) (filter_map t xs)) 0
    by None others same rest = others rest ∙ ap (λ o. slice_get (cons_option o (filter_map t xs)) 0) same
    by (Some y) others same rest = rest.0 ∙ ap (λ o. slice_get (cons_option o (filter_map t xs)) 0) same

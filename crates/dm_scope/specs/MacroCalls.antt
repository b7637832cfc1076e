-- The macro calls of derive attributes.
use Rattle.std.specs.Prelude.{◌≡◌, List, [], ◌∷◌, ◌++◌, Option, None, Some, MatchOption}
use Rattle.std.specs.List.{filter_map, flat_map}
use Rattle.either.specs.declared.Either.TheVariants.{Left, Right}
use Rattle.smallvec.specs.SmallVec.{SmallVec}
use Rattle.dm_base.specs.declared.ids.MacroCallId.{MacroCallId}
use Rattle.dm_scope.specs.Derives.{Derive, Slot}
use Rattle.dm_scope.specs.declared.derives.DeriveMacroInvocation.{DeriveMacroInvocation}

-- the macro call that a derive's slot holds, if it is filled and the derive is no builtin one
abbrev pub call_in : Slot → Option MacroCallId
call_in None = None
call_in (Some (Left call)) = Some call
call_in (Some (Right imp)) = None

-- the macro calls in the slots of derive attributes; the attributes' own calls are none of these
abbrev pub calls_in : List Derive → List MacroCallId
calls_in ds = flat_map (λ d. filter_map call_in d.slots) ds

-- the same calls, of attributes as a scope keeps them
abbrev pub attribute_calls : List DeriveMacroInvocation → List MacroCallId
attribute_calls ds = flat_map (λ d. filter_map call_in d.derive_call_ids.items) ds

abbrev pub item_calls : List (SmallVec DeriveMacroInvocation) → List MacroCallId
item_calls ls = flat_map (λ l. attribute_calls l.items) ls

-- the first of some things is taken, which were `before`, and `after` are left; or there were none
abbrev pub Takes : {X : Type 0} → List X → List X → Option (X × List X) → Type 0
Takes before after found = MatchOption found ((before ≡ []) × (after ≡ [])) (λ f. before ≡ f.0 ∷ f.1 ++ after)

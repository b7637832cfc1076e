-- Derive attributes, as contracts see them.
use Rattle.std.specs.Prelude.{ℕ, Bool, List, [], ◌∷◌, Option, None, Some, map, find, replicate, slice_set, nat_eq, if◌then◌else◌}
use Rattle.std.specs.Option.{option_and_then}
use Rattle.std.specs.Borrow.{Bor}
use Rattle.std.specs.Map.{lookup}
use Rattle.dm_base.specs.declared.ids.AttrId.{AttrId}
use Rattle.dm_base.specs.declared.ids.MacroCallId.{MacroCallId}
use Rattle.dm_base.specs.declared.ids.BuiltinDeriveImplId.{BuiltinDeriveImplId}
use Rattle.dm_base.specs.declared.source.AstId.{AstId}
use Rattle.either.specs.declared.Either.{Either}
use Rattle.smallvec.specs.SmallVec.{SmallVec}
use Rattle.dm_base.specs.Sameness.{same_ast}
use Rattle.dm_scope.specs.TableLists.{lists_of}
use Rattle.dm_scope.specs.declared.derives.DeriveMacroInvocation.{DeriveMacroInvocation}

-- what a derive of an attribute stands for, once it is known: a macro call, or an `impl` that a builtin derive writes
abbrev pub Slot : Type 0
Slot = Option (Either MacroCallId BuiltinDeriveImplId)

-- a derive attribute: which it is, its own call, and a slot for each derive that it names
pub record Derive : Type 0 where
  pub attr_id : AttrId
  pub attr_call_id : MacroCallId
  pub slots : List Slot

abbrev pub derive_of : DeriveMacroInvocation → Derive
derive_of d = record { attr_id = d.attr_id; attr_call_id = d.attr_call_id; slots = d.derive_call_ids.items }

abbrev pub has_id : AttrId → DeriveMacroInvocation → Bool
has_id id d = nat_eq d.attr_id.0 id.0

-- the derive attributes of each item, of the entries of a table
abbrev pub derives_of : List (AstId × SmallVec DeriveMacroInvocation) → List (AstId × List Derive)
derives_of es = map (λ e. (e.0, map derive_of e.1)) (lists_of es)

-- a fresh attribute, whose slots are empty until the macro calls are known
abbrev pub fresh_derive : AttrId → MacroCallId → ℕ → Derive
fresh_derive id call n = record { attr_id = id; attr_call_id = call; slots = replicate n None }

-- the first of an item's attributes with that id
abbrev pub find_derive : AttrId → List Derive → Option Derive
find_derive id ds = find (λ d. nat_eq d.attr_id.0 id.0) ds

-- the first of an item's attributes with that id, of the attributes of all items
abbrev pub derive_at : AstId → AttrId → List (AstId × List Derive) → Option Derive
derive_at adt id es = option_and_then (find_derive id) (lookup (same_ast adt) es)

-- an attribute with a slot filled
abbrev pub with_slot : ℕ → Either MacroCallId BuiltinDeriveImplId → Derive → Derive
with_slot i call d = record d { slots = slice_set d.slots i (Some call) }

-- an item's attributes with a slot of the first one filled that has the id
abbrev pub fill_first : AttrId → ℕ → Either MacroCallId BuiltinDeriveImplId → List Derive → List Derive
fill_first id i call [] = []
fill_first id i call (d ∷ ds) = if nat_eq d.attr_id.0 id.0 then with_slot i call d ∷ ds else d ∷ fill_first id i call ds

-- and among the attributes of all items
abbrev pub fill_slot : AstId → AttrId → ℕ → Either MacroCallId BuiltinDeriveImplId → List (AstId × List Derive) → List (AstId × List Derive)
fill_slot adt id i call [] = []
fill_slot adt id i call (e ∷ es) = if same_ast adt e.0 then (e.0, fill_first id i call e.1) ∷ es else e ∷ fill_slot adt id i call es

-- an item's attributes, behind a reference
abbrev pub deref_derives : AstId × Bor (List DeriveMacroInvocation) → AstId × List Derive
deref_derives p = (p.0, map derive_of p.1.now)

-- Chains of imports: the definition that an import finally resolves to, through re-exports.
use Rattle.std.specs.Prelude.{◌≡◌, ◌<◌, ◌^◌, ⊤, length, List, [], ◌∷◌, Option, None, Some, IfSome, slice_get}
use Rattle.std.specs.Map.{lookup}
use Rattle.std.specs.Option.{option_map, option_and_then}
use Rattle.dm_base.specs.Sameness.{same_import}
use Rattle.dm_base.specs.declared.imports.ImportId.{ImportId}
use Rattle.dm_base.specs.declared.imports.ImportOrDef.{ImportOrDef}
use Rattle.dm_base.specs.declared.imports.ImportOrDef.TheVariants.{Import, Def}
use Rattle.dm_base.specs.declared.imports.ImportOrExternCrate.TheVariants as wide
use Rattle.dm_base.specs.declared.item_ids.ModuleDefId.{ModuleDefId}
use Rattle.dm_base.specs.declared.per_ns.Item.{Item}
use Rattle.dm_base.specs.declared.per_ns.Namespace.{Namespace}
use Rattle.dm_base.specs.declared.visibility.Visibility.TheVariants.{Public}
use Rattle.dm_scope.specs.Records.{records_in}
use Rattle.dm_scope.specs.Scope.{Scope}
use Rattle.dm_scope.specs.Tables.{Tables, all_records}

-- an import, and the scope in whose records it is looked up
abbrev pub Pair : Type 0
Pair = Scope × ImportId

-- the named import that a record is, and the definition
abbrev pub named_import : ImportOrDef → Option ImportId
named_import (Import i) = Some i
named_import r = None

abbrev pub def_of : ImportOrDef → Option ModuleDefId
def_of (Def d) = Some d
def_of r = None

-- an import in the scope of the module that its use stands in
abbrev pub at_home : Tables → ImportId → Option Pair
at_home t i = option_map (λ s. (s, i)) (option_and_then (λ m. slice_get t.scopes m.0) (t.container i.use_))

module _ (ns : Namespace) where
  abbrev pub record_of : Pair → Option ImportOrDef
  record_of p = lookup (same_import (wide.Import p.1)) (records_in ns p.0)

  -- A pair whose record is a named import leads to that import at home; one whose record is a
  -- definition ends in it.
  abbrev pub leads : Tables → Pair → Option Pair
  leads t p = option_and_then (at_home t) (option_and_then named_import (record_of p))

  abbrev pub ends : Pair → Option ModuleDefId
  ends p = option_and_then def_of (record_of p)

abbrev pub last_from : {X : Type 0} → X → List X → X
last_from x [] = x
last_from x (y ∷ ys) = last_from y ys

-- x and then ys: each but the last leads to the next
abbrev pub IsChain : {X : Type 0} → (X → Option X) → X → List X → Type 0
IsChain next x [] = ⊤
IsChain next x (y ∷ ys) = (next x ≡ Some y) × IsChain next y ys

-- some chain from x, which is finite, ends in d
abbrev pub EndsIn : {X D : Type 0} → (X → Option X) → (X → Option D) → X → D → Type 0
EndsIn {X} next end x d = (ys : List X) × IsChain next x ys × (end (last_from x ys) ≡ Some d)

abbrev pub public_item : {D I : Type 0} → D → Item D I
public_item d = record { def = d; vis = Public; import = None }

-- What is found in a namespace, from a pair: the definition in which some chain ends, Public and
-- without an import, and nothing if none does. (Where a `usize` does not count the namespace's
-- records there may be nothing although a chain ends.)
pub record IsFound (ns : Namespace) (t : Tables) (p : Pair) {D I : Type 0} (widened : D → ModuleDefId) (found : Option (Item D I)) : Type 0 where
  pub right : IfSome found (λ x. (x ≡ public_item x.def) × EndsIn (leads ns t) (ends ns) p (widened x.def))
  pub whole : length (all_records ns t) < 2 ^ 64 → (d : D) → EndsIn (leads ns t) (ends ns) p (widened d) → found ≡ Some (public_item d)

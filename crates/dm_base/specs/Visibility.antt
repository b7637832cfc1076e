-- Visibilities, alone and over a tree of modules: the most and the least permissive of two, and who sees those.
use Rattle.std.specs.Prelude.{◌≡◌, ◌&&◌, ◌||◌, not, if◌then◌else◌, Bool, true, false, IsTrue, Option, Some, None, is_none}
use Rattle.std.specs.Option.{ForSome, option_map}
use Rattle.dm_base.specs.declared.ids.ModuleId.{ModuleId}
use Rattle.dm_base.specs.declared.ids.MapId.{MapId}
use Rattle.dm_base.specs.declared.visibility.VisibilityExplicitness.{VisibilityExplicitness}
use Rattle.dm_base.specs.declared.visibility.VisibilityExplicitness.TheVariants.{Explicit, Implicit}
use Rattle.dm_base.specs.declared.visibility.Visibility.{Visibility}
use Rattle.dm_base.specs.declared.visibility.Visibility.TheVariants.{Module, PubCrate, Public}
use Rattle.dm_base.specs.Tree.{Tree, IsKnown, same_module, same_crate, crate_of, lies_in, is_ancestor, sees}

-- the module that a visibility names, if it names one, is the tree's
abbrev pub NamesKnown : Tree → Visibility → Type 0
NamesKnown t (Module m e) = IsKnown t m
NamesKnown t (PubCrate k) = Unit {0}
NamesKnown t Public = Unit {0}

abbrev pub is_public : Visibility → Bool
is_public (Module m e) = false
is_public (PubCrate k) = false
is_public Public = true

-- explicit if either is
abbrev pub either_explicit : VisibilityExplicitness → VisibilityExplicitness → VisibilityExplicitness
either_explicit Explicit y = Explicit
either_explicit Implicit y = y

-- whether both are modules of the map
abbrev pub both_lie_in : Tree → MapId → ModuleId → ModuleId → Bool
both_lie_in t map a b = lies_in t map a && lies_in t map b

-- The most permissive of visibilities in modules a and b: of one module twice, that module; of two modules of the map,
-- the one that contains the other.
abbrev pub max_of_modules : Tree → MapId → ModuleId → VisibilityExplicitness → ModuleId → VisibilityExplicitness → Option Visibility
max_of_modules t map a x b y =
    if same_module a b then Some (Module a (either_explicit x y))
    else if not (both_lie_in t map a b) then None
    else if is_ancestor t b a then Some (Module b y)
    else if is_ancestor t a b then Some (Module a x)
    else None

-- The most permissive of two visibilities, where one of them is it; modules are compared where they lie in the map.
abbrev pub max_of : Tree → MapId → Visibility → Visibility → Option Visibility
max_of t map Public v = Some Public
max_of t map (PubCrate k) Public = Some Public
max_of t map (PubCrate k) (PubCrate l) = if same_crate k l then Some (PubCrate k) else None
max_of t map (PubCrate k) (Module m e) = if same_crate (crate_of t m) k then Some (PubCrate k) else None
max_of t map (Module m e) Public = Some Public
max_of t map (Module m e) (PubCrate k) = if same_crate (crate_of t m) k then Some (PubCrate k) else None
max_of t map (Module a x) (Module b y) = max_of_modules t map a x b y

-- The least permissive of visibilities in modules a and b: of one module twice, that module; of two modules of the map,
-- the one that lies in the other.
abbrev pub min_of_modules : Tree → MapId → ModuleId → VisibilityExplicitness → ModuleId → VisibilityExplicitness → Option Visibility
min_of_modules t map a x b y =
    if same_module a b then Some (Module a (either_explicit x y))
    else if not (both_lie_in t map a b) then None
    else if is_ancestor t b a then Some (Module a x)
    else if is_ancestor t a b then Some (Module b y)
    else None

-- The least permissive of two visibilities, where one of them is it.
abbrev pub min_of : Tree → MapId → Visibility → Visibility → Option Visibility
min_of t map Public v = Some v
min_of t map (PubCrate k) Public = Some (PubCrate k)
min_of t map (PubCrate k) (PubCrate l) = if same_crate k l then Some (PubCrate k) else None
min_of t map (PubCrate k) (Module m e) = if same_crate (crate_of t m) k then Some (Module m e) else None
min_of t map (Module m e) Public = Some (Module m e)
min_of t map (Module m e) (PubCrate k) = if same_crate (crate_of t m) k then Some (Module m e) else None
min_of t map (Module a x) (Module b y) = min_of_modules t map a x b y

-- those who see v are those who see one or the other
abbrev pub IsUnion : Tree → Visibility → Visibility → Visibility → Type 0
IsUnion t a b v = (f : ModuleId) → IsKnown t f → sees t v f ≡ (sees t a f || sees t b f)

-- those who see v are those who see both
abbrev pub IsIntersection : Tree → Visibility → Visibility → Visibility → Type 0
IsIntersection t a b v = (f : ModuleId) → IsKnown t f → sees t v f ≡ (sees t a f && sees t b f)

-- whether both are visibilities in modules of the map
abbrev pub are_of_map : Tree → MapId → Visibility → Visibility → Bool
are_of_map t map (Module a x) (Module b y) = both_lie_in t map a b
are_of_map t map (Module a x) (PubCrate l) = false
are_of_map t map (Module a x) Public = false
are_of_map t map (PubCrate k) v = false
are_of_map t map Public v = false

-- whether neither module is the other or its ancestor
abbrev pub are_apart : Tree → Visibility → Visibility → Bool
are_apart t (Module a x) (Module b y) = not (same_module a b || is_ancestor t a b || is_ancestor t b a)
are_apart t (Module a x) (PubCrate l) = false
are_apart t (Module a x) Public = false
are_apart t (PubCrate k) v = false
are_apart t Public v = false

-- of two modules of the map there is none exactly where neither is the other or its ancestor
abbrev pub IsNoneWhereApart : Tree → MapId → Visibility → Visibility → Option Visibility → Type 0
IsNoneWhereApart t map a b answer = IsTrue (are_of_map t map a b) → is_none answer ≡ are_apart t a b

-- The laws of the most permissive of two visibilities, if there is one: which it is, also of them in the other order,
-- and that those who see either see it.
pub record IsMost (t : Tree) (map : MapId) (a b : Visibility) (most : Option Visibility) : Type 0 where
  pub table : most ≡ max_of t map a b
  pub either_order : most ≡ max_of t map b a
  pub union : ForSome most (IsUnion t a b)

-- The same of the least permissive, which those see who see both.
pub record IsLeast (t : Tree) (map : MapId) (a b : Visibility) (least : Option Visibility) : Type 0 where
  pub table : least ≡ min_of t map a b
  pub either_order : least ≡ min_of t map b a
  pub intersection : ForSome least (IsIntersection t a b)

-- Both, in order.
pub record AreMostAndLeast (t : Tree) (map : MapId) (a b : Visibility) (both : Option (Visibility × Visibility)) : Type 0 where
  pub most : IsMost t map a b (option_map (λ o. o.0) both)
  pub least : IsLeast t map a b (option_map (λ o. o.1) both)

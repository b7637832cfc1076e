-- What a path resolves to: the definition of path resolution.
use Rattle.std.specs.Prelude.{ℕ, zero, suc, ◌+◌, ◌&&◌, ◌||◌, not, List, [], ◌∷◌, ◌++◌, Option, Some, None, Bool, true, false, if◌then◌else◌, length, map, find, is_none, is_some, slice_get}
use Rattle.std.specs.Option.{option_map, option_map_or, option_and_then}
use Rattle.dm_base.specs.declared.ids.ModuleId.{ModuleId}
use Rattle.dm_base.specs.declared.ids.Crate.{Crate}
use Rattle.dm_base.specs.declared.ids.MapId.{MapId}
use Rattle.dm_base.specs.declared.ids.ExternCrateId.{ExternCrateId}
use Rattle.dm_base.specs.declared.ids.EnumId.{EnumId}
use Rattle.dm_base.specs.declared.ids.EnumVariantId.{EnumVariantId}
use Rattle.dm_base.specs.declared.fields_shape.FieldsShape.{FieldsShape}
use Rattle.dm_base.specs.declared.item_ids.ModuleDefId.{ModuleDefId}
use Rattle.dm_base.specs.declared.item_ids.ModuleDefId.TheVariants as def
use Rattle.dm_base.specs.declared.item_ids.AdtId.{AdtId}
use Rattle.dm_base.specs.declared.item_ids.AdtId.TheVariants as adt
use Rattle.dm_base.specs.declared.item_ids.MacroId.{MacroId}
use Rattle.dm_base.specs.declared.imports.ImportOrExternCrate.{ImportOrExternCrate}
use Rattle.dm_base.specs.declared.imports.ImportOrExternCrate.TheVariants as import
use Rattle.dm_base.specs.declared.mod_path.PathKind.{PathKind}
use Rattle.dm_base.specs.declared.mod_path.PathKind.TheVariants.{DollarCrate, Super}
use Rattle.dm_base.specs.declared.mod_path.PathKind.TheVariants as kind
use Rattle.dm_base.specs.declared.per_ns.Item.{Item}
use Rattle.dm_base.specs.declared.per_ns.PerNs.{PerNs}
use Rattle.dm_base.specs.declared.visibility.Visibility.TheVariants.{Public}
use Rattle.dm_base.specs.Names.{Name}
use Rattle.dm_base.specs.PerNs.{nothing, overlay, keep, seen_by, type_alone, macro_alone}
use Rattle.dm_base.specs.PerNs as per_ns
use Rattle.dm_base.specs.Styles.{has_styles, fn_like, attr, derive}
use Rattle.dm_base.specs.Tree.{Tree, IsKnown, same_crate, same_map, crate_of, in_block_map, is_block_root, chain, sees, outer, home, up_to, block_of}
use Rattle.dm_def_map.specs.declared.modules.modes.BuiltinShadowMode.{BuiltinShadowMode}
use Rattle.dm_def_map.specs.declared.modules.modes.BuiltinShadowMode.TheVariants as shadow
use Rattle.dm_def_map.specs.declared.modules.modes.MacroSubNs.{MacroSubNs}
use Rattle.dm_def_map.specs.declared.modules.modes.MacroSubNs.TheVariants.{Bang, Attr}
use Rattle.dm_def_map.specs.Maps.{LocalMap}
use Rattle.dm_maps.specs.declared.rules.Rules.TheVariants.{V1, V2}
use Rattle.dm_maps.specs.World.{World}
use Rattle.dm_maps.specs.Readings.{Setting, Reading, setting_of, read}
use Rattle.hir_def_map.specs.declared.path_resolution.place.Place.{Place}
use Rattle.hir_def_map.specs.declared.path_resolution.place.Place.TheVariants.{In, Preludes}
use Rattle.hir_def_map.specs.declared.path_resolution.question.Ask.{Ask}
use Rattle.hir_def_map.specs.declared.path_resolution.result.ResolveMode.{ResolveMode}
use Rattle.hir_def_map.specs.declared.path_resolution.result.ResolveMode.TheVariants as mode
use Rattle.hir_def_map.specs.declared.path_resolution.result.ResolvePathResult.{ResolvePathResult}
use Rattle.hir_def_map.specs.Answers.{reached, nothing_yes, nothing_no, stopped, variant_answer, from_other_crate, yes_in_block, merged}

-- What segments answer from a module of another crate.
abbrev pub Entering : Type 0
Entering = ModuleId → List Reading → ResolvePathResult

-- the parameters of a path resolution except the segments
abbrev pub asked : ModuleId → ResolveMode → BuiltinShadowMode → Option MacroSubNs → PathKind → Ask
asked m by s e k = record { origin = m; mode = by; shadow = s; expected = e; kind = k }

-- ---- Stations and stop: the segments one after another

-- the module that a definition is, if it is one
abbrev pub module_in : ModuleDefId → Option ModuleId
module_in (def.ModuleId m) = Some m
module_in _ = None

-- the module that a type is, if there is one and it is one
abbrev pub type_module : Option (Item ModuleDefId ImportOrExternCrate) → Option ModuleId
type_module x = option_and_then (λ i. module_in i.def) x

-- the module that a path goes on through: one of f's crate, in types
abbrev pub next_module : Tree → ModuleId → PerNs → Option ModuleId
next_module t f x = keep (λ m. same_crate (crate_of t m) (crate_of t f)) (type_module x.types)

-- what a segment after a module resolves to: what the module's scope binds under it, each item kept where f sees it
abbrev pub seen_in : Tree → ModuleId → Reading → ModuleId → PerNs
seen_in t f s m = seen_by (λ v. sees t v f) (s.bound m)

-- a station: what the segments before a position resolve to, and the segments from there on
pub record Station : Type 0 where
  pub position : ℕ
  pub here : PerNs
  pub rest : List Reading

-- Station b is x. Where a station has a module in types, the next one is what that module's scope binds under the segment.
abbrev pub stations : Tree → ModuleId → PerNs → ℕ → List Reading → List Station
stations t f x b [] = record { position = b; here = x; rest = [] } ∷ []
stations t f x b (s ∷ rest) = record { position = b; here = x; rest = s ∷ rest } ∷ stations t f (option_map_or (seen_in t f s) (next_module t f x) nothing) (b + 1) rest

-- a path stops at its end, and where a station has no module of f's crate in types
abbrev pub is_stop : Tree → ModuleId → Station → Bool
is_stop t f j = elim j.rest [ [] ↦ true | ◌∷◌ s rest ↦ is_none (next_module t f j.here) ]

-- At an enum: a known variant is reached where it is the last segment, and is nothing where segments are left; at an unknown one the
-- enum is left.
abbrev pub at_variant : Item ModuleDefId ImportOrExternCrate → ℕ → Option (EnumVariantId × FieldsShape) → Bool → ResolvePathResult
at_variant i j None is_last = stopped i j
at_variant i j (Some v) true = variant_answer i v
at_variant i j (Some v) false = nothing_no

abbrev pub is_empty : {A : Type 0} → List A → Bool
is_empty [] = true
is_empty (x ∷ xs) = false

abbrev pub at_enum : Item ModuleDefId ImportOrExternCrate → EnumId → ℕ → Reading → Bool → ResolvePathResult
at_enum i e j s is_last = at_variant i j (s.variant e) is_last

-- at a struct or a union the path stops
abbrev pub at_adt : Item ModuleDefId ImportOrExternCrate → ℕ → Reading → Bool → AdtId → ResolvePathResult
at_adt i j s is_last (adt.EnumId e) = at_enum i e j s is_last
at_adt i j s is_last _ = stopped i j

-- by what a definition is, where segments are left: a module of another crate, an enum, or anything else
abbrev pub at_definition : Entering → Item ModuleDefId ImportOrExternCrate → ℕ → Reading → List Reading → ModuleDefId → ResolvePathResult
at_definition enter i j s rest (def.ModuleId m) = from_other_crate j (enter m (s ∷ rest))
at_definition enter i j s rest (def.AdtId a) = at_adt i j s (is_empty rest) a
at_definition enter i j s rest _ = stopped i j

-- the answer at the stop: what is resolved there if it is the end, else by the type that is resolved there
abbrev pub at_stop : Entering → Station → ResolvePathResult
at_stop enter j = elim j.rest [
  | [] ↦ reached j.here
  | ◌∷◌ s rest ↦ elim j.here.types [ None ↦ nothing_no | Some i ↦ at_definition enter i j.position s rest i.def ]
]

-- the answer at the first stop from position b on
abbrev pub stop : Entering → Tree → ModuleId → PerNs → ℕ → List Reading → ResolvePathResult
stop enter t f x b S = option_map_or (at_stop enter) (find (is_stop t f) (stations t f x b S)) nothing_no

abbrev pub root_item : ModuleId → PerNs
root_item m = type_alone (def.ModuleId m) Public None

-- enter, for fewer than n segments
abbrev pub enter_within : ℕ → Tree → Entering
enter_within zero t m S = nothing_yes
enter_within (suc n) t m S =
    let h = home t m in
    yes_in_block (in_block_map t h) (stop (enter_within n t) t h (root_item h) 0 S)

-- What `self::` and the segments answer from a module, with no places, prelude or expectation. Each module of another
-- crate that is met leaves fewer segments.
abbrev pub enter : Tree → Entering
enter t m S = enter_within (suc (length S)) t m S

-- ---- The first segment

abbrev pub map_at : Tree → Place → MapId
map_at t (In m) = t.map_of m
map_at t (Preludes id f) = id

abbrev pub seen_from : Place → ModuleId
seen_from (In m) = m
seen_from (Preludes id f) = f

-- a place of the tree: it sees from one of its modules
abbrev pub IsKnownPlace : Tree → Place → Type 0
IsKnownPlace t p = IsKnown t (seen_from p)

-- whether a macro may be called as is expected
abbrev pub fits : Setting → Option MacroSubNs → MacroId → Bool
fits w None m = true
fits w (Some Bang) m = has_styles (w.styles m) fn_like
fits w (Some Attr) m = has_styles (w.styles m) attr || has_styles (w.styles m) derive

-- without a macro that does not fit
abbrev pub fitting : Setting → Option MacroSubNs → PerNs → PerNs
fitting w e x = record x { macros = keep (λ i. fits w e i.def) x.macros }

-- what a prelude has: in version 2 of the rules without a macro that does not fit
abbrev pub of_prelude : Setting → Option MacroSubNs → PerNs → PerNs
of_prelude w e x = elim w.rules [ V1 ↦ x | V2 ↦ fitting w e x ]

abbrev pub by_crate : Option ExternCrateId → Option ImportOrExternCrate
by_crate e = option_map import.ExternCrate e

-- textual scope: the last legacy macro of the name, if it fits; it shadows those before it
abbrev pub legacy : Setting → Option MacroSubNs → ModuleId → Reading → PerNs
legacy w e m s = option_map_or (λ l. if fits w e l then macro_alone l Public None else nothing) (s.legacy m) nothing

abbrev pub extern_prelude : Reading → PerNs
extern_prelude s = option_map_or (λ e. type_alone (def.ModuleId e.0) Public (by_crate e.1)) s.extern nothing

abbrev pub macro_use_prelude : MapId → Reading → PerNs
macro_use_prelude id s = option_map_or (λ e. macro_alone e.0 Public (by_crate e.1)) (s.macro_use id) nothing

-- what the scope of a map's prelude module binds
abbrev pub prelude : Setting → MapId → Reading → PerNs
prelude w id s = option_map_or s.bound (w.prelude id) nothing

abbrev pub builtin : Reading → PerNs
builtin s = option_map_or (λ b. type_alone (def.BuiltinType b) Public None) s.builtin nothing

-- the questions that edition 2015 answers from the crate's root: of imports, and of paths that begin with `::`
abbrev pub asks_root : Ask → Bool
asks_root q = elim q.kind [ kind.Abs ↦ true | kind.Plain ↦ elim q.mode [ mode.Import ↦ true | mode.Other ↦ false ] | _ ↦ false ]

abbrev pub by_2015_rule : Setting → Ask → Place → Bool
by_2015_rule w q p = asks_root q && w.is_2015 (map_at w.tree p).krate

-- builtin types are in no block's map
abbrev pub builtins_of : Setting → ModuleId → Reading → PerNs
builtins_of w m s = if in_block_map w.tree m then nothing else builtin s

-- whether builtin types shadow the scope: for a path of one name, where asked so, and the scope's type is a module
abbrev pub are_builtins_first : Ask → PerNs → Bool → Bool
are_builtins_first q own is_last = elim q.shadow [ shadow.Other ↦ true | shadow.Module ↦ false ] && is_last && is_some (type_module own.types)

-- the builtin types or the scope
abbrev pub builtins_or_scope : Setting → Ask → ModuleId → Reading → Bool → PerNs
builtins_or_scope w q m s builtins_go = if builtins_go then builtins_of w m s else fitting w q.expected (s.bound m)

-- a block's root skips the extern prelude and the prelude module: a layer that is skipped is nothing
abbrev pub unless_block_root : Setting → ModuleId → PerNs → PerNs
unless_block_root w m x = if is_block_root w.tree m then nothing else x

abbrev pub root_scope : Setting → ModuleId → Reading → PerNs
root_scope w m s = option_map_or s.bound (w.root_of (crate_of w.tree m)) nothing

-- What a first segment selects, layer by layer: each shadows the next. By the 2015 rule: the scope of the crate's root,
-- the extern prelude. After `::`: the extern prelude. Else: legacy macros (textual scope), the scope and the builtin
-- types, the extern prelude, the macro_use prelude, the prelude module; of the last two what the version of the rules
-- leaves.
abbrev pub layers_by_2015_rule : Setting → Place → Reading → List PerNs
layers_by_2015_rule w (In m) s = root_scope w m s ∷ unless_block_root w m (extern_prelude s) ∷ []
layers_by_2015_rule w (Preludes id f) s = extern_prelude s ∷ []

abbrev pub plain_layers : Setting → Ask → Place → Reading → Bool → List PerNs
plain_layers w q (In m) s is_last =
    let builtins_first = are_builtins_first q (s.bound m) is_last in
    legacy w q.expected m s
    ∷ builtins_or_scope w q m s builtins_first
    ∷ builtins_or_scope w q m s (not builtins_first)
    ∷ unless_block_root w m (extern_prelude s)
    ∷ of_prelude w q.expected (macro_use_prelude (w.tree.map_of m) s)
    ∷ unless_block_root w m (of_prelude w q.expected (prelude w (w.tree.map_of m) s))
    ∷ []
plain_layers w q (Preludes id f) s is_last =
    extern_prelude s ∷ of_prelude w q.expected (macro_use_prelude id s) ∷ of_prelude w q.expected (prelude w id s) ∷ []

abbrev pub layers : Setting → Ask → Place → Reading → Bool → List PerNs
layers w q p s is_last =
    if by_2015_rule w q p then layers_by_2015_rule w p s
    else elim q.kind [ kind.Abs ↦ extern_prelude s ∷ [] | _ ↦ plain_layers w q p s is_last ]

-- after `::`, where the 2015 rule does not hold, a name that no layer has is not there yet
abbrev pub missed : Ask → Bool → PerNs → Bool
missed q by_2015 x = elim q.kind [ kind.Abs ↦ not by_2015 && per_ns.is_empty x | _ ↦ false ]

-- by what the first segment selects; a path without segments is nothing
abbrev pub by_first_segment : Setting → Ask → Place → List Reading → ResolvePathResult
by_first_segment w q p [] = nothing_yes
by_first_segment w q p (s ∷ rest) =
    let x = overlay (layers w q p s (is_empty rest)) in
    if missed q (by_2015_rule w q p) x then nothing_no else stop (enter w.tree) w.tree (seen_from p) x 1 rest

-- from the root of a crate
abbrev pub from_root : Setting → ModuleId → Crate → List Reading → ResolvePathResult
from_root w m k S = option_map_or (λ r. stop (enter w.tree) w.tree m (root_item r) 0 S) (w.root_of k) nothing_yes

-- `super::` and `self::`: from an ancestor, where roots of blocks do not count; one of another map is entered
abbrev pub from_super : Tree → ModuleId → ℕ → List Reading → ResolvePathResult
from_super t m k S = elim (slice_get (outer t m) k) [
  | None ↦ nothing_yes
  | Some o ↦ if same_map (t.map_of o) (t.map_of m) then stop (enter t) t m (root_item o) 0 S else enter t o S
]

-- what one place answers
abbrev pub single : Setting → Ask → List Reading → Place → ResolvePathResult
single w q S (In m) = elim q.kind [
  | kind.Crate ↦ from_root w m (crate_of w.tree m) S
  | DollarCrate c ↦ from_root w m c S
  | Super k ↦ from_super w.tree m k S
  | _ ↦ by_first_segment w q (In m) S
]
single w q S (Preludes id f) = elim q.kind [
  | kind.Crate ↦ nothing_yes
  | DollarCrate c ↦ nothing_yes
  | Super k ↦ nothing_yes
  | _ ↦ by_first_segment w q (Preludes id f) S
]

-- ---- Places and the answer

-- the preludes of the crate, seen from the root of h's block; none where h lies in no block
abbrev pub prelude_place : Setting → ModuleId → List Place
prelude_place w h = option_map_or (λ r. Preludes (record { krate = crate_of w.tree h; block = None }) r ∷ []) (option_and_then w.block_root (block_of w.tree h)) []

-- the modules of a list up to h, and then the preludes of h
abbrev pub places_along : Setting → ModuleId → List ModuleId → List Place
places_along w h ms = map In (up_to h ms) ++ prelude_place w h

-- The places that a question from m asks: the modules up to the nearest that is no block's root, and then, where that lies in a
-- block, the preludes of the crate.
abbrev pub places : Setting → ModuleId → List Place
places w m = places_along w (home w.tree m) (chain w.tree m)

-- the answer of a setting (the name-independent part of a world) to segments with readings (what a world says of one
-- name)
unfoldable pub answer_of : Setting → Ask → List Reading → ResolvePathResult
answer_of w q S = merged (map (single w q S) (places w q.origin))

-- the answer of a world and a local map
unfoldable pub answer : World → LocalMap → Ask → List Name → ResolvePathResult
unfolding answer_of setting_of read
answer w L q segments = answer_of (setting_of w) q (map (read w L) segments)

-- what the origin answers alone
unfoldable pub answer_alone : World → LocalMap → Ask → List Name → ResolvePathResult
unfolding setting_of read
answer_alone w L q segments = single (setting_of w) q (map (read w L) segments) (In q.origin)

-- what the preludes of a map answer alone, seen from the origin
unfoldable pub prelude_answer : World → LocalMap → MapId → Ask → List Name → ResolvePathResult
unfolding setting_of read
prelude_answer w L id q segments = single (setting_of w) q (map (read w L) segments) (Preludes id q.origin)

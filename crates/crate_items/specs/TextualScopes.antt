-- Which macros by `macro_rules!` are in textual scope in a module of a crate, and from where on.
use Rattle.std.specs.Prelude.{◌++◌, ◌&&◌, ◌||◌, ℕ, Bool, true, false, List, [], ◌∷◌, Option, Some, None, map, nat_lt, reverse, slice_get, slice_set, if◌then◌else◌}
use Rattle.std.specs.List.{find, list_any}
use Rattle.std.specs.Option.{option_map, option_map_or}
use Rattle.crate_items.specs.ItemAttributes.{body_kinds_from, file_attributes, item_attributes}
use Rattle.crate_items.specs.TextualOrders.{declaring, textual_from, textual_order}
use Rattle.crate_items.specs.declared.items.declared_item.DeclaredItem.{DeclaredItem}
use Rattle.crate_items.specs.declared.macros.textual_order.TextEvent.{TextEvent}
use Rattle.crate_items.specs.declared.macros.textual_order.TextEvent.TheVariants.{Begins, Ends, Item}
use Rattle.crate_items.specs.declared.macros.textual_order.TextualItem.{TextualItem}
use Rattle.crate_items.specs.declared.macros.textual_scopes.TextualMacro.{TextualMacro}
use Rattle.crate_items.specs.DeclaredModules.{Module}
use Rattle.crate_items.specs.Modules.{Listing}
use Rattle.crate_items.specs.Sources.{source_at}
use Rattle.crate_items.specs.declared.modules.declared_module.Declaration.{Declaration}
use Rattle.dm_base.specs.Names.{Name, same_name}
use Rattle.dm_base.specs.declared.ids.FileId.{FileId}
use Rattle.item_tree.specs.declared.attributes.attribute_kind.AttributeKind.{AttributeKind}
use Rattle.item_tree.specs.declared.attributes.attribute_kind.AttributeKind.TheVariants as says
use Rattle.item_tree.specs.declared.items.item_kind.ItemKind.{ItemKind}
use Rattle.item_tree.specs.declared.items.item_kind.ItemKind.TheVariants as item

-- ---- Modules that leave their macros

abbrev pub is_macro_use : AttributeKind → Bool
is_macro_use says.MacroUse = true
is_macro_use (says.MacroUseOf r) = true
is_macro_use _ = false

abbrev pub leaves_by : Listing → Option DeclaredItem → Bool
leaves_by l None = false
leaves_by l (Some x) = list_any is_macro_use (item_attributes l x)

abbrev pub begins_so : Listing → FileId → Option ℕ → Bool
begins_so l f (Some n) = list_any is_macro_use (body_kinds_from (source_at l.sources f) n)
begins_so l f None = list_any is_macro_use (file_attributes (source_at l.sources f))

-- the number of the item that declares a module
abbrev pub declared_at : List TextualItem → Option Declaration → Option ℕ
declared_at ts None = None
declared_at ts (Some d) = declaring ts d

-- an active `macro_use` stands before the item that declares the module, or its own file or its
-- braces begin with one
abbrev pub leaves : Listing → List DeclaredItem → Module → ℕ → Bool
leaves l xs m n = leaves_by l (slice_get xs n) || begins_so l m.file m.item

abbrev pub left_if : Listing → List DeclaredItem → Module → Option ℕ → Option ℕ
left_if l xs m None = None
left_if l xs m (Some n) = if leaves l xs m n then Some n else None

-- the item behind which a module leaves its macros, if it does: the one that declares it
abbrev pub left_behind : Listing → List DeclaredItem → List TextualItem → Module → Option ℕ
left_behind l xs ts m = left_if l xs m (declared_at ts m.declaration)

-- that of each module of the list
abbrev pub all_left : Listing → List DeclaredItem → List (Option ℕ)
all_left l xs = map (left_behind l xs (textual_from 0 xs)) l.modules

-- ---- Scopes

-- for each module the macros in its textual scope, in the order of definition: of one name the last counts. Each has the
-- item of the module behind which it is there; none, where it is there from the beginning of the module.
abbrev pub Scopes : Type 0
Scopes = List (List TextualMacro)

abbrev pub scope_at : Scopes → ℕ → List TextualMacro
scope_at ss m = option_map_or (λ s. s) (slice_get ss m) []

-- with these behind those of the module m
abbrev pub extended : Scopes → ℕ → List TextualMacro → Scopes
extended ss m more = option_map_or (λ s. slice_set ss m (s ++ more)) (slice_get ss m) ss

-- a macro as it is there behind an item, or from the beginning
abbrev pub entering : Option ℕ → TextualMacro → TextualMacro
entering n t = record { number = t.number; behind = n }

abbrev pub is_same : Option Name → Option Name → Bool
is_same (Some a) (Some b) = same_name a b
is_same _ _ = false

abbrev pub name_at : List DeclaredItem → ℕ → Option Name
name_at xs i = option_map_or (λ (x : DeclaredItem). x.name) (slice_get xs i) None

abbrev pub has_name_of : List DeclaredItem → ℕ → ℕ → Bool
has_name_of xs i j = is_same (name_at xs i) (name_at xs j)

-- a macro, unless one of those behind it has its name
abbrev pub if_last : List DeclaredItem → TextualMacro → List TextualMacro → List TextualMacro
if_last xs t behind = if list_any (λ (o : TextualMacro). has_name_of xs t.number o.number) behind then [] else t ∷ []

-- of each name the last
abbrev pub last_of_each : List DeclaredItem → List TextualMacro → List TextualMacro
last_of_each xs [] = []
last_of_each xs (t ∷ rest) = if_last xs t rest ++ last_of_each xs rest

abbrev pub parent_if : Option Declaration → Option ℕ
parent_if None = None
parent_if (Some d) = Some d.parent

abbrev pub parent_by : Option Module → Option ℕ
parent_by None = None
parent_by (Some m) = parent_if m.declaration

-- the module that a module stands in
abbrev pub parent_of : List Module → ℕ → Option ℕ
parent_of ms m = parent_by (slice_get ms m)

-- a module begins with what is in scope where it stands
abbrev pub begun : Scopes → ℕ → Option ℕ → Scopes
begun ss m None = ss
begun ss m (Some p) = extended ss m (map (entering None) (scope_at ss p))

-- the item behind which the module m leaves its macros
abbrev pub left_at : List (Option ℕ) → ℕ → Option ℕ
left_at left m = option_map_or (λ n. n) (slice_get left m) None

-- one under `macro_use` leaves the last macro of each name behind the item that declares it
abbrev pub ended : List DeclaredItem → Scopes → ℕ → Option ℕ → Option ℕ → Scopes
ended xs ss m (Some p) (Some n) = extended ss p (map (entering (Some n)) (last_of_each xs (scope_at ss m)))
ended xs ss m _ _ = ss

abbrev pub defines : ItemKind → Bool
defines item.MacroRules = true
defines _ = false

-- a macro is in scope behind its item, in the module that it stands in
abbrev pub defined : Scopes → ℕ → Option DeclaredItem → Scopes
defined ss i None = ss
defined ss i (Some x) = if defines x.kind then extended ss x.«module» (record { number = i; behind = Some i } ∷ []) else ss

abbrev pub met : List Module → List DeclaredItem → List (Option ℕ) → Scopes → TextEvent → Scopes
met ms xs left ss (Begins m) = begun ss m (parent_of ms m)
met ms xs left ss (Item i) = defined ss i (slice_get xs i)
met ms xs left ss (Ends m) = ended xs ss m (parent_of ms m) (left_at left m)

abbrev pub all_met : List Module → List DeclaredItem → List (Option ℕ) → Scopes → List TextEvent → Scopes
all_met ms xs left ss [] = ss
all_met ms xs left ss (e ∷ es) = all_met ms xs left (met ms xs left ss e) es

abbrev pub nothing_in : Module → List TextualMacro
nothing_in m = []

-- what is in scope in each module where it ends, where the modules leave their macros behind these items
abbrev pub scopes_by : List Module → List DeclaredItem → List (Option ℕ) → Scopes
scopes_by ms xs left = all_met ms xs left (map nothing_in ms) (textual_order ms xs)

-- The text of a crate from its beginning to its end: a module begins with what is in scope where it stands, a macro is in
-- scope behind its item, and a module under `macro_use` leaves the last macro of each name behind it.
abbrev pub textual_scopes : Listing → List DeclaredItem → Scopes
textual_scopes l xs = scopes_by l.modules xs (all_left l xs)

-- ---- The macro before an item

-- what stands behind an item is in scope before those that are behind it in the module
abbrev pub is_before : ℕ → Option ℕ → Bool
is_before u None = true
is_before u (Some n) = nat_lt n u

-- a macro of that name which is in scope before the item u of the module
abbrev pub is_meant : List DeclaredItem → ℕ → Name → TextualMacro → Bool
is_meant xs u name t = is_before u t.behind && is_same (name_at xs t.number) (Some name)

-- What a name means in textual scope at the item u of a module: of the macros of that name which are in scope before it, the
-- last.
abbrev pub macro_before : List DeclaredItem → List TextualMacro → ℕ → Name → Option ℕ
macro_before xs s u name = option_map (λ (t : TextualMacro). t.number) (find (is_meant xs u name) (reverse s))

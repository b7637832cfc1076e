-- Which macro a name means in textual scope before an item: worked rows.
use Rattle.std.specs.Prelude.{◌≡◌, ℕ, List, [], ◌∷◌, Option, Some, None, codes, map}
use Rattle.crate_items.specs.DeclaredModules.{Module}
use Rattle.crate_items.specs.Files.{id_of}
use Rattle.crate_items.specs.ModuleRows.{root}
use Rattle.crate_items.specs.TextualScopes.{macro_before, scope_at, scopes_by}
use Rattle.crate_items.specs.declared.items.declared_item.DeclaredItem.{DeclaredItem}
use Rattle.dm_base.specs.declared.fields_shape.FieldsShape.TheVariants as shape
use Rattle.dm_base.specs.Names.{Name}
use Rattle.item_tree.specs.declared.items.item_kind.ItemKind.{ItemKind}
use Rattle.item_tree.specs.declared.items.item_kind.ItemKind.TheVariants as item
use Rattle.item_tree.specs.declared.items.visibility.RawVisibility.TheVariants as raw

-- an item of the module m, at a place of the only file
abbrev pub row : ℕ → ℕ → ItemKind → Option Name → DeclaredItem
row m place kind name =
    record { «module» = m; file = id_of 0; item = place; kind = kind; name = name; visibility = None; shape = shape.Record }

-- `macro_rules! m`, a `use`, and `mod a` with braces
abbrev pub defines_m : ℕ → ℕ → DeclaredItem
defines_m m place = row m place item.MacroRules (Some (codes "m"))

abbrev pub uses : ℕ → ℕ → DeclaredItem
uses m place = row m place item.Use None

abbrev pub declares : ℕ → ℕ → DeclaredItem
declares m place = row m place item.Mod (Some (codes "a"))

-- the module that the item at that place of the module p declares
abbrev pub declared : ℕ → ℕ → Module
declared p place = record root {
  declaration = Some (record { parent = p; name = codes "a"; visibility = raw.Inherited; file = id_of 0; item = place });
  item = Some place;
}

-- what `m` means before some items, each with the module that it stands in; modules leave their macros behind these items
abbrev pub m_before : List Module → List DeclaredItem → List (Option ℕ) → List (ℕ × ℕ) → List (Option ℕ)
m_before ms xs left places =
    map (λ (p : ℕ × ℕ). macro_before xs (scope_at (scopes_by ms xs left) p.0) p.1 (codes "m")) places

-- `macro_rules! m` (0), `use m` (1), `macro_rules! m` (2), `use m` (3)
abbrev pub Redefined : Type 0
Redefined =
    m_before (root ∷ []) (defines_m 0 0 ∷ uses 0 1 ∷ defines_m 0 2 ∷ uses 0 3 ∷ []) (None ∷ []) ((0, 1) ∷ (0, 3) ∷ [])
    ≡ Some 0 ∷ Some 2 ∷ []

-- `use m` (0), `macro_rules! m` (1)
abbrev pub Late : Type 0
Late = m_before (root ∷ []) (uses 0 0 ∷ defines_m 0 1 ∷ []) (None ∷ []) ((0, 0) ∷ []) ≡ None ∷ []

-- `macro_rules! m` (0), `use m` (1), `mod a` (2) with `use m` (6), `macro_rules! m` (7), and `use m` (8), behind it `use m`
-- (3), `macro_rules! m` (4), `use m` (5)
abbrev pub inner_items : List DeclaredItem
inner_items =
    defines_m 0 0 ∷ uses 0 1 ∷ declares 0 2 ∷ uses 0 6 ∷ defines_m 0 7 ∷ uses 0 8
    ∷ uses 1 3 ∷ defines_m 1 4 ∷ uses 1 5 ∷ []

abbrev pub before_each_use : List (Option ℕ) → List (Option ℕ)
before_each_use left =
    m_before (root ∷ declared 0 2 ∷ []) inner_items left ((0, 1) ∷ (0, 3) ∷ (0, 5) ∷ (1, 6) ∷ (1, 8) ∷ [])

-- the scope of a macro in `a` ends with `a`
abbrev pub Inner : Type 0
Inner = before_each_use (None ∷ None ∷ []) ≡ Some 0 ∷ Some 0 ∷ Some 4 ∷ Some 0 ∷ Some 7 ∷ []

-- but for one under `macro_use`
abbrev pub Left : Type 0
Left = before_each_use (None ∷ Some 2 ∷ []) ≡ Some 0 ∷ Some 7 ∷ Some 4 ∷ Some 0 ∷ Some 7 ∷ []

-- `mod a` (0) with `mod a` (2), which has `macro_rules! m` (4), and with `use m` (3), and behind it `use m` (1)
abbrev pub nested_items : List DeclaredItem
nested_items = declares 0 0 ∷ uses 0 4 ∷ declares 1 1 ∷ uses 1 3 ∷ defines_m 2 2 ∷ []

abbrev pub before_nested : List (Option ℕ) → List (Option ℕ)
before_nested left =
    m_before (root ∷ declared 0 0 ∷ declared 1 1 ∷ []) nested_items left ((0, 1) ∷ (1, 3) ∷ [])

-- both modules have to leave it
abbrev pub Nested : Type 0
Nested = map before_nested
    ((None ∷ Some 0 ∷ Some 2 ∷ []) ∷ (None ∷ None ∷ Some 2 ∷ []) ∷ (None ∷ Some 0 ∷ None ∷ []) ∷ [])
    ≡ (Some 4 ∷ Some 4 ∷ []) ∷ (None ∷ Some 4 ∷ []) ∷ (None ∷ None ∷ []) ∷ []

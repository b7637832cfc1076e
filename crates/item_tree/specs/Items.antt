-- The items of a text, with those in modules, traits, implementations and extern blocks.
use Rattle.std.specs.Prelude.{◌+◌, ◌-◌, ◌++◌, ℕ, zero, suc, Bool, true, false, List, [], ◌∷◌, Option, Some, None, length, slice_get, nat_lt, if◌then◌else◌}
use Rattle.item_tree.specs.CfgIfs.{first_in, kind_behind, level_kind}
use Rattle.item_tree.specs.Trees.{trees_of}
use Rattle.item_tree.specs.declared.cfg.cfg_if.LevelKind.{LevelKind}
use Rattle.item_tree.specs.declared.cfg.cfg_if.LevelKind.TheVariants.{Items}
use Rattle.item_tree.specs.declared.items.item_kind.ItemKind.{ItemKind}
use Rattle.item_tree.specs.declared.items.item_kind.ItemKind.TheVariants as item
use Rattle.item_tree.specs.declared.items.item_parts.ItemParts.{ItemParts}
use Rattle.item_tree.specs.declared.items.Item.{Item}
use Rattle.item_tree.specs.declared.items.Level.{Level}
use Rattle.item_tree.specs.declared.items.ModKind.{ModKind}
use Rattle.item_tree.specs.declared.items.ModKind.TheVariants.{Inline, Outline}
use Rattle.item_tree.specs.declared.items.Range.{Range}
use Rattle.item_tree.specs.declared.lexer.lexeme.Delimiter.TheVariants.{Brace}
use Rattle.item_tree.specs.declared.lexer.lexeme.Lexeme.{Lexeme}
use Rattle.item_tree.specs.declared.lexer.lexeme.LexemeKind.{LexemeKind}
use Rattle.item_tree.specs.declared.lexer.lexeme.LexemeKind.TheVariants.{Open}
use Rattle.item_tree.specs.declared.lexer.trees.Tree.{Tree}

abbrev pub place_of : Option Tree → ℕ → ℕ
place_of None end = end
place_of (Some t) end = t.first

-- where the tree at a place begins; where the level ends, past the last
abbrev pub place_at : List Tree → ℕ → ℕ → ℕ
place_at ts i end = place_of (slice_get ts i) end

abbrev pub name_at : List Tree → Option ℕ → ℕ → Option ℕ
name_at ts None end = None
name_at ts (Some i) end = Some (place_at ts i end)

-- what stands between braces
abbrev pub body_of : LexemeKind → ℕ → ℕ → Option Range
body_of (Open Brace) first behind = if nat_lt first behind then Some (record { first = first + 1; behind = behind - 1 }) else None
body_of _ first behind = None

abbrev pub body_of_tree : Option Tree → Option Range
body_of_tree None = None
body_of_tree (Some t) = body_of t.kind t.first t.behind

abbrev pub body_at : List Tree → ℕ → Option Range
body_at ts i = body_of_tree (slice_get ts i)

-- the item with these parts that begins the trees of a level, which ends so
abbrev pub placed : Option ℕ → ℕ → ItemParts → List Tree → Item
placed parent end parts ts =
    record {
      kind = parts.kind;
      parent = parent;
      first = place_at ts 0 end;
      visibility = place_at ts parts.attributes end;
      qualifiers = place_at ts parts.visibility end;
      word = place_at ts parts.word end;
      name = name_at ts parts.name end;
      behind = place_at ts parts.len end;
      body = body_at ts (parts.len - 1);
      missing = parts.missing;
    }

-- the items of some trees of a level, but for the first so many, which are in an item before
abbrev pub items_from : LevelKind → Option ℕ → ℕ → ℕ → List Tree → List Item
items_from kind parent end skipped [] = []
items_from kind parent end zero (t ∷ ts) =
    placed parent end (first_in kind (t ∷ ts)) (t ∷ ts) ∷ items_from (kind_behind kind (first_in kind (t ∷ ts))) parent end ((first_in kind (t ∷ ts)).len - 1) ts
items_from kind parent end (suc n) (t ∷ ts) = items_from kind parent end n ts

-- the items of the trees of a level
abbrev pub items_of : LevelKind → Option ℕ → ℕ → List Tree → List Item
items_of kind parent end ts = items_from kind parent end 0 ts

-- the items of the lexemes of a level
abbrev pub level_of : List Lexeme → List ℕ → Option ℕ → Level → List Item
level_of lexemes partners parent level = items_of level.kind parent level.range.behind (trees_of lexemes partners level.range.first level.range.behind)

-- modules, traits, implementations and extern blocks have items in their bodies, and so have a `cfg_if!`, a `cfg_select!` and their arms
abbrev pub contains_items : ItemKind → Bool
contains_items item.Mod = true
contains_items item.Trait = true
contains_items item.Impl = true
contains_items item.ExternBlock = true
contains_items item.CfgIf = true
contains_items item.CfgSelect = true
contains_items item.CfgArm = true
contains_items _ = false

abbrev pub level_in : LevelKind → Option Range → Option Level
level_in kind None = None
level_in kind (Some range) = Some (record { kind = kind; range = range })

-- what stands in an item
abbrev pub inner_level : Item → Option Level
inner_level x = if contains_items x.kind then level_in (level_kind x.kind) x.body else None

abbrev pub inner_level_of : Option Item → Option Level
inner_level_of None = None
inner_level_of (Some x) = inner_level x

abbrev pub inner_level_at : List Item → ℕ → Option Level
inner_level_at items n = inner_level_of (slice_get items n)

abbrev pub mod_by : Option Range → ModKind
mod_by None = Outline
mod_by (Some range) = Inline range

-- a module without braces has its items in another file
abbrev pub mod_kind : Item → ModKind
mod_kind x = mod_by x.body

-- the items that stand in one of a number, in which there is this
abbrev pub within : List Lexeme → List ℕ → ℕ → Option Level → List Item
within lexemes partners n None = []
within lexemes partners n (Some level) = level_of lexemes partners (Some n) level

-- the items that stand in each of some items, the first of which has this number
abbrev pub children_from : List Lexeme → List ℕ → ℕ → List Item → List Item
children_from lexemes partners n [] = []
children_from lexemes partners n (x ∷ xs) = within lexemes partners n (inner_level x) ++ children_from lexemes partners (n + 1) xs

abbrev pub whole_text : List Lexeme → Level
whole_text lexemes = record { kind = Items; range = record { first = 0; behind = length lexemes } }

-- the items of the top level
abbrev pub top_level_of : List Lexeme → List ℕ → List Item
top_level_of lexemes partners = level_of lexemes partners None (whole_text lexemes)

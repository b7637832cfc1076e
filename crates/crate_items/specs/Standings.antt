-- Which items of a file a crate has, and in which module each stands.
use Rattle.std.specs.Prelude.{◌==◌, ◌+◌, ◌&&◌, ℕ, Bool, true, false, not, List, [], ◌∷◌, ◌++◌, ◌||◌, Option, Some, None, codes, length, nat_lt, slice_get, if◌then◌else◌}
use Rattle.std.specs.List.{list_any}
use Rattle.std.specs.Option.{option_map_or}
use Rattle.crate_items.specs.declared.modules.standing.Standing.{Standing}
use Rattle.item_tree.specs.AttributeKinds.{lexemes_in}
use Rattle.item_tree.specs.Attributes.{Table, is_active, may_hold, nodes_of, read}
use Rattle.item_tree.specs.Cfg.{has_flag, value_of}
use Rattle.item_tree.specs.CfgIfs.{is_arm}
use Rattle.item_tree.specs.Children.{children_of}
use Rattle.item_tree.specs.Heads.{is_bracket, is_mark}
use Rattle.item_tree.specs.ItemAttributes.{attributes_in, inner_range, is_cfg_enabled, outer_range}
use Rattle.item_tree.specs.Trees.{trees_of}
use Rattle.item_tree.specs.declared.attributes.attribute_kind.AttributeKind.{AttributeKind}
use Rattle.item_tree.specs.declared.attributes.attribute_kind.AttributeKind.TheVariants as says
use Rattle.item_tree.specs.declared.attributes.Attribute.{Attribute}
use Rattle.item_tree.specs.declared.cfg.CfgAtom.{CfgAtom}
use Rattle.item_tree.specs.declared.items.item_kind.ItemKind.{ItemKind}
use Rattle.item_tree.specs.declared.items.item_kind.ItemKind.TheVariants as item
use Rattle.item_tree.specs.declared.items.Item.{Item}
use Rattle.item_tree.specs.declared.items.Range.{Range}
use Rattle.item_tree.specs.declared.lexer.lexeme.Lexeme.{Lexeme}
use Rattle.item_tree.specs.declared.lexer.lexeme.LexemeKind.{LexemeKind}
use Rattle.item_tree.specs.declared.lexer.lexeme.LexemeKind.TheVariants.{Word}
use Rattle.item_tree.specs.declared.lexer.trees.Tree.{Tree}
use Rattle.item_tree.specs.declared.lexer.word.Word.TheVariants as word

-- a file as a crate reads it: the crate's options, the text, its lexemes with their partners, the
-- attributes, their active conditions, the items, and whether each `cfg` may hold that it begins with
pub record View : Type 0 where
  pub options : List CfgAtom
  pub text : List ℕ
  pub lexemes : List Lexeme
  pub partners : List ℕ
  pub attributes : Table
  pub active : List Bool
  pub items : List Item
  pub is_enabled : Bool

-- each `cfg` that begins in a range may hold
abbrev pub may_stand : View → Range → Bool
may_stand v r = is_cfg_enabled v.options v.text v.active r v.attributes

-- the inner attributes that the body of the item of a number begins with
abbrev pub body_attributes : List Item → ℕ → Option Range → Range
body_attributes items n None = record { first = 0; behind = 0 }
body_attributes items n (Some body) = inner_range body.first (children_of n items)

-- where the inner attributes end that some trees begin with: each is `#`, `!` and what brackets hold
abbrev pub leading_end : ℕ → List Tree → ℕ
leading_end end (a ∷ b ∷ c ∷ ts) =
    if is_mark 35 a.kind && is_mark 33 b.kind && is_bracket c.kind
    then leading_end c.behind ts
    else end
leading_end end _ = end

abbrev pub leading_range : ℕ → List Tree → Range
leading_range first ts = record { first = first; behind = leading_end first ts }

abbrev pub end_of : Option Tree → ℕ → ℕ
end_of None end = end
end_of (Some t) end = t.behind

abbrev pub begins_with_hash : Option Lexeme → Bool
begins_with_hash None = false
begins_with_hash (Some l) = is_mark 35 l.kind

-- those that the body of a function begins with, of which no items are read
abbrev pub function_attributes : List Lexeme → List ℕ → Range → Range
function_attributes ls ps body =
    if begins_with_hash (slice_get ls body.first)
    then leading_range body.first (trees_of ls ps body.first body.behind)
    else leading_range body.first []

abbrev pub inner_of : View → ℕ → ItemKind → Option Range → Range
inner_of v n item.Function (Some body) = function_attributes v.lexemes v.partners body
inner_of v n _ body = body_attributes v.items n body

-- ---- Tests

abbrev pub is_test_kind : AttributeKind → Bool
is_test_kind says.Test = true
is_test_kind says.Bench = true
is_test_kind _ = false

-- an attribute that is active makes a test of a function
abbrev pub makes_test : List Bool → Attribute → Bool
makes_test active a = is_active active a.condition && is_test_kind a.kind

abbrev pub has_test : View → Range → Bool
has_test v r = list_any (makes_test v.active) (attributes_in r v.attributes.attributes)

-- these have members, of which none is a test
abbrev pub has_members : ItemKind → Bool
has_members item.Trait = true
has_members item.Impl = true
has_members item.ExternBlock = true
has_members _ = false

abbrev pub is_member : List Item → Option ℕ → Bool
is_member items None = false
is_member items (Some p) = option_map_or (λ (o : Item). has_members o.kind) (slice_get items p) false

abbrev pub is_function : ItemKind → Bool
is_function item.Function = true
is_function _ = false

-- A function under `#[test]` or `#[bench]`, or whose body begins with such a one, is a test. On what is no function of a
-- module these are errors, and it stays.
abbrev pub is_test : View → Item → Range → Bool
is_test v x inner =
    is_function x.kind && not (is_member v.items x.parent) && (has_test v (outer_range x) || has_test v inner)

-- a crate has its tests where it is built with the option `test`
abbrev pub is_built : View → Item → Range → Bool
is_built v x inner = not (is_test v x inner) || has_flag v.options (codes "test")

-- ---- Arms of `cfg_select!`

abbrev pub is_underscore : LexemeKind → Bool
is_underscore (Word word.Underscore) = true
is_underscore _ = false

-- `_`, which always holds
abbrev pub is_wildcard : List Lexeme → Bool
is_wildcard ls = length ls == 1 && option_map_or (λ (l : Lexeme). is_underscore l.kind) (slice_get ls 0) false

-- some lexemes are a predicate that may hold, as that of a `cfg` does
abbrev pub predicate_holds : View → Range → Bool
predicate_holds v r = is_wildcard (lexemes_in v.lexemes r) || may_hold (value_of v.options v.text None None (nodes_of (read v.text v.lexemes r)))

-- an arm of `cfg_select!` has its predicate before its word; one of `cfg_if!` has none there
abbrev pub arm_holds : View → Item → Bool
arm_holds v x = not (is_arm x.kind && nat_lt x.qualifiers x.word) || predicate_holds v (record { first = x.qualifiers; behind = x.word })

-- an item's own `cfg`s may hold: its outer ones, and the inner ones that its body begins with; so may what an arm asks; and it
-- is no test of a crate that is built without
abbrev pub holds_with : View → Item → Range → Bool
holds_with v x inner = may_stand v (outer_range x) && may_stand v inner && is_built v x inner && arm_holds v x

abbrev pub holds : View → ℕ → Item → Bool
holds v n x = holds_with v x (inner_of v n x.kind x.body)

-- a `cfg_if!` or a `cfg_select!` and their arms: what is in them stands in the module around
abbrev pub is_choice : ItemKind → Bool
is_choice item.CfgIf = true
is_choice item.CfgSelect = true
is_choice item.CfgArm = true
is_choice _ = false

-- where what is in an item of a number stands, that stands so itself: in that item, or in the module around
abbrev pub inner_module : ItemKind → ℕ → Option ℕ → Option ℕ
inner_module kind n around = if is_choice kind then around else Some n

-- how the item stands that an item is in; the module of the file has all at the top level, and a file that begins with a
-- `cfg` that does not hold has nothing
abbrev pub of_file : View → Standing
of_file v = record { home = None; inner = None; is_configured = v.is_enabled }

abbrev pub or_of_file : View → Option Standing → Standing
or_of_file v None = of_file v
or_of_file v (Some s) = s

abbrev pub around : View → List Standing → Option ℕ → Standing
around v before None = of_file v
around v before (Some p) = or_of_file v (slice_get before p)

-- two arms of one call
abbrev pub are_same : Option ℕ → Option ℕ → Bool
are_same (Some a) (Some b) = a == b
are_same _ _ = false

-- an arm is passed over where one before it holds: the call that was chosen from is its own
abbrev pub is_passed : Option ℕ → Item → Bool
is_passed chosen x = is_arm x.kind && are_same chosen x.parent

-- the call of the last arm that holds, behind an item; the arms of one stand together
abbrev pub chosen_behind : Option ℕ → Item → Bool → Option ℕ
chosen_behind chosen x h = if is_arm x.kind && h then x.parent else chosen

-- how the item of a number stands, behind those before it: in the module that the item around it tells; and a crate has
-- it where its own `cfg`s may hold, the crate has the item around it, and it is no arm that is passed over
abbrev pub standing_of : Option ℕ → ℕ → Item → Bool → Standing → Standing
standing_of chosen n x h outer =
    record {
      home = outer.inner;
      inner = inner_module x.kind n outer.inner;
      is_configured = h && outer.is_configured && not (is_passed chosen x);
    }

-- how the items from a number on stand, behind those before them
abbrev pub standings_from : View → List Standing → Option ℕ → ℕ → List Item → List Standing
standings_from v before chosen n [] = before
standings_from v before chosen n (x ∷ xs) =
    standings_from v (before ++ standing_of chosen n x (holds v n x) (around v before x.parent) ∷ [])
    (chosen_behind chosen x (holds v n x)) (n + 1) xs

-- how each item of a file stands
abbrev pub standings : View → List Standing
standings v = standings_from v [] None 0 v.items

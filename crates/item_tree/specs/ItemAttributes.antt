-- The attributes of items, and whether they leave these where they are.
use Rattle.std.specs.Prelude.{◌&&◌, ◌||◌, ℕ, Bool, true, false, not, List, [], ◌∷◌, None, filter, nat_le, nat_lt, if◌then◌else◌}
use Rattle.std.specs.List.{list_all}
use Rattle.std.specs.List.Sorted.{IsNonDecreasingBy}
use Rattle.item_tree.specs.Attributes.{Table, nodes_in, may_hold, is_active}
use Rattle.item_tree.specs.Cfg.{value_of}
use Rattle.item_tree.specs.declared.attributes.attribute_kind.AttributeKind.{AttributeKind}
use Rattle.item_tree.specs.declared.attributes.attribute_kind.AttributeKind.TheVariants as says
use Rattle.item_tree.specs.declared.attributes.Attribute.{Attribute}
use Rattle.item_tree.specs.declared.cfg.CfgAtom.{CfgAtom}
use Rattle.item_tree.specs.declared.cfg.CfgNode.{CfgNode}
use Rattle.item_tree.specs.declared.items.item_kind.ItemKind.{ItemKind}
use Rattle.item_tree.specs.declared.items.item_kind.ItemKind.TheVariants as item
use Rattle.item_tree.specs.declared.items.Item.{Item}
use Rattle.item_tree.specs.declared.items.Range.{Range}

-- attributes in the order of their places
abbrev pub InOrder : List Attribute → Type 0
InOrder attributes = IsNonDecreasingBy (λ (a : Attribute). a.input.first) attributes

-- an attribute begins in a range: its input stands behind its first lexeme, which is one of these
abbrev pub begins_in : Range → Attribute → Bool
begins_in r a = nat_lt r.first a.input.first && nat_le a.input.first r.behind

abbrev pub attributes_in : Range → List Attribute → List Attribute
attributes_in r attributes = filter (begins_in r) attributes

-- a `cfg` leaves what it belongs to, unless it is known not to hold
abbrev pub leaves_kind : List CfgAtom → List ℕ → List CfgNode → AttributeKind → Bool
leaves_kind options text nodes (says.Cfg r) = may_hold (value_of options text None None (nodes_in nodes r))
leaves_kind options text nodes _ = true

-- and so does what is not active, and any other attribute
abbrev pub leaves : List CfgAtom → List ℕ → List CfgNode → List Bool → Attribute → Bool
leaves options text nodes active a = not (is_active active a.condition) || leaves_kind options text nodes a.kind

-- all attributes that begin in a range leave what they belong to
abbrev pub is_cfg_enabled : List CfgAtom → List ℕ → List Bool → Range → Table → Bool
is_cfg_enabled options text active r t = list_all (leaves options text t.nodes active) (attributes_in r t.attributes)

-- the outer attributes of an item stand before its visibility
abbrev pub outer_range : Item → Range
outer_range x = record { first = x.first; behind = x.visibility }

abbrev pub is_inner : ItemKind → Bool
is_inner item.InnerAttribute = true
is_inner _ = false

-- where the inner attributes end that the items of a level begin with
abbrev pub inner_end : ℕ → List Item → ℕ
inner_end at [] = at
inner_end at (x ∷ xs) = if is_inner x.kind then inner_end x.behind xs else at

-- the inner attributes of the module or file whose items begin at a place
abbrev pub inner_range : ℕ → List Item → Range
inner_range first items = record { first = first; behind = inner_end first items }

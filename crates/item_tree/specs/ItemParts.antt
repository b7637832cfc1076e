-- The parts of an item.
use Rattle.std.specs.Prelude.{◌==◌, ◌+◌, ◌&&◌, ℕ, Bool, List, Option, Some, None, length, drop, nat_lt, if◌then◌else◌}
use Rattle.item_tree.specs.Heads.{kind_at, is_mark, is_bracket, nothing, attributes_len, visibility_len, qualifiers_len}
use Rattle.item_tree.specs.ItemKinds.{item_kind}
use Rattle.item_tree.specs.ItemEnds.{item_end}
use Rattle.item_tree.specs.ItemNames.{name_place}
use Rattle.item_tree.specs.declared.items.item_end.ItemEnd.{ItemEnd}
use Rattle.item_tree.specs.declared.items.item_kind.ItemKind.{ItemKind}
use Rattle.item_tree.specs.declared.items.item_kind.ItemKind.TheVariants as item
use Rattle.item_tree.specs.declared.items.item_parts.ItemParts.{ItemParts}
use Rattle.item_tree.specs.declared.lexer.trees.Tree.{Tree}

abbrev pub from_item : ℕ → Option ℕ → Option ℕ
from_item word None = None
from_item word (Some i) = Some (word + i)

-- one tree at least, and the whole level at most
abbrev pub bounded : ℕ → ℕ → ℕ
bounded len size = if len == 0 then 1 else if nat_lt size len then size else len

-- an inner attribute is a hash, an exclamation mark and brackets
abbrev pub begins_inner_attribute : List Tree → Bool
begins_inner_attribute ts = is_mark 35 (kind_at ts 0) && is_mark 33 (kind_at ts 1) && is_bracket (kind_at ts 2)

abbrev pub inner_attribute : List Tree → ItemParts
inner_attribute ts = record { kind = item.InnerAttribute; attributes = 0; visibility = 0; word = 0; name = None; len = bounded 3 (length ts); missing = None }

abbrev pub parts_of : ItemKind → ItemEnd → ℕ → ℕ → ℕ → List Tree → ItemParts
parts_of k end attributes visibility word ts =
    record {
      kind = k;
      attributes = attributes;
      visibility = visibility;
      word = word;
      name = from_item word (name_place k (drop word ts));
      len = bounded (word + end.len) (length ts);
      missing = end.missing;
    }

abbrev pub parts_by : ItemKind → ℕ → ℕ → ℕ → List Tree → ItemParts
parts_by k attributes visibility word ts = parts_of k (item_end k (drop word ts)) attributes visibility word ts

-- the parts of an item whose own word stands at a place
abbrev pub parts : ℕ → ℕ → ℕ → List Tree → ItemParts
parts attributes visibility word ts = parts_by (item_kind (drop word ts)) attributes visibility word ts

-- behind attributes there may be a visibility, and behind that qualifiers
abbrev pub behind_visibility : ℕ → ℕ → List Tree → ItemParts
behind_visibility attributes visibility ts = parts attributes visibility (visibility + qualifiers_len nothing (drop visibility ts)) ts

abbrev pub behind_attributes : ℕ → List Tree → ItemParts
behind_attributes attributes ts = behind_visibility attributes (attributes + visibility_len (drop attributes ts)) ts

-- the item, error or inner attribute that begins the trees
unfoldable pub first_item : List Tree → ItemParts
first_item ts = if begins_inner_attribute ts then inner_attribute ts else behind_attributes (attributes_len nothing ts) ts

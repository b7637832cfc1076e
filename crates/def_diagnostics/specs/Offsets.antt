-- Where the parts of files begin that diagnostics are about.
use Rattle.std.specs.Prelude.{◌+◌, ◌-◌, ◌^◌, ℕ, Option, None, Some, min, slice_get}
use Rattle.def_diagnostics.specs.declared.diagnostic.Place.{Place}
use Rattle.def_diagnostics.specs.declared.diagnostic.Place.TheVariants as place
use Rattle.crate_items.specs.Sources.{Source}
use Rattle.dm_base.specs.declared.ids.UseTreeIdx.{UseTreeIdx}
use Rattle.item_tree.specs.Ids.{item_range, use_tree_range}
use Rattle.item_tree.specs.UseTrees.{use_trees_of}
use Rattle.item_tree.specs.declared.items.Item.{Item}
use Rattle.item_tree.specs.declared.items.Range.{Range}
use Rattle.item_tree.specs.declared.items.use_tree.UseTree.{UseTree}

-- an item begins with its attributes
abbrev pub item_offset : Source → Option Item → ℕ
item_offset s None = 0
item_offset s (Some x) = (item_range s.lexemes x).start

-- a use tree begins with its path; what is not there, with the item
abbrev pub tree_offset : Source → Option UseTree → ℕ → ℕ
tree_offset s None item = item
tree_offset s (Some t) item = (use_tree_range s.lexemes s.partners t).start

-- the use trees of a `use` stand behind its word
abbrev pub behind_word : Item → Range
behind_word x = record { first = min (x.word + 1) (2 ^ 64 - 1); behind = x.behind }

abbrev pub use_offset : Source → Option Item → UseTreeIdx → ℕ
use_offset s None t = 0
use_offset s (Some x) t =
    tree_offset s (slice_get (use_trees_of s.lexemes (behind_word x)) t.0) (item_offset s (Some x))

abbrev pub in_source : Source → Place → ℕ
in_source s (place.Item n) = item_offset s (slice_get s.items n)
in_source s (place.UseTree n t) = use_offset s (slice_get s.items n) t

-- where a part of a file begins
abbrev pub place_offset : Option Source → Place → ℕ
place_offset None p = 0
place_offset (Some s) p = in_source s p

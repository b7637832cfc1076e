-- The items of a file that a crate has, by the modules that they stand in.
use Rattle.std.specs.Prelude.{◌≡◌, ◌+◌, ◌&&◌, ◌++◌, ℕ, Bool, true, false, List, [], ◌∷◌, Option, Some, None, filter, slice_get, if◌then◌else◌}
use Rattle.std.specs.List.Sorted.{IsNonDecreasingBy, IsPermutation, IsSortedByKey, IsStableByKey}
use Rattle.std.specs.Ordering.{nat_cmp}
use Rattle.crate_items.specs.declared.items.file_items.Homed.{Homed}
use Rattle.crate_items.specs.Modules.{is_same}
use Rattle.crate_items.specs.Sources.{Source}
use Rattle.crate_items.specs.declared.modules.standing.Standing.{Standing}
use Rattle.item_tree.specs.declared.items.item_kind.ItemKind.{ItemKind}
use Rattle.item_tree.specs.declared.items.item_kind.ItemKind.TheVariants as item
use Rattle.item_tree.specs.declared.items.Item.{Item}

-- errors, inner attributes, and what only chooses among items are no items of a module
abbrev pub is_item : ItemKind → Bool
is_item item.Error = false
is_item item.InnerAttribute = false
is_item item.CfgIf = false
is_item item.CfgSelect = false
is_item item.CfgArm = false
is_item _ = true

abbrev pub is_block_kind : ItemKind → Bool
is_block_kind item.ExternBlock = true
is_block_kind _ = false

abbrev pub is_block : Option Item → Bool
is_block None = false
is_block (Some x) = is_block_kind x.kind

abbrev pub home_of : Option Standing → Option ℕ
home_of None = None
home_of (Some s) = s.home

-- what is in an `extern` block stands in the module around the block; none is the module of the file
abbrev pub module_around : Source → Option ℕ → Option ℕ
module_around s None = None
module_around s (Some n) = if is_block (slice_get s.items n) then home_of (slice_get s.standings n) else Some n

-- the item of a number, if it is one that the crate has: where it stands, and where it begins
abbrev pub homed_by : Source → ℕ → Item → Option Standing → List Homed
homed_by s n x None = []
homed_by s n x (Some h) =
    if is_item x.kind && h.is_configured
    then record { home = module_around s h.home; item = n; place = x.first } ∷ []
    else []

abbrev pub homed_from : Source → ℕ → List Item → List Homed
homed_from s n [] = []
homed_from s n (x ∷ xs) = homed_by s n x (slice_get s.standings n) ++ homed_from s (n + 1) xs

-- the items of a file, in the order of the item tree: level by level
abbrev pub items_known : Option Source → List Homed
items_known None = []
items_known (Some s) = homed_from s 0 s.items

abbrev pub place_of : Homed → ℕ
place_of x = x.place

-- the same in the order of the text
pub record IsInTextOrder (in_tree items : List Homed) : Type 0 where
  pub each_once : IsPermutation in_tree items
  pub in_order : IsSortedByKey place_of nat_cmp items
  pub stable : IsStableByKey place_of nat_cmp in_tree items

-- an item stands in the file's module (none) or in that of an item
abbrev pub stands_in : Option ℕ → Homed → Bool
stands_in home x = is_same x.home home

-- the file's module comes first, and any other by the number of its item
abbrev pub rank_of : Option ℕ → ℕ
rank_of None = 1
rank_of (Some n) = n + 2

abbrev pub rank : Homed → ℕ
rank x = rank_of x.home

-- the same by modules, those of each in the order of the text
abbrev pub AreByModule : List Homed → List Homed → Type 0
AreByModule in_tree items =
    IsNonDecreasingBy rank items
    × ((ordered : List Homed) × IsInTextOrder in_tree ordered
    × ((home : Option ℕ) → filter (stands_in home) items ≡ filter (stands_in home) ordered))

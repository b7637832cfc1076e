-- Which modules of a crate have no preludes.
use Rattle.std.specs.Prelude.{◌++◌, ◌||◌, ℕ, Bool, true, false, List, [], ◌∷◌, Option, Some, None, slice_get}
use Rattle.std.specs.List.{list_any}
use Rattle.std.specs.Option.{option_map_or}
use Rattle.crate_items.specs.DeclaredModules.{Module}
use Rattle.crate_items.specs.ItemAttributes.{body_kinds_from, file_attributes, kinds_from}
use Rattle.crate_items.specs.Modules.{Listing}
use Rattle.crate_items.specs.Sources.{source_at}
use Rattle.crate_items.specs.declared.modules.declared_module.Declaration.{Declaration}
use Rattle.dm_base.specs.declared.ids.FileId.{FileId}
use Rattle.item_tree.specs.declared.attributes.attribute_kind.AttributeKind.{AttributeKind}
use Rattle.item_tree.specs.declared.attributes.attribute_kind.AttributeKind.TheVariants as says

abbrev pub says_bare : AttributeKind → Bool
says_bare says.NoImplicitPrelude = true
says_bare _ = false

-- an active `no_implicit_prelude` stands before what declares a module
abbrev pub is_under : Listing → Option Declaration → Bool
is_under l o = option_map_or (λ (d : Declaration). list_any says_bare (kinds_from (source_at l.sources d.file) d.item)) o false

-- its braces or its own file begin with one
abbrev pub begins_so : Listing → FileId → Option ℕ → Bool
begins_so l f (Some n) = list_any says_bare (body_kinds_from (source_at l.sources f) n)
begins_so l f None = list_any says_bare (file_attributes (source_at l.sources f))

-- the module around it, which stands before it in the list, has no preludes
abbrev pub is_around : List Bool → Option Declaration → Bool
is_around before o = option_map_or (λ (d : Declaration). option_map_or (λ b. b) (slice_get before d.parent) false) o false

abbrev pub is_bare : Listing → List Bool → Module → Bool
is_bare l before m = is_under l m.declaration || (begins_so l m.file m.item || is_around before m.declaration)

abbrev pub bare_from : Listing → List Bool → List Module → List Bool
bare_from l before [] = before
bare_from l before (m ∷ ms) = bare_from l (before ++ is_bare l before m ∷ []) ms

-- of each module of a crate whether it has no preludes
abbrev pub bare_modules : Listing → List Bool
bare_modules l = bare_from l [] l.modules

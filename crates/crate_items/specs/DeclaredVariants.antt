-- The variants of enums.
use Rattle.std.specs.Prelude.{◌&&◌, ℕ, Bool, List, [], ◌∷◌, Option, Some, None, slice_get, if◌then◌else◌}
use Rattle.std.specs.List.{flat_map, list_any}
use Rattle.crate_items.specs.Constructors.{is_non_exhaustive as says_non_exhaustive}
use Rattle.crate_items.specs.DeclaredFields.{fields_in}
use Rattle.crate_items.specs.DeclaredItems.{written}
use Rattle.crate_items.specs.LexemeNames.{name_at}
use Rattle.crate_items.specs.Shapes.{as_shape}
use Rattle.crate_items.specs.declared.items.declared_item.DeclaredItem.{DeclaredItem}
use Rattle.crate_items.specs.declared.items.declared_variant.DeclaredVariant.{DeclaredVariant}
use Rattle.crate_items.specs.Files.{SourceFile, text_of}
use Rattle.crate_items.specs.ItemAttributes.{kinds_in}
use Rattle.crate_items.specs.Modules.{Listing}
use Rattle.crate_items.specs.Sources.{Source, source_at}
use Rattle.dm_base.specs.declared.visibility.RawVisibility.{RawVisibility}
use Rattle.dm_base.specs.Names.{Name}
use Rattle.item_tree.specs.ItemAttributes.{is_cfg_enabled}
use Rattle.item_tree.specs.Members.{members_of}
use Rattle.item_tree.specs.declared.cfg.CfgAtom.{CfgAtom}
use Rattle.item_tree.specs.declared.items.item_kind.ItemKind.{ItemKind}
use Rattle.item_tree.specs.declared.items.item_kind.ItemKind.TheVariants as item
use Rattle.item_tree.specs.declared.items.Item.{Item}
use Rattle.item_tree.specs.declared.items.Range.{Range}
use Rattle.item_tree.specs.declared.items.members.Member.{Member}
use Rattle.item_tree.specs.declared.items.members.MemberKind.TheVariants as members
use Rattle.item_tree.specs.declared.items.visibility.RawVisibility.{RawVisibility as Written}

-- where the attributes of a member stand
abbrev pub outer : Member → Range
outer m = record { first = m.first; behind = m.visibility }

-- a member has a name, and each `cfg` that stands before it may hold
abbrev pub is_left : List CfgAtom → List ℕ → Source → Member → Bool
is_left options text s m = m.named && is_cfg_enabled options text s.active (outer m) s.attributes

-- it stands under `#[non_exhaustive]`: then its crate alone sees its constructor
abbrev pub is_non_exhaustive : Source → Member → Bool
is_non_exhaustive s m = list_any says_non_exhaustive (kinds_in s (outer m))

abbrev pub of_name : Source → Member → Option Name → List RawVisibility → List DeclaredVariant
of_name s m None fields = []
of_name s m (Some name) fields =
    record { name = name; shape = as_shape m.fields.shape; fields = fields; is_non_exhaustive = is_non_exhaustive s m; place = m.name } ∷ []

-- the variant that a member is, if the crate has it: its fields are seen as the enum, before which that is written
abbrev pub variant_of : List CfgAtom → List ℕ → Source → Written → Member → List DeclaredVariant
variant_of options text s around m =
    if is_left options text s m
    then of_name s m (name_at text s.lexemes m.name) (fields_in options text s (Some around) m.fields)
    else []

abbrev pub variants_in_body : List CfgAtom → List ℕ → Source → Written → Option Range → List DeclaredVariant
variants_in_body options text s around None = []
variants_in_body options text s around (Some body) =
    flat_map (variant_of options text s around) (members_of members.Variant s.lexemes s.partners body)

-- an enum alone has variants
abbrev pub variants_of_item : List CfgAtom → List ℕ → Source → Item → ItemKind → List DeclaredVariant
variants_of_item options text s x item.Enum = variants_in_body options text s (written s.lexemes x) x.body
variants_of_item options text s x _ = []

abbrev pub variants_in : List CfgAtom → List ℕ → Source → Option Item → List DeclaredVariant
variants_in options text s None = []
variants_in options text s (Some x) = variants_of_item options text s x x.kind

abbrev pub variants_from : List CfgAtom → List ℕ → Option Source → ℕ → List DeclaredVariant
variants_from options text None n = []
variants_from options text (Some s) n = variants_in options text s (slice_get s.items n)

-- the variants of an enum that the crate has, in order
abbrev pub declared_variants : List CfgAtom → Listing → List SourceFile → DeclaredItem → List DeclaredVariant
declared_variants options l files x = variants_from options (text_of files x.file) (source_at l.sources x.file) x.item

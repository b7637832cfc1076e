-- The visibilities of fields, as they are written.
use Rattle.std.specs.Prelude.{◌&&◌, ℕ, Bool, true, List, [], ◌∷◌, Option, Some, None, slice_get, if◌then◌else◌}
use Rattle.std.specs.List.{flat_map}
use Rattle.crate_items.specs.RawVisibilities.{raw_of}
use Rattle.crate_items.specs.Files.{SourceFile, text_of}
use Rattle.crate_items.specs.Modules.{Listing}
use Rattle.crate_items.specs.Sources.{Source, source_at}
use Rattle.dm_base.specs.declared.visibility.RawVisibility.{RawVisibility}
use Rattle.dm_base.specs.declared.ids.FileId.{FileId}
use Rattle.item_tree.specs.Fields.{item_fields}
use Rattle.item_tree.specs.ItemAttributes.{is_cfg_enabled}
use Rattle.item_tree.specs.Members.{members_of}
use Rattle.item_tree.specs.Visibilities.{raw_visibility}
use Rattle.item_tree.specs.declared.cfg.CfgAtom.{CfgAtom}
use Rattle.item_tree.specs.declared.items.item_kind.ItemKind.{ItemKind}
use Rattle.item_tree.specs.declared.items.item_kind.ItemKind.TheVariants as item
use Rattle.item_tree.specs.declared.items.Item.{Item}
use Rattle.item_tree.specs.declared.lexer.lexeme.Lexeme.{Lexeme}
use Rattle.item_tree.specs.declared.items.members.Fields.{Fields}
use Rattle.item_tree.specs.declared.items.members.FieldsShape.{FieldsShape}
use Rattle.item_tree.specs.declared.items.members.FieldsShape.TheVariants as shape
use Rattle.item_tree.specs.declared.items.members.Member.{Member}
use Rattle.item_tree.specs.declared.items.members.MemberKind.{MemberKind}
use Rattle.item_tree.specs.declared.items.members.MemberKind.TheVariants as members
use Rattle.item_tree.specs.declared.items.visibility.RawVisibility.{RawVisibility as Written}

-- fields in braces have names, those in parentheses have none
abbrev pub field_kind : FieldsShape → Option MemberKind
field_kind shape.Record = Some members.RecordField
field_kind shape.Tuple = Some members.TupleField
field_kind shape.Unit = None

abbrev pub is_named : MemberKind → Member → Bool
is_named members.TupleField m = true
is_named _ m = m.named

-- the crate has a field that has its name, if its kind has one, and each `cfg` that stands before it may hold
abbrev pub is_left : List CfgAtom → List ℕ → Source → MemberKind → Member → Bool
is_left options text s k m =
    is_named k m && is_cfg_enabled options text s.active (record { first = m.first; behind = m.visibility }) s.attributes

-- a field of a variant is seen as its enum is, any other as it is written before it
abbrev pub field_written : List Lexeme → Option Written → Member → Written
field_written ls None m = raw_visibility ls (record { first = m.visibility; behind = m.name })
field_written ls (Some outer) m = outer

abbrev pub field_of : List CfgAtom → List ℕ → Source → Option Written → MemberKind → Member → List RawVisibility
field_of options text s outer k m =
    if is_left options text s k m then raw_of text s.lexemes (field_written s.lexemes outer m) ∷ [] else []

abbrev pub fields_by : List CfgAtom → List ℕ → Source → Option Written → Fields → Option MemberKind → List RawVisibility
fields_by options text s outer fs None = []
fields_by options text s outer fs (Some k) = flat_map (field_of options text s outer k) (members_of k s.lexemes s.partners fs.range)

-- the visibilities of the fields that the crate has, in order
abbrev pub fields_in : List CfgAtom → List ℕ → Source → Option Written → Fields → List RawVisibility
fields_in options text s outer fs = fields_by options text s outer fs (field_kind fs.shape)

-- structs and unions have fields of their own
abbrev pub fields_of_item : List CfgAtom → List ℕ → Source → Item → ItemKind → List RawVisibility
fields_of_item options text s x item.Struct = fields_in options text s None (item_fields s.lexemes s.partners x)
fields_of_item options text s x item.Union = fields_in options text s None (item_fields s.lexemes s.partners x)
fields_of_item options text s x _ = []

abbrev pub fields_if : List CfgAtom → List ℕ → Source → Option Item → List RawVisibility
fields_if options text s None = []
fields_if options text s (Some x) = fields_of_item options text s x x.kind

abbrev pub fields_from : List CfgAtom → List ℕ → Option Source → ℕ → List RawVisibility
fields_from options text None n = []
fields_from options text (Some s) n = fields_if options text s (slice_get s.items n)

-- The visibilities of the fields of the item of a number in a file that the crate has, in order, as they are written.
abbrev pub field_visibilities : List CfgAtom → Listing → List SourceFile → FileId → ℕ → List RawVisibility
field_visibilities options l files f n = fields_from options (text_of files f) (source_at l.sources f) n

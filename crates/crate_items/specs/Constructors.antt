-- Whom the constructors of structs are shown to.
use Rattle.std.specs.Prelude.{ℕ, Bool, true, false, List, Option, Some, None, fold, length, nat_lt, slice_get, ◌&&◌, if◌then◌else◌}
use Rattle.std.specs.List.{list_any}
use Rattle.crate_items.specs.DeclaredFields.{field_written, is_left}
use Rattle.crate_items.specs.DeclaredItems.{written}
use Rattle.crate_items.specs.declared.items.constructor.WrittenVisibility.{WrittenVisibility}
use Rattle.crate_items.specs.declared.items.declared_item.DeclaredItem.{DeclaredItem}
use Rattle.crate_items.specs.declared.modules.module_visibility.DeclaredVisibility.{DeclaredVisibility}
use Rattle.crate_items.specs.declared.modules.module_visibility.DeclaredVisibility.TheVariants.{Public, Within}
use Rattle.crate_items.specs.Files.{SourceFile, text_of}
use Rattle.crate_items.specs.ItemAttributes.{item_attributes}
use Rattle.crate_items.specs.ModuleVisibilities.{visibility_in}
use Rattle.crate_items.specs.Modules.{Listing}
use Rattle.crate_items.specs.Sources.{Source, source_at}
use Rattle.dm_base.specs.declared.edition.Edition.{Edition}
use Rattle.item_tree.specs.Fields.{item_fields}
use Rattle.item_tree.specs.Members.{members_of}
use Rattle.item_tree.specs.declared.attributes.attribute_kind.AttributeKind.{AttributeKind}
use Rattle.item_tree.specs.declared.attributes.attribute_kind.AttributeKind.TheVariants as says
use Rattle.item_tree.specs.declared.cfg.CfgAtom.{CfgAtom}
use Rattle.item_tree.specs.declared.items.item_kind.ItemKind.{ItemKind}
use Rattle.item_tree.specs.declared.items.item_kind.ItemKind.TheVariants as item
use Rattle.item_tree.specs.declared.items.Item.{Item}
use Rattle.item_tree.specs.declared.items.members.Fields.{Fields}
use Rattle.item_tree.specs.declared.items.members.FieldsShape.{FieldsShape}
use Rattle.item_tree.specs.declared.items.members.FieldsShape.TheVariants as shape
use Rattle.item_tree.specs.declared.items.members.Member.{Member}
use Rattle.item_tree.specs.declared.items.members.MemberKind.TheVariants.{TupleField}
use Rattle.item_tree.specs.declared.items.visibility.RawVisibility.TheVariants.{Inherited, PubCrate}

-- One visibility shows to fewer than another. Both are those of one module, so that the modules which they name stand in
-- each other: the inner one is listed behind the outer. One that leads nowhere shows to all.
abbrev pub shows_fewer : Option DeclaredVisibility → Option DeclaredVisibility → Bool
shows_fewer (Some (Within inner)) None = true
shows_fewer (Some (Within inner)) (Some Public) = true
shows_fewer (Some (Within inner)) (Some (Within outer)) = nat_lt outer inner
shows_fewer _ _ = false

abbrev pub lesser : WrittenVisibility → WrittenVisibility → WrittenVisibility
lesser v f = if shows_fewer f.shown v.shown then f else v

-- a field as it is written in the module of a number
abbrev pub field_shown : Edition → Listing → List ℕ → Source → ℕ → Member → WrittenVisibility
field_shown edition l text s n m =
    let w = field_written s.lexemes None m in
    record { written = w; shown = visibility_in l edition text n w }

-- with a field, if the crate has it
abbrev pub with_field : List CfgAtom → Edition → Listing → List ℕ → Source → ℕ → WrittenVisibility → Member → WrittenVisibility
with_field options edition l text s n v m =
    if is_left options text s TupleField m then lesser v (field_shown edition l text s n m) else v

-- fields in parentheses count, as names alone construct nothing
abbrev pub with_fields : List CfgAtom → Edition → Listing → List ℕ → Source → ℕ → WrittenVisibility → Fields → FieldsShape → WrittenVisibility
with_fields options edition l text s n v fs shape.Tuple =
    fold (with_field options edition l text s n) v (members_of TupleField s.lexemes s.partners fs.range)
with_fields options edition l text s n v fs _ = v

abbrev pub of_item : List CfgAtom → Edition → Listing → List ℕ → Source → ℕ → WrittenVisibility → Item → ItemKind → WrittenVisibility
of_item options edition l text s n v x item.Struct =
    let fs = item_fields s.lexemes s.partners x in
    with_fields options edition l text s n v fs fs.shape
of_item options edition l text s n v x _ = v

abbrev pub of_known : List CfgAtom → Edition → Listing → List ℕ → Source → ℕ → Option DeclaredVisibility → Option Item → WrittenVisibility
of_known options edition l text s n shown None = record { written = Inherited; shown = shown }
of_known options edition l text s n shown (Some x) =
    of_item options edition l text s n (record { written = written s.lexemes x; shown = shown }) x x.kind

abbrev pub of_source : List CfgAtom → Edition → Listing → List ℕ → Option Source → ℕ → ℕ → Option DeclaredVisibility → WrittenVisibility
of_source options edition l text None i n shown = record { written = Inherited; shown = shown }
of_source options edition l text (Some s) i n shown = of_known options edition l text s n shown (slice_get s.items i)

-- by the item and its fields alone
abbrev pub by_fields : List CfgAtom → Edition → Listing → List SourceFile → DeclaredItem → WrittenVisibility
by_fields options edition l files x =
    if nat_lt x.«module» (length l.modules)
    then of_source options edition l (text_of files x.file) (source_at l.sources x.file) x.item x.«module» x.visibility
    else record { written = Inherited; shown = x.visibility }

abbrev pub is_non_exhaustive : AttributeKind → Bool
is_non_exhaustive says.NonExhaustive = true
is_non_exhaustive _ = false

abbrev pub is_struct : ItemKind → Bool
is_struct item.Struct = true
is_struct _ = false

abbrev pub within_crate : WrittenVisibility
within_crate = record { written = PubCrate; shown = Some (Within 0) }

-- The constructor of a struct is shown to those to whom the struct is shown, and each of its fields that the crate has; under
-- `#[non_exhaustive]` within the crate alone. What is no struct has its own visibility.
abbrev pub constructor_visibility : List CfgAtom → Edition → Listing → List SourceFile → DeclaredItem → WrittenVisibility
constructor_visibility options edition l files x =
    if is_struct x.kind && list_any is_non_exhaustive (item_attributes l x)
    then lesser (by_fields options edition l files x) within_crate
    else by_fields options edition l files x

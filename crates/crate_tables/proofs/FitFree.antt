-- Visibilities that a text writes hold no ids: no path of a text begins with `$crate`.
use Rattle.std.proofs.Common.{◌≡◌, ◌+◌, ℕ, Bool, true, false, cond, List, [], ◌∷◌, ◌++◌, Option, None, Some, length, slice_get, refl}
use Rattle.std.specs.Prelude.{◌==◌, ◌&&◌, drop, nat_lt}
use Rattle.std.specs.List.{AllByRecursion, flat_map, prefix_len}
use Rattle.crate_tables.proofs.AllLemmas.{all-append, all-left, all-right}
use Rattle.crate_items.specs.DeclaredFields as fields
use Rattle.crate_items.specs.DeclaredVariants as variants
use Rattle.crate_items.specs.RawVisibilities as raws
use Rattle.crate_items.specs.UsePaths as paths
use Rattle.crate_items.specs.DeclaredItems.{written as written_before}
use Rattle.crate_items.specs.Files.{SourceFile, text_of}
use Rattle.crate_items.specs.LexemeNames.{kind_at, name_at}
use Rattle.crate_items.specs.Modules.{Listing}
use Rattle.crate_items.specs.Sources.{Source, source_at}
use Rattle.crate_items.specs.declared.items.declared_item.DeclaredItem.{DeclaredItem}
use Rattle.crate_items.specs.declared.items.declared_variant.DeclaredVariant.{DeclaredVariant}
use Rattle.dm_base.specs.Names.{Name}
use Rattle.dm_base.specs.Path.{Path}
use Rattle.dm_base.specs.declared.ids.FileId.{FileId}
use Rattle.dm_base.specs.declared.mod_path.PathKind.{PathKind}
use Rattle.dm_base.specs.declared.mod_path.PathKind.TheVariants as path
use Rattle.dm_base.specs.declared.visibility.RawVisibility.{RawVisibility}
use Rattle.dm_maps.specs.Holding.{path_holds}
use Rattle.dm_maps.specs.TablesHold.{raw_holds}
use Rattle.dm_maps.specs.declared.check.held.HeldId.{HeldId}
use Rattle.item_tree.specs.AttributeKinds.{lexemes_in}
use Rattle.item_tree.specs.Imports.{segments_from}
use Rattle.item_tree.specs.Fields.{item_fields}
use Rattle.item_tree.specs.Members.{members_of}
use Rattle.item_tree.specs.declared.cfg.CfgAtom.{CfgAtom}
use Rattle.item_tree.specs.declared.items.Item.{Item}
use Rattle.item_tree.specs.declared.items.Range.{Range}
use Rattle.item_tree.specs.declared.items.item_kind.ItemKind.{ItemKind}
use Rattle.item_tree.specs.declared.items.item_kind.ItemKind.TheVariants as item
use Rattle.item_tree.specs.declared.items.members.Fields.{Fields}
use Rattle.item_tree.specs.declared.items.members.Member.{Member}
use Rattle.item_tree.specs.declared.items.members.MemberKind.{MemberKind}
use Rattle.item_tree.specs.declared.items.members.MemberKind.TheVariants as members
use Rattle.item_tree.specs.declared.items.visibility.RawVisibility.{RawVisibility as Written}
use Rattle.item_tree.specs.declared.items.visibility.RawVisibility.TheVariants as written
use Rattle.item_tree.specs.declared.lexer.lexeme.Lexeme.{Lexeme}
use Rattle.item_tree.specs.declared.lexer.lexeme.LexemeKind.{LexemeKind}
use Rattle.item_tree.specs.declared.lexer.lexeme.LexemeKind.TheVariants.{Mark, Word}
use Rattle.item_tree.specs.declared.lexer.word.Word.TheVariants as word

module _ (P : HeldId → Type 0) where
  abbrev IsFree : PathKind → Type 0
  IsFree k = AllByRecursion P (path_holds k)

  abbrev LeadsFree : Option Path → Type 0
  LeadsFree None = Unit {0}
  LeadsFree (Some p) = IsFree p.kind

  of_names-free : (k : PathKind) (len : ℕ) (names : List Name) → IsFree k → LeadsFree (paths.of_names k len names)
  of_names-free k len names free = by (length names == len)
    where
      by : (b : Bool) → LeadsFree (cond b (Some (record { kind = k; segments = names })) None)
      by true = free
      by false = tt

  module _ (text : List ℕ) (ls : List Lexeme) (places : List ℕ) where
    outwards-free : (n len : ℕ) → LeadsFree (paths.path_from text ls places (paths.outwards n len))
    outwards-free n len = by (nat_lt n 256)
      where
        by : (b : Bool) → LeadsFree (paths.path_from text ls places (cond b (Some (record { kind = path.Super n; len = len })) None))
        by true = of_names-free (path.Super n) _ _ tt
        by false = tt

    marked-free : (n : ℕ) → LeadsFree (paths.path_from text ls places (Some (paths.marked n)))
    marked-free n = by (n == 58)
      where
        by : (b : Bool) → LeadsFree (paths.path_from text ls places (Some (cond b (record { kind = path.Abs; len = 1 }) paths.plain)))
        by true = of_names-free path.Abs _ _ tt
        by false = of_names-free path.Plain _ _ tt

    start-free : (k : LexemeKind) (n : ℕ) → LeadsFree (paths.path_from text ls places (paths.start_with k n))
    start-free (Mark b) n = marked-free b
    start-free (Word word.Crate) n = of_names-free path.Crate _ _ tt
    start-free (Word word.SelfValue) n = outwards-free n (n + 1)
    start-free (Word word.Super) n = outwards-free (n + 1) (n + 1)
    start-free _ n = of_names-free path.Plain _ _ tt

  path-free : (text : List ℕ) (ls : List Lexeme) (places : List ℕ) → LeadsFree (paths.path_of text ls places)
  path-free text ls [] = of_names-free path.Plain 0 [] tt
  path-free text ls (p ∷ ps) = start-free text ls (p ∷ ps) (kind_at ls p) (prefix_len (paths.is_super_at ls) ps)

  along-free : (p : Option Path) → LeadsFree p → AllByRecursion P (raw_holds (raws.along p))
  along-free None free = tt
  along-free (Some p) free = free

  path_in-free : (text : List ℕ) (ls : List Lexeme) (r : Range) → LeadsFree (raws.path_in text ls r)
  path_in-free text ls r = by (nat_lt r.first r.behind && nat_lt r.first (length ls))
    where
      by : (b : Bool) → LeadsFree (cond b (paths.path_of text ls (segments_from r.first 0 (lexemes_in ls r))) None)
      by true = path-free text ls (segments_from r.first 0 (lexemes_in ls r))
      by false = tt

  raw-free : (text : List ℕ) (ls : List Lexeme) (v : Written) → AllByRecursion P (raw_holds (raws.raw_of text ls v))
  raw-free text ls written.Inherited = tt
  raw-free text ls written.Public = tt
  raw-free text ls written.PubCrate = tt
  raw-free text ls written.PubSuper = tt
  raw-free text ls written.PubSelf = tt
  raw-free text ls (written.In r) = along-free (raws.path_in text ls r) (path_in-free text ls r)
  raw-free text ls written.Error = tt

  -- that of an item
  item-free : (text : List ℕ) (s : Source) (x : Option Item) → AllByRecursion P (raw_holds (raws.item_raw text s x))
  item-free text s None = tt
  item-free text s (Some x) = raw-free text s.lexemes (written_before s.lexemes x)

  raw_from-free : (text : List ℕ) (s : Option Source) (n : ℕ) → AllByRecursion P (raw_holds (raws.raw_from text s n))
  raw_from-free text None n = tt
  raw_from-free text (Some s) n = item-free text s (slice_get s.items n)

  pub visibility-free : (l : Listing) (files : List SourceFile) (f : FileId) (n : ℕ) → AllByRecursion P (raw_holds (raws.item_visibility l files f n))
  visibility-free l files f n = raw_from-free (text_of files f) (source_at l.sources f) n

  -- ---- Those of fields

  field-free : (options : List CfgAtom) (text : List ℕ) (s : Source) (outer : Option Written) (k : MemberKind) (m : Member) → AllByRecursion P (flat_map raw_holds (fields.field_of options text s outer k m))
  field-free options text s outer k m = by (fields.is_left options text s k m)
    where
      by : (b : Bool) → AllByRecursion P (flat_map raw_holds (cond b (raws.raw_of text s.lexemes (fields.field_written s.lexemes outer m) ∷ []) []))
      by true = all-append P (raw_holds (raws.raw_of text s.lexemes (fields.field_written s.lexemes outer m))) [] (raw-free text s.lexemes (fields.field_written s.lexemes outer m)) tt
      by false = tt

  joined-free : (xs ys : List RawVisibility) → AllByRecursion P (flat_map raw_holds xs) → AllByRecursion P (flat_map raw_holds ys) → AllByRecursion P (flat_map raw_holds (xs ++ ys))
  joined-free [] ys h g = g
  joined-free (x ∷ xs) ys h g = all-append P (raw_holds x) (flat_map raw_holds (xs ++ ys)) (all-left P (raw_holds x) (flat_map raw_holds xs) h) (joined-free xs ys (all-right P (raw_holds x) (flat_map raw_holds xs) h) g)

  members-free : (options : List CfgAtom) (text : List ℕ) (s : Source) (outer : Option Written) (k : MemberKind) (ms : List Member) → AllByRecursion P (flat_map raw_holds (flat_map (fields.field_of options text s outer k) ms))
  members-free options text s outer k [] = tt
  members-free options text s outer k (m ∷ ms) =
      joined-free (fields.field_of options text s outer k m) (flat_map (fields.field_of options text s outer k) ms) (field-free options text s outer k m) (members-free options text s outer k ms)

  fields_by-free : (options : List CfgAtom) (text : List ℕ) (s : Source) (outer : Option Written) (fs : Fields) (k : Option MemberKind) → AllByRecursion P (flat_map raw_holds (fields.fields_by options text s outer fs k))
  fields_by-free options text s outer fs None = tt
  fields_by-free options text s outer fs (Some k) = members-free options text s outer k (members_of k s.lexemes s.partners fs.range)

  fields_in-free : (options : List CfgAtom) (text : List ℕ) (s : Source) (outer : Option Written) (fs : Fields) → AllByRecursion P (flat_map raw_holds (fields.fields_in options text s outer fs))
  fields_in-free options text s outer fs = fields_by-free options text s outer fs (fields.field_kind fs.shape)

  fields_of_item-free : (options : List CfgAtom) (text : List ℕ) (s : Source) (x : Item) (k : ItemKind) → AllByRecursion P (flat_map raw_holds (fields.fields_of_item options text s x k))
  fields_of_item-free options text s x item.Struct = fields_in-free options text s None (item_fields s.lexemes s.partners x)
  fields_of_item-free options text s x item.Union = fields_in-free options text s None (item_fields s.lexemes s.partners x)
  fields_of_item-free options text s x _ = tt

  fields_if-free : (options : List CfgAtom) (text : List ℕ) (s : Source) (x : Option Item) → AllByRecursion P (flat_map raw_holds (fields.fields_if options text s x))
  fields_if-free options text s None = tt
  fields_if-free options text s (Some x) = fields_of_item-free options text s x x.kind

  fields_from-free : (options : List CfgAtom) (text : List ℕ) (s : Option Source) (n : ℕ) → AllByRecursion P (flat_map raw_holds (fields.fields_from options text s n))
  fields_from-free options text None n = tt
  fields_from-free options text (Some s) n = fields_if-free options text s (slice_get s.items n)

  pub fields-free : (options : List CfgAtom) (l : Listing) (files : List SourceFile) (f : FileId) (n : ℕ) → AllByRecursion P (flat_map raw_holds (fields.field_visibilities options l files f n))
  fields-free options l files f n = fields_from-free options (text_of files f) (source_at l.sources f) n

  -- ---- Those of the fields of variants

  abbrev pub IsFreeVariant : DeclaredVariant → Type 0
  IsFreeVariant v = AllByRecursion P (flat_map raw_holds v.fields)

  abbrev AreFreeVariants : List DeclaredVariant → Type 0
  AreFreeVariants vs = AllByRecursion IsFreeVariant vs

  named-free : (s : Source) (m : Member) (n : Option Name) (vs : List RawVisibility) → AllByRecursion P (flat_map raw_holds vs) → AreFreeVariants (variants.of_name s m n vs)
  named-free s m None vs free = tt
  named-free s m (Some n) vs free = (free, tt)

  variant-free : (options : List CfgAtom) (text : List ℕ) (s : Source) (outer : Written) (m : Member) → AreFreeVariants (variants.variant_of options text s outer m)
  variant-free options text s outer m = by (variants.is_left options text s m)
    where
      by : (b : Bool) → AreFreeVariants (cond b (variants.of_name s m (name_at text s.lexemes m.name) (fields.fields_in options text s (Some outer) m.fields)) [])
      by true = named-free s m (name_at text s.lexemes m.name) (fields.fields_in options text s (Some outer) m.fields) (fields_in-free options text s (Some outer) m.fields)
      by false = tt

  body-free : (options : List CfgAtom) (text : List ℕ) (s : Source) (outer : Written) (r : Option Range) → AreFreeVariants (variants.variants_in_body options text s outer r)
  body-free options text s outer None = tt
  body-free options text s outer (Some r) = all-flat (members_of members.Variant s.lexemes s.partners r)
    where
      all-flat : (ms : List Member) → AreFreeVariants (flat_map (variants.variant_of options text s outer) ms)
      all-flat [] = tt
      all-flat (m ∷ ms) = all-append IsFreeVariant (variants.variant_of options text s outer m) (flat_map (variants.variant_of options text s outer) ms) (variant-free options text s outer m) (all-flat ms)

  of_item-free : (options : List CfgAtom) (text : List ℕ) (s : Source) (x : Item) (k : ItemKind) → AreFreeVariants (variants.variants_of_item options text s x k)
  of_item-free options text s x item.Enum = body-free options text s (written_before s.lexemes x) x.body
  of_item-free options text s x _ = tt

  in-free : (options : List CfgAtom) (text : List ℕ) (s : Source) (x : Option Item) → AreFreeVariants (variants.variants_in options text s x)
  in-free options text s None = tt
  in-free options text s (Some x) = of_item-free options text s x x.kind

  from-free : (options : List CfgAtom) (text : List ℕ) (s : Option Source) (n : ℕ) → AreFreeVariants (variants.variants_from options text s n)
  from-free options text None n = tt
  from-free options text (Some s) n = in-free options text s (slice_get s.items n)

  pub variants-free : (options : List CfgAtom) (l : Listing) (files : List SourceFile) (x : DeclaredItem) → AreFreeVariants (variants.declared_variants options l files x)
  variants-free options l files x = from-free options (text_of files x.file) (source_at l.sources x.file) x.item

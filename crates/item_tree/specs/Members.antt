-- The fields of structs, unions and variants, and the variants of enums.
use Rattle.std.specs.Prelude.{◌==◌, ◌+◌, ◌-◌, ◌&&◌, ℕ, zero, suc, Bool, true, false, not, List, [], ◌∷◌, Option, Some, None, length, drop, slice_get, nat_lt, if◌then◌else◌}
use Rattle.item_tree.specs.Heads.{kind_at, is_mark, is_parenthesis, nothing, attributes_len}
use Rattle.item_tree.specs.ItemKinds.{is_name}
use Rattle.item_tree.specs.ItemParts.{bounded}
use Rattle.item_tree.specs.Items.{place_at}
use Rattle.item_tree.specs.Trees.{trees_of}
use Rattle.item_tree.specs.Values.{is_joint, nested}
use Rattle.item_tree.specs.Visibilities.{lexeme_at}
use Rattle.item_tree.specs.declared.items.Range.{Range}
use Rattle.item_tree.specs.declared.lexer.lexeme.Delimiter.TheVariants.{Parenthesis, Brace}
use Rattle.item_tree.specs.declared.lexer.lexeme.Lexeme.{Lexeme}
use Rattle.item_tree.specs.declared.lexer.lexeme.LexemeKind.{LexemeKind}
use Rattle.item_tree.specs.declared.lexer.lexeme.LexemeKind.TheVariants.{Word, Open, Close}
use Rattle.item_tree.specs.declared.items.members.Fields.{Fields}
use Rattle.item_tree.specs.declared.items.members.FieldsShape.TheVariants as shape
use Rattle.item_tree.specs.declared.items.members.Member.{Member}
use Rattle.item_tree.specs.declared.items.members.MemberKind.{MemberKind}
use Rattle.item_tree.specs.declared.items.members.MemberKind.TheVariants.{Variant, RecordField, TupleField}
use Rattle.item_tree.specs.declared.items.members.MemberParts.{MemberParts}
use Rattle.item_tree.specs.declared.items.values.MemberPart.TheVariants.{Declared}
use Rattle.item_tree.specs.declared.items.values.Nesting.{Nesting}
use Rattle.item_tree.specs.declared.lexer.trees.Tree.{Tree}
use Rattle.item_tree.specs.declared.lexer.word.Word.TheVariants as word

abbrev pub no_fields : ℕ → Fields
no_fields i = record { shape = shape.Unit; range = record { first = i; behind = i } }

abbrev pub fields_by : LexemeKind → ℕ → ℕ → Fields
fields_by (Open Brace) first behind = record { shape = shape.Record; range = record { first = first + 1; behind = behind - 1 } }
fields_by (Open Parenthesis) first behind = record { shape = shape.Tuple; range = record { first = first + 1; behind = behind - 1 } }
fields_by _ first behind = no_fields first

-- braces have fields with names, and parentheses fields without
abbrev pub group_fields : LexemeKind → ℕ → ℕ → Fields
group_fields k first behind = if nat_lt first behind then fields_by k first behind else no_fields first

abbrev pub fields_of_tree : Option Tree → Fields
fields_of_tree None = no_fields 0
fields_of_tree (Some t) = group_fields t.kind t.first t.behind

abbrev pub fields_at : List Tree → ℕ → Fields
fields_at ts i = fields_of_tree (slice_get ts i)

abbrev pub closes : LexemeKind → Bool
closes (Close Parenthesis) = true
closes _ = false

-- parentheses behind `pub` belong to it if they have `crate`, `super` or `self` alone, or begin with `in`
abbrev pub restricts : LexemeKind → LexemeKind → Bool
restricts (Word word.In) next = true
restricts (Word word.Crate) next = closes next
restricts (Word word.Super) next = closes next
restricts (Word word.SelfValue) next = closes next
restricts _ next = false

abbrev pub restricts_at : List Lexeme → ℕ → Bool
restricts_at ls i = restricts (lexeme_at (drop i ls) 1) (lexeme_at (drop i ls) 2)

abbrev pub visibility_of : LexemeKind → Bool → ℕ
visibility_of (Word word.Pub) restricted = if restricted then 2 else 1
visibility_of _ restricted = 0

-- how many trees of a visibility the trees of a field begin with; other parentheses behind `pub` are a type
abbrev pub visibility_len : List Lexeme → List Tree → ℕ
visibility_len ls ts = visibility_of (kind_at ts 0) (is_parenthesis (kind_at ts 1) && restricts_at ls (place_at ts 1 0))

-- a field in braces may have `unsafe` before its name; elsewhere that begins a type
abbrev pub is_unsafe : MemberKind → LexemeKind → Bool
is_unsafe RecordField (Word word.Unsafe) = true
is_unsafe kind k = false

-- a comma outside of angle brackets and of a closure's bars ends a member
abbrev pub ends_member : ℕ → LexemeKind → Bool
ends_member depth k = is_mark 44 k && (depth == 0)

-- how a member begins: with a name, or a type
abbrev pub start : Nesting
start = record { part = Declared; depth = 0 }

abbrev pub before_comma : List Lexeme → Nesting → LexemeKind → List Tree → ℕ
before_comma ls n before [] = 0
before_comma ls n before (t ∷ ts) = if not (ends_member n.depth t.kind) then 1 + before_comma ls (nested n before (is_joint ls t.first) t.kind) t.kind ts else 0

-- variants and fields in braces have names
abbrev pub is_named : MemberKind → LexemeKind → Bool
is_named TupleField name = false
is_named Variant name = is_name name
is_named RecordField name = is_name name

-- the fields of a variant stand behind its name
abbrev pub member_fields : MemberKind → List Tree → ℕ → Fields
member_fields Variant ts name = fields_at ts (name + 1)
member_fields RecordField ts name = no_fields 0
member_fields TupleField ts name = no_fields 0

abbrev pub behind_visibility : MemberKind → ℕ → ℕ → List Lexeme → List Tree → MemberParts
behind_visibility kind attributes shown ls ts =
    record {
      attributes = attributes;
      name = if is_unsafe kind (kind_at ts shown) then shown + 1 else shown;
      len = bounded (before_comma ls start nothing ts + 1) (length ts);
    }

abbrev pub behind_attributes : MemberKind → ℕ → List Lexeme → List Tree → MemberParts
behind_attributes kind attributes ls ts = behind_visibility kind attributes (attributes + visibility_len ls (drop attributes ts)) ls ts

-- the member that begins the trees: attributes, a visibility, a name or a type, and all up to a comma
unfoldable pub first_member : MemberKind → List Lexeme → List Tree → MemberParts
first_member kind ls ts = behind_attributes kind (attributes_len nothing ts) ls ts

abbrev pub placed : MemberKind → ℕ → MemberParts → List Tree → Member
placed kind end parts ts =
    record {
      first = place_at ts 0 end;
      visibility = place_at ts parts.attributes end;
      name = place_at ts parts.name end;
      named = is_named kind (kind_at ts parts.name);
      fields = member_fields kind ts parts.name;
      behind = place_at ts parts.len end;
    }

-- the members of some trees, but for the first so many, which are in a member before
abbrev pub members_from : MemberKind → List Lexeme → ℕ → ℕ → List Tree → List Member
members_from kind ls end skipped [] = []
members_from kind ls end zero (t ∷ ts) = placed kind end (first_member kind ls (t ∷ ts)) (t ∷ ts) ∷ members_from kind ls end ((first_member kind ls (t ∷ ts)).len - 1) ts
members_from kind ls end (suc n) (t ∷ ts) = members_from kind ls end n ts

-- the members in a range of lexemes
abbrev pub members_of : MemberKind → List Lexeme → List ℕ → Range → List Member
members_of kind lexemes partners range = members_from kind lexemes range.behind 0 (trees_of lexemes partners range.first range.behind)

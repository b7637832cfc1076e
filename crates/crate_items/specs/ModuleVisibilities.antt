-- Whom a visibility, as it is written in a module of a crate, shows what it stands before.
use Rattle.std.specs.Prelude.{◌==◌, ℕ, Bool, false, zero, suc, List, [], ◌∷◌, Option, Some, None, option_map, slice_get, if◌then◌else◌}
use Rattle.std.specs.Str.{bytes_eq}
use Rattle.crate_items.specs.DeclaredModules.{Module}
use Rattle.crate_items.specs.LexemeNames.{names_nothing}
use Rattle.crate_items.specs.Modules.{Listing, as_name}
use Rattle.crate_items.specs.Sources.{Source, source_at}
use Rattle.crate_items.specs.declared.modules.declared_module.Declaration.{Declaration}
use Rattle.crate_items.specs.declared.modules.module_visibility.DeclaredVisibility.{DeclaredVisibility}
use Rattle.crate_items.specs.declared.modules.module_visibility.DeclaredVisibility.TheVariants.{Public, Within}
use Rattle.crate_items.specs.declared.modules.module_visibility.Reach.{Reach}
use Rattle.crate_items.specs.declared.modules.module_visibility.Reach.TheVariants.{Start, Global, Up, At, Nowhere}
use Rattle.dm_base.specs.Names.{Name}
use Rattle.dm_base.specs.declared.edition.Edition.{Edition}
use Rattle.dm_base.specs.declared.edition.Edition.TheVariants.{Edition2015}
use Rattle.item_tree.specs.AttributeKinds.{lexemes_in}
use Rattle.item_tree.specs.Spans.{name_text}
use Rattle.item_tree.specs.declared.lexer.lexeme.Lexeme.{Lexeme}
use Rattle.item_tree.specs.declared.lexer.lexeme.LexemeKind.{LexemeKind}
use Rattle.item_tree.specs.declared.lexer.lexeme.LexemeKind.TheVariants as kind
use Rattle.item_tree.specs.declared.items.visibility.RawVisibility.{RawVisibility}
use Rattle.item_tree.specs.declared.items.visibility.RawVisibility.TheVariants as raw
use Rattle.item_tree.specs.declared.lexer.word.Word.{Word}
use Rattle.item_tree.specs.declared.lexer.word.Word.TheVariants as word

-- where a path is read: the modules of the crate, the one that it stands in, the edition and the text
pub record Standpoint : Type 0 where
  pub modules : List Module
  pub number : ℕ
  pub edition : Edition
  pub text : List ℕ

abbrev pub declaration_of : Option Module → Option Declaration
declaration_of None = None
declaration_of (Some m) = m.declaration

-- the module that a module of a number is declared in, and its name
abbrev pub parent_of : List Module → ℕ → Option ℕ
parent_of ms n = option_map (λ (d : Declaration). d.parent) (declaration_of (slice_get ms n))

abbrev pub is_named : List ℕ → Option Declaration → Bool
is_named name None = false
is_named name (Some d) = bytes_eq d.name name

-- the one on the way from a module up to another, right below that; in no more than so many steps
abbrev pub below : ℕ → List Module → ℕ → ℕ → Option ℕ → Option ℕ
below k ms outer n None = None
below zero ms outer n (Some p) = if p == outer then Some n else None
below (suc k) ms outer n (Some p) = if p == outer then Some n else below k ms outer p (parent_of ms p)

abbrev pub up_to : Option ℕ → Reach
up_to None = Nowhere
up_to (Some p) = Up p

-- a name leads to the module of that name which the path stands in, too
abbrev pub down_by : List Module → List ℕ → Option ℕ → Reach
down_by ms name None = Nowhere
down_by ms name (Some n) = if is_named name (declaration_of (slice_get ms n)) then At n else Nowhere

abbrev pub down : Standpoint → ℕ → List ℕ → Reach
down s outer name = down_by s.modules name (below s.number s.modules outer s.number (parent_of s.modules s.number))

-- `self`, `super` and `crate` are no names
abbrev pub down_word : Standpoint → ℕ → Word → List ℕ → Reach
down_word s outer w name = if names_nothing w then Nowhere else down s outer name

-- in the edition 2015 a name leads down from the root, behind two colons too; since then it is that
-- of another crate
abbrev pub first_name : Standpoint → Edition → Word → List ℕ → Reach
first_name s Edition2015 w name = down_word s 0 w name
first_name s _ w name = Nowhere

-- a path begins with `crate`, `self` or `super`, or with a name
abbrev pub first_word : Standpoint → Word → List ℕ → Reach
first_word s word.Crate name = At 0
first_word s word.SelfValue name = Up s.number
first_word s word.Super name = up_to (parent_of s.modules s.number)
first_word s w name = first_name s s.edition w name

-- `super` leads to the parent behind `self` and `super`s alone
abbrev pub upper_word : Standpoint → ℕ → Word → List ℕ → Reach
upper_word s at word.Super name = up_to (parent_of s.modules at)
upper_word s at w name = down_word s at w name

abbrev pub is_colon : LexemeKind → Bool
is_colon (kind.Mark b) = b == 58
is_colon _ = false

-- two colons before its first word make a path global, and others part its words
abbrev pub behind_colon : Reach → Reach
behind_colon Start = Global
behind_colon r = r

abbrev pub word_behind : Standpoint → Reach → Word → List ℕ → Reach
word_behind s Start w name = first_word s w name
word_behind s Global w name = first_name s s.edition w name
word_behind s (Up n) w name = upper_word s n w name
word_behind s (At n) w name = down_word s n w name
word_behind s Nowhere w name = Nowhere

-- a word is the name that its text is, as that of a module is, in Normalization Form C
abbrev pub behind_word : Standpoint → Reach → Word → Option Name → Reach
behind_word s r w None = Nowhere
behind_word s r w (Some name) = word_behind s r w name

abbrev pub lexeme_text : Standpoint → Lexeme → List ℕ
lexeme_text s l = name_text s.text (record { start = l.start; len = l.len })

abbrev pub kind_behind : Standpoint → Reach → LexemeKind → Lexeme → Reach
kind_behind s r (kind.Word w) l = behind_word s r w (as_name (lexeme_text s l))
kind_behind s r k l = if is_colon k then behind_colon r else Nowhere

-- where a path leads behind one more of its lexemes
abbrev pub behind_lexeme : Standpoint → Reach → Lexeme → Reach
behind_lexeme s r l = kind_behind s r l.kind l

abbrev pub reached : Standpoint → Reach → List Lexeme → Reach
reached s r [] = r
reached s r (l ∷ ls) = reached s (behind_lexeme s r l) ls

abbrev pub within : Reach → Option DeclaredVisibility
within (Up n) = Some (Within n)
within (At n) = Some (Within n)
within _ = None

-- whom a visibility shows what stands in the module of a number: all, or that module, the root, the
-- parent, or the module around that the path leads to. None where that leads to no module around:
-- rustc refuses it, and shows to all
abbrev pub shown : Standpoint → List Lexeme → RawVisibility → Option DeclaredVisibility
shown s ls raw.Inherited = Some (Within s.number)
shown s ls raw.Public = Some Public
shown s ls raw.PubCrate = Some (Within 0)
shown s ls raw.PubSuper = within (up_to (parent_of s.modules s.number))
shown s ls raw.PubSelf = Some (Within s.number)
shown s ls (raw.In path) = within (reached s Start (lexemes_in ls path))
shown s ls raw.Error = None

abbrev pub lexemes_known : Option Source → List Lexeme
lexemes_known None = []
lexemes_known (Some s) = s.lexemes

abbrev pub lexemes_of : List (Option Source) → Option Module → List Lexeme
lexemes_of table None = []
lexemes_of table (Some m) = lexemes_known (source_at table m.file)

-- the same in the module of a number of a list, by the lexemes of its file
abbrev pub visibility_in : Listing → Edition → List ℕ → ℕ → RawVisibility → Option DeclaredVisibility
visibility_in l edition text n written =
    shown (record { modules = l.modules; number = n; edition = edition; text = text })
    (lexemes_of l.sources (slice_get l.modules n)) written

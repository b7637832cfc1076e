-- The paths of use trees.
use Rattle.std.specs.Prelude.{◌==◌, ◌+◌, ℕ, Bool, true, false, List, [], ◌∷◌, Option, Some, None, drop, length, nat_lt, if◌then◌else◌}
use Rattle.std.specs.List.{flat_map, prefix_len}
use Rattle.crate_items.specs.LexemeNames.{kind_at, listed, name_at}
use Rattle.crate_items.specs.declared.items.use_paths.Start.{Start}
use Rattle.dm_base.specs.Path.{Path}
use Rattle.dm_base.specs.declared.mod_path.PathKind.{PathKind}
use Rattle.dm_base.specs.declared.mod_path.PathKind.TheVariants as path
use Rattle.dm_base.specs.Names.{Name}
use Rattle.item_tree.specs.declared.lexer.lexeme.Lexeme.{Lexeme}
use Rattle.item_tree.specs.declared.lexer.lexeme.LexemeKind.{LexemeKind}
use Rattle.item_tree.specs.declared.lexer.lexeme.LexemeKind.TheVariants.{Mark, Word}
use Rattle.item_tree.specs.declared.lexer.word.Word.TheVariants as word

abbrev pub is_super : LexemeKind → Bool
is_super (Word word.Super) = true
is_super _ = false

abbrev pub is_super_at : List Lexeme → ℕ → Bool
is_super_at ls i = is_super (kind_at ls i)

-- so many steps outwards, as so many lexemes tell them. More than 255 are none
abbrev pub outwards : ℕ → ℕ → Option Start
outwards n len = if nat_lt n 256 then Some (record { kind = path.Super n; len = len }) else None

abbrev pub plain : Start
plain = record { kind = path.Plain; len = 0 }

abbrev pub marked : ℕ → Start
marked b = if b == 58 then record { kind = path.Abs; len = 1 } else plain

-- a path begins with colons, with `crate`, or with `self` and so many `super`, of which each is a step outwards, or
-- with a first `super` and so many others; or else with its first name
abbrev pub start_with : LexemeKind → ℕ → Option Start
start_with (Mark b) supers = Some (marked b)
start_with (Word word.Crate) supers = Some (record { kind = path.Crate; len = 1 })
start_with (Word word.SelfValue) supers = outwards supers (supers + 1)
start_with (Word word.Super) supers = outwards (supers + 1) (supers + 1)
start_with _ supers = Some plain

abbrev pub start_of : List Lexeme → List ℕ → Option Start
start_of ls [] = Some plain
start_of ls (p ∷ ps) = start_with (kind_at ls p) (prefix_len (is_super_at ls) ps)

abbrev pub name_list : List ℕ → List Lexeme → ℕ → List Name
name_list text ls i = listed (name_at text ls i)

abbrev pub of_names : PathKind → ℕ → List Name → Option Path
of_names kind len names = if length names == len then Some (record { kind = kind; segments = names }) else None

-- what stands behind the beginning is the segments, each of which has to be a name
abbrev pub path_behind : List ℕ → List Lexeme → PathKind → List ℕ → Option Path
path_behind text ls kind places = of_names kind (length places) (flat_map (name_list text ls) places)

abbrev pub path_from : List ℕ → List Lexeme → List ℕ → Option Start → Option Path
path_from text ls places None = None
path_from text ls places (Some s) = path_behind text ls s.kind (drop s.len places)

-- the path that has its lexemes at these places
abbrev pub path_of : List ℕ → List Lexeme → List ℕ → Option Path
path_of text ls places = path_from text ls places (start_of ls places)

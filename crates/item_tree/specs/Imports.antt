-- What a use tree imports: its path behind those of the lists around it, by the places of lexemes.
use Rattle.std.specs.Prelude.{◌==◌, ◌+◌, ◌-◌, ◌++◌, ◌||◌, ◌&&◌, ℕ, Bool, true, false, not, List, [], ◌∷◌, Option, Some, None, is_some, slice_get, nat_lt, if◌then◌else◌}
use Rattle.item_tree.specs.AttributeKinds.{lexemes_in}
use Rattle.item_tree.specs.Heads.{is_mark}
use Rattle.item_tree.specs.Visibilities.{lexeme_at}
use Rattle.item_tree.specs.declared.items.imports.ImportKind.{ImportKind}
use Rattle.item_tree.specs.declared.items.imports.ImportKind.TheVariants as imports
use Rattle.item_tree.specs.declared.lexer.lexeme.Lexeme.{Lexeme}
use Rattle.item_tree.specs.declared.lexer.lexeme.LexemeKind.{LexemeKind}
use Rattle.item_tree.specs.declared.lexer.lexeme.LexemeKind.TheVariants.{Word}
use Rattle.item_tree.specs.declared.items.use_tree.UseTree.{UseTree}
use Rattle.item_tree.specs.declared.items.use_tree.UseTreeKind.{UseTreeKind}
use Rattle.item_tree.specs.declared.items.use_tree.UseTreeKind.TheVariants as tree
use Rattle.item_tree.specs.declared.lexer.word.Word.TheVariants as word

abbrev pub is_self : LexemeKind → Bool
is_self (Word word.SelfValue) = true
is_self _ = false

abbrev pub is_single : UseTreeKind → Bool
is_single tree.Single = true
is_single _ = false

-- `self` alone in a list stands for what the list is of
abbrev pub is_self_of_list : List Lexeme → UseTree → Bool
is_self_of_list ls t = is_some t.parent && is_single t.kind && (t.path.behind - t.path.first == 1) && is_self (lexeme_at ls t.path.first)

-- of a path its first lexeme counts, and the segments behind it
abbrev pub counts : ℕ → LexemeKind → Bool
counts i k = (i == 0) || not (is_mark 58 k)

-- the places of what counts in a path that begins at a place, from its i-th lexeme on
abbrev pub segments_from : ℕ → ℕ → List Lexeme → List ℕ
segments_from first i [] = []
segments_from first i (l ∷ ls) = if counts i l.kind then (first + i) ∷ segments_from first (i + 1) ls else segments_from first (i + 1) ls

-- the own path of a tree
abbrev pub own_segments : List Lexeme → UseTree → List ℕ
own_segments ls t = if is_self_of_list ls t then [] else segments_from t.path.first 0 (lexemes_in ls t.path)

abbrev pub segments_or_none : Option (List ℕ) → List ℕ
segments_or_none None = []
segments_or_none (Some places) = places

-- the path of the list that a tree stands in, of the paths of those before it
abbrev pub outer_segments : List (List ℕ) → Option ℕ → List ℕ
outer_segments paths None = []
outer_segments paths (Some n) = segments_or_none (slice_get paths n)

-- the whole paths of some trees, behind those of the trees before them
abbrev pub paths_from : List Lexeme → List (List ℕ) → List UseTree → List (List ℕ)
paths_from ls paths [] = paths
paths_from ls paths (t ∷ ts) = paths_from ls (paths ++ (outer_segments paths t.parent ++ own_segments ls t) ∷ []) ts

-- the whole path of the tree of a number: nothing where there is none
abbrev pub import_path : List Lexeme → List UseTree → ℕ → List ℕ
import_path ls trees n = segments_or_none (slice_get (paths_from ls [] trees) n)

abbrev pub kind_by : UseTreeKind → Bool → Option ImportKind
kind_by tree.Single true = Some imports.TypeOnly
kind_by tree.Single false = Some imports.Plain
kind_by tree.Glob self = Some imports.Glob
kind_by tree.Prefixed self = None
kind_by tree.Error self = None

-- lists and errors import nothing themselves; `self` in a list imports no value
abbrev pub import_kind : List Lexeme → UseTree → Option ImportKind
import_kind ls t = kind_by t.kind (is_self_of_list ls t)

-- the list around the tree of a number, where it stands before the tree
abbrev pub before : ℕ → Option ℕ → Option ℕ
before n None = None
before n (Some p) = if nat_lt p n then Some p else None

abbrev pub outer_of : ℕ → Option UseTree → Option ℕ
outer_of n None = None
outer_of n (Some t) = before n t.parent

abbrev pub own_of : List Lexeme → Option UseTree → List ℕ
own_of ls None = []
own_of ls (Some t) = own_segments ls t

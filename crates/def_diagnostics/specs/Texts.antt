-- What is told, in words.
use Rattle.std.specs.Prelude.{◌+◌, ◌++◌, ◌==◌, ℕ, List, [], ◌∷◌, zero, suc, codes, if◌then◌else◌}
use Rattle.std.specs.Str.{is_utf8}
use Rattle.def_diagnostics.specs.declared.diagnostic.DiagnosticKind.{DiagnosticKind}
use Rattle.def_diagnostics.specs.declared.diagnostic.DiagnosticKind.TheVariants as kind
use Rattle.dm_base.specs.Path.{Path}
use Rattle.dm_base.specs.declared.mod_path.PathKind.{PathKind}
use Rattle.dm_base.specs.declared.mod_path.PathKind.TheVariants as path
use Rattle.dm_base.specs.Names.{Name}

-- what is no UTF-8 is a question mark
abbrev pub as_text : List ℕ → List ℕ
as_text bytes = if is_utf8 bytes then bytes else codes "?"

abbrev pub before_path : ℕ → List ℕ
before_path n = if n == 0 then codes " " else codes " and "

abbrev pub tried_from : ℕ → List (List ℕ) → List ℕ
tried_from n [] = []
tried_from n (p ∷ ps) = (before_path n ++ as_text p) ++ tried_from (n + 1) ps

-- the paths that were tried, with `and` between
abbrev pub tried : List (List ℕ) → List ℕ
tried ps = codes "unresolved module, tried" ++ tried_from 0 ps

abbrev pub outwards : ℕ → List ℕ
outwards zero = []
outwards (suc n) = outwards n ++ codes "super::"

-- how a path begins
abbrev pub start : PathKind → List ℕ
start path.Plain = []
start path.Abs = codes "::"
start path.Crate = codes "crate::"
start (path.DollarCrate k) = codes "$crate::"
start (path.Super n) = if n == 0 then codes "self::" else outwards n

abbrev pub before_segment : ℕ → List ℕ
before_segment n = if n == 0 then [] else codes "::"

abbrev pub segments_from : ℕ → List Name → List ℕ
segments_from n [] = []
segments_from n (s ∷ ss) = (before_segment n ++ s) ++ segments_from (n + 1) ss

-- a path as it is written
abbrev pub path_text : Path → List ℕ
path_text p = start p.kind ++ segments_from 0 p.segments

abbrev pub no_macro : Path → List ℕ
no_macro p = codes "unresolved macro `" ++ path_text p ++ codes "`"

abbrev pub taken : Name → List ℕ
taken n = codes "the name `" ++ n ++ codes "` is defined multiple times"

-- what is told
abbrev pub kind_text : DiagnosticKind → List ℕ
kind_text (kind.UnresolvedModule paths) = tried paths
kind_text kind.ModuleInItself = codes "a file within itself"
kind_text kind.UnresolvedExternCrate = codes "unresolved extern crate"
kind_text kind.UnresolvedImport = codes "unresolved import"
kind_text kind.AmbiguousImport = codes "ambiguous import"
kind_text (kind.UnresolvedMacroCall p) = no_macro p
kind_text kind.UnresolvedVisibility = codes "unresolved visibility"
kind_text (kind.DuplicateDefinition n) = taken n
kind_text kind.UnconfiguredCode = codes "inactive code"

-- Dumps: one line more, and that a scope has one dump.
use Rattle.std.proofs.Common.{◌≡◌, ◌<◌, ◌+◌, ◌++◌, ℕ, List, drop, get_or, length, map, sym, ap, ◌∙◌}
use Rattle.std.specs.Borrow.{Bor}
use Rattle.std.specs.List.{flat_map}
use Rattle.std.proofs.lemmas.List.{append_assoc, at_drop_more}
use Rattle.dm_base.specs.Names.{Name}
use Rattle.dm_scope.specs.Dumps.{Text, IsDump, lines}
use Rattle.dm_scope.specs.Scope.{Scope}
use Rattle.dm_scope.specs.Sorted.{seen, names_of}
use Rattle.dm_scope.specs.Tables.{Tables}
use Rattle.dm_scope.specs.OrderLaws.{AreInOrder-one}

-- what is written with the lines of what is left stays, where the line of the next name is written
pub line_more : (line : Name → Text) (names : List (Bor Name)) (i : ℕ) (d : Bor Name) (before after all : Text) → i < length names → after ≡ before ++ line (get_or names i d).now
    → before ++ flat_map line (seen (drop i names)) ≡ all → after ++ flat_map line (seen (drop (i + 1) names)) ≡ all
line_more line names i d before after all within next is =
    ap (λ t. t ++ flat_map line (seen (drop (i + 1) names))) next
    ∙ append_assoc before (line (get_or names i d).now) (flat_map line (seen (drop (i + 1) names)))
    ∙ ap (λ t. before ++ t) (sym (at_drop_more (λ ns. flat_map line (seen ns)) names i d within))
    ∙ is

-- a scope has one dump
pub IsDump-one : (t : Tables) (s : Scope) (text other : Text) → IsDump t s text → IsDump t s other → text ≡ other
IsDump-one t s text other a b =
    a.is
    ∙ ap (λ ns. lines t s ns a.legacy) (AreInOrder-one a.names b.names (names_of s) a.names_in_order b.names_in_order)
    ∙ ap (lines t s b.names) (AreInOrder-one a.legacy b.legacy (map (λ e. e.0) s.legacy_macros) a.legacy_in_order b.legacy_in_order)
    ∙ sym b.is

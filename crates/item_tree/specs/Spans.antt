-- Pieces of a text, and what names and strings stand for.
use Rattle.std.specs.Prelude.{◌==◌, ◌+◌, ◌-◌, ℕ, not, List, drop, take, length, max, nat_eq, codes, if◌then◌else◌}
use Rattle.std.specs.List.{prefix_len, starts_with}
use Rattle.item_tree.specs.declared.lexer.span.Span.{Span}

-- the piece of a text
abbrev pub piece : List ℕ → Span → List ℕ
piece text s = take s.len (drop s.start text)

-- a raw name is the name behind its `r#`
abbrev pub bare : List ℕ → List ℕ
bare name = if starts_with nat_eq name (codes "r#") then drop 2 name else name

abbrev pub name_text : List ℕ → Span → List ℕ
name_text text s = bare (piece text s)

-- what stands before the first quote of a string: nothing, or an `r` and hashes
abbrev pub before_quote : List ℕ → ℕ
before_quote literal = prefix_len (λ b. not (b == 34)) literal

-- a string ends with a quote, and a raw one with as many hashes as it began with
abbrev pub contents : List ℕ → List ℕ
contents literal =
    take (length (drop (before_quote literal + 1) literal) - max (before_quote literal) 1) (drop (before_quote literal + 1) literal)

abbrev pub string_text : List ℕ → Span → List ℕ
string_text text s = contents (piece text s)

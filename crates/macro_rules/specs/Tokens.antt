-- Tokens of macros and of their calls.
use Rattle.std.specs.Prelude.{◌&&◌, ℕ, Bool, true, false, List}
use Rattle.std.specs.Str.{bytes_eq}
use Rattle.item_tree.specs.Spans.{piece}
use Rattle.macro_rules.specs.declared.token.Likeness.{Likeness}
use Rattle.macro_rules.specs.declared.token.Likeness.TheVariants as of
use Rattle.macro_rules.specs.declared.token.Token.{Token}
use Rattle.macro_rules.specs.declared.token.TokenKind.{TokenKind}
use Rattle.macro_rules.specs.declared.token.TokenKind.TheVariants as kind

-- `$crate` is none of the other tokens, and borders of fragments and what is no token equal nothing
abbrev pub likeness_of : TokenKind → Likeness
likeness_of (kind.DollarCrate home) = of.DollarCrate
likeness_of (kind.FragmentOpen k) = of.Nothing
likeness_of (kind.FragmentClose k) = of.Nothing
likeness_of kind.Error = of.Nothing
likeness_of _ = of.Plain

abbrev pub are_alike : Likeness → Likeness → Bool
are_alike of.Plain of.Plain = true
are_alike of.DollarCrate of.DollarCrate = true
are_alike _ _ = false

-- tokens are equal that are of one likeness_of and written with the same bytes
abbrev pub same : List ℕ → Token → Token → Bool
same bytes a b = are_alike (likeness_of a.kind) (likeness_of b.kind) && bytes_eq (piece bytes a.span) (piece bytes b.span)

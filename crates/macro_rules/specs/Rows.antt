-- Small macros, and what rustc says that they make of a call: the texts of tools/differential/macro-texts.txt.
use Rattle.std.specs.Prelude.{◌≡◌, ℕ, Bool, List, [], ◌∷◌, Option, Some, None, map, codes}
use Rattle.dm_base.specs.declared.edition.Edition.TheVariants.{Edition2021}
use Rattle.item_tree.specs.Spans.{piece}
use Rattle.item_tree.specs.declared.lexer.lexeme.Delimiter.TheVariants.{Parenthesis, Brace}
use Rattle.item_tree.specs.declared.lexer.word.Word.{Word}
use Rattle.item_tree.specs.declared.lexer.word.Word.TheVariants as word
use Rattle.macro_rules.specs.Expanded.{Expanded}
use Rattle.macro_rules.specs.Expansions.{expanded}
use Rattle.macro_rules.specs.Rules.{rules_read}
use Rattle.macro_rules.specs.declared.expand.ExpandFault.{ExpandFault}
use Rattle.macro_rules.specs.declared.expand.ExpandFault.TheVariants.{NoRule, Ambiguous, BadFragment, Unwritten}
use Rattle.macro_rules.specs.declared.reading.RuleFault.{RuleFault}
use Rattle.macro_rules.specs.declared.reading.RuleFault.TheVariants.{BadRule, TwoOfAName, NoKind, EmptyRepetition, Unsupported}
use Rattle.macro_rules.specs.declared.token.Token.{Token}
use Rattle.macro_rules.specs.declared.token.TokenKind.{TokenKind}
use Rattle.macro_rules.specs.declared.token.TokenKind.TheVariants as kind
use Rattle.macro_rules.specs.declared.writing.WriteFault.TheVariants.{Uneven, NothingRepeats, StillRepeats, NeedsOne}

abbrev pub at : TokenKind → ℕ → ℕ → Token
at k start len = record { kind = k; span = record { start = start; len = len } }

-- a name, a word of items, a mark or a bracket, and `=>`
abbrev pub w : ℕ → ℕ → Token
w start len = at (kind.Word word.Other) start len

abbrev pub k : Word → ℕ → ℕ → Token
k own start len = at (kind.Word own) start len

abbrev pub g : TokenKind → ℕ → Token
g own start = at own start 1

abbrev pub arrow : ℕ → Token
arrow start = at (kind.Pair 61 62) start 2

-- what a macro makes of a call, where both stand in a text
abbrev pub made : List ℕ → List Token → List Token → Expanded
made bytes definition call =
    expanded bytes (rules_read (record { krate = 0; edition = Edition2021 }) bytes definition).rules call (record { turns = 50; steps = 100 })

abbrev pub texts : List ℕ → Expanded → List (List ℕ)
texts bytes e = map (λ (t : Token). piece bytes t.span) e.tokens

-- it writes tokens of these texts
pub record Writes (bytes : List ℕ) (definition call : List Token) (expected : List (List ℕ)) : Type 0 where
  pub written : texts bytes (made bytes definition call) ≡ expected
  pub faultless : (made bytes definition call).fault ≡ None

-- it has a fault
abbrev pub Faults : List ℕ → List Token → List Token → ExpandFault → Type 0
Faults bytes definition call f = (made bytes definition call).fault ≡ Some f

-- and so has a definition
abbrev pub IsWrong : List ℕ → List Token → RuleFault → Type 0
IsWrong bytes definition f = (rules_read (record { krate = 0; edition = Edition2021 }) bytes definition).fault ≡ Some f

-- a list with a comma at its end
abbrev pub commas : Type 0
commas =
    Writes (codes "($($a:ident),* $(,)?) => { $(struct $a;)* } A, B,") (g (kind.Open Parenthesis) 0 ∷ g (kind.Mark 36) 1 ∷ g (kind.Open Parenthesis) 2 ∷ g (kind.Mark 36) 3 ∷ w 4 1 ∷ g (kind.Mark 58) 5 ∷ w 6 5 ∷ g (kind.Close Parenthesis) 11 ∷ g (kind.Mark 44) 12 ∷ g (kind.Mark 42) 13 ∷ g (kind.Mark 36) 15 ∷ g (kind.Open Parenthesis) 16 ∷ g (kind.Mark 44) 17 ∷ g (kind.Close Parenthesis) 18 ∷ g (kind.Mark 63) 19 ∷ g (kind.Close Parenthesis) 20 ∷ arrow 22 ∷ g (kind.Open Brace) 25 ∷ g (kind.Mark 36) 27 ∷ g (kind.Open Parenthesis) 28 ∷ k word.Struct 29 6 ∷ g (kind.Mark 36) 36 ∷ w 37 1 ∷ g (kind.Mark 59) 38 ∷ g (kind.Close Parenthesis) 39 ∷ g (kind.Mark 42) 40 ∷ g (kind.Close Brace) 42 ∷ [])
    (w 44 1 ∷ g (kind.Mark 44) 45 ∷ w 47 1 ∷ g (kind.Mark 44) 48 ∷ [])
    (codes "struct" ∷ codes "A" ∷ codes ";" ∷ codes "struct" ∷ codes "B" ∷ codes ";" ∷ [])

-- the first rule that matches counts
abbrev pub first_counts : Type 0
first_counts =
    Writes (codes "($a:ident) => { One } ; (a) => { Two } a") (g (kind.Open Parenthesis) 0 ∷ g (kind.Mark 36) 1 ∷ w 2 1 ∷ g (kind.Mark 58) 3 ∷ w 4 5 ∷ g (kind.Close Parenthesis) 9 ∷ arrow 11 ∷ g (kind.Open Brace) 14 ∷ w 16 3 ∷ g (kind.Close Brace) 20 ∷ g (kind.Mark 59) 22 ∷ g (kind.Open Parenthesis) 24 ∷ w 25 1 ∷ g (kind.Close Parenthesis) 26 ∷ arrow 28 ∷ g (kind.Open Brace) 31 ∷ w 33 3 ∷ g (kind.Close Brace) 37 ∷ [])
    (w 39 1 ∷ [])
    (codes "One" ∷ [])

-- a rule that fails hands on
abbrev pub hands_on : Type 0
hands_on =
    Writes (codes "($a:ident ;) => { One } ; ($($t:tt)*) => { Two } a b") (g (kind.Open Parenthesis) 0 ∷ g (kind.Mark 36) 1 ∷ w 2 1 ∷ g (kind.Mark 58) 3 ∷ w 4 5 ∷ g (kind.Mark 59) 10 ∷ g (kind.Close Parenthesis) 11 ∷ arrow 13 ∷ g (kind.Open Brace) 16 ∷ w 18 3 ∷ g (kind.Close Brace) 22 ∷ g (kind.Mark 59) 24 ∷ g (kind.Open Parenthesis) 26 ∷ g (kind.Mark 36) 27 ∷ g (kind.Open Parenthesis) 28 ∷ g (kind.Mark 36) 29 ∷ w 30 1 ∷ g (kind.Mark 58) 31 ∷ w 32 2 ∷ g (kind.Close Parenthesis) 34 ∷ g (kind.Mark 42) 35 ∷ g (kind.Close Parenthesis) 36 ∷ arrow 38 ∷ g (kind.Open Brace) 41 ∷ w 43 3 ∷ g (kind.Close Brace) 47 ∷ [])
    (w 49 1 ∷ w 51 1 ∷ [])
    (codes "Two" ∷ [])

-- none matches
abbrev pub no_rule : Type 0
no_rule =
    Faults (codes "(a) => { One } b") (g (kind.Open Parenthesis) 0 ∷ w 1 1 ∷ g (kind.Close Parenthesis) 2 ∷ arrow 4 ∷ g (kind.Open Brace) 7 ∷ w 9 3 ∷ g (kind.Close Brace) 13 ∷ [])
    (w 15 1 ∷ []) NoRule

-- a token that equals, and a variable that it may begin
abbrev pub ambiguous_token : Type 0
ambiguous_token =
    Faults (codes "($($a:ident)* b) => { One } ; ($($t:tt)*) => { Two } a b") (g (kind.Open Parenthesis) 0 ∷ g (kind.Mark 36) 1 ∷ g (kind.Open Parenthesis) 2 ∷ g (kind.Mark 36) 3 ∷ w 4 1 ∷ g (kind.Mark 58) 5 ∷ w 6 5 ∷ g (kind.Close Parenthesis) 11 ∷ g (kind.Mark 42) 12 ∷ w 14 1 ∷ g (kind.Close Parenthesis) 15 ∷ arrow 17 ∷ g (kind.Open Brace) 20 ∷ w 22 3 ∷ g (kind.Close Brace) 26 ∷ g (kind.Mark 59) 28 ∷ g (kind.Open Parenthesis) 30 ∷ g (kind.Mark 36) 31 ∷ g (kind.Open Parenthesis) 32 ∷ g (kind.Mark 36) 33 ∷ w 34 1 ∷ g (kind.Mark 58) 35 ∷ w 36 2 ∷ g (kind.Close Parenthesis) 38 ∷ g (kind.Mark 42) 39 ∷ g (kind.Close Parenthesis) 40 ∷ arrow 42 ∷ g (kind.Open Brace) 45 ∷ w 47 3 ∷ g (kind.Close Brace) 51 ∷ [])
    (w 53 1 ∷ w 55 1 ∷ []) (Ambiguous 1)

-- two ways to the end
abbrev pub ambiguous_end : Type 0
ambiguous_end =
    Faults (codes "($(a)? $(a)?) => { One } ; ($($t:tt)*) => { Two } a") (g (kind.Open Parenthesis) 0 ∷ g (kind.Mark 36) 1 ∷ g (kind.Open Parenthesis) 2 ∷ w 3 1 ∷ g (kind.Close Parenthesis) 4 ∷ g (kind.Mark 63) 5 ∷ g (kind.Mark 36) 7 ∷ g (kind.Open Parenthesis) 8 ∷ w 9 1 ∷ g (kind.Close Parenthesis) 10 ∷ g (kind.Mark 63) 11 ∷ g (kind.Close Parenthesis) 12 ∷ arrow 14 ∷ g (kind.Open Brace) 17 ∷ w 19 3 ∷ g (kind.Close Brace) 23 ∷ g (kind.Mark 59) 25 ∷ g (kind.Open Parenthesis) 27 ∷ g (kind.Mark 36) 28 ∷ g (kind.Open Parenthesis) 29 ∷ g (kind.Mark 36) 30 ∷ w 31 1 ∷ g (kind.Mark 58) 32 ∷ w 33 2 ∷ g (kind.Close Parenthesis) 35 ∷ g (kind.Mark 42) 36 ∷ g (kind.Close Parenthesis) 37 ∷ arrow 39 ∷ g (kind.Open Brace) 42 ∷ w 44 3 ∷ g (kind.Close Brace) 48 ∷ [])
    (w 50 1 ∷ []) (Ambiguous 1)

-- two ways that go no further are none
abbrev pub ways_that_end : Type 0
ways_that_end =
    Writes (codes "($(a)? $(a)? b) => { One } ; ($($t:tt)*) => { Two } a c") (g (kind.Open Parenthesis) 0 ∷ g (kind.Mark 36) 1 ∷ g (kind.Open Parenthesis) 2 ∷ w 3 1 ∷ g (kind.Close Parenthesis) 4 ∷ g (kind.Mark 63) 5 ∷ g (kind.Mark 36) 7 ∷ g (kind.Open Parenthesis) 8 ∷ w 9 1 ∷ g (kind.Close Parenthesis) 10 ∷ g (kind.Mark 63) 11 ∷ w 13 1 ∷ g (kind.Close Parenthesis) 14 ∷ arrow 16 ∷ g (kind.Open Brace) 19 ∷ w 21 3 ∷ g (kind.Close Brace) 25 ∷ g (kind.Mark 59) 27 ∷ g (kind.Open Parenthesis) 29 ∷ g (kind.Mark 36) 30 ∷ g (kind.Open Parenthesis) 31 ∷ g (kind.Mark 36) 32 ∷ w 33 1 ∷ g (kind.Mark 58) 34 ∷ w 35 2 ∷ g (kind.Close Parenthesis) 37 ∷ g (kind.Mark 42) 38 ∷ g (kind.Close Parenthesis) 39 ∷ arrow 41 ∷ g (kind.Open Brace) 44 ∷ w 46 3 ∷ g (kind.Close Brace) 50 ∷ [])
    (w 52 1 ∷ w 54 1 ∷ [])
    (codes "Two" ∷ [])

-- `?` is once at most
abbrev pub question_mark : Type 0
question_mark =
    Writes (codes "($(a)?) => { One } ; ($($t:tt)*) => { Two } a a") (g (kind.Open Parenthesis) 0 ∷ g (kind.Mark 36) 1 ∷ g (kind.Open Parenthesis) 2 ∷ w 3 1 ∷ g (kind.Close Parenthesis) 4 ∷ g (kind.Mark 63) 5 ∷ g (kind.Close Parenthesis) 6 ∷ arrow 8 ∷ g (kind.Open Brace) 11 ∷ w 13 3 ∷ g (kind.Close Brace) 17 ∷ g (kind.Mark 59) 19 ∷ g (kind.Open Parenthesis) 21 ∷ g (kind.Mark 36) 22 ∷ g (kind.Open Parenthesis) 23 ∷ g (kind.Mark 36) 24 ∷ w 25 1 ∷ g (kind.Mark 58) 26 ∷ w 27 2 ∷ g (kind.Close Parenthesis) 29 ∷ g (kind.Mark 42) 30 ∷ g (kind.Close Parenthesis) 31 ∷ arrow 33 ∷ g (kind.Open Brace) 36 ∷ w 38 3 ∷ g (kind.Close Brace) 42 ∷ [])
    (w 44 1 ∷ w 46 1 ∷ [])
    (codes "Two" ∷ [])

-- a fragment that begins and cannot be read ends the call
abbrev pub bad_literal : Type 0
bad_literal =
    Faults (codes "($a:literal) => { One } ; ($($t:tt)*) => { Two } - x") (g (kind.Open Parenthesis) 0 ∷ g (kind.Mark 36) 1 ∷ w 2 1 ∷ g (kind.Mark 58) 3 ∷ w 4 7 ∷ g (kind.Close Parenthesis) 11 ∷ arrow 13 ∷ g (kind.Open Brace) 16 ∷ w 18 3 ∷ g (kind.Close Brace) 22 ∷ g (kind.Mark 59) 24 ∷ g (kind.Open Parenthesis) 26 ∷ g (kind.Mark 36) 27 ∷ g (kind.Open Parenthesis) 28 ∷ g (kind.Mark 36) 29 ∷ w 30 1 ∷ g (kind.Mark 58) 31 ∷ w 32 2 ∷ g (kind.Close Parenthesis) 34 ∷ g (kind.Mark 42) 35 ∷ g (kind.Close Parenthesis) 36 ∷ arrow 38 ∷ g (kind.Open Brace) 41 ∷ w 43 3 ∷ g (kind.Close Brace) 47 ∷ [])
    (g (kind.Mark 45) 49 ∷ w 51 1 ∷ []) (BadFragment 0)

-- repetitions nest
abbrev pub nested : Type 0
nested =
    Writes (codes "($($a:ident { $($b:ident)* })*) => { $(enum $a { $($b),* })* } A { B C } D { }") (g (kind.Open Parenthesis) 0 ∷ g (kind.Mark 36) 1 ∷ g (kind.Open Parenthesis) 2 ∷ g (kind.Mark 36) 3 ∷ w 4 1 ∷ g (kind.Mark 58) 5 ∷ w 6 5 ∷ g (kind.Open Brace) 12 ∷ g (kind.Mark 36) 14 ∷ g (kind.Open Parenthesis) 15 ∷ g (kind.Mark 36) 16 ∷ w 17 1 ∷ g (kind.Mark 58) 18 ∷ w 19 5 ∷ g (kind.Close Parenthesis) 24 ∷ g (kind.Mark 42) 25 ∷ g (kind.Close Brace) 27 ∷ g (kind.Close Parenthesis) 28 ∷ g (kind.Mark 42) 29 ∷ g (kind.Close Parenthesis) 30 ∷ arrow 32 ∷ g (kind.Open Brace) 35 ∷ g (kind.Mark 36) 37 ∷ g (kind.Open Parenthesis) 38 ∷ k word.Enum 39 4 ∷ g (kind.Mark 36) 44 ∷ w 45 1 ∷ g (kind.Open Brace) 47 ∷ g (kind.Mark 36) 49 ∷ g (kind.Open Parenthesis) 50 ∷ g (kind.Mark 36) 51 ∷ w 52 1 ∷ g (kind.Close Parenthesis) 53 ∷ g (kind.Mark 44) 54 ∷ g (kind.Mark 42) 55 ∷ g (kind.Close Brace) 57 ∷ g (kind.Close Parenthesis) 58 ∷ g (kind.Mark 42) 59 ∷ g (kind.Close Brace) 61 ∷ [])
    (w 63 1 ∷ g (kind.Open Brace) 65 ∷ w 67 1 ∷ w 69 1 ∷ g (kind.Close Brace) 71 ∷ w 73 1 ∷ g (kind.Open Brace) 75 ∷ g (kind.Close Brace) 77 ∷ [])
    (codes "enum" ∷ codes "A" ∷ codes "{" ∷ codes "B" ∷ codes "," ∷ codes "C" ∷ codes "}" ∷ codes "enum" ∷ codes "D" ∷ codes "{" ∷ codes "}" ∷ [])

-- a repetition of nothing but another, in a transcriber
abbrev pub repeated_whole : Type 0
repeated_whole =
    Writes (codes "($( $($a:ident)* ; )*) => { $( $($a)* )* } A B ; C ;") (g (kind.Open Parenthesis) 0 ∷ g (kind.Mark 36) 1 ∷ g (kind.Open Parenthesis) 2 ∷ g (kind.Mark 36) 4 ∷ g (kind.Open Parenthesis) 5 ∷ g (kind.Mark 36) 6 ∷ w 7 1 ∷ g (kind.Mark 58) 8 ∷ w 9 5 ∷ g (kind.Close Parenthesis) 14 ∷ g (kind.Mark 42) 15 ∷ g (kind.Mark 59) 17 ∷ g (kind.Close Parenthesis) 19 ∷ g (kind.Mark 42) 20 ∷ g (kind.Close Parenthesis) 21 ∷ arrow 23 ∷ g (kind.Open Brace) 26 ∷ g (kind.Mark 36) 28 ∷ g (kind.Open Parenthesis) 29 ∷ g (kind.Mark 36) 31 ∷ g (kind.Open Parenthesis) 32 ∷ g (kind.Mark 36) 33 ∷ w 34 1 ∷ g (kind.Close Parenthesis) 35 ∷ g (kind.Mark 42) 36 ∷ g (kind.Close Parenthesis) 38 ∷ g (kind.Mark 42) 39 ∷ g (kind.Close Brace) 41 ∷ [])
    (w 43 1 ∷ w 45 1 ∷ g (kind.Mark 59) 47 ∷ w 49 1 ∷ g (kind.Mark 59) 51 ∷ [])
    (codes "A" ∷ codes "B" ∷ codes "C" ∷ [])

-- two variables in step
abbrev pub in_step : Type 0
in_step =
    Writes (codes "($($a:ident)* ; $($b:ident)*) => { $($a $b)* } A B ; c d") (g (kind.Open Parenthesis) 0 ∷ g (kind.Mark 36) 1 ∷ g (kind.Open Parenthesis) 2 ∷ g (kind.Mark 36) 3 ∷ w 4 1 ∷ g (kind.Mark 58) 5 ∷ w 6 5 ∷ g (kind.Close Parenthesis) 11 ∷ g (kind.Mark 42) 12 ∷ g (kind.Mark 59) 14 ∷ g (kind.Mark 36) 16 ∷ g (kind.Open Parenthesis) 17 ∷ g (kind.Mark 36) 18 ∷ w 19 1 ∷ g (kind.Mark 58) 20 ∷ w 21 5 ∷ g (kind.Close Parenthesis) 26 ∷ g (kind.Mark 42) 27 ∷ g (kind.Close Parenthesis) 28 ∷ arrow 30 ∷ g (kind.Open Brace) 33 ∷ g (kind.Mark 36) 35 ∷ g (kind.Open Parenthesis) 36 ∷ g (kind.Mark 36) 37 ∷ w 38 1 ∷ g (kind.Mark 36) 40 ∷ w 41 1 ∷ g (kind.Close Parenthesis) 42 ∷ g (kind.Mark 42) 43 ∷ g (kind.Close Brace) 45 ∷ [])
    (w 47 1 ∷ w 49 1 ∷ g (kind.Mark 59) 51 ∷ w 53 1 ∷ w 55 1 ∷ [])
    (codes "A" ∷ codes "c" ∷ codes "B" ∷ codes "d" ∷ [])

-- two variables that are not
abbrev pub uneven : Type 0
uneven =
    Faults (codes "($($a:ident)* ; $($b:ident)*) => { $($a $b)* } A B ; c") (g (kind.Open Parenthesis) 0 ∷ g (kind.Mark 36) 1 ∷ g (kind.Open Parenthesis) 2 ∷ g (kind.Mark 36) 3 ∷ w 4 1 ∷ g (kind.Mark 58) 5 ∷ w 6 5 ∷ g (kind.Close Parenthesis) 11 ∷ g (kind.Mark 42) 12 ∷ g (kind.Mark 59) 14 ∷ g (kind.Mark 36) 16 ∷ g (kind.Open Parenthesis) 17 ∷ g (kind.Mark 36) 18 ∷ w 19 1 ∷ g (kind.Mark 58) 20 ∷ w 21 5 ∷ g (kind.Close Parenthesis) 26 ∷ g (kind.Mark 42) 27 ∷ g (kind.Close Parenthesis) 28 ∷ arrow 30 ∷ g (kind.Open Brace) 33 ∷ g (kind.Mark 36) 35 ∷ g (kind.Open Parenthesis) 36 ∷ g (kind.Mark 36) 37 ∷ w 38 1 ∷ g (kind.Mark 36) 40 ∷ w 41 1 ∷ g (kind.Close Parenthesis) 42 ∷ g (kind.Mark 42) 43 ∷ g (kind.Close Brace) 45 ∷ [])
    (w 47 1 ∷ w 49 1 ∷ g (kind.Mark 59) 51 ∷ w 53 1 ∷ []) (Unwritten Uneven)

-- a variable of lesser depth is the same each time
abbrev pub lesser_depth : Type 0
lesser_depth =
    Writes (codes "($a:ident ; $($b:ident)*) => { $($b $a)* } x ; A B") (g (kind.Open Parenthesis) 0 ∷ g (kind.Mark 36) 1 ∷ w 2 1 ∷ g (kind.Mark 58) 3 ∷ w 4 5 ∷ g (kind.Mark 59) 10 ∷ g (kind.Mark 36) 12 ∷ g (kind.Open Parenthesis) 13 ∷ g (kind.Mark 36) 14 ∷ w 15 1 ∷ g (kind.Mark 58) 16 ∷ w 17 5 ∷ g (kind.Close Parenthesis) 22 ∷ g (kind.Mark 42) 23 ∷ g (kind.Close Parenthesis) 24 ∷ arrow 26 ∷ g (kind.Open Brace) 29 ∷ g (kind.Mark 36) 31 ∷ g (kind.Open Parenthesis) 32 ∷ g (kind.Mark 36) 33 ∷ w 34 1 ∷ g (kind.Mark 36) 36 ∷ w 37 1 ∷ g (kind.Close Parenthesis) 38 ∷ g (kind.Mark 42) 39 ∷ g (kind.Close Brace) 41 ∷ [])
    (w 43 1 ∷ g (kind.Mark 59) 45 ∷ w 47 1 ∷ w 49 1 ∷ [])
    (codes "A" ∷ codes "x" ∷ codes "B" ∷ codes "x" ∷ [])

-- a variable that still repeats
abbrev pub still_repeats : Type 0
still_repeats =
    Faults (codes "($($a:ident)*) => { $a } A") (g (kind.Open Parenthesis) 0 ∷ g (kind.Mark 36) 1 ∷ g (kind.Open Parenthesis) 2 ∷ g (kind.Mark 36) 3 ∷ w 4 1 ∷ g (kind.Mark 58) 5 ∷ w 6 5 ∷ g (kind.Close Parenthesis) 11 ∷ g (kind.Mark 42) 12 ∷ g (kind.Close Parenthesis) 13 ∷ arrow 15 ∷ g (kind.Open Brace) 18 ∷ g (kind.Mark 36) 20 ∷ w 21 1 ∷ g (kind.Close Brace) 23 ∷ [])
    (w 25 1 ∷ []) (Unwritten StillRepeats)

-- a repetition of nothing that repeats
abbrev pub nothing_repeats : Type 0
nothing_repeats =
    Faults (codes "($a:ident) => { $($a)* } A") (g (kind.Open Parenthesis) 0 ∷ g (kind.Mark 36) 1 ∷ w 2 1 ∷ g (kind.Mark 58) 3 ∷ w 4 5 ∷ g (kind.Close Parenthesis) 9 ∷ arrow 11 ∷ g (kind.Open Brace) 14 ∷ g (kind.Mark 36) 16 ∷ g (kind.Open Parenthesis) 17 ∷ g (kind.Mark 36) 18 ∷ w 19 1 ∷ g (kind.Close Parenthesis) 20 ∷ g (kind.Mark 42) 21 ∷ g (kind.Close Brace) 23 ∷ [])
    (w 25 1 ∷ []) (Unwritten NothingRepeats)

-- `+` in a transcriber wants one
abbrev pub needs_one : Type 0
needs_one =
    Faults (codes "($($a:ident)*) => { $($a)+ } ") (g (kind.Open Parenthesis) 0 ∷ g (kind.Mark 36) 1 ∷ g (kind.Open Parenthesis) 2 ∷ g (kind.Mark 36) 3 ∷ w 4 1 ∷ g (kind.Mark 58) 5 ∷ w 6 5 ∷ g (kind.Close Parenthesis) 11 ∷ g (kind.Mark 42) 12 ∷ g (kind.Close Parenthesis) 13 ∷ arrow 15 ∷ g (kind.Open Brace) 18 ∷ g (kind.Mark 36) 20 ∷ g (kind.Open Parenthesis) 21 ∷ g (kind.Mark 36) 22 ∷ w 23 1 ∷ g (kind.Close Parenthesis) 24 ∷ g (kind.Mark 43) 25 ∷ g (kind.Close Brace) 27 ∷ [])
    ([]) (Unwritten NeedsOne)

-- an empty visibility is a fragment
abbrev pub empty_vis : Type 0
empty_vis =
    Writes (codes "($v:vis $a:ident) => { $v $a } x") (g (kind.Open Parenthesis) 0 ∷ g (kind.Mark 36) 1 ∷ w 2 1 ∷ g (kind.Mark 58) 3 ∷ w 4 3 ∷ g (kind.Mark 36) 8 ∷ w 9 1 ∷ g (kind.Mark 58) 10 ∷ w 11 5 ∷ g (kind.Close Parenthesis) 16 ∷ arrow 18 ∷ g (kind.Open Brace) 21 ∷ g (kind.Mark 36) 23 ∷ w 24 1 ∷ g (kind.Mark 36) 26 ∷ w 27 1 ∷ g (kind.Close Brace) 29 ∷ [])
    (w 31 1 ∷ [])
    ([] ∷ [] ∷ codes "x" ∷ [])

-- a name that no variable has is two tokens
abbrev pub unknown_name : Type 0
unknown_name =
    Writes (codes "($t:tt) => { $x } a") (g (kind.Open Parenthesis) 0 ∷ g (kind.Mark 36) 1 ∷ w 2 1 ∷ g (kind.Mark 58) 3 ∷ w 4 2 ∷ g (kind.Close Parenthesis) 6 ∷ arrow 8 ∷ g (kind.Open Brace) 11 ∷ g (kind.Mark 36) 13 ∷ w 14 1 ∷ g (kind.Close Brace) 16 ∷ [])
    (w 18 1 ∷ [])
    (codes "$" ∷ codes "x" ∷ [])

abbrev pub two_of_a_name : Type 0
two_of_a_name = IsWrong (codes "($a:ident $a:ident) => { }") (g (kind.Open Parenthesis) 0 ∷ g (kind.Mark 36) 1 ∷ w 2 1 ∷ g (kind.Mark 58) 3 ∷ w 4 5 ∷ g (kind.Mark 36) 10 ∷ w 11 1 ∷ g (kind.Mark 58) 12 ∷ w 13 5 ∷ g (kind.Close Parenthesis) 18 ∷ arrow 20 ∷ g (kind.Open Brace) 23 ∷ g (kind.Close Brace) 25 ∷ []) TwoOfAName

abbrev pub no_kind : Type 0
no_kind = IsWrong (codes "($a) => { }") (g (kind.Open Parenthesis) 0 ∷ g (kind.Mark 36) 1 ∷ w 2 1 ∷ g (kind.Close Parenthesis) 3 ∷ arrow 5 ∷ g (kind.Open Brace) 8 ∷ g (kind.Close Brace) 10 ∷ []) NoKind

abbrev pub empty_repetition : Type 0
empty_repetition = IsWrong (codes "($($v:vis)*) => { }") (g (kind.Open Parenthesis) 0 ∷ g (kind.Mark 36) 1 ∷ g (kind.Open Parenthesis) 2 ∷ g (kind.Mark 36) 3 ∷ w 4 1 ∷ g (kind.Mark 58) 5 ∷ w 6 3 ∷ g (kind.Close Parenthesis) 9 ∷ g (kind.Mark 42) 10 ∷ g (kind.Close Parenthesis) 11 ∷ arrow 13 ∷ g (kind.Open Brace) 16 ∷ g (kind.Close Brace) 18 ∷ []) EmptyRepetition

abbrev pub nested_empty : Type 0
nested_empty = IsWrong (codes "($($(a)?)*) => { }") (g (kind.Open Parenthesis) 0 ∷ g (kind.Mark 36) 1 ∷ g (kind.Open Parenthesis) 2 ∷ g (kind.Mark 36) 3 ∷ g (kind.Open Parenthesis) 4 ∷ w 5 1 ∷ g (kind.Close Parenthesis) 6 ∷ g (kind.Mark 63) 7 ∷ g (kind.Close Parenthesis) 8 ∷ g (kind.Mark 42) 9 ∷ g (kind.Close Parenthesis) 10 ∷ arrow 12 ∷ g (kind.Open Brace) 15 ∷ g (kind.Close Brace) 17 ∷ []) EmptyRepetition

abbrev pub separated_question_mark : Type 0
separated_question_mark = IsWrong (codes "($(a),?) => { }") (g (kind.Open Parenthesis) 0 ∷ g (kind.Mark 36) 1 ∷ g (kind.Open Parenthesis) 2 ∷ w 3 1 ∷ g (kind.Close Parenthesis) 4 ∷ g (kind.Mark 44) 5 ∷ g (kind.Mark 63) 6 ∷ g (kind.Close Parenthesis) 7 ∷ arrow 9 ∷ g (kind.Open Brace) 12 ∷ g (kind.Close Brace) 14 ∷ []) BadRule

abbrev pub dollar_plus : Type 0
dollar_plus = IsWrong (codes "($+) => { }") (g (kind.Open Parenthesis) 0 ∷ g (kind.Mark 36) 1 ∷ g (kind.Mark 43) 2 ∷ g (kind.Close Parenthesis) 3 ∷ arrow 5 ∷ g (kind.Open Brace) 8 ∷ g (kind.Close Brace) 10 ∷ []) BadRule

abbrev pub dollar_brace : Type 0
dollar_brace = IsWrong (codes "($($a:ident)*) => { ${count(a)} }") (g (kind.Open Parenthesis) 0 ∷ g (kind.Mark 36) 1 ∷ g (kind.Open Parenthesis) 2 ∷ g (kind.Mark 36) 3 ∷ w 4 1 ∷ g (kind.Mark 58) 5 ∷ w 6 5 ∷ g (kind.Close Parenthesis) 11 ∷ g (kind.Mark 42) 12 ∷ g (kind.Close Parenthesis) 13 ∷ arrow 15 ∷ g (kind.Open Brace) 18 ∷ g (kind.Mark 36) 20 ∷ g (kind.Open Brace) 21 ∷ w 22 5 ∷ g (kind.Open Parenthesis) 27 ∷ w 28 1 ∷ g (kind.Close Parenthesis) 29 ∷ g (kind.Close Brace) 30 ∷ g (kind.Close Brace) 32 ∷ []) Unsupported

abbrev pub no_arrow : Type 0
no_arrow = IsWrong (codes "($a:ident) { }") (g (kind.Open Parenthesis) 0 ∷ g (kind.Mark 36) 1 ∷ w 2 1 ∷ g (kind.Mark 58) 3 ∷ w 4 5 ∷ g (kind.Close Parenthesis) 9 ∷ g (kind.Open Brace) 11 ∷ g (kind.Close Brace) 13 ∷ []) BadRule

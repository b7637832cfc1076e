-- The names of the kinds of fragments.
use Rattle.std.specs.Prelude.{ℕ, List, Option, Some, None, codes, if◌then◌else◌}
use Rattle.std.specs.Str.{bytes_eq}
use Rattle.dm_base.specs.declared.edition.Edition.{Edition}
use Rattle.dm_base.specs.declared.edition.Edition.TheVariants as edition
use Rattle.macro_rules.specs.declared.token.FragmentKind.{FragmentKind}
use Rattle.macro_rules.specs.declared.token.FragmentKind.TheVariants as of

-- before the edition 2024 an expression is neither `const { .. }` nor `_`
abbrev pub expression_kind : Edition → FragmentKind
expression_kind edition.Edition2024 = of.Expr
expression_kind _ = of.Expr2021

-- before the edition 2021 a pattern has no bars
abbrev pub pattern_kind : Edition → FragmentKind
pattern_kind edition.Edition2015 = of.PatParam
pattern_kind edition.Edition2018 = of.PatParam
pattern_kind _ = of.Pat

unfoldable pub kind_named : Edition → List ℕ → Option FragmentKind
kind_named edition name =
    if bytes_eq name (codes "ident") then Some of.Ident
    else if bytes_eq name (codes "lifetime") then Some of.Lifetime
    else if bytes_eq name (codes "tt") then Some of.Tt
    else if bytes_eq name (codes "literal") then Some of.Literal
    else if bytes_eq name (codes "vis") then Some of.Vis
    else if bytes_eq name (codes "block") then Some of.Block
    else if bytes_eq name (codes "path") then Some of.Path
    else if bytes_eq name (codes "ty") then Some of.Ty
    else if bytes_eq name (codes "meta") then Some of.Meta
    else if bytes_eq name (codes "item") then Some of.Item
    else if bytes_eq name (codes "expr") then Some (expression_kind edition)
    else if bytes_eq name (codes "expr_2021") then Some of.Expr2021
    else if bytes_eq name (codes "pat") then Some (pattern_kind edition)
    else if bytes_eq name (codes "pat_param") then Some of.PatParam
    else if bytes_eq name (codes "stmt") then Some of.Stmt
    else None

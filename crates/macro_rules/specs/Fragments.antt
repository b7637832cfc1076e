-- How far fragments go.
use Rattle.std.specs.Prelude.{◌+◌, ◌-◌, ◌*◌, ◌^◌, ℕ, zero, suc, Bool, true, false, List, [], ◌∷◌, ◌++◌, Option, Some, None, min, drop, take, slice_get, length}
use Rattle.macro_rules.specs.Expressions as expression
use Rattle.macro_rules.specs.Extents.{first_tree_len, literal_len, visibility_len, block_len}
use Rattle.macro_rules.specs.Goals.{takes, impossible}
use Rattle.macro_rules.specs.Patterns as pattern
use Rattle.macro_rules.specs.Statements as statement
use Rattle.macro_rules.specs.Types as type
use Rattle.macro_rules.specs.declared.goal.Goal.{Goal}
use Rattle.macro_rules.specs.declared.goal.Goal.TheVariants as goal
use Rattle.macro_rules.specs.declared.goal.Mode.TheVariants.{First}
use Rattle.macro_rules.specs.declared.goal.Move.{Move}
use Rattle.macro_rules.specs.declared.goal.Style.TheVariants.{Types}
use Rattle.macro_rules.specs.declared.token.FragmentKind.{FragmentKind}
use Rattle.macro_rules.specs.declared.token.FragmentKind.TheVariants as of
use Rattle.macro_rules.specs.declared.token.Token.{Token}

abbrev pub statement_goal_move : Goal → List Token → Move
statement_goal_move goal.Statement ts = statement.statement_move ts
statement_goal_move goal.LocalType ts = statement.local_type_move ts
statement_goal_move goal.LocalValue ts = statement.local_value_move ts
statement_goal_move goal.LocalElse ts = statement.local_else_move ts
statement_goal_move goal.Item ts = statement.item_move ts
statement_goal_move goal.Call ts = statement.call_move ts
statement_goal_move goal.Group ts = statement.group_move ts
statement_goal_move goal.Semicolon ts = statement.semicolon_move ts
statement_goal_move goal.ItemBody ts = statement.item_body_move ts
statement_goal_move goal.Nothing ts = takes 0
statement_goal_move _ ts = impossible

abbrev pub pattern_goal_move : Goal → List Token → Move
pattern_goal_move (goal.Pattern bars) ts = pattern.pattern_move bars ts
pattern_goal_move goal.Bars ts = pattern.bars_move ts
pattern_goal_move goal.Atom ts = pattern.atom_move ts
pattern_goal_move goal.PatternEnd ts = pattern.pattern_end_move ts
pattern_goal_move goal.Range ts = pattern.range_move ts
pattern_goal_move goal.RangeEnd ts = pattern.range_end_move ts
pattern_goal_move g ts = statement_goal_move g ts

abbrev pub expression_goal_move : Goal → List Token → Move
expression_goal_move (goal.Operand mode) ts = expression.operand_move mode ts
expression_goal_move (goal.Operator mode) ts = expression.operator_move mode ts
expression_goal_move (goal.Optional mode) ts = expression.optional_move mode ts
expression_goal_move (goal.PathEnd mode) ts = expression.path_end_move mode ts
expression_goal_move (goal.Ended mode) ts = expression.ended_move mode
expression_goal_move (goal.Behind mode) ts = expression.behind_move mode ts
expression_goal_move (goal.Else mode) ts = expression.else_move mode ts
expression_goal_move (goal.Parameters mode) ts = expression.parameters_move mode ts
expression_goal_move (goal.Body mode) ts = expression.body_move mode ts
expression_goal_move (goal.Value mode) ts = expression.value_move mode ts
expression_goal_move (goal.Each mode) ts = expression.each_move mode ts
expression_goal_move goal.Block ts = expression.block_move ts
expression_goal_move g ts = pattern_goal_move g ts

-- how a goal is read, by the tokens that follow
unfoldable pub goal_move : Goal → List Token → Move
goal_move (goal.Path style) ts = type.path_move style ts
goal_move (goal.Segment style) ts = type.segment_move style ts
goal_move (goal.Arguments style) ts = type.arguments_move style ts
goal_move (goal.Tail style) ts = type.tail_move style ts
goal_move goal.Output ts = type.output_move ts
goal_move (goal.Type plus) ts = type.type_move plus ts
goal_move (goal.TypeEnd plus) ts = type.type_end_move plus ts
goal_move (goal.Plus plus) ts = type.plus_move plus ts
goal_move goal.Bounds ts = type.bounds_move ts
goal_move goal.Meta ts = type.meta_move ts
goal_move goal.MetaValue ts = type.meta_value_move ts
goal_move g ts = expression_goal_move g ts

abbrev pub added : Goal → List Goal → List Goal
added goal.Nothing goals = goals
added g goals = goals ++ g ∷ []

-- the goals of a move stand before the others: the last in the list is next
abbrev pub pushed : Move → List Goal → List Goal
pushed m goals = added m.first (added m.second (added m.third goals))

abbrev pub place_behind : ℕ → ℕ → ℕ → ℕ
place_behind place len size = min (min (place + len) (2 ^ 64 - 1)) size

abbrev pub by_move : Move → List Goal → ℕ → List Token → (List Goal → ℕ → Option ℕ) → Option ℕ
by_move m goals place ts further = further (pushed m goals) (place_behind place m.len (length ts))

abbrev pub by_goal : Option Goal → List Goal → ℕ → List Token → (List Goal → ℕ → Option ℕ) → Option ℕ
by_goal None goals place ts further = Some place
by_goal (Some g) goals place ts further = by_move (goal_move g (drop place ts)) goals place ts further

-- goals are read one behind the other, in so many turns: what cannot be read takes all of them
abbrev pub goals_read : ℕ → List Token → List Goal → ℕ → Option ℕ
goals_read zero ts goals place = None
goals_read (suc n) ts goals place =
    by_goal (slice_get goals (length goals - 1)) (take (length goals - 1) goals) place ts (goals_read n ts)

-- no token takes more than sixteen turns
abbrev pub turns : ℕ → ℕ
turns size = min (16 * size + 16) (2 ^ 64 - 1)

-- how many tokens a goal takes; nothing where it cannot be read
abbrev pub goal_len : Goal → List Token → Option ℕ
goal_len g ts = goals_read (turns (length ts)) ts (g ∷ []) 0

-- how many tokens a fragment of the kind takes that may begin so; nothing where it cannot be read
unfoldable pub fragment_len : FragmentKind → List Token → Option ℕ
fragment_len of.Ident ts = Some 1
fragment_len of.Lifetime ts = Some 1
fragment_len of.Tt ts = Some (first_tree_len ts)
fragment_len of.Literal ts = literal_len ts
fragment_len of.Vis ts = Some (visibility_len ts)
fragment_len of.Block ts = block_len ts
fragment_len of.Path ts = goal_len (goal.Path Types) ts
fragment_len of.Ty ts = goal_len (goal.Type true) ts
fragment_len of.Meta ts = goal_len goal.Meta ts
fragment_len of.Expr ts = goal_len (goal.Operand First) ts
fragment_len of.Expr2021 ts = goal_len (goal.Operand First) ts
fragment_len of.Pat ts = goal_len (goal.Pattern true) ts
fragment_len of.PatParam ts = goal_len (goal.Pattern false) ts
fragment_len of.Stmt ts = goal_len goal.Statement ts
fragment_len of.Item ts = goal_len goal.Item ts

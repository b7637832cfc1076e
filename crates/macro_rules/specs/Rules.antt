-- The rules of a macro: `matcher => transcriber`, parted by semicolons.
use Rattle.std.specs.Prelude.{◌==◌, ◌+◌, ◌-◌, ◌&&◌, ◌||◌, ℕ, zero, suc, Bool, true, false, not, List, [], ◌∷◌, ◌++◌, Option, Some, None, is_some, is_none, drop, take, nat_le, min, length, if◌then◌else◌}
use Rattle.macro_rules.specs.Extents.{kind_at, is_mark, is_pair, tree_len}
use Rattle.macro_rules.specs.Read.{Read}
use Rattle.macro_rules.specs.Readings.{rows_read}
use Rattle.macro_rules.specs.RulesRead.{RulesRead}
use Rattle.macro_rules.specs.declared.reading.RuleFault.{RuleFault}
use Rattle.macro_rules.specs.declared.reading.RuleFault.TheVariants as fault
use Rattle.macro_rules.specs.declared.reading.dollars.Part.{Part}
use Rattle.macro_rules.specs.declared.rules.Cut.{Cut}
use Rattle.macro_rules.specs.declared.token.Home.{Home}
use Rattle.macro_rules.specs.declared.token.Token.{Token}
use Rattle.macro_rules.specs.declared.token.TokenKind.{TokenKind}
use Rattle.macro_rules.specs.declared.token.TokenKind.TheVariants as kind

abbrev pub opens : TokenKind → Bool
opens (kind.Open d) = true
opens _ = false

abbrev pub cut_behind : ℕ → List Token → Option Cut
cut_behind matcher rest =
    if opens (kind_at rest 0) then Some (record { matcher = matcher; transcriber = matcher + 1 + tree_len 0 rest }) else None

-- a group, `=>`, and a group, whichever their delimiters are
abbrev pub cut : List Token → Option Cut
cut ts =
    if not (opens (kind_at ts 0)) || not (is_pair 61 62 (kind_at ts (tree_len 0 ts))) then None
    else cut_behind (tree_len 0 ts) (drop (tree_len 0 ts + 1) ts)

-- what stands between the delimiters of a group
abbrev pub inside : ℕ → ℕ → List Token → List Token
inside from behind ts = take (behind - (from + 2)) (drop (from + 1) ts)

abbrev pub no_rules : RulesRead
no_rules = record { rules = []; fault = None }

abbrev pub failed : RuleFault → RulesRead → RulesRead
failed f r = record r { fault = Some f }

abbrev pub or_else : Option RuleFault → Option RuleFault → Option RuleFault
or_else None other = other
or_else (Some f) other = Some f

abbrev pub added : Read → Read → RulesRead → RulesRead
added m t r = record { rules = r.rules ++ record { matcher = m.rows; transcriber = t.rows } ∷ []; fault = or_else m.state.fault t.state.fault }

abbrev pub part : Bool → Home → Part
part is_matcher home = record { is_matcher = is_matcher; home = home }

abbrev pub matcher_read : Home → List ℕ → List Token → Cut → Read
matcher_read home bytes ts c = rows_read (part true home) bytes [] (inside 0 c.matcher ts)

abbrev pub transcriber_read : Home → List ℕ → List Token → Cut → Read → Read
transcriber_read home bytes ts c m = rows_read (part false home) bytes m.rows (inside (c.matcher + 1) c.transcriber ts)

unfoldable pub parts_read : Home → List ℕ → List Token → Cut → RulesRead → RulesRead
parts_read home bytes ts c r = added (matcher_read home bytes ts c) (transcriber_read home bytes ts c (matcher_read home bytes ts c)) r

abbrev pub ends_rule : List Token → ℕ → Bool
ends_rule ts at = nat_le (length ts) at || is_mark 59 (kind_at ts at)

abbrev pub ended : Bool → RulesRead → RulesRead
ended ends r = if is_none r.fault && not ends then failed fault.BadRule r else r

abbrev pub read_by : Option Cut → Home → List ℕ → List Token → RulesRead → RulesRead
read_by None home bytes ts r = failed fault.BadRule r
read_by (Some c) home bytes ts r = ended (ends_rule ts c.transcriber) (parts_read home bytes ts c r)

-- one more rule
unfoldable pub rule_read : Home → List ℕ → List Token → RulesRead → RulesRead
rule_read home bytes ts r = read_by (cut ts) home bytes ts r

abbrev pub len_by : Option Cut → List Token → ℕ
len_by None ts = length ts
len_by (Some c) ts = min c.transcriber (length ts) + 1

unfoldable pub rule_len : List Token → ℕ
rule_len ts = len_by (cut ts) ts

abbrev pub has_ended : List Token → ℕ → RulesRead → Bool
has_ended ts at r = is_some r.fault || nat_le (length ts) at

-- behind a fault, and behind the last token, no rule begins
abbrev pub next_at : List Token → ℕ → RulesRead → ℕ
next_at ts at r = if has_ended ts at r then at else at + rule_len (drop at ts)

abbrev pub next_read : Home → List ℕ → List Token → ℕ → RulesRead → RulesRead
next_read home bytes ts at r = if has_ended ts at r then r else rule_read home bytes (drop at ts) r

-- so many rules at most, from a place on
abbrev pub rules_from : Home → List ℕ → List Token → ℕ → ℕ → RulesRead → RulesRead
rules_from home bytes ts zero at r = r
rules_from home bytes ts (suc n) at r = rules_from home bytes ts n (next_at ts at r) (next_read home bytes ts at r)

-- a macro has a rule at least
abbrev pub at_end : RulesRead → RulesRead
at_end r = if (length r.rules == 0) && is_none r.fault then failed fault.BadRule r else r

abbrev pub rules_read : Home → List ℕ → List Token → RulesRead
rules_read home bytes ts = at_end (rules_from home bytes ts (length ts) 0 no_rules)

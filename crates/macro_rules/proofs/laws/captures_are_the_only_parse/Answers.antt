use Rattle.macro_rules.proofs.Only.{walk_only}
use Rattle.macro_rules.proofs.Reached.{walk_parsed}
use Rattle.macro_rules.proofs.laws.captures_are_the_only_parse.Goals as goal

pub returns : goal.returns
returns c = λ bytes rows ts closing limit laid enough. record {
  is_parsed = walk_parsed bytes rows ts closing limit;
  is_only = walk_only bytes rows ts laid closing enough limit;
}

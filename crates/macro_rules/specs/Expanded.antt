-- What a macro made of a call.
use Rattle.std.specs.Prelude.{List, Option}
use Rattle.macro_rules.specs.declared.expand.ExpandFault.{ExpandFault}
use Rattle.macro_rules.specs.declared.token.Token.{Token}

pub record Expanded : Type 0 where
  pub tokens : List Token
  pub fault : Option ExpandFault

use Rattle.std.proofs.Common.{◌∙◌, subst, sym, true, ◌≡◌}
use Rattle.std.specs.Option.{option_eq}
use Rattle.dm_imports.specs.contracts.meaning.MeaningPartialEq.TheImpl as meaning_eq
use Rattle.dm_imports.proofs.MeaningLemmas.{meanings-refl, meanings-same}
use Rattle.dm_imports.proofs.rules.supported.same_meaning.Goals as goal

pub returns : goal.returns
returns c = (
  λ yes. meanings-same c.args.one c.args.two (sym c.eq.ensures ∙ yes),
  λ same. c.eq.ensures ∙ subst (λ o. option_eq meaning_eq.ghosts.eq c.args.one o ≡ true) same (meanings-refl c.args.one),
)

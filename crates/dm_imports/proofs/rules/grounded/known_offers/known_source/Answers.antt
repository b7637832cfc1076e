use Rattle.std.proofs.Common.{◌∙◌, ap, subst, sym}
use Rattle.std.specs.Prelude.{is_none, not}
use Rattle.dm_imports.specs.Grounding.{HasSource, slots_of}
use Rattle.dm_imports.specs.Paths.{DefMaps}
use Rattle.dm_imports.specs.Rules.{source_of}
use Rattle.dm_imports.specs.Tables.{of_tables}
use Rattle.dm_imports.proofs.KnowingLemmas.{knowing-offer}
use Rattle.dm_imports.proofs.SourceLemmas.{has-source}
use Rattle.dm_imports.proofs.rules.grounded.known_offers.known_source.Goals as goal

pub source_of-requires-clause-into : goal.source_of-requires-clause-into
source_of-requires-clause-into c = (knowing-offer (of_tables c.args.maps.now) (slots_of c.args.known.now) (of_tables c.knowing-by.result) c.args.glob.now c.knowing-by.ensures c.requires).into

pub source_of-requires-clause-variants : goal.source_of-requires-clause-variants
source_of-requires-clause-variants c = (knowing-offer (of_tables c.args.maps.now) (slots_of c.args.known.now) (of_tables c.knowing-by.result) c.args.glob.now c.knowing-by.ensures c.requires).variants

pub returns : goal.returns
returns c =
    let d = of_tables c.args.maps.now in
    let k = slots_of c.args.known.now in
    let known = c.source_of.ensures ∙ ap (λ (v : DefMaps). source_of v c.args.glob.now) c.knowing-by.ensures in
    let some = sym (ap is_none known) ∙ ap not c.is_none.ensures ∙ ap (λ b. not (not b)) c.if-is_none.false in
    subst (HasSource d k c.args.glob.now) (sym c.source_of-2.ensures) (has-source d k c.args.glob.now some)

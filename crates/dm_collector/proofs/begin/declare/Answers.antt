use Rattle.std.proofs.Common.{◌∙◌, List, ap, subst, sym}
use Rattle.std.specs.Prelude.{All}
use Rattle.crate_tables.specs.CrateTables.{IsNameOf}
use Rattle.crate_tables.specs.DeclaredWorlds.{AreShown}
use Rattle.crate_tables.specs.declared.declared_name.DeclaredName.{DeclaredName}
use Rattle.dm_collector.specs.Enums.{enum_vis}
use Rattle.dm_collector.proofs.TableLemmas.{names-known}
use Rattle.dm_collector.proofs.begin.declare.Goals as goal

pub declared_world-requires-clause-known : goal.declared_world-requires-clause-known
declared_world-requires-clause-known c =
    subst (All (IsNameOf c.args.builder)) (sym (c.as_slice.ensures.value ∙ c.in_ok-parts.ensures.names)) (names-known c.args.builder c.args.tables.items c.requires.known)

pub returns-clause-declared : goal.returns-clause-declared
returns-clause-declared c =
    subst (λ (ds : List DeclaredName). AreShown c.in_ok-world.world c.in_ok-world.flags ds) (c.as_slice.ensures.value ∙ c.in_ok-parts.ensures.names) c.in_ok-world.ensures.shown

pub returns-clause-enums : goal.returns-clause-enums
returns-clause-enums c = λ e.
    c.in_ok-enums.ensures e ∙ ap (λ (ds : List DeclaredName). enum_vis ds e) (c.as_slice-2.ensures.value ∙ c.in_ok-parts.ensures.names)

use Rattle.std.proofs.Common.{◌∙◌, refl, subst, sym, true≢false}
use Rattle.std.proofs.lemmas.List.{take_all}
use Rattle.std.proofs.lemmas.List.Elements.{All-get_or, All-more}
use Rattle.std.specs.List.{All}
use Rattle.dm_imports.specs.declared.glob_import.GlobImport.{GlobImport}
use Rattle.dm_imports.specs.Rules.{IsGlobKnown}
use Rattle.dm_imports.specs.Tables.{of_tables}
use Rattle.dm_imports.proofs.known.globs_known.Goals as goal

pub returns-then-not-is_glob_known : goal.returns-then-not-is_glob_known
returns-then-not-is_glob_known c =
    let P : GlobImport → Type 0 = IsGlobKnown (of_tables c.args.maps.now) in (
      λ yes. absurd (true≢false (sym yes)),
      λ all. sym (c.if-not-is_glob_known.true) ∙ c.is_glob_known.ensures.1 (subst P (sym c.glob-item.is) (All-get_or P c.args.globs.now c.loop-glob.glob-index c.glob-item.result c.loop-glob-test.true all)),
    )

pub loop-glob-preserved : goal.loop-glob-preserved
loop-glob-preserved c =
    let P : GlobImport → Type 0 = IsGlobKnown (of_tables c.args.maps.now) in
    All-more P c.args.globs.now c.loop-glob.glob-index c.glob-item.result c.loop-glob-test.true c.loop-glob.invariant (subst P c.glob-item.is (c.is_glob_known.ensures.0 c.if-not-is_glob_known.false))

pub returns : goal.returns
returns c =
    let P : GlobImport → Type 0 = IsGlobKnown (of_tables c.args.maps.now) in (
      λ yes. subst (All P) (take_all c.loop-glob.glob-index c.args.globs.now c.loop-glob-test.false) c.loop-glob.invariant,
      λ all. refl,
    )

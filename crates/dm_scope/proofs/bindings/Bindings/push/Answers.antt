use Rattle.std.proofs.Common.{◌∙◌, ◌++◌, ◌∷◌, [], Some, sym, ap, subst₂}
use Rattle.dm_scope.specs.Shadowing.{reading, import_of}
use Rattle.dm_scope.specs.Bindings.{is_effective_at}
use Rattle.dm_scope.specs.Flags.{has_flag}
use Rattle.dm_scope.specs.Pushes.{ShowsIn}
use Rattle.dm_scope.proofs.BindingPushLemmas.{ShowsIn-after, is_effective-after}
use Rattle.dm_scope.proofs.NameLemmas.{is_by_name}
use Rattle.dm_scope.specs.FlagLaws.{has_flag-elsewhere}
use Rattle.dm_scope.proofs.bindings.Bindings.push.Goals as goal

pub returns-clause-shown : goal.returns-clause-shown
returns-clause-shown g c ps shows =
    let r = reading g.I.PartialEq.eq g.D.PartialEq.eq g.I.ImportSource.globs g.I.ImportSource.narrowed g.I.ImportSource.widened g.D.Definition.widened_def in
    subst₂ (λ s f. ShowsIn r s (has_flag f c.args.lookup.0) (ps ++ record { name = c.args.lookup.1; item = c.args.item; by = import_of r c.args.import } ∷ []))
    (sym c.in_ok-effective.ensures.bindings) (sym c.in_ok-effective.ensures.flags)
    (ShowsIn-after r (record { import_refl = g.met.I.Eq.laws.refl; import_same = g.met.I.ValueEq.same; def_refl = g.met.D.Eq.laws.refl; def_same = g.met.D.ValueEq.same })
    c.args.self.now c.args.flags.now c.args.lookup.0 ps shows c.args.lookup.1 c.args.item c.args.import)

pub returns-clause-shown_answer : goal.returns-clause-shown_answer
returns-clause-shown_answer g c ps shows =
    let r = reading g.I.PartialEq.eq g.D.PartialEq.eq g.I.ImportSource.globs g.I.ImportSource.narrowed g.I.ImportSource.widened g.D.Definition.widened_def in
    c.in_ok-effective.ensures.answer
    ∙ is_effective-after r (record { import_refl = g.met.I.Eq.laws.refl; import_same = g.met.I.ValueEq.same; def_refl = g.met.D.Eq.laws.refl; def_same = g.met.D.ValueEq.same })
    c.args.self.now c.args.flags.now c.args.lookup.0 ps shows c.args.lookup.1 c.args.item c.args.import

pub returns-clause-elsewhere : goal.returns-clause-elsewhere
returns-clause-elsewhere g c k n apart =
    let r = reading g.I.PartialEq.eq g.D.PartialEq.eq g.I.ImportSource.globs g.I.ImportSource.narrowed g.I.ImportSource.widened g.D.Definition.widened_def in
    ap (λ f. has_flag f k n) c.in_ok-effective.ensures.flags
    ∙ has_flag-elsewhere r c.args.flags.now (is_effective_at r c.args.self.now c.args.flags.now c.args.lookup.0 c.args.lookup.1 (Some c.args.item) c.args.import) c.args.lookup.0 c.args.lookup.1 (import_of r c.args.import) k n apart

pub returns-clause-by_name : goal.returns-clause-by_name
returns-clause-by_name g c n = is_by_name (reading g.I.PartialEq.eq g.D.PartialEq.eq g.I.ImportSource.globs g.I.ImportSource.narrowed g.I.ImportSource.widened g.D.Definition.widened_def) n

pub returns-in_err-effective-clause-by_name : goal.returns-in_err-effective-clause-by_name
returns-in_err-effective-clause-by_name g c n = is_by_name (reading g.I.PartialEq.eq g.D.PartialEq.eq g.I.ImportSource.globs g.I.ImportSource.narrowed g.I.ImportSource.widened g.D.Definition.widened_def) n

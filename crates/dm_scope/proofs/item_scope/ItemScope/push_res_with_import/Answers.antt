use Rattle.std.proofs.Common.{◌∙◌, ◌++◌, ◌∷◌, [], sym, subst, subst₂}
use Rattle.dm_base.specs.Names.{Name}
use Rattle.dm_scope.specs.PushLaw.{PushLaw, itself}
use Rattle.dm_scope.specs.Shows.{IsByNameInEach, ScopePush, Shows}
use Rattle.dm_scope.proofs.ClosedLemmas.{Shows-after, push_answer-is_answered, Shows-elsewhere}
use Rattle.dm_scope.specs.Push.{types_reading, values_reading, macros_reading}
use Rattle.dm_scope.proofs.LawLemmas.{push_law}
use Rattle.dm_scope.proofs.NameLemmas.{is_by_name}
use Rattle.dm_scope.proofs.item_scope.ItemScope.push_res_with_import.Goals as goal

pub returns-clause-shown : goal.returns-clause-shown
returns-clause-shown c ps shows =
    let p : ScopePush = record { name = c.args.lookup.1; res = c.args.def; by = c.args.import } in
    subst₂ (λ s g. Shows s g c.args.lookup.0 (ps ++ p ∷ [])) (sym c.in_ok-answer.ensures.scope) (sym c.in_ok-answer.ensures.globs)
    (Shows-after c.args.self.now c.args.glob_imports.now c.args.lookup.0 ps shows p)

pub returns-clause-shown_answer : goal.returns-clause-shown_answer
returns-clause-shown_answer c ps shows =
    c.in_ok-answer.ensures.answer
    ∙ push_answer-is_answered c.args.self.now c.args.glob_imports.now c.args.lookup.0 ps shows (record { name = c.args.lookup.1; res = c.args.def; by = c.args.import })

pub returns-clause-elsewhere : goal.returns-clause-elsewhere
returns-clause-elsewhere c other k ps apart shows =
    subst (λ g. Shows other g k ps) (sym c.in_ok-answer.ensures.globs)
    (Shows-elsewhere c.args.self.now other c.args.glob_imports.now c.args.lookup.0 k ps apart shows (record { name = c.args.lookup.1; res = c.args.def; by = c.args.import }))

each : (n : Name) → IsByNameInEach n
each n = record { types = is_by_name types_reading n; values = is_by_name values_reading n; macros = is_by_name macros_reading n }

pub returns-clause-by_name : goal.returns-clause-by_name
returns-clause-by_name c n = each n

pub returns-in_err-answer-clause-by_name : goal.returns-in_err-answer-clause-by_name
returns-in_err-answer-clause-by_name c n = each n

pub returns-clause-law : goal.returns-clause-law
returns-clause-law c =
    let p : ScopePush = record { name = c.args.lookup.1; res = c.args.def; by = c.args.import } in
    subst₂ (λ t h. PushLaw itself c.args.self.now c.args.glob_imports.now t h c.args.lookup.0 p) (sym c.in_ok-answer.ensures.scope) (sym c.in_ok-answer.ensures.globs)
    (push_law c.args.self.now c.args.glob_imports.now c.args.lookup.0 p)

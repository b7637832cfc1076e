use Rattle.std.proofs.Common.{◌≡◌, ◌∙◌, ◌+◌, ◌-◌, ◌^◌, ◌++◌, ◌∷◌, [], ℕ, length, min, rules, ap, subst, sym, Bool, Option, Some, None, Result, Ok, Err}
use Rattle.std.specs.Result.{IsErr}
use Rattle.std.specs.declared.alloc.AllocError.{AllocError}
use Rattle.dm_maps.proofs.Ids.{ModuleId}
use Rattle.dm_scope.specs.Flags.{Globs}
use Rattle.dm_scope.specs.Gives.{PushGives}
use Rattle.std.specs.Option.{option_copied_mut, option_map, option_map_or}
use Rattle.dm_def_map.specs.Maps.{Module}
use Rattle.dm_scope.specs.Push.{push_answer, scope_after, globs_after}
use Rattle.dm_scope.specs.PushLaw.{PushLaw, itself}
use Rattle.dm_scope.specs.Scope.{Scope, no_scope}
use Rattle.dm_scope.specs.Shows.{ScopePush, Shows}
use Rattle.dm_base.specs.declared.per_ns.Namespace.{Namespace}
use Rattle.dm_base.specs.declared.per_ns.Namespace.TheVariants.{Types, Values, Macros}
use Rattle.dm_scope.specs.Records.{records_in}
use Rattle.dm_maps.specs.CountGrowth.{grown}
use Rattle.dm_maps.specs.World.{module_of, scope_of, with_scope}
use Rattle.dm_scope.specs.Outcomes.{on-err}
use Rattle.dm_maps.proofs.ScopeWrites.{scope_of-own, with_scope-own}
use Rattle.dm_maps.proofs.builder.WorldBuilder.push_res.Goals as goal

pub returns-in_err-answer-clause-err : goal.returns-in_err-answer-clause-err
returns-in_err-answer-clause-err c = on-err c.from_residual.result
    (ap (with_scope c.args.self.now c.args.lookup.0) c.in_err-answer.ensures.gives.err
    ∙ with_scope-own c.unwrap-scope.result.now c.args.self.now c.args.lookup.0 (sym c.scope_mut.ensures.value ∙ ap option_copied_mut c.unwrap-scope.ensures))

-- a scope that is read is the one that is lent
read : (s : Scope) (o : Option Module) → option_map (λ (d : Module). d.scope) o ≡ Some s → s ≡ option_map_or (λ (d : Module). d.scope) o no_scope
read s None e = cc
read s (Some d) e = cc

-- what a push gives that could not allocate
refused : (s t : Scope) (g h : Globs) (m : ModuleId) (p : ScopePush) (r : Result Bool AllocError) → IsErr r → t ≡ s → h ≡ g → PushGives s g t h m p r
refused s t g h m p (Ok answer) is own same = Prim.search rules
refused s t g h m p (Err e) is own same = record { answer = tt; scope = tt; globs = tt; err = own; err_globs = same }

pub returns-in_err-answer-clause-gives : goal.returns-in_err-answer-clause-gives
returns-in_err-answer-clause-gives c =
    let a = c.args in
    let e = c.in_err-answer.ensures.gives in
    let own = scope_of-own c.push_res_with_import.new.self a.self.now a.lookup.0 c.requires.there in
    let lent = read c.unwrap-scope.result.now (module_of a.self.now a.lookup.0) (sym c.scope_mut.ensures.value ∙ ap option_copied_mut c.unwrap-scope.ensures) in
    refused (scope_of a.self.now a.lookup.0) _ a.glob_imports.now _ a.lookup.0 _ c.from_residual.result c.from_residual.ensures.0 (own ∙ e.err ∙ lent) e.err_globs

lent : (c : goal.After-grow) → c.unwrap-scope.result.now ≡ scope_of c.args.self.now c.args.lookup.0
lent c = read c.unwrap-scope.result.now (module_of c.args.self.now c.args.lookup.0) (sym c.scope_mut.ensures.value ∙ ap option_copied_mut c.unwrap-scope.ensures)

pub returns-clause-world : goal.returns-clause-world
returns-clause-world c =
    let a = c.args in
    ap (with_scope a.self.now a.lookup.0) (c.in_ok-answer.ensures.gives.scope ∙ ap (λ s. scope_after s a.glob_imports.now a.lookup.0 a.lookup.1 a.res a.import) (lent c))

pub returns-clause-gives : goal.returns-clause-gives
returns-clause-gives c =
    let a = c.args in
    let e = c.in_ok-answer.ensures.gives in
    let own = scope_of-own c.push_res_with_import.new.self a.self.now a.lookup.0 c.requires.there in
    record {
      answer = e.answer ∙ ap (λ s. push_answer s a.glob_imports.now a.lookup.0 a.lookup.1 a.res a.import) (lent c);
      scope = own ∙ e.scope ∙ ap (λ s. scope_after s a.glob_imports.now a.lookup.0 a.lookup.1 a.res a.import) (lent c);
      globs = e.globs ∙ ap (λ s. globs_after s a.glob_imports.now a.lookup.0 a.lookup.1 a.res a.import) (lent c);
      err = tt;
      err_globs = tt;
    }

pub returns-clause-law : goal.returns-clause-law
returns-clause-law c =
    let a = c.args in
    let p : ScopePush = record { name = a.lookup.1; res = a.res; by = a.import } in
    subst (λ s. PushLaw itself s a.glob_imports.now (scope_after s a.glob_imports.now a.lookup.0 a.lookup.1 a.res a.import) c.push_res_with_import.new.glob_imports a.lookup.0 p) (lent c)
    (subst (λ t. PushLaw itself c.unwrap-scope.result.now a.glob_imports.now t c.push_res_with_import.new.glob_imports a.lookup.0 p) c.in_ok-answer.ensures.gives.scope c.in_ok-answer.ensures.law)

pub returns-clause-shown : goal.returns-clause-shown
returns-clause-shown c ps shows =
    let a = c.args in
    let p : ScopePush = record { name = a.lookup.1; res = a.res; by = a.import } in
    let more = ps ++ p ∷ [] in
    let h = c.push_res_with_import.new.glob_imports in
    subst (λ s. Shows (scope_after s a.glob_imports.now a.lookup.0 a.lookup.1 a.res a.import) h a.lookup.0 more) (lent c)
    (subst (λ t. Shows t h a.lookup.0 more) c.in_ok-answer.ensures.gives.scope
    (c.in_ok-answer.ensures.shown ps (subst (λ s. Shows s a.glob_imports.now a.lookup.0 ps) (sym (lent c)) shows)))

pub returns-clause-shown_answer : goal.returns-clause-shown_answer
returns-clause-shown_answer c ps shows =
    c.in_ok-answer.ensures.shown_answer ps (subst (λ s. Shows s c.args.glob_imports.now c.args.lookup.0 ps) (sym (lent c)) shows)

-- the count of a namespace, by the scope that was lent
counted : (ns : Namespace) (o n b a : ℕ) (s t u v : Scope) → n ≡ min (o + (a - b)) (2 ^ 64 - 1) → b ≡ length (records_in ns u) → u ≡ s → a ≡ length (records_in ns v) → t ≡ v → n ≡ grown o ns s t
counted ns o n b a s t u v is before was after left =
    is ∙ (λ i. min (o + ((after ∙ ap (λ x. length (records_in ns x)) (sym left)) i - (before ∙ ap (λ x. length (records_in ns x)) was) i)) (2 ^ 64 - 1))

pub returns-clause-counts : goal.returns-clause-counts
returns-clause-counts c =
    let own = scope_of-own c.push_res_with_import.new.self c.args.self.now c.args.lookup.0 c.requires.there in
    record {
      types = counted Types _ _ _ _ _ _ _ _ c.grow.ensures.types c.of_scope-before.ensures.types (lent c) c.of_scope-after.ensures.types own;
      values = counted Values _ _ _ _ _ _ _ _ c.grow.ensures.values c.of_scope-before.ensures.values (lent c) c.of_scope-after.ensures.values own;
      macros = counted Macros _ _ _ _ _ _ _ _ c.grow.ensures.macros c.of_scope-before.ensures.macros (lent c) c.of_scope-after.ensures.macros own;
    }

use Rattle.std.proofs.Common.{◌++◌, ◌∷◌, [], Option, inl, subst}
use Rattle.dm_base.specs.declared.imports.ImportOrExternCrate.{ImportOrExternCrate}
use Rattle.dm_base.specs.declared.per_ns.PerNs.{PerNs}
use Rattle.dm_maps.specs.World.{scope_of}
use Rattle.dm_scope.specs.Shows.{Shows, push_of}
use Rattle.dm_imports.specs.Bound.{Binding, Maps}
use Rattle.dm_imports.proofs.BoundLemmas.{show-one}
use Rattle.dm_imports.proofs.bind.push.Goals as goal

pub returns-clause-shown : goal.returns-clause-shown
returns-clause-shown c =
    let b : Binding = record { home = c.args.m; name = c.args.name; namespace = c.args.namespace; meaning = c.args.meaning } in
    let old : Maps = record { world = c.args.world.now; flags = c.args.flags.now } in
    let new : Maps = record { world = c.push_res.new.self; flags = c.push_res.new.glob_imports } in
    inl (show-one old new b
    (λ ps h.
    subst (λ (z : PerNs × Option ImportOrExternCrate). Shows (scope_of c.push_res.new.self c.args.m) c.push_res.new.glob_imports c.args.m (ps ++ push_of c.args.name z.0 z.1 ∷ []))
    (λ i. (c.items_of-items.ensures i, c.import_of-import.ensures i)) (c.in_ok-push_res.ensures.shown ps h))
    c.in_ok-push_res.ensures.elsewhere)

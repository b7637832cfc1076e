use Rattle.std.proofs.Common.{◌≡◌, List, subst, sym}
use Rattle.std.specs.List.{Contains}
use Rattle.dm_base.specs.Names.{Name}
use Rattle.dm_scope.specs.Sorted.{seen}
use Rattle.dm_imports.specs.declared.container.Container.{Container}
use Rattle.dm_imports.specs.Supporting.{listed_in, source_names}
use Rattle.dm_imports.proofs.OutcomeLemmas.{if-ok-then}
use Rattle.dm_imports.proofs.rules.listing.listed_names.Goals as goal

pub returns-in-Module : goal.returns-in-Module
returns-in-Module c =
    let w = c.args.world.now in
    if-ok-then (λ names. seen names.items ≡ listed_in c.args.listing.now c.in-Module.m) (λ names. (n : Name) → Contains (source_names w c.args.from) n → Contains (seen names.items) n)
    c.names_in.result
    (λ names same n has.
    let own = subst (λ (v : Container). Contains (source_names w v) n) c.in-Module.is has in
    subst (λ (l : List Name). Contains l n) (sym same) (c.requires c.in-Module.m c.names_in.ensures.fits n own))
    c.names_in.ensures.names

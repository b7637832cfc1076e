use Rattle.std.proofs.Common.{refl}
use Rattle.dm_imports.specs.Bound.{Binding, IsBrought}
use Rattle.dm_imports.specs.declared.meaning.Source.TheVariants as source
use Rattle.dm_imports.proofs.BoundLemmas.{bound-once}
use Rattle.dm_imports.proofs.bind.push_import.Goals as goal

pub returns : goal.returns
returns c =
    let is = c.args.given.now.imports.now in
    let gs = c.args.given.now.globs.now in
    let i = c.args.import.now in
    let b : Binding = record {
      home = i.home;
      name = c.in_ok-name.name;
      namespace = c.args.namespace;
      meaning = record c.args.meaning { source = source.Import i.import };
    } in
    let by : IsBrought is gs b = (i, c.requires, refl, refl, c.in_ok-name.ensures) in
    bound-once is gs _ _ b by c.push.ensures.bound c.push.ensures.shown

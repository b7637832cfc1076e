use Rattle.std.proofs.Common.{refl}
use Rattle.dm_imports.specs.Bound.{Binding, IsBrought}
use Rattle.dm_imports.specs.declared.meaning.Source.TheVariants as source
use Rattle.dm_imports.proofs.BoundLemmas.{bound-once}
use Rattle.dm_imports.proofs.bind.push_glob.Goals as goal

pub returns : goal.returns
returns c =
    let is = c.args.given.now.imports.now in
    let gs = c.args.given.now.globs.now in
    let g = c.args.glob.now in
    let b : Binding = record {
      home = g.into;
      name = c.args.name;
      namespace = c.args.namespace;
      meaning = record c.args.meaning { source = source.Glob g.import };
    } in
    let by : IsBrought is gs b = (g, c.requires, refl, refl) in
    bound-once is gs _ _ b by c.push.ensures.bound c.push.ensures.shown

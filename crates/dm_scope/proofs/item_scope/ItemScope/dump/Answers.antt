use Rattle.std.proofs.Common.{◌≡◌, ◌++◌, ◌∙◌, ap, rules, string_bytes, refl}
use Rattle.dm_scope.specs.Dumps.{lines}
use Rattle.dm_scope.specs.Sorted.{seen}
use Rattle.dm_scope.proofs.DumpLemmas.{IsDump-one}
use Rattle.dm_scope.proofs.item_scope.ItemScope.dump.Goals as goal

pub returns-clause-exact : goal.returns-clause-exact
returns-clause-exact g c text given =
    let t = g.T.ScopeTables.tables c.args.tables.now in
    let made = lines t c.args.self.now (seen c.in_ok-names.names.items) (seen c.in_ok-legacy.legacy.items) in
    let written : string_bytes c.push_str.new.self ≡ string_bytes c.args.buf.now ++ made = search rules in
    written
    ∙ ap (λ added. string_bytes c.args.buf.now ++ added)
    (IsDump-one t c.args.self.now made text
    (record {
      names = seen c.in_ok-names.names.items;
      legacy = seen c.in_ok-legacy.legacy.items;
      names_in_order = c.in_ok-names.ensures;
      legacy_in_order = c.in_ok-legacy.ensures;
      is = refl;
    })
    given)

use Rattle.std.proofs.Common.{List, Some, ap, subst, sym}
use Rattle.std.proofs.lemmas.List.Elements.{All-contains_itself, All-weaker}
use Rattle.std.specs.List.{All, Contains}
use Rattle.dm_imports.specs.declared.named_import.NamedImport.{NamedImport}
use Rattle.dm_imports.specs.Grounding.{IsImportSettled, slots_of}
use Rattle.dm_imports.specs.Tables.{MapTables, of_tables}
use Rattle.dm_imports.proofs.ListedLemmas.{all-settled-more, ways-cover}
use Rattle.dm_imports.proofs.rules.grounded.ways.all_ways.Goals as goal

pub returns-clause-covered : goal.returns-clause-covered
returns-clause-covered c =
    let d = of_tables c.args.maps.now in
    let k = c.add_imports.new.known in
    let l = c.add_modules.new.known in
    let vs = c.add_imports.new.ways.items in
    let ws = c.add_modules.new.ways.items in
    let same = ap (λ (t : MapTables). t.imports) c.maps.view_is in
    let settled = subst (All (IsImportSettled d (slots_of k) vs)) same c.in_ok-add_imports.ensures.settled in
    ways-cover d l ws
    (All-weaker (IsImportSettled d (slots_of k) vs) (IsImportSettled d (slots_of l) ws) (λ i. all-settled-more d k l vs ws c.in_ok-add_modules.ensures.more i.home i.name (Some i)) d.imports settled)
    c.in_ok-add_modules.ensures.settled

pub add_imports-requires-clause-listed : goal.add_imports-requires-clause-listed
add_imports-requires-clause-listed c =
    let is = c.args.maps.now.imports in
    subst (λ (l : List NamedImport). All (Contains is) l) (sym (ap (λ (t : MapTables). t.imports) c.maps.view_is)) (All-contains_itself is)

pub returns-clause-safe : goal.returns-clause-safe
returns-clause-safe c = c.in_ok-add_modules.ensures.more.safe (c.in_ok-add_imports.ensures.more.safe c.requires.safe)

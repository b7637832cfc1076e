use Rattle.std.proofs.Common.{◌<◌, ◌≤◌, length, rules, subst}
use Rattle.crate_items.specs.Sources.{AreSourcesOf}
use Rattle.crate_items.proofs.ModuleLemmas.{all_listed, listed_further}
use Rattle.crate_items.proofs.modules.declared_modules.Goals as goal

pub returns-then-len-number-clause-sources : goal.returns-then-len-number-clause-sources
returns-then-len-number-clause-sources c =
    subst (λ e. AreSourcesOf e c.args.krate.now.cfg_options c.args.files.now c.loop-number.list.sources) c.edition-edition.ensures
    (subst (λ o. AreSourcesOf c.edition-edition.result o c.args.files.now c.loop-number.list.sources) c.cfg_options-options.ensures c.loop-number.invariant.listing.right)

pub returns-then-len-number-clause-modules : goal.returns-then-len-number-clause-modules
returns-then-len-number-clause-modules c =
    let all : length c.loop-number.list.modules ≤ c.loop-number.number = search rules in
    (all_listed _ c.cfg_options-options.result.now c.args.files.now c.args.krate.now.root_file_id c.loop-number.number c.loop-number.list c.loop-number.invariant all).0

pub returns-then-len-number-clause-faults : goal.returns-then-len-number-clause-faults
returns-then-len-number-clause-faults c =
    let all : length c.loop-number.list.modules ≤ c.loop-number.number = search rules in
    (all_listed _ c.cfg_options-options.result.now c.args.files.now c.args.krate.now.root_file_id c.loop-number.number c.loop-number.list c.loop-number.invariant all).1

pub loop-number-preserved : goal.loop-number-preserved
loop-number-preserved c =
    let there : c.loop-number.number < length c.loop-number.list.modules = search rules in
    listed_further c.edition-edition.result c.cfg_options-options.result.now c.args.files.now c.args.krate.now.root_file_id c.loop-number.number c.loop-number.list c.add_all.new.self c.in_ok-founds.founds.items
    there c.in_ok-founds.ensures.exact c.loop-number.invariant c.in_ok-add_all.ensures.listing c.in_ok-add_all.ensures.adds

pub returns-then-len-limit-clause-sources : goal.returns-then-len-limit-clause-sources
returns-then-len-limit-clause-sources c =
    subst (λ e. AreSourcesOf e c.args.krate.now.cfg_options c.args.files.now c.loop-number.list.sources) c.edition-edition.ensures
    (subst (λ o. AreSourcesOf c.edition-edition.result o c.args.files.now c.loop-number.list.sources) c.cfg_options-options.ensures c.loop-number.invariant.listing.right)

pub returns-then-len-limit-clause-modules : goal.returns-then-len-limit-clause-modules
returns-then-len-limit-clause-modules c =
    let all : length c.loop-number.list.modules ≤ c.loop-number.number = search rules in
    (all_listed _ c.cfg_options-options.result.now c.args.files.now c.args.krate.now.root_file_id c.loop-number.number c.loop-number.list c.loop-number.invariant all).0

pub returns-then-len-limit-clause-faults : goal.returns-then-len-limit-clause-faults
returns-then-len-limit-clause-faults c =
    let all : length c.loop-number.list.modules ≤ c.loop-number.number = search rules in
    (all_listed _ c.cfg_options-options.result.now c.args.files.now c.args.krate.now.root_file_id c.loop-number.number c.loop-number.list c.loop-number.invariant all).1

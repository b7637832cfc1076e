use Rattle.std.proofs.Common.{◌∙◌, Ok, ap, subst, rules}
use Rattle.dm_def_map.specs.CrateData.{with_settings}
use Rattle.dm_maps.specs.BuildCrateData.{sharing, settings_fault}
use Rattle.dm_maps.specs.BuildMaps.{crate_fault}
use Rattle.dm_maps.specs.Faults.{Answers}
use Rattle.dm_maps.proofs.Refusals.{out_of_memory, no_fault}
use Rattle.dm_maps.proofs.SettingLemmas.{all-at_once, first-tells, not-none}
use Rattle.dm_maps.proofs.builder.WorldBuilder.set_crate_data.Goals as goal

pub returns-in_err-data-clause-fault : goal.returns-in_err-data-clause-fault
returns-in_err-data-clause-fault c =
    let w = c.args.self.now in
    let k = c.args.krate in
    let some = not-none c.args.settings.items c.args.settings.len c.args.settings.ok.0 (cc) in
    let told : Answers (crate_fault w k) c.from_residual.result = search rules in
    subst (λ o. Answers o c.from_residual.result) (first-tells w k c.args.settings.items some) told

pub returns-in_err-changed-clause-fault : goal.returns-in_err-changed-clause-fault
returns-in_err-changed-clause-fault c =
    let w = c.args.self.now in
    let k = c.args.krate in
    let some = not-none c.args.settings.items c.args.settings.len c.args.settings.ok.0 (cc) in
    subst (λ o. Answers o c.from_residual-in_err-changed.result) (first-tells w k c.args.settings.items some)
    (out_of_memory (crate_fault w k) c.in_ok-data.data c.from_residual-in_err-changed.result c.in_ok-data.ensures.fault c.from_residual-in_err-changed.ensures.1)

pub returns-in_err-share_data-clause-fault : goal.returns-in_err-share_data-clause-fault
returns-in_err-share_data-clause-fault c =
    let w = c.args.self.now in
    let k = c.args.krate in
    let some = not-none c.args.settings.items c.args.settings.len c.args.settings.ok.0 (cc) in
    subst (λ o. Answers o c.from_residual-in_err-share_data.result) (first-tells w k c.args.settings.items some)
    (out_of_memory (crate_fault w k) c.in_ok-data.data c.from_residual-in_err-share_data.result c.in_ok-data.ensures.fault c.from_residual-in_err-share_data.ensures.1)

pub returns-clause-ok : goal.returns-clause-ok
returns-clause-ok c =
    let w = c.args.self.now in
    let k = c.args.krate in
    let some = not-none c.args.settings.items c.args.settings.len c.args.settings.ok.0 (cc) in
    c.in_ok-share_data.ensures.ok
    ∙ ap (sharing w k) (c.in_ok-changed.ensures ∙ ap (λ d. with_settings d c.args.settings.items) c.in_ok-data.ensures.value)
    ∙ all-at_once w k c.in_ok-data.ensures.own c.args.settings.items some

pub returns-clause-fault : goal.returns-clause-fault
returns-clause-fault c =
    let w = c.args.self.now in
    let k = c.args.krate in
    let some = not-none c.args.settings.items c.args.settings.len c.args.settings.ok.0 (cc) in
    no_fault (settings_fault w k c.args.settings.items) c.in_ok-data.data tt
    (subst (λ o. Answers o (Ok c.in_ok-data.data)) (first-tells w k c.args.settings.items some) c.in_ok-data.ensures.fault)

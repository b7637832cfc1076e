use Rattle.std.proofs.Common.{◌∙◌, ◌-◌, ◌^◌, List, length, min, ap, sym}
use Rattle.std.specs.List.{flat_map}
use Rattle.std.proofs.lemmas.List.Folds.{flat_map-map}
use Rattle.dm_maps.proofs.Ids.{ImportOrDef, ImportOrExternCrate, Place}
use Rattle.dm_scope.specs.Records.{records_in}
use Rattle.dm_maps.specs.ScopeTables.{scope_at_place, scope_tables}
use Rattle.dm_maps.specs.World.{World}
use Rattle.dm_maps.proofs.builder.WorldBuilder.records.Goals as goal

pub returns : goal.returns
unfolding scope_tables
returns c =
    let w = c.args.self.now in
    let records : Place → List (ImportOrExternCrate × ImportOrDef) = λ p. records_in c.args.namespace (scope_at_place w p) in
    c.counted.ensures
    ∙ ap (λ ps. min (length (flat_map records ps)) (2 ^ 64 - 1)) (c.deref.ensures.value ∙ ap (λ (x : World). x.places) c.self.view_is)
    ∙ sym (ap (λ (l : List (ImportOrExternCrate × ImportOrDef)). min (length l) (2 ^ 64 - 1)) (flat_map-map (records_in c.args.namespace) (scope_at_place w) w.places))

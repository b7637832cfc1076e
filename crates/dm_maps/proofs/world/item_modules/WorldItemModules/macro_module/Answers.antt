use Rattle.std.proofs.Common.{◌∙◌, ap, sym, subst, IsTrue, Option}
use Rattle.std.specs.Option.{ForSome}
use Rattle.dm_maps.proofs.Ids.{ModuleId}
use Rattle.dm_maps.specs.declared.check.held.HeldId.TheVariants as held
use Rattle.dm_maps.specs.ItemHomes.{module_of_macro}
use Rattle.dm_maps.specs.Known.{knows}
use Rattle.dm_maps.specs.Sound.{IsSound, IsCheckedWorld}
use Rattle.dm_maps.specs.World.{World}
use Rattle.dm_maps.proofs.world.item_modules.WorldItemModules.macro_module.Goals as goal

pub returns-clause-known : goal.returns-clause-known
returns-clause-known c =
    let sound : IsSound c.args.self.now = (subst IsCheckedWorld c.self.view_is c.self.invariant.0).sound in
    let P : Option ModuleId → Type 0 = λ o. ForSome o (λ m. IsTrue (knows c.args.self.now (held.Module m))) in
    subst P (sym (c.module_of_macro.ensures ∙ ap (λ (w : World). module_of_macro w c.args.id) c.self.view_is)) (sound.macro_modules c.args.id)

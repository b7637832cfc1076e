use Rattle.std.proofs.Common.{◌∙◌, sym, ap}
use Rattle.std.specs.Option.{option_copied_mut}
use Rattle.dm_scope.proofs.EntryLemmas.{set_value-absent}
use Rattle.dm_scope.proofs.bindings.lazy_map.set.Goals as goal

pub returns-in_default : goal.returns-in_default
returns-in_default g c =
    ap (λ m. m.entries) c.get_mut.follows.holds-at-none
    ∙ sym (set_value-absent (g.K.PartialEq.eq c.args.key.now) c.args.value c.args.map.now.entries (sym c.get_mut.ensures.value ∙ ap option_copied_mut c.in_default.is))

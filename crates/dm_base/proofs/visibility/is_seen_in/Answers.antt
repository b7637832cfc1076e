use Rattle.std.proofs.Common.{◌≡◌, Bool, true, false, ◌&&◌, ◌||◌, sym, ap, ◌∙◌}
use Rattle.std.proofs.lemmas.Bool.{not-false}
use Rattle.dm_base.specs.declared.ids.ModuleId.{ModuleId}
use Rattle.dm_base.specs.declared.ids.Crate.{Crate}
use Rattle.dm_base.specs.declared.ids.MapId.{MapId}
use Rattle.dm_base.specs.Tree.{same_module, same_crate, crate_of, chain, is_among, lift, lift_to}
use Rattle.dm_base.proofs.visibility.is_seen_in.Goals as goal

pub returns : goal.returns
returns g c =
    let t = g.T.ModuleTree.tree c.args.tree.now in
    let to = c.args.to in
    let from = c.args.from in
    let differ : same_module from to ≡ false = sym c.eq.ensures ∙ c.if-eq.false in
    let same : same_crate (crate_of t from) (crate_of t to) ≡ true =
    ap (λ (i : MapId). same_crate i.krate (crate_of t to)) c.requires.lies
    ∙ ap (λ (k : Crate). same_crate c.args.map.krate k) (sym c.krate.ensures)
    ∙ not-false _ (sym c.ne.ensures ∙ c.if-ne.false) in
    let stands = is_among (lift t to from) (chain t from) in
    c.contains.ensures
    ∙ ap (λ (m : ModuleId). is_among m (chain t from)) (c.lifted.ensures ∙ ap (λ (i : MapId). lift_to t to i) (sym c.requires.lies))
    ∙ sym (ap (λ (b : Bool). b || (same_crate (crate_of t from) (crate_of t to) && stands)) differ ∙ ap (λ (b : Bool). b && stands) same)

use Rattle.std.proofs.Common.{◌≡◌, ◌∙◌, ◌++◌, ◌∷◌, [], IsTrue, Some, ap, arith, sym, subst, ◌<◌, length, nat_lt}
use Rattle.std.proofs.lemmas.Bool.{lt-ltb}
use Rattle.dm_maps.proofs.Ids.{Crate, MapId}
use Rattle.dm_maps.specs.BlockLists.{entry_with}
use Rattle.dm_maps.specs.World.{World, crate_map, with_maps}
use Rattle.dm_maps.specs.Build.{next_module}
use Rattle.dm_maps.specs.BuildBlocks.{crate_in, next_block, with_block}
use Rattle.dm_maps.specs.Tables.{tables_of}
use Rattle.dm_maps.proofs.BlockMade.{block-made}
use Rattle.dm_maps.proofs.WorldFacts.{crate-within}
use Rattle.dm_maps.proofs.BuilderGrowth.{IsKept, IsKept-block}
use Rattle.dm_maps.proofs.builder.WorldBuilder.push_block.Goals as goal

-- the crate of the block, its map, and the block's number
krate_is : (c : goal.In_ok-add_map_in) → c.map_id_of.result.krate ≡ crate_in (tables_of c.self.inside) c.args.containing
krate_is c = ap (λ (id : MapId). id.krate) c.map_id_of.ensures ∙ ap (λ (x : World). crate_in x c.args.containing) (sym c.self.view_is)

there : (c : goal.In_ok-add_map_in) → crate_map (tables_of c.self.inside) c.map_id_of.result.krate ≡ Some c.crate_map_at-of.result.now
there c = ap (λ (x : World). crate_map x c.map_id_of.result.krate) c.self.view_is ∙ c.crate_map_at-of.ensures

number : (c : goal.In_ok-add_map_in) → c.args.b ≡ next_block (tables_of c.self.inside)
number c = c.requires.number ∙ ap next_block (sym c.self.view_is)

-- it has a number, and a list of blocks
pub crate_map_at-of-requires : goal.crate_map_at-of-requires
crate_map_at-of-requires c =
    let w : World = c.args.self.now in
    subst (λ (k : Crate). IsTrue (nat_lt k.0 (length w.crate_maps))) (sym (ap (λ (id : MapId). id.krate) c.map_id_of.ensures))
    (lt-ltb (crate_in w c.args.containing).0 (length w.crate_maps) (crate-within w c.lawful.ensures.0 c.args.containing c.requires.known))

pub add_map_in-requires-clause-listed : goal.add_map_in-requires-clause-listed
add_map_in-requires-clause-listed c =
    let w : World = tables_of c.self.inside in
    let known = subst (λ (x : World). c.args.containing.0 < length x.places) (sym c.self.view_is) c.requires.known in
    let krate : c.map_id_of.result.krate ≡ crate_in w c.args.containing = ap (λ (id : MapId). id.krate) c.map_id_of.ensures ∙ ap (λ (x : World). crate_in x c.args.containing) (sym c.self.view_is) in
    let within = crate-within w c.self.invariant.0.0 c.args.containing known in
    let count = c.self.invariant.1.lists.count in
    subst (λ (k : Crate). k.0 < length c.self.inside.block_lists.items) (sym krate) (omega arith)

-- the tables are those with the block
grown :
    (c : goal.In_ok-add_map_in) →
    record (with_maps (tables_of c.self.inside) c.add_map_in.new.maps) { places = c.add_map_in.new.places.items } ≡ with_block (tables_of c.self.inside) c.args.containing c.args.block
grown c =
    let h = c.in_ok-add_map_in.ensures in
    block-made (tables_of c.self.inside) c.args.containing c.args.block c.crate_map_at-of.result.now c.map_id_of.result.krate c.args.b c.next_module-root.result c.in_ok-map.map c.add_map_in.new.maps c.add_map_in.new.places.items
    (krate_is c) (number c) (c.next_module-root.ensures ∙ ap next_module (sym c.self.view_is)) c.in_ok-map.ensures (there c) h.places h.maps

pub invariant_of-self-2 : goal.invariant_of-self-2
invariant_of-self-2 c =
    let w : World = tables_of c.self.inside in
    let ups = c.self.inside.ladders in
    let ls = c.self.inside.block_lists.items in
    let now = sym c.self.view_is in
    let h = c.in_ok-add_map_in.ensures in
    let m = c.args.containing in
    let known = subst (λ (x : World). m.0 < length x.places) now c.requires.known in
    let room = subst (λ (x : World). length x.places < 4294967295) now c.requires.room in
    let lists = h.lists ∙ (λ i. entry_with ls (krate_is c i).0 (λ l. l ++ number c i ∷ [])) in
    subst IsKept (λ i. (sym (grown c) i, sym h.ladders i, sym lists i)) (IsKept-block w ups ls c.self.invariant room m c.args.block c.crate_map_at-of.result.now known (ap (crate_map w) (sym (krate_is c)) ∙ there c))

pub returns-clause-ok : goal.returns-clause-ok
returns-clause-ok c = grown c ∙ ap (λ (w : World). with_block w c.args.containing c.args.block) c.self.view_is

-- The small mock tree is a tree: the laws of trees are tested at each of its modules.
use Rattle.std.proofs.Common.{◌≡◌, ◌<◌, Bool, true, false, ◌&&◌, Option, Some, is_some, nat_lt, refl, sym, ap, ◌∙◌}
use Rattle.std.proofs.lemmas.Bool.{and_parts, ltb-true, agree_below_at}
use Rattle.std.specs.Option.{option_map_or}
use Rattle.dm_base.specs.declared.ids.ModuleId.{ModuleId}
use Rattle.dm_base.specs.Tree.{Tree, IsTree, IsKnown, same_crate, same_map, crate_of, containing, outside, in_block_map}
use Rattle.dm_base.specs.IdLaws.{same_crate-true, same_map-true}
use Rattle.defmap_callers.specs.SmallTree.{tree_by, small_places, small_blocks}

abbrev t : Tree
t = tree_by small_places small_blocks

-- whether c may stand outside m
abbrev may_contain : ModuleId → ModuleId → Bool
may_contain m c = t.has c && (nat_lt c.0 m.0 && same_crate (crate_of t c) (crate_of t m))

abbrev same : Bool → Bool → Bool
same true b = b
same false true = false
same false false = true

abbrev is_lawful : ModuleId → Bool
is_lawful m =
    option_map_or (λ p. same_map (t.map_of p) (t.map_of m)) (t.parent m) true
    && (option_map_or (may_contain m) (containing t m) true
    && (option_map_or (may_contain m) (outside t m) true && same (is_some (outside t m)) (in_block_map t m)))

same-true : (a b : Bool) → same a b ≡ true → a ≡ b
same-true true b e = sym e
same-true false true e = e
same-true false false e = refl

lawful-each : (m : ModuleId) → IsKnown t m → is_lawful m ≡ true
lawful-each m known = agree_below_at (λ n. is_lawful (record { 0 = n })) (λ n. true) 10 m.0 refl (ltb-true m.0 10 known)

of-parent : (m p : ModuleId) → IsKnown t m → t.parent m ≡ Some p → t.map_of p ≡ t.map_of m
of-parent m p known is =
    same_map-true (t.map_of p) (t.map_of m)
    (ap (λ (o : Option ModuleId). option_map_or (λ q. same_map (t.map_of q) (t.map_of m)) o true) (sym is) ∙ (and_parts _ _ (lawful-each m known)).0)

-- of what stands outside a module
of-rest : (m : ModuleId) → IsKnown t m → (option_map_or (may_contain m) (containing t m) true && (option_map_or (may_contain m) (outside t m) true && same (is_some (outside t m)) (in_block_map t m))) ≡ true
of-rest m known = (and_parts _ _ (lawful-each m known)).1

of-containing : (m c : ModuleId) → IsKnown t m → containing t m ≡ Some c → may_contain m c ≡ true
of-containing m c known is =
    ap (λ (o : Option ModuleId). option_map_or (may_contain m) o true) (sym is) ∙ (and_parts _ _ (of-rest m known)).0

of-outside : (m c : ModuleId) → IsKnown t m → outside t m ≡ Some c → may_contain m c ≡ true
of-outside m c known is =
    ap (λ (o : Option ModuleId). option_map_or (may_contain m) o true) (sym is) ∙ (and_parts _ _ ((and_parts _ _ (of-rest m known)).1)).0

module _ (m c : ModuleId) (may : may_contain m c ≡ true) where
  known-too : IsKnown t c
  known-too = (and_parts (t.has c) (nat_lt c.0 m.0 && same_crate (crate_of t c) (crate_of t m)) may).0

  rest : (nat_lt c.0 m.0 && same_crate (crate_of t c) (crate_of t m)) ≡ true
  rest = (and_parts (t.has c) (nat_lt c.0 m.0 && same_crate (crate_of t c) (crate_of t m)) may).1

  smaller : c.0 < m.0
  smaller = ltb-true c.0 m.0 ((and_parts (nat_lt c.0 m.0) (same_crate (crate_of t c) (crate_of t m)) rest).0)

  of-one-crate : crate_of t c ≡ crate_of t m
  of-one-crate = same_crate-true (crate_of t c) (crate_of t m) ((and_parts (nat_lt c.0 m.0) (same_crate (crate_of t c) (crate_of t m)) rest).1)

pub small-lawful : IsTree t
small-lawful = record {
  parent_map = of-parent;
  containing_known = λ m c known is. known-too m c (of-containing m c known is);
  containing_smaller = λ m c known is. smaller m c (of-containing m c known is);
  containing_crate = λ m c known is. of-one-crate m c (of-containing m c known is);
  outside_known = λ m c known is. known-too m c (of-outside m c known is);
  outside_smaller = λ m c known is. smaller m c (of-outside m c known is);
  outside_crate = λ m c known is. of-one-crate m c (of-outside m c known is);
  outside_there = λ m known. same-true _ _ ((and_parts _ _ ((and_parts _ _ (of-rest m known)).1)).1);
}

use Rattle.std.proofs.Common.{◌≡◌, ◌++◌, ◌∷◌, [], length, rules, subst, sym}
use Rattle.dm_maps.specs.JumpPointers.{AreLadders, IsLadder}
use Rattle.dm_maps.proofs.TableLemmas.{AreLadders-push}
use Rattle.dm_maps.proofs.ladders.Ladders.push.Goals as goal

pub invariant_of-self-2 : goal.invariant_of-self-2
invariant_of-self-2 c =
    let ls = c.self.inside.ladders.items in
    let l = c.next_ladder-ladder.result in
    let grown : c.push.new.self.items ≡ ls ++ l ∷ [] = search rules in
    let is = subst (λ x. IsLadder x (length x) l) c.deref.ensures.value c.next_ladder-ladder.ensures.lawful in
    subst AreLadders (sym grown) (AreLadders-push ls l c.self.invariant is)

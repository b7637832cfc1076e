-- One turn of reading goals.
use Rattle.std.proofs.Common.{◌≡◌, ◌∙◌, ℕ, zero, suc, ◌-◌, ◌≢◌, Some, List, [], ◌∷◌, ◌++◌, take, drop, get_or, length, slice_get, refl, ap, sym, arith, length-append}
use Rattle.std.proofs.Math.Seq.{get_or-append_seam, take-append_seam}
use Rattle.std.proofs.lemmas.Option.{slice_get_read}
use Rattle.macro_rules.specs.Fragments.{by_goal, by_move, goal_move, goals_read, place_behind, pushed}
use Rattle.macro_rules.specs.declared.goal.Goal.{Goal}
use Rattle.macro_rules.specs.declared.goal.Move.{Move}
use Rattle.macro_rules.specs.declared.token.Token.{Token}

-- the last goal is next
pub last_goal : (goals rest : List Goal) (g : Goal) → goals ≡ rest ++ g ∷ [] → Some g ≡ slice_get goals (length goals - 1)
last_goal goals rest g is =
    let len : length goals - 1 ≡ length rest = omega (arith, ap length is, length-append rest (g ∷ [])) in
    let same : get_or goals (length goals - 1) g ≡ g = ap (λ k. get_or goals k g) len ∙ (ap (λ (l : List Goal). get_or l (length rest) g) is ∙ get_or-append_seam rest g [] g) in
    sym (slice_get_read goals (length goals) (length goals - 1) g refl (omega (arith, ap length is, length-append rest (g ∷ []))) (sym same))

pub goals_before : (goals rest : List Goal) (g : Goal) → goals ≡ rest ++ g ∷ [] → rest ≡ take (length goals - 1) goals
goals_before goals rest g is =
    let len : length goals - 1 ≡ length rest = omega (arith, ap length is, length-append rest (g ∷ [])) in
    sym (ap (λ k. take k goals) len ∙ (ap (λ (l : List Goal). take (length rest) l) is ∙ take-append_seam rest (g ∷ [])))

pub read_step : (ts : List Token) (n place behind : ℕ) (goals rest next : List Goal) (g : Goal) (m : Move) → n ≢ 0 → Some g ≡ slice_get goals (length goals - 1) → rest ≡ take (length goals - 1) goals
    → m ≡ goal_move g (drop place ts) → next ≡ pushed m rest → behind ≡ place_behind place m.len (length ts) → goals_read (n - 1) ts next behind ≡ goals_read n ts goals place
read_step ts zero place behind goals rest next g m some is rest_is move_is next_is behind_is = absurd (some refl)
read_step ts (suc n) place behind goals rest next g m some is rest_is move_is next_is behind_is =
    let less : suc n - 1 ≡ n = omega arith in
    ap (λ k. goals_read k ts next behind) less
    ∙ (ap (λ (x : List Goal). goals_read n ts x behind) next_is
    ∙ (ap (λ p. goals_read n ts (pushed m rest) p) behind_is
    ∙ (ap (λ (x : Move). by_move x rest place ts (goals_read n ts)) move_is
    ∙ (ap (λ (r : List Goal). by_move (goal_move g (drop place ts)) r place ts (goals_read n ts)) rest_is
    ∙ ap (λ o. by_goal o (take (length goals - 1) goals) place ts (goals_read n ts)) is))))

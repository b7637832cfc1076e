use Rattle.std.proofs.Common.{◌≡◌, Some, None, [], ◌∷◌, rules, arith, length, eqb, true, false, ◌∙◌, sym, ap}
use Rattle.defmap_script.specs.Lines.{words}
use Rattle.defmap_script.specs.Words.{cut}
use Rattle.defmap_script.proofs.LineLemmas.{words-last, words-skip, words-first, cut-shorter}
use Rattle.defmap_script.proofs.lines.WordsIterator.next.Goals as goal

pub returns-then-not-is_empty-clause-steps : goal.returns-then-not-is_empty-clause-steps
returns-then-not-is_empty-clause-steps c =
    let at : cut 32 c.loop-word.self.text.now ≡ Some (c.in-Some.word.now, c.in-Some.rest.now) = search rules
    in let full : eqb (length c.in-Some.word.now) 0 ≡ false = search rules
    in sym c.loop-word.invariant ∙ words-first c.loop-word.self.text.now c.in-Some.word.now c.in-Some.rest.now at full

pub returns-then-not-is_empty-clause-goes : goal.returns-then-not-is_empty-clause-goes
returns-then-not-is_empty-clause-goes c =
    let steps : words c.args.self.now.text.now ≡ c.in-Some.word.now ∷ words c.in-Some.rest.now = returns-then-not-is_empty-clause-steps c
    in let one_less = ap length steps
    in search (rules, arith)

pub loop-word-smaller : goal.loop-word-smaller
loop-word-smaller c =
    let at : cut 32 c.loop-word.self.text.now ≡ Some (c.in-Some.word.now, c.in-Some.rest.now) = search rules
    in cut-shorter 32 c.loop-word.self.text.now c.in-Some.word.now c.in-Some.rest.now at

pub loop-word-preserved : goal.loop-word-preserved
loop-word-preserved c =
    let at : cut 32 c.loop-word.self.text.now ≡ Some (c.in-Some.word.now, c.in-Some.rest.now) = search rules
    in let empty : eqb (length c.in-Some.word.now) 0 ≡ true = search rules
    in sym (words-skip c.loop-word.self.text.now c.in-Some.word.now c.in-Some.rest.now at empty) ∙ c.loop-word.invariant

pub returns-else-is_empty-clause-steps : goal.returns-else-is_empty-clause-steps
returns-else-is_empty-clause-steps c =
    let at : cut 32 c.loop-word.self.text.now ≡ None = search rules
    in let full : eqb (length c.loop-word.self.text.now) 0 ≡ false = search rules
    in sym c.loop-word.invariant ∙ words-last c.loop-word.self.text.now at full

pub returns-else-is_empty-clause-goes : goal.returns-else-is_empty-clause-goes
returns-else-is_empty-clause-goes c =
    let steps : words c.args.self.now.text.now ≡ c.loop-word.self.text.now ∷ [] = returns-else-is_empty-clause-steps c
    in let one = ap length steps
    in search (rules, arith)

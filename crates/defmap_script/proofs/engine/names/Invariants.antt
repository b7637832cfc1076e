use Rattle.std.proofs.Common.{◌≡◌, ◌++◌}
use Rattle.defmap_script.specs.Lines.{words_left}
use Rattle.defmap_script.proofs.engine.names.Given as goal

-- the names so far and the words that are left are all words
abbrev pub invariant-loop-word : goal.invariant-loop-word
invariant-loop-word l =
    (l.names.items ++ words_left l.word-iterator ≡ words_left l.fn.words)
    × (goal.iterator-loop-word).can_next l.word-iterator
    × (goal.iterator-loop-word).is_finite l.word-iterator

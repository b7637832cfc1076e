use Rattle.std.proofs.Common.{◌≡◌, length}
use Rattle.defmap_script.specs.Lines.{words}
use Rattle.defmap_script.proofs.lines.WordsIterator.next.Given as goal

-- the words that are left are those of the text at first
abbrev pub invariant-loop-word : goal.invariant-loop-word
invariant-loop-word l = words l.self.text.now ≡ words l.fn.self.text.now

abbrev pub decreases-loop-word : goal.decreases-loop-word
decreases-loop-word l = length l.self.text.now

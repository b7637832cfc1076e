use Rattle.std.proofs.Common.{◌≡◌, drop}
use Rattle.item_tree.specs.CfgReading.{run, start}
use Rattle.item_tree.proofs.cfg.cfg_parser.read_all.Given as goal

abbrev pub invariant-loop-i : goal.invariant-loop-i
invariant-loop-i l = run l.text l.i l.reader (drop l.i l.lexemes) ≡ run l.text 0 start l.lexemes

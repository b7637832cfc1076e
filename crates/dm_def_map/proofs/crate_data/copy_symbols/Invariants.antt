use Rattle.std.proofs.Common.{◌≡◌, take}
use Rattle.dm_def_map.proofs.crate_data.copy_symbols.Given as goal

abbrev pub invariant-loop-symbol : goal.invariant-loop-symbol
invariant-loop-symbol l = l.copies.items ≡ take l.symbol-index l.symbols

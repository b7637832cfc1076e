-- The depth of modules, and how few hops lead from one to a module that contains it (binary lifting).
use Rattle.std.specs.Prelude.{ℕ, ◌-◌, min, length, slice_index_or, count_ones}
use Rattle.dm_base.specs.declared.ids.ModuleId.{ModuleId}
use Rattle.dm_base.specs.Tree.{Tree, chain}

-- how many modules contain m
abbrev pub depth : Tree → ModuleId → ℕ
depth t m = length (chain t m) - 1

-- member n of the chain of m, or the chain's last member where it is shorter
abbrev pub member : Tree → ℕ → ModuleId → ModuleId
member t n m = slice_index_or (chain t m) (min n (depth t m)) m

-- The number of hops from m out to the depth of a, each of them to member 2 ^ k of a chain: the set bits of how much
-- deeper m is, and none where it is not deeper.
abbrev pub moves : Tree → ModuleId → ModuleId → ℕ
moves t a m = count_ones (depth t m - depth t a)

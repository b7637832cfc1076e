use Rattle.std.proofs.Common.{◌≡◌, ◌≤◌, ◌+◌, length, take, not}
use Rattle.std.specs.List.{suffix_len}
use Rattle.crate_items.specs.Paths.{is_slash}
use Rattle.crate_items.proofs.files.paths.folder_len.Given as goal

abbrev pub invariant-loop-len : goal.invariant-loop-len
invariant-loop-len l = record {
  within : l.len ≤ length l.path;
  behind : l.len + suffix_len (λ b. not (is_slash b)) l.path ≡ length l.path + suffix_len (λ b. not (is_slash b)) (take l.len l.path);
}

abbrev pub decreases-loop-len : goal.decreases-loop-len
decreases-loop-len l = l.len

-- The hasher of tables by names.
use Rattle.std.specs.Prelude.{ℕ, List, length, nat_eq, bit_xor, if◌then◌else◌}
use Rattle.std.specs.Hash.FoldHasher as folding
use Rattle.std.specs.Int.{from_le_bytes, w64}
use Rattle.dm_base.specs.declared.name_hasher.NameHasher.{NameHasher}

-- nothing yet
abbrev pub initial : NameHasher
initial = record { carried = 0; folded = folding.initial }

-- A number of eight bytes is joined to those before it; all else goes to the library's hasher.
abbrev pub write : NameHasher → List ℕ → NameHasher
write h bytes =
    if nat_eq (length bytes) 8 then record h { carried = bit_xor h.carried (from_le_bytes w64 bytes) }
    else record h { folded = folding.write h.folded bytes }

-- both, joined
abbrev pub finish : NameHasher → ℕ
finish h = bit_xor h.carried (folding.finish h.folded)

-- Builtin types under their names: from each to all.
use Rattle.std.proofs.Common.{◌≡◌, ℕ, List, [], ◌∷◌, IfOk, Ok, Err, map, refl, ap₂}
use Rattle.std.specs.Array.{AllZipBelow}
use Rattle.std.specs.List.{AllZip}
use Rattle.std.specs.Prelude.{Result}
use Rattle.dm_base.specs.Builtins.{builtin_word}
use Rattle.dm_base.specs.Names.{Name}
use Rattle.dm_base.specs.declared.builtin_type.BuiltinType.{BuiltinType}

-- what follows from a clause about what is within `Ok`
pub if-ok : {T E : Type 0} {P Q : T → Type 0} (r : Result T E) → ((x : T) → P x → Q x) → IfOk r P → IfOk r Q
if-ok (Ok x) f h = f x h
if-ok (Err e) f h = tt

named-so : {R : BuiltinType → Name × BuiltinType → Type 0} (bs : List BuiltinType) (ys : List (Name × BuiltinType)) → ((b : BuiltinType) (y : Name × BuiltinType) → R b y → y ≡ (builtin_word b, b)) → AllZip R bs ys → ys ≡ map (λ b. (builtin_word b, b)) bs
named-so [] [] h all = refl
named-so [] (y ∷ ys) h all = elim all [ ]
named-so (b ∷ bs) [] h all = elim all [ ]
named-so (b ∷ bs) (y ∷ ys) h all = ap₂ (λ z zs. z ∷ zs) (h b y all.0) (named-so bs ys h all.1)

-- where each is a builtin type under its name, all are
pub all-named : {R : BuiltinType → Name × BuiltinType → Type 0} {bs : List BuiltinType} {ys : List (Name × BuiltinType)} {n : ℕ} → AllZipBelow R bs ys n → ((b : BuiltinType) (y : Name × BuiltinType) → R b y → y ≡ (builtin_word b, b)) → ys ≡ map (λ b. (builtin_word b, b)) bs
all-named {bs = bs} {ys = ys} each h = named-so bs ys h each.whole

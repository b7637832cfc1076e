-- Files by their paths: a table of paths and texts has each file where its key is.
use Rattle.std.proofs.Common.{◌≡◌, ◌+◌, ℕ, suc, List, [], ◌∷◌, length, refl, ap, ap₂, cond}
use Rattle.std.specs.Prelude.{Some, None, nat_lt, not, position}
use Rattle.std.specs.Global.{Vec}
use Rattle.std.specs.List.{position_or_len}
use Rattle.std.specs.Map.{keys_of}
use Rattle.std.specs.Str.{bytes_eq}
use Rattle.crate_items.specs.Files.{SourceFile, files_of, number_at}

places : (path : List ℕ) (es : List (Vec ℕ × Vec ℕ))
    → position_or_len (λ (k : Vec ℕ). bytes_eq path k.items) (keys_of es) ≡ position_or_len (λ (f : SourceFile). bytes_eq path f.path) (files_of es)
places path [] = refl
places path (e ∷ es) = ap (λ i. cond (not (bytes_eq path e.0.items)) (1 + i) 0) (places path es)

lengths : (es : List (Vec ℕ × Vec ℕ)) → length (keys_of es) ≡ length (files_of es)
lengths [] = refl
lengths (e ∷ es) = ap suc (lengths es)

pub number_by_key : (path : List ℕ) (es : List (Vec ℕ × Vec ℕ)) → position (λ (k : Vec ℕ). bytes_eq path k.items) (keys_of es) ≡ number_at (files_of es) path
number_by_key path es = ap₂ (λ i n. cond (nat_lt i n) (Some i) None) (places path es) (lengths es)

-- Imports that mean nothing, found one after another; and names of theirs, some of which are listed.
use Rattle.std.proofs.Common.{◌≡◌, ◌∙◌, ◌++◌, ◌+◌, ℕ, [], ◌∷◌, Bool, List, if◌then◌else◌, ap, inl, inr, length, refl, sym, true}
use Rattle.std.proofs.lemmas.List.{append_assoc, nil_from_length}
use Rattle.std.specs.Prelude.{◌⊎◌}
use Rattle.dm_collector.specs.UnresolvedNames.{IsListedSome, means_nothing, unresolved_from}
use Rattle.dm_collector.specs.declared.unresolved_names.UnresolvedName.{UnresolvedName}
use Rattle.dm_imports.specs.Bound.{Maps}
use Rattle.dm_imports.specs.Paths.{DefMaps}
use Rattle.dm_imports.specs.declared.named_import.NamedImport.{NamedImport}
use Rattle.dm_imports.specs.declared.rules.meanings.ImportMeanings.{ImportMeanings}

-- one that means nothing stands before those found in what is left
pub found-more : (d : DefMaps) (n m place : ℕ) (x : ImportMeanings) (i : NamedImport) (xs all : List ImportMeanings) (is every : List NamedImport) (had : List ℕ)
    → all ≡ x ∷ xs → every ≡ i ∷ is → true ≡ means_nothing d x i → place ≡ n → m ≡ n + 1
    → (had ++ place ∷ []) ++ unresolved_from d m xs is ≡ had ++ unresolved_from d n all every
found-more d n m place x i xs all is every had a b t p e =
    append_assoc had (place ∷ []) (unresolved_from d m xs is)
    ∙ ap (λ (l : List ℕ). had ++ l)
    (ap (λ (k : ℕ). k ∷ unresolved_from d m xs is) p
    ∙ ap (λ (k : ℕ). n ∷ unresolved_from d k xs is) e
    ∙ ap (λ (q : Bool). if q then n ∷ unresolved_from d (n + 1) xs is else unresolved_from d (n + 1) xs is) t
    ∙ ap (λ (l : List ImportMeanings). unresolved_from d n l (i ∷ is)) (sym a)
    ∙ ap (λ (l : List NamedImport). unresolved_from d n all l) (sym b))

-- where one list has no more, nothing is left
no-import : (d : DefMaps) (n : ℕ) (xs : List ImportMeanings) → unresolved_from d n xs [] ≡ []
no-import d n [] = refl
no-import d n (x ∷ xs) = refl

pub none-left : (d : DefMaps) (n : ℕ) (xs : List ImportMeanings) (is : List NamedImport)
    → (length xs ≡ 0) ⊎ (length is ≡ 0) → unresolved_from d n xs is ≡ []
none-left d n xs is (inl e) = ap (λ (l : List ImportMeanings). unresolved_from d n l is) (nil_from_length xs e)
none-left d n xs is (inr e) =
    ap (λ (l : List NamedImport). unresolved_from d n xs l) (nil_from_length is e) ∙ no-import d n xs

pub none-listed : (s : Maps) (ns : List UnresolvedName) → IsListedSome s ns s
none-listed s [] = refl
none-listed s (n ∷ ns) = inl refl

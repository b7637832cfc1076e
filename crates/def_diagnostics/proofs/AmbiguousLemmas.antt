-- Imports of ambiguous names, told of one after another.
use Rattle.std.proofs.Common.{◌≡◌, ◌∙◌, ◌++◌, [], ◌∷◌, List, ap, inl, inr, length, refl, sym}
use Rattle.std.proofs.lemmas.List.{append_assoc, nil_from_length}
use Rattle.std.specs.Prelude.{◌⊎◌}
use Rattle.crate_tables.specs.declared.item_place.UsePlace.{UsePlace}
use Rattle.def_diagnostics.specs.UnresolvedImports.{ambiguous_imports, if_ambiguous}
use Rattle.def_diagnostics.specs.declared.diagnostic.Diagnostic.{Diagnostic}
use Rattle.dm_imports.specs.declared.named_import.NamedImport.{NamedImport}
use Rattle.dm_imports.specs.declared.rules.meanings.ImportMeanings.{ImportMeanings}

-- what is told of one stands before what is told of those that are left
pub more-told : (uses : List UsePlace) (x : ImportMeanings) (i : NamedImport) (xs all : List ImportMeanings) (is every : List NamedImport) (had : List Diagnostic)
    → all ≡ x ∷ xs → every ≡ i ∷ is
    → (had ++ if_ambiguous uses x i) ++ ambiguous_imports uses xs is ≡ had ++ ambiguous_imports uses all every
more-told uses x i xs all is every had a b =
    append_assoc had (if_ambiguous uses x i) (ambiguous_imports uses xs is)
    ∙ ap (λ (l : List Diagnostic). had ++ l)
    (ap (λ (l : List ImportMeanings). ambiguous_imports uses l (i ∷ is)) (sym a)
    ∙ ap (λ (l : List NamedImport). ambiguous_imports uses all l) (sym b))

no-import : (uses : List UsePlace) (xs : List ImportMeanings) → ambiguous_imports uses xs [] ≡ []
no-import uses [] = refl
no-import uses (x ∷ xs) = refl

-- where one list has no more, nothing is left
pub none-left : (uses : List UsePlace) (xs : List ImportMeanings) (is : List NamedImport)
    → (length xs ≡ 0) ⊎ (length is ≡ 0) → ambiguous_imports uses xs is ≡ []
none-left uses xs is (inl e) = ap (λ (l : List ImportMeanings). ambiguous_imports uses l is) (nil_from_length xs e)
none-left uses xs is (inr e) =
    ap (λ (l : List NamedImport). ambiguous_imports uses xs l) (nil_from_length is e) ∙ no-import uses xs

-- Files that are there are in the table.
use Rattle.std.proofs.Common.{◌≡◌, ◌+◌, ◌++◌, ◌<◌, ℕ, zero, suc, Bool, true, false, List, [], ◌∷◌, length, refl, subst, cond}
use Rattle.std.specs.Prelude.{◌==◌, Option, Some, None, nat_lt, option_map, slice_get}
use Rattle.std.specs.List.{position_or_len}
use Rattle.std.specs.Str.{bytes_eq}
use Rattle.std.proofs.lemmas.Bool.{ltb-true}
use Rattle.crate_items.specs.Files.{SourceFile, file_at, id_of}
use Rattle.crate_items.specs.ModDirs.{File}
use Rattle.crate_items.specs.Modules.{only, there_from, there_if}
use Rattle.crate_items.specs.declared.files.found.There.{There}
use Rattle.dm_base.specs.declared.ids.FileId.{FileId}

file_known : (files : List SourceFile) (path : List ℕ) (id : FileId) → file_at files path ≡ Some id → id.0 < length files
file_known files path id at = by (nat_lt place (length files)) refl at
  where
    place : ℕ
    place = position_or_len (λ (f : SourceFile). bytes_eq path f.path) files

    by : (b : Bool) → nat_lt place (length files) ≡ b → option_map id_of (cond b (Some place) None) ≡ Some id → id.0 < length files
    by true e found =
        let same : id_of place ≡ id = cc in
        subst (λ (x : FileId). x.0 < length files) same (ltb-true place (length files) e)
    by false e found = absurd (let f : ⊥ = cc in f)

there_known : (files : List SourceFile) (i : ℕ) (cs : List File) (k : ℕ) (t : There) → slice_get (there_from files i cs) k ≡ Some t → t.file.0 < length files
there_known files i [] k t at = absurd (let f : ⊥ = cc in f)
there_known files i (c ∷ cs) k t at = by (file_at files c.path) refl (λ j e. there_known files (i + 1) cs j t e) k at
  where
    by : (o : Option FileId) → file_at files c.path ≡ o → ((j : ℕ) → slice_get (there_from files (i + 1) cs) j ≡ Some t → t.file.0 < length files)
        → (k : ℕ) → slice_get (there_if i o ++ there_from files (i + 1) cs) k ≡ Some t → t.file.0 < length files
    by None e rest k at = rest k at
    by (Some id) e rest zero at =
        let same : id ≡ t.file = cc in
        subst (λ (x : FileId). x.0 < length files) same (file_known files c.path id e)
    by (Some id) e rest (suc k) at = rest k at

-- the only one that is there is in the table
pub only_known : (files : List SourceFile) (cs : List File) (t : There) → only (there_from files 0 cs) ≡ Some t → t.file.0 < length files
only_known files cs t at = by (length (there_from files 0 cs) == 1) at
  where
    by : (b : Bool) → cond b (slice_get (there_from files 0 cs) 0) None ≡ Some t → t.file.0 < length files
    by true at = there_known files 0 cs 0 t at
    by false at = absurd (let f : ⊥ = cc in f)

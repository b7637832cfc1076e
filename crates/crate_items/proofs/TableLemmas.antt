-- A table of items by the numbers of their files, and one more file.
use Rattle.std.proofs.Common.{rules, ◌≡◌, ◌++◌, ℕ, Bool, true, false, List, [], ◌∷◌, refl, sym, subst, cond}
use Rattle.std.specs.Prelude.{IsSome, Option, Some, None, nat_eq}
use Rattle.std.specs.Global.{Vec}
use Rattle.std.specs.Map.{lookup}
use Rattle.crate_items.specs.FileItems.{AreByModule, items_known}
use Rattle.crate_items.specs.ModuleItems.{AreTables}
use Rattle.crate_items.specs.declared.items.file_items.Homed.{Homed}
use Rattle.crate_items.specs.Files.{id_of}
use Rattle.crate_items.specs.Sources.{Source, source_at}

abbrev pub Rows : Type 0
Rows = List (ℕ × Vec Homed)

same_number : (a b : ℕ) → nat_eq a b ≡ true → a ≡ b
same_number a b e = search (rules)

-- what is found behind is what was found before, or the last
pub found_behind : (key file : ℕ) (items v : Vec Homed) (P : Type 0) (entries : Rows)
    → (lookup (nat_eq key) entries ≡ Some v → P) → (nat_eq key file ≡ true → items ≡ v → P)
    → lookup (nat_eq key) (entries ++ (file, items) ∷ []) ≡ Some v → P
found_behind key file items v P [] before last e = by (nat_eq key file) last e
  where
    by : (b : Bool) → (b ≡ true → items ≡ v → P) → cond b (Some items) None ≡ Some v → P
    by true then e = then refl (let same : items ≡ v = cc in same)
    by false then e = absurd (let f : ⊥ = cc in f)
found_behind key file items v P (x ∷ xs) before last e = by (nat_eq key x.0) before (λ rest. found_behind key file items v P xs rest last) e
  where
    by : (b : Bool) → (cond b (Some x.1) (lookup (nat_eq key) xs) ≡ Some v → P)
        → ((lookup (nat_eq key) xs ≡ Some v → P) → lookup (nat_eq key) (xs ++ (file, items) ∷ []) ≡ Some v → P)
        → cond b (Some x.1) (lookup (nat_eq key) (xs ++ (file, items) ∷ [])) ≡ Some v → P
    by true then behind e = then e
    by false then behind e = behind then e

pub tables_behind : (table : List (Option Source)) (entries : Rows) (file : ℕ) (items : Vec Homed)
    → AreTables table entries → AreByModule (items_known (source_at table (id_of file))) items.items
    → AreTables table (entries ++ (file, items) ∷ [])
tables_behind table entries file items are own = λ key v e.
    found_behind key file items v (AreByModule (items_known (source_at table (id_of key))) v.items) entries (are key v)
    (λ same is.
    subst (λ (x : Vec Homed). AreByModule (items_known (source_at table (id_of key))) x.items) is
    (subst (λ (k : ℕ). AreByModule (items_known (source_at table (id_of k))) items.items) (sym (same_number key file same)) own))
    e

pub last_found : (entries : Rows) (file : ℕ) (items : Vec Homed) → IsSome (lookup (nat_eq file) (entries ++ (file, items) ∷ []))
last_found [] file items =
    let same : nat_eq file file ≡ true = search rules in
    subst (λ (b : Bool). IsSome (cond b (Some items) None)) (sym same) refl
last_found (x ∷ xs) file items = by (nat_eq file x.0) (last_found xs file items)
  where
    by : (b : Bool) → IsSome (lookup (nat_eq file) (xs ++ (file, items) ∷ []))
        → IsSome (cond b (Some x.1) (lookup (nat_eq file) (xs ++ (file, items) ∷ [])))
    by true rest = refl
    by false rest = rest

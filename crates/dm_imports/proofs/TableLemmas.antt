-- What a table of tables has, and after one of them is another.
use Rattle.std.proofs.Common.{◌≡◌, ◌∙◌, ap, cond, false, refl, sym, true, Bool, List, [], ◌∷◌, Option, Some, ◌&&◌}
use Rattle.std.specs.HashMap.{HashMap}
use Rattle.std.specs.Map.{lookup}
use Rattle.std.specs.Option.{option_and_then}
use Rattle.dm_base.specs.declared.ids.ModuleId.{ModuleId}
use Rattle.dm_base.specs.IdLaws.{same_module-true}
use Rattle.dm_base.specs.Names.{Name, find_name, same_name}
use Rattle.dm_base.specs.Tree.{same_module}
use Rattle.dm_imports.specs.Slots.{entries_of, name_at, same_place}

module _ {T S : Type 0} where
  abbrev pub named : Name → Option (HashMap Name T S) → Option T
  named n o = option_and_then (λ t. find_name n t.entries) o

  pub name_at-entries : (es : List (ModuleId × HashMap Name T S)) (k : ModuleId) (n : Name) → name_at (entries_of es) k n ≡ named n (lookup (same_module k) es)
  name_at-entries [] k n = refl
  name_at-entries (e ∷ es) k n = by (same_module k e.0) (name_at-entries es k n)
    where
      by : (b : Bool) → name_at (entries_of es) k n ≡ named n (lookup (same_module k) es) → option_and_then (find_name n) (cond b (Some e.1.entries) (lookup (same_module k) (entries_of es))) ≡ named n (cond b (Some e.1) (lookup (same_module k) es))
      by true h = refl
      by false h = h

  -- one name of a module has another value
  pub name_at-with : (m : ModuleId) (es new : List (ModuleId × HashMap Name T S)) (t : HashMap Name T S)
      → ((k : ModuleId) → lookup (same_module k) new ≡ cond (same_module m k) (Some t) (lookup (same_module k) es))
      → (name : Name) (v : T) → ((n : Name) → find_name n t.entries ≡ cond (same_name name n) (Some v) (named n (lookup (same_module m) es)))
      → (k : ModuleId) (n : Name) → name_at (entries_of new) k n ≡ cond (same_place m name k n) (Some v) (name_at (entries_of es) k n)
  name_at-with m es new t changed name v has k n =
      name_at-entries new k n ∙ ap (named n) (changed k) ∙ at (same_module m k) refl
      ∙ ap (cond (same_place m name k n) (Some v)) (sym (name_at-entries es k n))
    where
      at : (c : Bool) → same_module m k ≡ c → named n (cond c (Some t) (lookup (same_module k) es)) ≡ cond (c && same_name name n) (Some v) (named n (lookup (same_module k) es))
      at true e = has n ∙ ap (λ j. cond (same_name name n) (Some v) (named n (lookup (same_module j) es))) (same_module-true m k e)
      at false e = refl

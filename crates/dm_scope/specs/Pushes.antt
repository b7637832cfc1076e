-- What a whole list of pushes binds and records in one namespace.
use Rattle.std.specs.Prelude.{◌≡◌, ℕ, Bool, true, false, not, nat_eq, List, [], ◌∷◌, ◌++◌, slice_get, Option, None, Some, Result, OnOk, IfOk, if◌then◌else◌, length}
use Rattle.std.specs.Option.{option_map}
use Rattle.std.specs.List.{filter, list_all, list_any, enumerate_from}
use Rattle.std.specs.Map.{lookup}
use Rattle.dm_base.specs.Names.{Name, same_name, find_name}
use Rattle.dm_base.specs.declared.per_ns.Item.{Item}
use Rattle.dm_base.specs.declared.imports.ImportOrDef.{ImportOrDef}
use Rattle.dm_base.specs.declared.imports.ImportOrExternCrate.{ImportOrExternCrate}
use Rattle.dm_scope.specs.Shadowing.{Reading, import_of, is_glob, is_same}
use Rattle.dm_scope.specs.Bindings.{Bound, stored, recorded}

-- the last of a list
abbrev pub last_of : {A : Type 0} → List A → Option A
last_of [] = None
last_of (x ∷ xs) = elim xs [ [] ↦ Some x | ◌∷◌ y ys ↦ last_of xs ]

-- one push: the name, the pushed item, and the import by which it came, as the namespace reads it
pub record Push (D I : Type 0) : Type 0 where
  pub name : Name
  pub item : Item D I
  pub by : Option I

-- the pushes of one name
abbrev pub of_name : {D I : Type 0} → Name → List (Push D I) → List (Push D I)
of_name n ps = filter (λ p. same_name n p.name) ps

module _ {D I : Type 0} (r : Reading D I) where
  -- an explicit push comes by no glob
  abbrev pub is_explicit : Push D I → Bool
  is_explicit p = not (is_glob r p.by)

  abbrev pub is_by : I → Push D I → Bool
  is_by i p = is_same r (Some i) p.by

  abbrev pub has_same_def : Push D I → Push D I → Bool
  has_same_def p q = r.same_def p.item.def q.item.def

  -- the first push of the last run of equal definitions: the first one that no other definition follows
  abbrev pub last_run : List (ℕ × Push D I) → Option (ℕ × Push D I)
  last_run [] = None
  last_run (p ∷ ps) = if list_all (λ q. has_same_def p.1 q.1) ps then Some p else last_run ps

  -- Of the explicit pushes, of which e is the first: e itself if it has no import, else, among those by the import of
  -- e, the first push of the last run.
  abbrev pub named_explicit : ℕ × Push D I → Option I → List (ℕ × Push D I) → Option (ℕ × Push D I)
  named_explicit e None explicit = Some e
  named_explicit e (Some i) explicit = last_run (filter (λ p. is_by i p.1) explicit)

  abbrev pub named_of : Option (ℕ × Push D I) → List (ℕ × Push D I) → Option (ℕ × Push D I)
  named_of first_kept [] = first_kept
  named_of first_kept (e ∷ es) = named_explicit e e.1.by (e ∷ es)

  -- The push that the pushes of one name name, each with its place: the first of them where none is explicit.
  abbrev pub named : List (ℕ × Push D I) → Option (ℕ × Push D I)
  named kept = named_of (slice_get kept 0) (filter (λ p. is_explicit p.1) kept)

  -- the push that a whole list names for a name
  abbrev pub named_push : List (Push D I) → Name → Option (ℕ × Push D I)
  named_push ps n = named (filter (λ p. same_name n p.1.name) (enumerate_from 0 ps))

  abbrev pub item_of : Option (ℕ × Push D I) → Option (Item D I)
  item_of named = option_map (λ p. stored r p.1.item p.1.by) named

  -- what a whole list binds to a name
  abbrev pub binding : List (Push D I) → Name → Option (Item D I)
  binding ps n = item_of (named_push ps n)

  abbrev pub is_glob_push : Option (ℕ × Push D I) → Bool
  is_glob_push None = false
  is_glob_push (Some p) = is_glob r p.1.by

  abbrev pub is_at : ℕ → Option (ℕ × Push D I) → Bool
  is_at n None = false
  is_at n (Some p) = nat_eq p.0 n

  -- whether a push is effective after others: the list that ends with it names that very push
  abbrev pub is_effective : List (Push D I) → Push D I → Bool
  is_effective before p = is_at (length before) (named_push (before ++ p ∷ []) p.name)

  -- the effective ones of a list of pushes that come after others
  abbrev pub effective : List (Push D I) → List (Push D I) → List (Push D I)
  effective before [] = []
  effective before (p ∷ ps) = if is_effective before p then p ∷ effective (before ++ p ∷ []) ps else effective (before ++ p ∷ []) ps

  -- what a whole list records for an import: what the last effective push by it carried
  abbrev pub record_of : List (Push D I) → I → Option ImportOrDef
  record_of ps i = option_map (λ p. recorded r p.item) (last_of (filter (is_by i) (effective [] ps)))

  -- A namespace shows a list of pushes: what it binds and records is what the list does, and a name has the glob flag
  -- exactly if the list names a glob push for it.
  pub record ShowsIn (s : Bound D I) (flag : Name → Bool) (ps : List (Push D I)) : Type 0 where
    pub bindings : (n : Name) → find_name n s.items ≡ binding ps n
    pub records : (i : I) → lookup (r.same_import i) s.records ≡ record_of ps i
    pub flags : (n : Name) → flag n ≡ is_glob_push (named_push ps n)

  -- one push of a name, as the namespace reads its import
  abbrev pub one_push : Name → Item D I → Option ImportOrExternCrate → Push D I
  one_push n x by = record { name = n; item = x; by = import_of r by }

  -- A push that goes through shows the list that was shown, with itself after it.
  abbrev pub PushShowsIn : {E : Type 0} → Bound D I → (Name → Bool) → Bound D I → (Name → Bool) → Push D I → Result Bool E → Type 0
  PushShowsIn s flag t new_flag p result = (ps : List (Push D I)) → ShowsIn s flag ps → OnOk result (ShowsIn t new_flag (ps ++ p ∷ []))

  -- It answers what the list says that was shown.
  abbrev pub PushAnswersIn : {E : Type 0} → Bound D I → (Name → Bool) → Push D I → Result Bool E → Type 0
  PushAnswersIn s flag p result = (ps : List (Push D I)) → ShowsIn s flag ps → IfOk result (λ effective. effective ≡ is_effective ps p)

  -- What a list binds to a name depends only on the pushes of that name. With an explicit one among them those by globs
  -- are shadowed: definition, visibility and import are the same without them.
  pub record IsByName (n : Name) : Type 0 where
    pub own : (ps qs : List (Push D I)) → of_name n ps ≡ of_name n qs → binding ps n ≡ binding qs n
    pub without_globs : (ps : List (Push D I)) → list_any is_explicit (of_name n ps) ≡ true → binding (filter is_explicit ps) n ≡ binding ps n

-- What a whole list of pushes makes of a scope and its glob table.
use Rattle.std.specs.Prelude.{◌≡◌, ◌&&◌, ◌||◌, Bool, false, not, List, [], ◌∷◌, ◌++◌, Option, Result, OnOk, OnErr, IfOk}
use Rattle.std.specs.Option.{option_map, option_map_or}
use Rattle.std.specs.List.{list_any, filter_map}
use Rattle.dm_base.specs.Names.{Name, same_name}
use Rattle.dm_base.specs.declared.ids.ModuleId.{ModuleId}
use Rattle.dm_base.specs.Tree.{same_module}
use Rattle.dm_base.specs.declared.per_ns.Item.{Item}
use Rattle.dm_base.specs.declared.per_ns.PerNs.{PerNs}
use Rattle.dm_base.specs.declared.imports.ImportOrExternCrate.{ImportOrExternCrate}
use Rattle.dm_scope.specs.Shadowing.{Reading, import_of}
use Rattle.dm_scope.specs.Flags.{Globs, has_flag}
use Rattle.dm_scope.specs.Push.{types_reading, values_reading, macros_reading}
use Rattle.dm_base.specs.PerNs.{is_empty}
use Rattle.dm_scope.specs.Pushes.{IsByName, Push, is_effective, ShowsIn}
use Rattle.dm_scope.specs.Scope.{Scope}

-- one push of a scope: the name, what it resolved to, and the import by which it came
pub record ScopePush : Type 0 where
  pub name : Name
  pub res : PerNs
  pub by : Option ImportOrExternCrate

module _ {D I : Type 0} (r : Reading D I) (item : PerNs → Option (Item D I)) where
  -- a push as a namespace reads it, if it has an item there
  abbrev pub push_in : ScopePush → Option (Push D I)
  push_in p = option_map (λ x. record { name = p.name; item = x; by = import_of r p.by }) (item p.res)

  -- the pushes of a list that have an item in a namespace
  abbrev pub pushes_in : List ScopePush → List (Push D I)
  pushes_in ps = filter_map push_in ps

  -- whether a push is effective in a namespace, after others
  abbrev pub is_effective_in : List ScopePush → ScopePush → Bool
  is_effective_in before p = option_map_or (is_effective r (pushes_in before)) (push_in p) false

-- whether a list has an empty push of a name
abbrev pub has_empty_push : List ScopePush → Name → Bool
has_empty_push ps n = list_any (λ p. is_empty p.res && same_name n p.name) ps

-- what a push answers after others: whether it is effective in some namespace, or empty and the first such of its name
abbrev pub is_answered : List ScopePush → ScopePush → Bool
is_answered before p =
    is_effective_in types_reading (λ x. x.types) before p
    || (is_effective_in values_reading (λ x. x.values) before p
    || (is_effective_in macros_reading (λ x. x.macros) before p
    || (is_empty p.res && not (has_empty_push before p.name))))

-- A scope, with the flags of a table under a module, shows a list of pushes: each namespace shows those that have an
-- item in it, and the unresolved names are those of the empty ones.
pub record Shows (s : Scope) (g : Globs) (m : ModuleId) (ps : List ScopePush) : Type 0 where
  pub types : ShowsIn types_reading s.types (has_flag g.types m) (pushes_in types_reading (λ x. x.types) ps)
  pub values : ShowsIn values_reading s.values (has_flag g.values m) (pushes_in values_reading (λ x. x.values) ps)
  pub macros : ShowsIn macros_reading s.macros (has_flag g.macros m) (pushes_in macros_reading (λ x. x.macros) ps)
  pub unresolved : (n : Name) → list_any (same_name n) s.unresolved ≡ has_empty_push ps n

abbrev pub push_of : Name → PerNs → Option ImportOrExternCrate → ScopePush
push_of n x i = record { name = n; res = x; by = i }

-- A push that goes through shows the list that was shown, with itself after it.
abbrev pub PushShows : {E : Type 0} → Scope → Globs → Scope → Globs → ModuleId → ScopePush → Result Bool E → Type 0
PushShows s g t h m p r = (ps : List ScopePush) → Shows s g m ps → OnOk r (Shows t h m (ps ++ p ∷ []))

-- It answers what the list says that was shown.
abbrev pub PushAnswers : {E : Type 0} → Scope → Globs → ModuleId → ScopePush → Result Bool E → Type 0
PushAnswers s g m p r = (ps : List ScopePush) → Shows s g m ps → IfOk r (λ answer. answer ≡ is_answered ps p)

-- One whose allocation failed leaves what was shown.
abbrev pub StillShows : {E : Type 0} → Scope → Globs → Scope → Globs → ModuleId → Result Bool E → Type 0
StillShows s g t h k r = (ps : List ScopePush) → Shows s g k ps → OnErr r (Shows t h k ps)

-- Whatever any scope showed in another module than m, it shows.
abbrev pub ShowsElsewhere : Globs → Globs → ModuleId → Type 0
ShowsElsewhere g h m = (other : Scope) (k : ModuleId) (ps : List ScopePush) → same_module m k ≡ false → Shows other g k ps → Shows other h k ps

-- What any list of pushes binds to a name in a namespace depends only on the pushes of that name that have an item
-- there, and with an explicit one among them not on those by globs: explicit names shadow globs.
pub record IsByNameInEach (n : Name) : Type 0 where
  pub types : IsByName types_reading n
  pub values : IsByName values_reading n
  pub macros : IsByName macros_reading n

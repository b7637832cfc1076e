-- What one push leaves of the others, as a worklist of imports needs it.
use Rattle.std.specs.Prelude.{◌≡◌, Bool, true, false, not, Option, None, Some}
use Rattle.dm_base.specs.Imports.{is_glob}
use Rattle.dm_base.specs.declared.ids.ModuleId.{ModuleId}
use Rattle.dm_base.specs.declared.imports.ImportOrExternCrate.{ImportOrExternCrate}
use Rattle.dm_base.specs.Tree.{same_module}
use Rattle.dm_scope.specs.Shadowing.{is_same}
use Rattle.dm_scope.specs.Flags.{Globs}
use Rattle.dm_scope.specs.Push.{types_reading, push_answer}
use Rattle.dm_scope.specs.Scope.{Scope}
use Rattle.dm_scope.specs.Shows.{ScopePush}

-- whether a push comes by a named import: one that is there and is no glob
abbrev pub is_named : Option ImportOrExternCrate → Bool
is_named None = false
is_named (Some i) = not (is_glob i)

-- whether a push would write
abbrev pub would_write : Scope → Globs → ModuleId → ScopePush → Bool
would_write s g m p = push_answer s g m p.name p.res p.by

-- whether two pushes come by one import
abbrev pub have_one_import : ScopePush → ScopePush → Bool
have_one_import p q = is_same types_reading p.by q.by

-- What holds of a push `p` into the module m that went through: it found the scopes in s, and the flags g, and left t
-- and h.
pub record PushLaw {S : Type 0} (scope_at : S → ModuleId → Scope) (s : S) (g : Globs) (t : S) (h : Globs) (m : ModuleId) (p : ScopePush) : Type 0 where
  -- one that answers false changes nothing
  pub idle : would_write (scope_at s m) g m p ≡ false → (t ≡ s) × (h ≡ g)
  -- the same push again writes nothing
  pub again : would_write (scope_at t m) h m p ≡ false
  -- What a push by a named import would not write, it would not write after this one, which came by another import, by
  -- a glob or by none.
  pub rests : (k : ModuleId) (q : ScopePush) → is_named q.by ≡ true → have_one_import q p ≡ false → would_write (scope_at s k) g k q ≡ false → would_write (scope_at t k) h k q ≡ false
  -- Into another module every push answers, for any scope, as before.
  pub elsewhere : (u : Scope) (k : ModuleId) (q : ScopePush) → same_module m k ≡ false → would_write u h k q ≡ would_write u g k q

-- a scope of its own, whatever the module
abbrev pub itself : Scope → ModuleId → Scope
itself s m = s

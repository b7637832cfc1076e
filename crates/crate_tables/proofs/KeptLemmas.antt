-- What a builder keeps: as it grows, and as its modules get textual macros.
use Rattle.std.proofs.Common.{◌≡◌, Bool, true, false, List, [], sym, subst, refl}
use Rattle.std.proofs.lemmas.Bool.{eqb-true}
use Rattle.crate_tables.proofs.TextualLemmas.{all-stay}
use Rattle.crate_tables.specs.DeclaredWorlds.{BindNothing}
use Rattle.crate_tables.specs.Kept.{IsKept}
use Rattle.crate_tables.specs.ScopeEntries.{entered}
use Rattle.crate_tables.specs.TextualMacros.{AllStayShown, StaysKnown}
use Rattle.crate_tables.specs.declared.scope_entry.ScopeEntry.{ScopeEntry}
use Rattle.crate_tables.specs.declared.scope_entry.ScopeEntry.TheVariants as entry
use Rattle.dm_base.specs.Tree.{same_module}
use Rattle.dm_base.specs.Names.{Name}
use Rattle.dm_base.specs.declared.ids.ModuleId.{ModuleId}
use Rattle.dm_base.specs.declared.item_ids.MacroId.{MacroId}
use Rattle.dm_maps.specs.Added.{IsGrown, IsScoped}
use Rattle.dm_maps.specs.World.{World, scope_of}
use Rattle.dm_scope.specs.Flags.{Globs}
use Rattle.dm_scope.specs.Scope.{Scope, no_scope}
use Rattle.dm_scope.specs.Shows.{ScopePush, Shows}

pub kept-grown : (w v : World) → IsGrown w v → IsKept w v
kept-grown w v grown = record { known = grown.known; all = grown.all; shown = grown.shown }

pub kept-further : (u v w : World) → IsKept u v → IsKept v w → IsKept u w
kept-further u v w a b = record {
  known = λ h k. b.known h (a.known h k);
  all = λ hs k. b.all hs (a.all hs k);
  shown = λ g k ps s. b.shown g k ps (a.shown g k ps s);
}

pub kept-textual : (w v : World) → StaysKnown w v → AllStayShown w v → IsKept w v
kept-textual w v stays shown = record { known = stays; all = all-stay w v stays; shown = shown }

-- where no module binds anything, none does later
pub nothing-fresh : (w : World) → ((m : ModuleId) → scope_of w m ≡ no_scope) → BindNothing w
nothing-fresh w empty g m s = subst (λ x. Shows x g m []) (sym (empty m)) s

pub nothing-kept : (w v : World) → IsKept w v → BindNothing w → BindNothing v
nothing-kept w v kept nothing g m s = kept.shown g m [] (nothing g m s)

-- where the scope of one module shows what it showed, and the others stay, each shows what it showed
scoped-by : (w v : World) (m : ModuleId) (t : Scope) → ((g : Globs) (k : ModuleId) (ps : List ScopePush) → Shows (scope_of w m) g k ps → Shows t g k ps) → IsScoped w v m t → AllStayShown w v
scoped-by w v m t same is g k ps h = by (same_module m k) refl
  where
    by : (b : Bool) → same_module m k ≡ b → Shows (scope_of v k) g k ps
    by true same_one =
        let e = eqb-true m.0 k.0 same_one in
        let one : m ≡ k = λ i. record { 0 = e i } in
        subst (λ (x : ModuleId). Shows (scope_of w x) g x ps → Shows (scope_of v x) g x ps) one
        (λ own. subst (λ s. Shows s g m ps) (sym is.own) (same g m ps own)) h
    by false other = subst (λ s. Shows s g k ps) (sym (is.others k other)) h

-- a scope with other textual macros shows the same
pub scoped-shown : (w v : World) (m : ModuleId) (l : List (Name × List MacroId)) → IsScoped w v m (record (scope_of w m) { legacy_macros = l }) → AllStayShown w v
scoped-shown w v m l is =
    scoped-by w v m (record (scope_of w m) { legacy_macros = l }) (λ g k ps h. record { types = h.types; values = h.values; macros = h.macros; unresolved = h.unresolved }) is

-- so does one with one more in one of its lists
entered-shows : (s : Scope) (e : ScopeEntry) (g : Globs) (k : ModuleId) (ps : List ScopePush) → Shows s g k ps → Shows (entered s e) g k ps
entered-shows s (entry.Declaration d) g k ps h = record { types = h.types; values = h.values; macros = h.macros; unresolved = h.unresolved }
entered-shows s (entry.UnnamedConst c) g k ps h = record { types = h.types; values = h.values; macros = h.macros; unresolved = h.unresolved }
entered-shows s (entry.ExternCrate c) g k ps h = record { types = h.types; values = h.values; macros = h.macros; unresolved = h.unresolved }
entered-shows s (entry.Impl i b) g k ps h = record { types = h.types; values = h.values; macros = h.macros; unresolved = h.unresolved }
entered-shows s (entry.ExternBlock b) g k ps h = record { types = h.types; values = h.values; macros = h.macros; unresolved = h.unresolved }

pub scoped-entered : (w v : World) (m : ModuleId) (e : ScopeEntry) → IsScoped w v m (entered (scope_of w m) e) → AllStayShown w v
scoped-entered w v m e is = scoped-by w v m (entered (scope_of w m) e) (entered-shows (scope_of w m) e) is

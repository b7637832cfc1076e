-- Examples of pushes, and what they bind, record and answer: equations that compute.
use Rattle.std.specs.Prelude.{◌≡◌, ℕ, Bool, true, false, List, [], ◌∷◌, ◌++◌, Option, None, Some, refl}
use Rattle.dm_base.specs.Names.{Name}
use Rattle.dm_base.specs.declared.per_ns.Item.{Item}
use Rattle.dm_base.specs.declared.per_ns.PerNs.{PerNs}
use Rattle.dm_base.specs.declared.visibility.Visibility.{Visibility}
use Rattle.dm_base.specs.declared.visibility.Visibility.TheVariants.{Module, Public}
use Rattle.dm_base.specs.declared.visibility.VisibilityExplicitness.TheVariants.{Implicit}
use Rattle.dm_base.specs.declared.imports.ImportOrDef.{ImportOrDef}
use Rattle.dm_base.specs.declared.imports.ImportOrDef.TheVariants as target
use Rattle.dm_base.specs.declared.imports.ImportOrExternCrate.{ImportOrExternCrate}
use Rattle.dm_base.specs.declared.imports.ImportOrExternCrate.TheVariants as wide
use Rattle.dm_base.specs.declared.imports.ImportOrGlob.{ImportOrGlob}
use Rattle.dm_base.specs.declared.imports.ImportOrGlob.TheVariants as narrow
use Rattle.dm_base.specs.declared.item_ids.AdtId.TheVariants as adt
use Rattle.dm_base.specs.declared.item_ids.ModuleDefId.{ModuleDefId}
use Rattle.dm_base.specs.declared.item_ids.ModuleDefId.TheVariants as def
use Rattle.dm_base.specs.declared.ids.ModuleId.{ModuleId}
use Rattle.dm_base.specs.Sameness.{same_def}
use Rattle.dm_scope.specs.Changes.{without_binding}
use Rattle.dm_scope.specs.Flags.{Globs, no_flags, no_globs, has_flag, with_flag}
use Rattle.dm_scope.specs.Push.{types_reading, values_reading, scope_after, globs_after, push_answer}
use Rattle.dm_scope.specs.Pushes.{binding, record_of}
use Rattle.dm_scope.specs.Scope.{Scope, no_scope, bound_in}
use Rattle.dm_scope.specs.Shows.{ScopePush, pushes_in, is_answered}

-- the answers of pushes after others
abbrev answers : List ScopePush → List ScopePush → List Bool
answers before [] = []
answers before (p ∷ ps) = is_answered before p ∷ answers (before ++ p ∷ []) ps

abbrev m0 : ModuleId
m0 = record { 0 = 0 }

-- the same by the steps: the answers, and what the name is bound to afterwards
abbrev answers_by_steps : Scope → Globs → List ScopePush → List Bool
answers_by_steps s g [] = []
answers_by_steps s g (p ∷ ps) = push_answer s g m0 p.name p.res p.by ∷ answers_by_steps (scope_after s g m0 p.name p.res p.by) (globs_after s g m0 p.name p.res p.by) ps

abbrev bound_by_steps : Scope → Globs → List ScopePush → Name → PerNs
bound_by_steps s g [] n = bound_in s n
bound_by_steps s g (p ∷ ps) n = bound_by_steps (scope_after s g m0 p.name p.res p.by) (globs_after s g m0 p.name p.res p.by) ps n

abbrev A : Name
A = 65 ∷ []

abbrev import : ℕ → ImportOrExternCrate
import i = wide.Import (record { use_ = record { 0 = 0 }; idx = record { 0 = i } })

abbrev glob : ℕ → ImportOrExternCrate
glob i = wide.Glob (record { use_ = record { 0 = 0 }; idx = record { 0 = i } })

abbrev extern : ℕ → ImportOrExternCrate
extern k = wide.ExternCrate (record { 0 = k })

abbrev struct : ℕ → ModuleDefId
struct n = def.AdtId (adt.StructId (record { 0 = n }))

abbrev function : ℕ → ModuleDefId
function n = def.FunctionId (record { 0 = n })

abbrev type : ModuleDefId → Visibility → Option ImportOrExternCrate → PerNs
type d v i = record { types = Some (record { def = d; vis = v; import = i }); values = None; macros = None }

abbrev of_type : ModuleDefId → Visibility → Option ImportOrExternCrate → ScopePush
of_type d v i = record { name = A; res = type d v None; by = i }

-- what a list binds to A as a type, and records of an import
abbrev type_of : List ScopePush → Option (Item ModuleDefId ImportOrExternCrate)
type_of ps = binding types_reading (pushes_in types_reading (λ x. x.types) ps) A

abbrev value_of : List ScopePush → Option (Item ModuleDefId ImportOrGlob)
value_of ps = binding values_reading (pushes_in values_reading (λ x. x.values) ps) A

abbrev type_record_of : List ScopePush → ImportOrExternCrate → Option ImportOrDef
type_record_of ps i = record_of types_reading (pushes_in types_reading (λ x. x.types) ps) i

-- a named import shadows, and so replaces, a glob's binding
abbrev glob_then_import : List ScopePush
glob_then_import = of_type (struct 0) Public (Some (glob 0)) ∷ of_type (struct 1) Public (Some (import 1)) ∷ []

glob_then_import_binds : type_of glob_then_import ≡ Some (record { def = struct 1; vis = Public; import = Some (import 1) })
glob_then_import_binds = refl

glob_then_import_answers : answers [] glob_then_import ≡ true ∷ true ∷ []
glob_then_import_answers = refl

glob_then_import_by_steps : bound_by_steps no_scope no_globs glob_then_import A ≡ type (struct 1) Public (Some (import 1))
glob_then_import_by_steps = refl

-- the first import keeps the name against a second one, and can change its own definition
abbrev two_imports : List ScopePush
two_imports = of_type (struct 0) Public (Some (import 1)) ∷ of_type (struct 1) Public (Some (import 2)) ∷ of_type (struct 2) Public (Some (import 1)) ∷ []

two_imports_bind : type_of two_imports ≡ Some (record { def = struct 2; vis = Public; import = Some (import 1) })
two_imports_bind = refl

two_imports_answer : answers [] two_imports ≡ true ∷ false ∷ true ∷ []
two_imports_answer = refl

two_imports_by_steps : answers_by_steps no_scope no_globs two_imports ≡ true ∷ false ∷ true ∷ []
two_imports_by_steps = refl

two_imports_record : type_record_of two_imports (import 1) ≡ Some (target.Def (struct 2))
two_imports_record = refl

-- the one that was never effective has no record
no_record_of_the_second : type_record_of two_imports (import 2) ≡ None
no_record_of_the_second = refl

-- another visibility alone changes nothing, nor does a glob
abbrev visibility_then_glob : List ScopePush
visibility_then_glob =
    of_type (struct 0) Public (Some (import 1)) ∷ of_type (struct 0) (Module m0 Implicit) (Some (import 1)) ∷ of_type (struct 1) Public (Some (glob 0)) ∷ []

visibility_then_glob_binds : type_of visibility_then_glob ≡ Some (record { def = struct 0; vis = Public; import = Some (import 1) })
visibility_then_glob_binds = refl

visibility_then_glob_answers : answers [] visibility_then_glob ≡ true ∷ false ∷ false ∷ []
visibility_then_glob_answers = refl

visibility_then_glob_by_steps : answers_by_steps no_scope no_globs visibility_then_glob ≡ true ∷ false ∷ false ∷ []
visibility_then_glob_by_steps = refl

-- an extern crate is stored and recorded as a type's import, and not as a value's
abbrev extern_crate : List ScopePush
extern_crate =
    record {
      name = A;
      res = record (type (struct 0) Public None) { values = Some (record { def = function 3; vis = Public; import = None }) };
      by = Some (extern 0);
    } ∷ []

extern_crate_type : type_of extern_crate ≡ Some (record { def = struct 0; vis = Public; import = Some (extern 0) })
extern_crate_type = refl

extern_crate_value : value_of extern_crate ≡ Some (record { def = function 3; vis = Public; import = None })
extern_crate_value = refl

extern_crate_answers : answers [] extern_crate ≡ true ∷ []
extern_crate_answers = refl

extern_crate_by_steps : answers_by_steps no_scope no_globs extern_crate ≡ true ∷ []
extern_crate_by_steps = refl

extern_crate_records : type_record_of extern_crate (extern 0) ≡ Some (target.Def (struct 0))
extern_crate_records = refl

extern_crate_no_value_record : (scope_after no_scope no_globs m0 A (record (type (struct 0) Public None) { values = Some (record { def = function 3; vis = Public; import = None }) }) (Some (extern 0))).values.records ≡ []
extern_crate_no_value_record = refl

-- a second declaration changes nothing
abbrev two_declarations : List ScopePush
two_declarations = of_type (struct 0) Public None ∷ of_type (struct 1) Public None ∷ []

two_declarations_bind : type_of two_declarations ≡ Some (record { def = struct 0; vis = Public; import = None })
two_declarations_bind = refl

two_declarations_answer : answers [] two_declarations ≡ true ∷ false ∷ []
two_declarations_answer = refl

two_declarations_by_steps : answers_by_steps no_scope no_globs two_declarations ≡ true ∷ false ∷ []
two_declarations_by_steps = refl

-- an import stands for the import that its pushed item came by
abbrev carried : List ScopePush
carried = record { name = A; res = type (struct 1) Public (Some (glob 7)); by = Some (import 0) } ∷ []

carried_record : type_record_of carried (import 0) ≡ Some (target.Glob (record { use_ = record { 0 = 0 }; idx = record { 0 = 7 } }))
carried_record = refl

-- an empty push is answered once, and a glob can bind in two namespaces at once
abbrev unresolved_then_both : List ScopePush
unresolved_then_both =
    record { name = 120 ∷ []; res = record { types = None; values = None; macros = None }; by = None }
    ∷ record { name = 120 ∷ []; res = record { types = None; values = None; macros = None }; by = None }
    ∷ record {
      name = 83 ∷ [];
      res = record (type (struct 0) Public None) { values = Some (record { def = struct 0; vis = Public; import = None }) };
      by = Some (glob 0);
    } ∷ []

unresolved_then_both_answers : answers [] unresolved_then_both ≡ true ∷ false ∷ true ∷ []
unresolved_then_both_answers = refl

unresolved_then_both_by_steps : answers_by_steps no_scope no_globs unresolved_then_both ≡ true ∷ false ∷ true ∷ []
unresolved_then_both_by_steps = refl

-- ---- where a removal stands between pushes, and where two scopes have one table

abbrev value : ModuleDefId → PerNs
value d = record { types = None; values = Some (record { def = d; vis = Public; import = None }); macros = None }

abbrev of_value : ModuleDefId → Option ImportOrExternCrate → ScopePush
of_value d i = record { name = A; res = value d; by = i }

abbrev by_glob : Scope
by_glob = scope_after no_scope no_globs m0 A (value (function 0)) (Some (glob 0))

abbrev glob_stands : Globs
glob_stands = globs_after no_scope no_globs m0 A (value (function 0)) (Some (glob 0))

glob_sets_flag : has_flag glob_stands.values m0 A ≡ true
glob_sets_flag = refl

-- a removal leaves the flag
abbrev removed : Scope
removed = record by_glob { values = without_binding same_def A (function 0) by_glob.values }

removed_is_unbound : (bound_in removed A).values ≡ None
removed_is_unbound = refl

-- a named import binds the name again, and clears the flag
bound_again : push_answer removed glob_stands m0 A (value (function 1)) (Some (import 1)) ≡ true
bound_again = refl

bound_again_by : (bound_in (scope_after removed glob_stands m0 A (value (function 1)) (Some (import 1))) A).values ≡ Some (record { def = function 1; vis = Public; import = Some (narrow.Import (record { use_ = record { 0 = 0 }; idx = record { 0 = 1 } })) })
bound_again_by = refl

flag_is_cleared : has_flag (globs_after removed glob_stands m0 A (value (function 1)) (Some (import 1))).values m0 A ≡ false
flag_is_cleared = refl

-- so does a declaration, which no later import replaces
declared_again : answers_by_steps removed glob_stands (of_value (function 1) None ∷ of_value (function 2) (Some (import 1)) ∷ []) ≡ true ∷ false ∷ []
declared_again = refl

-- two scopes under one module of one table: the second clears the flag of the first, whose glob's binding then stays
second_clears : push_answer no_scope glob_stands m0 A (value (function 1)) (Some (import 1)) ≡ true
second_clears = refl

first_keeps : push_answer by_glob (globs_after no_scope glob_stands m0 A (value (function 1)) (Some (import 1))) m0 A (value (function 2)) (Some (import 2)) ≡ false
first_keeps = refl

-- flags that say the same are the same, in whatever order they were set; and one that was set and cleared leaves no
-- trace
abbrev B : Name
B = 66 ∷ []

flags_have_no_order : with_flag (with_flag no_flags m0 A true) m0 B true ≡ with_flag (with_flag no_flags m0 B true) m0 A true
flags_have_no_order = refl

flag_leaves_no_trace : with_flag (with_flag no_flags m0 A true) m0 A false ≡ no_flags
flag_leaves_no_trace = refl

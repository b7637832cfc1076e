-- The module of a crate that is the standard prelude of an edition.
use Rattle.std.specs.Prelude.{◌==◌, ◌&&◌, ℕ, Bool, false, List, [], ◌∷◌, Option, Some, None, codes}
use Rattle.std.specs.List.{position}
use Rattle.std.specs.Str.{bytes_eq}
use Rattle.crate_items.specs.DeclaredModules.{Module}
use Rattle.crate_items.specs.declared.modules.declared_module.Declaration.{Declaration}
use Rattle.dm_base.specs.Names.{Name}
use Rattle.dm_base.specs.declared.edition.Edition.{Edition}
use Rattle.dm_base.specs.declared.edition.Edition.TheVariants as edition

-- a declaration in the module of a number, under a name
abbrev pub is_declared_in : ℕ → List ℕ → Option Declaration → Bool
is_declared_in parent name None = false
is_declared_in parent name (Some d) = (d.parent == parent) && bytes_eq d.name name

-- the number of the first module of a name in the one of a number
abbrev pub child_named : List Module → ℕ → List ℕ → Option ℕ
child_named ms parent name = position (λ (m : Module). is_declared_in parent name m.declaration) ms

abbrev pub child_of : List Module → Option ℕ → Name → Option ℕ
child_of ms None name = None
child_of ms (Some parent) name = child_named ms parent name

-- the module that some names lead down to, one after another
abbrev pub module_behind : List Module → Option ℕ → List Name → Option ℕ
module_behind ms at [] = at
module_behind ms at (n ∷ ns) = module_behind ms (child_of ms at n) ns

-- what an edition calls its prelude
abbrev pub prelude_name : Edition → List ℕ
prelude_name edition.Edition2015 = codes "rust_2015"
prelude_name edition.Edition2018 = codes "rust_2018"
prelude_name edition.Edition2021 = codes "rust_2021"
prelude_name edition.Edition2024 = codes "rust_2024"

abbrev pub or_else : Option ℕ → Option ℕ → Option ℕ
or_else (Some n) other = Some n
or_else None other = other

abbrev pub prelude_in : List Module → List ℕ → Option ℕ → Option ℕ
prelude_in ms name None = None
prelude_in ms name (Some preludes) = or_else (child_named ms preludes name) (child_named ms preludes (codes "v1"))

-- the standard prelude stands in `prelude` of the root, under the name of the edition, or as `v1` where that is all
abbrev pub prelude_module : List Module → Edition → Option ℕ
prelude_module ms e = prelude_in ms (prelude_name e) (child_named ms 0 (codes "prelude"))

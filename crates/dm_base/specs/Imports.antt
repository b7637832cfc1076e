-- Imports of each namespace, and the conversions between them.
use Rattle.std.specs.Prelude.{◌≡◌, Bool, true, false, Option, None, Some, refl}
use Rattle.std.specs.Cmp.{IsTotalOrder, then_total, on_total, nat_cmp_total}
use Rattle.std.specs.Ordering.{then_cmp, on, nat_cmp}
use Rattle.std.specs.declared.cmp.Ordering.{Ordering}
use Rattle.std.specs.declared.cmp.Ordering.TheVariants.{Less, Greater}
use Rattle.dm_base.specs.declared.imports.ImportOrExternCrate.{ImportOrExternCrate}
use Rattle.dm_base.specs.declared.imports.ImportOrExternCrate.TheVariants as wide
use Rattle.dm_base.specs.declared.imports.ImportOrGlob.{ImportOrGlob}
use Rattle.dm_base.specs.declared.imports.ImportOrGlob.TheVariants as narrow
use Rattle.dm_base.specs.declared.imports.ImportOrDef.{ImportOrDef}
use Rattle.dm_base.specs.declared.imports.ImportOrDef.TheVariants as target
use Rattle.dm_base.specs.declared.imports.ImportId.{ImportId}
use Rattle.dm_base.specs.declared.imports.GlobId.{GlobId}
use Rattle.dm_base.specs.declared.ids.UseId.{UseId}

abbrev pub is_glob : ImportOrExternCrate → Bool
is_glob (wide.Glob i) = true
is_glob (wide.Import i) = false
is_glob (wide.ExternCrate k) = false

abbrev pub is_glob_or_import : ImportOrGlob → Bool
is_glob_or_import (narrow.Glob i) = true
is_glob_or_import (narrow.Import i) = false

-- an import narrowed to values: globs and named imports stay, an extern crate brings no value
abbrev pub narrowed : ImportOrExternCrate → Option ImportOrGlob
narrowed (wide.Glob i) = Some (narrow.Glob i)
narrowed (wide.Import i) = Some (narrow.Import i)
narrowed (wide.ExternCrate k) = None

abbrev pub widened : ImportOrGlob → ImportOrExternCrate
widened (narrow.Glob i) = wide.Glob i
widened (narrow.Import i) = wide.Import i

pub narrow_widen : (x : ImportOrGlob) → narrowed (widened x) ≡ Some x
narrow_widen (narrow.Glob i) = refl
narrow_widen (narrow.Import i) = refl

pub widen_narrow : (i : ImportOrExternCrate) (x : ImportOrGlob) → narrowed i ≡ Some x → widened x ≡ i
widen_narrow (wide.Glob i) (narrow.Glob j) e = cc
widen_narrow (wide.Glob i) (narrow.Import j) e = cc
widen_narrow (wide.Import i) (narrow.Glob j) e = cc
widen_narrow (wide.Import i) (narrow.Import j) e = cc
widen_narrow (wide.ExternCrate k) x e = cc

-- a glob always narrows
pub globs_narrow : (i : ImportOrExternCrate) → is_glob i ≡ true → (x : ImportOrGlob) × (narrowed i ≡ Some x)
globs_narrow (wide.Glob i) e = (narrow.Glob i, refl)
globs_narrow (wide.Import i) e = cc
globs_narrow (wide.ExternCrate k) e = cc

-- and stays a glob
pub globs_stay : (x : ImportOrGlob) → is_glob_or_import x ≡ is_glob (widened x)
globs_stay (narrow.Glob i) = refl
globs_stay (narrow.Import i) = refl

-- the named import, the glob, and the use of an import; an extern crate has none of them
abbrev pub named_import : ImportOrExternCrate → Option ImportId
named_import (wide.Glob i) = None
named_import (wide.Import i) = Some i
named_import (wide.ExternCrate k) = None

abbrev pub glob_of : ImportOrExternCrate → Option GlobId
glob_of (wide.Glob i) = Some i
glob_of (wide.Import i) = None
glob_of (wide.ExternCrate k) = None

abbrev pub use_of : ImportOrExternCrate → Option UseId
use_of (wide.Glob i) = Some i.use_
use_of (wide.Import i) = Some i.use_
use_of (wide.ExternCrate k) = None

-- imports are ordered by `use` item, and in one `use` by index
abbrev pub import_cmp : ImportId → ImportId → Ordering
import_cmp = then_cmp (on (λ i. i.use_.0) nat_cmp) (on (λ i. i.idx.0) nat_cmp)

pub import_cmp_total : IsTotalOrder import_cmp
import_cmp_total = then_total (on_total (λ i. i.use_.0) nat_cmp_total) (on_total (λ i. i.idx.0) nat_cmp_total)

-- so are globs
abbrev pub glob_cmp : GlobId → GlobId → Ordering
glob_cmp = then_cmp (on (λ g. g.use_.0) nat_cmp) (on (λ g. g.idx.0) nat_cmp)

pub glob_cmp_total : IsTotalOrder glob_cmp
glob_cmp_total = then_total (on_total (λ g. g.use_.0) nat_cmp_total) (on_total (λ g. g.idx.0) nat_cmp_total)

-- index 5 of `use` 0 stands before index 0 of `use` 1, and after index 0 of its own
earlier_use_first : import_cmp (record { use_ = record { 0 = 0 }; idx = record { 0 = 5 } }) (record { use_ = record { 0 = 1 }; idx = record { 0 = 0 } }) ≡ Less
earlier_use_first = refl

later_place_last : import_cmp (record { use_ = record { 0 = 0 }; idx = record { 0 = 5 } }) (record { use_ = record { 0 = 0 }; idx = record { 0 = 0 } }) ≡ Greater
later_place_last = refl

-- an import as what another import resolves to
abbrev pub target_of : ImportOrExternCrate → ImportOrDef
target_of (wide.Glob i) = target.Glob i
target_of (wide.Import i) = target.Import i
target_of (wide.ExternCrate k) = target.ExternCrate k

-- The leaves of uses, as imports and as globs.
use Rattle.std.specs.Prelude.{Bool, true, false, List, [], ◌∷◌, Option, None, Some, codes, if◌then◌else◌}
use Rattle.crate_tables.specs.declared.use_leaf.UseLeaf.{UseLeaf}
use Rattle.dm_base.specs.Names.{Name}
use Rattle.dm_base.specs.declared.visibility.Visibility.{Visibility}
use Rattle.dm_base.specs.declared.visibility.Visibility.TheVariants.{Module}
use Rattle.dm_base.specs.declared.visibility.VisibilityExplicitness.TheVariants.{Implicit}
use Rattle.dm_imports.specs.declared.glob_import.GlobImport.{GlobImport}
use Rattle.dm_imports.specs.declared.named_import.ImportKind.{ImportKind}
use Rattle.dm_imports.specs.declared.named_import.ImportKind.TheVariants as kind
use Rattle.dm_imports.specs.declared.named_import.NamedImport.{NamedImport}
use Rattle.item_tree.specs.declared.items.imports.ImportKind.{ImportKind as Written}
use Rattle.item_tree.specs.declared.items.imports.ImportKind.TheVariants as written

-- `as _` binds no name, and `use a::{self}` brings a type alone
abbrev pub kind_of : Bool → Written → ImportKind
kind_of true k = kind.Unnamed
kind_of false written.TypeOnly = kind.TypeOnly
kind_of false _ = kind.All

-- the name that an import stands under
abbrev pub name_of : Bool → Option Name → Option Name
name_of true n = Some (codes "_")
name_of false n = n

-- what a list of nothing asks for is seen by its module alone
abbrev pub vis_of : UseLeaf → Visibility
vis_of x = if x.import.is_empty_list then Module x.home Implicit else x.visibility

abbrev pub import_named : UseLeaf → Name → NamedImport
import_named x n = record {
  home = x.home;
  name = n;
  path = x.import.path;
  vis = vis_of x;
  kind = kind_of x.import.is_unnamed x.import.kind;
  import = record { use_ = x.use_; idx = x.import.tree };
  textual = x.textual;
}

abbrev pub imports_named : UseLeaf → Option Name → List NamedImport
imports_named x None = []
imports_named x (Some n) = import_named x n ∷ []

abbrev pub glob_by : UseLeaf → GlobImport
glob_by x = record {
  into = x.home;
  path = x.import.path;
  vis = x.visibility;
  import = record { use_ = x.use_; idx = x.import.tree };
}

abbrev pub is_glob_kind : Written → Bool
is_glob_kind written.Glob = true
is_glob_kind _ = false

-- the import that a leaf is, unless it is a glob or has nothing to bind
abbrev pub imports_of : UseLeaf → List NamedImport
imports_of x = if is_glob_kind x.import.kind then [] else imports_named x (name_of x.import.is_unnamed x.import.name)

-- the glob that a leaf is, if it is one
abbrev pub globs_of : UseLeaf → List GlobImport
globs_of x = if is_glob_kind x.import.kind then glob_by x ∷ [] else []

-- Modules of a crate, and declarations that lead to none.
use Rattle.std.specs.Prelude.{ℕ, List, Option}
use Rattle.crate_items.specs.ModDirs.{Dir, File}
use Rattle.crate_items.specs.declared.modules.declared_module.Declaration.{Declaration}
use Rattle.dm_base.specs.declared.ids.FileId.{FileId}

-- a module of a crate: how it is declared, which the root is not; its file, and its item there where it is inline;
-- where the files of its children are looked for; and the files that it stands in, from the root's to its own
pub record Module : Type 0 where
  pub declaration : Option Declaration
  pub file : FileId
  pub item : Option ℕ
  pub dir : Dir
  pub around : List FileId

-- a module without a file: how it is declared, where its file was looked for, and the file that is there but is one
-- that it would stand in itself
pub record Fault : Type 0 where
  pub declaration : Declaration
  pub candidates : List File
  pub within : Option FileId

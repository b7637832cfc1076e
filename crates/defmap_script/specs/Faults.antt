-- Errors of a line, and the words in which they are printed.
use Rattle.std.specs.Prelude.{◌≡◌, ◌⊎◌, ℕ, List, ◌++◌, Option, Some, None, Result, Ok, Err, codes}
use Rattle.std.specs.Fmt.{decimal}
use Rattle.dm_base.specs.declared.ids.BlockId.{BlockId}
use Rattle.dm_maps.specs.declared.build_fault.BuildFault.{BuildFault}
use Rattle.dm_maps.specs.declared.build_fault.BuildFault.TheVariants as build
use Rattle.dm_maps.specs.declared.check.fault.Holder.{Holder}
use Rattle.dm_maps.specs.declared.check.fault.Holder.TheVariants as holder
use Rattle.dm_maps.specs.declared.check.fault.WorldFault.{WorldFault}
use Rattle.dm_maps.specs.declared.check.fault.WorldFaultKind.{WorldFaultKind}
use Rattle.dm_maps.specs.declared.check.fault.WorldFaultKind.TheVariants as kind
use Rattle.defmap_script.specs.declared.fault.Fault.{Fault}
use Rattle.defmap_script.specs.declared.fault.Fault.TheVariants.{BadLine, NeedsWorld, NeedsBuilder, Unknown, Build, World, OutOfMemory}

-- Out of memory comes last: a line with these outcomes fails with its fault, or out of memory where with more memory it
-- would be answered.
abbrev pub IsRefused : {A : Type 0} → (Result A Fault → Type 0) → Fault → Type 0
IsRefused {A} outcome f = outcome (Err f) ⊎ ((f ≡ OutOfMemory) × (a : A) × outcome (Ok a))

-- where a builder is out of memory, the run is
abbrev pub build_fault : BuildFault → Fault
build_fault build.NoSuchCrate = Build build.NoSuchCrate
build_fault build.NoSuchModule = Build build.NoSuchModule
build_fault build.NoSuchEnum = Build build.NoSuchEnum
build_fault build.TakenChild = Build build.TakenChild
build_fault build.TakenVariant = Build build.TakenVariant
build_fault build.OutOfNumbers = Build build.OutOfNumbers
build_fault build.OutOfMemory = OutOfMemory

abbrev pub build_fault_text : BuildFault → List ℕ
build_fault_text build.NoSuchCrate = codes "NoSuchCrate"
build_fault_text build.NoSuchModule = codes "NoSuchModule"
build_fault_text build.NoSuchEnum = codes "NoSuchEnum"
build_fault_text build.TakenChild = codes "TakenChild"
build_fault_text build.TakenVariant = codes "TakenVariant"
build_fault_text build.OutOfNumbers = codes "OutOfNumbers"
build_fault_text build.OutOfMemory = codes "OutOfMemory"

abbrev pub kind_text : WorldFaultKind → List ℕ
kind_text kind.UnknownModule = codes "UnknownModule"
kind_text kind.UnknownCrate = codes "UnknownCrate"
kind_text kind.UnknownUse = codes "UnknownUse"
kind_text kind.UnknownItem = codes "UnknownItem"
kind_text kind.UnknownMacro = codes "UnknownMacro"

abbrev pub map_text : ℕ → Option BlockId → List ℕ
map_text k None = codes "c" ++ decimal k
map_text k (Some b) = codes "b" ++ decimal b.0

-- a crate's map, a block's map, a module, or the tables
abbrev pub holder_text : Holder → List ℕ
holder_text (holder.Map id) = map_text id.krate.0 id.block
holder_text (holder.Module m) = codes "m" ++ decimal m.0
holder_text holder.Tables = codes "tables"

-- its kind, the holder, and the id
abbrev pub world_fault_text : WorldFault → List ℕ
world_fault_text f = kind_text f.kind ++ codes " " ++ holder_text f.holder ++ codes " " ++ decimal f.id

abbrev pub fault_text : Fault → List ℕ
fault_text BadLine = codes "BadLine"
fault_text NeedsWorld = codes "NeedsWorld"
fault_text NeedsBuilder = codes "NeedsBuilder"
fault_text Unknown = codes "Unknown"
fault_text (Build f) = build_fault_text f
fault_text (World f) = world_fault_text f
fault_text OutOfMemory = codes "OutOfMemory"

-- the line that refuses the line of number n
abbrev pub refusal : ℕ → Fault → List ℕ
refusal n f = codes "refused " ++ decimal n ++ codes " " ++ fault_text f ++ codes "\n"

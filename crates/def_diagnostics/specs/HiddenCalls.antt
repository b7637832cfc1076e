-- Which macro calls that call no macro may call one once others are expanded.
use Rattle.std.specs.Prelude.{◌&&◌, ◌==◌, Bool, true, false, List, is_some, length, if◌then◌else◌}
use Rattle.std.specs.List.{list_any}
use Rattle.def_diagnostics.specs.Hidden.{is_hidden}
use Rattle.def_diagnostics.specs.declared.macro_calls.MacroCall.{MacroCall}
use Rattle.dm_base.specs.Path.{Path}
use Rattle.dm_base.specs.Tree.{chain, is_among}
use Rattle.dm_base.specs.declared.mod_path.PathKind.{PathKind}
use Rattle.dm_base.specs.declared.mod_path.PathKind.TheVariants as kind
use Rattle.dm_base.specs.declared.ids.ModuleId.{ModuleId}
use Rattle.dm_maps.specs.Trees.{tree_of}
use Rattle.dm_maps.specs.World.{World}

abbrev pub is_plain : PathKind → Bool
is_plain kind.Plain = true
is_plain _ = false

-- a single name may be that of a textual macro
abbrev pub is_one_name : Path → Bool
is_one_name p = is_plain p.kind && (length p.segments == 1)

-- a call that calls a macro stands in the module, or in one around
abbrev pub is_around : World → ModuleId → MacroCall → Bool
is_around w m c = is_some c.called && is_among c.home (chain (tree_of w) m)

-- a call that calls no macro is unknown as an import of its path is, and a single name also by calls around
abbrev pub is_call_hidden : World → List ModuleId → List MacroCall → ModuleId → Path → Bool
is_call_hidden w ms calls m p =
    if is_one_name p && list_any (is_around w m) calls then true else is_hidden w ms m p

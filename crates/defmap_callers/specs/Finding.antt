-- Which names show an item to every crate.
use Rattle.std.specs.Prelude.{Bool, Option, None, Some, if◌then◌else◌}
use Rattle.dm_base.specs.Names.{Name}
use Rattle.dm_base.specs.Visibility.{is_public}
use Rattle.dm_base.specs.declared.visibility.Visibility.{Visibility}

-- whether no import brought a name that is public; none of any other name
abbrev pub public_name : Name × Visibility × Bool → Option Bool
public_name x = if is_public x.1 then Some x.2 else None

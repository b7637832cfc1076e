-- Examples: which imports are due (dirty) after a push.
use Rattle.std.specs.Prelude.{◌≡◌, Bool, true, false, None, Some, [], ◌∷◌, refl}
use Rattle.dm_base.specs.declared.mod_path.PathKind.TheVariants.{Plain, Crate}
use Rattle.dm_base.specs.declared.visibility.Visibility.TheVariants.{Public}
use Rattle.dm_base.specs.Names.{Name}
use Rattle.dm_scope.specs.Flags.{Globs}
use Rattle.dm_maps.specs.World.{World}
use Rattle.dm_retry.specs.Known.{add_fault, first_double}
use Rattle.dm_retry.specs.declared.import_kind.ImportKind.TheVariants as kind
use Rattle.dm_retry.specs.Rounds.{Pending, changed_beside, changed_under, marked_after}
use Rattle.dm_retry.specs.declared.add_fault.AddFault.TheVariants as adding

abbrev x : Name
x = 120 ∷ []

abbrev y : Name
y = 121 ∷ []

abbrev a : Name
a = 97 ∷ []

-- `use Y as X;`, of place 0
abbrev needs : Bool → Pending
needs due = record {
  origin = record { 0 = 0 };
  name = x;
  path = record { kind = Plain; segments = y ∷ [] };
  visibility = Public;
  kind = kind.Plain;
  import = record { use_ = record { 0 = 0 }; idx = record { 0 = 0 } };
  due = due;
}

-- `use crate::a::X as Y;`, of place 1
abbrev gives_y : Bool → Pending
gives_y due = record {
  origin = record { 0 = 0 };
  name = y;
  path = record { kind = Crate; segments = a ∷ x ∷ [] };
  visibility = Public;
  kind = kind.Plain;
  import = record { use_ = record { 0 = 0 }; idx = record { 0 = 1 } };
  due = due;
}

-- a push of the second that changes the scope makes the first due, and the second is no longer due
second_wakes_first : marked_after (needs false ∷ gives_y true ∷ []) 1 true ≡ needs true ∷ gives_y false ∷ []
second_wakes_first = refl

-- one that changes nothing makes none due
idle_wakes_none : marked_after (needs false ∷ gives_y true ∷ []) 1 false ≡ needs false ∷ gives_y false ∷ []
idle_wakes_none = refl

-- the name that the first pushes is a segment of the second's path
first_wakes_second : marked_after (needs true ∷ gives_y false ∷ []) 0 true ≡ needs false ∷ gives_y true ∷ []
first_wakes_second = refl

-- a change of the world under the name Y makes the first due, and the second not, which binds it
change_wakes_first : (w v : World) (g : Globs) → (changed_under (record { world = w; globs = g; pending = needs false ∷ gives_y false ∷ [] }) y v).pending ≡ needs true ∷ gives_y false ∷ []
change_wakes_first w v g = refl

-- one that no path reads makes none due
change_beside : (w v : World) (g : Globs) → (changed_beside (record { world = w; globs = g; pending = needs false ∷ gives_y true ∷ [] }) v).pending ≡ needs false ∷ gives_y true ∷ []
change_beside w v g = refl

-- the same import twice, and two imports of one use
twice : first_double (needs true ∷ gives_y true ∷ needs false ∷ []) ≡ Some 0
twice = refl

last_twice : first_double (needs true ∷ gives_y true ∷ gives_y false ∷ []) ≡ Some 1
last_twice = refl

-- an import of the list is not added
added_twice : (w : World) → add_fault w (needs true ∷ gives_y true ∷ []) (gives_y false) ≡ Some adding.Double
added_twice w = refl

once : first_double (needs true ∷ gives_y true ∷ []) ≡ None
once = refl

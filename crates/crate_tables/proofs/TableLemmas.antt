-- Tables of a crate hold what is the builder's, also when the builder grows and the tables do.
use Rattle.std.proofs.Common.{◌++◌, ◌∷◌, [], Option, Some, None}
use Rattle.std.specs.Prelude.{IfSome, IsTrue}
use Rattle.std.proofs.lemmas.List.Elements.{All-push, All-weaker}
use Rattle.crate_tables.proofs.GrownLemmas.{ids-more, ids-on}
use Rattle.crate_tables.specs.CrateTables.{IsLeafOf, IsNameOf, IsTableOf, Table, leaf_holds, left_out, module_name, with_id, with_name}
use Rattle.crate_tables.specs.declared.declared_name.DeclaredName.{DeclaredName}
use Rattle.dm_base.specs.PerNs.{type_alone}
use Rattle.dm_base.specs.declared.visibility.Visibility.{Visibility}
use Rattle.dm_maps.specs.Holding.{def_holds, res_holds, vis_holds}
use Rattle.dm_maps.specs.Pushes.{push_holds}
use Rattle.dm_maps.specs.declared.check.held.HeldId.TheVariants as held
use Rattle.dm_base.specs.Names.{Name}
use Rattle.dm_base.specs.declared.ids.Crate.{Crate}
use Rattle.dm_base.specs.declared.ids.ModuleId.{ModuleId}
use Rattle.dm_base.specs.declared.item_ids.ModuleDefId.{ModuleDefId}
use Rattle.dm_base.specs.declared.item_ids.ModuleDefId.TheVariants as def
use Rattle.dm_maps.specs.Added.{IsGrown}
use Rattle.dm_maps.specs.Known.{knows, KnowsAll}
use Rattle.dm_maps.specs.KnownLaws.{knows-append}
use Rattle.dm_maps.specs.World.{World}

-- a table of a builder is one of the builder that it grows to
pub table-on : (v w : World) (k : Crate) (t : Table) → IsGrown v w → IsTableOf v k t → IsTableOf w k t
table-on v w k t grown is = record {
  krate = grown.known (held.Crate k) is.krate;
  ids = ids-on v w t.ids grown is.ids;
  names = All-weaker (IsNameOf v) (IsNameOf w) (λ d k. record { known = grown.all (push_holds d.home d.items None) k.known }) t.names is.names;
  leaves = All-weaker (IsLeafOf v) (IsLeafOf w) (λ x known. grown.all (leaf_holds x) known) t.leaves is.leaves;
}

-- so is one with a module more that is left out
pub table-without : (w : World) (k : Crate) (t : Table) → IsTableOf w k t → IsTableOf w k (left_out t)
table-without w k t is = record { krate = is.krate; ids = ids-more w t.ids None is.ids tt; names = is.names; leaves = is.leaves }

-- and with a name more that is known
pub table-named : (w : World) (k : Crate) (t : Table) (d : DeclaredName) → IsTableOf w k t → IsNameOf w d → IsTableOf w k (with_name t d)
table-named w k t d is known = record { krate = is.krate; ids = is.ids; names = All-push (IsNameOf w) t.names d is.names known; leaves = is.leaves }

-- a type alone is known where its definition is, and what its visibility names
pub type-known : (w : World) (d : ModuleDefId) (v : Visibility) → KnowsAll w (def_holds d) → KnowsAll w (vis_holds v) → KnowsAll w (res_holds (type_alone d v None))
type-known w d v kd kv =
    knows-append w _ [] (knows-append w _ [] (knows-append w (def_holds d ++ vis_holds v) [] (knows-append w (def_holds d) (vis_holds v) kd kv) tt) tt) tt

-- and with a module more
pub table-child : (v w : World) (k : Crate) (t : Table) (p : ModuleId) (n : Name) (vis : Visibility) (id : Option ModuleId)
    → IsGrown v w → IsTrue (knows v (held.Module p)) → IfSome id (λ m. IsTrue (knows w (held.Module m)))
    → IsTableOf v k t → KnowsAll v (vis_holds vis) → IsTableOf w k (with_id t p n vis id)
table-child v w k t p n vis None grown kp km is kv = table-without w k t (table-on v w k t grown is)
table-child v w k t p n vis (Some m) grown kp km is kv =
    let on = table-on v w k t grown is in
    record {
      krate = on.krate;
      ids = ids-more w t.ids (Some m) on.ids km;
      names = All-push (IsNameOf w) t.names (module_name p n vis m) on.names
          (record { known = (grown.known (held.Module p) kp, type-known w (def.ModuleId m) vis (km, tt) (grown.all (vis_holds vis) kv)) });
      leaves = on.leaves;
    }

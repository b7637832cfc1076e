-- Which layers a first segment is looked up in.
use Rattle.std.proofs.Common.{◌≡◌, Bool, cond, List, ◌∷◌, ap, sym, ◌∙◌, map, nat_eq, length}
use Rattle.dm_base.specs.declared.mod_path.PathKind.{PathKind}
use Rattle.dm_base.specs.declared.mod_path.PathKind.TheVariants as kind
use Rattle.dm_base.specs.declared.per_ns.PerNs.{PerNs}
use Rattle.dm_base.specs.declared.ids.ModuleId.{ModuleId}
use Rattle.dm_base.specs.PerNs.{overlay}
use Rattle.dm_base.specs.Tree.{crate_of}
use Rattle.dm_base.specs.Names.{Name}
use Rattle.dm_def_map.specs.Maps.{LocalMap}
use Rattle.dm_maps.specs.Readings.{Setting, Reading, setting_of, read}
use Rattle.dm_maps.specs.World.{World}
use Rattle.hir_def_map.specs.Answers.{nothing_no}
use Rattle.hir_def_map.proofs.WalkLemmas.{empty-map}
use Rattle.hir_def_map.specs.declared.path_resolution.question.Ask.{Ask}
use Rattle.hir_def_map.specs.declared.path_resolution.result.ResolvePathResult.{ResolvePathResult}
use Rattle.hir_def_map.specs.Paths.{from_root, from_super, single, by_2015_rule, layers, missed, by_first_segment, stop, enter, seen_from}
use Rattle.hir_def_map.specs.declared.path_resolution.place.Place.{Place}
use Rattle.hir_def_map.specs.declared.path_resolution.place.Place.TheVariants.{In}

-- the answer by a first segment, along names
pub first-names : (w : World) (L : LocalMap) (q : Ask) (p : Place) (n : Name) (rest segments : List Name) (x : PerNs) (is_last is_missed : Bool)
    → segments ≡ n ∷ rest → is_last ≡ nat_eq (length rest) 0 → x ≡ overlay (layers (setting_of w) q p (read w L n) is_last) → is_missed ≡ missed q (by_2015_rule (setting_of w) q p) x
    → by_first_segment (setting_of w) q p (map (read w L) segments) ≡ cond is_missed nothing_no (stop (enter (setting_of w).tree) (setting_of w).tree (seen_from p) x 1 (map (read w L) rest))
first-names w L q p n rest segments x is_last is_missed e last_is x_is missed_is =
    let g = setting_of w in
    let S = map (read w L) rest in
    let found = λ (b : Bool). overlay (layers g q p (read w L n) b) in
    let ended = λ (m : Bool) (y : PerNs). cond m nothing_no (stop (enter g.tree) g.tree (seen_from p) y 1 S) in
    ap (λ ns. by_first_segment g q p (map (read w L) ns)) e
    ∙ ap (λ y. ended (missed q (by_2015_rule g q p) y) y) (ap found (empty-map (read w L) rest ∙ sym last_is) ∙ sym x_is)
    ∙ ap (λ m. ended m x) (sym missed_is)

-- what a module answers alone, by the kind of path
abbrev pub single_by : Setting → Ask → List Reading → ModuleId → PathKind → ResolvePathResult
single_by w q S m k = elim k [
  | kind.Crate ↦ from_root w m (crate_of w.tree m) S
  | kind.DollarCrate c ↦ from_root w m c S
  | kind.Super n ↦ from_super w.tree m n S
  | _ ↦ by_first_segment w q (In m) S
]

pub single-kind : (w : Setting) (q : Ask) (S : List Reading) (p : Place) (m : ModuleId) (k : PathKind) → p ≡ In m → q.kind ≡ k → single w q S p ≡ single_by w q S m k
single-kind w q S p m k at is = ap (single w q S) at ∙ ap (single_by w q S m) is

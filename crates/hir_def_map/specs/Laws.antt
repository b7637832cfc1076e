-- What each path call promises of its answer.
use Rattle.std.specs.Prelude.{◌≡◌, ◌≤◌, ◌<◌, ℕ, List, Option, length}
use Rattle.std.specs.Option.{ForSome}
use Rattle.dm_base.specs.Names.{Name}
use Rattle.dm_base.specs.declared.per_ns.PerNs.{PerNs}
use Rattle.dm_maps.specs.Holding.{res_holds}
use Rattle.dm_def_map.specs.Maps.{LocalMap}
use Rattle.dm_maps.specs.Cut.{cut, cut_local}
use Rattle.dm_maps.specs.Known.{KnowsAll}
use Rattle.dm_maps.specs.World.{World}
use Rattle.hir_def_map.specs.declared.path_resolution.question.Ask.{Ask}
use Rattle.hir_def_map.specs.declared.path_resolution.result.ReachedFixedPoint.TheVariants.{No}
use Rattle.hir_def_map.specs.declared.path_resolution.result.ResolvePathResult.{ResolvePathResult}
use Rattle.hir_def_map.specs.Answers.{nothing_no}

-- the segment of a path of n that is left, if one is: one of the path's, and never the first
abbrev pub IsLeft : ℕ → Option ℕ → Type 0
IsLeft n left = ForSome left (λ i. (1 ≤ i) × (i < n))

-- An answer to a path of n segments: its status is no only where it is nothing, with no segment left and no flag, and the segment that
-- it leaves is one of the path's, and never the first.
pub record IsAnswer (n : ℕ) (a : ResolvePathResult) : Type 0 where
  pub unsettled : a.reached_fixedpoint ≡ No → a ≡ nothing_no
  pub index : IsLeft n a.segment_index

-- What paths mean, by a world and a local map: answer, answer_alone or prelude_answer (specs/Paths).
abbrev pub Meaning : Type 0
Meaning = World → LocalMap → Ask → List Name → ResolvePathResult

-- The answer a to a path is exactly what the path means. Each id that it holds is the world's. It is local: of world and
-- local map only what they say of the names in the path is read, so where two worlds agree on that, they answer alike.
pub record Resolves (means : Meaning) (w : World) (L : LocalMap) (q : Ask) (S : List Name) (a : ResolvePathResult) : Type 0 where
  pub value : a ≡ means w L q S
  pub lawful : IsAnswer (length S) a
  pub known : KnowsAll w (res_holds a.resolved_def)
  pub local : a ≡ means (cut w S) (cut_local L S) q S

-- The same of a call that tells parts of an answer: its definitions x, and the segment that is left.
pub record Finds (means : Meaning) (w : World) (L : LocalMap) (q : Ask) (S : List Name) (x : PerNs) (index : Option ℕ) : Type 0 where
  pub found : x ≡ (means w L q S).resolved_def
  pub left : index ≡ (means w L q S).segment_index
  pub lawful : IsLeft (length S) index
  pub known : KnowsAll w (res_holds x)
  pub local : means w L q S ≡ means (cut w S) (cut_local L S) q S

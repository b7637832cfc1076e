-- What the path calls promise follows from what they answer.
use Rattle.std.proofs.Common.{◌≡◌, ◌∙◌, List, length, subst, sym}
use Rattle.dm_base.specs.Names.{Name}
use Rattle.dm_base.specs.declared.ids.MapId.{MapId}
use Rattle.dm_maps.specs.Holding.{res_holds}
use Rattle.dm_def_map.specs.Maps.{LocalMap}
use Rattle.dm_maps.specs.Cut.{cut, cut_local}
use Rattle.dm_maps.specs.Known.{KnowsAll}
use Rattle.dm_maps.specs.Readings.{setting_of}
use Rattle.dm_maps.specs.World.{World}
use Rattle.hir_def_map.specs.Laws.{IsAnswer, Meaning, Resolves}
use Rattle.hir_def_map.specs.Paths.{answer, answer_alone, prelude_answer, places}
use Rattle.hir_def_map.specs.declared.path_resolution.place.Place.TheVariants.{In, Preludes}
use Rattle.hir_def_map.specs.declared.path_resolution.question.Ask.{Ask}
use Rattle.hir_def_map.specs.declared.path_resolution.result.ResolvePathResult.{ResolvePathResult}
use Rattle.hir_def_map.proofs.AnswerLaws.{merged-names, single-names}
use Rattle.hir_def_map.proofs.CutLemmas.{answer-cut, alone-cut, preludes-cut}

-- from the two laws of a meaning
by_laws : (means : Meaning) (w : World) (L : LocalMap) (q : Ask) (S : List Name) → IsAnswer (length S) (means w L q S) → means (cut w S) (cut_local L S) q S ≡ means w L q S
    → (a : ResolvePathResult) → a ≡ means w L q S → KnowsAll w (res_holds a.resolved_def) → Resolves means w L q S a
by_laws means w L q S lawful local a value known = record { value = value; lawful = subst (IsAnswer (length S)) (sym value) lawful; known = known; local = value ∙ sym local }

module _ (w : World) (L : LocalMap) (q : Ask) (S : List Name) (a : ResolvePathResult) where
  pub answer_resolves : a ≡ answer w L q S → KnowsAll w (res_holds a.resolved_def) → Resolves answer w L q S a
  unfolding answer
  answer_resolves = by_laws answer w L q S (merged-names w L q S (places (setting_of w) q.origin)) (answer-cut w L q S) a

  pub alone_resolves : a ≡ answer_alone w L q S → KnowsAll w (res_holds a.resolved_def) → Resolves answer_alone w L q S a
  unfolding answer_alone
  alone_resolves = by_laws answer_alone w L q S (single-names w L q S (In q.origin)) (alone-cut w L q S) a

  pub preludes_resolve : (id : MapId) → a ≡ prelude_answer w L id q S → KnowsAll w (res_holds a.resolved_def) → Resolves (λ v K. prelude_answer v K id) w L q S a
  unfolding prelude_answer
  preludes_resolve id = by_laws (λ v K. prelude_answer v K id) w L q S (single-names w L q S (Preludes id q.origin)) (preludes-cut w L id q S) a

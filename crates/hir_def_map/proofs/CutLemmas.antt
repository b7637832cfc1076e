-- Path resolution reads of a world only what it says of the names in the path.
use Rattle.std.proofs.Common.{◌≡◌, List, [], ◌∷◌, refl, sym, ◌∙◌, map}
use Rattle.std.specs.List.{All, Contains}
use Rattle.std.proofs.lemmas.List.Elements.{All-contains_itself, All-head, All-tail}
use Rattle.std.proofs.lemmas.Map.Views.{list_any-from_Contains}
use Rattle.std.proofs.lemmas.Cmp.{nat_list_eq_equiv}
use Rattle.dm_base.specs.declared.ids.MapId.{MapId}
use Rattle.dm_base.specs.Names.{Name}
use Rattle.dm_def_map.specs.Maps.{LocalMap}
use Rattle.dm_maps.specs.Cut.{cut, cut_local}
use Rattle.dm_maps.specs.CutLaws.{setting-cut, read-cut}
use Rattle.dm_maps.specs.Readings.{read}
use Rattle.dm_maps.specs.World.{World}
use Rattle.hir_def_map.specs.declared.path_resolution.place.Place.TheVariants.{In, Preludes}
use Rattle.hir_def_map.specs.declared.path_resolution.question.Ask.{Ask}
use Rattle.hir_def_map.specs.Paths.{answer, answer_of, answer_alone, prelude_answer, single}

reads-cut : (w : World) (L : LocalMap) (N S : List Name) → All (Contains N) S → map (read (cut w N) (cut_local L N)) S ≡ map (read w L) S
reads-cut w L N [] h = refl
reads-cut w L N (n ∷ S) h = λ i. read-cut w L N n (list_any-from_Contains nat_list_eq_equiv n N (All-head (Contains N) n S h)) i ∷ reads-cut w L N S (All-tail (Contains N) n S h) i

-- an answer is that of the cut by the path's segments
pub answer-cut : (w : World) (L : LocalMap) (q : Ask) (S : List Name) → answer (cut w S) (cut_local L S) q S ≡ answer w L q S
unfolding answer
answer-cut w L q S = λ i. answer_of (setting-cut w S i) q (reads-cut w L S S (All-contains_itself S) i)

-- so is what the origin answers alone
pub alone-cut : (w : World) (L : LocalMap) (q : Ask) (S : List Name) → answer_alone (cut w S) (cut_local L S) q S ≡ answer_alone w L q S
unfolding answer_alone
alone-cut w L q S = λ i. single (setting-cut w S i) q (reads-cut w L S S (All-contains_itself S) i) (In q.origin)

-- and what the preludes of a map answer
pub preludes-cut : (w : World) (L : LocalMap) (id : MapId) (q : Ask) (S : List Name) → prelude_answer (cut w S) (cut_local L S) id q S ≡ prelude_answer w L id q S
unfolding prelude_answer
preludes-cut w L id q S = λ i. single (setting-cut w S i) q (reads-cut w L S S (All-contains_itself S) i) (Preludes id q.origin)

-- where two worlds agree on the names in the path, so do their answers
pub answers-alike : (w v : World) (L K : LocalMap) (q : Ask) (S : List Name) → cut v S ≡ cut w S → cut_local K S ≡ cut_local L S → answer v K q S ≡ answer w L q S
answers-alike w v L K q S worlds locals = sym (answer-cut v K q S) ∙ (λ i. answer (worlds i) (locals i) q S) ∙ answer-cut w L q S

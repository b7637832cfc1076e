-- Diagnostics, added to a map one after another.
use Rattle.std.proofs.Common.{◌≡◌, ◌∙◌, ◌++◌, List, [], ◌∷◌, ap, refl, sym}
use Rattle.std.proofs.lemmas.List.{append_assoc}
use Rattle.def_diagnostics.specs.MapDiagnostics.{with_all, with_one}
use Rattle.dm_base.specs.declared.ids.MapId.{MapId}
use Rattle.dm_maps.specs.World.{World}
use Rattle.dm_scope.specs.declared.diagnostics.DefDiagnostic.{DefDiagnostic}

last_behind : (w : World) (id : MapId) (ds : List DefDiagnostic) (d : DefDiagnostic)
    → with_one (with_all w id ds) id d ≡ with_all w id (ds ++ d ∷ [])
last_behind w id [] d = refl
last_behind w id (x ∷ ds) d = last_behind (with_one w id x) id ds d

-- the last is added behind the others
pub one_behind : (u v w : World) (id : MapId) (ds : List DefDiagnostic) (d : DefDiagnostic)
    → v ≡ with_all u id ds → w ≡ with_one v id d → w ≡ with_all u id (ds ++ d ∷ [])
one_behind u v w id ds d h e = e ∙ ap (λ (x : World). with_one x id d) h ∙ last_behind u id ds d

-- what is taken from some goes to the end of others
pub one_taken : {X : Type 0} (front rest behind all : List X) (x : X)
    → front ++ rest ≡ all → rest ≡ x ∷ behind → (front ++ x ∷ []) ++ behind ≡ all
one_taken front rest behind all x h e = append_assoc front (x ∷ []) behind ∙ ap (λ r. front ++ r) (sym e) ∙ h

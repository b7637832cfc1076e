-- Semantics of the script language: the state of a run, and what a line does to it.
use Rattle.std.specs.Prelude.{◌≡◌, ◌⊎◌, ℕ, List, [], ◌++◌, true, false, IsTrue, IsSome, Option, Some, None, Result, Ok, Err, MatchResult, MatchOption, slice_get, codes}
use Rattle.std.specs.Borrow.{Bor}
use Rattle.dm_base.specs.Names.{Name}
use Rattle.dm_base.specs.declared.ids.ModuleId.{ModuleId}
use Rattle.dm_base.specs.declared.imports.ImportOrExternCrate.{ImportOrExternCrate}
use Rattle.dm_base.specs.declared.per_ns.PerNs.{PerNs}
use Rattle.dm_scope.specs.Flags.{Globs, no_globs}
use Rattle.dm_scope.specs.Push.{scope_after, globs_after, push_answer}
use Rattle.dm_scope.specs.Scope.{Scope}
use Rattle.dm_maps.specs.declared.check.fault.WorldFault.{WorldFault}
use Rattle.dm_maps.specs.declared.check.held.HeldId.TheVariants as held
use Rattle.dm_maps.specs.Build.{no_world}
use Rattle.dm_maps.specs.First.{holders, IsChecked, IsFirstFault}
use Rattle.dm_maps.specs.Known.{knows, KnowsAll}
use Rattle.dm_maps.specs.Holding.{local_holds, path_holds}
use Rattle.dm_def_map.specs.Maps.{Map, LocalMap, module_at}
use Rattle.dm_maps.specs.Pushes.{push_holds}
use Rattle.dm_maps.specs.PushRes.{with_push}
use Rattle.dm_maps.specs.World.{World, map_of, numbered_map, scope_if_known, scope_of, with_scope}
use Rattle.hir_def_map.specs.Paths.{asked, answer, answer_alone}
use Rattle.defmap_script.specs.declared.engine.Reply.{Reply}
use Rattle.defmap_script.specs.declared.engine.Reply.TheVariants.{Nothing, Pushed, Answered, Ended, Sees, Compared, Dumped}
use Rattle.defmap_script.specs.declared.engine.Stage.{Stage}
use Rattle.defmap_script.specs.declared.engine.Stage.TheVariants.{Building, Checked}
use Rattle.defmap_script.specs.declared.fault.Fault.{Fault}
use Rattle.defmap_script.specs.declared.fault.Fault.TheVariants as faults
use Rattle.defmap_script.specs.declared.lines.Pushing.{Pushing}
use Rattle.defmap_script.specs.declared.lines.Reach.TheVariants.{Outwards, Alone}
use Rattle.defmap_script.specs.Building.{added_to}
use Rattle.defmap_script.specs.Dumping.{dumped}
use Rattle.defmap_script.specs.Faults.{IsRefused}
use Rattle.defmap_script.specs.Following.{IsFollowed}
use Rattle.defmap_script.specs.Lines.{Asked, Asking, Said, said, Adds, Pushes, Checks, Reopens, Asks, Follows, Looks, Dumps, Silence, Sense, Nonsense}
use Rattle.defmap_script.specs.Seeing.{sight}
use Rattle.defmap_script.specs.Texts.{answer_text, items_text, visibility_text}

-- the state: the tables of a builder or of a checked world, and which names glob imports bound
pub record Tool : Type 0 where
  pub stage : Stage
  pub globs : Globs

abbrev pub fresh : Tool
fresh = record { stage = Building no_world; globs = no_globs }

abbrev pub building : World → Globs → Tool
building w g = record { stage = Building w; globs = g }

-- what a line prints
abbrev pub reply_text : Reply → List ℕ
reply_text Nothing = []
reply_text (Pushed true) = codes "true\n"
reply_text (Pushed false) = codes "false\n"
reply_text (Answered a) = answer_text a ++ codes "\n"
reply_text (Ended x) = items_text x ++ codes "\n"
reply_text (Sees true) = codes "true\n"
reply_text (Sees false) = codes "false\n"
reply_text (Compared None) = codes "none\n"
reply_text (Compared (Some v)) = visibility_text v ++ codes "\n"
reply_text (Dumped text) = text

-- ---- With the builder

-- what a line that adds leaves is held, and nothing is printed
abbrev pub added_on : Globs → Result World Fault → Result (Tool × Reply) Fault
added_on g (Ok v) = Ok (building v g, Nothing)
added_on g (Err f) = Err f

-- a push goes into the scope of a module that there is
abbrev pub pushed : World → Globs → ModuleId → Name → PerNs → Option ImportOrExternCrate → Option Scope → Result (Tool × Reply) Fault
pushed w g m n x i None = Err faults.Unknown
pushed w g m n x i (Some s) = Ok (building (with_scope w m (scope_after s g m n x i)) (globs_after s g m n x i), Pushed (push_answer s g m n x i))

-- a world that is checked is held from here on, unchanged; else the first fault
abbrev pub IsCheck : World → Globs → Result (Tool × Reply) Fault → Type 0
IsCheck w g r =
    (IsChecked w × (r ≡ Ok (record { stage = Checked w; globs = g }, Nothing)))
    ⊎ ((f : WorldFault) × IsFirstFault w (holders w) f × (r ≡ Err (faults.World f)))

-- ---- With the world

-- a push goes into the scope of its module
abbrev pub pushed_within : World → Globs → ModuleId → Name → PerNs → Option ImportOrExternCrate → Tool × Reply
pushed_within w g m n x i = (record { stage = Checked (with_push w g m n x i); globs = globs_after (scope_of w m) g m n x i }, Pushed (push_answer (scope_of w m) g m n x i))

-- where all that it holds is the world's
abbrev pub IsWorldPush : World → Globs → ModuleId → Name → PerNs → Option ImportOrExternCrate → Result (Tool × Reply) Fault → Type 0
IsWorldPush w g m n x i r =
    (KnowsAll w (push_holds m x i) × (r ≡ Ok (pushed_within w g m n x i)))
    ⊎ ((¬ (KnowsAll w (push_holds m x i))) × (r ≡ Err faults.Unknown))

-- the module, the crate of its map and that of the path are the world's
pub record IsKnownQuestion (w : World) (q : Asking) (map : Map) (local : LocalMap) : Type 0 where
  pub lies : map_of w q.from ≡ Some map
  pub crate : IsTrue (knows w (held.Crate map.id.krate))
  pub prelude : slice_get w.local_maps map.id.krate.0 ≡ Some local
  pub path : KnowsAll w (path_holds q.path.kind)

-- a path's answer, by the places that are asked
abbrev pub answer_of : World → Asking → LocalMap → Reply
answer_of w q local =
    let question = asked q.from q.mode q.shadow q.expected q.path.kind in
    elim q.reach [ Outwards ↦ Answered (answer w local question q.path.segments) | Alone ↦ Answered (answer_alone w local question q.path.segments) ]

-- a question that is not known is refused for it
abbrev pub IsAnswered : World → Asking → Result Reply Fault → Type 0
IsAnswered w q r =
    ((r ≡ Err faults.Unknown) × ((map : Map) (local : LocalMap) → ¬ (IsKnownQuestion w q map local)))
    ⊎ ((map : Map) × (local : LocalMap) × IsKnownQuestion w q map local × (r ≡ Ok (answer_of w q local)))

abbrev pub held_on : Stage → Globs → Result Reply Fault → Result (Tool × Reply) Fault
held_on s g (Ok reply) = Ok (record { stage = s; globs = g }, reply)
held_on s g (Err f) = Err f

-- ---- Steps

-- what a line that asks for something makes of the tool, and what it prints; or its fault
abbrev pub IsBuildStep : World → Globs → Asked → Result (Tool × Reply) Fault → Type 0
IsBuildStep w g (Adds a) r = r ≡ added_on g (added_to w a)
IsBuildStep w g (Pushes m n x i) r = r ≡ pushed w g m n x i (scope_if_known w m)
IsBuildStep w g Checks r = IsCheck w g r
IsBuildStep w g Reopens r = r ≡ Err faults.NeedsWorld
IsBuildStep w g (Asks q) r = r ≡ Err faults.NeedsWorld
IsBuildStep w g (Follows m i) r = r ≡ Err faults.NeedsWorld
IsBuildStep w g (Looks s) r = r ≡ Err faults.NeedsWorld
IsBuildStep w g (Dumps d) r = r ≡ Err faults.NeedsWorld

abbrev pub IsWorldStep : World → Globs → Asked → Result (Tool × Reply) Fault → Type 0
IsWorldStep w g (Asks q) r = (answered : Result Reply Fault) × IsAnswered w q answered × (r ≡ held_on (Checked w) g answered)
IsWorldStep w g (Follows m i) r = (followed : Result Reply Fault) × IsFollowed w m i followed × (r ≡ held_on (Checked w) g followed)
IsWorldStep w g (Pushes m n x i) r = IsWorldPush w g m n x i r
IsWorldStep w g Reopens r = r ≡ Ok (building w g, Nothing)
IsWorldStep w g (Looks s) r = r ≡ held_on (Checked w) g (sight w s)
IsWorldStep w g (Dumps d) r = r ≡ held_on (Checked w) g (dumped w d)
IsWorldStep w g _ r = r ≡ Err faults.NeedsBuilder

abbrev pub IsStepAt : Stage → Globs → Asked → Result (Tool × Reply) Fault → Type 0
IsStepAt (Building w) g a r = IsBuildStep w g a r
IsStepAt (Checked w) g a r = IsWorldStep w g a r

abbrev pub IsStep : Tool → Asked → Result (Tool × Reply) Fault → Type 0
IsStep t a r = IsStepAt t.stage t.globs a r

-- a call that steps from t to u, or is refused
abbrev pub Steps : Tool → Asked → Result Reply Fault → Tool → Type 0
Steps t a r u = MatchResult r (λ reply. IsStep t a (Ok (u, reply))) (IsRefused (IsStep t a))

-- ---- Lines

abbrev pub printed_step : Result (Tool × Reply) Fault → Result (Tool × List ℕ) Fault
printed_step (Ok s) = Ok (s.0, reply_text s.1)
printed_step (Err f) = Err f

abbrev pub IsSaidStep : Tool → Said → Result (Tool × List ℕ) Fault → Type 0
IsSaidStep t Silence r = r ≡ Ok (t, [])
IsSaidStep t Nonsense r = r ≡ Err faults.BadLine
IsSaidStep t (Sense a) r = (s : Result (Tool × Reply) Fault) × IsStep t a s × (r ≡ printed_step s)

-- what a line makes of the tool, and what it prints; or its fault
abbrev pub IsLineStep : Tool → List ℕ → Result (Tool × List ℕ) Fault → Type 0
IsLineStep t line r = IsSaidStep t (said line) r

-- a line makes the tool t that of its step and appends what that prints; or it is refused, and appends nothing
abbrev pub LineSteps : Tool → List ℕ → List ℕ → Result (Unit {0}) Fault → Tool → List ℕ → Type 0
LineSteps t line out r u new = MatchResult r
    (λ _. (printed : List ℕ) × IsLineStep t line (Ok (u, printed)) × (new ≡ out ++ printed))
    (λ f. IsRefused (IsLineStep t line) f × (new ≡ out))

-- ---- Calls with the builder

-- a push of x under the name n of m by i, from the scope that m has
abbrev pub PushesBy : World → Globs → ModuleId → Name → PerNs → Option ImportOrExternCrate → Result Reply Fault → World → Globs → Type 0
PushesBy w g m n x i r v h = MatchResult r
    (λ reply. pushed w g m n x i (scope_if_known w m) ≡ Ok (building v h, reply))
    (IsRefused (λ s. pushed w g m n x i (scope_if_known w m) ≡ s))

abbrev pub PushesInto : World → Globs → Pushing → Result Reply Fault → World → Globs → Type 0
PushesInto w g p r v h = PushesBy w g p.module p.name.now p.res p.import r v h

-- ---- Calls with the world

-- a push of x under the name n of m by i
abbrev pub PushesWithinBy : World → Globs → ModuleId → Name → PerNs → Option ImportOrExternCrate → Result Reply Fault → World → Globs → Type 0
PushesWithinBy w g m n x i r v h = MatchResult r
    (λ reply. IsWorldPush w g m n x i (Ok (record { stage = Checked v; globs = h }, reply)))
    (IsRefused (IsWorldPush w g m n x i))

abbrev pub PushesWithin : World → Globs → Pushing → Result Reply Fault → World → Globs → Type 0
PushesWithin w g p r v h = PushesWithinBy w g p.module p.name.now p.res p.import r v h

-- a look-up of what a question is about: none exactly where the question is not known
abbrev pub Finds : World → Asking → Option (Bor Map × Bor LocalMap) → Type 0
Finds w q r = MatchOption r
    ((map : Map) (local : LocalMap) → ¬ (IsKnownQuestion w q map local))
    (λ p. IsKnownQuestion w q p.0.now p.1.now × (numbered_map w p.0.now.id ≡ Some p.0.now) × IsSome (module_at p.0.now.modules q.from) × KnowsAll w (local_holds p.1.now))

-- a call that answers a question, or is refused
abbrev pub Answers : World → Asking → Result Reply Fault → Type 0
Answers w q r = MatchResult r (λ reply. IsAnswered w q (Ok reply)) (IsRefused (IsAnswered w q))

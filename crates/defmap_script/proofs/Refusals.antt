-- A line that fails with out of memory would be answered with more memory: from calls to steps, and from steps to
-- lines.
use Rattle.std.proofs.Common.{rules, ◌≡◌, ℕ, List, Option, Result, Ok, Err, refl, sym, ap, subst, inl, inr}
use Rattle.std.specs.Result.{IsErr, IsErrAnd}
use Rattle.dm_base.specs.Names.{Name}
use Rattle.dm_base.specs.declared.imports.ImportOrExternCrate.{ImportOrExternCrate}
use Rattle.dm_base.specs.declared.per_ns.PerNs.{PerNs}
use Rattle.dm_maps.specs.Pushes.{push_holds}
use Rattle.dm_base.specs.declared.ids.ModuleId.{ModuleId}
use Rattle.dm_maps.specs.Known.{KnowsAll}
use Rattle.dm_maps.specs.World.{World}
use Rattle.dm_def_map.specs.Maps.{Map, LocalMap}
use Rattle.dm_scope.specs.Flags.{Globs}
use Rattle.defmap_script.specs.declared.engine.Reply.{Reply}
use Rattle.defmap_script.specs.declared.engine.Reply.TheVariants.{Nothing}
use Rattle.defmap_script.specs.declared.engine.Stage.TheVariants.{Checked}
use Rattle.defmap_script.specs.declared.fault.Fault.{Fault}
use Rattle.defmap_script.specs.declared.fault.Fault.TheVariants.{OutOfMemory}
use Rattle.defmap_script.specs.declared.dump_lines.Dumping.{Dumping}
use Rattle.defmap_script.specs.BuildLines.{Added}
use Rattle.defmap_script.specs.Building.{added_to}
use Rattle.defmap_script.specs.Dumping.{dumped, Dumps as DumpsOf}
use Rattle.defmap_script.specs.Engine.{Tool, Answers, IsKnownQuestion, IsLineStep, IsSaidStep, IsStep, PushesWithinBy, Steps, added_on, answer_of, building, held_on, pushed_within, reply_text}
use Rattle.defmap_script.specs.Faults.{IsRefused}
use Rattle.defmap_script.specs.Lines.{Asked, Asking, Adds, Asks, Dumps, Sense, said}

refused-addition : (w : World) (g : Globs) (a : Added) (f : Fault) → IsRefused (λ s. added_to w a ≡ s) f → IsRefused (IsStep (building w g) (Adds a)) f
refused-addition w g a f (inl e) = inl (sym (ap (added_on g) e))
refused-addition w g a f (inr (want, v, e)) = inr (want, (building v g, Nothing), sym (ap (added_on g) e))

pub refused-add : (w v : World) (g : Globs) (a : Added) (f : Fault) (r : Result Reply Fault) → IsRefused (λ s. added_to w a ≡ s) f
    → IsErr r → IsErrAnd r (λ e. e ≡ f) → Steps (building w g) (Adds a) r (building v g)
refused-add w v g a f (Ok reply) why is same = Prim.search rules
refused-add w v g a f (Err e) why is same = subst (IsRefused (IsStep (building w g) (Adds a))) (sym same) (refused-addition w g a f why)

pub refused-push : (w : World) (g : Globs) (m : ModuleId) (n : Name) (x : PerNs) (i : Option ImportOrExternCrate) (r : Result Reply Fault) → KnowsAll w (push_holds m x i)
    → IsErr r → IsErrAnd r (λ f. f ≡ OutOfMemory) → PushesWithinBy w g m n x i r w g
refused-push w g m n x i (Ok reply) known is want = Prim.search rules
refused-push w g m n x i (Err f) known is want = inr (want, pushed_within w g m n x i, inl (known, refl))

pub refused-answer : (w : World) (q : Asking) (map : Map) (local : LocalMap) (r : Result Reply Fault) → IsKnownQuestion w q map local
    → IsErr r → IsErrAnd r (λ f. f ≡ OutOfMemory) → Answers w q r
refused-answer w q map local (Ok reply) known is want = Prim.search rules
refused-answer w q map local (Err f) known is want = inr (want, answer_of w q local, inr (map, local, known, refl))

pub answered-steps : (w : World) (g : Globs) (q : Asking) (r : Result Reply Fault) → Answers w q r
    → Steps (record { stage = Checked w; globs = g }) (Asks q) r (record { stage = Checked w; globs = g })
answered-steps w g q (Ok reply) e = (Ok reply, e, refl)
answered-steps w g q (Err f) (inl e) = inl (Err f, e, refl)
answered-steps w g q (Err f) (inr (want, reply, e)) = inr (want, (record { stage = Checked w; globs = g }, reply), (Ok reply, e, refl))

pub refused-dump : (w : World) (d : Dumping) (reply : Reply) (r : Result Reply Fault) → dumped w d ≡ Ok reply → IsErr r → IsErrAnd r (λ f. f ≡ OutOfMemory) → DumpsOf w d r
refused-dump w d reply (Ok made) e is want = Prim.search rules
refused-dump w d reply (Err f) e is want = inr (want, reply, e)

pub dumped-steps : (w : World) (g : Globs) (d : Dumping) (r : Result Reply Fault) → DumpsOf w d r
    → Steps (record { stage = Checked w; globs = g }) (Dumps d) r (record { stage = Checked w; globs = g })
dumped-steps w g d (Ok reply) e = sym (ap (held_on (Checked w) g) e)
dumped-steps w g d (Err f) (inl e) = inl (sym (ap (held_on (Checked w) g) e))
dumped-steps w g d (Err f) (inr (want, reply, e)) = inr (want, (record { stage = Checked w; globs = g }, reply), sym (ap (held_on (Checked w) g) e))

refused-sense : (t : Tool) (a : Asked) (f : Fault) → IsRefused (IsStep t a) f → IsRefused (IsSaidStep t (Sense a)) f
refused-sense t a f (inl e) = inl (Err f, e, refl)
refused-sense t a f (inr (want, s, e)) = inr (want, (s.0, reply_text s.1), (Ok s, e, refl))

pub refused-line : (t : Tool) (line : List ℕ) (a : Asked) (f : Fault) → said line ≡ Sense a → IsRefused (IsStep t a) f → IsRefused (IsLineStep t line) f
refused-line t line a f is e = subst (λ s. IsRefused (IsSaidStep t s) f) (sym is) (refused-sense t a f e)

-- a step that was made, and whose text cannot be allocated
pub unprinted-line : (t : Tool) (line : List ℕ) (a : Asked) (s : Tool × Reply) → said line ≡ Sense a → IsStep t a (Ok s) → IsRefused (IsLineStep t line) OutOfMemory
unprinted-line t line a s is e = refused-line t line a OutOfMemory is (inr (refl, s, e))

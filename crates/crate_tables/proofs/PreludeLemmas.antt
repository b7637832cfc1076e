-- Attributes and preludes that are set in a builder.
use Rattle.std.proofs.Common.{◌≡◌, ◌∙◌, List, [], ◌∷◌, Option, None, Bool, false, not, ap, refl, subst, sym, true≢false}
use Rattle.std.specs.Option.{option_or}
use Rattle.std.specs.Prelude.{IfErr, IsOk, IsTrue, OnErr, OnOk, Result, Ok, Err, true}
use Rattle.crate_tables.proofs.GrownLemmas.{grown-further, grown-same}
use Rattle.dm_maps.specs.declared.check.held.HeldId.TheVariants as held
use Rattle.dm_def_map.specs.CrateData.{CrateData, with_setting}
use Rattle.dm_def_map.specs.MapChanges.{changed}
use Rattle.dm_def_map.specs.Maps.{Map}
use Rattle.dm_def_map.specs.declared.crate_data.crate_setting.CrateSetting.{CrateSetting}
use Rattle.dm_def_map.specs.declared.map_change.MapChange.TheVariants.{Prelude}
use Rattle.dm_base.specs.declared.ids.Crate.{Crate}
use Rattle.dm_base.specs.declared.ids.MapId.{MapId}
use Rattle.dm_base.specs.declared.ids.ModuleId.{ModuleId}
use Rattle.dm_base.specs.declared.ids.UseId.{UseId}
use Rattle.dm_maps.specs.Added.{IsGrown}
use Rattle.dm_maps.specs.BuildCrateData.{data_of, settings_fault, sharing, with_crate_setting, with_crate_settings}
use Rattle.crate_tables.specs.StandardPreludes.{own_map}
use Rattle.dm_maps.specs.BuildMaps.{AnswersFree, crate_fault, lacks_map, map_fault, with_map, with_prelude}
use Rattle.dm_maps.specs.Faults.{Answers, first_fault, none_found}
use Rattle.dm_maps.specs.Known.{knows}
use Rattle.dm_maps.specs.World.{World}
use Rattle.dm_maps.specs.declared.build_fault.BuildFault.{BuildFault}
use Rattle.dm_maps.specs.declared.build_fault.BuildFault.TheVariants.{OutOfMemory}

module _ (keeps : (w : World) (k : Crate) (d : CrateData) → IsGrown w (sharing w k d)) where
  -- settings of a crate leave what is known, and scopes
  grown-settings : (w : World) (k : Crate) (settings : List CrateSetting) → IsGrown w (with_crate_settings w k settings)
  grown-settings w k [] = grown-same w
  grown-settings w k (s ∷ settings) =
      grown-further w (with_crate_setting w k s) (with_crate_settings (with_crate_setting w k s) k settings) (keeps w k (with_setting (data_of w k) s)) (grown-settings (with_crate_setting w k s) k settings)

  known-crate : (w : World) (k : Crate) → IsTrue (knows w (held.Crate k)) → crate_fault w k ≡ None
  known-crate w k known = ap (λ b. first_fault (record none_found { no_crate = not b })) known

  no-fault : (w : World) (k : Crate) (settings : List CrateSetting) → IsTrue (knows w (held.Crate k)) → settings_fault w k settings ≡ None
  no-fault w k [] known = refl
  no-fault w k (s ∷ settings) known =
      let v = with_crate_setting w k s in
      ap (λ o. option_or o (settings_fault v k settings)) (known-crate w k known)
      ∙ no-fault v k settings ((keeps w k (with_setting (data_of w k) s)).known (held.Crate k) known)

  -- they fail by memory alone, where the crate is known
  pub settings-short : (w : World) (k : Crate) (settings : List CrateSetting) {A : Type 0} (r : Result A BuildFault) → IsTrue (knows w (held.Crate k))
      → Answers (settings_fault w k settings) r → IfErr r (λ f. f ≡ OutOfMemory)
  settings-short w k settings {A} r known answers = by r (subst (λ (o : Option BuildFault). Answers o r) (no-fault w k settings known) answers)
    where
      by : (x : Result A BuildFault) → Answers None x → IfErr x (λ f. f ≡ OutOfMemory)
      by (Ok y) h = tt
      by (Err f) h = h

-- so does what a call sets, which changes nothing where it fails
set-grown : (w v u : World) {A : Type 0} (r : Result A BuildFault) → IsGrown w u → OnOk r (v ≡ u) → OnErr r (v ≡ w) → IsGrown w v
set-grown w v u (Ok x) grown ok err = subst (IsGrown w) (sym ok) grown
set-grown w v u (Err f) grown ok err = subst (IsGrown w) (sym err) (grown-same w)

pub settings-grown : ((w : World) (k : Crate) (d : CrateData) → IsGrown w (sharing w k d)) → (w v : World) (k : Crate) (settings : List CrateSetting) {A : Type 0} (r : Result A BuildFault) → OnOk r (v ≡ with_crate_settings w k settings) → OnErr r (v ≡ w) → IsGrown w v
settings-grown keeps w v k settings r ok err = set-grown w v (with_crate_settings w k settings) r (grown-settings keeps w k settings) ok err

pub prelude-grown : ((w : World) (id : MapId) (f : Map → Map) → ((m : Map) → (f m).modules ≡ m.modules) → IsGrown w (with_map w id f)) → (w v : World) (id : MapId) (p : Option (ModuleId × Option UseId)) {A : Type 0} (r : Result A BuildFault) → OnOk r (v ≡ with_prelude w id p) → OnErr r (v ≡ w) → IsGrown w v
prelude-grown keeps w v id p r ok err = set-grown w v (with_prelude w id p) r (keeps w id (changed (Prelude p)) (λ m. refl)) ok err

-- a prelude is set wherever the crate has its map
pub prelude-set : (w : World) (k : Crate) {A : Type 0} (r : Result A BuildFault) → lacks_map w (own_map k) ≡ false → AnswersFree (map_fault w (own_map k)) r → IfErr r (λ f. f ≡ OutOfMemory)
prelude-set w k {A} r there h = by r (subst (λ (b : Bool). AnswersFree (first_fault (record none_found { no_crate = b })) r) there h)
  where
    by : (x : Result A BuildFault) → IsOk x → IfErr x (λ f. f ≡ OutOfMemory)
    by (Ok y) h = tt
    by (Err f) h = absurd (true≢false (sym h))

-- Offers that are joined one by one while steps are followed are among those of each closed set.
use Rattle.std.proofs.Common.{◌≡◌, ◌∙◌, ap, cond, not, refl, subst, sym, true, false, true≢false, inl, inr, Bool, Option, None, Some, List, [], ◌∷◌, ◌&&◌, ◌||◌}
use Rattle.std.specs.Prelude.{◌⊎◌}
use Rattle.std.specs.Prelude.{is_some}
use Rattle.std.proofs.Math.Bool.{or-false}
use Rattle.std.proofs.lemmas.Bool.{and_from, and_parts, or_cases, or_right}
use Rattle.std.proofs.lemmas.List.Folds.{list_any_at}
use Rattle.std.proofs.lemmas.List.Elements.{All-contains}
use Rattle.std.specs.List.{All, Contains, cons_option, filter_map, list_any}
use Rattle.std.specs.Option.{ForSome, option_map_or}
use Rattle.dm_base.specs.declared.ids.ModuleId.{ModuleId}
use Rattle.dm_base.specs.declared.per_ns.Namespace.{Namespace}
use Rattle.dm_base.specs.IdLaws.{same_module-refl, same_module-true}
use Rattle.dm_base.specs.Names.{Name}
use Rattle.dm_imports.specs.declared.container.Container.{Container}
use Rattle.dm_imports.specs.declared.glob_import.GlobImport.{GlobImport}
use Rattle.dm_imports.specs.declared.joined.Joined.{Joined}
use Rattle.dm_imports.specs.declared.meaning.Meaning.{Meaning}
use Rattle.dm_imports.specs.declared.named_import.NamedImport.{NamedImport}
use Rattle.dm_imports.specs.declared.rules.grounded.following.Followed.{Followed}
use Rattle.dm_imports.specs.declared.rules.grounded.readers.Reader.{Reader}
use Rattle.dm_imports.specs.Brought.{AreAllNamed, alone, both, join}
use Rattle.dm_imports.specs.Following.{AreOffered, Follows, IsOffered, IsOfferedBy, IsReader, IsSound, MayHaveOffers, known_list}
use Rattle.dm_imports.specs.Grounded.{Offers, SlotSet, is_brought, is_glob_step, known_offer, known_offers}
use Rattle.dm_imports.specs.Grounding.{AreCovered, AreSafeOffers, HasSource, IsMore, IsSafe, IsWay, IsWithin, MayOffer, Way, is_conflict, is_way, known_from, means, needs_one, offers_in, slots_of}
use Rattle.dm_imports.specs.Meanings.{is_declared}
use Rattle.dm_imports.specs.Paths.{DefMaps, is_by_glob}
use Rattle.dm_imports.specs.Rules.{AreMapsKnown, IsGlobKnown, conflicts, join_all}
use Rattle.dm_imports.specs.Slots.{Slots, no_slots, same_slot, slot_at}
use Rattle.dm_imports.proofs.AskLemmas.{module-known}
use Rattle.dm_imports.proofs.KnownOfferLemmas.{known-at}
use Rattle.dm_imports.proofs.SlotLemmas.{Written, name-same, namespace-same, nothing-at}
use Rattle.dm_imports.proofs.StepLemmas.{conflict-more, joined-some, known_offer-more, offers-more}
use Rattle.dm_imports.proofs.WayLemmas.{IsGiven, given-safe}

any-given : (f : GlobImport → Option Meaning) (p : Meaning → Bool) (gs : List GlobImport) → list_any (λ g. option_map_or p (f g) false) gs ≡ list_any p (filter_map f gs)
any-given f p [] = refl
any-given f p (g ∷ gs) = by (f g) (any-given f p gs)
  where
    by : (o : Option Meaning) → list_any (λ h. option_map_or p (f h) false) gs ≡ list_any p (filter_map f gs)
        → (option_map_or p o false || list_any (λ h. option_map_or p (f h) false) gs) ≡ list_any p (cons_option o (filter_map f gs))
    by None e = e
    by (Some x) e = ap (λ b. p x || b) e

-- ---- One offer of known slots

module _ (d : DefMaps) (k : SlotSet) (m : ModuleId) (n : Name) (s : Namespace) (g : GlobImport) (x : Meaning) (has : Contains d.globs g) (is : known_offer d k m n s g ≡ Some x) where
  listed : (p : Meaning → Bool) → p x ≡ true → list_any p (known_list d k m n s) ≡ true
  listed p e =
      sym (any-given (known_offer d k m n s) p d.globs)
      ∙ list_any_at (λ h. option_map_or p (known_offer d k m n s h) false) d.globs has.0 g has.1 (ap (λ h. option_map_or p (known_offer d k m n s h) false) has.2 ∙ ap (λ o. option_map_or p o false) is ∙ e)

  conflict-of : (xs : List Meaning) → ((p : Meaning → Bool) → list_any p xs ≡ true → list_any p (known_list d k m n s) ≡ true) → is_conflict (join_all d.world m xs) ≡ true → is_conflict (known_offers d k m n s) ≡ true
  conflict-of xs = conflict-more d.world m xs (known_list d k m n s)

  offered-alone : IsOffered d k m n s (alone x)
  offered-alone = record {
    first = listed;
    conflict = λ a. conflict-of (x ∷ []) (λ p e. listed p (sym (or-false (p x)) ∙ e)) (or-false x.is_ambiguous ∙ a);
  }

  offered-both : (j : Joined) → IsOffered d k m n s j → IsOffered d k m n s (both d.world m j x)
  offered-both j old = record {
    first = old.first;
    conflict = λ a. elim (or_cases j.is_ambiguous (conflicts j.first x) a) [
      | inl b ↦ old.conflict b
      | inr b ↦ conflict-of (j.first ∷ x ∷ []) two (or_right j.first.is_ambiguous (conflicts j.first x || false) (or-false (conflicts j.first x) ∙ b))
    ];
  }
    where
      two : (p : Meaning → Bool) → (p j.first || (p x || false)) ≡ true → list_any p (known_list d k m n s) ≡ true
      two p e = elim (or_cases (p j.first) (p x || false) e) [
        | inl a ↦ old.first p a
        | inr a ↦ listed p (sym (or-false (p x)) ∙ a)
      ]

-- ---- Tables of offers

module _ (d : DefMaps) where
  pub none-offered : (t : Slots Joined) → t ≡ no_slots → AreOffered d t
  none-offered t e k closed m n s j is = absurd (true≢false (sym (ap is_some is) ∙ ap is_some (ap (λ (u : Slots Joined). slot_at u m n s) e ∙ nothing-at m n s)))

  pub none-named : (t : Slots Joined) → t ≡ no_slots → AreAllNamed d.world t
  none-named t e m n s j is = absurd (true≢false (sym (ap is_some is) ∙ ap is_some (ap (λ (u : Slots Joined). slot_at u m n s) e ∙ nothing-at m n s)))

  pub offered-safe : (t : Slots Joined) → AreOffered d t → AreSafeOffers d (offers_in t)
  offered-safe t all k closed m n s = by (slot_at t m n s) (all k closed m n s)
    where
      by : (o : Option Joined) → ForSome o (IsOffered d k m n s) → IsWithin o (known_offers d k m n s)
      by None h = record { there = λ e. absurd (true≢false (sym e)); conflict = λ e. absurd (true≢false (sym e)) }
      by (Some j) h = record {
        there = λ e. joined-some d.world m (known_list d k m n s) ∙ (h j refl).first (λ x. true) refl;
        conflict = λ e. (h j refl).conflict e;
      }

  -- a table that got what a glob offers by known slots
  pub offers-join : (l : SlotSet) (g : GlobImport) (old new : Slots Joined) → IsSafe d l → Contains d.globs g → MayHaveOffers d l g old new → AreOffered d old → AreOffered d new
  offers-join l g old new safe has may all k closed m n s = elim (may m n s) [
    | inl e ↦ subst (λ (o : Option Joined). ForSome o (IsOffered d k m n s)) (sym e) (all k closed m n s)
    | inr e ↦ subst (λ (o : Option Joined). ForSome o (IsOffered d k m n s)) (sym e) (by (slot_at old m n s) (known_offer d l m n s g) refl (all k closed m n s))
  ]
    where
      more : IsMore l k
      more = safe k closed

      some-same : (a b : Joined) → Some a ≡ Some b → a ≡ b
      some-same a b e = cc

      by : (o : Option Joined) (y : Option Meaning) → known_offer d l m n s g ≡ y → ForSome o (IsOffered d k m n s) → ForSome (join d.world m o y) (IsOffered d k m n s)
      by o None e h = h
      by None (Some x) e h = λ j is. subst (IsOffered d k m n s) (some-same (alone x) j is) (offered-alone d k m n s g x has (known_offer-more d l k more m n s g x e))
      by (Some i) (Some x) e h = λ j is. subst (IsOffered d k m n s) (some-same (both d.world m i x) j is) (offered-both d k m n s g x has (known_offer-more d l k more m n s g x e) i (h i refl))

-- a table in which what a glob offers of one slot by known slots was joined
pub may-offer : (d : DefMaps) (k : SlotSet) (g : GlobImport) (c : Container) → HasSource d k g (Some c) → (n : Name) (s : Namespace) (old new : Slots Joined)
    → Written old new g.into n s (λ y. join d.world g.into y (known_from d k g c n s)) → MayHaveOffers d k g old new
may-offer d k g c source n s old new written m x t = by (same_slot g.into n s m x t) refl (written m x t)
  where
    by : (b : Bool) → same_slot g.into n s m x t ≡ b → slot_at new m x t ≡ cond b (join d.world g.into (slot_at old m x t) (known_from d k g c n s)) (slot_at old m x t)
        → (slot_at new m x t ≡ slot_at old m x t) ⊎ (slot_at new m x t ≡ join d.world m (slot_at old m x t) (known_offer d k m x t g))
    by false e h = inl h
    by true e h =
        let parts = and_parts _ _ e in
        let place = and_parts _ _ parts.1 in
        let here : join d.world g.into (slot_at old m x t) (known_from d k g c n s) ≡ join d.world m (slot_at old m x t) (known_from d k g c x t) =
        λ i. join d.world (same_module-true g.into m place.0 i) (slot_at old m x t) (known_from d k g c (name-same n x place.1 i) (namespace-same s t parts.0 i)) in
        let offer : known_from d k g c x t ≡ known_offer d k m x t g = ap (λ b. cond b (known_from d k g c x t) None) (sym place.0) ∙ known-at d k g c source m x t in
        inr (h ∙ here ∙ ap (join d.world m (slot_at old m x t)) offer)

-- where a source is missing nothing is offered
pub may-offer-none : (d : DefMaps) (k : SlotSet) (g : GlobImport) (old : Slots Joined) → MayHaveOffers d k g old old
may-offer-none d k g old m x t = inl refl

-- ---- What is known while steps are followed

module _ (d : DefMaps) where
  pub follows-here : (f : Followed) → IsSound d f → Follows d f f
  follows-here f sound = record { sound = sound; more = λ m n s h. h }

  pub follows-then : (f g h : Followed) → Follows d f g → Follows d g h → Follows d f h
  follows-then f g h one two = record { sound = two.sound; more = λ m n s k. two.more m n s (one.more m n s k) }

  -- a slot that globs of a module may derive
  pub glob-way : (g : GlobImport) (n : Name) (s : Namespace) → All (IsGlobKnown d) d.globs → Contains d.globs g → IsWay d (record { home = g.into; name = n; namespace = s; import = None })
  glob-way g n s known has = record { home = (All-contains (IsGlobKnown d) d.globs g known has).0; import = λ i e. absurd (none≢some e) }
    where
      none≢some : {X : Type 0} {x : X} → ◌≡◌ {A = Option X} None (Some x) → ⊥
      none≢some e = absurd (true≢false (sym (ap is_some e)))

  pub glob-offers : (g : GlobImport) → AreMapsKnown d → Contains d.globs g → MayOffer d g
  glob-offers g known has =
      let k = All-contains (IsGlobKnown d) d.globs g known.globs has in
      record { into = module-known d.world g.into k.0.0; vis = k.1; variants = known.variants }

  -- with what a glob offers by known slots
  pub sound-offers : (f : Followed) (new : Slots Joined) (g : GlobImport) → IsSound d f → Contains d.globs g → MayHaveOffers d (slots_of f.known) g f.offered new → AreAllNamed d.world new
      → IsSound d (record f { offered = new })
  sound-offers f new g sound has may named = record {
    safe = sound.safe;
    offers = offers-join d (slots_of f.known) g f.offered new sound.safe has may sound.offers;
    named = named;
    ways = sound.ways;
  }

-- ---- Slots that need one offer

pub needs-means : (d : DefMaps) (w : Way) → needs_one d w ≡ true → (x : Meaning) × (means d w ≡ Some x) × (x.is_ambiguous ≡ false) × (is_brought d w.home w.name w.namespace x ≡ true)
needs-means d w needs = by (means d w) refl needs
  where
    unless : (b : Bool) → not b ≡ true → b ≡ false
    unless true e = absurd (true≢false (sym e))
    unless false e = refl

    by : (o : Option Meaning) → means d w ≡ o → option_map_or (λ x. is_by_glob x && not x.is_ambiguous && is_brought d w.home w.name w.namespace x) o false ≡ true
        → (x : Meaning) × (means d w ≡ Some x) × (x.is_ambiguous ≡ false) × (is_brought d w.home w.name w.namespace x ≡ true)
    by None e h = absurd (true≢false (sym h))
    by (Some x) e h =
        let p = and_parts (is_by_glob x && not x.is_ambiguous) (is_brought d w.home w.name w.namespace x) h in
        let q = and_parts (is_by_glob x) (not x.is_ambiguous) p.0 in
        (x, e, unless x.is_ambiguous q.1, p.1)

module _ (d : DefMaps) (k : SlotSet) (r : Reader) (is : IsReader d k r) (n : Name) (s : Namespace) (x : Meaning) (clear : x.is_ambiguous ≡ false) (brought : is_brought d r.glob.now.into n s x ≡ true) where
  abbrev its : GlobImport
  its = r.glob.now

  offered-there : (y : Meaning) → known_from d k its r.source n s ≡ Some y → is_some (known_offers d k its.into n s) ≡ true
  offered-there y e =
      let offer : known_offer d k its.into n s its ≡ Some y =
      sym (known-at d k its r.source is.source its.into n s) ∙ ap (λ b. cond b (known_from d k its r.source n s) None) (same_module-refl its.into) ∙ e in
      joined-some d.world its.into (known_list d k its.into n s) ∙ listed d k its.into n s its y is.listed offer (λ z. true) refl

  glob-step : is_some (known_from d k its r.source n s) ≡ true → is_glob_step d (known_offers d k) its.into n s x ≡ true
  glob-step some =
      let o = known_offers d k its.into n s in
      ap (λ b. cond b (is_by_glob x && is_conflict o) (is_brought d its.into n s x && is_some o)) clear
      ∙ and_from (is_brought d its.into n s x) (is_some o) brought (by (known_from d k its r.source n s) refl some)
    where
      by : (o : Option Meaning) → known_from d k its r.source n s ≡ o → is_some o ≡ true → is_some (known_offers d k its.into n s) ≡ true
      by None e h = absurd (true≢false (sym h))
      by (Some y) e h = offered-there y e

-- a way of which globs derive the slot
way-by-globs : (d : DefMaps) (k : SlotSet) (o : Offers) (w : Way) (x : Meaning) → w.import ≡ None → is_glob_step d o w.home w.name w.namespace x ≡ true → is_way d k o w x ≡ true
way-by-globs d k o w x none step = by w.import none
  where
    by : (i : Option NamedImport) → i ≡ None → is_way d k o (record w { import = i }) x ≡ true
    by None e = or_right (is_declared x) (is_glob_step d o w.home w.name w.namespace x) step
    by (Some i) e = absurd (true≢false (ap is_some e))

-- a slot that needs one offer may be made known where a glob has one
pub once-safe : (d : DefMaps) (old new : Slots Bool) (r : Reader) (w : Way) → IsReader d (slots_of old) r → IsOfferedBy d (slots_of old) r w → IsWay d w → needs_one d w ≡ true → IsGiven old new w
    → IsSafe d (slots_of old) → IsSafe d (slots_of new)
once-safe d old new r w reader offered is needs given safe =
    let k = slots_of old in
    let x = needs-means d w needs in
    let brought = subst (λ (m : ModuleId). is_brought d m w.name w.namespace x.0 ≡ true) offered.home x.3 in
    let there = glob-step d k r reader w.name w.namespace x.0 x.2 brought offered.offer in
    let step = subst (λ (m : ModuleId). is_glob_step d (known_offers d k) m w.name w.namespace x.0 ≡ true) (sym offered.home) there in
    given-safe d old new (known_offers d k) w x.0 given is x.1 (way-by-globs d k (known_offers d k) w x.0 offered.import step) (λ c closed. offers-more d k c (safe c closed)) safe

-- with more known slots each way is settled or listed, too
pub more-covered : (d : DefMaps) (k l : SlotSet) (ws : List Way) → IsMore k l → AreCovered d k ws → AreCovered d l ws
more-covered d k l ws more all w is some = elim (all w is some) [
  | inl h ↦ inl (more w.home w.name w.namespace h)
  | inr h ↦ inr h
]

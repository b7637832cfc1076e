-- Slots that are marked where they have not what the rules give.
use Rattle.std.proofs.Common.{◌≡◌, ◌∙◌, ap, false, not, refl, subst, sym, true, true≢false, inl, inr, Bool, List, None}
use Rattle.std.proofs.lemmas.Bool.{and_parts}
use Rattle.std.proofs.lemmas.List.Elements.{All-contains, All-weaker}
use Rattle.std.specs.List.{All}
use Rattle.std.specs.Prelude.{is_some}
use Rattle.dm_base.specs.declared.ids.ModuleId.{ModuleId}
use Rattle.dm_base.specs.declared.per_ns.Namespace.{Namespace}
use Rattle.dm_base.specs.declared.per_ns.Namespace.TheVariants.{Types, Values, Macros}
use Rattle.dm_base.specs.IdLaws.{same_module-true}
use Rattle.dm_base.specs.Names.{Name}
use Rattle.dm_imports.specs.declared.glob_import.GlobImport.{GlobImport}
use Rattle.dm_imports.specs.declared.named_import.NamedImport.{NamedImport}
use Rattle.dm_imports.specs.declared.rules.unsupported.Judged.{Judged}
use Rattle.dm_imports.specs.Grounded.{SlotSet}
use Rattle.dm_imports.specs.Grounding.{IsMore, Way, has_slot, slots_of, way_of}
use Rattle.dm_imports.specs.Marking.{AreAllJudged, AreDependent, AreJudged, AreThoseDependent, HasUngrounded, IsGlobJudged, IsJudged, IsJust, IsUngroundedWay, Marks}
use Rattle.dm_imports.specs.OrderDependent.{DependsOnOrder, IsUngrounded, IsUnsupported}
use Rattle.dm_imports.specs.Paths.{DefMaps, at}
use Rattle.dm_imports.specs.Rules.{IsModule, IsSupported, given}
use Rattle.dm_imports.specs.Slots.{Slots, no_slots, same_slot, slot_at}
use Rattle.dm_imports.proofs.AgreeLemmas.{everywhere}
use Rattle.dm_imports.proofs.SlotLemmas.{name-same, namespace-same, nothing-at}
use Rattle.dm_imports.proofs.WayLemmas.{IsGiven, given-cases, given-has, given-more}

pub not-true : (b : Bool) → not b ≡ true → b ≡ false
not-true true e = absurd (true≢false (sym e))
not-true false e = refl

module _ (d : DefMaps) where
  pub marks-none : (k : Judged) → Marks d k k
  marks-none k = record { more = λ m n s h. h; just = λ h. h }

  -- before the first slot is looked at
  pub none-just : (k : Judged) → k.unsupported ≡ no_slots → k.is_supported ≡ true → IsJust d k
  none-just k is is_noted = record {
    marked = λ m n s h. absurd (true≢false (sym h ∙ unmarked m n s));
    none = λ e. unmarked;
    noted = λ supported. is_noted;
  }
    where
      unmarked : (m : ModuleId) (n : Name) (s : Namespace) → slots_of k.unsupported m n s ≡ false
      unmarked m n s = ap is_some (ap (λ (t : Slots Bool). slot_at t m n s) is ∙ nothing-at m n s)

  pub marks-then : (j k l : Judged) → Marks d j k → Marks d k l → Marks d j l
  marks-then j k l one two = record {
    more = λ m n s h. two.more m n s (one.more m n s h);
    just = λ h. two.just (one.just h);
  }

  -- a slot that has not what the rules give was marked
  pub marks-slot : (old new : Judged) (w : Way) → IsGiven old.unsupported new.unsupported w → new.is_supported ≡ false → IsModule d w.home → IsUnsupported d w.home w.name w.namespace → Marks d old new
  marks-slot old new w is unnoted home differs = record {
    more = given-more old.unsupported new.unsupported w is;
    just = λ just. record {
      marked = λ m n s h. elim (given-cases old.unsupported new.unsupported w is m n s h) [
        | inl e ↦ just.marked m n s e
        | inr e ↦ λ agrees. differs (unmoved m n s e agrees)
      ];
      none = λ e. absurd (true≢false (sym e ∙ unnoted));
      noted = λ supported. absurd (differs (supported w.home home w.name w.namespace));
    };
  }
    where
      unmoved : (m : ModuleId) (n : Name) (s : Namespace) → same_slot w.home w.name w.namespace m n s ≡ true → at d m n s ≡ given d m n s → at d w.home w.name w.namespace ≡ given d w.home w.name w.namespace
      unmoved m n s e agrees =
          let p = and_parts _ _ e in
          let q = and_parts _ _ p.1 in
          let here : at d w.home w.name w.namespace ≡ at d m n s = λ i. at d (same_module-true w.home m q.0 i) (name-same w.name n q.1 i) (namespace-same w.namespace s p.0 i) in
          let there : given d w.home w.name w.namespace ≡ given d m n s = λ i. given d (same_module-true w.home m q.0 i) (name-same w.name n q.1 i) (namespace-same w.namespace s p.0 i) in
          here ∙ agrees ∙ sym there

  pub judged-more : (k l : SlotSet) → IsMore k l → (m : ModuleId) (n : Name) → AreJudged d k m n → AreJudged d l m n
  judged-more k l more m n all s = elim (all s) [
    | inl e ↦ inl e
    | inr e ↦ inr (more m n s e)
  ]

  pub all-judged-more : (k l : SlotSet) → IsMore k l → AreAllJudged d k → AreAllJudged d l
  all-judged-more k l more all m is n has = judged-more k l more m n (all m is n has)

  -- the slots of a name that were judged one after another
  pub three-judged : (j k l : Judged) (m : ModuleId) (n : Name) → Marks d j k → Marks d k l → IsJudged d (slots_of j.unsupported) m n Types → IsJudged d (slots_of k.unsupported) m n Values
      → IsJudged d (slots_of l.unsupported) m n Macros → AreJudged d (slots_of l.unsupported) m n
  three-judged j k l m n one two a b c Types = elim a [
    | inl e ↦ inl e
    | inr e ↦ inr (two.more m n Types (one.more m n Types e))
  ]
  three-judged j k l m n one two a b c Values = elim b [
    | inl e ↦ inl e
    | inr e ↦ inr (two.more m n Values e)
  ]
  three-judged j k l m n one two a b c Macros = c

  -- Slots that were judged in all modules, then at all imports, then at all globs, are judged in all.
  pub all-judged : (j k l : SlotSet) → IsMore j k → IsMore k l → AreAllJudged d j → All (λ (i : NamedImport). AreJudged d k i.home i.name) d.imports → All (IsGlobJudged d l) d.globs
      → (m : ModuleId) → IsModule d m → (n : Name) → AreJudged d l m n
  all-judged j k l one two modules imports globs =
      everywhere d (AreJudged d l) (λ m n agrees s. inl (agrees s))
      (All-weaker (λ (i : NamedImport). AreJudged d k i.home i.name) (λ (i : NamedImport). AreJudged d l i.home i.name) (λ i. judged-more k l two i.home i.name) d.imports imports)
      (λ m is n has. judged-more k l two m n (judged-more j k one m n (modules m is n has)))
      globs

  -- where all are judged, and it is noted that none is marked, the def maps are supported
  pub judged-supported : (j : Judged) → IsJust d j → ((m : ModuleId) → IsModule d m → (n : Name) → AreJudged d (slots_of j.unsupported) m n) → j.is_supported ≡ true → IsSupported d
  judged-supported j just all noted m is n s = elim (all m is n s) [
    | inl e ↦ e
    | inr e ↦ absurd (true≢false (sym e ∙ just.none noted m n s))
  ]

  -- ---- Slots that depend on the order of imports

  -- the slot of an ungrounded way was marked
  pub dependent-slot : (old new : Slots Bool) (w : Way) → IsGiven old new w → IsUngroundedWay d w → AreDependent d (slots_of old) → AreDependent d (slots_of new)
  dependent-slot old new w is not all m n s h = elim (given-cases old new w is m n s h) [
    | inl e ↦ all m n s e
    | inr e ↦
        let p = and_parts _ _ e in
        let q = and_parts _ _ p.1 in
        let one = subst (λ (k : ModuleId). IsUngrounded d k w.name w.namespace) (same_module-true w.home m q.0) not.1 in
        let two = subst (λ (x : Name). IsUngrounded d m x w.namespace) (name-same w.name n q.1) one in
        inr (subst (IsUngrounded d m n) (namespace-same w.namespace s p.0) two)
  ]

  -- Those that have not what the rules give are marked, and then the slots of all ways that are open.
  pub those-dependent : (k l : SlotSet) (left : List Way) → ((m : ModuleId) (n : Name) (s : Namespace) → k m n s ≡ true → IsUnsupported d m n s) → ((m : ModuleId) → IsModule d m → (n : Name) → AreJudged d k m n) → IsMore k l → All (λ (w : Way). has_slot l w ≡ true) left
      → (AreDependent d k → AreDependent d l) → HasUngrounded d left → AreThoseDependent d l
  those-dependent k l left just judged more marked dependent all m is n s = (λ h. dependent (λ a b c e. inl (just a b c e)) m n s h, back)
    where
      back : DependsOnOrder d m n s → l m n s ≡ true
      back (inl not) = elim (judged m is n s) [
        | inl agrees ↦ absurd (not agrees)
        | inr e ↦ more m n s e
      ]
      back (inr not) = All-contains (λ (w : Way). has_slot l w ≡ true) left (way_of m n None s) marked (all m is n s not)

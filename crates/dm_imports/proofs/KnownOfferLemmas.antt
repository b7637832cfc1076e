-- Tables of what globs offer by known slots.
use Rattle.std.proofs.Common.{◌≡◌, ◌∙◌, ap, cond, refl, sym, true, false, inl, inr, Bool, Option, None, Some, List}
use Rattle.std.specs.List.{Contains, list_any}
use Rattle.std.specs.Option.{option_and_then, option_map}
use Rattle.dm_base.specs.declared.ids.ModuleId.{ModuleId}
use Rattle.dm_base.specs.declared.per_ns.Namespace.{Namespace}
use Rattle.dm_base.specs.Names.{Name, same_name}
use Rattle.dm_base.specs.Tree.{same_module}
use Rattle.dm_imports.specs.declared.container.Container.{Container}
use Rattle.dm_imports.specs.declared.glob_import.GlobImport.{GlobImport}
use Rattle.dm_imports.specs.declared.joined.Joined.{Joined}
use Rattle.dm_imports.specs.declared.meaning.Meaning.{Meaning}
use Rattle.dm_imports.specs.Brought.{HasJoined, join}
use Rattle.dm_imports.specs.Grounded.{SlotSet, is_clear, known_offer, knowing}
use Rattle.dm_imports.specs.Grounding.{HasSource, is_found, known_from}
use Rattle.dm_imports.specs.Paths.{DefMaps}
use Rattle.dm_imports.specs.Rules.{glob_asks, offer_from, offered, source_of}
use Rattle.dm_imports.specs.Slots.{Slots, slot_at}
use Rattle.dm_imports.specs.Supporting.{source_names}
use Rattle.dm_imports.proofs.JoinLemmas.{all-joined}
use Rattle.dm_imports.proofs.ListLemmas.{name-absent}
use Rattle.dm_imports.proofs.SourceLemmas.{known-once}
use Rattle.dm_imports.proofs.UnboundLemmas.{member-unbound}

module _ (d : DefMaps) (k : SlotSet) (g : GlobImport) where
  abbrev from : DefMaps → Name → Namespace → Option Container → Option Meaning
  from e x t o = option_and_then (λ v. offer_from e g v x t) o

  -- a glob without one of its sources offers nothing by known slots
  pub known-none : HasSource d k g None → (m : ModuleId) (x : Name) (t : Namespace) (y : Option Joined) → y ≡ join d.world m y (known_offer d k m x t g)
  known-none none m x t y = ap (join d.world m y) (sym (by (same_module g.into m)))
    where
      if-none : (b : Bool) (o : Option Meaning) → o ≡ None → cond b o None ≡ None
      if-none true o e = e
      if-none false o e = refl

      by : (b : Bool) → cond (is_clear (cond b (from (knowing d k) x t (source_of (knowing d k) g)) None)) (cond b (from d x t (source_of d g)) None) None ≡ None
      by true = elim none [
        | inl e ↦ if-none (is_clear (from (knowing d k) x t (source_of (knowing d k) g))) (from d x t (source_of d g)) (ap (from d x t) e)
        | inr e ↦ ap (λ o. cond (is_clear (from (knowing d k) x t o)) (from d x t (source_of d g)) None) e
      ]
      by false = refl

  -- what one with a source offers by known slots
  pub known-at : (c : Container) → HasSource d k g (Some c) → (m : ModuleId) (x : Name) (t : Namespace) → cond (same_module g.into m) (known_from d k g c x t) None ≡ known_offer d k m x t g
  known-at c is m x t = by (same_module g.into m)
    where
      by : (b : Bool) → cond b (known_from d k g c x t) None ≡ cond (is_clear (cond b (from (knowing d k) x t (source_of (knowing d k) g)) None)) (cond b (from d x t (source_of d g)) None) None
      by true = sym (known-once d k g c x t) ∙ (λ i. cond (is_clear (from (knowing d k) x t (sym is.1 i))) (from d x t (sym is.0 i)) None)
      by false = refl

  -- a table to which the offers of a glob under all names of its source were joined has its offers
  pub known-joined : (c : Container) (ns : List Name) (old new : Slots Joined) → HasSource d k g (Some c) → ((n : Name) → Contains (source_names d.world c) n → Contains ns n)
      → HasJoined d.world g.into (known_from d k g c) ns old new → (m : ModuleId) (x : Name) (t : Namespace) → slot_at new m x t ≡ join d.world m (slot_at old m x t) (known_offer d k m x t g)
  known-joined c ns old new is listed has m x t =
      all-joined d.world g.into (known_from d k g c) ns old new unlisted has m x t ∙ ap (join d.world m (slot_at old m x t)) (known-at c is m x t)
    where
      if-none : (b : Bool) (o : Option Meaning) → o ≡ None → cond b o None ≡ None
      if-none true o e = e
      if-none false o e = refl

      unlisted : (n : Name) (s : Namespace) → list_any (same_name n) ns ≡ false → known_from d k g c n s ≡ None
      unlisted n s e =
          if-none (is_found k c n s) (offer_from d g c n s)
          (ap (option_map (offered d g)) (member-unbound d (glob_asks g) c n s (λ l. name-absent n ns e (listed n l))))

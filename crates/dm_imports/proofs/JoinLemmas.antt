-- Offers of globs, joined one by one and as a list.
use Rattle.std.proofs.Common.{◌≡◌, ◌∙◌, ap, cond, refl, subst, sym, true, false, not, Bool, Option, None, Some, List, [], ◌∷◌, ◌&&◌, ◌||◌}
use Rattle.std.specs.Cmp.Lexicographic.{nat_list_eq_equiv}
use Rattle.std.specs.List.{Contains, cons_option, filter_map, list_any}
use Rattle.std.proofs.Math.Bool.{or-false, or_assoc, or_self}
use Rattle.std.specs.Prelude.{fold}
use Rattle.std.specs.Option.{option_and_then, option_map}
use Rattle.dm_base.specs.contracts.item_ids.ModuleDefIdEq.TheImpl.Laws as def_laws
use Rattle.dm_base.specs.declared.ids.ModuleId.{ModuleId}
use Rattle.dm_base.specs.declared.per_ns.Namespace.{Namespace}
use Rattle.dm_base.specs.IdLaws.{same_module-true}
use Rattle.dm_base.specs.Names.{Name, same_name}
use Rattle.dm_base.specs.Tree.{same_module}
use Rattle.dm_maps.specs.World.{World}
use Rattle.dm_imports.specs.declared.container.Container.{Container}
use Rattle.dm_imports.specs.declared.glob_import.GlobImport.{GlobImport}
use Rattle.dm_imports.specs.declared.joined.Joined.{Joined}
use Rattle.dm_imports.specs.declared.meaning.Meaning.{Meaning}
use Rattle.dm_imports.specs.Brought.{AreAllNamed, HasJoined, HasOffers, alone, both, join}
use Rattle.dm_imports.specs.Meanings.{AreNamed}
use Rattle.dm_imports.specs.Paths.{DefMaps}
use Rattle.dm_imports.specs.Rules.{conflicts, glob_asks, join_all, least, least_of, most, most_of, offer_from, offer_to, offered, source_of}
use Rattle.dm_imports.specs.Slots.{Slots, same_place, same_slot, slot_at}
use Rattle.dm_imports.specs.Supporting.{source_names}
use Rattle.dm_imports.proofs.AgainLemmas.{least-again, least-same, most-again, most-same}
use Rattle.dm_imports.proofs.ListLemmas.{name-absent}
use Rattle.dm_imports.proofs.SlotLemmas.{Written, name-same}
use Rattle.dm_imports.proofs.UnboundLemmas.{member-unbound}

or-again : (a b : Bool) → (a || b || b) ≡ (a || b)
or-again a b = or_assoc a b b ∙ ap (λ c. a || c) (or_self b)

-- an offer has no other definition than itself
pub conflicts-self : (x : Meaning) → conflicts x x ≡ x.is_ambiguous
conflicts-self x = ap (λ b. x.is_ambiguous || not b) (def_laws.laws-law.refl x.def) ∙ or-false x.is_ambiguous

module _ (w : World) (m : ModuleId) (x : Meaning) where
  alone-twice : both w m (alone x) x ≡ alone x
  alone-twice = λ i. record {
    first = x;
    most = most-same w m x.vis i;
    least = least-same w m x.vis i;
    is_ambiguous = (ap (λ b. x.is_ambiguous || b) (conflicts-self x) ∙ or_self x.is_ambiguous) i;
  }

  both-twice : (j : Joined) → both w m (both w m j x) x ≡ both w m j x
  both-twice j = λ i. record {
    first = j.first;
    most = most-again w m j.most x.vis i;
    least = least-again w m j.least x.vis i;
    is_ambiguous = or-again j.is_ambiguous (conflicts j.first x) i;
  }

-- An offer that is joined once more changes nothing. So it does not matter whether a source lists a name twice.
pub join-twice : (w : World) (m : ModuleId) (j : Option Joined) (o : Option Meaning) → join w m (join w m j o) o ≡ join w m j o
join-twice w m j None = refl
join-twice w m None (Some x) = ap Some (alone-twice w m x)
join-twice w m (Some j) (Some x) = ap Some (both-twice w m x j)

-- Offers that are joined one by one are joined as a list.
module _ (w : World) (m : ModuleId) (offer : GlobImport → Option Meaning) where
  -- some offers, and others behind them
  abbrev more : Joined → List Meaning → Joined
  more j xs = record {
    first = j.first;
    most = most_of w m j.most xs;
    least = least_of w m j.least xs;
    is_ambiguous = j.is_ambiguous || list_any (conflicts j.first) xs;
  }

  joins-more : (j : Joined) (gs : List GlobImport) → fold (λ k g. join w m k (offer g)) (Some j) gs ≡ Some (more j (filter_map offer gs))
  joins-more j [] = λ i. Some (record { first = j.first; most = j.most; least = j.least; is_ambiguous = sym (or-false j.is_ambiguous) i })
  joins-more j (g ∷ gs) = by (offer g) (joins-more j gs) (λ x. joins-more (both w m j x) gs)
    where
      by : (o : Option Meaning) → fold (λ k g. join w m k (offer g)) (Some j) gs ≡ Some (more j (filter_map offer gs))
          → ((x : Meaning) → fold (λ k g. join w m k (offer g)) (Some (both w m j x)) gs ≡ Some (more (both w m j x) (filter_map offer gs)))
          → fold (λ k g. join w m k (offer g)) (join w m (Some j) o) gs ≡ Some (more j (cons_option o (filter_map offer gs)))
      by None same one = same
      by (Some x) same one =
          let xs = filter_map offer gs in
          one x ∙ (λ i. Some (record {
            first = j.first;
            most = most_of w m (most w m j.most x.vis) xs;
            least = least_of w m (least w m j.least x.vis) xs;
            is_ambiguous = or_assoc j.is_ambiguous (conflicts j.first x) (list_any (conflicts j.first) xs) i;
          }))

  pub joins-all : (gs : List GlobImport) → fold (λ k g. join w m k (offer g)) None gs ≡ join_all w m (filter_map offer gs)
  joins-all [] = refl
  joins-all (g ∷ gs) = by (offer g) (joins-all gs)
    where
      by : (o : Option Meaning) → fold (λ k g. join w m k (offer g)) None gs ≡ join_all w m (filter_map offer gs)
          → fold (λ k g. join w m k (offer g)) (join w m None o) gs ≡ join_all w m (cons_option o (filter_map offer gs))
      by None rest = rest
      by (Some x) rest = joins-more (alone x) gs

module _ (w : World) (m : ModuleId) (offer : Name → Namespace → Option Meaning) where
  abbrev joins : Option Joined → Name → Namespace → Option Joined
  joins y x t = join w m y (offer x t)

  -- what is offered under one name is joined to what a table has
  abbrev pub HasOne : Name → Slots Joined → Slots Joined → Type 0
  HasOne n old new = (k : ModuleId) (x : Name) (t : Namespace) → slot_at new k x t ≡ cond (same_place m n k x) (joins (slot_at old k x t) n t) (slot_at old k x t)

  pub joined-none : (old : Slots Joined) → HasJoined w m offer [] old old
  joined-none old k x t = by (same_module m k)
    where
      by : (b : Bool) → slot_at old k x t ≡ cond (b && false) (joins (slot_at old k x t) x t) (slot_at old k x t)
      by true = refl
      by false = refl

  -- under a name, and then under others
  pub joined-then : (n : Name) (ns : List Name) (old mid new : Slots Joined) → HasOne n old mid → HasJoined w m offer ns mid new → HasJoined w m offer (n ∷ ns) old new
  joined-then n ns old mid new one rest k x t =
      by (same_module m k) (same_name n x) (list_any (same_name x) ns) (name-same n x) (one k x t) (rest k x t)
      ∙ ap (λ b. cond (same_module m k && (b || list_any (same_name x) ns)) (joins (slot_at old k x t) x t) (slot_at old k x t)) (nat_list_eq_equiv.symm n x)
    where
      by : (s b a : Bool) → (b ≡ true → n ≡ x)
          → slot_at mid k x t ≡ cond (s && b) (joins (slot_at old k x t) n t) (slot_at old k x t)
          → slot_at new k x t ≡ cond (s && a) (joins (slot_at mid k x t) x t) (slot_at mid k x t)
          → slot_at new k x t ≡ cond (s && (b || a)) (joins (slot_at old k x t) x t) (slot_at old k x t)
      by false b a same e f = f ∙ e
      by true true true same e f =
          let here : slot_at mid k x t ≡ joins (slot_at old k x t) x t = e ∙ ap (λ y. joins (slot_at old k x t) y t) (same refl) in
          f ∙ ap (λ y. joins y x t) here ∙ join-twice w m (slot_at old k x t) (offer x t)
      by true true false same e f = f ∙ e ∙ ap (λ y. joins (slot_at old k x t) y t) (same refl)
      by true false true same e f = f ∙ ap (λ y. joins y x t) e
      by true false false same e f = f ∙ e

-- a table in which one slot was given what is named
pub named-written : (w : World) (old new : Slots Joined) (m : ModuleId) (n : Name) (s : Namespace) (v : Joined)
    → ((k : ModuleId) (x : Name) (t : Namespace) → slot_at new k x t ≡ cond (same_slot m n s k x t) (Some v) (slot_at old k x t))
    → AreAllNamed w old → AreNamed w v → AreAllNamed w new
named-written w old new m n s v h all own k x t j is = by (same_slot m n s k x t) (sym (h k x t) ∙ is)
  where
    by : (b : Bool) → cond b (Some v) (slot_at old k x t) ≡ Some j → AreNamed w j
    by true e = let same : v ≡ j = cc in subst (AreNamed w) same own
    by false e = all k x t j e

-- a glob without a source offers nothing
pub no-source : (d : DefMaps) (g : GlobImport) (k : ModuleId) (x : Name) (t : Namespace) (y : Option Joined) → source_of d g ≡ None → y ≡ join d.world k y (offer_to d k x t g)
no-source d g k x t y e = by (same_module g.into k)
  where
    by : (b : Bool) → y ≡ join d.world k y (cond b (option_and_then (λ c. offer_from d g c x t) (source_of d g)) None)
    by true = ap (λ o. join d.world k y (option_and_then (λ c. offer_from d g c x t) o)) (sym e)
    by false = refl

-- A table to which what is offered a module under some names was joined has all that is offered, if there is nothing
-- under other names.
pub all-joined : (w : World) (m : ModuleId) (offer : Name → Namespace → Option Meaning) (ns : List Name) (old new : Slots Joined)
    → ((x : Name) (t : Namespace) → list_any (same_name x) ns ≡ false → offer x t ≡ None) → HasJoined w m offer ns old new
    → (k : ModuleId) (x : Name) (t : Namespace) → slot_at new k x t ≡ join w k (slot_at old k x t) (cond (same_module m k) (offer x t) None)
all-joined w m offer ns old new unlisted has k x t = by (same_module m k) (list_any (same_name x) ns) (same_module-true m k) refl (has k x t)
  where
    y : Option Joined
    y = slot_at old k x t

    by : (b a : Bool) → (b ≡ true → m ≡ k) → list_any (same_name x) ns ≡ a → slot_at new k x t ≡ cond (b && a) (join w m y (offer x t)) y → slot_at new k x t ≡ join w k y (cond b (offer x t) None)
    by false a same e h = h
    by true true same e h = h ∙ ap (λ v. join w v y (offer x t)) (same refl)
    by true false same e h = h ∙ ap (join w k y) (sym (unlisted x t e))

-- a table to which the offers of a glob under all names of its source were joined has its offers
pub glob-joined : (d : DefMaps) (g : GlobImport) (c : Container) (ns : List Name) (old new : Slots Joined) → source_of d g ≡ Some c
    → ((n : Name) → Contains (source_names d.world c) n → Contains ns n) → HasOffers d g c ns old new
    → (k : ModuleId) (x : Name) (t : Namespace) → slot_at new k x t ≡ join d.world k (slot_at old k x t) (offer_to d k x t g)
glob-joined d g c ns old new is listed has k x t =
    all-joined d.world g.into (offer_from d g c) ns old new
    (λ n s e. ap (option_map (offered d g)) (member-unbound d (glob_asks g) c n s (λ l. name-absent n ns e (listed n l)))) has k x t
    ∙ ap (λ o. join d.world k (slot_at old k x t) (cond (same_module g.into k) (option_and_then (λ b. offer_from d g b x t) o) None)) (sym is)

-- a slot to which an offer was joined, by what the offer and the world are
pub joined-written : (a b : Slots Joined) (m : ModuleId) (n : Name) (s : Namespace) (v w : World) (o p : Option Meaning) → v ≡ w → o ≡ p
    → ((k : ModuleId) (x : Name) (t : Namespace) → slot_at b k x t ≡ cond (same_slot m n s k x t) (join v m (slot_at a k x t) o) (slot_at a k x t))
    → Written a b m n s (λ y. join w m y p)
joined-written a b m n s v w o p same is h k x t = h k x t ∙ (λ i. cond (same_slot m n s k x t) (join (same i) m (slot_at a k x t) (is i)) (slot_at a k x t))

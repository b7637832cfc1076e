-- What a row of nodes says is what its predicate says.
use Rattle.std.proofs.Common.{◌≡◌, ℕ, ◌+◌, ◌<◌, ◌≤◌, Bool, true, false, List, [], ◌∷◌, ◌++◌, length, drop, Option, Some, None, refl, ap, sym, ◌∙◌, append_assoc, arith}
use Rattle.std.specs.Prelude.{if◌then◌else◌, nat_le}
use Rattle.std.proofs.lemmas.Bool.{le-leb, leb-true}
use Rattle.std.proofs.lemmas.List.{append-nil}
use Rattle.std.proofs.Math.ListN.{drop_of_length-le}
use Rattle.item_tree.specs.Cfg.{CfgExpr, CfgExprs, Invalid, True, False, Flag, KeyValue, Not, All, Any, Nil, Cons, fold, all_of, any_of, is_true, is_false, flat, more_all, more_any, flat_all, flat_any, is_within, value_of, value_behind, settled_behind}
use Rattle.item_tree.specs.declared.cfg.CfgAtom.{CfgAtom}
use Rattle.item_tree.specs.declared.cfg.CfgNode.{CfgNode}
use Rattle.item_tree.specs.declared.cfg.CfgNode.TheVariants as node

-- what may follow a predicate that stands in d open lists
abbrev follows : ℕ → List CfgNode → Bool
follows d [] = true
follows d (n ∷ ns) = is_within d n

within-more : (d : ℕ) (n : CfgNode) → is_within d n ≡ true → is_within (d + 1) n ≡ true
within-more d node.Invalid h = cc
within-more d node.True h = cc
within-more d node.False h = cc
within-more d (node.Flag s) h = cc
within-more d (node.KeyValue k v) h = cc
within-more d (node.Not n) h = let l = leb-true n d h in le-leb n (d + 1) (omega arith)
within-more d (node.All n) h = let l = leb-true n d h in le-leb n (d + 1) (omega arith)
within-more d (node.Any n) h = let l = leb-true n d h in le-leb n (d + 1) (omega arith)

follows-more : (d : ℕ) (ns : List CfgNode) → follows d ns ≡ true → follows (d + 1) ns ≡ true
follows-more d [] h = refl
follows-more d (n ∷ ns) h = within-more d n h

not_within : (d k : ℕ) → d < k → nat_le k d ≡ false
not_within d k h = grind arith

module _ (options : List CfgAtom) (text : List ℕ) where
  -- what follows a predicate is asked
  asked : (v : Option Bool) (d : ℕ) (ns : List CfgNode) → follows d ns ≡ true → value_of options text v (Some d) ns ≡ value_of options text v None ns
  asked v d [] h = refl
  asked v d (n ∷ ns) h = ap (λ b. if b then value_of options text (value_behind options text v n) (settled_behind v n) ns else value_of options text v (Some d) ns) h

  -- and what stands in more lists than a settled one is not
  mutual
    passed : (e : CfgExpr) (d k : ℕ) (v : Option Bool) (ns : List CfgNode) → d ≤ k → value_of options text v (Some d) (flat e k ++ ns) ≡ value_of options text v (Some d) ns
    passed Invalid d k v ns h = refl
    passed True d k v ns h = refl
    passed False d k v ns h = refl
    passed (Flag s) d k v ns h = refl
    passed (KeyValue key value) d k v ns h = refl
    passed (Not e) d k v ns h =
        ap (value_of options text v (Some d)) (append_assoc (flat e (k + 1)) (node.Not (k + 1) ∷ []) ns)
        ∙ passed e d (k + 1) v (node.Not (k + 1) ∷ ns) (omega arith)
        ∙ rw (not_within d (k + 1) (omega arith)) refl
    passed (All es) d k v ns h = passed_all es d (k + 1) v ns (omega arith)
    passed (Any es) d k v ns h = passed_any es d (k + 1) v ns (omega arith)

    passed_all : (es : CfgExprs) (d k : ℕ) (v : Option Bool) (ns : List CfgNode) → d < k → value_of options text v (Some d) (flat_all es k ++ ns) ≡ value_of options text v (Some d) ns
    passed_all Nil d k v ns h = refl
    passed_all (Cons e es) d k v ns h =
        ap (value_of options text v (Some d)) (append_assoc (flat e k) (more_all es k) ns)
        ∙ passed e d k v (more_all es k ++ ns) (omega arith) ∙ passed_more_all es d k v ns h

    passed_more_all : (es : CfgExprs) (d k : ℕ) (v : Option Bool) (ns : List CfgNode) → d < k → value_of options text v (Some d) (more_all es k ++ ns) ≡ value_of options text v (Some d) ns
    passed_more_all Nil d k v ns h = refl
    passed_more_all (Cons e es) d k v ns h =
        rw (not_within d k h) (
        ap (value_of options text v (Some d)) (append_assoc (flat e k) (more_all es k) ns)
        ∙ passed e d k v (more_all es k ++ ns) (omega arith) ∙ passed_more_all es d k v ns h)

    passed_any : (es : CfgExprs) (d k : ℕ) (v : Option Bool) (ns : List CfgNode) → d < k → value_of options text v (Some d) (flat_any es k ++ ns) ≡ value_of options text v (Some d) ns
    passed_any Nil d k v ns h = refl
    passed_any (Cons e es) d k v ns h =
        ap (value_of options text v (Some d)) (append_assoc (flat e k) (more_any es k) ns)
        ∙ passed e d k v (more_any es k ++ ns) (omega arith) ∙ passed_more_any es d k v ns h

    passed_more_any : (es : CfgExprs) (d k : ℕ) (v : Option Bool) (ns : List CfgNode) → d < k → value_of options text v (Some d) (more_any es k ++ ns) ≡ value_of options text v (Some d) ns
    passed_more_any Nil d k v ns h = refl
    passed_more_any (Cons e es) d k v ns h =
        rw (not_within d k h) (
        ap (value_of options text v (Some d)) (append_assoc (flat e k) (more_any es k) ns)
        ∙ passed e d k v (more_any es k ++ ns) (omega arith) ∙ passed_more_any es d k v ns h)

  same_within : (d : ℕ) → nat_le d d ≡ true
  same_within d = le-leb d d (omega arith)

  -- what follows the first predicates of a list
  follows_all : (es : CfgExprs) (d : ℕ) (ns : List CfgNode) → follows d ns ≡ true → follows d (more_all es d ++ ns) ≡ true
  follows_all Nil d ns h = h
  follows_all (Cons e es) d ns h = same_within d

  follows_any : (es : CfgExprs) (d : ℕ) (ns : List CfgNode) → follows d ns ≡ true → follows d (more_any es d ++ ns) ≡ true
  follows_any Nil d ns h = h
  follows_any (Cons e es) d ns h = same_within d

  -- a list that is settled keeps its answer
  settled_all : (e : CfgExpr) (es : CfgExprs) (d : ℕ) (v : Option Bool) (ns : List CfgNode) → follows d ns ≡ true
      → value_of options text v None (more_all es d ++ ns) ≡ value_of options text v None ns
      → value_of options text v (Some d) ((flat e d ++ more_all es d) ++ ns) ≡ value_of options text v None ns
  settled_all e es d v ns h rest =
      ap (value_of options text v (Some d)) (append_assoc (flat e d) (more_all es d) ns)
      ∙ passed e d d v (more_all es d ++ ns) (omega arith) ∙ asked v d (more_all es d ++ ns) (follows_all es d ns h) ∙ rest

  settled_any : (e : CfgExpr) (es : CfgExprs) (d : ℕ) (v : Option Bool) (ns : List CfgNode) → follows d ns ≡ true
      → value_of options text v None (more_any es d ++ ns) ≡ value_of options text v None ns
      → value_of options text v (Some d) ((flat e d ++ more_any es d) ++ ns) ≡ value_of options text v None ns
  settled_any e es d v ns h rest =
      ap (value_of options text v (Some d)) (append_assoc (flat e d) (more_any es d) ns)
      ∙ passed e d d v (more_any es d ++ ns) (omega arith) ∙ asked v d (more_any es d ++ ns) (follows_any es d ns h) ∙ rest

  mutual
    pub expr_is : (e : CfgExpr) (d : ℕ) (v : Option Bool) (ns : List CfgNode) → follows d ns ≡ true
        → value_of options text v None (flat e d ++ ns) ≡ value_of options text (fold options text e) None ns
    expr_is Invalid d v ns h = refl
    expr_is True d v ns h = refl
    expr_is False d v ns h = refl
    expr_is (Flag s) d v ns h = refl
    expr_is (KeyValue key value) d v ns h = refl
    expr_is (Not e) d v ns h =
        ap (value_of options text v None) (append_assoc (flat e (d + 1)) (node.Not (d + 1) ∷ []) ns)
        ∙ expr_is e (d + 1) v (node.Not (d + 1) ∷ ns) (same_within (d + 1))
    expr_is (All es) d v ns h = all_is es (d + 1) v ns (follows-more d ns h)
    expr_is (Any es) d v ns h = any_is es (d + 1) v ns (follows-more d ns h)

    all_is : (es : CfgExprs) (d : ℕ) (v : Option Bool) (ns : List CfgNode) → follows d ns ≡ true
        → value_of options text v None (flat_all es d ++ ns) ≡ value_of options text (all_of options text es) None ns
    all_is Nil d v ns h = refl
    all_is (Cons e es) d v ns h =
        ap (value_of options text v None) (append_assoc (flat e d) (more_all es d) ns)
        ∙ expr_is e d v (more_all es d ++ ns) (follows_all es d ns h) ∙ more_all_is es d (fold options text e) ns h

    more_all_is : (es : CfgExprs) (d : ℕ) (v : Option Bool) (ns : List CfgNode) → follows d ns ≡ true
        → value_of options text v None (more_all es d ++ ns) ≡ value_of options text (if is_true v then all_of options text es else v) None ns
    more_all_is Nil d None ns h = refl
    more_all_is Nil d (Some true) ns h = refl
    more_all_is Nil d (Some false) ns h = refl
    more_all_is (Cons e es) d None ns h = settled_all e es d None ns h (more_all_is es d None ns h)
    more_all_is (Cons e es) d (Some false) ns h = settled_all e es d (Some false) ns h (more_all_is es d (Some false) ns h)
    more_all_is (Cons e es) d (Some true) ns h =
        ap (value_of options text (Some true) None) (append_assoc (flat e d) (more_all es d) ns)
        ∙ expr_is e d (Some true) (more_all es d ++ ns) (follows_all es d ns h) ∙ more_all_is es d (fold options text e) ns h

    any_is : (es : CfgExprs) (d : ℕ) (v : Option Bool) (ns : List CfgNode) → follows d ns ≡ true
        → value_of options text v None (flat_any es d ++ ns) ≡ value_of options text (any_of options text es) None ns
    any_is Nil d v ns h = refl
    any_is (Cons e es) d v ns h =
        ap (value_of options text v None) (append_assoc (flat e d) (more_any es d) ns)
        ∙ expr_is e d v (more_any es d ++ ns) (follows_any es d ns h) ∙ more_any_is es d (fold options text e) ns h

    more_any_is : (es : CfgExprs) (d : ℕ) (v : Option Bool) (ns : List CfgNode) → follows d ns ≡ true
        → value_of options text v None (more_any es d ++ ns) ≡ value_of options text (if is_false v then any_of options text es else v) None ns
    more_any_is Nil d None ns h = refl
    more_any_is Nil d (Some true) ns h = refl
    more_any_is Nil d (Some false) ns h = refl
    more_any_is (Cons e es) d None ns h = settled_any e es d None ns h (more_any_is es d None ns h)
    more_any_is (Cons e es) d (Some true) ns h = settled_any e es d (Some true) ns h (more_any_is es d (Some true) ns h)
    more_any_is (Cons e es) d (Some false) ns h =
        ap (value_of options text (Some false) None) (append_assoc (flat e d) (more_any es d) ns)
        ∙ expr_is e d (Some false) (more_any es d ++ ns) (follows_any es d ns h) ∙ more_any_is es d (fold options text e) ns h

  -- a row that is read to its end
  pub read_whole : (v : Option Bool) (settled : Option ℕ) (i : ℕ) (nodes : List CfgNode) → length nodes ≤ i
      → value_of options text v settled (drop i nodes) ≡ value_of options text None None nodes
      → (e : CfgExpr) (d : ℕ) → nodes ≡ flat e d → v ≡ fold options text e
  read_whole v settled i nodes end read e d is =
      ap (value_of options text v settled) (sym (drop_of_length-le nodes end)) ∙ read
      ∙ ap (value_of options text None None) (is ∙ sym (append-nil (flat e d))) ∙ expr_is e d None [] refl

-- Predicates of `cfg`, what they say, and how they are written in a row.
use Rattle.std.specs.Prelude.{◌+◌, ◌&&◌, ℕ, Bool, true, false, not, List, [], ◌∷◌, ◌++◌, Option, Some, None, nat_le, option_map, if◌then◌else◌}
use Rattle.std.specs.List.{list_any}
use Rattle.std.specs.Str.{bytes_eq}
use Rattle.item_tree.specs.Spans.{name_text}
use Rattle.item_tree.specs.Strings.{string_value}
use Rattle.item_tree.specs.declared.lexer.span.Span.{Span}
use Rattle.item_tree.specs.declared.cfg.CfgNode.{CfgNode}
use Rattle.item_tree.specs.declared.cfg.CfgNode.TheVariants as node
use Rattle.item_tree.specs.declared.cfg.CfgAtom.{CfgAtom}
use Rattle.item_tree.specs.declared.cfg.CfgAtom.TheVariants as atom

-- a predicate, and some predicates in a list
mutual
  pub data CfgExpr : Type 0 where
    Invalid : CfgExpr
    True : CfgExpr
    False : CfgExpr
    Flag : Span → CfgExpr
    KeyValue : Span → Span → CfgExpr
    Not : CfgExpr → CfgExpr
    All : CfgExprs → CfgExpr
    Any : CfgExprs → CfgExpr

  pub data CfgExprs : Type 0 where
    Nil : CfgExprs
    Cons : CfgExpr → CfgExprs → CfgExprs

-- an option that is a name alone
abbrev pub is_flag : List ℕ → CfgAtom → Bool
is_flag name (atom.Flag flag) = bytes_eq flag name
is_flag name (atom.KeyValue key value) = false

-- an option that is this name with this value
abbrev pub is_key_value : List ℕ → List ℕ → CfgAtom → Bool
is_key_value name value (atom.Flag flag) = false
is_key_value name value (atom.KeyValue k v) = bytes_eq k name && bytes_eq value v

abbrev pub has_flag : List CfgAtom → List ℕ → Bool
has_flag options name = list_any (is_flag name) options

abbrev pub has_key_value : List CfgAtom → List ℕ → List ℕ → Bool
has_key_value options name value = list_any (is_key_value name value) options

abbrev pub is_true : Option Bool → Bool
is_true None = false
is_true (Some b) = b

abbrev pub is_false : Option Bool → Bool
is_false None = false
is_false (Some b) = not b

-- whether a predicate holds for these options: None where nobody knows, since what could not be read was asked
abbrev mutual
  pub fold : List CfgAtom → List ℕ → CfgExpr → Option Bool
  fold options text Invalid = None
  fold options text True = Some true
  fold options text False = Some false
  fold options text (Flag s) = Some (has_flag options (name_text text s))
  fold options text (KeyValue k v) = Some (has_key_value options (name_text text k) (string_value text v))
  fold options text (Not e) = option_map not (fold options text e)
  fold options text (All es) = all_of options text es
  fold options text (Any es) = any_of options text es

  -- all hold: the first that does not, or of which nobody knows, is the answer
  pub all_of : List CfgAtom → List ℕ → CfgExprs → Option Bool
  all_of options text Nil = Some true
  all_of options text (Cons e es) = if is_true (fold options text e) then all_of options text es else fold options text e

  -- one holds: the first that does, or of which nobody knows, is the answer
  pub any_of : List CfgAtom → List ℕ → CfgExprs → Option Bool
  any_of options text Nil = Some false
  any_of options text (Cons e es) = if is_false (fold options text e) then any_of options text es else fold options text e

-- the predicate in a row, where so many lists are open around it: of all and any there is a node between each two
-- predicates, and of not one behind its predicate; these nodes say how many lists are open at them
abbrev mutual
  pub flat : CfgExpr → ℕ → List CfgNode
  flat Invalid d = node.Invalid ∷ []
  flat True d = node.True ∷ []
  flat False d = node.False ∷ []
  flat (Flag s) d = node.Flag s ∷ []
  flat (KeyValue k v) d = node.KeyValue k v ∷ []
  flat (Not e) d = flat e (d + 1) ++ node.Not (d + 1) ∷ []
  flat (All es) d = flat_all es (d + 1)
  flat (Any es) d = flat_any es (d + 1)

  pub flat_all : CfgExprs → ℕ → List CfgNode
  flat_all Nil d = node.True ∷ []
  flat_all (Cons e es) d = flat e d ++ more_all es d

  pub more_all : CfgExprs → ℕ → List CfgNode
  more_all Nil d = []
  more_all (Cons e es) d = node.All d ∷ (flat e d ++ more_all es d)

  pub flat_any : CfgExprs → ℕ → List CfgNode
  flat_any Nil d = node.False ∷ []
  flat_any (Cons e es) d = flat e d ++ more_any es d

  pub more_any : CfgExprs → ℕ → List CfgNode
  more_any Nil d = []
  more_any (Cons e es) d = node.Any d ∷ (flat e d ++ more_any es d)

-- what is known behind a node that is asked, of what was known before it
abbrev pub value_behind : List CfgAtom → List ℕ → Option Bool → CfgNode → Option Bool
value_behind options text v node.Invalid = None
value_behind options text v node.True = Some true
value_behind options text v node.False = Some false
value_behind options text v (node.Flag s) = Some (has_flag options (name_text text s))
value_behind options text v (node.KeyValue key value) = Some (has_key_value options (name_text text key) (string_value text value))
value_behind options text v (node.Not d) = option_map not v
value_behind options text v (node.All d) = v
value_behind options text v (node.Any d) = v

-- behind such a node the rest of its list is not asked, where what was known before it is the list's answer
abbrev pub settled_behind : Option Bool → CfgNode → Option ℕ
settled_behind v node.Invalid = None
settled_behind v node.True = None
settled_behind v node.False = None
settled_behind v (node.Flag s) = None
settled_behind v (node.KeyValue key value) = None
settled_behind v (node.Not d) = None
settled_behind v (node.All d) = if is_true v then None else Some d
settled_behind v (node.Any d) = if is_false v then None else Some d

-- nodes between predicates, or behind one, in no more open lists than these
abbrev pub is_within : ℕ → CfgNode → Bool
is_within d node.Invalid = false
is_within d node.True = false
is_within d node.False = false
is_within d (node.Flag s) = false
is_within d (node.KeyValue key value) = false
is_within d (node.Not n) = nat_le n d
is_within d (node.All n) = nat_le n d
is_within d (node.Any n) = nat_le n d

-- a node is asked where no list is settled, or in that list or outside of it
abbrev pub is_asked : Option ℕ → CfgNode → Bool
is_asked None n = true
is_asked (Some d) n = is_within d n

-- what a row of nodes says, where v is known before it, and a list of that depth is settled
abbrev pub value_of : List CfgAtom → List ℕ → Option Bool → Option ℕ → List CfgNode → Option Bool
value_of options text v settled [] = v
value_of options text v settled (n ∷ ns) =
    if is_asked settled n then value_of options text (value_behind options text v n) (settled_behind v n) ns
    else value_of options text v settled ns

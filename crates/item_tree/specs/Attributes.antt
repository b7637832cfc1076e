-- The attributes of a file, and the conditions that they are under.
use Rattle.std.specs.Prelude.{◌+◌, ◌&&◌, ℕ, Bool, true, List, [], ◌∷◌, ◌++◌, Option, Some, None, Result, Ok, Err, length, drop, take, slice_get}
use Rattle.item_tree.specs.CfgReading.{reading}
use Rattle.item_tree.specs.Cfg.{value_of}
use Rattle.item_tree.specs.AttributeReading as places
use Rattle.item_tree.specs.AttributeKinds.{lexemes_in, input_of, kind_of}
use Rattle.item_tree.specs.declared.lexer.word.Word.{Word}
use Rattle.item_tree.specs.declared.lexer.word.Word.TheVariants as word
use Rattle.item_tree.specs.declared.lexer.lexeme.Lexeme.{Lexeme}
use Rattle.item_tree.specs.declared.cfg.CfgAtom.{CfgAtom}
use Rattle.item_tree.specs.declared.cfg.CfgNode.{CfgNode}
use Rattle.item_tree.specs.declared.cfg.CfgNode.TheVariants as node
use Rattle.item_tree.specs.declared.items.Range.{Range}
use Rattle.item_tree.specs.declared.attributes.attribute_kind.NodeRange.{NodeRange}
use Rattle.item_tree.specs.declared.attributes.attribute_kind.AttributeInput.{AttributeInput}
use Rattle.item_tree.specs.declared.attributes.attribute_kind.AttributeInput.TheVariants.{List as InList}
use Rattle.item_tree.specs.declared.attributes.attribute_kind.AttributeKind.{AttributeKind}
use Rattle.item_tree.specs.declared.attributes.attribute_kind.AttributeKind.TheVariants as says
use Rattle.item_tree.specs.declared.attributes.attribute_reader.AttributePlace.{AttributePlace}
use Rattle.item_tree.specs.declared.attributes.attribute_reader.ConditionPlace.{ConditionPlace}
use Rattle.item_tree.specs.declared.attributes.Attribute.{Attribute}
use Rattle.item_tree.specs.declared.attributes.Condition.{Condition}

-- the attributes, their conditions, the nodes of all predicates, and the lexemes where something goes wrong
pub record Table : Type 0 where
  pub attributes : List Attribute
  pub conditions : List Condition
  pub nodes : List CfgNode
  pub errors : List ℕ

abbrev pub empty : Table
empty = record { attributes = []; conditions = []; nodes = []; errors = [] }

-- a predicate that cannot be read is one of which nobody knows whether it holds
abbrev pub nodes_of : Result (List CfgNode) ℕ → List CfgNode
nodes_of (Ok ns) = ns
nodes_of (Err at) = node.Invalid ∷ []

abbrev pub errors_of : ℕ → Result (List CfgNode) ℕ → List ℕ
errors_of first (Ok ns) = []
errors_of first (Err at) = (first + at) ∷ []

-- the predicate that these lexemes are
abbrev pub read : List ℕ → List Lexeme → Range → Result (List CfgNode) ℕ
read text ls r = reading text (lexemes_in ls r)

abbrev pub with_predicate : List ℕ → List Lexeme → Range → Table → Table
with_predicate text ls r t = record t { nodes = t.nodes ++ nodes_of (read text ls r); errors = t.errors ++ errors_of r.first (read text ls r) }

-- where its nodes are then
abbrev pub predicate_range : List ℕ → List Lexeme → Range → Table → NodeRange
predicate_range text ls r t = record { start = length t.nodes; len = length (nodes_of (read text ls r)) }

abbrev pub conditioned : Condition → Table → Table
conditioned c t = record t { conditions = t.conditions ++ c ∷ [] }

abbrev pub with_condition : List ℕ → List Lexeme → ConditionPlace → Table → Table
with_condition text ls p t =
    conditioned (record { outer = p.outer; predicate = predicate_range text ls p.predicate t }) (with_predicate text ls p.predicate t)

-- an attribute that has not what it takes is an error
abbrev pub faults_of : AttributeKind → ℕ → List ℕ
faults_of says.Malformed at = at ∷ []
faults_of _ at = []

abbrev pub pushed : AttributeKind → AttributePlace → Table → Table
pushed k p t = record t {
  attributes = t.attributes ++ record { kind = k; inner = p.inner; condition = p.condition; input = p.input } ∷ [];
  errors = t.errors ++ faults_of k p.input.first;
}

-- the predicate of a `cfg`
abbrev pub cfg_list : Word → AttributeInput → Option Range
cfg_list word.Cfg (InList r) = Some r
cfg_list _ _ = None

-- an attribute says what its name and its input tell; that of `cfg` is a predicate
abbrev pub with_kind : List ℕ → List Lexeme → AttributePlace → Option Range → AttributeInput → Table → Table
with_kind text ls p (Some r) input t = pushed (says.Cfg (predicate_range text ls r t)) p (with_predicate text ls r t)
with_kind text ls p None input t = pushed (kind_of p.name input) p t

abbrev pub with_input : List ℕ → List Lexeme → AttributePlace → AttributeInput → Table → Table
with_input text ls p input t = with_kind text ls p (cfg_list p.name input) input t

abbrev pub with_attribute : List ℕ → List Lexeme → AttributePlace → Table → Table
with_attribute text ls p t = with_input text ls p (input_of text ls p.input) t

abbrev pub with_conditions : List ℕ → List Lexeme → List ConditionPlace → Table → Table
with_conditions text ls [] t = t
with_conditions text ls (p ∷ ps) t = with_conditions text ls ps (with_condition text ls p t)

abbrev pub with_attributes : List ℕ → List Lexeme → List AttributePlace → Table → Table
with_attributes text ls [] t = t
with_attributes text ls (p ∷ ps) t = with_attributes text ls ps (with_attribute text ls p t)

-- all that is found in the lexemes of a file
abbrev pub attributes_of : List ℕ → List Lexeme → Table
attributes_of text ls = with_attributes text ls (places.reading ls).attributes (with_conditions text ls (places.reading ls).conditions empty)

abbrev pub nodes_in : List CfgNode → NodeRange → List CfgNode
nodes_in ns r = take r.len (drop r.start ns)

-- what is under a predicate stays, unless the predicate is known not to hold
abbrev pub may_hold : Option Bool → Bool
may_hold None = true
may_hold (Some b) = b

abbrev pub or_true : Option Bool → Bool
or_true None = true
or_true (Some b) = b

-- what is under no condition stays
abbrev pub is_active : List Bool → Option ℕ → Bool
is_active active None = true
is_active active (Some n) = or_true (slice_get active n)

abbrev pub holds : List CfgAtom → List ℕ → List CfgNode → Condition → Bool
holds options text nodes c = may_hold (value_of options text None None (nodes_in nodes c.predicate))

-- a condition is active where its predicate may hold, and so may those of the conditions around it, which stand before it
abbrev pub active_from : List CfgAtom → List ℕ → List CfgNode → List Bool → List Condition → List Bool
active_from options text nodes active [] = active
active_from options text nodes active (c ∷ cs) = active_from options text nodes (active ++ (holds options text nodes c && is_active active c.outer) ∷ []) cs

abbrev pub active_conditions : List CfgAtom → List ℕ → Table → List Bool
active_conditions options text t = active_from options text t.nodes [] t.conditions

-- The attributes of a file are found, and stand in its table, in the order of their places.
use Rattle.std.proofs.Common.{◌≡◌, ◌+◌, ◌-◌, ◌<◌, ◌≤◌, ◌==◌, ◌++◌, ℕ, Bool, true, false, List, [], ◌∷◌, length, get_or, take, refl, ap, sym, ◌∙◌, subst, arith, length-append, append_assoc}
use Rattle.std.specs.Prelude.{Option, Some, None, map, not, slice_get, ◌&&◌, if◌then◌else◌}
use Rattle.std.specs.List.Sorted.{IsNonDecreasingBy}
use Rattle.std.proofs.lemmas.List.{get_or_push, length-map, map-append, append-nil}
use Rattle.std.proofs.lemmas.List.Sorted.{IsNonDecreasingBy-short, IsNonDecreasingBy-push}
use Rattle.std.proofs.Math.ListN.{get_or-map}
use Rattle.item_tree.specs.AttributeReading as reads
use Rattle.item_tree.specs.AttributeReading.{Reading, is_in_group, found, finished, finished_from, closed, closed_from, opened, conditioned, to, outside, behind_hash, started, opened_behind, ended_input, closed_input, in_input, behind_name, in_predicate, behind, step, step_from, run, reading}
use Rattle.item_tree.specs.Attributes.{Table, cfg_list, with_kind, with_attribute, with_conditions, with_attributes, attributes_of, empty}
use Rattle.item_tree.specs.AttributeKinds.{input_of}
use Rattle.item_tree.specs.ItemAttributes.{InOrder}
use Rattle.item_tree.specs.declared.attributes.attribute_kind.AttributeInput.{AttributeInput}
use Rattle.item_tree.specs.declared.items.Range.{Range}
use Rattle.item_tree.specs.declared.attributes.attribute_reader.AttributePlace.{AttributePlace}
use Rattle.item_tree.specs.declared.attributes.attribute_reader.ConditionPlace.{ConditionPlace}
use Rattle.item_tree.specs.declared.attributes.attribute_reader.AttributeLevel.{AttributeLevel}
use Rattle.item_tree.specs.declared.attributes.attribute_reader.AttributeLevel.TheVariants.{Group, Wrapped}
use Rattle.item_tree.specs.declared.attributes.attribute_reader.AttributePhase.{AttributePhase}
use Rattle.item_tree.specs.declared.attributes.attribute_reader.AttributePhase.TheVariants.{Outside, Hash, Bang, Start, Named, Input, Predicate, Behind}
use Rattle.item_tree.specs.declared.attributes.Attribute.{Attribute}
use Rattle.item_tree.specs.declared.lexer.lexeme.Delimiter.TheVariants.{Parenthesis, Bracket}
use Rattle.item_tree.specs.declared.lexer.lexeme.LexemeKind.{LexemeKind}
use Rattle.item_tree.specs.declared.lexer.lexeme.LexemeKind.TheVariants as kind
use Rattle.item_tree.specs.declared.lexer.lexeme.Lexeme.{Lexeme}
use Rattle.item_tree.specs.declared.lexer.word.Word.{Word}
use Rattle.item_tree.specs.declared.lexer.word.Word.TheVariants as word

abbrev place : AttributePlace → ℕ
place p = p.input.first

-- the least place of an attribute that is still to come
abbrev least : AttributePhase → ℕ → ℕ
least Outside at = at
least Hash at = at
least Bang at = at
least Start at = at
least (Named w s) at = s
least (Input w s) at = s
least (Predicate p) at = at
least Behind at = at

-- what is found stands in order, and before what is still to come
record Ordered (at : ℕ) (r : Reading) : Type 0 where
  pub sorted : IsNonDecreasingBy place r.attributes
  pub last : (d : AttributePlace) → 0 < length r.attributes → place (get_or r.attributes (length r.attributes - 1) d) ≤ least r.phase at
  pub low : least r.phase at ≤ at

grows : (p : AttributePhase) (at : ℕ) → least p at ≤ least p (at + 1)
grows Outside at = omega arith
grows Hash at = omega arith
grows Bang at = omega arith
grows Start at = omega arith
grows (Named w s) at = omega arith
grows (Input w s) at = omega arith
grows (Predicate p) at = omega arith
grows Behind at = omega arith

stays_low : (p : AttributePhase) (at : ℕ) → least p at ≤ at → least p (at + 1) ≤ at + 1
stays_low Outside at h = omega arith
stays_low Hash at h = omega arith
stays_low Bang at h = omega arith
stays_low Start at h = omega arith
stays_low (Named w s) at h = omega arith
stays_low (Input w s) at h = omega arith
stays_low (Predicate p) at h = omega arith
stays_low Behind at h = omega arith

module _ (at : ℕ) where
  -- a reading with the same attributes, where none that is still to come stands before those
  kept : (r s : Reading) → s.attributes ≡ r.attributes → least r.phase at ≤ least s.phase (at + 1) → least s.phase (at + 1) ≤ at + 1 → Ordered at r → Ordered (at + 1) s
  kept r s same up low o = record {
    sorted = subst (λ (xs : List AttributePlace). IsNonDecreasingBy place xs) (sym same) o.sorted;
    last = subst (λ (xs : List AttributePlace). (d : AttributePlace) → 0 < length xs → place (get_or xs (length xs - 1) d) ≤ least s.phase (at + 1)) (sym same)
        (λ d some. let before = o.last d some in omega arith);
    low = low;
  }

  -- in a phase in which none is begun
  phased : (r s : Reading) → s.attributes ≡ r.attributes → least s.phase (at + 1) ≡ at + 1 → Ordered at r → Ordered (at + 1) s
  phased r s same fresh o = let low = o.low in kept r s same (omega arith) (omega arith) o

  -- in the same phase
  later : (r s : Reading) → s.attributes ≡ r.attributes → s.phase ≡ r.phase → Ordered at r → Ordered (at + 1) s
  later r s same phase o =
      let is : least s.phase (at + 1) ≡ least r.phase (at + 1) = ap (λ p. least p (at + 1)) phase in
      let up = grows r.phase at in
      let low = stays_low r.phase at o.low in
      kept r s same (omega arith) (omega arith) o

  -- in an attribute that is begun
  goes_on : (r s : Reading) (first : ℕ) → s.attributes ≡ r.attributes → least r.phase at ≡ first → least s.phase (at + 1) ≡ first → Ordered at r → Ordered (at + 1) s
  goes_on r s first same begun is o = let low = o.low in kept r s same (omega arith) (omega arith) o

  found_ordered : (name : Word) (first : ℕ) (r : Reading) → least r.phase at ≡ first → Ordered at r → Ordered at (found name first at r)
  found_ordered name first r is o =
      let p : AttributePlace = record { name = name; inner = r.inner; condition = r.condition; input = record { first = first; behind = at } } in
      let len : length (r.attributes ++ p ∷ []) - 1 ≡ length r.attributes = omega (arith, length-append r.attributes (p ∷ [])) in
      record {
        sorted = IsNonDecreasingBy-push place r.attributes p o.sorted (λ d some. let before = o.last d some in omega arith);
        last = λ d some.
            let it : get_or (r.attributes ++ p ∷ []) (length (r.attributes ++ p ∷ []) - 1) d ≡ p
            = ap (λ k. get_or (r.attributes ++ p ∷ []) k d) len ∙ get_or_push r.attributes p d (length r.attributes) refl in
            let its : place (get_or (r.attributes ++ p ∷ []) (length (r.attributes ++ p ∷ []) - 1) d) ≡ first = ap place it in
            omega arith;
        low = o.low;
      }

  finished_ordered : (r : Reading) → Ordered at r → Ordered at (finished at r)
  finished_ordered r o = by r.phase refl
    where
      by : (p : AttributePhase) → r.phase ≡ p → Ordered at (finished_from p at r)
      by Outside is = o
      by Hash is = o
      by Bang is = o
      by Start is = o
      by (Named w s) is = found_ordered w s r (ap (λ q. least q at) is) o
      by (Input w s) is = found_ordered w s r (ap (λ q. least q at) is) o
      by (Predicate p) is = o
      by Behind is = o

  closed_ordered : (r : Reading) → Ordered at r → Ordered (at + 1) (closed r)
  closed_ordered r o = by (slice_get r.levels (length r.levels - 1))
    where
      rest : Reading
      rest = record r { levels = take (length r.levels - 1) r.levels }

      by : (l : Option AttributeLevel) → Ordered (at + 1) (closed_from l (record r { levels = take (length r.levels - 1) r.levels }))
      by None = phased r (closed_from None (record r { levels = take (length r.levels - 1) r.levels })) refl refl o
      by (Some Group) = later r (record r { levels = take (length r.levels - 1) r.levels }) refl refl o
      by (Some (Wrapped c)) = phased r (closed_from (Some (Wrapped c)) (record r { levels = take (length r.levels - 1) r.levels })) refl refl o

  chosen : (c : Bool) (s t : Reading) → Ordered (at + 1) s → Ordered (at + 1) t → Ordered (at + 1) (if c then s else t)
  chosen true s t h k = h
  chosen false s t h k = k

  outside_ordered : (k : LexemeKind) (r : Reading) → Ordered at r → Ordered (at + 1) (outside k r)
  outside_ordered (kind.Mark b) r o = by (b == 35)
    where
      by : (c : Bool) → Ordered (at + 1) (to (if c then Hash else Outside) r)
      by true = phased r (to Hash r) refl refl o
      by false = phased r (to Outside r) refl refl o
  outside_ordered _ r o = phased r (to Outside r) refl refl o

  hash_ordered : (inner : Bool) (k : LexemeKind) (r : Reading) → Ordered at r → Ordered (at + 1) (behind_hash inner k r)
  hash_ordered inner (kind.Open Bracket) r o = phased r (behind_hash inner (kind.Open Bracket) r) refl refl o
  hash_ordered inner (kind.Mark b) r o =
      chosen ((b == 33) && not inner) (to Bang r) (outside (kind.Mark b) r) (phased r (to Bang r) refl refl o) (outside_ordered (kind.Mark b) r o)
  hash_ordered inner k r o = outside_ordered k r o

  started_ordered : (k : LexemeKind) (r : Reading) → Ordered at r → Ordered (at + 1) (started at k r)
  started_ordered (kind.Word w) r o = phased r (to (Named w (at + 1)) r) refl refl o
  started_ordered (kind.Open d) r o = phased r (opened Group (Input word.Other (at + 1)) r) refl refl o
  started_ordered (kind.Close d) r o = closed_ordered r o
  started_ordered (kind.Mark b) r o =
      chosen (b == 44) r (to (Input word.Other (at + 1)) r) (later r r refl refl o) (phased r (to (Input word.Other (at + 1)) r) refl refl o)
  started_ordered _ r o = phased r (to (Input word.Other (at + 1)) r) refl refl o

  input_ordered : (k : LexemeKind) (r : Reading) → Ordered at r → Ordered (at + 1) (in_input at k r)
  input_ordered (kind.Open d) r o = later r (opened Group r.phase r) refl refl o
  input_ordered (kind.Close d) r o = by (is_in_group r)
    where
      by : (c : Bool) → Ordered (at + 1) (closed (if c then r else finished at r))
      by true = closed_ordered r o
      by false = closed_ordered (finished at r) (finished_ordered r o)
  input_ordered (kind.Mark b) r o =
      chosen (b == 44) (ended_input at r) r
      (chosen (is_in_group r) r (to Start (finished at r)) (later r r refl refl o) (phased (finished at r) (to Start (finished at r)) refl refl (finished_ordered r o)))
      (later r r refl refl o)
  input_ordered _ r o = later r r refl refl o

  parenthesis_ordered : (name : Word) (first : ℕ) (r : Reading) → least r.phase at ≡ first → Ordered at r → Ordered (at + 1) (opened_behind name first at r)
  parenthesis_ordered word.CfgAttr first r is o = phased r (opened (Wrapped r.condition) (Predicate (at + 1)) r) refl refl o
  parenthesis_ordered word.Unsafe first r is o = phased r (opened (Wrapped r.condition) Start r) refl refl o
  parenthesis_ordered name first r is o = goes_on r (opened Group (Input name first) r) first refl is refl o

  -- behind its name an attribute has its input
  begun : (name : Word) (first : ℕ) (r : Reading) → least r.phase at ≡ first → Ordered at r → Ordered at (to (Input name first) r)
  begun name first r is o = let low = o.low in record { sorted = o.sorted; last = λ d some. let before = o.last d some in omega arith; low = omega arith }

  name_ordered : (name : Word) (first : ℕ) (k : LexemeKind) (r : Reading) → least r.phase at ≡ first → Ordered at r → Ordered (at + 1) (behind_name name first at k r)
  name_ordered name first (kind.Open Parenthesis) r is o = parenthesis_ordered name first r is o
  name_ordered name first (kind.Mark b) r is o =
      chosen (b == 58) (to (Input word.Other first) r) (in_input at (kind.Mark b) (to (Input name first) r))
      (goes_on r (to (Input word.Other first) r) first refl is refl o) (input_ordered (kind.Mark b) (to (Input name first) r) (begun name first r is o))
  name_ordered name first k r is o = input_ordered k (to (Input name first) r) (begun name first r is o)

  predicate_ordered : (p : ℕ) (k : LexemeKind) (r : Reading) → Ordered at r → Ordered (at + 1) (in_predicate p at k r)
  predicate_ordered p (kind.Open d) r o = phased r (opened Group (Predicate p) r) refl refl o
  predicate_ordered p (kind.Close d) r o = closed_ordered r o
  predicate_ordered p (kind.Mark b) r o =
      chosen ((b == 44) && not (is_in_group r)) (conditioned p at r) r (phased r (conditioned p at r) refl refl o) (later r r refl refl o)
  predicate_ordered p _ r o = later r r refl refl o

  behind_ordered : (k : LexemeKind) (r : Reading) → Ordered at r → Ordered (at + 1) (behind k r)
  behind_ordered (kind.Open d) r o = phased r (opened Group Behind r) refl refl o
  behind_ordered (kind.Close d) r o = closed_ordered r o
  behind_ordered (kind.Mark b) r o =
      chosen ((b == 44) && not (is_in_group r)) (to Start r) r (phased r (to Start r) refl refl o) (later r r refl refl o)
  behind_ordered _ r o = later r r refl refl o

  step_ordered : (k : LexemeKind) (r : Reading) → Ordered at r → Ordered (at + 1) (step at k r)
  step_ordered k r o = by r.phase refl
    where
      by : (p : AttributePhase) → r.phase ≡ p → Ordered (at + 1) (step_from p at k r)
      by Outside is = outside_ordered k r o
      by Hash is = hash_ordered false k r o
      by Bang is = hash_ordered true k r o
      by Start is = started_ordered k r o
      by (Named w s) is = name_ordered w s k r (ap (λ q. least q at) is) o
      by (Input w s) is = input_ordered k r o
      by (Predicate p) is = predicate_ordered p k r o
      by Behind is = behind_ordered k r o

run_ordered : (at : ℕ) (r : Reading) (ls : List Lexeme) → Ordered at r → IsNonDecreasingBy place (run at r ls).attributes
run_ordered at r [] o = (finished_ordered at r o).sorted
run_ordered at r (l ∷ ls) o = run_ordered (at + 1) (step at l.kind r) ls (step_ordered at l.kind r o)

places_ordered : (ls : List Lexeme) → IsNonDecreasingBy place (reading ls).attributes
places_ordered ls = run_ordered 0 reads.start ls (record { sorted = IsNonDecreasingBy-short place [] (omega arith); last = λ d some. absurd (omega arith); low = omega arith })

abbrev told : Attribute → ℕ
told a = a.input.first

module _ (text : List ℕ) (ls : List Lexeme) where
  conditions_alone : (ps : List ConditionPlace) (t : Table) → (with_conditions text ls ps t).attributes ≡ t.attributes
  conditions_alone [] t = refl
  conditions_alone (p ∷ ps) t = conditions_alone ps _

  one_told : (p : AttributePlace) (t : Table) (o : Option Range) (i : AttributeInput) → map told (with_kind text ls p o i t).attributes ≡ map told t.attributes ++ place p ∷ []
  one_told p t (Some r) i = map-append told t.attributes _
  one_told p t None i = map-append told t.attributes _

  all_told : (ps : List AttributePlace) (t : Table) → map told (with_attributes text ls ps t).attributes ≡ map told t.attributes ++ map place ps
  all_told [] t = sym (append-nil (map told t.attributes))
  all_told (p ∷ ps) t =
      all_told ps (with_attribute text ls p t)
      ∙ ap (λ xs. xs ++ map place ps) (one_told p t (cfg_list p.name (input_of text ls p.input)) (input_of text ls p.input)) ∙ append_assoc (map told t.attributes) (place p ∷ []) (map place ps)

  at_place : (xs : List Attribute) (ps : List AttributePlace) (i : ℕ) (d : Attribute) → map told xs ≡ map place ps
      → told (get_or xs i d) ≡ place (get_or ps i (record { name = word.Other; inner = d.inner; condition = d.condition; input = d.input }))
  at_place xs ps i d same =
      sym (get_or-map told xs i d) ∙ ap (λ ns. get_or ns i (told d)) same
      ∙ get_or-map place ps i (record { name = word.Other; inner = d.inner; condition = d.condition; input = d.input })

  pub attributes_in_order : InOrder (attributes_of text ls).attributes
  attributes_in_order = λ i j d low high.
      let places = (reading ls).attributes in
      let same : map told (attributes_of text ls).attributes ≡ map place places
      = all_told places (with_conditions text ls (reading ls).conditions empty) ∙ ap (λ xs. map told xs ++ map place places) (conditions_alone (reading ls).conditions empty) in
      let long : length (attributes_of text ls).attributes ≡ length places
      = sym (length-map (attributes_of text ls).attributes told) ∙ ap length same ∙ length-map places place in
      let e : AttributePlace = record { name = word.Other; inner = d.inner; condition = d.condition; input = d.input } in
      let a = at_place (attributes_of text ls).attributes places i d same in
      let b = at_place (attributes_of text ls).attributes places j d same in
      let h = places_ordered ls i j e low (omega arith) in
      omega arith

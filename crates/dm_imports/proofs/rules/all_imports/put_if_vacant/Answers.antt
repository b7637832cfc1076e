use Rattle.std.proofs.Common.{◌≡◌, ◌∙◌, ap, sym, is_some, true, false, Option, None, Some, refl}
use Rattle.std.specs.Option.{option_or}
use Rattle.dm_imports.specs.declared.meaning.Meaning.{Meaning}
use Rattle.dm_imports.proofs.OutcomeLemmas.{on-ok-then}
use Rattle.dm_imports.proofs.SlotLemmas.{slot-kept, slot-written}
use Rattle.dm_imports.proofs.rules.all_imports.put_if_vacant.Goals as goal

first : (o b : Option Meaning) → is_some o ≡ true → option_or o b ≡ o
first None b e = cc
first (Some x) b e = refl

second : (o b : Option Meaning) → is_some o ≡ false → option_or o b ≡ b
second None b e = refl
second (Some x) b e = cc

pub returns-then-is_some : goal.returns-then-is_some
returns-then-is_some c =
    slot-kept c.args.all.now c.args.m c.args.name.now c.args.namespace (λ o. option_or o c.args.brought)
    (first _ c.args.brought (ap is_some (sym c.get.ensures) ∙ sym c.is_some.ensures ∙ c.if-is_some.true))

pub returns-in-Some : goal.returns-in-Some
returns-in-Some c =
    let vacant = ap is_some (sym c.get.ensures) ∙ sym c.is_some.ensures ∙ c.if-is_some.false in
    on-ok-then c.put.result
    (λ h. slot-written c.args.all.now c.put.new.self c.args.m c.args.name.now c.args.namespace c.in-Some.meaning h
    (λ o. option_or o c.args.brought) (second _ c.args.brought vacant ∙ c.in-Some.is)) c.put.ensures

use Rattle.std.proofs.Common.{◌≡◌, drop}
use Rattle.std.specs.Prelude.{fold}
use Rattle.crate_items.specs.Constructors.{with_field}
use Rattle.crate_items.proofs.items.constructor.with_members.Given as goal

-- what is least so far, with the fields that are left, is least with all
abbrev pub invariant-loop-member : goal.invariant-loop-member
invariant-loop-member l =
    fold (with_field l.options l.edition l.list l.text l.source l.number) l.least (drop l.member-index l.members)
    ≡ fold (with_field l.options l.edition l.list l.text l.source l.number) l.fn.visibility l.members

-- What the iterator of a namespace yields.
use Rattle.std.specs.Borrow.{Bor}
use Rattle.dm_base.specs.Names.{Name}

-- what a name's reference points to, beside what comes with it
abbrev pub deref_name : {X : Type 0} → Bor Name × X → Name × X
deref_name p = (p.0.now, p.1)

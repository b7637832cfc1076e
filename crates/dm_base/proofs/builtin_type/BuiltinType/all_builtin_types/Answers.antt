use Rattle.std.proofs.Common.{rules}
use Rattle.dm_base.proofs.NamedWords.{all-named, if-ok}
use Rattle.dm_base.proofs.builtin_type.BuiltinType.all_builtin_types.Goals as goal

pub returns : goal.returns
returns c =
    if-ok c.try_map.result
    (λ ys each. all-named each (λ b y step. let called = step.2 in search rules))
    c.try_map.ensures.ok

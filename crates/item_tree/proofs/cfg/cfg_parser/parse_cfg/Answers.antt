use Rattle.std.proofs.Common.{◌∙◌}
use Rattle.item_tree.proofs.CfgWritten.{read_written}
use Rattle.item_tree.proofs.cfg.cfg_parser.parse_cfg.Goals as goal

pub returns-clause-written : goal.returns-clause-written
returns-clause-written c p m h is e = c.in_ok-parse.ensures.exact ∙ read_written c.args.text.now p m c.args.lexemes.now h is e

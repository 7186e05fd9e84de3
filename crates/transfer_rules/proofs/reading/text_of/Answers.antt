use Rattle.transfer_rules.proofs.Refusing.{text_is}
use Rattle.transfer_rules.proofs.reading.text_of.Goals as goal

pub unreachable-requires : goal.unreachable-requires
unreachable-requires c = c.in-Err.ensures.cases.0 (text_is c.args.bytes.now c.requires.0 c.requires.1)

use Rattle.tdl_lexer.proofs.Spans.{cuts}
use Rattle.tdl_lexer.proofs.values.spelled.Goals as goal

pub range-requires-clause-start_le_end : goal.range-requires-clause-start_le_end
range-requires-clause-start_le_end c = (cuts c.args.text.now c.args.token.now c.requires).ordered

pub range-requires-clause-start_boundary : goal.range-requires-clause-start_boundary
range-requires-clause-start_boundary c = λ _. (cuts c.args.text.now c.args.token.now c.requires).from

pub range-requires-clause-end_boundary : goal.range-requires-clause-end_boundary
range-requires-clause-end_boundary c = (cuts c.args.text.now c.args.token.now c.requires).to

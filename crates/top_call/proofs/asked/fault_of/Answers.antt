use Rattle.std.proofs.Common.{map, string_bytes}
use Rattle.top_call.proofs.Words.{tells-words}
use Rattle.top_call.proofs.asked.fault_of.Goals as goal

pub returns-in-Usage : goal.returns-in-Usage
returns-in-Usage c = λ formless. (formless c.in-Usage.is, tells-words (map (λ w. string_bytes w) c.args.words.now) c.told_of.result.items (formless c.in-Usage.is) c.told_of.ensures)

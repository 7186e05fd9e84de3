use Rattle.std.proofs.Common.{string_bytes}
use Rattle.tree_faults.proofs.LastWords.{is_one}
use Rattle.tree_faults.proofs.said.is_among.Goals as goal

pub returns : goal.returns
returns c = is_one (string_bytes c.args.word.now) c.args.words.now c.contains.result c.contains.ensures.value

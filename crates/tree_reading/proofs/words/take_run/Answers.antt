use Rattle.std.specs.String.{string_bytes}
use Rattle.tree_reading.proofs.WordReading.{added}
use Rattle.tree_reading.proofs.words.take_run.Goals as goal

pub returns-clause-read : goal.returns-clause-read
returns-clause-read c =
    added (string_bytes c.args.word.now) (string_bytes c.push_str.new.self) c.args.text.now c.split_run.result.0.now c.split_run.result.1.now
    c.split_run.ensures.whole c.split_run.ensures.run c.split_run.ensures.cut c.in_ok-push_str.ensures.bytes

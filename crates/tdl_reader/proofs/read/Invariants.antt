use Rattle.std.proofs.Common.{◌≡◌, drop}
use Rattle.tdl_reader.specs.Machine.{begun}
use Rattle.tdl_reader.specs.Running.{read_from}
use Rattle.tdl_reader.specs.Stages.{past_of, stage_of}
use Rattle.tdl_reader.specs.Toks.{toks_of}
use Rattle.tdl_reader.proofs.read.Given as goal

abbrev pub invariant-loop-token : goal.invariant-loop-token
invariant-loop-token l = read_from (record { done = past_of l.done; stage = stage_of l.stage }) (toks_of l.text (drop l.token-index l.tokens)) ≡ read_from begun (toks_of l.text l.tokens)

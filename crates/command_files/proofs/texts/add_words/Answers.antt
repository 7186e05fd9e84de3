use Rattle.std.proofs.Common.{Bor, List, ℕ}
use Rattle.command_files.proofs.Spaced.{word-step}
use Rattle.command_files.proofs.texts.add_words.Goals as goal

pub loop-word-preserved : goal.loop-word-preserved
loop-word-preserved c =
    word-step (λ (t : Bor (List ℕ)). t.now) c.args.words.now c.loop-word.word-index _ c.args.line.now.items c.loop-word.line.items c.add_word.new.line.items c.loop-word-test.true c.loop-word.invariant c.in_ok-add_word.ensures

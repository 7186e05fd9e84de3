use Rattle.std.proofs.Common.{◌≡◌, ◌++◌, map, drop}
use Rattle.closed_lists.specs.Names.{words_in}
use Rattle.item_reports.specs.Sentences.{folded}
use Rattle.item_reports.proofs.sentence.folded_runs.Given as goal

abbrev pub invariant-loop-run : goal.invariant-loop-run
invariant-loop-run l = words_in l.out ++ map folded (map (λ w. w.now) (drop l.run-index l.runs)) ≡ map folded (map (λ w. w.now) l.runs)

use Rattle.std.proofs.Common.{◌≡◌, ◌++◌, map, drop}
use Rattle.realized_trees.specs.Views.{sentence_seen}
use Rattle.sentence_reports.specs.Reports.{sentence_line, sentences_lines}
use Rattle.sentence_reports.proofs.lines_of_sentences.Given as goal

abbrev pub invariant-loop-sentence : goal.invariant-loop-sentence
invariant-loop-sentence l =
    map (λ v. v.items) l.lines.items ++ map sentence_line (map sentence_seen (drop l.sentence-index l.sentences)) ≡ sentences_lines l.number l.classes (map sentence_seen l.sentences)

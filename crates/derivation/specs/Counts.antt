-- How many words are still to be counted.
use Rattle.std.specs.Prelude.{ℕ, ◌+◌, List}
use Rattle.std.specs.List.{sum_by}
use Rattle.derivation.specs.Views.{derivation_of}
use Rattle.derivation.specs.Order.{word_count}
use Rattle.derivation.specs.declared.Tree.{Tree}
use Rattle.derivation.specs.declared.counts.Left.{Left, Nothing, Trees'}

abbrev pub word_count_of : Tree → ℕ
word_count_of tree = word_count (derivation_of tree)

abbrev pub words_of : List Tree → ℕ
words_of trees = sum_by word_count_of trees

abbrev pub words_left : Left → ℕ
words_left Nothing = 0
words_left (Trees' trees p behind) = words_of trees.now + words_left behind

-- The answer to an MRS: the sentences of the trees that realize it, or the limit that it breaks (Kay 1996; Carroll, Copestake,
-- Flickinger and Poznanski 1999).
use Rattle.std.specs.Prelude.{ℕ, Option, List}
use Rattle.chart_core.specs.declared.Limits as declared
use Rattle.chart_model.specs.declared.counts.Counts.{Counts}
use Rattle.lexicon.specs.Entries.{EntryTree}
use Rattle.spelling_rules.specs.Trees.{SpellingTree}
use Rattle.mrs_model.specs.Meanings.{Meaning}
use Rattle.mrs_places.specs.Paths.{Feature, Paths}
use Rattle.tree_model.specs.Signs.{Signs}
use Rattle.tree_model.specs.Lexical.{Words}
use Rattle.tree_model.specs.Items.{Limits}
use Rattle.packed_items.specs.Answers.{limits_in}
use Rattle.lexical_items.specs.Said.{words_said}
use Rattle.book_signs.specs.Trees.{SignTree, signs_of, entries_of, lexical_rules_of}
use Rattle.generate_model.specs.Contributions.{Input, asked_of}
use Rattle.generate_model.specs.Realizations.{IsTold}
use Rattle.generate_model.specs.Sentences.{GenAnswer, IsGenAnswer}
use Rattle.generated_leaves.specs.Given.{input_of}

-- The answer to an input. `own` has what the phrase rules contribute, by place, and is fixed by that.
abbrev pub IsSentenceAnswer : Signs → Words → Input → ℕ → ℕ → Limits → GenAnswer → Type 0
IsSentenceAnswer g words input most_rules most_empty limits a =
    (own : ℕ → Option Counts) × IsTold g (asked_of g input) own × IsGenAnswer g words (asked_of g input) most_rules most_empty own limits a

-- what is said of words by a lexicon and a spelling
abbrev pub words_by : SignTree → List EntryTree → SpellingTree → Words
words_by t lexicon s = words_said (entries_of (signs_of t)) (lexical_rules_of (signs_of t)) lexicon s

-- The answer to an MRS by a grammar's signs, its lexicon and its spelling, under these limits.
abbrev pub IsAnswerTo : SignTree → List EntryTree → SpellingTree → Paths → List Feature → Meaning → declared.Limits → GenAnswer → Type 0
IsAnswerTo t lexicon s paths c_cont meaning limits a =
    IsSentenceAnswer (signs_of t) (words_by t lexicon s) (input_of t.book.system.types paths c_cont meaning) limits.lexical limits.empty (limits_in limits) a

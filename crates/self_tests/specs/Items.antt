-- The items of a workload: the answers to its lines, and what is counted of them.
use Rattle.std.specs.Prelude.{ℕ, ◌≡◌, List, length, map}
use Rattle.std.specs.List.{AllZip}
use Rattle.std.specs.Str.{chars}
use Rattle.tree_model.specs.Signs.{Signs}
use Rattle.tree_model.specs.Lexical.{Words}
use Rattle.tree_model.specs.Items.{Limits, Answer, Trees}
use Rattle.tree_model.specs.Answers.{IsParseAnswer}
use Rattle.lexical_items.specs.Seen.{lattice_seen}
use Rattle.engine.specs.Speeches.{lattice_of_words}
use Rattle.self_tests.specs.declared.counts.Count.{Count}
use Rattle.self_tests.specs.declared.counts.Count.TheVariants.{Refused, NoMemory, Found}

-- what is counted of an answer: that a limit is broken, or the number of packed classes and of trees
abbrev pub count_of : Answer → Count
count_of (Trees classes trees) = Found classes (length trees)
count_of other = Refused

-- `most` is the greatest number of rules of a lexical tree
module _ (g : Signs) (words : Words) (limits : Limits) (most : ℕ) where
  -- the answer to a line: that of `parse` to the lattice of its words
  abbrev pub IsItem : List ℕ → Answer → Type 0
  IsItem line answer = IsParseAnswer g words (lattice_seen (lattice_of_words (chars line))) most limits answer

  -- each line has its answer, and these are counted
  pub record AreCounted (lines : List (List ℕ)) (counts : List Count) : Type 0 where
    pub answers : List Answer
    pub items : AllZip IsItem lines answers
    pub counts_are : counts ≡ map count_of answers

  -- What is counted of a line where memory may have been wanting: that of its answer, or that memory was wanting for it.
  pub data IsCountOrGap (line : List ℕ) : Count → Type 0 where
    a_count : (answer : Answer) → IsItem line answer → IsCountOrGap line (count_of answer)
    a_gap : IsCountOrGap line NoMemory

  abbrev pub AreCountsOrGaps : List (List ℕ) → List Count → Type 0
  AreCountsOrGaps lines counts = AllZip IsCountOrGap lines counts

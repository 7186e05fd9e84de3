-- What lexical trees and phrase rules of a grammar contribute, made once for a grammar and a limit on lexical rules.
use Rattle.std.specs.Prelude.{ℕ, ◌+◌, List, map, IfSome}
use Rattle.lexicon.specs.Entries.{EntryTree}
use Rattle.spelling_rules.specs.Trees.{SpellingTree}
use Rattle.mrs_places.specs.Paths.{Feature, Paths}
use Rattle.book_signs.specs.Trees.{SignTree, signs_of}
use Rattle.generated_leaves.specs.Told.{AreTold}
use Rattle.generated_leaves.specs.Views.{told_seen}
use Rattle.generated_leaves.specs.Given.{AreGiven}
use Rattle.relation_fit.specs.Lists.{list_seen}
use Rattle.realized_trees.specs.Sieves.{IsThreaded}
use Rattle.mrs_generate.specs.Answers.{words_by}
use Rattle.mrs_generate.specs.declared.contributors.Contributors.{Contributors}

-- The contributors of these signs, with the words of a lexicon and a spelling, and MRSs and the relations of rules at these paths: lexical
-- trees of up to one rule more than the limit, and what each rule gives; and a list of relations only where each phrase rule threads it.
pub record AreContributors (t : SignTree) (lexicon : List EntryTree) (s : SpellingTree) (paths : Paths) (c_cont : List Feature) (most : ℕ) (c : Contributors) : Type 0 where
  pub told : AreTold (signs_of t) (words_by t lexicon s) t.book.system.types paths (most + 1) (map (told_seen t) c.told.items)
  pub given : AreGiven (signs_of t) t.book.system.types paths c_cont c.rules
  pub list : IfSome c.list (λ l. IsThreaded t paths (list_seen l))

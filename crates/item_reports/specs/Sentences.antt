-- The words of a line that is parsed.
use Rattle.std.specs.Prelude.{ℕ, List, map, encode_utf8_all}
use Rattle.caseless.specs.Caseless.{default_case_fold}
use Rattle.lexicon.specs.Words.{Word}
use Rattle.closed_lists.specs.Strings.{words}

-- a run of characters, folded
abbrev pub folded : List ℕ → Word
folded cs = encode_utf8_all (default_case_fold cs)

-- the maximal runs of characters that aren't white space, each folded
abbrev pub words_of_line : List ℕ → List Word
words_of_line cs = map folded (words cs)

-- The report lines of a line that an MRS is generated from, each with its end.
use Rattle.std.specs.Prelude.{ℕ, Bool, true, false, List, [], ◌∷◌, ◌++◌, length, map, codes}
use Rattle.std.specs.Fmt.{decimal}
use Rattle.item_reports.specs.Reports.{item_line, refused_line}
use Rattle.generate_model.specs.Sentences.{Sentence, GenAnswer, LexicalDepth, ByUnaryChain, ByEdges, Readings, Sentences}

-- `classes C sentences K`
abbrev pub counts : ℕ → ℕ → List ℕ
counts classes sentences = codes "classes " ++ decimal classes ++ codes " sentences " ++ decimal sentences

-- two blanks and the text of a sentence
abbrev pub sentence_line : Sentence → List ℕ
sentence_line s = (32 ∷ 32 ∷ s.text) ++ 10 ∷ []

abbrev pub sentences_lines : ℕ → ℕ → List Sentence → List (List ℕ)
sentences_lines number classes ss = item_line number (counts classes (length ss)) ∷ map sentence_line ss

-- what is written of an answer: the limit that is broken, or the number of classes and of sentences, and the sentences
abbrev pub answer_lines : ℕ → GenAnswer → List (List ℕ)
answer_lines number LexicalDepth = refused_line number (codes "lexical-depth") ∷ []
answer_lines number ByUnaryChain = refused_line number (codes "unary-chain") ∷ []
answer_lines number ByEdges = refused_line number (codes "edges") ∷ []
answer_lines number Readings = refused_line number (codes "readings") ∷ []
answer_lines number (Sentences classes ss) = sentences_lines number classes ss

abbrev pub is_refused : GenAnswer → Bool
is_refused (Sentences classes ss) = false
is_refused other = true

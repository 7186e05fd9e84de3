-- The grammar of a workload, as a file of TDL (Copestake 2002; the description of DELPH-IN TDL): sentences of a noun phrase and a verb phrase,
-- in which a prepositional phrase may follow each noun phrase and each verb phrase.
use Rattle.std.specs.Prelude.{ℕ, ◌+◌, List, [], ◌∷◌, ◌++◌, map, codes}
use Rattle.std.specs.List.{flat_map, range_with_len}

-- strings, lists, and what a sign has
abbrev pub head : List (List ℕ)
head =
    codes "string := *top*."
    ∷ codes "list := *top*."
    ∷ codes "cons := list & [ FIRST *top*, REST list ]."
    ∷ codes "null := list."
    ∷ codes "sign := *top* & [ STEM list, ARGS list ]."
    ∷ []

-- the types of phrases and words
abbrev pub types : List (List ℕ)
types = codes "np" ∷ codes "vp" ∷ codes "pp" ∷ codes "p" ∷ codes "v" ∷ codes "s" ∷ []

abbrev pub type_line : List ℕ → List ℕ
type_line type = type ++ codes " := sign."

-- the entry of a type for a word, which is named by the word
abbrev pub entry_line : List ℕ → List ℕ → List ℕ
entry_line type word = word ++ (codes " := " ++ (type ++ (codes " & [ STEM < \"" ++ (word ++ codes "\" > ]."))))

-- a word: a letter, and the digit of a number below ten
abbrev pub word : List ℕ → ℕ → List ℕ
word letter number = letter ++ (48 + number) ∷ []

-- entries of a type: so many words of a letter, numbered from 0
abbrev pub entries : List ℕ → List ℕ → ℕ → List (List ℕ)
entries type letter count = map (λ number. entry_line type (word letter number)) (range_with_len 0 count)

-- ten nouns, five verbs, five prepositions
abbrev pub lexicon : List (List ℕ)
lexicon = entries (codes "np") (codes "n") 10 ++ (entries (codes "v") (codes "v") 5 ++ entries (codes "p") (codes "p") 5)

-- a rule of a type for two daughters
abbrev pub rule_line : List ℕ → List ℕ → List ℕ → List ℕ → List ℕ
rule_line name type left right = name ++ (codes " := " ++ (type ++ (codes " & [ ARGS < " ++ (left ++ (codes ", " ++ (right ++ codes " > ]."))))))

abbrev pub rules : List (List ℕ)
rules =
    rule_line (codes "s_r") (codes "s") (codes "np") (codes "vp")
    ∷ rule_line (codes "vp_r") (codes "vp") (codes "v") (codes "np")
    ∷ rule_line (codes "vp_m") (codes "vp") (codes "vp") (codes "pp")
    ∷ rule_line (codes "np_m") (codes "np") (codes "np") (codes "pp")
    ∷ rule_line (codes "pp_r") (codes "pp") (codes "p") (codes "np")
    ∷ []

-- what roots must be
abbrev pub roots : List (List ℕ)
roots = codes "root := s." ∷ []

-- definitions of instances, between the lines that begin and end their environment
abbrev pub block : List ℕ → List (List ℕ) → List (List ℕ)
block status lines = (codes ":begin :instance :status " ++ (status ++ codes ".")) ∷ (lines ++ codes ":end :instance." ∷ [])

-- the lines of the file, in order
abbrev pub grammar_lines : List (List ℕ)
grammar_lines = head ++ (map type_line types ++ (block (codes "lex-entry") lexicon ++ (block (codes "rule") rules ++ block (codes "root") roots)))

-- the file: its lines, each with a line feed after it
abbrev pub grammar : List ℕ
grammar = flat_map (λ line. line ++ 10 ∷ []) grammar_lines

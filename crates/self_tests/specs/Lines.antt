-- The lines of a workload, by their words. The place of a line is the number's last three digits as a number, and the lines before it.
use Rattle.std.specs.Prelude.{ℕ, ◌+◌, ◌*◌, ◌%◌, List, [], ◌∷◌, ◌++◌, map, codes}
use Rattle.std.specs.Fmt.{decimal}
use Rattle.std.specs.List.{flat_map, join_with_byte, range_with_len}

-- the nouns of the line at a place, numbered from 0
abbrev pub noun : ℕ → ℕ → List ℕ
noun place nth = codes "n" ++ decimal ((place + 3 * nth) % 10)

abbrev pub verb : ℕ → List ℕ
verb place = codes "v" ++ decimal (place % 5)

-- the prepositions of the line at a place, numbered from 1
abbrev pub preposition : ℕ → ℕ → List ℕ
preposition place nth = codes "p" ++ decimal ((place + nth) % 5)

-- a prepositional phrase: subject and object come before the first one's noun
abbrev pub phrase : ℕ → ℕ → List (List ℕ)
phrase place nth = preposition place nth ∷ noun place (nth + 1) ∷ []

-- the first phrases of the line at a place
abbrev pub phrases : ℕ → ℕ → List (List ℕ)
phrases place count = flat_map (phrase place) (range_with_len 1 count)

-- the words of a line: a noun, a verb, a noun, and the phrases
abbrev pub words : ℕ → List (List ℕ)
words place = noun place 0 ∷ verb place ∷ noun place 1 ∷ phrases place (place % 7)

-- a line: its words, with a blank between each two
abbrev pub line : ℕ → List ℕ
line place = join_with_byte 32 (words place)

-- so many lines, for a number
abbrev pub lines : ℕ → ℕ → List (List ℕ)
lines number size = map (λ i. line (number % 1000 + i)) (range_with_len 0 size)

-- The words to which lexical rules lead those of an entry; only private clauses cite it.
use Rattle.std.specs.Prelude.{ℕ, ◌≡◌, ◌<◌, ◌+◌, ◌-◌, List, [], ◌∷◌, ◌++◌, length, map, take, string_bytes}
use Rattle.lexicon.specs.Words.{Has}
use Rattle.tree_model.specs.Lexical.{Word, Words, Spells}
use Rattle.tree_faults.specs.Spelled.{HasForms}
use Rattle.tree_faults.specs.declared.endings.Ends.{Ends}
use Rattle.tree_faults.specs.declared.endings.Ends.TheVariants.{LastWords, NoForm}

-- exactly a front with one of some last words
pub record AreEnds (words : Words) (entry : ℕ) (rules : List ℕ) (front ends : List Word) : Type 0 where
  pub have : (e : Word) → Has e ends → Spells words entry rules (front ++ e ∷ [])
  pub all : (said : List Word) → Spells words entry rules said → (e : Word) × Has e ends × (said ≡ front ++ e ∷ [])

-- the words of an entry but the last
abbrev pub front_of : Words → ℕ → List Word
front_of words entry = take (length (words.words_of entry) - 1) (words.words_of entry)

-- the last words; or the number of the rule, counted from the inside, at which no form is left
abbrev pub IsLed : Words → ℕ → List ℕ → Ends → Type 0
IsLed words entry rules (LastWords ends) = AreEnds words entry rules (front_of words entry) (map string_bytes ends.items) × (0 < length ends.items)
IsLed words entry rules (NoForm i) = (i < length rules) × HasForms words entry (take i rules) × (HasForms words entry (take (i + 1) rules) → ⊥)

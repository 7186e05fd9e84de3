-- The irregular table by stems and by forms; only private clauses cite it.
use Rattle.std.specs.Prelude.{ℕ, ◌≡◌, ◌==◌, ◌++◌, Bool, List, [], ◌∷◌, Vec, String, map, filter, length, string_bytes, if◌then◌else◌}
use Rattle.std.specs.List.{list_any}
use Rattle.std.specs.Global.{Global}
use Rattle.std.specs.Str.{bytes_eq}
use Rattle.lexicon.specs.Words.{Word, noted}
use Rattle.spelling_rules.specs.declared.table.Line.{Line}
use Rattle.spelling_rules.specs.declared.rules.SpellRule.{SpellRule}
use Rattle.spelling_rules.specs.Trees.{LineTree, RuleTree, AreBound}

-- a rule and a word
pub record Pair : Type 0 where
  pub rule : ℕ
  pub word : Word

abbrev pub pair_of : Line → Pair
pair_of l = record { rule = l.rule; word = string_bytes l.word }

abbrev pub form_pair : LineTree → Pair
form_pair l = record { rule = l.rule; word = l.form }

abbrev pub stem_pair : LineTree → Pair
stem_pair l = record { rule = l.rule; word = l.stem }

-- the words of a rule
abbrev pub words_of_rule : ℕ → List Pair → List Word
words_of_rule rule pairs = map (λ p. p.word) (filter (λ p. p.rule == rule) pairs)

-- each stem has its lines, and each form
pub record IsTable (lines : List LineTree) (by_stem by_form : List (String Global × Vec Line Global)) : Type 0 where
  pub stems : (w : Word) → map pair_of (noted by_stem w) ≡ map form_pair (filter (λ l. bytes_eq w l.stem) lines)
  pub forms : (w : Word) → map pair_of (noted by_form w) ≡ map stem_pair (filter (λ l. bytes_eq w l.form) lines)

-- what the lines that have a form tell: a rule, and a stem
abbrev pub lines_with : Word → List LineTree → List Pair
lines_with form lines = map stem_pair (filter (λ l. bytes_eq form l.form) lines)

pub record IsSpellingInside (count : ℕ) (rules : List RuleTree) (lines : List LineTree) (by_stem by_form : List (String Global × Vec Line Global)) : Type 0 where
  pub counted : count ≡ length rules
  pub bound : AreBound rules
  pub table : IsTable lines by_stem by_form

-- whether a word is among others
abbrev pub is_among : List Word → Word → Bool
is_among words w = list_any (bytes_eq w) words

-- words, and then what is new, each once
abbrev pub with_each : List Word → List Word → List Word
with_each done [] = done
with_each done (x ∷ xs) = with_each (if is_among done x then done else done ++ x ∷ []) xs

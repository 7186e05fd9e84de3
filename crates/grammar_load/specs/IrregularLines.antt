-- The table of irregular forms: lines `form rule stem`.
use Rattle.std.specs.Prelude.{ℕ, List, [], ◌∷◌, map, position, filter_map, Option, None, Some, encode_utf8_all, if◌then◌else◌}
use Rattle.std.specs.Option.{option_map}
use Rattle.std.specs.Str.{bytes_eq, chars, is_utf8}
use Rattle.std.specs.Char.{to_ascii_lowercase}
use Rattle.caseless.specs.Caseless.{default_case_fold}
use Rattle.lexicon.specs.Words.{Word}
use Rattle.lkb_io.specs.Lines.{lines_of}
use Rattle.grammar_settings.specs.SettingsFiles.{words, is_comment}
use Rattle.spelling_rules.specs.Trees.{LineTree}

-- the number of a lexical rule by its name, which is written in any case
abbrev pub rule_named : List Word → List ℕ → Option ℕ
rule_named rules name = position (bytes_eq (map to_ascii_lowercase (encode_utf8_all name))) rules

abbrev pub folded : List ℕ → Word
folded word = encode_utf8_all (default_case_fold word)

abbrev pub line_by : List ℕ → List ℕ → ℕ → LineTree
line_by form stem rule = record { rule = rule; stem = folded stem; form = folded form }

-- three fields are a form, a lexical rule and a stem
abbrev pub line_in : List Word → List (List ℕ) → Option LineTree
line_in rules (form ∷ rule ∷ stem ∷ []) = option_map (line_by form stem) (rule_named rules rule)
line_in rules _ = None

-- What a line says. A line says nothing that isn't UTF-8, begins with a semicolon, hasn't three fields, or names no lexical rule.
abbrev pub line_says : List Word → List ℕ → Option LineTree
line_says rules line = if is_utf8 line then (if is_comment line then None else line_in rules (words (chars line))) else None

-- the irregular forms that a text has, in order of lines
abbrev pub lines_said : List Word → List ℕ → List LineTree
lines_said rules text = filter_map (line_says rules) (lines_of text)

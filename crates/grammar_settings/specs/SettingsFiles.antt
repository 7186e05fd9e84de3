-- What a settings file says: a relation of its lines to settings, or to the first line outside the form.
use Rattle.std.specs.Prelude.{ℕ, ◌+◌, ◌==◌, not, Bool, false, if◌then◌else◌, List, [], ◌∷◌, length, filter, Option, Some, None, Result, Ok, Err, encode_utf8_all}
use Rattle.std.specs.Char.{is_whitespace}
use Rattle.std.specs.List.{slice_split}
use Rattle.std.specs.Str.{bytes_eq, chars, is_utf8}
use Rattle.grammar_settings.specs.Forms.{Name, Word, has_form}

-- the values that a line gives to a name, and the line's number, from 1
pub record Entry : Type 0 where
  pub name : Name
  pub values : List Word
  pub line : ℕ

abbrev pub is_some_word : Word → Bool
is_some_word cs = not (length cs == 0)

-- the words of a line stand between white space
abbrev pub words : List ℕ → List Word
words cs = filter is_some_word (slice_split is_whitespace cs)

abbrev pub is_comment : List ℕ → Bool
is_comment [] = false
is_comment (b ∷ bs) = b == 59

-- the entry of a line with these words; one without words is blank
abbrev pub entry_of : ℕ → List Word → Option (Option Entry)
entry_of n [] = Some None
entry_of n (name ∷ values) =
    if has_form (encode_utf8_all name) values then Some (Some (record { name = encode_utf8_all name; values = values; line = n })) else None

-- What a line gives: an entry, or nothing where it is blank or begins with a semicolon. A line is outside the form where it
-- gives None: it isn't UTF-8, has an unknown name, a wrong number of values, or a value outside its form.
abbrev pub line_gives : ℕ → List ℕ → Option (Option Entry)
line_gives n line =
    if is_utf8 line then (if is_comment line then Some None else entry_of n (words (chars line))) else None

abbrev pub after_line : ℕ → Option (Option Entry) → Result (List Entry) ℕ → Result (List Entry) ℕ
after_line n None more = Err n
after_line n (Some given) (Err k) = Err k
after_line n (Some None) (Ok es) = Ok es
after_line n (Some (Some e)) (Ok es) = Ok (e ∷ es)

-- The entries of lines that are numbered from here on, or the first line that is outside the form.
abbrev pub entries_from : ℕ → List (List ℕ) → Result (List Entry) ℕ
entries_from n [] = Ok []
entries_from n (line ∷ lines) = after_line n (line_gives n line) (entries_from (n + 1) lines)

-- the entries of a name, in order
abbrev pub entries_of : Name → List Entry → List Entry
entries_of name es = filter (λ e. bytes_eq e.name name) es

-- the values of the last of these entries, or o where there is none
abbrev pub last_values : Option (List Word) → List Entry → Option (List Word)
last_values o [] = o
last_values o (e ∷ es) = last_values (Some e.values) es

-- the line of the last of these entries, or n where there is none
abbrev pub last_line : ℕ → List Entry → ℕ
last_line n [] = n
last_line n (e ∷ es) = last_line e.line es

-- The names of a settings file, the forms of their values, and what the values stand for.
use Rattle.std.specs.Prelude.{ℕ, ◌+◌, ◌-◌, ◌*◌, ◌==◌, ◌&&◌, not, Bool, true, false, nat_le, if◌then◌else◌, List, [], ◌∷◌, length, map, fold, Option, Some, None, codes, encode_utf8_all}
use Rattle.std.specs.Char.{is_ascii_digit, is_ascii_lowercase}
use Rattle.std.specs.List.{list_any, list_all, slice_split}
use Rattle.std.specs.Option.{is_some}
use Rattle.std.specs.Str.{bytes_eq}
use Rattle.tdl_lexer.specs.Characters.{is_name}
use Rattle.tdl_lexer.specs.Spelling.{lower}
use Rattle.type_hierarchy.specs.Faults.{is_glb_name}
use Rattle.grammar_settings.specs.declared.forms.ValueForm.{ValueForm}
use Rattle.grammar_settings.specs.declared.forms.ValueForm.TheVariants.{WrittenType, OneWord, OnePath, SomeWords, Words, Paths, Limit, Count, File, Sort}

-- a name, or another text, is its bytes
abbrev pub Name : Type 0
Name = List ℕ

-- a word of a line is its characters
abbrev pub Word : Type 0
Word = List ℕ

abbrev pub is_among : List Name → Name → Bool
is_among names name = list_any (λ n. bytes_eq n name) names

-- the names whose value is a type that is written: it has no name of an added type
abbrev pub written_types : List Name
written_types = codes "top-type" ∷ codes "string-type" ∷ []

-- the names whose value is one type or feature
abbrev pub single_words : List Name
single_words =
    codes "list-type" ∷ codes "cons-type" ∷ codes "null-type" ∷ codes "first" ∷ codes "rest" ∷ codes "diff-list" ∷ codes "diff-last"
    ∷ codes "rels" ∷ codes "hcons" ∷ codes "pred" ∷ codes "lbl" ∷ codes "harg" ∷ codes "larg" ∷ codes "icons" ∷ codes "iarg1" ∷ codes "iarg2"
    ∷ codes "cfrom" ∷ codes "cto" ∷ []

-- the names whose value is one path
abbrev pub single_paths : List Name
single_paths = codes "orth-path" ∷ codes "args-path" ∷ codes "mrs-path" ∷ codes "c-cont-path" ∷ codes "ltop-path" ∷ codes "index-path" ∷ []

-- the names with any number of features or rule names
abbrev pub word_lists : List Name
word_lists = codes "restrictors" ∷ codes "skip-roles" ∷ codes "skip-properties" ∷ codes "transfer-skip" ∷ []

-- the form of the values of the names that have one of their own
abbrev pub form_of_one : Name → Option ValueForm
form_of_one name =
    if bytes_eq name (codes "daughter-features") then Some SomeWords
    else (if bytes_eq name (codes "check-paths") then Some Paths
    else (if bytes_eq name (codes "path-limit") then Some Limit
    else (if bytes_eq name (codes "node-limit") then Some Count
    else (if bytes_eq name (codes "irregular-file") then Some File
    else (if bytes_eq name (codes "sort") then Some Sort else None)))))

-- the form of a name's values; other names are unknown
abbrev pub form_of : Name → Option ValueForm
form_of name =
    if is_among written_types name then Some WrittenType
    else (if is_among single_words name then Some OneWord
    else (if is_among single_paths name then Some OnePath
    else (if is_among word_lists name then Some Words else form_of_one name)))

-- one or more name characters
abbrev pub is_word : Word → Bool
is_word cs = not (length cs == 0) && list_all is_name cs

-- a path's features stand between dots
abbrev pub features : Word → List Word
features cs = slice_split (λ c. c == 46) cs

abbrev pub is_path : Word → Bool
is_path cs = list_all is_word (features cs)

-- a type or a feature is kept in ASCII lower case
abbrev pub name_of : Word → Name
name_of cs = encode_utf8_all (lower cs)

abbrev pub path_of : Word → List Name
path_of cs = map name_of (features cs)

abbrev pub without_plus : Word → Word
without_plus [] = []
without_plus (c ∷ cs) = if c == 43 then cs else c ∷ cs

abbrev pub with_digit : ℕ → ℕ → ℕ
with_digit n c = n * 10 + (c - 48)

-- the number that decimal digits write
abbrev pub value_of_digits : Word → ℕ
value_of_digits cs = fold with_digit 0 cs

-- decimal digits, with a plus sign before them or none
abbrev pub is_number : Word → Bool
is_number cs = not (length cs == 0) && list_all is_ascii_digit cs

-- a number from 1 to a greatest one
abbrev pub in_limits : ℕ → ℕ → Option ℕ
in_limits most n = if nat_le 1 n && nat_le n most then Some n else None

-- the number that a word gives as a limit
abbrev pub limit_in : ℕ → Word → Option ℕ
limit_in most cs = if is_number (without_plus cs) then in_limits most (value_of_digits (without_plus cs)) else None

-- the greatest limit on the features of a path, and on the paths of a structure
abbrev pub most_features : ℕ
most_features = 1000

abbrev pub most_paths : ℕ
most_paths = 10000000

-- the values are as many as the form has, and each is of it
abbrev pub fits : ValueForm → List Word → Bool
fits WrittenType (v ∷ []) = is_word v && not (is_glb_name (name_of v))
fits OneWord (v ∷ []) = is_word v
fits OnePath (v ∷ []) = is_path v
fits SomeWords (v ∷ vs) = list_all is_word (v ∷ vs)
fits Words vs = list_all is_word vs
fits Paths vs = list_all is_path vs
fits Limit (v ∷ []) = is_some (limit_in most_features v)
fits Count (v ∷ []) = is_some (limit_in most_paths v)
fits File (v ∷ []) = true
fits Sort (t ∷ letters ∷ []) = is_word t && list_all is_ascii_lowercase letters
fits _ _ = false

abbrev pub fits_known : Option ValueForm → List Word → Bool
fits_known None vs = false
fits_known (Some form) vs = fits form vs

-- the name is known, and the values have its form
abbrev pub has_form : Name → List Word → Bool
has_form name vs = fits_known (form_of name) vs

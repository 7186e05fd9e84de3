-- What the functions on groups of spelling rules and letter sets find, character by character; only private clauses cite it.
use Rattle.std.specs.Prelude.{ℕ, Bool, true, false, not, ◌==◌, ◌&&◌, ◌||◌, if◌then◌else◌, List, [], ◌∷◌, Option, Some, None, codes}
use Rattle.std.specs.Option.{unwrap_or}
use Rattle.std.specs.Char.{is_whitespace}
use Rattle.caseless.specs.Caseless.{default_case_fold}
use Rattle.tdl_lexer.specs.Spelling.{after_first}
use Rattle.tdl_reader.specs.Trees.{SetTree, SignTree, one_char, one_of, GroupTree}

-- the one character that a character folds to, where it is one
abbrev pub only : List ℕ → Option ℕ
only (c ∷ []) = Some c
only _ = None

abbrev pub fold : ℕ → Option ℕ
fold c = only (default_case_fold (c ∷ []))

abbrev pub then_some : {A B : Type 0} → Option A → (A → Option B) → Option B
then_some None f = None
then_some (Some a) f = f a

abbrev pub add_char : Option ℕ → Option (List ℕ) → Option (List ℕ)
add_char None cs = None
add_char (Some c) None = None
add_char (Some c) (Some cs) = Some (c ∷ cs)

abbrev pub fold_all : List ℕ → Option (List ℕ)
fold_all [] = Some []
fold_all (c ∷ cs) = add_char (fold c) (fold_all cs)

-- the text after its leading white space
abbrev pub after_white : List ℕ → List ℕ
after_white [] = []
after_white (c ∷ cs) = if is_whitespace c then after_white cs else c ∷ cs

-- the leading run without white space, and what follows it
abbrev pub run : List ℕ → List ℕ
run [] = []
run (c ∷ cs) = if is_whitespace c then [] else c ∷ run cs

abbrev pub after_run : List ℕ → List ℕ
after_run [] = []
after_run (c ∷ cs) = if is_whitespace c then c ∷ cs else after_run cs

abbrev pub is_nothing : List ℕ → Bool
is_nothing [] = true
is_nothing (c ∷ cs) = false

-- the last definition of a name
abbrev pub latest : Option SetTree → ℕ → List SetTree → Option SetTree
latest found name [] = found
latest found name (s ∷ sets) = latest (if s.name == name then Some s else found) name sets

abbrev pub set_named : List SetTree → ℕ → Option SetTree
set_named sets name = latest None name sets

-- the sign that a character stands for, or a variable's
abbrev pub sign_at : Bool → List SetTree → ℕ → Option SignTree
sign_at false sets c = then_some (fold c) (λ d. Some (one_char d))
sign_at true sets c = then_some (fold c) (λ d. then_some (set_named sets d) (λ s. Some (one_of s)))

abbrev pub add_sign : Option SignTree → Option (List SignTree) → Option (List SignTree)
add_sign None signs = None
add_sign (Some s) None = None
add_sign (Some s) (Some signs) = Some (s ∷ signs)

-- The signs of a run: `!` and a character is a variable of that set; every other character stands for itself, and so does a last `!`.
abbrev pub signs_after : Bool → List SetTree → List ℕ → Option (List SignTree)
signs_after false sets [] = Some []
signs_after true sets [] = Some (one_char 33 ∷ [])
signs_after true sets (c ∷ cs) = add_sign (sign_at true sets c) (signs_after false sets cs)
signs_after false sets (c ∷ cs) = if c == 33 then signs_after true sets cs else add_sign (sign_at false sets c) (signs_after false sets cs)

-- the signs of a run: `*` alone is empty
abbrev pub signs : List SetTree → List ℕ → Option (List SignTree)
signs sets [] = None
signs sets (c ∷ []) = if c == 42 then Some [] else signs_after false sets (c ∷ [])
signs sets (c ∷ d ∷ cs) = signs_after false sets (c ∷ d ∷ cs)

abbrev pub is_of : ℕ → SignTree → Bool
is_of name (one_char c) = false
is_of name (one_of s) = s.name == name

abbrev pub occurs : ℕ → List SignTree → Bool
occurs name [] = false
occurs name (s ∷ more) = is_of name s || occurs name more

-- each variable of the first run occurs in the second
abbrev pub all_occur : List SignTree → List SignTree → Bool
all_occur [] pattern = true
all_occur (one_char c ∷ more) pattern = all_occur more pattern
all_occur (one_of s ∷ more) pattern = occurs s.name pattern && all_occur more pattern

abbrev pub but_last : List ℕ → List ℕ
but_last [] = []
but_last (c ∷ []) = []
but_last (c ∷ d ∷ cs) = c ∷ but_last (d ∷ cs)

-- what stands between a group's parentheses
abbrev pub inside : List ℕ → List ℕ
inside cs = but_last (after_first cs)

-- A group of a spelling rule: two runs without white space, of signs whose letter sets are defined, the variables of the second among those of the first.
abbrev pub group_signs : List SetTree → List ℕ → Option GroupTree
group_signs sets cs =
    then_some (signs sets (run cs)) (λ p. let rest = after_white (after_run cs) in then_some (signs sets (run rest)) (λ w.
    if is_nothing (after_white (after_run rest)) && all_occur w p then Some (record { pattern = p; with = w }) else None))

abbrev pub read_group : List SetTree → List ℕ → Option GroupTree
read_group sets cs = group_signs sets (after_white (inside cs))

-- the text after these characters, where they stand first
abbrev pub after_word : List ℕ → List ℕ → Option (List ℕ)
after_word [] cs = Some cs
after_word (w ∷ ws) [] = None
after_word (w ∷ ws) (c ∷ cs) = if c == w then after_word ws cs else None

abbrev pub ends_with : ℕ → List ℕ → Bool
ends_with c [] = false
ends_with c (d ∷ []) = d == c
ends_with c (d ∷ e ∷ cs) = ends_with c (e ∷ cs)

-- whether the text is one closing parenthesis, with white space after it
abbrev pub is_closing : List ℕ → Bool
is_closing [] = false
is_closing (c ∷ cs) = (c == 41) && is_nothing (after_white cs)

-- The members in a run and what follows it up to the closing parenthesis, which may stand at the run's end.
abbrev pub members_in : List ℕ → List ℕ → Option (List ℕ)
members_in word rest =
    if is_nothing rest then (if ends_with 41 word then Some (but_last word) else None)
    else (if is_closing rest then Some word else None)

abbrev pub set_with : ℕ → List ℕ → Option SetTree
set_with c [] = None
set_with c (m ∷ ms) = then_some (fold c) (λ name. then_some (fold_all (m ∷ ms)) (λ members. Some (record { name = name; members = members })))

-- `!` and one character, and after white space the members
abbrev pub set_in : List ℕ → Option SetTree
set_in [] = None
set_in (b ∷ []) = None
set_in (b ∷ c ∷ cs) =
    let members = after_white cs in
    if (b == 33) && (not (is_whitespace c) && is_nothing (run cs)) then then_some (members_in (run members) (after_white (after_run members))) (set_with c) else None

-- A letter set: `letter-set`, and in parentheses its name and its members. White space may stand after each parenthesis, before each closing one, and before the inner one.
abbrev pub read_letters : List ℕ → Option SetTree
read_letters cs =
    then_some (after_word (codes "letter-set") (after_white (inside cs))) (λ rest. then_some (after_word (codes "(") (after_white rest)) (λ inner. set_in (after_white inner)))

-- what a group says that has its form
abbrev pub group_of : List SetTree → List ℕ → GroupTree
group_of sets cs = unwrap_or (read_group sets cs) (record { pattern = []; with = [] })

abbrev pub letters_of : List ℕ → SetTree
letters_of cs = unwrap_or (read_letters cs) (record { name = 0; members = [] })

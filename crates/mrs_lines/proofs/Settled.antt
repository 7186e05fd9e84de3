-- The types, features and sorts that settings name.
use Rattle.std.proofs.Common.{ℕ, ◌≡◌, ◌+◌, ◌<◌, ◌&&◌, not, Bool, true, false, List, [], ◌∷◌, length, map, filter, suc, Option, Some, None, Result, Ok, Err, if◌then◌else◌, cond, codes, refl, sym, subst, arith}
use Rattle.std.specs.Prelude.{All, nat_lt, nat_le, encode_utf8_all, ◌==◌}
use Rattle.std.specs.Char.{is_whitespace, is_ascii_lowercase}
use Rattle.std.specs.List.{list_all, slice_split, onto_first}
use Rattle.std.specs.Str.{bytes_eq, chars, is_utf8}
use Rattle.std.proofs.Math.Utf8.{scalar, scalars}
use Rattle.std.proofs.lemmas.Bool.{and_parts, lt-ltb, leb-true, true≢false}
use Rattle.std.proofs.lemmas.List.Elements.{All-nil, All-cons}
use Rattle.std.proofs.lemmas.Str.{encodes-IsAscii, scalars-chars, IsUtf8-from_is_utf8}
use Rattle.std.proofs.lemmas.Str.Ascii.{IsAscii-from_all}
use Rattle.lkb_io.specs.Lines.{lines_of}
use Rattle.type_hierarchy.specs.Faults.{is_glb_name}
use Rattle.type_hierarchy.proofs.NameLemmas.{bytes_eq-same}
use Rattle.tdl_lexer.specs.Characters.{is_name}
use Rattle.grammar_settings.specs.declared.forms.ValueForm.TheVariants.{WrittenType, OneWord, Sort}
use Rattle.grammar_settings.specs.Forms.{Name, Word, fits, has_form, name_of, is_word}
use Rattle.grammar_settings.specs.SettingsFiles.{Entry, is_some_word, words, is_comment, entry_of, line_gives, after_line, entries_from, entries_of, last_values}
use Rattle.grammar_settings.specs.Settled.{SettingsTree, SortTree, given, word_or, sort_in, default_sorts, sorts_of, settings_by, settled_by, settings_in, default_settings}
use Rattle.mrs_model.specs.Texts.{IsSort}
use Rattle.mrs_lines.proofs.Names.{IsTdlName}
use Rattle.mrs_lines.proofs.Plain.{is_plain, plain_name}

-- what is said of the names of settings
pub record AreNamed (t : SettingsTree) : Type 0 where
  pub top_type : IsTdlName t.top_type
  pub string_type : IsTdlName t.string_type
  pub first : IsTdlName t.first
  pub rest : IsTdlName t.rest
  pub diff_list : IsTdlName t.diff_list
  pub diff_last : IsTdlName t.diff_last
  pub sorts : All (λ s. IsSort s.letters) t.sort

-- words of characters, none of them empty
pub record IsText (w : Word) : Type 0 where
  pub filled : 0 < length w
  pub are_scalars : scalars w ≡ true

abbrev pub AreTexts : List Word → Type 0
AreTexts [] = Unit {0}
AreTexts (w ∷ ws) = IsText w × AreTexts ws

abbrev pub AreScalars : List Word → Type 0
AreScalars [] = Unit {0}
AreScalars (w ∷ ws) = (scalars w ≡ true) × AreScalars ws

onto : (c : ℕ) (ws : List Word) → scalar c ≡ true → AreScalars ws → AreScalars (onto_first c ws)
onto c [] e h = (rw e refl, tt)
onto c (w ∷ ws) e h = (rw (e, h.0) refl, h.1)

split_scalars : (p : ℕ → Bool) (cs : List ℕ) → scalars cs ≡ true → AreScalars (slice_split p cs)
split_scalars p [] e = (refl, tt)
split_scalars p (c ∷ cs) e = let q = and_parts (scalar c) (scalars cs) e in go (p c) q.0 (split_scalars p cs q.1)
  where
    go : (b : Bool) → scalar c ≡ true → AreScalars (slice_split p cs) → AreScalars (cond b ([] ∷ slice_split p cs) (onto_first c (slice_split p cs)))
    go true s h = (refl, h)
    go false s h = onto c (slice_split p cs) s h

some_filled : (w : Word) → is_some_word w ≡ true → 0 < length w
some_filled [] e = absurd (true≢false (sym e))
some_filled (c ∷ w) e = omega arith

kept_texts : (ws : List Word) → AreScalars ws → AreTexts (filter is_some_word ws)
kept_texts [] h = tt
kept_texts (w ∷ ws) h = go (is_some_word w) refl (kept_texts ws h.1)
  where
    go : (b : Bool) → is_some_word w ≡ b → AreTexts (filter is_some_word ws) → AreTexts (cond b (w ∷ filter is_some_word ws) (filter is_some_word ws))
    go true e more = (record { filled = some_filled w e; are_scalars = h.0 }, more)
    go false e more = more

words_texts : (line : List ℕ) → is_utf8 line ≡ true → AreTexts (words (chars line))
words_texts line e = kept_texts (slice_split is_whitespace (chars line)) (split_scalars is_whitespace (chars line) (scalars-chars line (IsUtf8-from_is_utf8 line e)))

-- the values have the form of the name, and are texts
pub record Fits (name : Name) (vs : List Word) : Type 0 where
  pub form : has_form name vs ≡ true
  pub texts : AreTexts vs

abbrev Formed : Entry → Type 0
Formed e = Fits e.name e.values

abbrev pub AllFormed : List Entry → Type 0
AllFormed [] = Unit {0}
AllFormed (e ∷ es) = Formed e × AllFormed es

entry_formed : (n : ℕ) (name : Word) (values : List Word) (e : Entry) (b : Bool) → AreTexts values → has_form (encode_utf8_all name) values ≡ b
    → (if b then Some (Some (record { name = encode_utf8_all name; values = values; line = n })) else None) ≡ Some (Some e) → Formed e
entry_formed n name values e true t f h =
    let same : record { name = encode_utf8_all name; values = values; line = n } ≡ e = cc in
    subst Formed same (record { form = f; texts = t })
entry_formed n name values e false t f h = cc

words_formed : (n : ℕ) (ws : List Word) (e : Entry) → AreTexts ws → entry_of n ws ≡ Some (Some e) → Formed e
words_formed n [] e t h = cc
words_formed n (name ∷ values) e t h = entry_formed n name values e (has_form (encode_utf8_all name) values) t.1 refl h

line_formed : (n : ℕ) (line : List ℕ) (e : Entry) (b d : Bool) → is_utf8 line ≡ b → (if b then (if d then Some None else entry_of n (words (chars line))) else None) ≡ Some (Some e) → Formed e
line_formed n line e true true u h = cc
line_formed n line e true false u h = words_formed n (words (chars line)) e (words_texts line u) h
line_formed n line e false d u h = cc

more_formed : (n : ℕ) (o : Option (Option Entry)) (more : Result (List Entry) ℕ) (es : List Entry) → ((e : Entry) → o ≡ Some (Some e) → Formed e) → after_line n o more ≡ Ok es
    → ((fs : List Entry) → more ≡ Ok fs → AllFormed fs) → AllFormed es
more_formed n None more es f h ih = cc
more_formed n (Some o) (Err k) es f h ih = cc
more_formed n (Some None) (Ok fs) es f h ih = ih es h
more_formed n (Some (Some e)) (Ok fs) es f h ih = let same : e ∷ fs ≡ es = cc in subst AllFormed same (f e refl, ih fs refl)

entries_formed : (n : ℕ) (ls : List (List ℕ)) (es : List Entry) → entries_from n ls ≡ Ok es → AllFormed es
entries_formed n [] es h = let same : [] ≡ es = cc in subst AllFormed same tt
entries_formed n (l ∷ ls) es h = more_formed n (line_gives n l) (entries_from (n + 1) ls) es (λ e k. line_formed n l e (is_utf8 l) (is_comment l) refl k) h (entries_formed (n + 1) ls)

-- those of a name
named_formed : (name : Name) (es : List Entry) → AllFormed es → AllFormed (entries_of name es)
named_formed name [] all = tt
named_formed name (e ∷ es) all = go (bytes_eq e.name name) (named_formed name es all.1)
  where
    go : (b : Bool) → AllFormed (entries_of name es) → AllFormed (cond b (e ∷ entries_of name es) (entries_of name es))
    go true more = (all.0, more)
    go false more = more

-- each of the entries has this name
abbrev AllNamed : Name → List Entry → Type 0
AllNamed name [] = Unit {0}
AllNamed name (e ∷ es) = Fits name e.values × AllNamed name es

kept_named : (name : Name) (es : List Entry) → AllFormed es → AllNamed name (entries_of name es)
kept_named name [] all = tt
kept_named name (e ∷ es) all = go (bytes_eq e.name name) refl (kept_named name es all.1)
  where
    go : (b : Bool) → bytes_eq e.name name ≡ b → AllNamed name (entries_of name es) → AllNamed name (cond b (e ∷ entries_of name es) (entries_of name es))
    go true same more = (subst (λ n. Fits n e.values) (bytes_eq-same e.name name same) all.0, more)
    go false same more = more

last_fits : (name : Name) (es : List Entry) → AllNamed name es → (o : Option (List Word)) → ((ws : List Word) → o ≡ Some ws → Fits name ws) → (vs : List Word) → last_values o es ≡ Some vs → Fits name vs
last_fits name [] all o before vs h = before vs h
last_fits name (e ∷ es) all o before vs h = last_fits name es all.1 (Some e.values) (λ ws k. (let w : e.values ≡ ws = cc in subst (Fits name) w all.0)) vs h

given_fits : (name : Name) (es : List Entry) → AllFormed es → (vs : List Word) → given name es ≡ Some vs → Fits name vs
given_fits name es all vs h = last_fits name (entries_of name es) (kept_named name es all) None (λ ws k. cc) vs h

-- one word of name characters
word_named : (v : Word) → IsText v → is_word v ≡ true → IsTdlName (name_of v)
word_named v t e = let p = and_parts (not (length v == 0)) (list_all is_name v) e in record { word = v; filled = t.filled; signs = p.1; are_scalars = t.are_scalars; is = refl }

pub record OneName (vs : List Word) : Type 0 where
  pub fits : fits OneWord vs ≡ true
  pub texts : AreTexts vs

one_named : (default : Name) (o : Option (List Word)) → IsTdlName default → ((vs : List Word) → o ≡ Some vs → OneName vs) → IsTdlName (word_or default o)
one_named default None d h = d
one_named default (Some []) d h = d
one_named default (Some (v ∷ [])) d h = let f = h (v ∷ []) refl in word_named v f.texts.0 f.fits
one_named default (Some (v ∷ w ∷ vs)) d h = absurd (true≢false (sym (h (v ∷ w ∷ vs) refl).fits))

-- a type that is written is one word
written_one : (vs : List Word) → fits WrittenType vs ≡ true → fits OneWord vs ≡ true
written_one [] e = e
written_one (v ∷ []) e = (and_parts (is_word v) (not (is_glb_name (name_of v))) e).0
written_one (v ∷ w ∷ vs) e = e

-- the letters of a sort
letter : (c : ℕ) → is_ascii_lowercase c ≡ true → (96 < c) × (c < 123)
letter c e = let p = and_parts (nat_le 97 c) (nat_le c 122) e in let l = leb-true 97 c p.0 in let u = leb-true c 122 p.1 in (omega (arith, l), omega (arith, u))

letters_low : (w : Word) → list_all is_ascii_lowercase w ≡ true → All (λ c. c < 128) w
letters_low [] e = All-nil (λ c. c < 128)
letters_low (c ∷ w) e = let p = and_parts (is_ascii_lowercase c) (list_all is_ascii_lowercase w) e in let l = letter c p.0 in All-cons (λ c. c < 128) c w (omega (arith, l.1)) (letters_low w p.1)

letters_are : (w : Word) → list_all is_ascii_lowercase w ≡ true → All (λ b. (nat_lt 96 b && nat_lt b 123) ≡ true) w
letters_are [] e = All-nil (λ b. (nat_lt 96 b && nat_lt b 123) ≡ true)
letters_are (c ∷ w) e =
    let p = and_parts (is_ascii_lowercase c) (list_all is_ascii_lowercase w) e in
    let l = letter c p.0 in
    All-cons (λ b. (nat_lt 96 b && nat_lt b 123) ≡ true) c w (rw (lt-ltb 96 c l.0, lt-ltb c 123 l.1) refl) (letters_are w p.1)

plain_sort : (w : Word) → 0 < length w → list_all is_ascii_lowercase w ≡ true → IsSort w
plain_sort w f e = record { filled = f; letters = letters_are w e }

letters_sort : (w : Word) → 0 < length w → list_all is_ascii_lowercase w ≡ true → IsSort (encode_utf8_all w)
letters_sort w f e = subst IsSort (sym (encodes-IsAscii w (IsAscii-from_all w (letters_low w e)))) (plain_sort w f e)

sort_named : (vs : List Word) → fits Sort vs ≡ true → AreTexts vs → IsSort (sort_in vs).letters
sort_named [] e t = absurd (true≢false (sym e))
sort_named (v ∷ []) e t = absurd (true≢false (sym e))
sort_named (v ∷ w ∷ []) e t = letters_sort w t.1.0.filled (and_parts (is_word v) (list_all is_ascii_lowercase w) e).1
sort_named (v ∷ w ∷ x ∷ vs) e t = absurd (true≢false (sym e))

abbrev HasSort : SortTree → Type 0
HasSort s = IsSort s.letters

written_sorts : (es : List Entry) → AllNamed (codes "sort") es → All HasSort (map (λ e. sort_in e.values) es)
written_sorts [] all = All-nil HasSort
written_sorts (e ∷ es) all = All-cons HasSort (sort_in e.values) (map (λ d. sort_in d.values) es) (sort_named e.values all.0.form all.0.texts) (written_sorts es all.1)

one_letter : (w : Word) → length w ≡ 1 → list_all is_ascii_lowercase w ≡ true → IsSort w
one_letter w l e = plain_sort w (omega (arith, l)) e

abbrev AllSorted : List SortTree → Type 0
AllSorted [] = Unit {0}
AllSorted (s ∷ ss) = HasSort s × AllSorted ss

all_sorted : (ss : List SortTree) → AllSorted ss → All HasSort ss
all_sorted [] h = All-nil HasSort
all_sorted (s ∷ ss) h = All-cons HasSort s ss h.0 (all_sorted ss h.1)

default_named : All HasSort default_sorts
default_named = all_sorted default_sorts (one_letter (codes "h") refl refl, (one_letter (codes "e") refl refl, (one_letter (codes "x") refl refl, (one_letter (codes "i") refl refl, tt))))

sorts_named : (es : List Entry) → AllNamed (codes "sort") es → All HasSort (sorts_of es)
sorts_named es all = go (length es == 0)
  where
    go : (b : Bool) → All HasSort (cond b default_sorts (map (λ e. sort_in e.values) es))
    go true = default_named
    go false = written_sorts es all

-- the defaults
default_name : (name : Name) (size : ℕ) → length name ≡ suc size → list_all is_plain name ≡ true → IsTdlName name
default_name name size l e = plain_name name (omega (arith, l)) e

entries_named : (es : List Entry) → AllFormed es → AreNamed (settings_by es)
unfolding is_name
entries_named es all =
    let one : (default name : Name) → ((vs : List Word) → Fits name vs → fits OneWord vs ≡ true) → IsTdlName default → IsTdlName (word_or default (given name es))
    = λ default name form d. one_named default (given name es) d (λ vs h. let f = given_fits name es all vs h in record { fits = form vs f; texts = f.texts }) in
    record {
      top_type = one (codes "*top*") (codes "top-type") (λ vs f. written_one vs f.form) (default_name (codes "*top*") 4 refl refl);
      string_type = one (codes "string") (codes "string-type") (λ vs f. written_one vs f.form) (default_name (codes "string") 5 refl refl);
      first = one (codes "first") (codes "first") (λ vs f. f.form) (default_name (codes "first") 4 refl refl);
      rest = one (codes "rest") (codes "rest") (λ vs f. f.form) (default_name (codes "rest") 3 refl refl);
      diff_list = one (codes "list") (codes "diff-list") (λ vs f. f.form) (default_name (codes "list") 3 refl refl);
      diff_last = one (codes "last") (codes "diff-last") (λ vs f. f.form) (default_name (codes "last") 3 refl refl);
      sorts = sorts_named (entries_of (codes "sort") es) (kept_named (codes "sort") es all);
    }

settled_same : (es : List Entry) (t : SettingsTree) (b : Bool) (n : ℕ) → (if b then Err n else Ok (settings_by es)) ≡ Ok t → settings_by es ≡ t
settled_same es t true n h = cc
settled_same es t false n h = cc

file_named : (r : Result (List Entry) ℕ) (t : SettingsTree) → ((es : List Entry) → r ≡ Ok es → AllFormed es) → settled_by r ≡ Ok t → AreNamed t
file_named (Err n) t all h = cc
file_named (Ok es) t all h = subst AreNamed (settled_same es t (bytes_eq (settings_by es).top_type (settings_by es).string_type) _ h) (entries_named es (all es refl))

-- the settings of a file, and the defaults
pub said_named : (text : List ℕ) (t : SettingsTree) → settings_in text ≡ Ok t → AreNamed t
said_named text t e = file_named (entries_from 1 (lines_of text)) t (entries_formed 1 (lines_of text)) e

pub defaults_named : AreNamed default_settings
defaults_named = entries_named [] tt

-- The settings that a file gives may name a top type and a string type.
use Rattle.std.proofs.Common.{◌≡◌, ℕ, ◌+◌, ◌&&◌, not, Bool, true, false, List, [], ◌∷◌, Option, Some, None, Result, Ok, Err, if◌then◌else◌, codes, encode_utf8_all, refl, sym, ◌∙◌, subst}
use Rattle.std.specs.Str.{bytes_eq, chars, is_utf8}
use Rattle.lkb_io.specs.Lines.{lines_of}
use Rattle.type_hierarchy.specs.Faults.{is_glb_name}
use Rattle.type_hierarchy.proofs.NameLemmas.{bytes_eq-same, bytes_eq-refl}
use Rattle.grammar_settings.specs.declared.forms.ValueForm.TheVariants.{WrittenType}
use Rattle.grammar_settings.specs.Forms.{Name, Word, fits, has_form, name_of, is_word}
use Rattle.grammar_settings.specs.SettingsFiles.{Entry, words, is_comment, entry_of, line_gives, after_line, entries_from, entries_of, last_values}
use Rattle.grammar_settings.specs.Settled.{SettingsTree, given, word_or, settings_by, settled, settled_by, settings_in, default_settings}

-- each of these entries has the form of its name
abbrev pub AllFormed : List Entry → Type 0
AllFormed [] = Unit {0}
AllFormed (e ∷ es) = (has_form e.name e.values ≡ true) × AllFormed es

false-true : false ≡ true → ⊥
false-true e = cc

and_left : (a b : Bool) → (a && b) ≡ true → a ≡ true
and_left true b e = refl
and_left false b e = e

and_right : (a b : Bool) → (a && b) ≡ true → b ≡ true
and_right true b e = e
and_right false b e = absurd (false-true e)

not_true : (a : Bool) → not a ≡ true → a ≡ false
not_true true e = absurd (false-true e)
not_true false e = refl

entry_formed : (n : ℕ) (name : Word) (values : List Word) (e : Entry) (b : Bool) → has_form (encode_utf8_all name) values ≡ b
    → (if b then Some (Some (record { name = encode_utf8_all name; values = values; line = n })) else None) ≡ Some (Some e) → has_form e.name e.values ≡ true
entry_formed n name values e true f h =
    let g : Entry → Bool = λ k. has_form k.name k.values in
    let same : record { name = encode_utf8_all name; values = values; line = n } ≡ e = cc in
    subst (λ k. g k ≡ true) same f
entry_formed n name values e false f h = cc

words_formed : (n : ℕ) (ws : List Word) (e : Entry) → entry_of n ws ≡ Some (Some e) → has_form e.name e.values ≡ true
words_formed n [] e h = cc
words_formed n (name ∷ values) e h = entry_formed n name values e (has_form (encode_utf8_all name) values) refl h

line_formed : (n : ℕ) (line : List ℕ) (e : Entry) (b d : Bool) → (if b then (if d then Some None else entry_of n (words (chars line))) else None) ≡ Some (Some e) → has_form e.name e.values ≡ true
line_formed n line e true true h = cc
line_formed n line e true false h = words_formed n (words (chars line)) e h
line_formed n line e false d h = cc

more_formed : (n : ℕ) (line : List ℕ) (o : Option (Option Entry)) (more : Result (List Entry) ℕ) (es : List Entry) → ((e : Entry) → o ≡ Some (Some e) → has_form e.name e.values ≡ true) → after_line n o more ≡ Ok es
    → ((fs : List Entry) → more ≡ Ok fs → AllFormed fs) → AllFormed es
more_formed n line None more es f h ih = cc
more_formed n line (Some o) (Err k) es f h ih = cc
more_formed n line (Some None) (Ok fs) es f h ih = ih es h
more_formed n line (Some (Some e)) (Ok fs) es f h ih = let same : e ∷ fs ≡ es = cc in subst AllFormed same (f e refl, ih fs refl)

entries_formed : (n : ℕ) (ls : List (List ℕ)) (es : List Entry) → entries_from n ls ≡ Ok es → AllFormed es
entries_formed n [] es h = let same : [] ≡ es = cc in subst AllFormed same tt
entries_formed n (l ∷ ls) es h = more_formed n l (line_gives n l) (entries_from (n + 1) ls) es (λ e k. line_formed n l e (is_utf8 l) (is_comment l) k) h (entries_formed (n + 1) ls)

-- the last values of a name have its form
last_step : (name : Name) (o : Option (List Word)) (e : Entry) (es : List Entry) (b : Bool) → bytes_eq e.name name ≡ b → has_form e.name e.values ≡ true → ((ws : List Word) → o ≡ Some ws → has_form name ws ≡ true)
    → ((p : Option (List Word)) → ((ws : List Word) → p ≡ Some ws → has_form name ws ≡ true) → (vs : List Word) → last_values p (entries_of name es) ≡ Some vs → has_form name vs ≡ true)
    → (vs : List Word) → last_values o (if b then e ∷ entries_of name es else entries_of name es) ≡ Some vs → has_form name vs ≡ true
last_step name o e es true same formed before ih vs h =
    ih (Some e.values) (λ ws k. let w : e.values ≡ ws = cc in subst (λ x. has_form name x ≡ true) w (subst (λ x. has_form x e.values ≡ true) (bytes_eq-same e.name name same) formed)) vs h
last_step name o e es false same formed before ih vs h = ih o before vs h

last_formed : (name : Name) (es : List Entry) → AllFormed es → (o : Option (List Word)) → ((ws : List Word) → o ≡ Some ws → has_form name ws ≡ true) → (vs : List Word)
    → last_values o (entries_of name es) ≡ Some vs → has_form name vs ≡ true
last_formed name [] all o before vs h = before vs h
last_formed name (e ∷ es) all o before vs h = last_step name o e es (bytes_eq e.name name) refl all.0 before (last_formed name es all.1) vs h

given_formed : (name : Name) (es : List Entry) → AllFormed es → (vs : List Word) → given name es ≡ Some vs → has_form name vs ≡ true
given_formed name es all vs h = last_formed name es all None (λ ws k. cc) vs h

-- a type that is written isn't named as an added type is
type_unreserved : (default : Name) (o : Option (List Word)) → is_glb_name default ≡ false → ((vs : List Word) → o ≡ Some vs → fits WrittenType vs ≡ true) → is_glb_name (word_or default o) ≡ false
type_unreserved default None d h = d
type_unreserved default (Some []) d h = d
type_unreserved default (Some (v ∷ [])) d h = not_true (is_glb_name (name_of v)) (and_right (is_word v) (not (is_glb_name (name_of v))) (h (v ∷ []) refl))
type_unreserved default (Some (v ∷ w ∷ vs)) d h = absurd (false-true (h (v ∷ w ∷ vs) refl))

settled_same : (es : List Entry) (t : SettingsTree) (b : Bool) (n : ℕ) → (if b then Err n else Ok (settings_by es)) ≡ Ok t → (b ≡ false) × (settings_by es ≡ t)
settled_same es t true n h = cc
settled_same es t false n h = (refl, cc)

apart : (a b : Name) → bytes_eq a b ≡ false → a ≡ b → ⊥
apart a b e same = false-true (sym e ∙ subst (λ x. bytes_eq a x ≡ true) same (bytes_eq-refl a))

-- the top type and the string type of settings
pub record MayName (t : SettingsTree) : Type 0 where
  pub differ : t.top_type ≡ t.string_type → ⊥
  pub top_free : is_glb_name t.top_type ≡ false
  pub string_free : is_glb_name t.string_type ≡ false

entries_name : (es : List Entry) (t : SettingsTree) → AllFormed es → settled es ≡ Ok t → MayName t
entries_name es t all h =
    let both : (bytes_eq (settings_by es).top_type (settings_by es).string_type ≡ false) × (settings_by es ≡ t) = settled_same es t (bytes_eq (settings_by es).top_type (settings_by es).string_type) _ h in
    subst MayName both.1 (record {
      differ = apart (settings_by es).top_type (settings_by es).string_type both.0;
      top_free = type_unreserved (codes "*top*") (given (codes "top-type") es) refl (given_formed (codes "top-type") es all);
      string_free = type_unreserved (codes "string") (given (codes "string-type") es) refl (given_formed (codes "string-type") es all);
    })

file_names : (r : Result (List Entry) ℕ) (t : SettingsTree) → ((es : List Entry) → r ≡ Ok es → AllFormed es) → settled_by r ≡ Ok t → MayName t
file_names (Err n) t all h = cc
file_names (Ok es) t all h = entries_name es t (all es refl) h

pub said_name : (text : List ℕ) (t : SettingsTree) → settings_in text ≡ Ok t → MayName t
said_name text t e = file_names (entries_from 1 (lines_of text)) t (entries_formed 1 (lines_of text)) e

pub defaults_name : MayName default_settings
defaults_name = entries_name [] default_settings tt refl

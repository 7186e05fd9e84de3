-- Words that ask for help or the version.
use Rattle.std.proofs.Common.{◌≡◌, ◌∙◌, sym, ap, refl, subst, ℕ, List, [], ◌∷◌, Option, None, Some, Bool, true, false, ◌||◌, inl, inr, ◌⊎◌, codes, option_map, if◌then◌else◌}
use Rattle.std.proofs.lemmas.Slice.Eq.{bytes_eq-Decides}
use Rattle.std.specs.List.{list_all}
use Rattle.std.specs.Str.{bytes_eq}
use Rattle.command_line.specs.Words.{Task, name_word, command_word, Form, help, help_on, version, run, IsHelpFlag, IsForm, Options}
use Rattle.command_line.specs.declared.tasks.CommandName.{CommandName}
use Rattle.command_line.specs.declared.tasks.CommandName.TheVariants as named
use Rattle.command_line.specs.Inner.Reading.{is_word, command_named, is_help_flag, one_word_form, two_word_form, told_form}
use Rattle.command_line.proofs.Choosing.{or-parts, named-word, no-task, items-pass}

pub head-same : {X : Type 0} (x y : X) (xs ys : List X) → x ∷ xs ≡ y ∷ ys → x ≡ y
head-same x y xs ys e = cc

pub tail-same : {X : Type 0} (x y : X) (xs ys : List X) → x ∷ xs ≡ y ∷ ys → xs ≡ ys
tail-same x y xs ys e = cc

pub some-same : {X : Type 0} (x y : X) → Some x ≡ Some y → x ≡ y
some-same x y e = cc

pub named-is : (n : CommandName) → command_named (name_word n) ≡ Some n
named-is named.Parse = refl
named-is named.Chart = refl
named-is named.Explain = refl
named-is named.Generate = refl
named-is named.Types = refl
named-is named.Expand = refl
named-is named.Check = refl
named-is named.SelfTest = refl
named-is named.Scope = refl
named-is named.Batch = refl
named-is named.Transfer = refl

not-help : (n : CommandName) → bytes_eq (name_word n) (codes "help") ≡ false
not-help named.Parse = refl
not-help named.Chart = refl
not-help named.Explain = refl
not-help named.Generate = refl
not-help named.Types = refl
not-help named.Expand = refl
not-help named.Check = refl
not-help named.SelfTest = refl
not-help named.Scope = refl
not-help named.Batch = refl
not-help named.Transfer = refl

flag-is : (w : List ℕ) → is_help_flag w ≡ true → IsHelpFlag w
flag-is w e = elim (or-parts (bytes_eq w (codes "--help")) (bytes_eq w (codes "-h")) e) [
  | inl h ↦ inl ((bytes_eq-Decides w (codes "--help")).0 h)
  | inr h ↦ inr ((bytes_eq-Decides w (codes "-h")).0 h)
]

is-flag : (w : List ℕ) → IsHelpFlag w → is_help_flag w ≡ true
is-flag w (inl e) = ap is_help_flag e
is-flag w (inr e) = ap is_help_flag e

-- ---- what is told is so

one-told : (w : List ℕ) (f : Form) → one_word_form w ≡ Some f → IsForm (w ∷ []) f
one-told w f e = by_tests (is_help_flag w) (bytes_eq w (codes "help")) (bytes_eq w (codes "--version")) refl refl refl e
  where
    by_tests : (s t u : Bool) → is_help_flag w ≡ s → bytes_eq w (codes "help") ≡ t → bytes_eq w (codes "--version") ≡ u
        → (if s || t then Some help else (if u then Some version else None)) ≡ Some f → IsForm (w ∷ []) f
    by_tests true t u g h k e = subst (IsForm (w ∷ [])) (some-same help f e) (w, refl, inl (flag-is w g))
    by_tests false true u g h k e = subst (IsForm (w ∷ [])) (some-same help f e) (w, refl, inr ((bytes_eq-Decides w (codes "help")).0 h))
    by_tests false false true g h k e = subst (IsForm (w ∷ [])) (some-same version f e) (ap (λ x. x ∷ []) ((bytes_eq-Decides w (codes "--version")).0 k))
    by_tests false false false g h k e = cc

-- help on the command of a word
help-named : (w : List ℕ) (f : Form) → option_map (λ c. help_on c) (command_named w) ≡ Some f → (c : CommandName) × (w ≡ name_word c) × (help_on c ≡ f)
help-named w f e = by_name (command_named w) refl e
  where
    by_name : (o : Option CommandName) → command_named w ≡ o → option_map (λ c. help_on c) o ≡ Some f → (c : CommandName) × (w ≡ name_word c) × (help_on c ≡ f)
    by_name (Some c) g e = (c, named-word w c g, some-same (help_on c) f e)
    by_name None g e = cc

two-told : (w x : List ℕ) (f : Form) → two_word_form w x ≡ Some f → IsForm (w ∷ x ∷ []) f
two-told w x f e = by_tests (bytes_eq w (codes "help")) (is_help_flag x) refl refl e
  where
    by_tests : (s t : Bool) → bytes_eq w (codes "help") ≡ s → is_help_flag x ≡ t
        → (if s then option_map (λ c. help_on c) (command_named x) else (if t then option_map (λ c. help_on c) (command_named w) else None)) ≡ Some f → IsForm (w ∷ x ∷ []) f
    by_tests true t g h e = let n = help-named x f e in
        subst (IsForm (w ∷ x ∷ [])) n.2 (inr (ap (λ y. y ∷ x ∷ []) ((bytes_eq-Decides w (codes "help")).0 g) ∙ ap (λ y. codes "help" ∷ y ∷ []) n.1))
    by_tests false true g h e = let n = help-named w f e in
        subst (IsForm (w ∷ x ∷ [])) n.2 (inl (x, ap (λ y. y ∷ x ∷ []) n.1, flag-is x h))
    by_tests false false g h e = cc

pub told-is : (ws : List (List ℕ)) (f : Form) → told_form ws ≡ Some f → IsForm ws f
told-is [] f e = cc
told-is (w ∷ []) f e = one-told w f e
told-is (w ∷ x ∷ []) f e = two-told w x f e
told-is (w ∷ x ∷ y ∷ ws) f e = cc

-- ---- what is so is told

pub help-told : (ws : List (List ℕ)) → IsForm ws help → told_form ws ≡ Some help
help-told ws h = ap told_form h.1 ∙ by_word h.0 h.2
  where
    by_word : (w : List ℕ) → IsHelpFlag w ⊎ (w ≡ codes "help") → one_word_form w ≡ Some help
    by_word w (inl (inl e)) = ap one_word_form e
    by_word w (inl (inr e)) = ap one_word_form e
    by_word w (inr e) = ap one_word_form e

pub version-told : (ws : List (List ℕ)) → IsForm ws version → told_form ws ≡ Some version
version-told ws h = ap told_form h

pub help-on-told : (ws : List (List ℕ)) (c : CommandName) → IsForm ws (help_on c) → told_form ws ≡ Some (help_on c)
help-on-told ws c (inl h) = ap told_form h.1 ∙ rw (not-help c, is-flag h.0 h.2, named-is c) refl
help-on-told ws c (inr e) = ap told_form e ∙ rw (named-is c) refl

-- ---- none of it is a run

-- a run begins with the word of a command
pub begins : (t : Task) (w : List ℕ) (words rest : List (List ℕ)) → command_named w ≡ None → w ∷ words ≡ command_word t ∷ rest → ⊥
begins t w words rest none e = no-task t (ap command_named (sym (head-same w (command_word t) words rest e)) ∙ none)

pub help-apart : (ws : List (List ℕ)) (t : Task) (o : Options) → IsForm ws help → IsForm ws (run t o) → ⊥
help-apart ws t o h k = begins t h.0 [] k.0 (by_word h.0 h.2) (sym h.1 ∙ k.2)
  where
    by_word : (w : List ℕ) → IsHelpFlag w ⊎ (w ≡ codes "help") → command_named w ≡ None
    by_word w (inl (inl e)) = ap command_named e
    by_word w (inl (inr e)) = ap command_named e
    by_word w (inr e) = ap command_named e

pub version-apart : (ws : List (List ℕ)) (t : Task) (o : Options) → IsForm ws version → IsForm ws (run t o) → ⊥
version-apart ws t o h k = begins t (codes "--version") [] k.0 refl (sym h ∙ k.2)

pub help-on-apart : (ws : List (List ℕ)) (c : CommandName) (t : Task) (o : Options) → IsForm ws (help_on c) → IsForm ws (run t o) → ⊥
help-on-apart ws c t o (inl h) k = by_flag h.2
  where
    pass : list_all is_word (h.0 ∷ []) ≡ true
    pass = ap (list_all is_word) (tail-same (name_word c) (command_word t) (h.0 ∷ []) k.0 (sym h.1 ∙ k.2) ∙ k.3.1) ∙ items-pass k.3.0 k.3.2

    by_flag : IsHelpFlag h.0 → ⊥
    by_flag (inl e) = let bad : false ≡ true = sym (ap (λ w. list_all is_word (w ∷ [])) e) ∙ pass in cc
    by_flag (inr e) = let bad : false ≡ true = sym (ap (λ w. list_all is_word (w ∷ [])) e) ∙ pass in cc
help-on-apart ws c t o (inr e) k = begins t (codes "help") (name_word c ∷ []) k.0 refl (sym e ∙ k.2)

-- ---- words of no form

abbrev IsRun : List (List ℕ) → Type 0
IsRun ws = (t : Task) (options : Options) → IsForm ws (run t options) → ⊥

untold : (ws : List (List ℕ)) (f : Form) → told_form ws ≡ None → told_form ws ≡ Some f → ⊥
untold ws f e h = let bad : None ≡ Some f = sym e ∙ h in cc

pub no-form : (ws : List (List ℕ)) → told_form ws ≡ None → IsRun ws → (f : Form) → IsForm ws f → ⊥
no-form ws e none help h = untold ws help e (help-told ws h)
no-form ws e none (help_on c) h = untold ws (help_on c) e (help-on-told ws c h)
no-form ws e none version h = untold ws version e (version-told ws h)
no-form ws e none (run t options) h = none t options h

-- Where words end, or break off.
use Rattle.std.proofs.Common.{◌≡◌, ◌∙◌, inl, inr, sym, ap, refl, subst, ℕ, zero, suc, ◌<◌, List, [], ◌∷◌, ◌++◌, length, Some, None, Bool, true, false, ◌||◌, slice_get, map, take, drop, get_or, append_assoc, arith, codes, if◌then◌else◌}
use Rattle.std.specs.Bool.{Decides}
use Rattle.std.specs.List.{list_any}
use Rattle.std.specs.Str.{bytes_eq}
use Rattle.command_line.specs.Words.{Value, IsValue, is_name, positionals, Form, help, help_on, version, run, IsForm}
use Rattle.command_line.specs.declared.tasks.CommandName.{CommandName}
use Rattle.command_line.specs.declared.tasks.CommandName.TheVariants as named
use Rattle.command_line.proofs.Telling.{some-same}
use Rattle.command_line.specs.declared.places.Wanted.{Wanted}
use Rattle.command_line.specs.declared.places.Place.{Place}
use Rattle.command_line.specs.declared.places.Place.TheVariants.{First, AfterHelp, PastEnd, Argument, OfOption}
use Rattle.command_line.specs.declared.faults.Cause.{Cause}
use Rattle.command_line.specs.declared.faults.Cause.TheVariants.{NoCommand, NoOption, SaidTwice, NoValue, OutOfRange, TooMany, Empty}
use Rattle.command_line.specs.declared.faults.WordFault.{WordFault}
use Rattle.command_line.specs.declared.faults.WordFault.TheVariants.{Wrong, Missing}
use Rattle.command_line.specs.Fronts.{GoesOn, values_by, names_by, IsEnd, IsAt}
use Rattle.command_line.specs.Faults.{IsFirstWrong, IsWrong, IsTold, EndsWithOption, WantsValue, lacking_at, IsFault, is_option_word, is_alone, dash_cause, cause_at}
use Rattle.command_line.specs.WordInner.{Ends, told_by}
use Rattle.command_line.proofs.Forms.{whole-argument, going_form, none-left}
use Rattle.command_line.proofs.Steps.{goes-on, value-wanted}

pub not-so : (t : Bool) (P : Type 0) → Decides t P → t ≡ false → P → ⊥
not-so t P d e p = let bad : true ≡ false = sym (d.1 p) ∙ e in cc

pub only-value : (values : List Value) (k : ℕ) (u : Value) (w : List ℕ) → slice_get values k ≡ Some u → (IsValue u (w ∷ []) → ⊥) → (v : Value) → slice_get values k ≡ Some v → IsValue v (w ∷ []) → ⊥
only-value values k u w here not v there is = not (subst (λ x. IsValue x (w ∷ [])) (some-same v u (sym there ∙ here)) is)

-- ---- each positional word has a name

one-gap : {X Y : Type 0} (x : X) (y : Y) (k : ℕ) → slice_get (x ∷ []) k ≡ None → slice_get (y ∷ []) k ≡ None
one-gap x y zero e = cc
one-gap x y (suc k) e = refl

two-gap : {X Y : Type 0} (x u : X) (y v : Y) (k : ℕ) → slice_get (x ∷ u ∷ []) k ≡ None → slice_get (y ∷ v ∷ []) k ≡ None
two-gap x u y v zero e = cc
two-gap x u y v (suc zero) e = cc
two-gap x u y v (suc (suc k)) e = refl

no-name : (c : CommandName) (k : ℕ) → slice_get (values_by c) k ≡ None → slice_get (names_by c) k ≡ None
no-name named.Parse k e = one-gap _ _ k e
no-name named.Chart k e = one-gap _ _ k e
no-name named.Explain k e = one-gap _ _ k e
no-name named.Generate k e = one-gap _ _ k e
no-name named.Types k e = one-gap _ _ k e
no-name named.Check k e = one-gap _ _ k e
no-name named.Transfer k e = one-gap _ _ k e
no-name named.Expand k e = two-gap _ _ _ _ k e
no-name named.Batch k e = two-gap _ _ _ _ k e
no-name named.SelfTest k e = two-gap _ _ _ _ k e
no-name named.Scope k e = refl

no-value : (c : CommandName) (k : ℕ) → slice_get (names_by c) k ≡ None → slice_get (values_by c) k ≡ None
no-value named.Parse k e = one-gap _ _ k e
no-value named.Chart k e = one-gap _ _ k e
no-value named.Explain k e = one-gap _ _ k e
no-value named.Generate k e = one-gap _ _ k e
no-value named.Types k e = one-gap _ _ k e
no-value named.Check k e = one-gap _ _ k e
no-value named.Transfer k e = one-gap _ _ k e
no-value named.Expand k e = two-gap _ _ _ _ k e
no-value named.Batch k e = two-gap _ _ _ _ k e
no-value named.SelfTest k e = two-gap _ _ _ _ k e
no-value named.Scope k e = refl

-- ---- words of a form

end-form : (words : List (List ℕ)) → IsEnd words → (form : Form) × IsForm words form
end-form words (inl e) = (version, e)
end-form words (inr (inl h)) = (help, (h.0, h.1, inl h.2))
end-form words (inr (inr h)) = (help_on h.0, h.1)

pub help-ends : (words : List (List ℕ)) → IsAt words AfterHelp → (form : Form) × IsForm words form
help-ends words at = (help, (codes "help", at, inr refl))

pub past-ends : (words : List (List ℕ)) → IsAt words PastEnd → (form : Form) × IsForm words form
past-ends words at = end-form words at

pub arguments-end : (words : List (List ℕ)) (c : CommandName) (k : ℕ) → IsAt words (Argument c k) → slice_get (names_by c) k ≡ None → (form : Form) × IsForm words form
arguments-end words c k at none =
    let whole = whole-argument c at.0 at.2 (ap (slice_get (values_by c)) at.3 ∙ no-value c k none) in
    (going_form c at.0 at.2, subst (λ ws. IsForm ws (going_form c at.0 at.2)) (sym at.1) whole)

-- ---- the last word

not-empty : (words : List (List ℕ)) (place : Place) → IsAt words place → words ≡ [] → place ≡ First
not-empty words First at e = refl
not-empty words AfterHelp at e = let bad = sym at ∙ e in cc
not-empty words PastEnd (inl at) e = let bad = sym at ∙ e in cc
not-empty words PastEnd (inr (inl h)) e = let bad = sym h.1 ∙ e in cc
not-empty words PastEnd (inr (inr (c, inl h))) e = let bad = sym h.1 ∙ e in cc
not-empty words PastEnd (inr (inr (c, inr h))) e = let bad = sym h ∙ e in cc
not-empty words (Argument c k) at e = let bad = sym at.1 ∙ e in cc
not-empty words (OfOption c k wanted) at e = let bad = sym at.2 ∙ e in cc

pub option-ends : (words : List (List ℕ)) (c : CommandName) (k : ℕ) (wanted : Wanted) (last : List ℕ) → IsAt words (OfOption c k wanted) → Ends words last → EndsWithOption words last
option-ends words c k wanted last at (inl e) = absurd (let bad = sym at.2 ∙ e in cc)
option-ends words c k wanted last at (inr h) = (OfOption c k wanted, h.0, at, tt, h.1)

dash-not : (word : List ℕ) → dash_cause NoCommand word ≡ NoValue → ⊥
dash-not word e = by_tests (is_option_word word) (is_alone word) e
  where
    by_tests : (s t : Bool) → (if s then NoCommand else (if t then TooMany else NoOption)) ≡ NoValue → ⊥
    by_tests true t e = cc
    by_tests false true e = cc
    by_tests false false e = cc

first-not : (word : List ℕ) → cause_at First word ≡ NoValue → ⊥
first-not word e = by_tests (bytes_eq word []) (is_name word) e
  where
    by_tests : (s t : Bool) → (if s then Empty else (if t then NoCommand else dash_cause NoCommand word)) ≡ NoValue → ⊥
    by_tests true t e = cc
    by_tests false true e = cc
    by_tests false false e = dash-not word e

told-is : (cause : Cause) (before : List (List ℕ)) (last word : List ℕ) → (cause ≡ NoValue → (front : List (List ℕ)) × (before ≡ front ++ last ∷ [])) → IsTold cause before word (told_by cause last word)
told-is NoValue before last word h = h refl
told-is NoCommand before last word h = refl
told-is NoOption before last word h = refl
told-is SaidTwice before last word h = refl
told-is (OutOfRange a b) before last word h = refl
told-is TooMany before last word h = refl
told-is Empty before last word h = refl

front-of : (before : List (List ℕ)) (place : Place) (last word : List ℕ) → IsAt before place → Ends before last → cause_at place word ≡ NoValue → (front : List (List ℕ)) × (before ≡ front ++ last ∷ [])
front-of before place last word at (inl e) missing = absurd (first-not word (subst (λ p. cause_at p word ≡ NoValue) (not-empty before place at e) missing))
front-of before place last word at (inr h) missing = h

pub is-wrong : (words before : List (List ℕ)) (place : Place) (last word told : List ℕ) (cause : Cause) → cause ≡ cause_at place word → told ≡ told_by cause last word
    → IsFirstWrong words before word → IsAt before place → Ends before last → IsWrong words told cause
is-wrong words before place last word told cause why is first at ends = record {
  before = before;
  word = word;
  first = first;
  place = place;
  at = at;
  why = why;
  tells = subst (IsTold cause before word) (sym is) (told-is cause before last word (λ missing. front-of before place last word at ends (sym why ∙ missing)));
}

-- ---- the words so far

pub so-far : {X : Type 0} (f : X → List ℕ) (xs : List X) (i : ℕ) (x : X) → i < length xs → get_or xs i x ≡ x → take (suc i) (map f xs) ≡ take i (map f xs) ++ f x ∷ []
so-far f [] i x less e = absurd (omega (arith, less))
so-far f (y ∷ xs) zero x less e = ap (λ z. f z ∷ []) e
so-far f (y ∷ xs) (suc i) x less e = ap (λ zs. f y ∷ zs) (so-far f xs i x (omega (arith, less)) e)

pub parted : {X : Type 0} (f : X → List ℕ) (xs : List X) (i : ℕ) (x : X) → i < length xs → get_or xs i x ≡ x → map f xs ≡ take i (map f xs) ++ f x ∷ drop (suc i) (map f xs)
parted f [] i x less e = absurd (omega (arith, less))
parted f (y ∷ xs) zero x less e = ap (λ z. f z ∷ map f xs) e
parted f (y ∷ xs) (suc i) x less e = ap (λ zs. f y ∷ zs) (parted f xs i x (omega (arith, less)) e)

pub first-wrong : (words before : List (List ℕ)) (word : List ℕ) (after : List (List ℕ)) (place : Place) → words ≡ before ++ word ∷ after → IsAt before place → (GoesOn (before ++ word ∷ []) → ⊥) → IsFirstWrong words before word
first-wrong words before word after place split at ends = record { after = after; split = split; goes = goes-on before place at; ends = ends }

pub any-at : {X : Type 0} (f : X → List ℕ) (p : List ℕ → Bool) (xs : List X) (i : ℕ) (x : X) → i < length xs → get_or xs i x ≡ x → list_any p (drop i (map f xs)) ≡ (p (f x) || list_any p (drop (suc i) (map f xs)))
any-at f p (y ∷ xs) zero x less e = ap (λ z. p (f z) || list_any p (map f xs)) e
any-at f p (y ∷ xs) (suc i) x less e = any-at f p xs i x (omega (arith, less)) e
any-at f p [] i x less e = absurd (omega (arith, less))

-- ---- no words end so

pub faultless : (words : List (List ℕ)) (fault : WordFault) (form : Form) → IsFault words fault → IsForm words form → ⊥
faultless words (Wrong told cause) form (inl wrong) is =
    let w = wrong.first in
    w.ends (w.after, form, subst (λ ws. IsForm ws form) (w.split ∙ sym (append_assoc wrong.before (wrong.word ∷ []) w.after)) is)
faultless words (Wrong told cause) form (inr ends) is = by_place ends.1.0 ends.1.2 ends.1.3
  where
    by_place : (place : Place) → IsAt words place → WantsValue place → ⊥
    by_place (OfOption c k wanted) at wants = value-wanted words c k wanted [] at form is
    by_place First at wants = wants
    by_place AfterHelp at wants = wants
    by_place PastEnd at wants = wants
    by_place (Argument c k) at wants = wants
faultless words (Missing name) form lacks is = by_place lacks.0 lacks.1 lacks.2
  where
    no_words : (f : Form) → IsForm [] f → ⊥
    no_words help h = let bad = h.1 in cc
    no_words (help_on c) (inl h) = let bad = h.1 in cc
    no_words (help_on c) (inr h) = cc
    no_words version h = cc
    no_words (run t o) h = let bad = h.2 in cc

    by_place : (place : Place) → IsAt words place → lacking_at place ≡ Some name.now → ⊥
    by_place First at e = no_words form (subst (λ ws. IsForm ws form) at is)
    by_place AfterHelp at e = cc
    by_place PastEnd at e = cc
    by_place (Argument c k) at e =
        let none : slice_get (values_by c) (length (positionals at.0)) ≡ None = none-left c at.0 form at.2 (subst (λ ws. IsForm ws form) at.1 is) in
        let bad : None ≡ Some name.now = sym (no-name c k (ap (slice_get (values_by c)) (sym at.3) ∙ none)) ∙ e in cc
    by_place (OfOption c k wanted) at e = cc

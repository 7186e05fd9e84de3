-- What a single value gives an element.
use Rattle.std.proofs.Common.{◌||◌, false, ◌≡◌, ◌≢◌, ℕ, ◌∙◌, zero, suc, ◌<◌, List, [], ◌∷◌, ◌++◌, Some, None, Result, Ok, Err, OnOk, map, refl, ap, sym, subst, length, get_or, arith, codes}
use Rattle.std.specs.List.{All, slice_get}
use Rattle.std.specs.Result.{IsErrAnd}
use Rattle.std.specs.Str.{chars}
use Rattle.std.specs.String.{string_bytes}
use Rattle.std.proofs.lemmas.Option.{same_Some}
use Rattle.std.proofs.lemmas.List.Elements.{All-cons, All-head, All-nil, All-tail}
use Rattle.mrs_model.specs.Meanings.{Argument, of_var, of_text as filled_by_text}
use Rattle.mrs_model.specs.Texts.{IsName, ends_name, is_capital}
use Rattle.mrs_model.specs.Views.{argument_of}
use Rattle.mrs_model.specs.declared.Role.{Role}
use Rattle.mrs_reading.specs.Inner.Tables.{IsAdded}
use Rattle.mrs_reading.proofs.Rising.{added_map}
use Rattle.tdl_reader.specs.Trees.{TermTree, of_name, of_text, of_coref, of_avm, of_list, of_diff}
use Rattle.transfer_rules.specs.Features.{Feature, DifferInName, IsCorefName, IsFeature, IsFiller, is_coref, is_text, IsRoleValue, by_coref, by_text, coref_of, each_once, pred_in}
use Rattle.transfer_rules.specs.Inner.Drafts.{Draft, with_pred, with_label, HasRole, IsDraft}
use Rattle.transfer_rules.specs.Inner.Terms.{text_in}
use Rattle.transfer_rules.proofs.Drafting.{draft_grown, draft_pred, draft_label, draft_role}
use Rattle.transfer_rules.proofs.Written.{pred_not_label, is_role_by}

pub text_shape : (t : TermTree) (text : List ℕ) → text_in t ≡ Some text → (at : ℕ) × (t ≡ of_text text at)
text_shape (of_name n at) text e = absurd (let f : None ≡ Some text = e in cc)
text_shape (of_text n at) text e = (at, ap (λ z. of_text z at) (same_Some n text e))
text_shape (of_coref n at) text e = absurd (let f : None ≡ Some text = e in cc)
text_shape (of_avm x at) text e = absurd (let f : None ≡ Some text = e in cc)
text_shape (of_list i r at) text e = absurd (let f : None ≡ Some text = e in cc)
text_shape (of_diff i at) text e = absurd (let f : None ≡ Some text = e in cc)

-- a text
pub text_filler : (names : List (List ℕ)) (t : TermTree) (text : List ℕ) → text_in t ≡ Some text → IsFiller names t (filled_by_text text)
text_filler names t text e = let w = text_shape t text e in subst (λ z. IsFiller names z (filled_by_text text)) (sym w.1) (is_text text w.0)

pub text_value : (t : TermTree) (text : List ℕ) → text_in t ≡ Some text → IsRoleValue t
text_value t text e = let w = text_shape t text e in subst IsRoleValue (sym w.1) (by_text text w.0)

-- a coreference
pub coref_filler : (names : List (List ℕ)) (t : TermTree) (name : List ℕ) (at c : ℕ) → t ≡ of_coref name at → slice_get names c ≡ Some name → IsFiller names t (of_var c)
coref_filler names t name at c e s = subst (λ z. IsFiller names z (of_var c)) (sym e) (is_coref name at c s)

pub coref_value : (t : TermTree) (name : List ℕ) (at : ℕ) → t ≡ of_coref name at → IsCorefName name → IsRoleValue t
coref_value t name at e h = subst IsRoleValue (sym e) (by_coref name at h)

-- neither
pub no_role_value : (t : TermTree) → text_in t ≡ None → ((name : List ℕ) (at : ℕ) → t ≡ of_coref name at → IsCorefName name → ⊥) → IsRoleValue t → ⊥
no_role_value _ e h (by_coref name at c) = h name at refl c
no_role_value _ e h (by_text text at) = let f : Some text ≡ None = e in cc

-- the role that was added, as it is seen
pub role_seen : (old : List Role) (r : Role) (new : List Role) → IsAdded (λ (x : Role). string_bytes x.name) old r new → IsAdded (λ (a : Argument). a.role) (map argument_of old) (argument_of r) (map argument_of new)
role_seen old r new h = added_map argument_of (λ (x : Role). string_bytes x.name) (λ (a : Argument). a.role) (λ x. refl) old r new h

-- the name of the feature LBL is a name
pub label_name : IsName (codes "lbl")
unfolding chars
label_name = record {
  filled = let l : 0 < 3 = omega arith in l;
  signs = All-cons (λ c. (ends_name c || is_capital c) ≡ false) 108 (98 ∷ 108 ∷ []) refl (All-cons (λ c. (ends_name c || is_capital c) ≡ false) 98 (108 ∷ []) refl (All-cons (λ c. (ends_name c || is_capital c) ≡ false) 108 [] refl (All-nil (λ c. (ends_name c || is_capital c) ≡ false))));
}

-- results
pub on_ok : {A E : Type 0} {P Q : Type 0} (r : Result A E) → (P → Q) → OnOk r P → OnOk r Q
on_ok (Ok x) f h = f h
on_ok (Err e) f h = h

pub on_both : {A E : Type 0} {P Q R : Type 0} (r : Result A E) → (P → Q → R) → OnOk r P → OnOk r Q → OnOk r R
on_both (Ok x) f h k = f h k
on_both (Err e) f h k = h

pub err_back : {A E : Type 0} (r : Result A E) (e f : E) → IsErrAnd r (λ y. y ≡ e) → r ≡ Err f → e ≡ f
err_back (Ok x) e f h q = absurd h
err_back (Err y) e f h q = let g : y ≡ f = cc in sym h ∙ g

-- a feature that is taken
abbrev pub Takes : List (List ℕ) → List (List ℕ) → Feature → Draft → Draft → Type 0
Takes a b f d e = (fs : List Feature) → IsDraft a fs d → DifferInName (fs ++ f ∷ []) → IsDraft b (fs ++ f ∷ []) e

abbrev pub HasPred : Feature → Draft → Draft → Type 0
HasPred f d e = (text : List ℕ) × (pred_in f.value ≡ Some text) × (e ≡ with_pred text d)

abbrev pub HasLabel : List (List ℕ) → List (List ℕ) → Feature → Draft → Draft → Type 0
HasLabel a b f d e = (name : List ℕ) × (at : ℕ) × (f.value ≡ of_coref name at) × IsCorefName name
    × (b ≡ a ++ each_once a (name ∷ [])) × ((c : ℕ) × (slice_get b c ≡ Some name) × (e ≡ with_label c d))

grown : (a b more : List (List ℕ)) (fs : List Feature) (d : Draft) → b ≡ a ++ more → IsDraft a fs d → IsDraft b fs d
grown a b more fs d e h = subst (λ ns. IsDraft ns fs d) (sym e) (draft_grown a more fs d h)

pub takes_pred : (a : List (List ℕ)) (f : Feature) (d e : Draft) → f.name ≡ codes "pred" → HasPred f d e → Takes a a f d e
takes_pred a f d e p w fs h once = subst (IsDraft a (fs ++ f ∷ [])) (sym w.2) (draft_pred a fs f d h once w.0 p w.1)

pub takes_label : (a b : List (List ℕ)) (f : Feature) (d e : Draft) → f.name ≡ codes "lbl" → HasLabel a b f d e → Takes a b f d e
takes_label a b f d e p w fs h once =
    let c = w.5 in
    subst (IsDraft b (fs ++ f ∷ [])) (sym c.2) (draft_label b fs f d (grown a b (each_once a (w.0 ∷ [])) fs d w.4 h) once w.0 c.0 p (ap coref_of w.2) c.1)

pub takes_role : (a b : List (List ℕ)) (f : Feature) (d e : Draft) → f.name ≢ codes "pred" → f.name ≢ codes "lbl" → b ≡ a ++ each_once a (coref_of f.value) → HasRole b f d e → Takes a b f d e
takes_role a b f d e np nl n x fs h once = draft_role b fs f d (grown a b (each_once a (coref_of f.value)) fs d n h) once e x np nl (is_role_by f np nl)

pub label_form : (a b : List (List ℕ)) (f : Feature) (d e : Draft) → f.name ≡ codes "lbl" → HasLabel a b f d e → IsFeature f
label_form a b f d e l w = (λ p. absurd (pred_not_label (sym p ∙ l)), λ _. (w.0, w.1, w.2, w.3), λ _. (coref_value f.value w.0 w.1 w.2 w.3, subst IsName (sym l) label_name))

-- the feature at a place
pub all_at : {A B : Type 0} (P : B → Type 0) (f : A → B) (xs : List A) (i : ℕ) (x : A) → i < length xs → x ≡ get_or xs i x → All P (map f xs) → P (f x)
all_at P f [] i x l e h = absurd (omega (arith, l))
all_at P f (y ∷ xs) zero x l e h = subst (λ z. P (f z)) (sym e) (All-head P (f y) (map f xs) h)
all_at P f (y ∷ xs) (suc i) x l e h = all_at P f xs i x (omega (arith, l)) e (All-tail P (f y) (map f xs) h)

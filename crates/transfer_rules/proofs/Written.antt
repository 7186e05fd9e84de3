-- What features are written as: predicates, labels and roles.
use Rattle.std.proofs.Common.{◌≡◌, ◌≢◌, ℕ, zero, suc, ◌∙◌, ◌+◌, ◌<◌, ◌≤◌, ◌⊎◌, inl, inr, Bool, true, false, cond, ◌&&◌, not, List, [], ◌∷◌, ◌++◌, Some, None, refl, ap, sym, subst, length, take, drop, arith, codes}
use Rattle.std.specs.List.{All, Contains, slice_get, list_all}
use Rattle.std.specs.Str.{bytes_eq}
use Rattle.std.specs.Char.{is_ascii_digit}
use Rattle.std.proofs.lemmas.Option.{same_Some}
use Rattle.std.proofs.lemmas.List.{length-append}
use Rattle.std.proofs.lemmas.List.Elements.{All-cons, All-nil}
use Rattle.std.proofs.lemmas.Slice.Eq.{bytes_eq-Decides}
use Rattle.mrs_model.specs.Texts.{IsSort}
use Rattle.mrs_reading.proofs.Moves.{first_or_other}
use Rattle.mrs_reading.proofs.Predicated.{nothing_in}
use Rattle.tdl_reader.specs.Trees.{TermTree, of_name, of_text, of_coref, of_avm, of_list, of_diff}
use Rattle.transfer_rules.specs.Features.{Feature, DifferInName, IsCorefName, IsFeature, IsRoleValue, by_coref, by_text, coref_of, is_role, is_small, pred_in}
use Rattle.transfer_rules.specs.Forms.{letters_in}
use Rattle.transfer_rules.proofs.Lists.{at_of, bools, true_not_false}

pub and_parts : (a b : Bool) → (a && b) ≡ true → (a ≡ true) × (b ≡ true)
and_parts true true e = (refl, refl)
and_parts true false e = absurd (let f : false ≡ true = e in cc)
and_parts false b e = absurd (let f : false ≡ true = e in cc)

not_differ : (a b : List ℕ) → not (bytes_eq a b) ≡ true → a ≢ b
not_differ a b e f = true_not_false (bytes_eq a b) ((bytes_eq-Decides a b).1 f) (go (bytes_eq a b) e)
  where
    go : (t : Bool) → not t ≡ true → t ≡ false
    go true g = absurd (let h : false ≡ true = g in cc)
    go false g = refl

differ_not : (a b : List ℕ) → a ≢ b → not (bytes_eq a b) ≡ true
differ_not a b f = elim (bools (bytes_eq a b)) [
  | inl e ↦ absurd (f ((bytes_eq-Decides a b).0 e))
  | inr e ↦ ap not e
]

-- a role is neither PRED nor LBL
pub role_is : (f : Feature) → is_role f ≡ true → (f.name ≢ codes "pred") × (f.name ≢ codes "lbl")
role_is f e =
    let w = and_parts (not (bytes_eq f.name (codes "pred"))) (not (bytes_eq f.name (codes "lbl"))) e in
    (not_differ f.name (codes "pred") w.0, not_differ f.name (codes "lbl") w.1)

pub is_role_by : (f : Feature) → f.name ≢ codes "pred" → f.name ≢ codes "lbl" → is_role f ≡ true
is_role_by f a b = ap (λ t. t && not (bytes_eq f.name (codes "lbl"))) (differ_not f.name (codes "pred") a) ∙ differ_not f.name (codes "lbl") b

pub not_role : (f : Feature) (n : List ℕ) → f.name ≡ n → (n ≡ codes "pred") ⊎ (n ≡ codes "lbl") → is_role f ≡ false
not_role f n e w = elim (bools (is_role f)) [
  | inl r ↦ absurd (elim w [ inl p ↦ (role_is f r).0 (e ∙ p) | inr p ↦ (role_is f r).1 (e ∙ p) ])
  | inr r ↦ r
]

pub pred_not_label : codes "pred" ≡ codes "lbl" → ⊥
pred_not_label e = true_not_false (bytes_eq (codes "pred") (codes "lbl")) ((bytes_eq-Decides (codes "pred") (codes "lbl")).1 e) refl

-- the three kinds of features
pub data Kind (f : Feature) : Type 0 where
  of_pred : f.name ≡ codes "pred" → Kind f
  of_label : f.name ≡ codes "lbl" → Kind f
  of_role : f.name ≢ codes "pred" → f.name ≢ codes "lbl" → Kind f

same_or_not : (a b : List ℕ) → (a ≡ b) ⊎ (a ≢ b)
same_or_not a b = elim (bools (bytes_eq a b)) [
  | inl e ↦ inl ((bytes_eq-Decides a b).0 e)
  | inr e ↦ inr (λ f. true_not_false (bytes_eq a b) ((bytes_eq-Decides a b).1 f) e)
]

pub kind_of : (f : Feature) → Kind f
kind_of f = elim (same_or_not f.name (codes "pred")) [
  | inl e ↦ of_pred e
  | inr a ↦ (elim (same_or_not f.name (codes "lbl")) [ inl e ↦ of_label e | inr b ↦ of_role a b ])
]

-- one feature of a name
pub one_feature : (fs : List Feature) (f g : Feature) → DifferInName fs → Contains fs f → Contains fs g → f.name ≡ g.name → f ≡ g
one_feature fs f g once h k e = let i = once h.0 k.0 f g (at_of fs f h) (at_of fs g k) e in same_Some f g (sym (at_of fs f h) ∙ ap (slice_get fs) i ∙ at_of fs g k)

-- a value that is a coreference
pub coref_at : (x : TermTree) (name : List ℕ) → Contains (coref_of x) name → (at : ℕ) × (x ≡ of_coref name at)
coref_at (of_name n at) name h = absurd (nothing_in name h)
coref_at (of_text n at) name h = absurd (nothing_in name h)
coref_at (of_coref n at) name h = elim (first_or_other n [] name h) [ inl e ↦ (at, ap (λ z. of_coref z at) e) | inr k ↦ absurd (nothing_in name k) ]
coref_at (of_avm a at) name h = absurd (nothing_in name h)
coref_at (of_list i r at) name h = absurd (nothing_in name h)
coref_at (of_diff i at) name h = absurd (nothing_in name h)

same_coref : (a b : List ℕ) (at bt : ℕ) → of_coref a at ≡ of_coref b bt → a ≡ b
same_coref a b at bt e = cc

pub role_coref : (x : TermTree) (name : List ℕ) (at : ℕ) → IsRoleValue x → x ≡ of_coref name at → IsCorefName name
role_coref _ name at (by_coref n bt h) e = subst IsCorefName (same_coref n name bt at e) h
role_coref _ name at (by_text t bt) e = absurd (let f : of_text t bt ≡ of_coref name at = e in cc)

pub pred_no_coref : (x : TermTree) (name text : List ℕ) (at : ℕ) → pred_in x ≡ Some text → x ≡ of_coref name at → ⊥
pred_no_coref x name text at p e = let f : None ≡ Some text = sym (ap pred_in e) ∙ p in cc

-- the name of each coreference of an element is letters and digits
pub coref_named : (f : Feature) (name : List ℕ) (at : ℕ) → IsFeature f → f.value ≡ of_coref name at → IsCorefName name
coref_named f name at h e = elim (kind_of f) [
  | of_pred p ↦ (let w = h.0 p in absurd (pred_no_coref f.value name w.0 at w.1 e))
  | of_label p ↦ (let w = h.1 p in subst IsCorefName (same_coref w.0 name w.1 at (sym w.2 ∙ e)) w.3)
  | of_role a b ↦ role_coref f.value name at (h.2 a).0 e
]

-- letters before digits
digit_not_small : (c : ℕ) → is_ascii_digit c ≡ true → is_small c ≡ false
digit_not_small c d = grind (arith, d)

letters_stop : (d : List ℕ) → list_all is_ascii_digit d ≡ true → letters_in d ≡ []
letters_stop [] e = refl
letters_stop (c ∷ d) e = let w = and_parts (is_ascii_digit c) (list_all is_ascii_digit d) e in ap (λ b. cond b (c ∷ letters_in d) []) (digit_not_small c w.0)

pub letters_front : (l d : List ℕ) → list_all is_small l ≡ true → list_all is_ascii_digit d ≡ true → letters_in (l ++ d) ≡ l
letters_front [] d a e = letters_stop d e
letters_front (c ∷ l) d a e =
    let w = and_parts (is_small c) (list_all is_small l) a in
    ap (λ b. cond b (c ∷ letters_in (l ++ d)) []) w.0 ∙ ap (λ m. c ∷ m) (letters_front l d w.1 e)

all_small : (l : List ℕ) → list_all is_small l ≡ true → All (λ b. is_small b ≡ true) l
all_small [] a = All-nil (λ b. is_small b ≡ true)
all_small (c ∷ l) a = let w = and_parts (is_small c) (list_all is_small l) a in All-cons (λ b. is_small b ≡ true) c l w.0 (all_small l w.1)

pub coref_sort : (n : List ℕ) → IsCorefName n → IsSort (letters_in n)
coref_sort n h =
    let e : letters_in n ≡ h.letters = ap letters_in h.is ∙ letters_front h.letters h.digits h.are_letters h.are_digits in
    subst IsSort (sym e) (record { filled = h.some_letters; letters = all_small h.letters h.are_letters })

letters_small : (n : List ℕ) → list_all is_small (letters_in n) ≡ true
letters_small [] = refl
letters_small (c ∷ n) = elim (bools (is_small c)) [
  | inl a ↦ ap (λ b. list_all is_small (cond b (c ∷ letters_in n) [])) a ∙ ap (λ b. b && list_all is_small (letters_in n)) a ∙ letters_small n
  | inr a ↦ ap (λ b. list_all is_small (cond b (c ∷ letters_in n) [])) a
]

drop_front : (xs ys : List ℕ) → drop (length xs) (xs ++ ys) ≡ ys
drop_front [] ys = refl
drop_front (x ∷ xs) ys = drop_front xs ys

take_drop : (k : ℕ) (xs : List ℕ) → xs ≡ take k xs ++ drop k xs
take_drop zero xs = refl
take_drop (suc k) [] = refl
take_drop (suc k) (x ∷ xs) = ap (λ l. x ∷ l) (take_drop k xs)

take_length : (k : ℕ) (xs : List ℕ) → k ≤ length xs → length (take k xs) ≡ k
take_length zero xs l = refl
take_length (suc k) [] l = absurd (omega (arith, l))
take_length (suc k) (x ∷ xs) l = let e = take_length k xs (omega (arith, l)) in omega (arith, e)

drop_length : (k : ℕ) (xs : List ℕ) → k < length xs → 0 < length (drop k xs)
drop_length zero xs l = l
drop_length (suc k) [] l = absurd (omega (arith, l))
drop_length (suc k) (x ∷ xs) l = drop_length k xs (omega (arith, l))

pub is_coref_name : (name : List ℕ) (k : ℕ) → letters_in name ≡ take k name → k ≤ length name → 0 < k → k < length name → list_all is_ascii_digit (drop k name) ≡ true → IsCorefName name
is_coref_name name k e w some less d = record {
  letters = take k name;
  digits = drop k name;
  is = take_drop k name;
  some_letters = let l = take_length k name w in omega (arith, l, some);
  some_digits = drop_length k name less;
  are_letters = subst (λ l. list_all is_small l ≡ true) e (letters_small name);
  are_digits = d;
}

pub coref_name_parts : (name : List ℕ) (k : ℕ) → letters_in name ≡ take k name → k ≤ length name → IsCorefName name → (0 < k) × (k < length name) × (list_all is_ascii_digit (drop k name) ≡ true)
coref_name_parts name k e w h =
    let f : take k name ≡ h.letters = sym e ∙ ap letters_in h.is ∙ letters_front h.letters h.digits h.are_letters h.are_digits in
    let l : k ≡ length h.letters = sym (take_length k name w) ∙ ap length f in
    let n : length name ≡ length h.letters + length h.digits = ap length h.is ∙ length-append h.letters h.digits in
    let a = h.some_letters in
    let b = h.some_digits in
    (omega (arith, l, a), omega (arith, l, n, b), subst (λ z. list_all is_ascii_digit z ≡ true) (sym (ap (λ z. drop k z) h.is ∙ ap (λ z. drop z (h.letters ++ h.digits)) l ∙ drop_front h.letters h.digits)) h.are_digits)

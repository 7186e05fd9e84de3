-- One text more in a set, and one more counted.
use Rattle.std.proofs.Common.{◌≡◌, ℕ, ◌+◌, ◌-◌, ◌<◌, ◌≤◌, ◌||◌, not, cond, Bool, true, false, List, ◌∷◌, length, map, filter, drop, get_or, Vec, Global, refl, sym, ap, ◌∙◌, arith}
use Rattle.std.specs.Borrow.{Bor}
use Rattle.std.specs.HashSet.{HashSet, PutsKey}
use Rattle.std.specs.List.{list_any}
use Rattle.std.specs.Str.{bytes_eq}
use Rattle.std.proofs.lemmas.List.{drop_more, at_drop_more}
use Rattle.std.proofs.lemmas.List.Elements.{filter_agree}
use Rattle.std.proofs.lemmas.List.Sorted.{list_any-IsPermutation}
use Rattle.std.proofs.lemmas.Slice.Eq.{bytes_eq-Decides}
use Rattle.profile_reports.specs.Texts.{is_among, each_once}
use Rattle.profile_reports.specs.Inner.{has, HasJust}

-- sets

not_false : (b : Bool) → false ≡ not b → b ≡ true
not_false true e = refl
not_false false e = e

or_same : (s : List ℕ → Bool) (t k : List ℕ) (b : Bool) → bytes_eq t k ≡ b → s k ≡ true → s t ≡ (b || s t)
or_same s t k true e h = ap s ((bytes_eq-Decides t k).0 e) ∙ h
or_same s t k false e h = refl

pub put_has : {S : Type 0} (s n : HashSet (Bor (List ℕ)) S) (k : Bor (List ℕ)) (added : Bool) → PutsKey s n k added → added ≡ not (has s k.now)
    → (t : List ℕ) → has n t ≡ (bytes_eq t k.now || has s t)
put_has s n k true p e t = sym (list_any-IsPermutation (λ x. bytes_eq t x.now) (k ∷ s.keys) n.keys p)
put_has s n k false p e t =
    ap (list_any (λ x. bytes_eq t x.now)) p ∙ or_same (has s) t k.now (bytes_eq t k.now) refl (not_false (has s k.now) e)

pub just_more : {S : Type 0} (s n : HashSet (Bor (List ℕ)) S) (k : List ℕ) (texts : List (List ℕ)) → ((t : List ℕ) → has n t ≡ (bytes_eq t k || has s t))
    → HasJust s texts → HasJust n (k ∷ texts)
just_more s n k texts h j t = h t ∙ ap (λ b. bytes_eq t k || b) (j t)

-- texts, from the last on

pub texts_before : (xs : List (Vec ℕ Global)) (i : ℕ) (x : Vec ℕ Global) → 0 < i → i ≤ length xs → x ≡ get_or xs (i - 1) x
    → map (λ t. t.items) (drop (i - 1) xs) ≡ x.items ∷ map (λ t. t.items) (drop i xs)
texts_before xs i x pos low e =
    let same : i - 1 + 1 ≡ i = omega (arith, pos) in
    ap (map (λ t. t.items)) (drop_more xs (i - 1) x (omega (arith, pos, low)) ∙ ap (λ y. y ∷ drop (i - 1 + 1) xs) (sym e) ∙ ap (λ j. x ∷ drop j xs) same)

-- counts

once_new : (texts : List (List ℕ)) (t : List ℕ) → is_among texts t ≡ false → each_once (t ∷ texts) ≡ t ∷ each_once texts
once_new texts t e = rw e refl

once_old : (texts : List (List ℕ)) (t : List ℕ) → is_among texts t ≡ true → each_once (t ∷ texts) ≡ each_once texts
once_old texts t e = rw e refl

counts_yes : (p : List ℕ → Bool) (t : List ℕ) (texts : List (List ℕ)) → p t ≡ true → length (filter p (t ∷ texts)) ≡ length (filter p texts) + 1
counts_yes p t texts e = let h = ap (λ b. length (cond b (t ∷ filter p texts) (filter p texts))) e in omega (arith, h)

counts_no : (p : List ℕ → Bool) (t : List ℕ) (texts : List (List ℕ)) → p t ≡ false → length (filter p (t ∷ texts)) ≡ length (filter p texts)
counts_no p t texts e = ap (λ b. length (cond b (t ∷ filter p texts) (filter p texts))) e

-- a text that stands among these already
pub same_old : (p : List ℕ → Bool) (texts : List (List ℕ)) (t : List ℕ) (n : ℕ) → is_among texts t ≡ true
    → n ≡ length (filter p (each_once texts)) → n ≡ length (filter p (each_once (t ∷ texts)))
same_old p texts t n e h = h ∙ ap (λ l. length (filter p l)) (sym (once_old texts t e))

-- a new text, by whether it passes
pub one_more : (p : List ℕ → Bool) (texts : List (List ℕ)) (t : List ℕ) (n : ℕ) → is_among texts t ≡ false → p t ≡ true
    → n ≡ length (filter p (each_once texts)) → n + 1 ≡ length (filter p (each_once (t ∷ texts)))
one_more p texts t n e y h = ap (λ k. k + 1) h ∙ sym (ap (λ l. length (filter p l)) (once_new texts t e) ∙ counts_yes p t (each_once texts) y)

pub no_more : (p : List ℕ → Bool) (texts : List (List ℕ)) (t : List ℕ) (n : ℕ) → is_among texts t ≡ false → p t ≡ false
    → n ≡ length (filter p (each_once texts)) → n ≡ length (filter p (each_once (t ∷ texts)))
no_more p texts t n e y h = h ∙ sym (ap (λ l. length (filter p l)) (once_new texts t e) ∙ counts_no p t (each_once texts) y)

length_cond : {A : Type 0} (b : Bool) (z : A) (zs : List A) → length (cond b (z ∷ zs) zs) ≡ cond b 1 0 + length zs
length_cond true z zs = omega arith
length_cond false z zs = omega arith

pub passes_more : (p : List ℕ → Bool) (xs : List (Vec ℕ Global)) (i : ℕ) (x : Vec ℕ Global) → i < length xs → x ≡ get_or xs i x
    → length (filter p (map (λ t. t.items) (drop i xs))) ≡ cond (p x.items) 1 0 + length (filter p (map (λ t. t.items) (drop (i + 1) xs)))
passes_more p xs i x lt e =
    let count : List (Vec ℕ Global) → ℕ = λ ys. length (filter p (map (λ t. t.items) ys)) in
    at_drop_more count xs i x lt ∙ ap (λ y. count (y ∷ drop (i + 1) xs)) (sym e) ∙ length_cond (p x.items) x.items (filter p (map (λ t. t.items) (drop (i + 1) xs)))

-- tests that agree count alike
pub count_agree : (p q : List ℕ → Bool) → ((t : List ℕ) → p t ≡ q t) → (texts : List (List ℕ)) → length (filter p texts) ≡ length (filter q texts)
count_agree p q h texts = ap length (filter_agree p q h texts)

-- Forms of words in rising lists.
use Rattle.std.specs.Prelude.{ℕ, ◌≡◌, ◌⊎◌, ◌<◌, List, [], ◌∷◌, ◌++◌, length, encode_utf8_all}
use Rattle.std.proofs.Common.{inl, inr, refl, sym, subst}
use Rattle.std.specs.Str.{IsUtf8}
use Rattle.lexicon.specs.Words.{Word, Has, Rises, put}
use Rattle.lexicon.proofs.WordLemmas.{put_rises, put_new, put_old, put_only}
use Rattle.spelling_rules.specs.Trees.{SpellingTree, AreBound}
use Rattle.spelling_rules.specs.Forms.{AreForms, HasForm}
use Rattle.spelling_rules.proofs.FormLemmas.{forms_one, bound_at}
use Rattle.morph_analysis.proofs.Lists.{Has-left, Has-right, Has-snoc}
use Rattle.lexical_items.specs.Inner.Routes.{Puts, OfWords, AreFormsOf}

pub puts_start : (P : Word → Type 0) (xs : List Word) → ((x : Word) → P x → ⊥) → Puts P xs xs
puts_start P xs never = record { rises = λ h. h; kept = λ x h. h; added = λ x p. absurd (never x p); only = λ x h. inl h }

pub puts_like : (P Q : Word → Type 0) (xs ys : List Word) → ((x : Word) → P x → Q x) → ((x : Word) → Q x → P x) → Puts P xs ys → Puts Q xs ys
puts_like P Q xs ys f h a = record { rises = a.rises; kept = a.kept; added = λ x q. a.added x (h x q); only = λ x k. elim (a.only x k) [ inl m ↦ inl m | inr p ↦ inr (f x p) ] }

pub puts_both : (P Q R : Word → Type 0) (xs ys zs : List Word) → ((x : Word) → P x → R x) → ((x : Word) → Q x → R x) → ((x : Word) → R x → P x ⊎ Q x) → Puts P xs ys → Puts Q ys zs → Puts R xs zs
puts_both P Q R xs ys zs first second split a b = record {
  rises = λ h. b.rises (a.rises h);
  kept = λ x h. b.kept x (a.kept x h);
  added = λ x r. elim (split x r) [ inl p ↦ b.kept x (a.added x p) | inr q ↦ b.added x q ];
  only = λ x h. elim (b.only x h) [ inl k ↦ (elim (a.only x k) [ inl m ↦ inl m | inr p ↦ inr (first x p) ]) | inr q ↦ inr (second x q) ];
}

pub puts_one : (w : Word) (xs ys : List Word) → ys ≡ put w xs → Puts (λ x. x ≡ w) xs ys
puts_one w xs ys e = record {
  rises = λ h. subst Rises (sym e) (put_rises w xs h);
  kept = λ x h. subst (Has x) (sym e) (put_old w x xs h);
  added = λ x q. subst (Has x) (sym e) (subst (λ v. Has v (put w xs)) (sym q) (put_new w xs));
  only = λ x h. elim (put_only w x xs (subst (Has x) e h)) [ inl s ↦ inr s | inr k ↦ inl k ];
}

-- one word more of a list
pub puts_next : (done more : List Word) (w : Word) (xs ys zs : List Word) → more ≡ done ++ w ∷ [] → Puts (λ x. Has x done) xs ys → zs ≡ put w ys → Puts (λ x. Has x more) xs zs
puts_next done more w xs ys zs e a p =
    puts_both (λ x. Has x done) (λ x. x ≡ w) (λ x. Has x more) xs ys zs (λ x h. subst (Has x) (sym e) (Has-left x done (w ∷ []) h)) (λ x q. subst (Has x) (sym e) (Has-right x done (w ∷ []) (inl q))) (λ x h. Has-snoc x w done (subst (Has x) e h)) a
    (puts_one w ys zs p)

-- a list of forms has all forms
pub forms_all : (s : SpellingTree) (rule : ℕ) (word : Word) (forms : List Word) → AreBound s.rules → rule < length s.rules → IsUtf8 word → AreForms s rule word forms → (x : Word) → HasForm s rule word x → Has x forms
forms_all s rule word forms bound lt utf a x h =
    let e : word ≡ encode_utf8_all utf.0 = sym utf.1.1 in
    subst (Has x) (forms_one s rule word utf.0 h.0 forms (bound_at s.rules rule lt bound) e h.1 a) h.2

pub puts_forms : (s : SpellingTree) (rule : ℕ) (word : Word) (forms xs ys : List Word) → AreBound s.rules → rule < length s.rules → IsUtf8 word → 0 < length word → AreForms s rule word forms → Puts (λ x. Has x forms) xs ys
    → Puts (λ x. (0 < length word) × HasForm s rule word x) xs ys
puts_forms s rule word forms xs ys bound lt utf some a p =
    puts_like (λ x. Has x forms) (λ x. (0 < length word) × HasForm s rule word x) xs ys (λ x h. (some, (forms, a, h))) (λ x h. forms_all s rule word forms bound lt utf a x h.1) p

-- one stem more
pub puts_stem : (s : SpellingTree) (rule : ℕ) (done more : List Word) (w : Word) (xs ys zs : List Word) → more ≡ done ++ w ∷ [] → Puts (OfWords s rule done) xs ys → Puts (λ x. (0 < length w) × HasForm s rule w x) ys zs → Puts (OfWords s rule more) xs zs
puts_stem s rule done more w xs ys zs e a b =
    puts_both (OfWords s rule done) (λ x. (0 < length w) × HasForm s rule w x) (OfWords s rule more) xs ys zs (λ x o. (o.0, subst (Has o.0) (sym e) (Has-left o.0 done (w ∷ []) o.1), o.2, o.3))
    (λ x h. (w, subst (Has w) (sym e) (Has-right w done (w ∷ []) (inl refl)), h.0, h.1)) (λ x o. split x o (Has-snoc o.0 w done (subst (Has o.0) e o.1))) a b
  where
    split : (x : Word) (o : OfWords s rule more x) → Has o.0 done ⊎ (o.0 ≡ w) → OfWords s rule done x ⊎ ((0 < length w) × HasForm s rule w x)
    split x o (inl h) = inl (o.0, h, o.2, o.3)
    split x o (inr q) = inr (subst (λ v. 0 < length v) q o.2, subst (λ v. HasForm s rule v x) q o.3)

pub forms_whole : (s : SpellingTree) (rule : ℕ) (words start forms : List Word) → start ≡ [] → Puts (OfWords s rule words) start forms → AreFormsOf s rule words forms
forms_whole s rule words start forms e a = record {
  rises = a.rises (subst Rises (sym e) tt);
  all = a.added;
  have = λ x h. elim (a.only x h) [ inl k ↦ absurd (subst (Has x) e k) | inr p ↦ p ];
}

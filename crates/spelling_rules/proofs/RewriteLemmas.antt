-- What a group makes of letters is what it makes of their word.
use Rattle.std.proofs.Common.{ℕ, zero, suc, ◌≡◌, ◌<◌, ◌≤◌, ◌+◌, ◌-◌, ◌⊎◌, inl, inr, Bool, true, false, cond, ◌&&◌, ◌==◌, nat_lt, List, [], ◌∷◌, ◌++◌, length, map, take, drop, Option, Some, None, refl, sym, ◌∙◌, ap, subst, arith, length-append}
use Rattle.std.specs.Prelude.{encode_utf8_all}
use Rattle.std.proofs.lemmas.Str.{encodes_same}
use Rattle.std.proofs.lemmas.List.{length-map, take-append-drop, take_at, drop_at as drop_seam}
use Rattle.std.proofs.lemmas.Bool.Decides.{Decides-ltb}
use Rattle.lexicon.specs.Words.{Word, Has, Each}
use Rattle.spelling_rules.specs.Trees.{SignTree, letter, variable, GroupTree, IsBound}
use Rattle.spelling_rules.specs.Forms.{stands_for, Suits, joined, Rewrites}
use Rattle.spelling_rules.specs.Inner.Rewriting.{is_variable, value_at, value_in, is_member, fits_sign, fits_by, part_of, rest_of, made_in, fits_in, rewritten}
use Rattle.spelling_rules.proofs.Lists.{bools, true_not_false, same_eq, eq_same, member-Has, Has-member}

-- two values agree on the variables of signs
abbrev pub Agree : (ℕ → ℕ) → (ℕ → ℕ) → List SignTree → Type 0
Agree w v ss = (name : ℕ) (members : List ℕ) → Has (variable name members) ss → w name ≡ v name

pub value_found : (v : ℕ → ℕ) (ss : List SignTree) (name : ℕ) (members : List ℕ) → Has (variable name members) ss → value_in ss (map (stands_for v) ss) name ≡ v name
value_found v [] name members h = absurd h
value_found v (letter c ∷ ss) name members (inl e) = cc
value_found v (letter c ∷ ss) name members (inr h) = value_found v ss name members h
value_found v (variable other ms ∷ ss) name members h = go (bools (other == name)) h (value_found v ss name members)
  where
    go : ((other == name) ≡ true) ⊎ ((other == name) ≡ false) → Has (variable name members) (variable other ms ∷ ss) → (Has (variable name members) ss → value_in ss (map (stands_for v) ss) name ≡ v name)
        → value_in (variable other ms ∷ ss) (map (stands_for v) (variable other ms ∷ ss)) name ≡ v name
    go (inl t) k more = ap (λ b. cond b (v other) (value_in ss (map (stands_for v) ss) name)) t ∙ ap v (eq_same other name t)
    go (inr f) (inl e) more = true_not_false (other == name) (same_eq other name (let d : other ≡ name = cc in d)) f
    go (inr f) (inr k) more = ap (λ b. cond b (v other) (value_in ss (map (stands_for v) ss) name)) f ∙ more k

pub agree_found : (v : ℕ → ℕ) (ss : List SignTree) → Agree (value_in ss (map (stands_for v) ss)) v ss
agree_found v ss name members h = value_found v ss name members h

pub map_agree : (w v : ℕ → ℕ) (ss : List SignTree) → Agree w v ss → map (stands_for w) ss ≡ map (stands_for v) ss
map_agree w v [] h = refl
map_agree w v (letter c ∷ ss) h = ap (λ l. c ∷ l) (map_agree w v ss (λ n ms k. h n ms (inr k)))
map_agree w v (variable name members ∷ ss) h =
    ap (λ x. x ∷ map (stands_for w) ss) (h name members (inl refl)) ∙ ap (λ l. v name ∷ l) (map_agree w v ss (λ n ms k. h n ms (inr k)))

both : (a b : Bool) → a ≡ true → b ≡ true → (a && b) ≡ true
both a b e f = ap (λ x. x && b) e ∙ f

first_of_both : (a b : Bool) → (a && b) ≡ true → a ≡ true
first_of_both true b e = refl
first_of_both false b e = e

second_of_both : (a b : Bool) → (a && b) ≡ true → b ≡ true
second_of_both true b e = e
second_of_both false b e = true_not_false false e refl

pub fits_all : (w v : ℕ → ℕ) (ss : List SignTree) → Agree w v ss → Suits v ss → fits_by w ss (map (stands_for v) ss) ≡ true
fits_all w v [] h s = refl
fits_all w v (letter c ∷ ss) h s = both (c == c) _ (same_eq c c refl) (fits_all w v ss (λ n ms k. h n ms (inr k)) s)
fits_all w v (variable name members ∷ ss) h s =
    both (is_member members (v name) && (w name == v name)) _ (both (is_member members (v name)) _ (member-Has (v name) members s.0) (same_eq (w name) (v name) (h name members (inl refl))))
    (fits_all w v ss (λ n ms k. h n ms (inr k)) s.1)

pub fits_sound : (w : ℕ → ℕ) (ss : List SignTree) (xs : List ℕ) → fits_by w ss xs ≡ true → Suits w ss × (xs ≡ map (stands_for w) ss)
fits_sound w [] [] e = (tt, refl)
fits_sound w [] (x ∷ xs) e = true_not_false false e refl
fits_sound w (s ∷ ss) [] e = true_not_false false e refl
fits_sound w (letter c ∷ ss) (x ∷ xs) e =
    let r = fits_sound w ss xs (second_of_both (c == x) _ e) in
    (r.0, ap (λ y. y ∷ xs) (sym (eq_same c x (first_of_both (c == x) _ e))) ∙ ap (λ l. c ∷ l) r.1)
fits_sound w (variable name members ∷ ss) (x ∷ xs) e =
    let one = first_of_both (is_member members x && (w name == x)) _ e in
    let r = fits_sound w ss xs (second_of_both (is_member members x && (w name == x)) _ e) in
    let same = eq_same (w name) x (second_of_both (is_member members x) _ one) in
    ((subst (λ y. Has y members) (sym same) (Has-member x members (first_of_both (is_member members x) _ one)), r.0), ap (λ y. y ∷ xs) (sym same) ∙ ap (λ l. w name ∷ l) r.1)

-- letters are their part and their rest
pub whole : (suffix : Bool) (n : ℕ) (letters : List ℕ) → joined suffix (rest_of suffix n letters) (part_of suffix n letters) ≡ letters
whole true n letters = take-append-drop (length letters - n) letters
whole false n letters = take-append-drop n letters

pub part_joined : (suffix : Bool) (rest part : List ℕ) → part_of suffix (length part) (joined suffix rest part) ≡ part
part_joined true rest part = drop_seam rest part (length (rest ++ part) - length part) (let e = length-append rest part in omega arith)
part_joined false rest part = take_at part rest (length part) refl

pub rest_joined : (suffix : Bool) (rest part : List ℕ) → rest_of suffix (length part) (joined suffix rest part) ≡ rest
rest_joined true rest part = take_at rest part (length (rest ++ part) - length part) (let e = length-append rest part in omega arith)
rest_joined false rest part = drop_seam part rest (length part) refl

pub length_joined : (suffix : Bool) (rest part : List ℕ) → length part ≤ length (joined suffix rest part)
length_joined true rest part = omega (arith, length-append rest part)
length_joined false rest part = omega (arith, length-append part rest)

some_inside : {A : Type 0} (a b : A) → Some a ≡ Some b → a ≡ b
some_inside a b e = cc

none_some : {A B : Type 0} (a : A) → None ≡ Some a → B
none_some a e = cc

pub rewritten_sound : (suffix : Bool) (g : GroupTree) (letters made : List ℕ) → rewritten suffix g letters ≡ Some made → Rewrites suffix g (encode_utf8_all letters) (encode_utf8_all made)
rewritten_sound suffix g letters made e = go (bools (nat_lt (length letters) (length g.pattern))) (bools (fits_in suffix g.pattern letters))
  where
    go : (nat_lt (length letters) (length g.pattern) ≡ true) ⊎ (nat_lt (length letters) (length g.pattern) ≡ false) → (fits_in suffix g.pattern letters ≡ true) ⊎ (fits_in suffix g.pattern letters ≡ false)
        → Rewrites suffix g (encode_utf8_all letters) (encode_utf8_all made)
    go (inl t) f = none_some made (sym (ap (λ b. cond b None (cond (fits_in suffix g.pattern letters) (Some (made_in suffix g.pattern g.with letters)) None)) t) ∙ e)
    go (inr t) (inr f) =
        none_some made (sym (ap (λ b. cond b None (cond (fits_in suffix g.pattern letters) (Some (made_in suffix g.pattern g.with letters)) None)) t ∙ ap (λ b. cond b (Some (made_in suffix g.pattern g.with letters)) None) f) ∙ e)
    go (inr t) (inl f) =
        let is : made_in suffix g.pattern g.with letters ≡ made =
        some_inside _ _ (sym (ap (λ b. cond b None (cond (fits_in suffix g.pattern letters) (Some (made_in suffix g.pattern g.with letters)) None)) t ∙ ap (λ b. cond b (Some (made_in suffix g.pattern g.with letters)) None) f) ∙ e) in
        let r = fits_sound (value_in g.pattern (part_of suffix (length g.pattern) letters)) g.pattern (part_of suffix (length g.pattern) letters) f in
        record {
          value = value_in g.pattern (part_of suffix (length g.pattern) letters);
          rest = rest_of suffix (length g.pattern) letters;
          suits = r.0;
          from = ap encode_utf8_all (sym (whole suffix (length g.pattern) letters) ∙ ap (joined suffix (rest_of suffix (length g.pattern) letters)) r.1);
          to = ap encode_utf8_all (sym is);
        }

-- what a pattern under values makes
pub made_of : (suffix : Bool) (g : GroupTree) (v : ℕ → ℕ) (rest letters : List ℕ) → IsBound g → Suits v g.pattern → letters ≡ joined suffix rest (map (stands_for v) g.pattern)
    → rewritten suffix g letters ≡ Some (joined suffix rest (map (stands_for v) g.with))
made_of suffix g v rest letters bound suits is =
    let q : List ℕ = map (stands_for v) g.pattern in
    let size : length g.pattern ≡ length q = sym (length-map g.pattern (stands_for v)) in
    let part : part_of suffix (length g.pattern) letters ≡ q = ap (λ n. part_of suffix n letters) size ∙ ap (part_of suffix (length q)) is ∙ part_joined suffix rest q in
    let left : rest_of suffix (length g.pattern) letters ≡ rest = ap (λ n. rest_of suffix n letters) size ∙ ap (rest_of suffix (length q)) is ∙ rest_joined suffix rest q in
    let fit : fits_in suffix g.pattern letters ≡ true = ap (λ p. fits_by (value_in g.pattern p) g.pattern p) part ∙ fits_all (value_in g.pattern q) v g.pattern (agree_found v g.pattern) suits in
    let long : length g.pattern ≤ length letters = subst (λ n. n ≤ length letters) (sym size) (subst (λ l. length q ≤ length l) (sym is) (length_joined suffix rest q)) in
    let short : nat_lt (length letters) (length g.pattern) ≡ false = not_less (length letters) (length g.pattern) long in
    ap (λ b. cond b None (cond (fits_in suffix g.pattern letters) (Some (made_in suffix g.pattern g.with letters)) None)) short
    ∙ ap (λ b. cond b (Some (made_in suffix g.pattern g.with letters)) None) fit
    ∙ ap Some (ap (λ p. joined suffix (rest_of suffix (length g.pattern) letters) (map (stands_for (value_in g.pattern p)) g.with)) part
    ∙ ap (λ r. joined suffix r (map (stands_for (value_in g.pattern q)) g.with)) left
    ∙ ap (joined suffix rest) (map_agree (value_in g.pattern q) v g.with (λ n ms h. agree_found v g.pattern n ms (bound n ms h))))
  where
    not_less : (a b : ℕ) → b ≤ a → nat_lt a b ≡ false
    not_less a b le = go (bools (nat_lt a b))
      where
        go : (nat_lt a b ≡ true) ⊎ (nat_lt a b ≡ false) → nat_lt a b ≡ false
        go (inr f) = f
        go (inl t) = let lt : a < b = (Decides-ltb a b).0 t in absurd (omega arith)

pub rewritten_all : (suffix : Bool) (g : GroupTree) (letters : List ℕ) (form : Word) → IsBound g → Rewrites suffix g (encode_utf8_all letters) form
    → (made : List ℕ) × (rewritten suffix g letters ≡ Some made) × (form ≡ encode_utf8_all made)
rewritten_all suffix g letters form bound r =
    (joined suffix r.rest (map (stands_for r.value) g.with), made_of suffix g r.value r.rest letters bound r.suits (encodes_same letters _ r.from), r.to)

pub rewritten_none : (suffix : Bool) (g : GroupTree) (letters : List ℕ) (form : Word) → IsBound g → rewritten suffix g letters ≡ None → Rewrites suffix g (encode_utf8_all letters) form → ⊥
rewritten_none suffix g letters form bound e r = let m = rewritten_all suffix g letters form bound r in none_some m.0 (sym e ∙ m.1)

-- one step over a pattern
pub value_step : (S SS : List SignTree) (P PP : List ℕ) (s : SignTree) (x n total : ℕ) → S ≡ s ∷ SS → P ≡ x ∷ PP → value_in S P n ≡ total → cond (is_variable n s) x (value_in SS PP n) ≡ total
value_step S SS P PP s x n total e f t = sym (ap (λ l. value_in l P n) e ∙ ap (λ l. value_in (s ∷ SS) l n) f) ∙ t

pub fits_step : (v : ℕ → ℕ) (S SS : List SignTree) (P PP : List ℕ) (s : SignTree) (x : ℕ) (total : Bool) → S ≡ s ∷ SS → P ≡ x ∷ PP → fits_by v S P ≡ total → (fits_sign v s x && fits_by v SS PP) ≡ total
fits_step v S SS P PP s x total e f t = sym (ap (λ l. fits_by v l P) e ∙ ap (λ l. fits_by v (s ∷ SS) l) f) ∙ t

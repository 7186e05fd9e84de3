-- Equal words, what is noted for a word, and rising lists.
use Rattle.std.proofs.Common.{ℕ, zero, suc, ◌≡◌, ◌<◌, ◌≤◌, ◌⊎◌, inl, inr, Bool, true, false, cond, List, [], ◌∷◌, ◌++◌, length, map, take, drop, get_or, Option, Some, None, Vec, String, string_bytes, refl, sym, ◌∙◌, ap, arith}
use Rattle.std.specs.Global.{Global}
use Rattle.std.specs.List.{insert}
use Rattle.std.specs.Option.{option_map_or}
use Rattle.std.specs.Str.{bytes_eq}
use Rattle.std.specs.declared.cmp.Ordering.{Ordering}
use Rattle.std.specs.declared.cmp.Ordering.TheVariants.{Less, Equal, Greater}
use Rattle.std.proofs.lemmas.List.{append-nil}
use Rattle.std.proofs.lemmas.Slice.Eq.{bytes_eq-Decides}
use Rattle.std.proofs.lemmas.Map.Text.{is_eq-slice_cmp}
use Rattle.std.specs.Cmp.Lexicographic.{nat_list_cmp_total}
use Rattle.std.specs.Ordering.{is_eq, ordering_reverse}
use Rattle.lexicon.specs.Words.{Word, Has, Each, Rises, compared, put, put_by}

pub bools : (b : Bool) → (b ≡ true) ⊎ (b ≡ false)
bools true = inl refl
bools false = inr refl

pub true_not_false : {A : Type 0} (b : Bool) → b ≡ true → b ≡ false → A
true_not_false b t f = let e : true ≡ false = sym t ∙ f in cc

pub bytes_eq-same : (a b : Word) → bytes_eq a b ≡ true → a ≡ b
bytes_eq-same a b = (bytes_eq-Decides a b).0

pub bytes_eq-refl : (a b : Word) → a ≡ b → bytes_eq a b ≡ true
bytes_eq-refl a b = (bytes_eq-Decides a b).1

pub bytes_eq-swap : (a b : Word) → bytes_eq a b ≡ bytes_eq b a
bytes_eq-swap a b = go (bools (bytes_eq a b)) (bools (bytes_eq b a))
  where
    go : (bytes_eq a b ≡ true) ⊎ (bytes_eq a b ≡ false) → (bytes_eq b a ≡ true) ⊎ (bytes_eq b a ≡ false) → bytes_eq a b ≡ bytes_eq b a
    go (inl e) f = e ∙ sym (bytes_eq-refl b a (sym (bytes_eq-same a b e)))
    go (inr e) (inl f) = true_not_false (bytes_eq a b) (bytes_eq-refl a b (sym (bytes_eq-same b a f))) e
    go (inr e) (inr f) = e ∙ sym f

-- the list of a note, or none
abbrev list_noted : {T : Type 0} → Option (Vec T Global) → List T
list_noted o = option_map_or (λ v. v.items) o []

-- a value is noted for a word that has a list: the list with the value takes its place
pub noted_more : {T : Type 0} (m0 m1 : Word → Option (Vec T Global)) (x n : Word) (old v : Vec T Global) (y : T) →
    Some old ≡ m0 x → v.items ≡ old.items ++ y ∷ [] → m1 n ≡ cond (bytes_eq x n) (Some v) (m0 n) → list_noted (m1 n) ≡ list_noted (m0 n) ++ cond (bytes_eq n x) (y ∷ []) []
noted_more m0 m1 x n old v y had grown step = go (bools (bytes_eq x n))
  where
    go : (bytes_eq x n ≡ true) ⊎ (bytes_eq x n ≡ false) → list_noted (m1 n) ≡ list_noted (m0 n) ++ cond (bytes_eq n x) (y ∷ []) []
    go (inl h) =
        ap list_noted (step ∙ ap (λ b. cond b (Some v) (m0 n)) h) ∙ grown ∙ ap (λ o. list_noted o ++ y ∷ []) (had ∙ ap m0 (bytes_eq-same x n h))
        ∙ sym (ap (λ b. list_noted (m0 n) ++ cond b (y ∷ []) []) (bytes_eq-swap n x ∙ h))
    go (inr h) = ap list_noted (step ∙ ap (λ b. cond b (Some v) (m0 n)) h) ∙ sym (ap (λ b. list_noted (m0 n) ++ cond b (y ∷ []) []) (bytes_eq-swap n x ∙ h) ∙ append-nil (list_noted (m0 n)))

-- a first value is noted for a word
pub noted_first : {T : Type 0} (m0 m1 : Word → Option (Vec T Global)) (x k n : Word) (v : Vec T Global) (y : T) →
    k ≡ x → None ≡ m0 x → v.items ≡ y ∷ [] → m1 n ≡ cond (bytes_eq k n) (Some v) (m0 n) → list_noted (m1 n) ≡ list_noted (m0 n) ++ cond (bytes_eq n x) (y ∷ []) []
noted_first m0 m1 x k n v y key had grown step = go (bools (bytes_eq x n))
  where
    go : (bytes_eq x n ≡ true) ⊎ (bytes_eq x n ≡ false) → list_noted (m1 n) ≡ list_noted (m0 n) ++ cond (bytes_eq n x) (y ∷ []) []
    go (inl h) =
        ap list_noted (step ∙ ap (λ b. cond b (Some v) (m0 n)) (ap (λ z. bytes_eq z n) key ∙ h)) ∙ grown ∙ ap (λ o. list_noted o ++ y ∷ []) (had ∙ ap m0 (bytes_eq-same x n h))
        ∙ sym (ap (λ b. list_noted (m0 n) ++ cond b (y ∷ []) []) (bytes_eq-swap n x ∙ h))
    go (inr h) =
        ap list_noted (step ∙ ap (λ b. cond b (Some v) (m0 n)) (ap (λ z. bytes_eq z n) key ∙ h))
        ∙ sym (ap (λ b. list_noted (m0 n) ++ cond b (y ∷ []) []) (bytes_eq-swap n x ∙ h) ∙ append-nil (list_noted (m0 n)))

-- a word that comes after the first ones belongs where it does in the rest
pub put_past : (w : Word) (ws : List Word) (i : ℕ) → ((k : ℕ) → k < i → compared w (get_or ws k []) ≡ Greater) → i ≤ length ws → put w ws ≡ take i ws ++ put w (drop i ws)
put_past w ws zero before le = refl
put_past w [] (suc i) before le = absurd (omega arith)
put_past w (x ∷ xs) (suc i) before le =
    ap (λ o. put_by o w x xs (put w xs)) (before 0 (omega arith)) ∙ ap (λ l. x ∷ l) (put_past w xs i (λ k h. before (suc k) (omega arith)) (omega arith))

-- where a word belongs
pub less_at : (w : Word) (ws : List Word) (i : ℕ) → ((k : ℕ) → k < i → compared w (get_or ws k []) ≡ Greater) → i < length ws → compared w (get_or ws i []) ≡ Less → put w ws ≡ insert ws i w
less_at w [] i before lt o = absurd (omega arith)
less_at w (x ∷ xs) zero before lt o = ap (λ q. put_by q w x xs (put w xs)) o
less_at w (x ∷ xs) (suc i) before lt o =
    ap (λ q. put_by q w x xs (put w xs)) (before 0 (omega arith)) ∙ ap (λ l. x ∷ l) (less_at w xs i (λ k h. before (suc k) (omega arith)) (omega arith) o)

pub equal_at : (w : Word) (ws : List Word) (i : ℕ) → ((k : ℕ) → k < i → compared w (get_or ws k []) ≡ Greater) → i < length ws → compared w (get_or ws i []) ≡ Equal → put w ws ≡ ws
equal_at w [] i before lt o = absurd (omega arith)
equal_at w (x ∷ xs) zero before lt o = ap (λ q. put_by q w x xs (put w xs)) o
equal_at w (x ∷ xs) (suc i) before lt o =
    ap (λ q. put_by q w x xs (put w xs)) (before 0 (omega arith)) ∙ ap (λ l. x ∷ l) (equal_at w xs i (λ k h. before (suc k) (omega arith)) (omega arith) o)

pub after_all : (w : Word) (ws : List Word) (n : ℕ) → n ≡ length ws → ((k : ℕ) → k < n → compared w (get_or ws k []) ≡ Greater) → put w ws ≡ insert ws n w
after_all w [] zero e before = refl
after_all w [] (suc n) e before = absurd (omega arith)
after_all w (x ∷ xs) zero e before = absurd (omega arith)
after_all w (x ∷ xs) (suc n) e before =
    ap (λ q. put_by q w x xs (put w xs)) (before 0 (omega arith)) ∙ ap (λ l. x ∷ l) (after_all w xs n (omega arith) (λ k h. before (suc k) (omega arith)))

-- the word at a place of a list of texts
pub word_at : (list : List (String Global)) (i : ℕ) (x : String Global) → i < length list → x ≡ get_or list i x → string_bytes x ≡ get_or (map string_bytes list) i []
word_at [] i x lt e = absurd (omega arith)
word_at (y ∷ ys) zero x lt e = ap string_bytes e
word_at (y ∷ ys) (suc i) x lt e = word_at ys i x (omega arith) e

pub map-insert : (list : List (String Global)) (i : ℕ) (x : String Global) → map string_bytes (insert list i x) ≡ insert (map string_bytes list) i (string_bytes x)
map-insert list zero x = refl
map-insert [] (suc i) x = refl
map-insert (y ∷ ys) (suc i) x = ap (λ l. string_bytes y ∷ l) (map-insert ys i x)

-- a rising list stays so, and has the word and what it had
less_each : (w x : Word) (xs : List Word) → compared w x ≡ Less → Each (λ y. compared x y ≡ Less) xs → Each (λ y. compared w y ≡ Less) xs
less_each w x [] lt each = tt
less_each w x (y ∷ ys) lt each = (nat_list_cmp_total.trans w x y lt each.0, less_each w x ys lt each.1)

equal_same : (a b : Word) → compared a b ≡ Equal → a ≡ b
equal_same a b e = bytes_eq-same a b (sym (is_eq-slice_cmp a b) ∙ ap is_eq e)

put_each_by : (o : Ordering) (x w y : Word) (ys more : List Word) → compared x w ≡ Less → Each (λ z. compared x z ≡ Less) (y ∷ ys) → Each (λ z. compared x z ≡ Less) more
    → Each (λ z. compared x z ≡ Less) (put_by o w y ys more)
put_each_by Less x w y ys more lt each h = (lt, each)
put_each_by Equal x w y ys more lt each h = each
put_each_by Greater x w y ys more lt each h = (each.0, h)

put_each : (x w : Word) (xs : List Word) → compared x w ≡ Less → Each (λ y. compared x y ≡ Less) xs → Each (λ y. compared x y ≡ Less) (put w xs)
put_each x w [] lt each = (lt, tt)
put_each x w (y ∷ ys) lt each = put_each_by (compared w y) x w y ys (put w ys) lt each (put_each x w ys lt each.1)

put_rises_by : (o : Ordering) (w x : Word) (xs more : List Word) → compared w x ≡ o → Rises (x ∷ xs) → Rises more → (compared x w ≡ Less → Each (λ y. compared x y ≡ Less) more)
    → Rises (put_by o w x xs more)
put_rises_by Less w x xs more e h r each = ((e, less_each w x xs e h.0), h)
put_rises_by Equal w x xs more e h r each = h
put_rises_by Greater w x xs more e h r each = (each (nat_list_cmp_total.antisymm x w ∙ ap ordering_reverse e), r)

pub put_rises : (w : Word) (ws : List Word) → Rises ws → Rises (put w ws)
put_rises w [] h = (tt, tt)
put_rises w (x ∷ xs) h = put_rises_by (compared w x) w x xs (put w xs) refl h (put_rises w xs h.1) (λ lt. put_each x w xs lt h.0)

put_new_by : (o : Ordering) (w x : Word) (xs more : List Word) → compared w x ≡ o → Has w more → Has w (put_by o w x xs more)
put_new_by Less w x xs more e h = inl refl
put_new_by Equal w x xs more e h = inl (equal_same w x e)
put_new_by Greater w x xs more e h = inr h

pub put_new : (w : Word) (ws : List Word) → Has w (put w ws)
put_new w [] = inl refl
put_new w (x ∷ xs) = put_new_by (compared w x) w x xs (put w xs) refl (put_new w xs)

put_old_by : (o : Ordering) (w v x : Word) (xs more : List Word) → (Has v xs → Has v more) → Has v (x ∷ xs) → Has v (put_by o w x xs more)
put_old_by Less w v x xs more f h = inr h
put_old_by Equal w v x xs more f h = h
put_old_by Greater w v x xs more f (inl e) = inl e
put_old_by Greater w v x xs more f (inr h) = inr (f h)

pub put_old : (w v : Word) (ws : List Word) → Has v ws → Has v (put w ws)
put_old w v [] h = inr h
put_old w v (x ∷ xs) h = put_old_by (compared w x) w v x xs (put w xs) (put_old w v xs) h

put_only_by : (o : Ordering) (w v x : Word) (xs more : List Word) → (Has v more → (v ≡ w) ⊎ Has v xs) → Has v (put_by o w x xs more) → (v ≡ w) ⊎ Has v (x ∷ xs)
put_only_by Less w v x xs more f (inl e) = inl e
put_only_by Less w v x xs more f (inr h) = inr h
put_only_by Equal w v x xs more f h = inr h
put_only_by Greater w v x xs more f (inl e) = inr (inl e)
put_only_by Greater w v x xs more f (inr h) = elim (f h) [ inl e ↦ inl e | inr m ↦ inr (inr m) ]

pub put_only : (w v : Word) (ws : List Word) → Has v (put w ws) → (v ≡ w) ⊎ Has v ws
put_only w v [] h = h
put_only w v (x ∷ xs) h = put_only_by (compared w x) w v x xs (put w xs) (put_only w v xs) h

-- Groups of entries under their last words.
use Rattle.std.proofs.Common.{ℕ, zero, suc, ◌≡◌, ◌<◌, ◌≤◌, ◌+◌, ◌-◌, ◌⊎◌, inl, inr, Bool, true, false, cond, ◌&&◌, List, [], ◌∷◌, ◌++◌, length, map, filter, take, get_or, set, Option, Some, None, Vec, String, string_bytes, refl, sym, ◌∙◌, ap, subst, arith}
use Rattle.std.specs.Global.{Global}
use Rattle.std.specs.Option.{option_map_or}
use Rattle.std.specs.Str.{bytes_eq}
use Rattle.std.specs.String.{string_eq}
use Rattle.std.specs.Cmp.Lexicographic.{pointwise}
use Rattle.std.proofs.lemmas.List.{append-nil, map-append, take_more, length-map}
use Rattle.std.specs.List.{slice_get}
use Rattle.std.specs.List.Sorted.{IsNonDecreasingBy}
use Rattle.lexicon.specs.declared.entries.Entry.{Entry}
use Rattle.lexicon.specs.Words.{Word, Has, Each}
use Rattle.lexicon.proofs.WordLemmas.{bools, true_not_false, bytes_eq-same, bytes_eq-refl}
use Rattle.lexicon.specs.declared.groups.Group.{Group}
use Rattle.lexicon.specs.Entries.{EntryTree, same_words, with_words, last_word}
use Rattle.lexicon.specs.Groups.{GroupTree, group_of, found, AreApart, AreGroupsOf}
use Rattle.lexicon.specs.Inner.Index.{with_entry, group_at, with_one, entry_of}

pub words_compared : (a b : List (String Global)) → pointwise string_eq a b ≡ same_words (map string_bytes a) (map string_bytes b)
words_compared [] [] = refl
words_compared [] (y ∷ ys) = refl
words_compared (x ∷ xs) [] = refl
words_compared (x ∷ xs) (y ∷ ys) = ap (λ z. bytes_eq (string_bytes x) (string_bytes y) && z) (words_compared xs ys)

first_true : (a b : Bool) → (a && b) ≡ true → a ≡ true
first_true true b e = refl
first_true false b e = e

second_true : (a b : Bool) → (a && b) ≡ true → b ≡ true
second_true true b e = e
second_true false b e = true_not_false false e refl

pub same_words-same : (a b : List Word) → same_words a b ≡ true → a ≡ b
same_words-same [] [] e = refl
same_words-same [] (y ∷ ys) e = true_not_false false e refl
same_words-same (x ∷ xs) [] e = true_not_false false e refl
same_words-same (x ∷ xs) (y ∷ ys) e =
    ap (λ z. z ∷ xs) (bytes_eq-same x y (first_true (bytes_eq x y) _ e)) ∙ ap (λ l. y ∷ l) (same_words-same xs ys (second_true (bytes_eq x y) _ e))

pub same_words-refl : (a : List Word) → same_words a a ≡ true
same_words-refl [] = refl
same_words-refl (x ∷ xs) = ap (λ b. b && same_words xs xs) (bytes_eq-refl x x refl) ∙ same_words-refl xs

pub same_words-other : (a b c : List Word) → same_words a b ≡ true → same_words a c ≡ same_words b c
same_words-other a b c e = ap (λ z. same_words z c) (same_words-same a b e)

-- the last word of texts
pub last_text : (ws : List (String Global)) (w : String Global) → last_word (map string_bytes (ws ++ w ∷ [])) ≡ string_bytes w
last_text [] w = refl
last_text (x ∷ []) w = refl
last_text (x ∷ y ∷ ys) w = last_text (y ∷ ys) w

-- an entry more, among entries
filter-append : {A : Type 0} (p : A → Bool) (xs ys : List A) → filter p (xs ++ ys) ≡ filter p xs ++ filter p ys
filter-append p [] ys = refl
filter-append p (x ∷ xs) ys = go (p x) (filter-append p xs ys)
  where
    go : (b : Bool) → filter p (xs ++ ys) ≡ filter p xs ++ filter p ys → cond b (x ∷ filter p (xs ++ ys)) (filter p (xs ++ ys)) ≡ cond b (x ∷ filter p xs) (filter p xs) ++ filter p ys
    go true e = ap (λ l. x ∷ l) e
    go false e = e

pub with_words-more : (done : List EntryTree) (e : EntryTree) (words : List Word) → with_words (done ++ e ∷ []) words ≡ with_words done words ++ cond (same_words e.words words) (e.number ∷ []) []
with_words-more done e words =
    ap (map (λ x. x.number)) (filter-append (λ x. same_words x.words words) done (e ∷ [])) ∙ map-append (λ x. x.number) (filter (λ x. same_words x.words words) done) (filter (λ x. same_words x.words words) (e ∷ []))
    ∙ ap (λ l. with_words done words ++ l) (go (same_words e.words words))
  where
    go : (b : Bool) → map (λ x. x.number) (cond b (e ∷ []) []) ≡ cond b (e.number ∷ []) []
    go true = refl
    go false = refl

-- what an entry more changes
pub found-more : (n : ℕ) (words other : List Word) (gs : List GroupTree) → found (with_entry n words gs) other ≡ found gs other ++ cond (same_words words other) (n ∷ []) []
found-more n words other [] = go (same_words words other)
  where
    go : (b : Bool) → cond b (n ∷ []) [] ≡ [] ++ cond b (n ∷ []) []
    go true = refl
    go false = refl
found-more n words other (g ∷ gs) = go (bools (same_words g.words words)) (bools (same_words g.words other)) (bools (same_words words other)) (found-more n words other gs)
  where
    go : (same_words g.words words ≡ true) ⊎ (same_words g.words words ≡ false) → (same_words g.words other ≡ true) ⊎ (same_words g.words other ≡ false) → (same_words words other ≡ true) ⊎ (same_words words other ≡ false)
        → found (with_entry n words gs) other ≡ found gs other ++ cond (same_words words other) (n ∷ []) []
        → found (with_entry n words (g ∷ gs)) other ≡ found (g ∷ gs) other ++ cond (same_words words other) (n ∷ []) []
    go (inl a) (inl b) (inl c) h = simp (a, b, c)
    go (inl a) (inl b) (inr c) h = true_not_false (same_words words other) (sym (same_words-other g.words words other a) ∙ b) c
    go (inl a) (inr b) (inl c) h = true_not_false (same_words g.words other) (same_words-other g.words words other a ∙ c) b
    go (inl a) (inr b) (inr c) h = simp (a, b, c) (sym (append-nil (found gs other)))
    go (inr a) (inl b) (inl c) h = true_not_false (same_words g.words words) (back b c) a
      where
        back : same_words g.words other ≡ true → same_words words other ≡ true → same_words g.words words ≡ true
        back b c = subst (λ z. same_words g.words z ≡ true) (sym (same_words-same words other c)) b
    go (inr a) (inl b) (inr c) h = simp (a, b, c) (sym (append-nil g.entries))
    go (inr a) (inr b) c h = simp (a, b) h

-- the place of words among groups
pub at_place : (gs : List GroupTree) (words : List Word) (i : ℕ) → ((k : ℕ) → k < i → same_words (group_at gs k).words words ≡ false) → i < length gs → same_words (group_at gs i).words words ≡ true
    → (i < length gs) × (found gs words ≡ (group_at gs i).entries) × ((n : ℕ) → with_entry n words gs ≡ set gs i (with_one n (group_at gs i)))
at_place [] words i before lt e = absurd (omega arith)
at_place (g ∷ gs) words zero before lt e = (lt, ap (λ b. cond b g.entries (found gs words)) e, λ n. ap (λ b. cond b (with_one n g ∷ gs) (g ∷ with_entry n words gs)) e)
at_place (g ∷ gs) words (suc i) before lt e =
    let first = before 0 (omega arith) in
    let r = at_place gs words i (λ k h. before (suc k) (omega arith)) (omega arith) e in
    (lt, ap (λ b. cond b g.entries (found gs words)) first ∙ r.1, λ n. ap (λ b. cond b (with_one n g ∷ gs) (g ∷ with_entry n words gs)) first ∙ ap (λ l. g ∷ l) (r.2 n))

pub no_place : (gs : List GroupTree) (words : List Word) (m : ℕ) → length gs ≤ m → ((k : ℕ) → k < m → same_words (group_at gs k).words words ≡ false) → (n : ℕ)
    → (found gs words ≡ []) × (with_entry n words gs ≡ gs ++ record { words = words; entries = n ∷ [] } ∷ [])
no_place [] words m le before n = (refl, refl)
no_place (g ∷ gs) words zero le before n = absurd (omega arith)
no_place (g ∷ gs) words (suc m) le before n =
    let first = before 0 (omega arith) in
    let r = no_place gs words m (omega arith) (λ k h. before (suc k) (omega arith)) n in
    (ap (λ b. cond b g.entries (found gs words)) first ∙ r.0, ap (λ b. cond b (with_one n g ∷ gs) (g ∷ with_entry n words gs)) first ∙ ap (λ l. g ∷ l) r.1)

pub group_is : (groups : List Group) (i : ℕ) (x : Group) → i < length groups → x ≡ get_or groups i x → group_at (map group_of groups) i ≡ group_of x
group_is [] i x lt e = absurd (omega arith)
group_is (y ∷ ys) zero x lt e = ap group_of (sym e)
group_is (y ∷ ys) (suc i) x lt e = group_is ys i x (omega arith) e

pub map-set : (groups : List Group) (i : ℕ) (x : Group) → map group_of (set groups i x) ≡ set (map group_of groups) i (group_of x)
map-set [] i x = refl
map-set (y ∷ ys) zero x = refl
map-set (y ∷ ys) (suc i) x = ap (λ l. group_of y ∷ l) (map-set ys i x)

-- what an entry more keeps
words_kept : (P : List Word → Type 0) (n : ℕ) (words : List Word) (gs : List GroupTree) → P words → Each (λ g. P g.words) gs → Each (λ g. P g.words) (with_entry n words gs)
words_kept P n words [] p h = (p, tt)
words_kept P n words (g ∷ gs) p h = go (same_words g.words words) (words_kept P n words gs p h.1)
  where
    go : (b : Bool) → Each (λ k. P k.words) (with_entry n words gs) → Each (λ k. P k.words) (cond b (with_one n g ∷ gs) (g ∷ with_entry n words gs))
    go true m = h
    go false m = (h.0, m)

apart_kept : (n : ℕ) (words : List Word) (gs : List GroupTree) → AreApart gs → AreApart (with_entry n words gs)
apart_kept n words [] h = (tt, tt)
apart_kept n words (g ∷ gs) h = go (same_words g.words words) refl (apart_kept n words gs h.1)
  where
    go : (b : Bool) → same_words g.words words ≡ b → AreApart (with_entry n words gs) → AreApart (cond b (with_one n g ∷ gs) (g ∷ with_entry n words gs))
    go true e m = h
    go false e m = (words_kept (λ ws. same_words g.words ws ≡ false) n words gs e h.0, m)

abbrev list_noted : Option (Vec Group Global) → List Group
list_noted o = option_map_or (λ v. v.items) o []

-- what an entry more changes in the groups of its last word, and that it changes no others
entry_step : (old new : List GroupTree) (e : EntryTree) (done : List EntryTree) (n : Word) → last_word e.words ≡ n → new ≡ with_entry e.number e.words old → AreGroupsOf done n old
    → AreGroupsOf (done ++ e ∷ []) n new
entry_step old new e done n here all h =
    subst (AreGroupsOf (done ++ e ∷ []) n) (sym all)
    (record {
      all = λ words q. found-more e.number e.words words old ∙ ap (λ l. l ++ cond (same_words e.words words) (e.number ∷ []) []) (h.all words q) ∙ sym (with_words-more done e words);
      only = words_kept (λ ws. last_word ws ≡ n) e.number e.words old here h.only;
      apart = apart_kept e.number e.words old h.apart;
    })

other_step : (groups : List GroupTree) (e : EntryTree) (done : List EntryTree) (n : Word) → bytes_eq (last_word e.words) n ≡ false → AreGroupsOf done n groups → AreGroupsOf (done ++ e ∷ []) n groups
other_step groups e done n f h = record {
  all = λ words q. h.all words q ∙ sym (append-nil (with_words done words)) ∙ ap (λ b. with_words done words ++ cond b (e.number ∷ []) []) (sym (other words q)) ∙ sym (with_words-more done e words);
  only = h.only;
  apart = h.apart;
}
  where
    other : (words : List Word) → last_word words ≡ n → same_words e.words words ≡ false
    other words q = no (bools (same_words e.words words))
      where
        no : (same_words e.words words ≡ true) ⊎ (same_words e.words words ≡ false) → same_words e.words words ≡ false
        no (inr z) = z
        no (inl z) = true_not_false (bytes_eq (last_word e.words) n) (bytes_eq-refl (last_word e.words) n (ap last_word (same_words-same e.words words z) ∙ q)) f

-- an entry is noted under its last word: in the groups that stand there, or in the first ones
pub note_step : (m0 m1 : Word → Option (Vec Group Global)) (x k : Word) (old v : Vec Group Global) (e : EntryTree) (done : List EntryTree) (n : Word) →
    k ≡ x → x ≡ last_word e.words → old.items ≡ list_noted (m0 x) → map group_of v.items ≡ with_entry e.number e.words (map group_of old.items) →
    m1 n ≡ cond (bytes_eq k n) (Some v) (m0 n) → AreGroupsOf done n (map group_of (list_noted (m0 n))) → AreGroupsOf (done ++ e ∷ []) n (map group_of (list_noted (m1 n)))
note_step m0 m1 x k old v e done n kx is had grown step h = go (bools (bytes_eq x n))
  where
    go : (bytes_eq x n ≡ true) ⊎ (bytes_eq x n ≡ false) → AreGroupsOf (done ++ e ∷ []) n (map group_of (list_noted (m1 n)))
    go (inl t) =
        let mine : list_noted (m1 n) ≡ v.items = ap list_noted (step ∙ ap (λ b. cond b (Some v) (m0 n)) (ap (λ z. bytes_eq z n) kx ∙ t)) in
        let were : old.items ≡ list_noted (m0 n) = had ∙ ap (λ z. list_noted (m0 z)) (bytes_eq-same x n t) in
        entry_step (map group_of (list_noted (m0 n))) (map group_of (list_noted (m1 n))) e done n (sym is ∙ bytes_eq-same x n t)
        (ap (map group_of) mine ∙ grown ∙ ap (λ l. with_entry e.number e.words (map group_of l)) were) h
    go (inr f) =
        subst (λ l. AreGroupsOf (done ++ e ∷ []) n (map group_of l)) (sym (ap list_noted (step ∙ ap (λ b. cond b (Some v) (m0 n)) (ap (λ z. bytes_eq z n) kx ∙ f))))
        (other_step (map group_of (list_noted (m0 n))) e done n (ap (λ z. bytes_eq z n) (sym is) ∙ f) h)

-- a group has all entries with its words
pub found_here : (gs : List GroupTree) (g : GroupTree) → AreApart gs → Has g gs → found gs g.words ≡ g.entries
found_here [] g a h = absurd h
found_here (k ∷ ks) g a (inl e) = subst (λ z. found (k ∷ ks) z.words ≡ z.entries) (sym e) (ap (λ b. cond b k.entries (found ks k.words)) (same_words-refl k.words))
found_here (k ∷ ks) g a (inr h) = ap (λ b. cond b k.entries (found ks g.words)) (apart_at ks a.0 h) ∙ found_here ks g a.1 h
  where
    apart_at : (xs : List GroupTree) → Each (λ m. same_words k.words m.words ≡ false) xs → Has g xs → same_words k.words g.words ≡ false
    apart_at [] e h = absurd h
    apart_at (x ∷ xs) e (inl q) = subst (λ z. same_words k.words z.words ≡ false) (sym q) e.0
    apart_at (x ∷ xs) e (inr m) = apart_at xs e.1 m

pub map_take_next : {A B : Type 0} (f : A → B) (xs : List A) (i : ℕ) (x : A) → i < length xs → x ≡ get_or xs i x → map f (take (i + 1) xs) ≡ map f (take i xs) ++ f x ∷ []
map_take_next f xs i x lt e = ap (map f) (take_more xs i x lt ∙ ap (λ y. take i xs ++ y ∷ []) (sym e)) ∙ map-append f (take i xs) (x ∷ [])

pub Has-at : {A B : Type 0} (f : A → B) (xs : List A) (i : ℕ) (x : A) (y : B) → i < length xs → x ≡ get_or xs i x → f x ≡ y → Has y (map f xs)
Has-at f [] i x y lt e q = absurd (omega arith)
Has-at f (z ∷ zs) zero x y lt e q = inl (sym q ∙ ap f e)
Has-at f (z ∷ zs) (suc i) x y lt e q = inr (Has-at f zs i x y (omega arith) e q)

pub Has-snoc : {A : Type 0} (x y : A) (xs : List A) → Has x (xs ++ y ∷ []) → Has x xs ⊎ (x ≡ y)
Has-snoc x y [] (inl e) = inr e
Has-snoc x y [] (inr h) = absurd h
Has-snoc x y (z ∷ zs) (inl e) = inl (inl e)
Has-snoc x y (z ∷ zs) (inr h) = elim (Has-snoc x y zs h) [ inl k ↦ inl (inr k) | inr k ↦ inr k ]

-- the number of an entry more
pub number_next : (xs : List Entry) (i : ℕ) (x : Entry) (n : ℕ) → i < length xs → x ≡ get_or xs i x → Has n (map (λ e. e.number) (map entry_of (take (i + 1) xs))) → Has n (map (λ e. e.number) (map entry_of (take i xs))) ⊎ (n ≡ x.number)
number_next xs i x n lt e h =
    Has-snoc n x.number (map (λ y. y.number) (map entry_of (take i xs)))
    (subst (Has n) (ap (map (λ y. y.number)) (map_take_next entry_of xs i x lt e) ∙ map-append (λ y. y.number) (map entry_of (take i xs)) (entry_of x ∷ [])) h)

pub rising_kept : (xs : List Entry) → IsNonDecreasingBy (λ e. e.number) xs → IsNonDecreasingBy (λ e. e.number) (map entry_of xs)
rising_kept [] h = λ i j d le lt. absurd (let z : j < 0 = lt in omega arith)
rising_kept (x ∷ xs) h = λ i j d le lt.
    let size = length-map (x ∷ xs) entry_of in
    let both = h i j x le (omega (arith, size)) in
    subst (λ a. a ≤ (get_or (map entry_of (x ∷ xs)) j d).number) (number_at (x ∷ xs) i x d (omega (arith, size))) (subst (λ b. (get_or (x ∷ xs) i x).number ≤ b) (number_at (x ∷ xs) j x d (omega (arith, size))) both)
  where
    number_at : (ys : List Entry) (i : ℕ) (y : Entry) (d : EntryTree) → i < length ys → (get_or ys i y).number ≡ (get_or (map entry_of ys) i d).number
    number_at [] i y d lt = absurd (omega arith)
    number_at (z ∷ zs) zero y d lt = refl
    number_at (z ∷ zs) (suc i) y d lt = number_at zs i y d (omega arith)

pub last_is : (ws : List (String Global)) (w : String Global) → Some w ≡ slice_get ws (length ws - 1) → string_bytes w ≡ last_word (map string_bytes ws)
last_is [] w e = absurd (let z : Some w ≡ None = e in cc)
last_is (x ∷ []) w e = let z : Some w ≡ Some x = e in ap string_bytes (let q : w ≡ x = cc in q)
last_is (x ∷ y ∷ ys) w e =
    let k : length (x ∷ y ∷ ys) - 1 ≡ suc (length (y ∷ ys) - 1) = omega arith in
    last_is (y ∷ ys) w (e ∙ ap (slice_get (x ∷ y ∷ ys)) k)

pub same_at : {A : Type 0} (xs : List A) (i : ℕ) (x y : A) → i < length xs → x ≡ get_or xs i x → y ≡ get_or xs i y → x ≡ y
same_at [] i x y lt e f = absurd (omega arith)
same_at (z ∷ zs) zero x y lt e f = e ∙ sym f
same_at (z ∷ zs) (suc i) x y lt e f = same_at zs i x y (omega arith) e f

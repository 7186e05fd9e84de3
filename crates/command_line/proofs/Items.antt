-- Items one after the other.
use Rattle.std.proofs.Common.{◌≡◌, ◌∙◌, sym, ap, ap₂, refl, subst, ℕ, List, [], ◌∷◌, ◌++◌, length, Some, None, Bool, true, false, ◌||◌, slice_get, append_assoc}
use Rattle.std.proofs.lemmas.Slice.Eq.{bytes_eq-Decides}
use Rattle.std.proofs.lemmas.List.Folds.{list_any-append}
use Rattle.std.specs.List.{list_any}
use Rattle.std.specs.Str.{bytes_eq}
use Rattle.command_line.specs.Words.{OptionName, Value, in_range, name, nothing, is_name, word_of, value_of, IsValue, Item, positional, option as an_option, words_of, AreItems, IsNotIn, AreOnce, positionals, FillPlaces}
use Rattle.command_line.proofs.Telling.{head-same, tail-same}
use Rattle.command_line.proofs.Unique.{same-option, same-value, not-name}
use Rattle.command_line.specs.Fronts.{FillFirst}

pub words-more : (items others : List Item) → words_of (items ++ others) ≡ words_of items ++ words_of others
words-more [] others = refl
words-more (positional w ∷ items) others = ap (λ ws. w ∷ ws) (words-more items others)
words-more (an_option o vs ∷ items) others = ap (λ ws. word_of o ∷ (vs ++ ws)) (words-more items others) ∙ ap (λ ws. word_of o ∷ ws) (sym (append_assoc vs (words_of items) (words_of others)))

pub positionals-more : (items others : List Item) → positionals (items ++ others) ≡ positionals items ++ positionals others
positionals-more [] others = refl
positionals-more (positional w ∷ items) others = ap (λ ws. w ∷ ws) (positionals-more items others)
positionals-more (an_option o vs ∷ items) others = positionals-more items others

pub are-more : (items others : List Item) → AreItems items → AreItems others → AreItems (items ++ others)
are-more [] others h k = k
are-more (positional w ∷ items) others h k = (h.0, are-more items others h.1 k)
are-more (an_option o vs ∷ items) others h k = (h.0, are-more items others h.1 k)

pub are-rest : (items others : List Item) → AreItems (items ++ others) → AreItems others
are-rest [] others h = h
are-rest (positional w ∷ items) others h = are-rest items others h.1
are-rest (an_option o vs ∷ items) others h = are-rest items others h.1

not-in-more : (o : OptionName) (items others : List Item) → IsNotIn o items → IsNotIn o others → IsNotIn o (items ++ others)
not-in-more o [] others h k = k
not-in-more o (positional w ∷ items) others h k = not-in-more o items others h k
not-in-more o (an_option p vs ∷ items) others h k = (h.0, not-in-more o items others h.1 k)

pub once-option : (items : List Item) (o : OptionName) (vs : List (List ℕ)) → AreOnce items → IsNotIn o items → AreOnce (items ++ an_option o vs ∷ [])
once-option [] o vs once not = (tt, tt)
once-option (positional w ∷ items) o vs once not = once-option items o vs once not
once-option (an_option p us ∷ items) o vs once not = (not-in-more p items (an_option o vs ∷ []) once.0 ((λ e. not.0 (sym e)), tt), once-option items o vs once.1 not.1)

-- an option that stands after items that have it stands twice
pub not-in-front : (o : OptionName) (vs : List (List ℕ)) (items others : List Item) → AreOnce (items ++ an_option o vs ∷ others) → IsNotIn o items
not-in-front o vs [] others once = tt
not-in-front o vs (positional w ∷ items) others once = not-in-front o vs items others once
not-in-front o vs (an_option p us ∷ items) others once = ((λ e. other items once.0 (sym e)), not-in-front o vs items others once.1)
  where
    other : (items : List Item) → IsNotIn p (items ++ an_option o vs ∷ others) → p ≡ o → ⊥
    other [] h = h.0
    other (positional w ∷ items) h = other items h
    other (an_option q ws ∷ items) h = other items h.1

pub fill-more : (values : List Value) (ws : List (List ℕ)) (v : Value) (w : List ℕ) → FillFirst values ws → slice_get values (length ws) ≡ Some v → IsValue v (w ∷ []) → FillFirst values (ws ++ w ∷ [])
fill-more [] [] v w fill at is = cc
fill-more [] (u ∷ ws) v w fill at is = absurd fill
fill-more (x ∷ values) [] v w fill at is = let same : x ≡ v = cc in (subst (λ y. IsValue y (w ∷ [])) (sym same) is, tt)
fill-more (x ∷ values) (u ∷ ws) v w fill at is = (fill.0, fill-more values ws v w fill.1 at is)

-- positional words alone
abbrev pub items_by : List (List ℕ) → List Item
items_by [] = []
items_by (w ∷ ws) = positional w ∷ items_by ws

pub words-by : (ws : List (List ℕ)) → words_of (items_by ws) ≡ ws
words-by [] = refl
words-by (w ∷ ws) = ap (λ xs. w ∷ xs) (words-by ws)

pub positionals-by : (ws : List (List ℕ)) → positionals (items_by ws) ≡ ws
positionals-by [] = refl
positionals-by (w ∷ ws) = ap (λ xs. w ∷ xs) (positionals-by ws)

pub once-by : (items : List Item) (ws : List (List ℕ)) → AreOnce items → AreOnce (items ++ items_by ws)
once-by [] [] once = tt
once-by [] (w ∷ ws) once = once-by [] ws tt
once-by (positional u ∷ items) ws once = once-by items ws once
once-by (an_option p us ∷ items) ws once = (not-in-more p items (items_by ws) once.0 (not-by ws), once-by items ws once.1)
  where
    not-by : (ws : List (List ℕ)) → IsNotIn p (items_by ws)
    not-by [] = tt
    not-by (w ∷ ws) = not-by ws

-- what fills the place of a word
pub record Filled (values : List Value) (k : ℕ) (w : List ℕ) : Type 0 where
  pub value : Value
  pub at : slice_get values k ≡ Some value
  pub is : IsValue value (w ∷ [])

pub fill-at : (values : List Value) (ws : List (List ℕ)) (w : List ℕ) (others : List (List ℕ)) → FillPlaces values (ws ++ w ∷ others) → Filled values (length ws) w
fill-at [] [] w others fill = absurd fill
fill-at [] (u ∷ ws) w others fill = absurd fill
fill-at (v ∷ values) [] w others fill = record { value = v; at = refl; is = fill.0 }
fill-at (v ∷ values) (u ∷ ws) w others fill = let f = fill-at values ws w others fill.1 in record { value = f.value; at = f.at; is = f.is }

-- words that fill the places leave none
pub fill-none : (values : List Value) (ws : List (List ℕ)) → FillPlaces values ws → slice_get values (length ws) ≡ None
fill-none [] [] fill = refl
fill-none [] (u ∷ ws) fill = absurd fill
fill-none (v ∷ values) [] fill = absurd fill
fill-none (v ∷ values) (u ∷ ws) fill = fill-none values ws fill.1

pub value-name : (v : Value) (w : List ℕ) → IsValue v (w ∷ []) → is_name w ≡ true
value-name (in_range a b) w is = is.0
value-name name w is = is
value-name nothing w is = absurd is

pub or-parts-false : (a b : Bool) → (a || b) ≡ false → (a ≡ false) × (b ≡ false)
or-parts-false false b e = (refl, e)
or-parts-false true b e = cc

-- ---- the items of a front are the first of those that go on

pub record Cut (items others : List Item) (rest : List (List ℕ)) : Type 0 where
  pub more : List Item
  pub all : others ≡ items ++ more
  pub words : words_of more ≡ rest

pub cut : (items others : List Item) (rest : List (List ℕ)) → AreItems items → AreItems others → words_of items ++ rest ≡ words_of others → Cut items others rest
cut [] others rest h k e = record { more = others; all = refl; words = sym e }
cut (positional w ∷ items) [] rest h k e = cc
cut (an_option o vs ∷ items) [] rest h k e = cc
cut (positional w ∷ items) (positional u ∷ others) rest h k e =
    let c = cut items others rest h.1 k.1 (tail-same w u _ _ e) in
    record { more = c.more; all = ap₂ (λ x (ys : List Item). positional x ∷ ys) (sym (head-same w u _ _ e)) c.all; words = c.words }
cut (positional w ∷ items) (an_option o vs ∷ others) rest h k e =
    absurd (let bad : true ≡ false = sym h.0 ∙ ap is_name (head-same w (word_of o) _ _ e) ∙ not-name o in cc)
cut (an_option o vs ∷ items) (positional w ∷ others) rest h k e =
    absurd (let bad : true ≡ false = sym k.0 ∙ ap is_name (sym (head-same (word_of o) w _ _ e)) ∙ not-name o in cc)
cut (an_option o vs ∷ items) (an_option p us ∷ others) rest h k e =
    let same : o ≡ p = same-option o p (head-same (word_of o) (word_of p) _ _ e) in
    let parts = same-value (value_of o) vs us (words_of items ++ rest) (words_of others) h.0 (subst (λ q. IsValue (value_of q) us) (sym same) k.0)
    (sym (append_assoc vs (words_of items) rest) ∙ tail-same (word_of o) (word_of p) _ _ e) in
    let c = cut items others rest h.1 k.1 parts.1 in
    record { more = c.more; all = ap₂ (λ (x : Item) (ys : List Item). x ∷ ys) (sym (λ i. an_option (same i) (parts.0 i))) c.all; words = c.words }

-- ---- an option among the words of items

abbrev pub is_said : OptionName → List (List ℕ) → Bool
is_said o words = list_any (λ w. bytes_eq w (word_of o)) words

pub or-false : (a b : Bool) → a ≡ false → (a || b) ≡ true → b ≡ true
or-false false b f e = e
or-false true b f e = cc

pub apart : (o : OptionName) (w : List ℕ) → is_name w ≡ true → bytes_eq w (word_of o) ≡ false
apart o w h = by_test (bytes_eq w (word_of o)) refl
  where
    by_test : (t : Bool) → bytes_eq w (word_of o) ≡ t → t ≡ false
    by_test false f = refl
    by_test true f = absurd (let bad : true ≡ false = sym h ∙ ap is_name ((bytes_eq-Decides w (word_of o)).0 f) ∙ not-name o in cc)

others-apart : (o p : OptionName) → (o ≡ p → ⊥) → bytes_eq (word_of p) (word_of o) ≡ false
others-apart o p not = by_test (bytes_eq (word_of p) (word_of o)) refl
  where
    by_test : (t : Bool) → bytes_eq (word_of p) (word_of o) ≡ t → t ≡ false
    by_test false f = refl
    by_test true f = absurd (not (sym (same-option p o ((bytes_eq-Decides (word_of p) (word_of o)).0 f))))

value-apart : (o : OptionName) (v : Value) (vs ws : List (List ℕ)) → IsValue v vs → is_said o (vs ++ ws) ≡ true → is_said o ws ≡ true
value-apart o (in_range a b) (w ∷ []) ws is e = or-false _ _ (apart o w is.0) e
value-apart o name (w ∷ []) ws is e = or-false _ _ (apart o w is) e
value-apart o nothing [] ws is e = e
value-apart o v vs ws is e = absurd is

pub said-in : (o : OptionName) (items : List Item) → AreItems items → IsNotIn o items → is_said o (words_of items) ≡ true → ⊥
said-in o [] are not e = cc
said-in o (positional w ∷ items) are not e = said-in o items are.1 not (or-false _ _ (apart o w are.0) e)
said-in o (an_option p vs ∷ items) are not e = said-in o items are.1 not.1 (value-apart o (value_of p) vs (words_of items) are.0 (or-false _ _ (others-apart o p not.0) e))

-- an option whose word isn't among the words isn't among the items
pub not-said : (o : OptionName) (items : List Item) → is_said o (words_of items) ≡ false → IsNotIn o items
not-said o [] e = tt
not-said o (positional w ∷ items) e = not-said o items (or-parts-false (bytes_eq w (word_of o)) _ e).1
not-said o (an_option p vs ∷ items) e = let parts = or-parts-false (bytes_eq (word_of p) (word_of o)) _ e in (
  (λ same. (let here : bytes_eq (word_of p) (word_of o) ≡ true = (bytes_eq-Decides (word_of p) (word_of o)).1 (ap word_of (sym same)) in let bad : true ≡ false = sym here ∙ parts.0 in cc)),
  not-said o items (or-parts-false (is_said o vs) _ (sym (list_any-append (λ w. bytes_eq w (word_of o)) vs (words_of items)) ∙ parts.1)).1,
)

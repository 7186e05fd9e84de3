-- Words fail at one place.
use Rattle.std.specs.Prelude.{ℕ, ◌≡◌, ◌⊎◌, List, [], ◌∷◌, ◌++◌, length, replicate}
use Rattle.std.proofs.Common.{inl, inr, refl, sym, ◌∙◌, ap, subst}
use Rattle.derivation.specs.Trees.{Derivation, Daughters, lexical}
use Rattle.derivation.specs.Order.{outermost}
use Rattle.tree_model.specs.Lexical.{Word, Words, Become, become_none, become_next, Spells}
use Rattle.tree_model.specs.Trees.{leaf_is, leaves_are, AllLeavesAre, no_leaves, more_leaves}
use Rattle.tree_faults.specs.Nodes.{Place, IsDaughterAt, daughter_here, daughter_later, ComesBefore}
use Rattle.tree_faults.specs.Spelled.{IsSpelled, AreSpelled, HasForms, FailsWithin, no_form, other_words, IsLeafAt, leaf_here, leaf_below, IsFirstMisspelled}
use Rattle.tree_faults.proofs.OneNode.{compare_places, one_daughter}

record Split (b : List ℕ) (r : ℕ) (a b' : List ℕ) (r' : ℕ) (a' : List ℕ) : Type 0 where
  front : b ≡ b'
  here : r ≡ r'
  rest : a ≡ a'

-- two ways to part a list: they are one, or one front goes past the other
splits : (b : List ℕ) (r : ℕ) (a b' : List ℕ) (r' : ℕ) (a' : List ℕ) → b ++ r ∷ a ≡ b' ++ r' ∷ a' →
    Split b r a b' r' a' ⊎ ((c : List ℕ) × (b' ≡ b ++ r ∷ c)) ⊎ ((c : List ℕ) × (b ≡ b' ++ r' ∷ c))
splits [] r a [] r' a' e = inl (record { front = refl; here = cc; rest = cc })
splits [] r a (x ∷ b') r' a' e = inr (inl (b', cc))
splits (x ∷ b) r a [] r' a' e = inr (inr (b, cc))
splits (x ∷ b) r a (y ∷ b') r' a' e =
    let head : x ≡ y = cc in
    let tail : b ++ r ∷ a ≡ b' ++ r' ∷ a' = cc in
    go head (splits b r a b' r' a' tail)
  where
    go : x ≡ y → Split b r a b' r' a' ⊎ ((c : List ℕ) × (b' ≡ b ++ r ∷ c)) ⊎ ((c : List ℕ) × (b ≡ b' ++ r' ∷ c)) →
        Split (x ∷ b) r a (y ∷ b') r' a' ⊎ ((c : List ℕ) × (y ∷ b' ≡ x ∷ (b ++ r ∷ c))) ⊎ ((c : List ℕ) × (x ∷ b ≡ y ∷ (b' ++ r' ∷ c)))
    go h (inl s) = let f = s.front in inl (record { front = cc; here = s.here; rest = s.rest })
    go h (inr (inl z)) = let f = z.1 in inr (inl (z.0, cc))
    go h (inr (inr z)) = let f = z.1 in inr (inr (z.0, cc))

abbrev ones : List ℕ → Place
ones after = replicate (length after) 1

module _ (words : Words) where
  front_becomes : (before : List ℕ) (rule : ℕ) (after : List ℕ) {ws vs : List Word} → Become words ws (before ++ rule ∷ after) vs → (said : List Word) × Become words ws (before ++ rule ∷ []) said
  front_becomes [] rule after (become_next front word form e f rest) = (front ++ form ∷ [], become_next front word form e f become_none)
  front_becomes (r ∷ before) rule after (become_next front word form e f rest) = let z = front_becomes before rule after rest in (z.0, become_next front word form e f z.1)

  has_front : (entry : ℕ) (before : List ℕ) (rule : ℕ) (after : List ℕ) → HasForms words entry (before ++ rule ∷ after) → HasForms words entry (before ++ rule ∷ [])
  has_front entry before rule after x = front_becomes before rule after x.1

  pub fails_not : {entry : ℕ} {rules : List ℕ} {said : List Word} {place : Place} {instance : ℕ} → FailsWithin words entry rules said place instance → Spells words entry rules said → ⊥
  fails_not {entry = entry} {said = said} (no_form before rule after h n) s = n (has_front entry before rule after (said, s))
  fails_not (other_words h n) s = n s

  one_fails : (entry : ℕ) (rules rules' : List ℕ) {said said' : List Word} (p q : Place) (i j : ℕ) → FailsWithin words entry rules said p i → FailsWithin words entry rules' said' q j → rules ≡ rules' → (p ≡ q) × (i ≡ j)
  one_fails entry _ _ _ _ _ _ (other_words h n) (other_words k m) e = (refl, ap (outermost entry) e)
  one_fails entry _ rules' _ _ _ _ (no_form before rule after h n) (other_words k m) e = absurd (n (has_front entry before rule after (subst (HasForms words entry) (sym e) k)))
  one_fails entry rules _ _ _ _ _ (other_words h n) (no_form before rule after k m) e = absurd (m (has_front entry before rule after (subst (HasForms words entry) e h)))
  one_fails entry _ _ _ _ _ _ (no_form b r a h n) (no_form b' r' a' k m) e = go (splits b r a b' r' a' e)
    where
      go : Split b r a b' r' a' ⊎ ((c : List ℕ) × (b' ≡ b ++ r ∷ c)) ⊎ ((c : List ℕ) × (b ≡ b' ++ r' ∷ c)) → (ones a ≡ ones a') × (r ≡ r')
      go (inl s) = (ap ones s.rest, s.here)
      go (inr (inl z)) = absurd (n (has_front entry b r z.0 (subst (HasForms words entry) z.1 k)))
      go (inr (inr z)) = absurd (m (has_front entry b' r' z.0 (subst (HasForms words entry) z.1 h)))

  mutual
    leaf_spelled : {t leaf : Derivation} {place : Place} → AreSpelled words t → IsLeafAt t place leaf → IsSpelled words leaf
    leaf_spelled (leaf_is x) leaf_here = x
    leaf_spelled (leaves_are xs) (leaf_below d at) = daughter_spelled xs d at

    daughter_spelled : {ds : Daughters} {n : ℕ} {d leaf : Derivation} {place : Place} → AllLeavesAre (IsSpelled words) ds → IsDaughterAt ds n d → IsLeafAt d place leaf → IsSpelled words leaf
    daughter_spelled no_leaves x at = elim x [ ]
    daughter_spelled (more_leaves x xs) daughter_here at = leaf_spelled x at
    daughter_spelled (more_leaves x xs) (daughter_later d) at = daughter_spelled xs d at

  pub spelled_not : {t : Derivation} (place : Place) (instance : ℕ) → AreSpelled words t → IsFirstMisspelled words t place instance → ⊥
  spelled_not place instance s x = fails_not x.fails (leaf_spelled s x.leaf)

one_leaf : (t s : Derivation) (p q : Place) {a b : Derivation} → IsLeafAt t p a → IsLeafAt s q b → t ≡ s → p ≡ q → a ≡ b
one_leaf _ _ _ _ leaf_here leaf_here e r = e
one_leaf _ _ _ _ leaf_here (leaf_below d y) e r = absurd cc
one_leaf _ _ _ _ (leaf_below d x) leaf_here e r = absurd cc
one_leaf _ _ _ _ (leaf_below {n = n} {ds = ds} {place = p} d x) (leaf_below {n = m} {ds = es} {place = q} f y) e r =
    let all : ds ≡ es = cc in
    let number : n ≡ m = cc in
    let rest : p ≡ q = cc in
    one_leaf _ _ p q x y (one_daughter ds es n m d f all number) rest

pub one_misspelled : (words : Words) {t : Derivation} (p q : Place) (i j : ℕ) → IsFirstMisspelled words t p i → IsFirstMisspelled words t q j → (p ≡ q) × (i ≡ j)
one_misspelled words p q i j x y = go (compare_places x.top y.top)
  where
    go : (x.top ≡ y.top) ⊎ ComesBefore x.top y.top ⊎ ComesBefore y.top x.top → (p ≡ q) × (i ≡ j)
    go (inr (inl b)) = absurd (fails_not words x.fails (y.before x.top _ x.leaf b))
    go (inr (inr b)) = absurd (fails_not words y.fails (x.before y.top _ y.leaf b))
    go (inl e) =
        let leaf : lexical x.entry x.rules x.said x.nodes ≡ lexical y.entry y.rules y.said y.nodes = one_leaf _ _ x.top y.top x.leaf y.leaf refl e in
        let entry : x.entry ≡ y.entry = cc in
        let rules : x.rules ≡ y.rules = cc in
        let z = one_fails words y.entry x.rules y.rules x.inner y.inner i j (subst (λ n. FailsWithin words n x.rules x.said x.inner i) entry x.fails) y.fails rules in
        (x.place_is ∙ ap (λ c. c ++ x.inner) e ∙ ap (λ c. y.top ++ c) z.0 ∙ sym y.place_is, z.1)

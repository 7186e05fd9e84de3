-- What a grammar over shapes and covers is, in plain values, and the laws that it has.
use Rattle.std.specs.Prelude.{◌≡◌, ℕ, ◌^◌, ◌<◌, ◌≤◌, ◌↔◌, Bool, true, Option, Some, is_some, List, [], ◌∷◌, ◌++◌, length, Contains, All}

-- `M` are the meanings of shapes, `C` are covers.
pub record Calculus (M C : Type 0) : Type 1 where
  -- the number of rules, and the number of daughters of each
  pub rules : ℕ
  pub arity : ℕ → ℕ
  -- whether the first subsumes the second
  pub over : M → M → Bool
  -- whether a rule applies to these daughters, and what their mother is
  pub applies : ℕ → List M → Type 0
  pub mother : ℕ → List M → M → Type 0
  -- the cover of these daughters under a rule, where there is one
  pub covers : ℕ → List C → Option C
  -- whether two covers are equal; what two covers join to; the size of one
  pub same : C → C → Bool
  pub join : C → C → Option C
  pub size : C → ℕ
  -- whether a leaf, or a mother, may have this cover
  pub proper : C → Type 0

-- each of the first list subsumes the one at its place in the second
pub data AllOver {M : Type 0} (over : M → M → Bool) : List M → List M → Type 0 where
  none : AllOver over [] []
  more : {g s : M} {gs ss : List M} → over g s ≡ true → AllOver over gs ss → AllOver over (g ∷ gs) (s ∷ ss)

-- the rule applies to no tuple that begins with these daughters
abbrev pub NoneApplies : {M C : Type 0} → Calculus M C → ℕ → List M → Type 0
NoneApplies {M} k rule front = (rest : List M) → length (front ++ rest) ≡ k.arity rule → k.applies rule (front ++ rest) → ⊥

-- shapes are in an order, and rules keep to it
pub record ShapeLaws {M : Type 0} (over : M → M → Bool) (applies : ℕ → List M → Type 0) (mother : ℕ → List M → M → Type 0) : Type 0 where
  pub reflexive : (m : M) → over m m ≡ true
  pub transitive : (a b c : M) → over a b ≡ true → over b c ≡ true → over a c ≡ true
  pub antisymmetric : (a b : M) → over a b ≡ true → over b a ≡ true → a ≡ b
  -- what applies to a special tuple applies to a general one
  pub falls : (rule : ℕ) (general special : List M) → AllOver over general special → applies rule special → applies rule general
  -- the general mother subsumes the special one
  pub monotone : (rule : ℕ) (general special : List M) (n m : M) → AllOver over general special → mother rule general n → mother rule special m → over n m ≡ true
  -- a rule applies to what has a mother
  pub has_mother : (rule : ℕ) (ms : List M) (m : M) → mother rule ms m → applies rule ms

-- covers are told apart, and mothers are larger than their daughters
pub record CoverLaws {M C : Type 0} (k : Calculus M C) : Type 0 where
  pub same_is : (c d : C) → (k.same c d ≡ true) ↔ (c ≡ d)
  -- each rule has one to four daughters
  pub one_to_four : (rule : ℕ) → rule < k.rules → (0 < k.arity rule) × (k.arity rule ≤ 4)
  -- where a whole tuple has a cover, each beginning of it has one, which joins with the next daughter
  pub prefixes : (rule : ℕ) (front : List C) (next : C) (rest : List C) (c : C) → 0 < length front → length (front ++ next ∷ rest) ≡ k.arity rule → k.covers rule (front ++ next ∷ rest) ≡ Some c → (d : C) × (k.covers rule front ≡ Some d) × (is_some (k.join d next) ≡ true)
  -- the cover of daughters that may stand in a chart may
  pub proper_mother : (rule : ℕ) (front : List C) (c : C) → 0 < length front → length front ≤ k.arity rule → All k.proper front → k.covers rule front ≡ Some c → k.proper c
  pub has_size : (c : C) → k.proper c → (0 < k.size c) × (k.size c < 2 ^ 32)
  -- a mother of two daughters or more is larger than each, one of a single daughter is no smaller
  pub larger : (rule : ℕ) (front : List C) (c d : C) → 1 < length front → length front ≡ k.arity rule → All k.proper front → k.covers rule front ≡ Some c → Contains front d → k.size d < k.size c
  pub no_smaller : (rule : ℕ) (c d : C) → k.arity rule ≡ 1 → k.proper d → k.covers rule (d ∷ []) ≡ Some c → k.size d ≤ k.size c

pub record Laws {M C : Type 0} (k : Calculus M C) : Type 0 where
  pub of_shapes : ShapeLaws k.over k.applies k.mother
  pub open of_shapes use *
  pub of_covers : CoverLaws k
  pub open of_covers use *

-- each of the first list stands in this relation to the one at its place in the second
pub data Along {A B : Type 0} (R : A → B → Type 0) : List A → List B → Type 0 where
  along_none : Along R [] []
  along_more : {x : A} {y : B} {xs : List A} {ys : List B} → R x y → Along R xs ys → Along R (x ∷ xs) (y ∷ ys)

-- a shape agrees with a full structure: what the trees of a chart rest on
pub record Agreement {M F : Type 0} (over : M → M → Bool) (applies : ℕ → List M → Type 0) (mother : ℕ → List M → M → Type 0) (full : ℕ → List F → F → Type 0) (agrees : M → F → Type 0) : Type 0 where
  -- where the daughters agree and the full mother exists, the rule applies to the shapes
  pub applies_too : (rule : ℕ) (ms : List M) (fs : List F) (f : F) → Along agrees ms fs → full rule fs f → applies rule ms
  -- and the mother's shape agrees
  pub mother_agrees : (rule : ℕ) (ms : List M) (fs : List F) (m : M) (f : F) → Along agrees ms fs → full rule fs f → mother rule ms m → agrees m f
  -- what subsumes a shape that agrees does
  pub over_agrees : (n m : M) (f : F) → over n m ≡ true → agrees m f → agrees n f

-- a tuple has one mother at most
pub all_over_itself : {M : Type 0} (over : M → M → Bool) → ((m : M) → over m m ≡ true) → (ms : List M) → AllOver over ms ms
all_over_itself over itself [] = none
all_over_itself over itself (m ∷ ms) = more (itself m) (all_over_itself over itself ms)

pub one_mother : {M C : Type 0} (k : Calculus M C) → Laws k → (rule : ℕ) (ms : List M) (n m : M) → k.mother rule ms n → k.mother rule ms m → n ≡ m
one_mother k laws rule ms n m a b =
    let itself = all_over_itself k.over laws.reflexive ms in
    laws.antisymmetric n m (laws.monotone rule ms ms n m itself a b) (laws.monotone rule ms ms m n itself b a)

-- The first statement of which something holds.
use Rattle.std.proofs.Common.{ℕ, ◌≡◌, ◌<◌, ◌≤◌, ◌+◌, ◌⊎◌, inl, inr, Bool, true, List, length, map, get_or, sym, ◌∙◌, ap, subst, arith}
use Rattle.std.proofs.lemmas.Bool.{cases_lt}
use Rattle.std.proofs.lemmas.List.{get_or-map, length-map}
use Rattle.grammar_files.specs.declared.placed.Placed.{Placed}
use Rattle.grammar_files.specs.Placings.{PlacedTree, placed_of}
pub use Rattle.type_facts.proofs.Numbered.{at_placed}
use Rattle.constraint_expand.specs.Statements.{statement_at, IsFirstAmong, HoldsOfNone}
use Rattle.constraint_expand.specs.Found.{HasNoneBefore}

pub placed_within : (xs : List Placed) (i : ℕ) → i < length xs → i < length (map placed_of xs)
placed_within xs i h = omega (arith, length-map xs placed_of)

pub none_first : (test : PlacedTree → Bool) (ps : List PlacedTree) (P : PlacedTree → Type 0) → HasNoneBefore test ps P 0
none_first test ps P j h = absurd (omega arith)

pub none_next : (test : PlacedTree → Bool) (ps : List PlacedTree) (P : PlacedTree → Type 0) (i : ℕ) → HasNoneBefore test ps P i →
    (test (statement_at ps i) ≡ true → P (statement_at ps i) → ⊥) → HasNoneBefore test ps P (i + 1)
none_next test ps P i old new j h t p = go (cases_lt j i)
  where
    go : (j < i) ⊎ (i ≤ j) → ⊥
    go (inl a) = old j a t p
    go (inr a) =
        let same : j ≡ i = omega arith in
        new (subst (λ k. test (statement_at ps k) ≡ true) same t) (subst (λ k. P (statement_at ps k)) same p)

pub none_at_all : (test : PlacedTree → Bool) (ps : List PlacedTree) (P : PlacedTree → Type 0) (i : ℕ) → length ps ≤ i → HasNoneBefore test ps P i → HoldsOfNone test ps P
none_at_all test ps P i past none k h = none k (omega arith)

pub first_here : (test : PlacedTree → Bool) (ps : List PlacedTree) (P : PlacedTree → Type 0) (i : ℕ) → i < length ps → test (statement_at ps i) ≡ true → P (statement_at ps i) →
    HasNoneBefore test ps P i → IsFirstAmong test ps P i
first_here test ps P i h t p none = record { within = h; picked = t; holds = p; none_before = none }

-- the same of what is equivalent
pub first_moved : (test : PlacedTree → Bool) (ps : List PlacedTree) (P Q : PlacedTree → Type 0) (k : ℕ) → ((p : PlacedTree) → P p → Q p) → ((p : PlacedTree) → Q p → P p) →
    IsFirstAmong test ps P k → IsFirstAmong test ps Q k
first_moved test ps P Q k to from f =
    record {
      within = f.within;
      picked = f.picked;
      holds = to (statement_at ps k) f.holds;
      none_before = λ j h t q. f.none_before j h t (from (statement_at ps j) q);
    }

pub none_moved : (test : PlacedTree → Bool) (ps : List PlacedTree) (P Q : PlacedTree → Type 0) → ((p : PlacedTree) → Q p → P p) → HoldsOfNone test ps P → HoldsOfNone test ps Q
none_moved test ps P Q from none k h t q = none k h t (from (statement_at ps k) q)

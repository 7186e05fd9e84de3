-- Phrases that are open in a walk over a tree: what stands below them, and what comes before the place that is looked at.
use Rattle.std.specs.Prelude.{ℕ, zero, suc, ◌≡◌, ◌<◌, ◌+◌, ◌⊎◌, All, List, [], ◌∷◌, ◌++◌, Some, length, drop, slice_get}
use Rattle.std.proofs.Common.{inl, inr, refl, sym, ◌∙◌, ap, subst, arith}
use Rattle.std.proofs.lemmas.List.{drop_more}
use Rattle.std.proofs.lemmas.List.Elements.{All-head, All-tail}
use Rattle.std.proofs.lemmas.List.Sums.{sum_by_push}
use Rattle.std.proofs.lemmas.Option.{slice_get_within, get_or_from_slice_get}
use Rattle.derivation.specs.Trees.{Derivation, Daughters, lexical, phrase, first}
use Rattle.derivation.specs.Views.{in_order}
use Rattle.derivation.proofs.Weights.{weight, weights}
use Rattle.tree_faults.specs.Nodes.{Place, IsDaughterAt, daughter_here, daughter_later, below_phrase, StandsAt, at_daughter, ComesBefore, before_right, before_within}
use Rattle.tree_faults.specs.Spelled.{IsLeafAt, leaf_below}
use Rattle.tree_faults.specs.Inner.Chains.{Open, tree_of, IsNext, IsBelow, next_number, place_below, HoldsPassed, rest_of, left_in, left_above, left_of}

-- daughters by their numbers
pub daughter_get : (ds : List Derivation) {n : ℕ} {d : Derivation} → IsDaughterAt (in_order ds) n d → slice_get ds n ≡ Some d
daughter_get [] h = elim h [ ]
daughter_get (e ∷ es) daughter_here = refl
daughter_get (e ∷ es) (daughter_later h) = daughter_get es h

pub get_daughter : (ds : List Derivation) (n : ℕ) (d : Derivation) → slice_get ds n ≡ Some d → IsDaughterAt (in_order ds) n d
get_daughter [] n d h = absurd (cc)
get_daughter (e ∷ es) zero d h = let same : e ≡ d = cc in subst (IsDaughterAt (first e (in_order es)) 0) same daughter_here
get_daughter (e ∷ es) (suc n) d h = daughter_later (get_daughter es n d h)

-- Relations between a tree, a place and what stands there that go from a phrase to a daughter by its number. So do `StandsAt` and `IsLeafAt`.
pub record GoesDown (At : Derivation → Place → Derivation → Type 0) : Type 0 where
  pub into : (rule n : ℕ) (ds : Daughters) (d u : Derivation) (p : Place) → IsDaughterAt ds n d → At d p u → At (phrase rule ds) (suc n ∷ p) u
  pub out_of : (rule n : ℕ) (ds : Daughters) (u : Derivation) (p : Place) → At (phrase rule ds) (n ∷ p) u → (m : ℕ) × (d : Derivation) × (n ≡ suc m) × IsDaughterAt ds m d × At d p u

stands_back : {rule n : ℕ} {ds : Daughters} {u : Derivation} {p : Place} → StandsAt (phrase rule ds) (n ∷ p) u → (m : ℕ) × (d : Derivation) × (n ≡ suc m) × IsDaughterAt ds m d × StandsAt d p u
stands_back (at_daughter (below_phrase {n = m} {d = d} x) s) = (m, d, refl, x, s)

pub stands_goes : GoesDown StandsAt
stands_goes = record { into = λ rule n ds d u p x s. at_daughter (below_phrase x) s; out_of = λ rule n ds u p s. stands_back s }

leaf_back : {rule n : ℕ} {ds : Daughters} {u : Derivation} {p : Place} → IsLeafAt (phrase rule ds) (n ∷ p) u → (m : ℕ) × (d : Derivation) × (n ≡ suc m) × IsDaughterAt ds m d × IsLeafAt d p u
leaf_back (leaf_below {n = m} {d = d} x s) = (m, d, refl, x, s)

pub leaf_goes : GoesDown IsLeafAt
leaf_goes = record { into = λ rule n ds d u p x s. leaf_below x s; out_of = λ rule n ds u p s. leaf_back s }

module _ {O : Type 0} (open_of : O → Open) where
  pub next_low : (o : O) (d : Derivation) → IsNext open_of o d → (open_of o).passed < length (open_of o).daughters
  next_low o d n = slice_get_within (open_of o).daughters (open_of o).passed d n

  -- one phrase more, one fewer, and one that is the same phrase
  pub down : (whole : Derivation) (os : List O) (last new : O) → IsBelow open_of whole os last → IsNext open_of last (tree_of open_of new) → IsBelow open_of whole (os ++ last ∷ []) new
  down whole [] last new h n = (tree_of open_of new, h, n, refl)
  down whole (o ∷ os) last new h n = (h.0, h.1, h.2, down h.0 os last new h.3 n)

  pub up : (whole : Derivation) (os : List O) (o last : O) → IsBelow open_of whole (os ++ o ∷ []) last → IsBelow open_of whole os o × IsNext open_of o (tree_of open_of last)
  up whole [] o last h = (h.1, subst (IsNext open_of o) h.3 h.2)
  up whole (x ∷ os) o last h = let rest = up h.0 os o last h.3 in ((h.0, h.1, h.2, rest.0), rest.1)

  pub along : (whole : Derivation) (os : List O) (a b : O) → IsBelow open_of whole os a → tree_of open_of a ≡ tree_of open_of b → IsBelow open_of whole os b
  along whole [] a b h is = h ∙ is
  along whole (o ∷ os) a b h is = (h.0, h.1, h.2, along h.0 os a b h.3 is)

  module _ (At : Derivation → Place → Derivation → Type 0) (goes : GoesDown At) where
    -- in the next daughter of a phrase stands what stands in the phrase
    pub stands_daughter : (o : O) (d u : Derivation) (p : Place) → IsNext open_of o d → At d p u → At (tree_of open_of o) (next_number open_of o ∷ p) u
    stands_daughter o d u p n s =
        let e : suc (open_of o).passed ≡ next_number open_of o = omega arith in
        subst (λ k. At (tree_of open_of o) (k ∷ p) u) e (goes.into (open_of o).rule (open_of o).passed (in_order (open_of o).daughters) d u p (get_daughter (open_of o).daughters (open_of o).passed d n) s)

    -- what stands in the last phrase stands in the whole tree
    pub stands_below : (whole : Derivation) (os : List O) (last : O) (p : Place) (u : Derivation) → IsBelow open_of whole os last → At (tree_of open_of last) p u → At whole (place_below open_of os ++ p) u
    stands_below whole [] last p u h s = subst (λ t. At t p u) (sym h) s
    stands_below whole (o ∷ os) last p u h s =
        subst (λ t. At t (place_below open_of (o ∷ os) ++ p) u) (sym h.1) (stands_daughter o h.0 u (place_below open_of os ++ p) h.2 (stands_below h.0 os last p u h.3 s))

    -- what stands in its next daughter, too
    pub stands_next : (whole : Derivation) (os : List O) (last : O) (d : Derivation) (p : Place) (u : Derivation) → IsBelow open_of whole os last → IsNext open_of last d → At d p u → At whole (place_below open_of os ++ next_number open_of last ∷ p) u
    stands_next whole os last d p u h n s = stands_below whole os last (next_number open_of last ∷ p) u h (stands_daughter last d u p n s)

    -- Of what this holds in the daughters that were passed, it holds of all that comes before a place in the last phrase, but for what stands in that phrase.
    module _ (P : Derivation → Type 0) where
      abbrev Within : Derivation → Place → Derivation → Type 0
      Within t inner u = (q : Place) × At t q u × ComesBefore q inner

      at_number : (o : O) (d : Derivation) (inner : Place) {q : Place} (u : Derivation) {m : ℕ} → m ≡ next_number open_of o → HoldsPassed open_of At P o → IsNext open_of o d → At (tree_of open_of o) q u → ComesBefore q (m ∷ inner) → P u ⊎ Within d inner u
      at_number o d inner u e holds n s (before_right {n = k} {p = p} low) =
          let z = goes.out_of (open_of o).rule k (in_order (open_of o).daughters) u p s in
          let number = z.2 in
          inl (holds z.0 z.1 p u (omega (arith, low, e, number)) (daughter_get (open_of o).daughters z.3) z.4)
      at_number o d inner u {m = m} e holds n s (before_within {p = p} c) =
          let z = goes.out_of (open_of o).rule m (in_order (open_of o).daughters) u p s in
          let number = z.2 in
          let at = daughter_get (open_of o).daughters z.3 in
          let here : z.0 ≡ (open_of o).passed = omega (arith, e, number) in
          let there = subst (λ k. slice_get (open_of o).daughters k ≡ Some z.1) here at in
          let same : z.1 ≡ d = cc in
          inr (p, subst (λ t. At t p u) same z.4, c)

      -- one phrase
      pub before_in : (o : O) (d : Derivation) (inner q : Place) (u : Derivation) → HoldsPassed open_of At P o → IsNext open_of o d → At (tree_of open_of o) q u → ComesBefore q (next_number open_of o ∷ inner) → P u ⊎ Within d inner u
      before_in o d inner q u holds n s c = at_number o d inner u refl holds n s c

      -- a place in the last phrase
      pub before_below : (whole : Derivation) (os : List O) (last : O) (inner q : Place) (u : Derivation) → IsBelow open_of whole os last → All (HoldsPassed open_of At P) os → At whole q u → ComesBefore q (place_below open_of os ++ inner)
          → P u ⊎ Within (tree_of open_of last) inner u
      before_below whole [] last inner q u h all s c = inr (q, subst (λ t. At t q u) h s, c)
      before_below whole (o ∷ os) last inner q u h all s c =
          go (before_in o h.0 (place_below open_of os ++ inner) q u (All-head (HoldsPassed open_of At P) o os all) h.2 (subst (λ t. At t q u) h.1 s) c)
          (λ r a b. before_below h.0 os last inner r u h.3 (All-tail (HoldsPassed open_of At P) o os all) a b)
        where
          go : P u ⊎ Within h.0 (place_below open_of os ++ inner) u → ((r : Place) → At h.0 r u → ComesBefore r (place_below open_of os ++ inner) → P u ⊎ Within (tree_of open_of last) inner u) → P u ⊎ Within (tree_of open_of last) inner u
          go (inl x) more = inl x
          go (inr z) more = more z.0 z.1 z.2

      -- a place in its next daughter
      pub before_next : (whole : Derivation) (os : List O) (last : O) (d : Derivation) (inner q : Place) (u : Derivation) → IsBelow open_of whole os last → All (HoldsPassed open_of At P) os → HoldsPassed open_of At P last →
          IsNext open_of last d → At whole q u → ComesBefore q (place_below open_of os ++ next_number open_of last ∷ inner) → P u ⊎ Within d inner u
      before_next whole os last d inner q u h all holds n s c = go (before_below whole os last (next_number open_of last ∷ inner) q u h all s c)
        where
          go : P u ⊎ Within (tree_of open_of last) (next_number open_of last ∷ inner) u → P u ⊎ Within d inner u
          go (inl x) = inl x
          go (inr z) = before_in last d inner z.0 u holds n z.1 z.2

  -- how far the walk still goes
  rest_next : (o : O) (d : Derivation) → IsNext open_of o d → left_in open_of o ≡ weight d + left_above open_of o
  rest_next o d n =
      let ds = (open_of o).daughters in
      let k = (open_of o).passed in
      let cut = drop_more ds k d (slice_get_within ds k d n) in
      let is = get_or_from_slice_get ds k d d n in
      let whole : rest_of open_of k o ≡ weight d + rest_of open_of (k + 1) o = ap (λ xs. weights (in_order xs)) cut ∙ ap (λ x. weight x + rest_of open_of (k + 1) o) is in
      omega (arith, whole)

  pub down_less : (os : List O) (o new : O) → IsNext open_of o (tree_of open_of new) → (open_of new).passed ≡ 0 → left_of open_of (os ++ o ∷ []) new < left_of open_of os o
  down_less os o new n none =
      let more = sum_by_push (left_above open_of) os o in
      let here = rest_next o (tree_of open_of new) n in
      let inner : rest_of open_of (open_of new).passed new ≡ weights (in_order (open_of new).daughters) = ap (λ k. rest_of open_of k new) none in
      omega (arith, more, here, inner)

  rest_same : (a b : O) → (open_of a).daughters ≡ (open_of b).daughters → (k j : ℕ) → k ≡ j → rest_of open_of k a ≡ rest_of open_of j b
  rest_same a b d k j e = ap (λ i. rest_of open_of i a) e ∙ ap (λ ds. weights (in_order (drop j ds))) d

  pub past_less : (os : List O) (o new : O) (d : Derivation) → IsNext open_of o d → (open_of new).daughters ≡ (open_of o).daughters → (open_of new).passed ≡ next_number open_of o → left_of open_of os new < left_of open_of os o
  past_less os o new d n same passed =
      let here = rest_next o d n in
      let some = some_weight d in
      let on = rest_same new o same (open_of new).passed (next_number open_of o) passed in
      omega (arith, here, some, on)
    where
      some_weight : (d : Derivation) → 0 < weight d
      some_weight (lexical entry rules words nodes) = omega arith
      some_weight (phrase rule ds) = omega arith

  pub up_less : (os : List O) (above o new : O) → (open_of new).daughters ≡ (open_of above).daughters → (open_of new).passed ≡ next_number open_of above → left_of open_of os new < left_of open_of (os ++ above ∷ []) o
  up_less os above o new same passed =
      let more = sum_by_push (left_above open_of) os above in
      let on = rest_same new above same (open_of new).passed (next_number open_of above) passed in
      omega (arith, more, on)

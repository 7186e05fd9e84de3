-- The types that a name stands for.
use Rattle.std.specs.Prelude.{ℕ, ◌≡◌, ◌<◌, ◌≤◌, ◌⊎◌, ◌==◌, not, nat_lt, Bool, true, false, List, [], ◌∷◌, length, map, slice_index_or}
use Rattle.std.proofs.Common.{refl, sym, ◌∙◌, ap, subst, arith, zero, suc, inl, inr, eq-eqb}
use Rattle.std.specs.List.{Any}
use Rattle.std.specs.Char.{to_ascii_lowercase}
use Rattle.std.proofs.lemmas.Bool.{cases_lt, ltb-true, lt-ltb}
use Rattle.type_hierarchy.specs.Table.{TypeTable, count_of, completed_count}
use Rattle.mrs_extract.specs.Extraction.{Normal, is_string, type_name}
use Rattle.relation_fit.specs.declared.seeking.Named.{Named}
use Rattle.relation_fit.specs.Sought.{IsPredicate, IsText, IsValue, AreNamed}
use Rattle.relation_fit.proofs.Beginnings.{normal_none}

past : (xs : List (List ℕ)) (k : ℕ) → length xs ≤ k → slice_index_or xs k [] ≡ []
past [] k h = refl
past (x ∷ xs) zero h = absurd (omega (arith, h))
past (x ∷ xs) (suc k) h = past xs k (omega (arith, h))

empty_test : (text : List ℕ) → text ≡ [] → (length text == 0) ≡ true
empty_test text e = eq-eqb (length text) 0 (ap length e)

not_less : (t n : ℕ) → not (nat_lt t n) ≡ true → n ≤ t
not_less t n e = by_case (cases_lt t n)
  where
    by_case : (t < n) ⊎ (n ≤ t) → n ≤ t
    by_case (inl lt) = absurd (let z : false ≡ true = sym (ap not (lt-ltb t n lt)) ∙ e in cc)
    by_case (inr le) = le

is_less : (t n : ℕ) → not (nat_lt t n) ≡ false → t < n
is_less t n e = by_test (nat_lt t n) refl
  where
    by_test : (b : Bool) → nat_lt t n ≡ b → t < n
    by_test true q = ltb-true t n q
    by_test false q = absurd (let z : true ≡ false = sym (ap not q) ∙ e in cc)

module _ (types : TypeTable) (named : Named) where
  -- a number that no type has has no name
  nameless : (t : ℕ) → count_of types ≤ t → type_name types t ≡ []
  nameless t le = past types.names t le

  pub named_pred : (pred : List ℕ) → ((t : ℕ) → t < count_of types → IsPredicate types pred t → Any (λ u. u.0 ≡ t) named.types.items) → named.any ≡ (length pred == 0) → AreNamed types (IsPredicate types pred) named
  named_pred pred f e t h = by_case (cases_lt t (count_of types))
    where
      by_case : (t < count_of types) ⊎ (count_of types ≤ t) → (named.any ≡ true) ⊎ ((t < count_of types) × Any (λ u. u.0 ≡ t) named.types.items)
      by_case (inl lt) = inr (lt, f t lt h)
      by_case (inr le) = inl (e ∙ empty_test pred (normal_none (map to_ascii_lowercase (type_name types t)) pred h (ap (map to_ascii_lowercase) (nameless t le))))

  pub named_text : (text : List ℕ) → ((t : ℕ) → completed_count types ≤ t → t < count_of types → type_name types t ≡ text → Any (λ u. u.0 ≡ t) named.types.items) → named.any ≡ (length text == 0) → AreNamed types (IsText types text) named
  named_text text f e t h = by_case (cases_lt t (count_of types))
    where
      by_case : (t < count_of types) ⊎ (count_of types ≤ t) → (named.any ≡ true) ⊎ ((t < count_of types) × Any (λ u. u.0 ≡ t) named.types.items)
      by_case (inl lt) = inr (lt, f t (not_less t (completed_count types) h.0) lt h.1)
      by_case (inr le) = inl (e ∙ empty_test text (sym h.1 ∙ nameless t le))

  pub named_value : (value : List ℕ) → completed_count types ≤ count_of types → ((t : ℕ) → 0 ≤ t → t < completed_count types → type_name types t ≡ value → Any (λ u. u.0 ≡ t) named.types.items) → AreNamed types (IsValue types value) named
  named_value value few f t h =
      let lt = is_less t (completed_count types) h.0 in
      inr (omega (arith, lt, few), f t (omega arith) lt h.1)

-- Each node stands once among the variables.
use Rattle.std.proofs.Common.{ℕ, zero, suc, ◌≡◌, ◌⊎◌, inl, inr, ◌++◌, Bool, true, false, cond, Some, List, [], ◌∷◌, length, refl, sym, ap, subst, ◌∙◌, eq-eqb}
use Rattle.std.specs.Prelude.{slice_get, ◌==◌, ◌||◌}
use Rattle.std.specs.List.{list_any}
use Rattle.fs_graph.specs.GraphMap.{GraphMap}
use Rattle.type_hierarchy.specs.Table.{TypeTable}
use Rattle.mrs_places.specs.Paths.{Paths}
use Rattle.mrs_places.specs.Looking.{Parts}
use Rattle.mrs_extract.specs.Extraction.{noted, all_noted, mentions, variable_nodes}

abbrev pub Once : List ℕ → Type 0
Once nodes = (i j n : ℕ) → slice_get nodes i ≡ Some n → slice_get nodes j ≡ Some n → i ≡ j

-- a node that is added at the end, where it isn't there yet
is_last : (nodes : List ℕ) (n i m : ℕ) → slice_get (nodes ++ n ∷ []) i ≡ Some m → (slice_get nodes i ≡ Some m) ⊎ ((i ≡ length nodes) × (m ≡ n))
is_last [] n zero m e = inr (refl, (let z = e in cc))
is_last [] n (suc i) m e = absurd (let z = e in cc)
is_last (k ∷ nodes) n zero m e = inl e
is_last (k ∷ nodes) n (suc i) m e = elim (is_last nodes n i m e) [ inl x ↦ inl x | inr x ↦ inr (ap suc x.0, x.1) ]

not_there : (nodes : List ℕ) (n i : ℕ) → list_any (λ m. m == n) nodes ≡ false → slice_get nodes i ≡ Some n → ⊥
not_there [] n i none e = let z = e in absurd cc
not_there (k ∷ nodes) n zero none e = let z : k ≡ n = cc in let r : (k == n) ≡ true = rw z (eq-eqb n n refl) in absurd (by_first (k == n) (list_any (λ m. m == n) nodes) r none)
  where
    by_first : (a b : Bool) → a ≡ true → (a || b) ≡ false → ⊥
    by_first true b e f = let z : true ≡ false = f in absurd cc
    by_first false b e f = let z : false ≡ true = e in absurd cc
not_there (k ∷ nodes) n (suc i) none e = by_first (k == n) (list_any (λ m. m == n) nodes) none (λ f. not_there nodes n i f e)
  where
    by_first : (a b : Bool) → (a || b) ≡ false → (b ≡ false → ⊥) → ⊥
    by_first true b f go = let z : true ≡ false = f in absurd cc
    by_first false b f go = go f

noted_once : (nodes : List ℕ) (n : ℕ) → Once nodes → Once (noted nodes n)
noted_once nodes n once = by_test (list_any (λ m. m == n) nodes) refl
  where
    added : list_any (λ m. m == n) nodes ≡ false → Once (nodes ++ n ∷ [])
    added none i j m e f = elim (is_last nodes n i m e) [
      | inl x ↦ elim (is_last nodes n j m f) [
        | inl y ↦ once i j m x y
        | inr y ↦ absurd (not_there nodes n i none (subst (λ z. slice_get nodes i ≡ Some z) y.1 x))
      ]
      | inr x ↦ elim (is_last nodes n j m f) [
        | inl y ↦ absurd (not_there nodes n j none (subst (λ z. slice_get nodes j ≡ Some z) x.1 y))
        | inr y ↦ x.0 ∙ sym y.0
      ]
    ]

    by_test : (b : Bool) → list_any (λ m. m == n) nodes ≡ b → Once (cond b nodes (nodes ++ n ∷ []))
    by_test true e = once
    by_test false e = added e

all_once : (nodes ns : List ℕ) → Once nodes → Once (all_noted nodes ns)
all_once nodes [] once = once
all_once nodes (n ∷ ns) once = all_once (noted nodes n) ns (noted_once nodes n once)

pub variables_once : (g : GraphMap) (types : TypeTable) (p : Paths) (parts : Parts) → Once (variable_nodes g types p parts)
variables_once g types p parts = all_once [] (mentions g types p parts) (λ i j n e f. let z = e in absurd cc)

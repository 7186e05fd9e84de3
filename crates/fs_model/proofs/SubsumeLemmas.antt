-- Subsumption by a map of nodes; heights and cycles.
use Rattle.std.proofs.Common.{ℕ, zero, suc, ◌≡◌, ◌≤◌, ◌<◌, ◌+◌, ◌*◌, true, Option, Some, None, [], ◌∷◌, ◌++◌, length, refl, sym, ◌∙◌, ap, subst, arith, length-append}
use Rattle.fs_model.specs.Claims.{Path, System}
use Rattle.fs_model.specs.Table.{Table, IsTable, walk}
use Rattle.fs_model.specs.Sources.{Subsumes}
use Rattle.fs_model.specs.Numbering.{seen, HasHeights, IsMatching}
use Rattle.fs_model.proofs.TableLemmas.{walk-append, walk-step, walk_ends}

-- a map of nodes takes walks to walks
pub walk-matching : (s : System) (t u : Table) → IsTable t → ((n : ℕ) → t.live n ≡ n) → ((n : ℕ) → u.live n ≡ n) → (to : ℕ → ℕ) →
    IsMatching s t u to → (n k : ℕ) (p : Path) → n < t.size → walk t n p ≡ Some k → walk u (to n) p ≡ Some (to k)
walk-matching s t u ok lt lu to m n k [] h e = let i : n ≡ k = (let j = lt n in cc) in ap Some (lu (to n) ∙ ap to i)
walk-matching s t u ok lt lu to m n k (f ∷ p) h e = go (t.arc n f) refl (λ i. walk-matching s t u ok lt lu to m i k p)
  where
    at_n : walk t n (f ∷ p) ≡ elim (t.arc n f) as (λ _. Option ℕ) [ None ↦ None | Some i ↦ walk t i p ]
    at_n = ap (λ x. elim (t.arc x f) as (λ _. Option ℕ) [ None ↦ None | Some i ↦ walk t i p ]) (lt n)

    go : (o : Option ℕ) → t.arc n f ≡ o → ((i : ℕ) → i < t.size → walk t i p ≡ Some k → walk u (to i) p ≡ Some (to k)) →
        walk u (to n) (f ∷ p) ≡ Some (to k)
    go None is rest =
        let stops : walk t n (f ∷ p) ≡ None = at_n ∙ ap (λ o. elim o as (λ _. Option ℕ) [ None ↦ None | Some i ↦ walk t i p ]) is in
        absurd cc
    go (Some i) is rest =
        let on : walk t i p ≡ Some k =
        sym (at_n ∙ ap (λ o. elim o as (λ _. Option ℕ) [ None ↦ None | Some i ↦ walk t i p ]) is) ∙ e in
        walk-step u (to n) (to i) f p (ap (λ x. u.arc x f) (lu (to n)) ∙ m.arcs n f i h is) ∙ rest i (ok.arc_in n f i h is) on

pub Subsumes-from_matching : (s : System) (t u : Table) → IsTable t → 0 < t.size → ((n : ℕ) → t.live n ≡ n) → ((n : ℕ) → u.live n ≡ n) →
    (to : ℕ → ℕ) → IsMatching s t u to → Subsumes s (seen t) (seen u)
Subsumes-from_matching s t u ok z lt lu to m = record {
  paths = λ p n e. (to n, lands p n e);
  equalities = λ p q n k e d c. let a = lands p n e in let b = lands q n d in cc;
  types = λ p n k e c.
      let a : Some k ≡ Some (to n) = sym c ∙ lands p n e in
      let i : to n ≡ k = cc in
      subst (λ x. s.is_below (u.type_of x) (t.type_of n) ≡ true) i (m.types n (walk_ends t ok 0 n p z e).0);
}
  where
    lands : (p : Path) (n : ℕ) → walk t 0 p ≡ Some n → walk u 0 p ≡ Some (to n)
    lands p n e = subst (λ x. walk u x p ≡ Some (to n)) m.root (walk-matching s t u ok lt lu to m 0 n p z e)

-- along heights no walk is longer than the height
pub walk-height : (t : Table) → IsTable t → (height : ℕ → ℕ) → HasHeights t height → (n k : ℕ) (p : Path) → n < t.size →
    walk t n p ≡ Some k → length p + height k ≤ height (t.live n)
walk-height t ok height falls n k [] h e = let i : t.live n ≡ k = cc in omega (arith, ap height i)
walk-height t ok height falls n k (f ∷ p) h e = go (t.arc (t.live n) f) refl (λ m. walk-height t ok height falls m k p)
  where
    go : (o : Option ℕ) → t.arc (t.live n) f ≡ o → ((m : ℕ) → m < t.size → walk t m p ≡ Some k → length p + height k ≤ height (t.live m)) →
        suc (length p) + height k ≤ height (t.live n)
    go None is rest =
        let stops : None ≡ walk t n (f ∷ p) = ap (λ o. elim o as (λ _. Option ℕ) [ None ↦ None | Some i ↦ walk t i p ]) (sym is) in
        absurd (let a : None ≡ Some k = stops ∙ e in cc)
    go (Some m) is rest =
        let in_t = ok.arc_in (t.live n) f m (ok.live_in n h) is in
        omega (
          arith,
          rest m in_t (sym (walk-step t n m f p is) ∙ e),
          falls.falls (t.live n) f m (ok.live_in n h) (ok.live_twice n) is,
        )

-- a cycle gives walks of every length
abbrev pub repeated : ℕ → Path → Path
repeated zero p = []
repeated (suc k) p = p ++ repeated k p

pub walk-cycle : (t : Table) → IsTable t → (n : ℕ) (p : Path) → t.live n ≡ n → walk t n p ≡ Some n → (k : ℕ) →
    (walk t n (repeated k p) ≡ Some n) × (k * length p ≤ length (repeated k p))
walk-cycle t ok n p l e zero = (ap Some l, omega arith)
walk-cycle t ok n p l e (suc k) =
    let r = walk-cycle t ok n p l e k in
    (walk-append t ok n n p (repeated k p) e ∙ r.0, omega (arith, r.1, length-append p (repeated k p)))

-- Lists that grow by one element, at their end, or at the front of what they are backwards.
use Rattle.std.proofs.Common.{ℕ, ◌≡◌, ◌<◌, ◌≤◌, ◌+◌, ◌∙◌, List, [], ◌∷◌, ◌++◌, append_assoc, length, get_or, take, refl, sym, subst, ap, arith}
use Rattle.std.specs.Prelude.{All, map, reverse}
use Rattle.std.proofs.lemmas.List.{length-map, get_or-map, map_more, map_push, take_at, take-take, get_or_push, get_or-take, length_push, reverse-append}

module _ {R A X : Type 0} (g : R → A) (h : A → X) where
  -- one more element of a list is added to the end
  pub grown_more : (base done : List X) (rs : List R) (i : ℕ) (r : R) (x : X) → i < length rs → r ≡ get_or rs i r → done ≡ base ++ map h (map g (take i rs)) → x ≡ h (g r) → done ++ x ∷ [] ≡ base ++ map h (map g (take (i + 1) rs))
  grown_more base done rs i r x l is e made =
      let next : map h (map g (take (i + 1) rs)) ≡ map h (map g (take i rs)) ++ h (g r) ∷ [] =
      ap (map h) (map_more g rs i r l ∙ ap (λ (y : R). map g (take i rs) ++ g y ∷ []) (sym is)) ∙ map_push h (map g (take i rs)) (g r) in
      ap (λ (zs : List X). zs ++ x ∷ []) e
      ∙ (append_assoc base (map h (map g (take i rs))) (x ∷ [])
      ∙ (ap (λ (z : X). base ++ (map h (map g (take i rs)) ++ z ∷ [])) made ∙ ap (λ (zs : List X). base ++ zs) (sym next)))

-- backwards it is the first
pub front_more : {R X : Type 0} (g : R → X) (bs : List R) (y : R) → map g (reverse (bs ++ y ∷ [])) ≡ g y ∷ map g (reverse bs)
front_more g bs y = ap (map g) (reverse-append bs (y ∷ []))

-- what is popped of a front of a list
module _ {R : Type 0} where
  pub popped : (es old new : List R) (x : R) → old ≡ take (length old) es → length old ≤ length es → old ≡ new ++ x ∷ []
      → (length new + 1 ≡ length old) × (length new < length es) × (new ≡ take (length new) es) × (x ≡ get_or es (length new) x)
  popped es old new x front few e =
      let n : length old ≡ length new + 1 = ap length e ∙ length_push new x in
      let a : new ≡ take (length new) old = sym (ap (take (length new)) e ∙ take_at new (x ∷ []) (length new) refl) in
      let b : take (length new) old ≡ take (length new) es = ap (take (length new)) front ∙ take-take (length new) (length old) es (omega (arith, n)) in
      let c : x ≡ get_or old (length new) x = sym (ap (λ (zs : List R). get_or zs (length new) x) e ∙ get_or_push new x x (length new) refl) in
      let d : get_or old (length new) x ≡ get_or es (length new) x = ap (λ (zs : List R). get_or zs (length new) x) front ∙ get_or-take (length old) es (length new) x (omega (arith, n)) in
      (sym n, omega (arith, n, few), a ∙ b, c ∙ d)

-- what holds of all images holds of the one at hand
pub holds_at : {R X : Type 0} (g : R → X) (P : X → Type 0) (rs : List R) (i : ℕ) (r : R) → i < length rs → r ≡ get_or rs i r → All P (map g rs) → P (g r)
holds_at g P rs i r l is a =
    let n : length (map g rs) ≡ length rs = length-map rs g in
    subst P (get_or-map g rs i r (g r) l ∙ ap g (sym is)) (a i (g r) (omega (arith, n, l)))

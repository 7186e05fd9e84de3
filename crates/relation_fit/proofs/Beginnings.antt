-- Names and the predicates that they are.
use Rattle.std.specs.Prelude.{ℕ, ◌≡◌, ◌≢◌, ◌+◌, ◌<◌, ◌≤◌, List, [], ◌∷◌, ◌++◌, length, map, codes, slice_index_or}
use Rattle.std.proofs.Common.{refl, sym, ◌∙◌, ap, subst, arith, zero, suc, append_assoc, append-nil, length-append, get_or}
use Rattle.std.specs.Char.{to_ascii_lowercase}
use Rattle.std.proofs.lemmas.List.{length-map, get_or_append_left}
use Rattle.mrs_extract.specs.Extraction.{Normal, bare, rel}

-- a normal form is the front of what it is made of
record Front (text out : List ℕ) : Type 0 where
  more : List ℕ
  is : text ≡ out ++ more

front : (text out : List ℕ) → Normal text out → Front text out
front _ _ (bare text h) = record { more = []; is = sym (append-nil text) }
front _ _ (rel text out h) = let f = front text out h in record { more = f.more ++ codes "_rel"; is = ap (λ t. t ++ codes "_rel") f.is ∙ append_assoc out f.more (codes "_rel") }

get_mapped : (f : ℕ → ℕ) (xs : List ℕ) (k d e : ℕ) → k < length xs → get_or (map f xs) k e ≡ f (get_or xs k d)
get_mapped f [] k d e lt = absurd (omega (arith, lt))
get_mapped f (x ∷ xs) zero d e lt = refl
get_mapped f (x ∷ xs) (suc k) d e lt = get_mapped f xs k d e (omega (arith, lt))

-- so a name that is shorter has another
pub shorter : (name pred : List ℕ) → length name < length pred → Normal (map to_ascii_lowercase name) pred → ⊥
shorter name pred lt h =
    let f = front (map to_ascii_lowercase name) pred h in
    let a : length (map to_ascii_lowercase name) ≡ length pred + length f.more = ap length f.is ∙ length-append pred f.more in
    let b = length-map name to_ascii_lowercase in
    omega (arith, a, b, lt)

-- and one that differs at a place
pub differs : (name pred : List ℕ) (k d e : ℕ) → k < length name → k < length pred → to_ascii_lowercase (get_or name k d) ≢ get_or pred k e → Normal (map to_ascii_lowercase name) pred → ⊥
differs name pred k d e ln lp n h =
    let f = front (map to_ascii_lowercase name) pred h in
    n (sym (get_mapped to_ascii_lowercase name k d e ln) ∙ ap (λ t. get_or t k e) f.is ∙ get_or_append_left pred f.more e k lp)

-- nothing has no normal form but nothing
pub normal_none : (text out : List ℕ) → Normal text out → text ≡ [] → out ≡ []
normal_none text out h e =
    let f = front text out h in
    let n : 0 ≡ length out + length f.more = ap length (sym e ∙ f.is) ∙ length-append out f.more in
    empty out (omega (arith, n))
  where
    empty : (xs : List ℕ) → length xs ≡ 0 → xs ≡ []
    empty [] q = refl
    empty (x ∷ xs) q = absurd (omega (arith, q))

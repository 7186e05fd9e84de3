-- Sketches as lists of lines.
use Rattle.std.specs.Prelude.{ℕ, ◌≡◌, ◌<◌, ◌+◌, ◌++◌, Option, Some, Vec, List, [], ◌∷◌, length, map, option_map, slice_get, slice_index_or}
use Rattle.std.specs.Global.{Global}
use Rattle.std.proofs.Common.{refl, sym, ◌∙◌, ap, subst, zero, suc, arith, take, get_or}
use Rattle.type_hierarchy.specs.declared.types.Ty.{Ty}
use Rattle.fs_model.specs.Claims.{Path}
use Rattle.fs_model.specs.Sources.{Reader}
use Rattle.fs_graph.specs.Facts.{path_of}
use Rattle.fs_graph.specs.declared.facts.Feat.{Feat}
use Rattle.sieve.specs.Sketches.{paths_of, type_along, sketch_of}
use Rattle.sieve.specs.Unifying.{HasSketch}
use Rattle.sieve.specs.Inner.{numbers_of, lines_of}

pub same_length : {A B : Type 0} (f : A → B) (xs : List A) → length (map f xs) ≡ length xs
same_length f [] = refl
same_length f (x ∷ xs) = let z = same_length f xs in omega (arith, z)

-- the types of a structure at paths, as lines, are its sketch
pub lines_along : (r : Reader) (ps : List Path) → lines_of ps (map (type_along r) ps) ≡ sketch_of r ps
lines_along r [] = refl
lines_along r (p ∷ ps) = ap (λ ls. record { path = p; ty = type_along r p } ∷ ls) (lines_along r ps)

-- as many lines as paths
pub lines_even : (ps : List Path) (ts : List (Option ℕ)) → length ts ≡ length ps → length (lines_of ps ts) ≡ length ps
lines_even [] ts e = refl
lines_even (p ∷ ps) [] e = absurd (omega (arith, e))
lines_even (p ∷ ps) (t ∷ ts) e = let z = lines_even ps ts (omega (arith, e)) in omega (arith, z)

-- the line of a number
pub line_at : (ps : List Path) (ts : List (Option ℕ)) (k : ℕ) (p : Path) (t : Option ℕ) → slice_get ps k ≡ Some p → slice_get ts k ≡ Some t → slice_get (lines_of ps ts) k ≡ Some (record { path = p; ty = t })
line_at [] ts k p t a b = absurd (cc)
line_at (q ∷ ps) [] k p t a b = absurd (cc)
line_at (q ∷ ps) (u ∷ ts) zero p t a b = let y : q ≡ p = cc in let z : u ≡ t = cc in rw (y, z) refl
line_at (q ∷ ps) (u ∷ ts) (suc k) p t a b = line_at ps ts k p t a b

-- a structure has its own sketch
pub has_own : (r : Reader) (ps : List Path) → HasSketch r (sketch_of r ps)
has_own r [] k x l = absurd (omega (arith, l))
has_own r (p ∷ ps) zero x l = refl
has_own r (p ∷ ps) (suc k) x l = has_own r ps k x (omega (arith, l))

pub map_get : {A B : Type 0} (f : A → B) (xs : List A) (n : ℕ) (x : A) → slice_get xs n ≡ Some x → slice_get (map f xs) n ≡ Some (f x)
map_get f [] n x e = absurd (cc)
map_get f (y ∷ xs) zero x e = let z : y ≡ x = cc in ap (λ w. Some (f w)) z
map_get f (y ∷ xs) (suc n) x e = map_get f xs n x e

pub got : {A : Type 0} (xs : List A) (n : ℕ) (x : A) → n < length xs → x ≡ slice_index_or xs n x → slice_get xs n ≡ Some x
got [] n x l e = absurd (omega (arith, l))
got (y ∷ xs) zero x l e = ap Some (sym e)
got (y ∷ xs) (suc n) x l e = got xs n x (omega (arith, l)) e

take_from : {A : Type 0} (xs : List A) (i : ℕ) (x : A) → i < length xs → x ≡ get_or xs i x → take (suc i) xs ≡ take i xs ++ x ∷ []
take_from [] i x l e = absurd (omega (arith, l))
take_from (y ∷ xs) zero x l e = ap (λ w. w ∷ []) (sym e)
take_from (y ∷ xs) (suc i) x l e = ap (λ ws. y ∷ ws) (take_from xs i x (omega (arith, l)) e)

take_next : {A : Type 0} (xs : List A) (i : ℕ) (x : A) → i < length xs → x ≡ get_or xs i x → take (i + 1) xs ≡ take i xs ++ x ∷ []
take_next xs i x l e = let next : suc i ≡ i + 1 = omega arith in subst (λ n. take n xs ≡ take i xs ++ x ∷ []) next (take_from xs i x l e)

map_snoc : {A B : Type 0} (f : A → B) (xs : List A) (x : A) → map f (xs ++ x ∷ []) ≡ map f xs ++ f x ∷ []
map_snoc f [] x = refl
map_snoc f (y ∷ xs) x = ap (λ ys. f y ∷ ys) (map_snoc f xs x)

-- the type at one path more
pub one_more : (f : Path → Option ℕ) (ps : List (Vec Feat Global)) (i : ℕ) (p : Vec Feat Global) (ts us : List (Option Ty)) (o : Option Ty) → i < length ps → p ≡ get_or ps i p → us ≡ ts ++ o ∷ [] →
    option_map (λ t. t.0) o ≡ f (path_of p.items) → numbers_of ts ≡ map f (paths_of (take i ps)) → numbers_of us ≡ map f (paths_of (take (i + 1) ps))
one_more f ps i p ts us o l e more is h =
    ap numbers_of more ∙ map_snoc (option_map (λ t. t.0)) ts o ∙ ap (λ xs. xs ++ option_map (λ t. t.0) o ∷ []) h ∙ ap (λ x. map f (paths_of (take i ps)) ++ x ∷ []) is
    ∙ sym (ap (λ qs. map f (paths_of qs)) (take_next ps i p l e) ∙ ap (map f) (map_snoc (λ q. path_of q.items) (take i ps) p) ∙ map_snoc f (paths_of (take i ps)) (path_of p.items))

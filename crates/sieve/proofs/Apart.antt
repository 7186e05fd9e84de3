-- Sketches with types without a meet at one path.
use Rattle.std.specs.Prelude.{ℕ, ◌≡◌, ◌<◌, ◌≤◌, ◌+◌, min, ◌&&◌, ◌||◌, Bool, true, false, not, is_some, Option, Some, None, IfSome, List, [], ◌∷◌, All, length, option_map, slice_get}
use Rattle.std.specs.Str.{bytes_eq}
use Rattle.std.proofs.Common.{refl, sym, ◌∙◌, ap, subst, zero, suc, arith, drop}
use Rattle.type_hierarchy.specs.Table.{TypeTable, count_of, meet_of}
use Rattle.type_hierarchy.specs.declared.types.Ty.{Ty}
use Rattle.type_hierarchy.proofs.NameLemmas.{bytes_eq-same}
use Rattle.fs_model.specs.Claims.{Path, below, System, Has, here, there}
use Rattle.fs_model.specs.Closure.{given_claim}
use Rattle.fs_model.specs.Sources.{Reader, Tells, tells_below, Part, told_part}
use Rattle.sieve.specs.Sketches.{TypeAt, AreTypesIn, type_along, types_meet, sketches_meet}
use Rattle.sieve.specs.Unifying.{IsOver, Unify, NoneUnify}

-- two types that have no meet
record Clash (types : TypeTable) (o v : Option ℕ) : Type 0 where
  first : ℕ
  second : ℕ
  first_is : o ≡ Some first
  second_is : v ≡ Some second
  apart : meet_of types first second ≡ None

clash : (types : TypeTable) (o v : Option ℕ) → types_meet types o v ≡ false → Clash types o v
clash types None v h = absurd (cc)
clash types (Some t) None h = absurd (cc)
clash types (Some t) (Some u) h = by_meet (meet_of types t u) refl
  where
    by_meet : (m : Option ℕ) → meet_of types t u ≡ m → Clash types (Some t) (Some u)
    by_meet None e = record { first = t; second = u; first_is = refl; second_is = refl; apart = e }
    by_meet (Some m) e = absurd (let z : is_some (meet_of types t u) ≡ true = rw e refl in cc)

-- a structure tells the type at a path
tells_along : (r : Reader) (p : Path) (t : ℕ) → type_along r p ≡ Some t → Tells r (below p t)
tells_along r p t e = by_node (r.node_at p) refl
  where
    by_node : (o : Option ℕ) → r.node_at p ≡ o → Tells r (below p t)
    by_node None f = absurd (let z : type_along r p ≡ None = ap (option_map r.type_of) f in cc)
    by_node (Some n) f = let z : Some (r.type_of n) ≡ Some t = sym (ap (option_map r.type_of) f) ∙ e in let y : r.type_of n ≡ t = cc in subst (λ u. Tells r (below p u)) y (tells_below p n f)

-- structures with types at one path that have no meet don't unify
pub types_refuse : (types : TypeTable) (s : System) (x y : Reader) (p : Path) → IsOver types s → types_meet types (type_along x p) (type_along y p) ≡ false → Unify s x y → ⊥
types_refuse types s x y p over h ok =
    let c = clash types (type_along x p) (type_along y p) h in
    let left : Part = record { place = []; reader = x } in
    let right : Part = record { place = []; reader = y } in
    let z = ok.typed p c.first c.second (given_claim _ (told_part left (below p c.first) here (tells_along x p c.first c.first_is))) (given_claim _ (told_part right (below p c.second) (there here) (tells_along y p c.second c.second_is))) in
    let w : s.meet c.first c.second ≡ Some z.0 = z.1 in
    let v : s.meet c.first c.second ≡ None = over c.first c.second ∙ c.apart in cc

-- what the test of two lines says
by_bits : (m n : Bool) → (m || not n) ≡ false → (m ≡ false) × (n ≡ true)
by_bits true n h = absurd (cc)
by_bits false true h = (refl, refl)
by_bits false false h = absurd (cc)

-- two sketches have lines of one path whose types have no meet
pub record Apart (types : TypeTable) (ls ms : List TypeAt) : Type 0 where
  pub left : TypeAt
  pub right : TypeAt
  pub in_left : Has left ls
  pub in_right : Has right ms
  pub one_path : bytes_eq left.path right.path ≡ true
  pub types_clash : types_meet types left.ty right.ty ≡ false

by_first : (types : TypeTable) (l m : TypeAt) (ls ms : List TypeAt) (b : Bool) → (types_meet types l.ty m.ty || not (bytes_eq l.path m.path)) ≡ b → sketches_meet types (l ∷ ls) (m ∷ ms) ≡ false →
    (sketches_meet types ls ms ≡ false → Apart types ls ms) → Apart types (l ∷ ls) (m ∷ ms)
by_first types l m ls ms false e h go = let z = by_bits (types_meet types l.ty m.ty) (bytes_eq l.path m.path) e in record { left = l; right = m; in_left = here; in_right = here; one_path = z.1; types_clash = z.0 }
by_first types l m ls ms true e h go =
    let y : sketches_meet types (l ∷ ls) (m ∷ ms) ≡ sketches_meet types ls ms = rw e refl in
    let r = go (sym y ∙ h) in
    record { left = r.left; right = r.right; in_left = there r.in_left; in_right = there r.in_right; one_path = r.one_path; types_clash = r.types_clash }

pub apart : (types : TypeTable) (ls ms : List TypeAt) → sketches_meet types ls ms ≡ false → Apart types ls ms
apart types [] ms h = absurd (cc)
apart types (l ∷ ls) [] h = absurd (cc)
apart types (l ∷ ls) (m ∷ ms) h = by_first types l m ls ms (types_meet types l.ty m.ty || not (bytes_eq l.path m.path)) refl h (apart types ls ms)

has_all : {A : Type 0} (P : A → Type 0) (xs : List A) (x : A) → Has x xs → All P xs → P x
has_all P [] x k h = elim k [ ]
has_all P (x ∷ xs) _ here h = h 0 x (omega arith)
has_all P (y ∷ xs) x (there k) h = has_all P xs x k (λ i e l. h (suc i) e (omega (arith, l)))

pub none_unify : (types : TypeTable) (ls ms : List TypeAt) → sketches_meet types ls ms ≡ false → NoneUnify types ls ms
none_unify types ls ms h s x y over hx hy ok =
    let r = apart types ls ms h in
    let a = has_all (λ (l : TypeAt). type_along x l.path ≡ l.ty) ls r.left r.in_left hx in
    let b = has_all (λ (l : TypeAt). type_along y l.path ≡ l.ty) ms r.right r.in_right hy in
    let p = bytes_eq-same r.left.path r.right.path r.one_path in
    types_refuse types s x y r.right.path over (rw (sym (ap (type_along x) p) ∙ a, b) r.types_clash) ok

-- after the last line of the shorter one nothing is left to compare
pub ended : (types : TypeTable) (ls ms : List TypeAt) (k : ℕ) → min (length ls) (length ms) ≤ k → sketches_meet types (drop k ls) (drop k ms) ≡ true
ended types [] ms zero e = refl
ended types [] ms (suc k) e = refl
ended types (l ∷ ls) [] zero e = refl
ended types (l ∷ ls) [] (suc k) e = none_left types (drop k ls)
  where
    none_left : (types : TypeTable) (ns : List TypeAt) → sketches_meet types ns [] ≡ true
    none_left types [] = refl
    none_left types (n ∷ ns) = refl
ended types (l ∷ ls) (m ∷ ms) zero e = absurd (omega (arith, e))
ended types (l ∷ ls) (m ∷ ms) (suc k) e = ended types ls ms k (omega (arith, e))

-- what is left to compare, by its first lines
step_from : (types : TypeTable) (ls ms : List TypeAt) (k : ℕ) (l m : TypeAt) → slice_get ls k ≡ Some l → slice_get ms k ≡ Some m →
    sketches_meet types (drop k ls) (drop k ms) ≡ ((types_meet types l.ty m.ty || not (bytes_eq l.path m.path)) && sketches_meet types (drop (suc k) ls) (drop (suc k) ms))
step_from types [] ms k l m e f = absurd (cc)
step_from types (x ∷ ls) [] k l m e f = absurd (cc)
step_from types (x ∷ ls) (y ∷ ms) zero l m e f = let u : x ≡ l = cc in let v : y ≡ m = cc in rw (sym u, sym v) refl
step_from types (x ∷ ls) (y ∷ ms) (suc k) l m e f = step_from types ls ms k l m e f

pub step : (types : TypeTable) (ls ms : List TypeAt) (k : ℕ) (l m : TypeAt) → slice_get ls k ≡ Some l → slice_get ms k ≡ Some m →
    sketches_meet types (drop k ls) (drop k ms) ≡ ((types_meet types l.ty m.ty || not (bytes_eq l.path m.path)) && sketches_meet types (drop (k + 1) ls) (drop (k + 1) ms))
step types ls ms k l m e f =
    let next : suc k ≡ k + 1 = omega arith in
    subst (λ n. sketches_meet types (drop k ls) (drop k ms) ≡ ((types_meet types l.ty m.ty || not (bytes_eq l.path m.path)) && sketches_meet types (drop n ls) (drop n ms))) next (step_from types ls ms k l m e f)

-- the types of a line of a sketch are in range
pub line_in : (types : TypeTable) (ls : List TypeAt) (k : ℕ) (l : TypeAt) → slice_get ls k ≡ Some l → AreTypesIn types ls → IfSome l.ty (λ t. t < count_of types)
line_in types [] k l e h = absurd (cc)
line_in types (m ∷ ls) zero l e h = let z : m ≡ l = cc in subst (λ (x : TypeAt). IfSome x.ty (λ t. t < count_of types)) z (h 0 m (omega arith))
line_in types (m ∷ ls) (suc k) l e h = line_in types ls k l e (λ i d q. h (suc i) d (omega (arith, q)))

-- types in code are in range where their numbers are
pub in_code : (types : TypeTable) (o : Option Ty) → IfSome (option_map (λ t. t.0) o) (λ t. t < count_of types) → IfSome o (λ t. t.0 < count_of types)
in_code types None h = tt
in_code types (Some t) h = h

-- The search for the places of elements: fronts of places, pairs, and one more place.
use Rattle.std.proofs.Common.{◌≡◌, ℕ, zero, suc, ◌+◌, ◌<◌, ◌≤◌, ◌⊎◌, inl, inr, ◌∙◌, List, [], ◌∷◌, ◌++◌, length, length-append, take, get_or, refl, ap, sym, subst, arith, Some, None, Option, Bool}
use Rattle.std.specs.Prelude.{⊤, MatchOption, Contains, slice_index}
use Rattle.std.specs.List.{slice_get, Any}
use Rattle.std.proofs.lemmas.Option.{slice_get_within, slice_get-get_or}
use Rattle.std.proofs.lemmas.List.{length-take, get_or-take, get_or_append_left, get_or_push, ext_get_or}
use Rattle.std.proofs.lemmas.List.Elements.{All-contains, Contains-get_or}
use Rattle.mrs_model.specs.Meanings.{Predication}
use Rattle.mrs_model.specs.Renaming.{IsOneToOne}
use Rattle.transfer_model.specs.Rules.{Element, StandsAt}
use Rattle.transfer_model.specs.Sites.{Fits, Before, Site}
use Rattle.mrs_transfer.specs.declared.bound.Pair.{Pair}
use Rattle.mrs_transfer.specs.Inner.Matching.{Task, MayHave, AreOfLetters, Agree, IsBound, Narrows, Refuses, IsTask, FitsAt, FitAll, IsPlaced, Solves, Begins, IsLeast, IsNowhere, IsPassed}

-- fronts
pub begins_self : (ps : List ℕ) → Begins ps ps
begins_self [] = tt
begins_self (p ∷ ps) = (refl, begins_self ps)

pub begins_front : (ps qs : List ℕ) (a : ℕ) → Begins (ps ++ a ∷ []) qs → Begins ps qs
begins_front [] qs a b = tt
begins_front (p ∷ ps) [] a b = absurd b
begins_front (p ∷ ps) (q ∷ qs) a b = (b.0, begins_front ps qs a b.1)

pub begins_next : (ps qs : List ℕ) → Begins ps qs → length ps < length qs → Begins (ps ++ get_or qs (length ps) 0 ∷ []) qs
begins_next [] [] b l = absurd (omega arith)
begins_next [] (q ∷ qs) b l = (refl, tt)
begins_next (p ∷ ps) [] b l = absurd b
begins_next (p ∷ ps) (q ∷ qs) b l = (b.0, begins_next ps qs b.1 (omega arith))

pub begins_all : (ps qs : List ℕ) → Begins ps qs → length qs ≡ length ps → qs ≡ ps
begins_all [] [] b l = refl
begins_all [] (q ∷ qs) b l = absurd (omega arith)
begins_all (p ∷ ps) [] b l = absurd b
begins_all (p ∷ ps) (q ∷ qs) b l = let e = begins_all ps qs b.1 (omega arith) in rw (b.0, e) refl

pub before_self : (ps : List ℕ) → Before ps ps → ⊥
before_self [] b = b
before_self (p ∷ ps) (inl l) = omega arith
before_self (p ∷ ps) (inr (e, b)) = before_self ps b

pub before_later : (ps qs rs : List ℕ) (a b : ℕ) → Begins (ps ++ a ∷ []) qs → Begins (ps ++ b ∷ []) rs → b < a → Before qs rs → ⊥
before_later [] [] rs a b x y l d = absurd x
before_later [] (q ∷ qs) [] a b x y l d = absurd y
before_later [] (q ∷ qs) (r ∷ rs) a b x y l (inl d) = let e = x.0 in let f = y.0 in omega (arith, e, f, d, l)
before_later [] (q ∷ qs) (r ∷ rs) a b x y l (inr (g, d)) = let e = x.0 in let f = y.0 in omega (arith, e, f, g, l)
before_later (p ∷ ps) [] rs a b x y l d = absurd x
before_later (p ∷ ps) (q ∷ qs) [] a b x y l d = absurd y
before_later (p ∷ ps) (q ∷ qs) (r ∷ rs) a b x y l (inl d) = let e = x.0 in let f = y.0 in omega (arith, e, f, d)
before_later (p ∷ ps) (q ∷ qs) (r ∷ rs) a b x y l (inr (g, d)) = before_later ps qs rs a b x.1 y.1 l d

begins_reads : (ps qs : List ℕ) (i : ℕ) → Begins ps qs → i < length ps → (get_or qs i 0 ≡ get_or ps i 0) × (i < length qs)
begins_reads [] qs i b l = absurd (omega arith)
begins_reads (p ∷ ps) [] i b l = absurd b
begins_reads (p ∷ ps) (q ∷ qs) zero b l = (b.0, omega arith)
begins_reads (p ∷ ps) (q ∷ qs) (suc i) b l = let r = begins_reads ps qs i b.1 (omega arith) in (r.0, omega (arith, r.1))

read_as : (ps : List ℕ) (k a : ℕ) → k < length ps → get_or ps k a ≡ a → get_or ps k 0 ≡ a
read_as [] k a l e = absurd (omega arith)
read_as (p ∷ ps) zero a l e = e
read_as (p ∷ ps) (suc k) a l e = read_as ps k a (omega arith) e

-- where places are all different, none comes twice
pub begins_twice : (ps qs : List ℕ) (a : ℕ) → IsOneToOne qs → Begins (ps ++ a ∷ []) qs → Contains ps a → ⊥
begins_twice ps qs a one b (k, l, e) =
    let n : length (ps ++ a ∷ []) ≡ length ps + 1 = length-append ps (a ∷ []) in
    let r = begins_reads (ps ++ a ∷ []) qs k b (omega (arith, n, l)) in
    let s = begins_reads (ps ++ a ∷ []) qs (length ps) b (omega (arith, n)) in
    let f : get_or ps k 0 ≡ a = read_as ps k a l e in
    let at_k : get_or qs k 0 ≡ a = r.0 ∙ (get_or_append_left ps (a ∷ []) 0 k l ∙ f) in
    let at_end : get_or qs (length ps) 0 ≡ a = s.0 ∙ get_or_push ps a 0 (length ps) refl in
    let same : k ≡ length ps = one k (length ps) r.1 s.1 (at_k ∙ sym at_end) in
    omega (arith, same, l)

pub apart_none : IsOneToOne []
apart_none v w l m e = absurd (omega arith)

data Turn (v n : ℕ) : Type 0 where
  below : v < n → Turn v n
  beyond : n ≤ v → Turn v n

dec_suc : (v n : ℕ) → Turn v n → Turn (suc v) (suc n)
dec_suc v n (below l) = below (omega arith)
dec_suc v n (beyond l) = beyond (omega arith)

dec_at : (v n : ℕ) → Turn v n
dec_at v zero = beyond (omega arith)
dec_at zero (suc n) = below (omega arith)
dec_at (suc v) (suc n) = dec_suc v n (dec_at v n)

apart_cases : (ps : List ℕ) (a : ℕ) → IsOneToOne ps → (Contains ps a → ⊥) → (v w : ℕ) → v < length ps + 1 → w < length ps + 1 → get_or (ps ++ a ∷ []) v 0 ≡ get_or (ps ++ a ∷ []) w 0 → Turn v (length ps) → Turn w (length ps) → v ≡ w
apart_cases ps a one new v w l m e (below x) (below y) = one v w x y (sym (get_or_append_left ps (a ∷ []) 0 v x) ∙ (e ∙ get_or_append_left ps (a ∷ []) 0 w y))
apart_cases ps a one new v w l m e (below x) (beyond y) =
    let s : length ps ≡ w = omega (arith, y, m) in
    let f : get_or ps v 0 ≡ a = sym (get_or_append_left ps (a ∷ []) 0 v x) ∙ (e ∙ get_or_push ps a 0 w s) in
    absurd (new (subst (λ z. Contains ps z) f (Contains-get_or ps v 0 x)))
apart_cases ps a one new v w l m e (beyond x) (below y) =
    let s : length ps ≡ v = omega (arith, x, l) in
    let f : get_or ps w 0 ≡ a = sym (get_or_append_left ps (a ∷ []) 0 w y) ∙ (sym e ∙ get_or_push ps a 0 v s) in
    absurd (new (subst (λ z. Contains ps z) f (Contains-get_or ps w 0 y)))
apart_cases ps a one new v w l m e (beyond x) (beyond y) = omega (arith, x, y, l, m)

pub apart_push : (ps : List ℕ) (a : ℕ) → IsOneToOne ps → (Contains ps a → ⊥) → IsOneToOne (ps ++ a ∷ [])
apart_push ps a one new v w l m e =
    let n : length (ps ++ a ∷ []) ≡ length ps + 1 = length-append ps (a ∷ []) in
    apart_cases ps a one new v w (omega (arith, n, l)) (omega (arith, n, m)) e (dec_at v (length ps)) (dec_at w (length ps))

none_some : (x : Element) → None ≡ Some x → ⊥
none_some x e = subst (λ (o : Option Element). MatchOption o ⊤ (λ z. ⊥)) e tt

-- elements that fit
pub fit_more : (eps : List Predication) (vars : List ℕ) (xs : List Element) (ps : List ℕ) (p : ℕ) (x : Element) → slice_get xs (length ps) ≡ Some x → FitAll eps vars xs ps → FitsAt eps vars x p → FitAll eps vars xs (ps ++ p ∷ [])
fit_more eps vars [] [] p x e f h = absurd (none_some x e)
fit_more eps vars (y ∷ ys) [] p x e f h = (subst (λ (o : Option Element). MatchOption o ⊥ (λ z. FitsAt eps vars z p)) (sym e) h, tt)
fit_more eps vars [] (q ∷ qs) p x e f h = absurd f
fit_more eps vars (y ∷ ys) (q ∷ qs) p x e f h = (f.0, fit_more eps vars ys qs p x e f.1 h)

pub fit_less : (eps : List Predication) (vars : List ℕ) (xs : List Element) (ps : List ℕ) (p : ℕ) (x : Element) → slice_get xs (length ps) ≡ Some x → FitAll eps vars xs (ps ++ p ∷ []) → FitAll eps vars xs ps × FitsAt eps vars x p
fit_less eps vars [] [] p x e f = absurd f
fit_less eps vars (y ∷ ys) [] p x e f = (tt, subst (λ (o : Option Element). MatchOption o ⊥ (λ z. FitsAt eps vars z p)) e f.0)
fit_less eps vars [] (q ∷ qs) p x e f = absurd f
fit_less eps vars (y ∷ ys) (q ∷ qs) p x e f = let r = fit_less eps vars ys qs p x e f.1 in ((f.0, r.0), r.1)

pub fit_front : (eps : List Predication) (vars : List ℕ) (xs : List Element) (ps qs : List ℕ) → Begins ps qs → FitAll eps vars xs qs → FitAll eps vars xs ps
fit_front eps vars xs [] qs b f = tt
fit_front eps vars xs (p ∷ ps) [] b f = absurd b
fit_front eps vars [] (p ∷ ps) (q ∷ qs) b f = absurd f
fit_front eps vars (x ∷ xs) (p ∷ ps) (q ∷ qs) b f = (subst (λ (z : ℕ). FitsAt eps vars x z) b.0 f.0, fit_front eps vars xs ps qs b.1 f.1)

fits_within : (eps : List Predication) (vars : List ℕ) (x : Element) (p : ℕ) → FitsAt eps vars x p → p < length eps
fits_within [] vars x zero f = absurd f
fits_within [] vars x (suc p) f = absurd f
fits_within (e ∷ es) vars x zero f = omega arith
fits_within (e ∷ es) vars x (suc p) f = let r = fits_within es vars x p f in omega (arith, r)

fit_within : (eps : List Predication) (vars : List ℕ) (xs : List Element) (ps : List ℕ) (k : ℕ) → FitAll eps vars xs ps → k < length ps → get_or ps k 0 < length eps
fit_within eps vars xs [] k f l = absurd (omega arith)
fit_within eps vars [] (p ∷ ps) k f l = absurd f
fit_within eps vars (x ∷ xs) (p ∷ ps) zero f l = fits_within eps vars x p f.0
fit_within eps vars (x ∷ xs) (p ∷ ps) (suc k) f l = fit_within eps vars xs ps k f.1 (omega arith)

-- the place of the next element in a match
pub next_of : (t : Task) (ps qs vs : List ℕ) → Solves t qs vs → Begins ps qs → length ps < length t.elements
    → Begins (ps ++ get_or qs (length ps) 0 ∷ []) qs × (get_or qs (length ps) 0 < length t.eps)
next_of t ps qs vs s b l =
    let n : length qs ≡ length t.elements = s.all in
    let m : length ps < length qs = omega (arith, n, l) in
    (begins_next ps qs b m, fit_within t.eps vs t.elements qs (length ps) s.fits m)

-- pairs
pub agree_at : (vars : List ℕ) (pairs : List Pair) (c v : ℕ) → Agree vars pairs → Contains pairs (record { coref = c; var = v }) → slice_index vars c ≡ v
agree_at vars pairs c v a h = All-contains (λ (p : Pair). slice_index vars p.coref ≡ p.var) pairs (record { coref = c; var = v }) a h

pub bound_front : (old new : List Pair) (c : ℕ) → take (length old) new ≡ old → IsBound old c → IsBound new c
bound_front old new c e (v, (k, l, r)) =
    let n : length (take (length old) new) ≡ length old = ap length e in
    let m = length-take (length old) new in
    (v, (k, omega (arith, n, m, l), sym (get_or-take (length old) new k (record { coref = c; var = v }) l) ∙ (ap (λ (ps : List Pair). get_or ps k (record { coref = c; var = v })) e ∙ r)))

placed_bound : (t : Task) (ps : List ℕ) (old new : List Pair) (p : ℕ) (x : Element) (e : Predication) → IsPlaced t ps old → slice_get t.elements (length ps) ≡ Some x
    → Narrows t.all t.letters (λ vars. Fits vars x e) (λ c. StandsAt c x) old new → (k c : ℕ) (y : Element) → k < length ps + 1 → slice_get t.elements k ≡ Some y → StandsAt c y → Turn k (length ps) → IsBound new c
placed_bound t ps old new p x e h is_x n k c y l is_y s (below m) = bound_front old new c n.front (h.bound k c y m is_y s)
placed_bound t ps old new p x e h is_x n k c y l is_y s (beyond m) =
    let same : k ≡ length ps = omega (arith, l, m) in
    let both : Some y ≡ Some x = sym is_y ∙ (ap (λ (j : ℕ). slice_get t.elements j) same ∙ is_x) in
    n.bound c (subst (λ (o : Option Element). MatchOption o ⊥ (StandsAt c)) both s)

-- one more place
pub placed_more : (t : Task) (ps : List ℕ) (old new : List Pair) (p : ℕ) (x : Element) (e : Predication) → IsPlaced t ps old → (Contains ps p → ⊥) → slice_get t.elements (length ps) ≡ Some x → slice_get t.eps p ≡ Some e
    → Narrows t.all t.letters (λ vars. Fits vars x e) (λ c. StandsAt c x) old new → IsPlaced t (ps ++ p ∷ []) new
placed_more t ps old new p x e h fresh is_x is_e n =
    let size : length (ps ++ p ∷ []) ≡ length ps + 1 = length-append ps (p ∷ []) in
    let within = slice_get_within t.elements (length ps) x is_x in
    let at : (vars : List ℕ) → Fits vars x e → FitsAt t.eps vars x p = λ vars f. subst (λ (o : Option Predication). MatchOption o ⊥ (Fits vars x)) (sym is_e) f in
    let from : (vars : List ℕ) → FitsAt t.eps vars x p → Fits vars x e = λ vars f. subst (λ (o : Option Predication). MatchOption o ⊥ (Fits vars x)) is_e f in
    record {
      short = omega (arith, size, within);
      apart = apart_push ps p h.apart fresh;
      are = n.pairs;
      told = λ vars l. (
        (λ a. let b = (n.told vars l).0 a in let d = (h.told vars l).0 b.0 in (d.0, fit_more t.eps vars t.elements ps p x is_x d.1 (at vars b.1))),
        (λ a. let f = fit_less t.eps vars t.elements ps p x is_x a.1 in (n.told vars l).1 ((h.told vars l).1 (a.0, f.0), from vars f.1)),
      );
      given = λ c b. bound_front old new c n.front (h.given c b);
      bound = λ k c y l is_y s. placed_bound t ps old new p x e h is_x n k c y (omega (arith, size, l)) is_y s (dec_at k (length ps));
    }

all_bound_by : (t : Task) (ps : List ℕ) (pairs : List Pair) → IsPlaced t ps pairs → length ps ≡ length t.elements → (c : ℕ) → IsBound t.given c ⊎ Any (StandsAt c) t.elements → IsBound pairs c
all_bound_by t ps pairs h full c (inl b) = h.given c b
all_bound_by t ps pairs h full c (inr (k, x, l, e, s)) = h.bound k c x (omega (arith, full, l)) (slice_get-get_or t.elements k x l ∙ ap Some e) s

-- all elements have places
pub all_bound : (t : Task) (ps : List ℕ) (pairs : List Pair) → IsTask t → IsPlaced t ps pairs → length ps ≡ length t.elements → (c : ℕ) → c < length t.letters → IsBound pairs c
all_bound t ps pairs task h full c l = all_bound_by t ps pairs h full c (task.standing c l)

-- the variables of the pairs
abbrev pub AreOf : List Pair → ℕ → List ℕ → Type 0
AreOf pairs count vars = (c : ℕ) → c < count → Contains pairs (record { coref = c; var = slice_index vars c })

pub match_of : (t : Task) (ps : List ℕ) (pairs : List Pair) (vars : List ℕ) → IsPlaced t ps pairs → length ps ≡ length t.elements → length vars ≡ length t.letters → AreOf pairs (length t.letters) vars → Solves t ps vars
match_of t ps pairs vars h full size are =
    let sorts : AreOfLetters t.all t.letters vars = record { size = size; each = λ c l. All-contains (λ (p : Pair). MayHave t.all t.letters p.coref p.var) pairs (record { coref = c; var = slice_index vars c }) h.are.each (are c l) } in
    let agree : Agree vars pairs = λ k d l.
    let q = get_or pairs k d in
    let c : q.coref < length t.letters = (h.are.each k d l).coref in
    h.are.single q.coref (slice_index vars q.coref) q.var (are q.coref c) (Contains-get_or pairs k d l) in
    let told = (h.told vars sorts).0 agree in
    record { all = full; apart = h.apart; fits = told.1; sorts = sorts; given = told.0 }

pub only_match : (t : Task) (ps : List ℕ) (pairs : List Pair) (vars qs vs : List ℕ) → IsPlaced t ps pairs → length ps ≡ length t.elements → length vars ≡ length t.letters → AreOf pairs (length t.letters) vars
    → Solves t qs vs → Begins ps qs → (qs ≡ ps) × (vs ≡ vars)
only_match t ps pairs vars qs vs h full size are s b =
    let n : length qs ≡ length t.elements = s.all in
    let e : qs ≡ ps = begins_all ps qs b (omega (arith, n, full)) in
    let agree : Agree vs pairs = (h.told vs s.sorts).1 (s.given, fit_front t.eps vs t.elements ps qs b s.fits) in
    let m : length vs ≡ length t.letters = s.sorts.size in
    (e, ext_get_or 0 vs vars (m ∙ sym size) (λ i l. agree_at vs pairs i (slice_index vars i) agree (are i (omega (arith, m, l)))))

-- where the next element refuses the place, no match has it
pub refused : (t : Task) (ps : List ℕ) (old new : List Pair) (p : ℕ) (x : Element) (e : Predication) (qs vs : List ℕ) → IsPlaced t ps old → slice_get t.elements (length ps) ≡ Some x → slice_get t.eps p ≡ Some e
    → Refuses t.all t.letters (λ vars. Fits vars x e) old new → Solves t qs vs → Begins (ps ++ p ∷ []) qs → ⊥
refused t ps old new p x e qs vs h is_x is_e n s b =
    let f = fit_less t.eps vs t.elements ps p x is_x (fit_front t.eps vs t.elements (ps ++ p ∷ []) qs b s.fits) in
    n.none vs s.sorts ((h.told vs s.sorts).1 (s.given, f.0)) (subst (λ (o : Option Predication). MatchOption o ⊥ (Fits vs x)) is_e f.1)

-- the least taken match
pub least_here : (t : Task) (A : (ℕ → Site → Bool) → Type 0) (T : (ℕ → Site → Bool) → List ℕ → List ℕ → Type 0) (ps : List ℕ) (pairs : List Pair) (vars : List ℕ) → IsPlaced t ps pairs → length ps ≡ length t.elements → length vars ≡ length t.letters → AreOf pairs (length t.letters) vars
    → ((allows : ℕ → Site → Bool) → A allows → T allows ps vars) → IsLeast t A T ps ps vars
least_here t A T ps pairs vars h full size are taken = record {
  solves = match_of t ps pairs vars h full size are;
  begins = begins_self ps;
  taken = taken;
  least = λ allows qs vs a s b k d. before_self ps (subst (λ (z : List ℕ). Before z ps) (only_match t ps pairs vars qs vs h full size are s b).0 d);
}

pub nowhere_here : (t : Task) (A : (ℕ → Site → Bool) → Type 0) (T : (ℕ → Site → Bool) → List ℕ → List ℕ → Type 0) (ps : List ℕ) (pairs : List Pair) (vars : List ℕ) → IsPlaced t ps pairs → length ps ≡ length t.elements → length vars ≡ length t.letters → AreOf pairs (length t.letters) vars
    → ((allows : ℕ → Site → Bool) → A allows → T allows ps vars → ⊥) → IsNowhere t A T ps
nowhere_here t A T ps pairs vars h full size are untaken = record {
  none = λ allows qs vs a s b k.
      let o = only_match t ps pairs vars qs vs h full size are s b in
      untaken allows a (subst (λ (z : List ℕ). T allows z vars) o.0 (subst (λ (z : List ℕ). T allows qs z) o.1 k));
}

pub data Side (p k : ℕ) : Type 0 where
  less : p < k → Side p k
  same : p ≡ k → Side p k
  more : k < p → Side p k

side_suc : (p k : ℕ) → Side p k → Side (suc p) (suc k)
side_suc p k (less l) = less (omega arith)
side_suc p k (same e) = same (ap suc e)
side_suc p k (more l) = more (omega arith)

pub side_of : (p k : ℕ) → Side p k
side_of zero zero = same refl
side_of zero (suc k) = less (omega arith)
side_of (suc p) zero = more (omega arith)
side_of (suc p) (suc k) = side_suc p k (side_of p k)

least_by : (t : Task) (A : (ℕ → Site → Bool) → Type 0) (T : (ℕ → Site → Bool) → List ℕ → List ℕ → Type 0) (ps : List ℕ) (k : ℕ) (places vars : List ℕ) → IsPassed t A T ps k → IsLeast t A T (ps ++ k ∷ []) places vars
    → (allows : ℕ → Site → Bool) (p : ℕ) (qs vs : List ℕ) → A allows → Solves t qs vs → Begins (ps ++ p ∷ []) qs → T allows qs vs → Before qs places → Side p k → ⊥
least_by t A T ps k places vars passed l allows p qs vs a s b h d (less m) = passed.none allows p qs vs m a s b h
least_by t A T ps k places vars passed l allows p qs vs a s b h d (same e) = l.least allows qs vs a s (subst (λ (z : ℕ). Begins (ps ++ z ∷ []) qs) e b) h d
least_by t A T ps k places vars passed l allows p qs vs a s b h d (more m) = before_later ps qs places p k b l.begins m d

pub least_next : (t : Task) (A : (ℕ → Site → Bool) → Type 0) (T : (ℕ → Site → Bool) → List ℕ → List ℕ → Type 0) (ps : List ℕ) (k : ℕ) (places vars : List ℕ) → length ps < length t.elements → IsPassed t A T ps k → IsLeast t A T (ps ++ k ∷ []) places vars → IsLeast t A T ps places vars
least_next t A T ps k places vars turn passed l = record {
  solves = l.solves;
  begins = begins_front ps places k l.begins;
  taken = l.taken;
  least = λ allows qs vs a s b h d.
      let n = next_of t ps qs vs s b turn in
      least_by t A T ps k places vars passed l allows (get_or qs (length ps) 0) qs vs a s n.0 h d (side_of (get_or qs (length ps) 0) k);
}

pub passed_none : (t : Task) (A : (ℕ → Site → Bool) → Type 0) (T : (ℕ → Site → Bool) → List ℕ → List ℕ → Type 0) (ps : List ℕ) → IsPassed t A T ps 0
passed_none t A T ps = record { none = λ allows p qs vs l a s b h. omega (arith, l) }

passed_by : (t : Task) (A : (ℕ → Site → Bool) → Type 0) (T : (ℕ → Site → Bool) → List ℕ → List ℕ → Type 0) (ps : List ℕ) (k : ℕ) → IsPassed t A T ps k → IsNowhere t A T (ps ++ k ∷ []) → (allows : ℕ → Site → Bool) (p : ℕ) (qs vs : List ℕ) → p < k + 1 → A allows → Solves t qs vs → Begins (ps ++ p ∷ []) qs → T allows qs vs → Side p k → ⊥
passed_by t A T ps k passed n allows p qs vs l a s b h (less m) = passed.none allows p qs vs m a s b h
passed_by t A T ps k passed n allows p qs vs l a s b h (same e) = n.none allows qs vs a s (subst (λ (z : ℕ). Begins (ps ++ z ∷ []) qs) e b) h
passed_by t A T ps k passed n allows p qs vs l a s b h (more m) = omega (arith, l, m)

pub passed_more : (t : Task) (A : (ℕ → Site → Bool) → Type 0) (T : (ℕ → Site → Bool) → List ℕ → List ℕ → Type 0) (ps : List ℕ) (k : ℕ) → IsPassed t A T ps k → IsNowhere t A T (ps ++ k ∷ []) → IsPassed t A T ps (k + 1)
passed_more t A T ps k passed n = record { none = λ allows p qs vs l a s b h. passed_by t A T ps k passed n allows p qs vs l a s b h (side_of p k) }

pub nowhere_refused : (t : Task) (A : (ℕ → Site → Bool) → Type 0) (T : (ℕ → Site → Bool) → List ℕ → List ℕ → Type 0) (ps : List ℕ) → ((qs vs : List ℕ) → Solves t qs vs → Begins ps qs → ⊥) → IsNowhere t A T ps
nowhere_refused t A T ps h = record { none = λ allows qs vs a s b k. h qs vs s b }

pub nowhere_all : (t : Task) (A : (ℕ → Site → Bool) → Type 0) (T : (ℕ → Site → Bool) → List ℕ → List ℕ → Type 0) (ps : List ℕ) (k : ℕ) → length ps < length t.elements → length t.eps ≤ k → IsPassed t A T ps k → IsNowhere t A T ps
nowhere_all t A T ps k turn all passed = record {
  none = λ allows qs vs a s b h.
      let n = next_of t ps qs vs s b turn in
      let within = n.1 in
      passed.none allows (get_or qs (length ps) 0) qs vs (omega (arith, within, all)) a s n.0 h;
}

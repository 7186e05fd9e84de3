-- The steps of the search for a map of variables.
use Rattle.std.proofs.Common.{◌≡◌, ◌≢◌, ℕ, zero, suc, ◌+◌, ◌*◌, ◌-◌, ◌<◌, ◌≤◌, ◌⊎◌, inl, inr, ◌∙◌, List, [], ◌∷◌, ◌++◌, length, length-append, take, get_or, refl, ap, sym, subst, arith, slice_index_or, Some, Bool, true, false, set}
use Rattle.std.proofs.lemmas.List.{get_or-set_same, get_or-set_other, length-set}
use Rattle.std.specs.List.{slice_get}
use Rattle.std.proofs.Math.Nat.{mul-le-mul_right}
use Rattle.std.proofs.lemmas.Option.{slice_get_within}
use Rattle.mrs_model.specs.declared.bindings.Pair.{Pair}
use Rattle.mrs_model.specs.declared.search.Step.{Step}
use Rattle.mrs_model.specs.Renaming.{IsVariableMap}
use Rattle.mrs_model.specs.Inner.Bindings.{Agrees, IsGrown, lefts, rights}
use Rattle.mrs_model.specs.Inner.State.{Knows}
use Rattle.mrs_model.specs.Inner.Elements.{Element, renamed}
use Rattle.mrs_model.specs.Inner.Search.{Task, Solves, places, Follows, IsAt, IsLeast, IsJoinedElement, Begins, Leads, begins, goes_on, work, work_left, work_at}

-- a place is refused where no solution with the places before has it
abbrev pub IsRefused : Task → List ℕ → ℕ → Type 0
IsRefused t cs c = (to : List ℕ) (place : ℕ → ℕ) → Solves t to place → Follows place cs → place (length cs) ≡ c → ⊥

pub least_past : (t : Task) (c : ℕ) (cs : List ℕ) → IsLeast t (c ∷ cs) → IsRefused t cs c → IsLeast t ((c + 1) ∷ cs)
least_past t c cs l refused = (λ to place s f. let le = l.0 to place s f in let ne : place (length cs) ≢ c = refused to place s f in omega arith, l.1)

pub least_deeper : (t : Task) (cs : List ℕ) → IsLeast t cs → IsLeast t (0 ∷ cs)
least_deeper t cs l = (λ to place s f. omega arith, l)

-- where the places at one depth are used up, the last one above is refused
pub least_back : (t : Task) (c n : ℕ) (cs : List ℕ) → length t.right ≤ n → suc (length cs) < length t.left → IsLeast t (n ∷ c ∷ cs) → IsLeast t ((c + 1) ∷ cs)
least_back t c n cs size deep l =
    least_past t c cs l.1 (λ to place s f e. let le = l.0 to place s (e, f) in let lt = s.within (suc (length cs)) deep in omega arith)

-- where all are used up at the first, there is no solution
pub none_left : (t : Task) (n : ℕ) → length t.right ≤ n → 0 < length t.left → IsLeast t (n ∷ []) → (to : List ℕ) (place : ℕ → ℕ) → Solves t to place → ⊥
none_left t n size some l to place s = let le = l.0 to place s tt in let lt = s.within 0 some in omega arith

-- what all solutions with these places have
pub leads_agrees : (t : Task) (steps : List Step) (pairs : List Pair) → Leads t steps pairs → (to : List ℕ) (place : ℕ → ℕ) → Solves t to place → Follows place (places steps) → Agrees to pairs
leads_agrees t [] pairs (begins _ b) to place s f = b.told to s.vars s.given
leads_agrees t (_ ∷ _) _ (goes_on steps pairs new c x y before is_x is_y fresh grown joined told) to place s f =
    told to s.vars (leads_agrees t steps pairs before to place s f.1) (s.renamed_there _ x y is_x (rw f.0 is_y))

-- measures
pub work_back : (n elements c next : ℕ) (cs : List ℕ) → work_at n elements (c + 1) cs < work_at n elements next (c ∷ cs)
work_back n elements c next cs = omega arith

work_positive : (n d : ℕ) → 1 ≤ work n d
work_positive n zero = omega arith
work_positive n (suc d) = omega arith

deeper : (n next c w v left : ℕ) → w ≡ n * v + 2 → (n - (c + 1) + 1) * w ≤ (n - next) * w → (n - 0) * v + ((n - (c + 1)) * w + 1 + left) < (n - next) * w + left
deeper n next c w v left e m = let z : n - 0 ≡ n = omega arith in rw z (omega (arith, m, e))

pub work_deeper : (n elements c next : ℕ) (cs : List ℕ) → length cs < elements → next ≤ c → c < n → work_at n elements 0 (c ∷ cs) < work_at n elements next cs
work_deeper n elements c next cs lt le in' =
    let d = elements - suc (length cs) in
    let e : elements - length cs ≡ suc d = omega arith in
    let w : work n (elements - length cs) ≡ n * work n d + 2 = ap (work n) e in
    let m : (n - (c + 1) + 1) * work n (elements - length cs) ≤ (n - next) * work n (elements - length cs) = mul-le-mul_right (work n (elements - length cs)) (omega arith) in
    deeper n next c (work n (elements - length cs)) (work n d) (work_left n elements cs) w m

-- growing keeps what agrees with more
pub lefts_start : (old more : List Pair) (i : ℕ) → i < length old → get_or (lefts (old ++ more)) i 0 ≡ get_or (lefts old) i 0
lefts_start [] more i h = absurd (omega arith)
lefts_start (p ∷ ps) more zero h = refl
lefts_start (p ∷ ps) more (suc i) h = lefts_start ps more i (omega arith)

pub rights_start : (old more : List Pair) (i : ℕ) → i < length old → get_or (rights (old ++ more)) i 0 ≡ get_or (rights old) i 0
rights_start [] more i h = absurd (omega arith)
rights_start (p ∷ ps) more zero h = refl
rights_start (p ∷ ps) more (suc i) h = rights_start ps more i (omega arith)

pub agrees_start : (to : List ℕ) (old more : List Pair) → Agrees to (old ++ more) → Agrees to old
agrees_start to old more a = λ i h.
    let e = lefts_start old more i h in
    let f = rights_start old more i h in
    let l : i < length (old ++ more) = omega (arith, length-append old more) in
    rw (← e, ← f) (a i l)

-- whatever has all pairs puts each element at its place
pub leads_joined : (t : Task) (steps : List Step) (pairs : List Pair) → Leads t steps pairs → (to : List ℕ) → Agrees to pairs
    → (k c : ℕ) (x y : Element) → IsAt (places steps) k c → slice_get t.left k ≡ Some x → slice_get t.right c ≡ Some y → renamed to x ≡ y
leads_joined t [] pairs (begins _ b) to a k c x y at is_x is_y = absurd at
leads_joined t (_ ∷ _) _ (goes_on steps pairs new d x' y' before is_x' is_y' fresh grown joined told) to a k c x y (inl (e, f)) is_x is_y =
    let p : slice_get t.left (length (places steps)) ≡ Some x = rw e at is_x in
    let q : slice_get t.right d ≡ Some y = rw (← f) at is_y in
    let h = joined.same to a in
    cc
leads_joined t (_ ∷ _) _ (goes_on steps pairs new d x' y' before is_x' is_y' fresh grown joined told) to a k c x y (inr at) is_x is_y =
    leads_joined t steps pairs before to (agrees_start to pairs grown.more (rw grown.front at a)) k c x y at is_x is_y

-- a place that a step has is refused
pub follows_has : (place : ℕ → ℕ) (cs : List ℕ) (k c : ℕ) → Follows place cs → IsAt cs k c → (place k ≡ c) × (k < length cs)
follows_has place [] k c f at = absurd at
follows_has place (d ∷ ds) k c f (inl (e, g)) = (rw (e, ← g) f.0, omega arith)
follows_has place (d ∷ ds) k c f (inr at) = let r = follows_has place ds k c f.1 at in (r.0, omega arith)

pub used_refused : (t : Task) (cs : List ℕ) (k c : ℕ) → length cs < length t.left → IsAt cs k c → IsRefused t cs c
used_refused t cs k c lt at = λ to place s f e. let r = follows_has place cs k c f at in s.apart k (length cs) r.1 lt (r.0 ∙ sym e)

-- so is one at which the element can't be joined
pub unjoined_refused : (t : Task) (steps : List Step) (pairs : List Pair) (c : ℕ) (x y : Element) → Leads t steps pairs → slice_get t.left (length (places steps)) ≡ Some x → slice_get t.right c ≡ Some y
    → ((to : List ℕ) → IsVariableMap t.vars t.other_vars to → Agrees to pairs → renamed to x ≡ y → ⊥) → IsRefused t (places steps) c
unjoined_refused t steps pairs c x y leads is_x is_y never =
    λ to place s f e. never to s.vars (leads_agrees t steps pairs leads to place s f) (s.renamed_there _ x y is_x (rw e is_y))

pub knows_past : (t : Task) (steps : List Step) (used : List Bool) (pairs : List Pair) (size c : ℕ) → Knows t steps used pairs size c → IsRefused t (places steps) c → Knows t steps used pairs size (c + 1)
knows_past t steps used pairs size c k refused = record { leads = k.leads; least = least_past t c (places steps) k.least refused; even = k.even; has = k.has; has_not = k.has_not; size_is = k.size_is }

pub knows_used : (t : Task) (steps : List Step) (used : List Bool) (pairs : List Pair) (size c : ℕ) → Knows t steps used pairs size c → c < length t.right → length (places steps) < length t.left
    → slice_index_or used c false ≡ true → Knows t steps used pairs size (c + 1)
knows_used t steps used pairs size c k in' turn e = let h = k.has c in' e in knows_past t steps used pairs size c k (used_refused t (places steps) h.0 c turn h.1)

pub knows_unjoined : (t : Task) (steps : List Step) (used : List Bool) (pairs : List Pair) (size c : ℕ) (x y : Element) → Knows t steps used pairs size c
    → slice_get t.left (length (places steps)) ≡ Some x → slice_get t.right c ≡ Some y → ((to : List ℕ) → IsVariableMap t.vars t.other_vars to → Agrees to pairs → renamed to x ≡ y → ⊥) → Knows t steps used pairs size (c + 1)
knows_unjoined t steps used pairs size c x y k is_x is_y never = knows_past t steps used pairs size c k (unjoined_refused t steps pairs c x y k.leads is_x is_y never)

pub same_or_other : (d c : ℕ) → (d ≡ c) ⊎ (d ≢ c)
same_or_other zero zero = inl refl
same_or_other zero (suc c) = inr (λ e. omega arith)
same_or_other (suc d) zero = inr (λ e. omega arith)
same_or_other (suc d) (suc c) = elim (same_or_other d c) [ inl e ↦ inl (ap suc e) | inr ne ↦ inr (λ e. ne (omega arith)) ]

-- which places are used
abbrev HasAll : ℕ → List Bool → List ℕ → Type 0
HasAll n used cs = (c : ℕ) → c < n → slice_index_or used c false ≡ true → (k : ℕ) × IsAt cs k c

abbrev HasOnly : ℕ → List Bool → List ℕ → Type 0
HasOnly n used cs = (c k : ℕ) → c < n → slice_index_or used c false ≡ false → IsAt cs k c → ⊥

has_more : (n : ℕ) (used : List Bool) (cs : List ℕ) (c d : ℕ) → (d ≡ c) ⊎ (d ≢ c) → HasAll n used cs → d < n → slice_index_or (set used c true) d false ≡ true → (k : ℕ) × IsAt (c ∷ cs) k d
has_more n used cs c d (inl e) has l u = (length cs, inl (refl, sym e))
has_more n used cs c d (inr ne) has l u = let h = has d l (sym (get_or-set_other used c d true false ne) ∙ u) in (h.0, inr h.1)

only_more : (n : ℕ) (used : List Bool) (cs : List ℕ) (c d k : ℕ) → c < length used → (d ≡ c) ⊎ (d ≢ c) → HasOnly n used cs → d < n → slice_index_or (set used c true) d false ≡ false → IsAt (c ∷ cs) k d → ⊥
only_more n used cs c d k in' (inl e) has_not l u at = let s = get_or-set_same used c true false in' in let u' : slice_index_or (set used c true) c false ≡ false = subst (λ (z : ℕ). slice_index_or (set used c true) z false ≡ false) e u in cc
only_more n used cs c d k in' (inr ne) has_not l u (inl (f, g)) = ne (sym g)
only_more n used cs c d k in' (inr ne) has_not l u (inr at) = has_not d k l (sym (get_or-set_other used c d true false ne) ∙ u) at

has_less : (n : ℕ) (used : List Bool) (cs : List ℕ) (c d k : ℕ) → d ≢ c → IsAt (c ∷ cs) k d → IsAt cs k d
has_less n used cs c d k ne (inl (f, g)) = absurd (ne (sym g))
has_less n used cs c d k ne (inr at) = at

all_less : (n : ℕ) (used : List Bool) (cs : List ℕ) (c d : ℕ) → c < length used → (d ≡ c) ⊎ (d ≢ c) → HasAll n used (c ∷ cs) → d < n → slice_index_or (set used c false) d false ≡ true → (k : ℕ) × IsAt cs k d
all_less n used cs c d in' (inl e) has l u = let s = get_or-set_same used c false false in' in let u' : slice_index_or (set used c false) c false ≡ true = subst (λ (z : ℕ). slice_index_or (set used c false) z false ≡ true) e u in absurd (cc)
all_less n used cs c d in' (inr ne) has l u = let h = has d l (sym (get_or-set_other used c d false false ne) ∙ u) in (h.0, has_less n used cs c d h.0 ne h.1)

only_less : (n : ℕ) (used : List Bool) (cs : List ℕ) (c d k : ℕ) → (d ≡ c) ⊎ (d ≢ c) → HasOnly n used (c ∷ cs) → ((i : ℕ) → IsAt cs i c → ⊥) → d < n → slice_index_or (set used c false) d false ≡ false → IsAt cs k d → ⊥
only_less n used cs c d k (inl e) has_not fresh l u at = fresh k (subst (λ (z : ℕ). IsAt cs k z) e at)
only_less n used cs c d k (inr ne) has_not fresh l u at = has_not d k l (sym (get_or-set_other used c d false false ne) ∙ u) (inr at)

pub knows_step : (t : Task) (steps : List Step) (used : List Bool) (pairs new : List Pair) (size c : ℕ) (x y : Element) → Knows t steps used pairs size c → c < length t.right
    → slice_get t.left (length (places steps)) ≡ Some x → slice_get t.right c ≡ Some y → slice_index_or used c false ≡ false
    → IsGrown t.vars t.other_vars pairs new → IsJoinedElement new x y → ((to : List ℕ) → IsVariableMap t.vars t.other_vars to → Agrees to pairs → renamed to x ≡ y → Agrees to new)
    → Knows t (record { place = c; mark = length pairs } ∷ steps) (set used c true) new size 0
knows_step t steps used pairs new size c x y k in' is_x is_y free grown joined told = record {
  leads = goes_on steps pairs new c x y k.leads is_x is_y (λ i at. k.has_not c i in' free at) grown joined told;
  least = least_deeper t (c ∷ places steps) k.least;
  even = length-set used c true ∙ k.even;
  has = λ d l e. has_more (length t.right) used (places steps) c d (same_or_other d c) k.has l e;
  has_not = λ d i l e at. only_more (length t.right) used (places steps) c d i (omega (arith, k.even)) (same_or_other d c) k.has_not l e at;
  size_is = k.size_is;
}

pub take_start : (old more : List Pair) → take (length old) (old ++ more) ≡ old
take_start [] more = refl
take_start (p ∷ ps) more = ap (λ l. p ∷ l) (take_start ps more)

-- what the last step was: its pairs, its place
pub last_step : (t : Task) (s : Step) (steps : List Step) (new : List Pair) → Leads t (s ∷ steps) new
    → Leads t steps (take s.mark new) × (s.mark ≤ length new) × (s.place < length t.right) × ((k : ℕ) → IsAt (places steps) k s.place → ⊥)
last_step t _ _ _ (goes_on steps pairs new c x y before is_x is_y fresh grown joined told) =
    let e : take (length pairs) new ≡ pairs = rw grown.front (take_start pairs grown.more) in
    let n : length new ≡ length pairs + length grown.more = ap length grown.front ∙ length-append pairs grown.more in
    (rw e before, omega arith, slice_get_within t.right c y is_y, fresh)

pub knows_back : (t : Task) (s : Step) (steps : List Step) (used : List Bool) (pairs : List Pair) (size last : ℕ) → Knows t (s ∷ steps) used pairs size last → length t.right ≤ last → suc (length (places steps)) < length t.left
    → Knows t steps (set used s.place false) (take s.mark pairs) size (s.place + 1)
knows_back t s steps used pairs size last k all turn =
    let w = last_step t s steps pairs k.leads in record {
      leads = w.0;
      least = least_back t s.place last (places steps) all turn k.least;
      even = length-set used s.place false ∙ k.even;
      has = λ d l e. all_less (length t.right) used (places steps) s.place d (let q = w.2 in omega (arith, k.even, q)) (same_or_other d s.place) k.has l e;
      has_not = λ d i l e at. only_less (length t.right) used (places steps) s.place d i (same_or_other d s.place) k.has_not w.3 l e at;
      size_is = k.size_is;
    }

pub knows_none : (t : Task) (used : List Bool) (pairs : List Pair) (size last : ℕ) → Knows t [] used pairs size last → length t.right ≤ last → 0 < length t.left → (to : List ℕ) (place : ℕ → ℕ) → Solves t to place → ⊥
knows_none t used pairs size last k all some = none_left t last all some k.least

pub knows_start : (t : Task) (used : List Bool) (pairs : List Pair) (size : ℕ) → Begins t.vars t.other_vars t.given pairs → length used ≡ length t.right → ((c : ℕ) → slice_index_or used c false ≡ false) → size ≡ length t.vars
    → Knows t [] used pairs size 0
knows_start t used pairs size given even free size_is = record {
  leads = begins pairs given;
  least = (λ to place s f. omega arith, tt);
  even = even;
  has = λ c l e. let f = free c in absurd (cc);
  has_not = λ c k l e at. at;
  size_is = size_is;
}

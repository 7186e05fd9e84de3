-- The open holes of a state, and what one pass over the plugs puts into the sets.
use Rattle.std.proofs.Common.{ℕ, zero, suc, ◌≡◌, ◌≢◌, ◌<◌, ◌≤◌, ◌+◌, ◌-◌, ◌⊎◌, inl, inr, ◌∙◌, Bool, true, false, List, [], ◌∷◌, ◌++◌, length, get_or, set, take, replicate, slice_index, slice_index_or, refl, sym, ap, subst, arith, ◌==◌}
use Rattle.std.specs.Prelude.{◌↔◌, IsTrue, Contains, if◌then◌else◌, reverse}
use Rattle.std.proofs.lemmas.Bool.{eqb-true, eqb-false, cases_lt}
use Rattle.std.proofs.lemmas.List.{take_more, get_or-set_same, get_or-set_other, get_or_past, get_or_default, length-set}
use Rattle.std.proofs.lemmas.List.Elements.{Contains-append_left, Contains-append_cases}
use Rattle.scope_model.specs.declared.Opening.{Opening}
use Rattle.scope_model.specs.declared.Plug.{Plug}
use Rattle.scope_model.specs.Frames.{Frame}
use Rattle.scope_model.specs.States.{State, state, IsPlaced, IsFilled, IsOpen}
use Rattle.scope_model.proofs.Lists.{In, in_of, contains_of}
use Rattle.scope_resolve.specs.declared.hole_set.HoleSet.{HoleSet}
use Rattle.scope_resolve.specs.declared.nets.Net.{Net}
use Rattle.scope_resolve.specs.declared.trail.Trail.{Trail}
use Rattle.scope_resolve.specs.Inner.Ways.{is_on_way, is_by_bodies}
use Rattle.scope_resolve.specs.Inner.Nets.{IsNet, frame_in}
use Rattle.scope_resolve.specs.Inner.Filling.{IsGoing, path, state_of}
use Rattle.scope_resolve.specs.Inner.Masks.{has, every, set_at, IsAt, Grows, AreMarks, AreBegun, AreBelow, AreReached}
use Rattle.scope_resolve.proofs.Tests.{push_back, back, none_left, take_whole}
use Rattle.scope_resolve.proofs.Each.{there_at}
use Rattle.scope_resolve.proofs.Scans.{by_here}
use Rattle.scope_resolve.proofs.Sounds.{on_way, by_bodies}
use Rattle.scope_resolve.proofs.Sets.{every_has}

-- past its end a table has all
pub past_has : (sets : List HoleSet) (number place : ℕ) → length sets ≤ number → has (set_at sets number) place ≡ true
past_has sets number place l = ap (λ s. has s place) (get_or_past sets number every l) ∙ every_has place

-- marks
pub unmarked : (n v : ℕ) → get_or (replicate n false) v false ≡ false
unmarked zero v = refl
unmarked (suc n) zero = refl
unmarked (suc n) (suc v) = unmarked n v

marks_add : (P Q : ℕ → Type 0) (ms : List Bool) (x : ℕ) → AreMarks P ms → ((v : ℕ) → Q v ↔ (P v ⊎ (v ≡ x))) → AreMarks Q (set ms x true)
marks_add P Q ms x are same v l = by_test (v == x) refl
  where
    inside : v < length ms
    inside = let n = length-set ms x true in omega (arith, l, n)

    by_test : (b : Bool) → b ≡ (v == x) → (get_or (set ms x true) v false ≡ true) ↔ Q v
    by_test true q =
        let e : v ≡ x = eqb-true v x (sym q) in
        (λ _. (same v).1 (inr e), λ _. subst (λ w. get_or (set ms x true) w false ≡ true) (sym e) (get_or-set_same ms x true false (subst (λ w. w < length ms) e inside)))
    by_test false q =
        let other : v ≢ x = eqb-false v x (sym q) in
        let kept = get_or-set_other ms x v true false other in
        (λ e. (same v).1 (inl ((are v inside).0 (sym kept ∙ e))), λ c. kept ∙ (are v inside).1 (by_side ((same v).0 c)))
      where
        by_side : P v ⊎ (v ≡ x) → P v
        by_side (inl p) = p
        by_side (inr e) = absurd (eqb-false v x (sym q) e)

placed_more : (root : ℕ) (k : Plug) (ks : List Plug) (v : ℕ) → IsPlaced (state root (k ∷ ks)) v ↔ (IsPlaced (state root ks) v ⊎ (v ≡ k.label))
placed_more root k ks v = (down, up)
  where
    down : IsPlaced (state root (k ∷ ks)) v → IsPlaced (state root ks) v ⊎ (v ≡ k.label)
    down (inl e) = inl (inl e)
    down (inr w) = by_place (in_of (k ∷ ks) w.0 w.1)
      where
        by_place : In w.0 (k ∷ ks) → IsPlaced (state root ks) v ⊎ (v ≡ k.label)
        by_place (inl e) = inr (sym w.2 ∙ ap (λ (z : Plug). z.label) e)
        by_place (inr i) = inl (inr (w.0, contains_of ks w.0 i, w.2))

    up : IsPlaced (state root ks) v ⊎ (v ≡ k.label) → IsPlaced (state root (k ∷ ks)) v
    up (inl (inl e)) = inl e
    up (inl (inr w)) = inr (w.0, contains_of (k ∷ ks) w.0 (inr (in_of ks w.0 w.1)), w.2)
    up (inr e) = inr (k, contains_of (k ∷ ks) k (inl refl), sym e)

filled_more : (root : ℕ) (k : Plug) (ks : List Plug) (h : ℕ) → IsFilled (state root (k ∷ ks)) h ↔ (IsFilled (state root ks) h ⊎ (h ≡ k.hole))
filled_more root k ks h = (down, up)
  where
    down : IsFilled (state root (k ∷ ks)) h → IsFilled (state root ks) h ⊎ (h ≡ k.hole)
    down w = by_place (in_of (k ∷ ks) w.0 w.1)
      where
        by_place : In w.0 (k ∷ ks) → IsFilled (state root ks) h ⊎ (h ≡ k.hole)
        by_place (inl e) = inr (sym w.2 ∙ ap (λ (z : Plug). z.hole) e)
        by_place (inr i) = inl (w.0, contains_of ks w.0 i, w.2)

    up : IsFilled (state root ks) h ⊎ (h ≡ k.hole) → IsFilled (state root (k ∷ ks)) h
    up (inl w) = (w.0, contains_of (k ∷ ks) w.0 (inr (in_of ks w.0 w.1)), w.2)
    up (inr e) = (k, contains_of (k ∷ ks) k (inl refl), sym e)

next_back : (xs : List Plug) (k : ℕ) (x : Plug) → k < length xs → x ≡ get_or xs k x → reverse (take (k + 1) xs) ≡ x ∷ reverse (take k xs)
next_back xs k x l e = ap reverse (take_more xs k x l) ∙ (push_back (take k xs) (get_or xs k x) ∙ ap (λ y. y ∷ reverse (take k xs)) (sym e))

module _ (root : ℕ) (xs : List Plug) where
  pub root_first : (ms : List Bool) → ((v : ℕ) → get_or ms v false ≡ false) → AreMarks (IsPlaced (state root (reverse (take 0 xs)))) (set ms root true)
  root_first ms none =
      subst (λ ks. AreMarks (IsPlaced (state root ks)) (set ms root true)) (sym (none_left xs 0 (omega arith)))
      (marks_add (λ v. ⊥) (IsPlaced (state root [])) ms root (λ v l. (λ e. (let q = none v in absurd (cc)), λ b. absurd b)) (λ v. (only v, back_in v)))
    where
      only : (v : ℕ) → IsPlaced (state root []) v → ⊥ ⊎ (v ≡ root)
      only v (inl e) = inr e
      only v (inr w) = absurd (in_of [] w.0 w.1)

      back_in : (v : ℕ) → ⊥ ⊎ (v ≡ root) → IsPlaced (state root []) v
      back_in v (inl b) = absurd b
      back_in v (inr e) = inl e

  pub none_first : (ms : List Bool) → ((v : ℕ) → get_or ms v false ≡ false) → AreMarks (IsFilled (state root (reverse (take 0 xs)))) ms
  none_first ms none v l =
      (λ e. (let q = none v in absurd (cc)), λ w. absurd (in_of [] w.0 (subst (λ ks. Contains ks w.0) (none_left xs 0 (omega arith)) w.1)))

  pub placed_on : (ms : List Bool) (k : ℕ) (x : Plug) → k < length xs → x ≡ get_or xs k x → AreMarks (IsPlaced (state root (reverse (take k xs)))) ms → AreMarks (IsPlaced (state root (reverse (take (k + 1) xs)))) (set ms x.label true)
  placed_on ms k x l e are =
      subst (λ ks. AreMarks (IsPlaced (state root ks)) (set ms x.label true)) (sym (next_back xs k x l e))
      (marks_add (IsPlaced (state root (reverse (take k xs)))) (IsPlaced (state root (x ∷ reverse (take k xs)))) ms x.label are (placed_more root x (reverse (take k xs))))

  pub filled_on : (ms : List Bool) (k : ℕ) (x : Plug) → k < length xs → x ≡ get_or xs k x → AreMarks (IsFilled (state root (reverse (take k xs)))) ms → AreMarks (IsFilled (state root (reverse (take (k + 1) xs)))) (set ms x.hole true)
  filled_on ms k x l e are =
      subst (λ ks. AreMarks (IsFilled (state root ks)) (set ms x.hole true)) (sym (next_back xs k x l e))
      (marks_add (IsFilled (state root (reverse (take k xs)))) (IsFilled (state root (x ∷ reverse (take k xs)))) ms x.hole are (filled_more root x (reverse (take k xs))))

  pub marks_end : (P : State → ℕ → Type 0) (ms : List Bool) (k : ℕ) → length xs ≤ k → AreMarks (P (state root (reverse (take k xs)))) ms → AreMarks (P (state root (reverse xs))) ms
  marks_end P ms k l are = subst (λ zs. AreMarks (P (state root (reverse zs))) ms) (take_whole xs k l) are

-- the openings in turn
module _ (f : Frame) (s : State) where
  abbrev pub AreListed : ℕ → List Opening → Type 0
  AreListed k opens = (o : Opening) → Contains opens o ↔ (Contains (take k f.openings) o × IsOpen f s o)

  pub listed_first : AreListed 0 []
  listed_first o = (λ c. absurd (in_of [] o c), λ w. absurd (in_of [] o (subst (λ zs. Contains zs o) (none f.openings) w.0)))
    where
      none : (zs : List Opening) → take 0 zs ≡ []
      none [] = refl
      none (z ∷ zs) = refl

  one_side : (xs : List Opening) (x y : Opening) → Contains (xs ++ x ∷ []) y → Contains xs y ⊎ (y ≡ x)
  one_side xs x y c = by_side (Contains-append_cases xs (x ∷ []) y c)
    where
      by_side : Contains xs y ⊎ Contains (x ∷ []) y → Contains xs y ⊎ (y ≡ x)
      by_side (inl d) = inl d
      by_side (inr d) = inr (by_only (in_of (x ∷ []) y d))
        where
          by_only : In y (x ∷ []) → y ≡ x
          by_only (inl e) = e
          by_only (inr j) = absurd j

  at_end : (xs : List Opening) (x : Opening) → Contains (xs ++ x ∷ []) x
  at_end [] x = contains_of (x ∷ []) x (inl refl)
  at_end (y ∷ xs) x = contains_of (y ∷ (xs ++ x ∷ [])) x (inr (in_of (xs ++ x ∷ []) x (at_end xs x)))

  module _ (k : ℕ) (x : Opening) (l : k < length f.openings) (e : x ≡ get_or f.openings k x) (r : Bool) (same : IsTrue r ↔ (IsPlaced s x.label × (IsFilled s x.hole → ⊥))) where
    next : take (k + 1) f.openings ≡ take k f.openings ++ x ∷ []
    next = take_more f.openings k x l ∙ ap (λ y. take k f.openings ++ y ∷ []) (sym e)

    pub listed_more : (opens new : List Opening) → (r ≡ true → new ≡ opens ++ x ∷ []) → (r ≡ false → new ≡ opens) → AreListed k opens → AreListed (k + 1) new
    listed_more opens new put kept are = by_test r refl
      where
        by_test : (b : Bool) → b ≡ r → AreListed (k + 1) new
        by_test true q = λ o. (
          λ c. by_in o (one_side opens x o (subst (λ zs. Contains zs o) (put (sym q)) c)),
          λ w. subst (λ zs. Contains zs o) (sym (put (sym q))) (by_out o w.1 (one_side (take k f.openings) x o (subst (λ zs. Contains zs o) next w.0))),
        )
          where
            is_open : IsOpen f s x
            is_open = let w = same.0 (sym q) in record { there = there_at f.openings k x l e; placed = w.0; free = w.1 }

            by_in : (o : Opening) → Contains opens o ⊎ (o ≡ x) → Contains (take (k + 1) f.openings) o × IsOpen f s o
            by_in o (inl c) = let w = (are o).0 c in (subst (λ zs. Contains zs o) (sym next) (Contains-append_left (take k f.openings) (x ∷ []) o w.0), w.1)
            by_in o (inr m) =
                (subst (λ zs. Contains zs o) (sym next) (subst (Contains (take k f.openings ++ x ∷ [])) (sym m) (at_end (take k f.openings) x)), subst (IsOpen f s) (sym m) is_open)

            by_out : (o : Opening) → IsOpen f s o → Contains (take k f.openings) o ⊎ (o ≡ x) → Contains (opens ++ x ∷ []) o
            by_out o w (inl c) = Contains-append_left opens (x ∷ []) o ((are o).1 (c, w))
            by_out o w (inr m) = subst (Contains (opens ++ x ∷ [])) (sym m) (at_end opens x)
        by_test false q = λ o. (
          λ c. (let w = (are o).0 (subst (λ zs. Contains zs o) (kept (sym q)) c) in (subst (λ zs. Contains zs o) (sym next) (Contains-append_left (take k f.openings) (x ∷ []) o w.0), w.1)),
          λ w. subst (λ zs. Contains zs o) (sym (kept (sym q))) (by_out o w.1 (one_side (take k f.openings) x o (subst (λ zs. Contains zs o) next w.0))),
        )
          where
            by_out : (o : Opening) → IsOpen f s o → Contains (take k f.openings) o ⊎ (o ≡ x) → Contains opens o
            by_out o w (inl c) = (are o).1 (c, w)
            by_out o w (inr m) = absurd (let v = subst (IsOpen f s) m w in let y : true ≡ false = sym (same.1 (v.placed, v.free)) ∙ sym q in cc)

  pub listed_end : (k : ℕ) (opens : List Opening) → length f.openings ≤ k → AreListed k opens → (o : Opening) → Contains opens o ↔ IsOpen f s o
  listed_end k opens l are o = (λ c. ((are o).0 c).1, λ w. (are o).1 (subst (λ zs. Contains zs o) (sym (take_whole f.openings k l)) w.there, w))

-- the open holes in turn
module _ (bodies : List Bool) (opens : List Opening) where
  pub begun_first : (below under chain : List HoleSet) → AreBegun bodies opens 0 below under chain
  begun_first below under chain = record {
    hole = λ i o l a. absurd (omega (arith, l));
    label = λ i o l a. absurd (omega (arith, l));
    body = λ i o l a m. absurd (omega (arith, l));
  }

  pub begun_more : (n : ℕ) (x : Opening) (below below2 under under2 chain chain2 : List HoleSet) → x ≡ get_or opens n x → Grows below below2 → Grows under under2 → Grows chain chain2
      → has (set_at below2 x.hole) n ≡ true → has (set_at under2 x.label) n ≡ true → (slice_index_or bodies x.hole false ≡ true → has (set_at chain2 x.label) n ≡ true)
      → AreBegun bodies opens n below under chain → AreBegun bodies opens (n + 1) below2 under2 chain2
  begun_more n x below below2 under under2 chain chain2 e gb gu gc h l b are = record {
    hole = λ i o lt a. by_hole i o a (cases_lt i n) lt;
    label = λ i o lt a. by_label i o a (cases_lt i n) lt;
    body = λ i o lt a m. by_body i o a m (cases_lt i n) lt;
  }
    where
      last : (i : ℕ) → n ≤ i → i < n + 1 → n ≡ i
      last i m lt = omega (arith, m, lt)

      is : (i : ℕ) (o : Opening) → IsAt opens i o → n ≡ i → x ≡ o
      is i o a m = e ∙ (ap (λ j. get_or opens j x) m ∙ (get_or_default opens i x o a.0 ∙ a.1))

      by_hole : (i : ℕ) (o : Opening) → IsAt opens i o → (i < n) ⊎ (n ≤ i) → i < n + 1 → has (set_at below2 o.hole) i ≡ true
      by_hole i o a (inl k) lt = gb o.hole i (are.hole i o k a)
      by_hole i o a (inr k) lt = subst (λ j. has (set_at below2 o.hole) j ≡ true) (last i k lt) (subst (λ (z : Opening). has (set_at below2 z.hole) n ≡ true) (is i o a (last i k lt)) h)

      by_label : (i : ℕ) (o : Opening) → IsAt opens i o → (i < n) ⊎ (n ≤ i) → i < n + 1 → has (set_at under2 o.label) i ≡ true
      by_label i o a (inl k) lt = gu o.label i (are.label i o k a)
      by_label i o a (inr k) lt = subst (λ j. has (set_at under2 o.label) j ≡ true) (last i k lt) (subst (λ (z : Opening). has (set_at under2 z.label) n ≡ true) (is i o a (last i k lt)) l)

      by_body : (i : ℕ) (o : Opening) → IsAt opens i o → slice_index_or bodies o.hole false ≡ true → (i < n) ⊎ (n ≤ i) → i < n + 1 → has (set_at chain2 o.label) i ≡ true
      by_body i o a m (inl k) lt = gc o.label i (are.body i o k a m)
      by_body i o a m (inr k) lt =
          let q = is i o a (last i k lt) in
          subst (λ j. has (set_at chain2 o.label) j ≡ true) (last i k lt)
          (subst (λ (z : Opening). has (set_at chain2 z.label) n ≡ true) q (b (subst (λ (z : Opening). slice_index_or bodies z.hole false ≡ true) (sym q) m)))

  pub begun_end : (n : ℕ) (below under chain : List HoleSet) → length opens ≤ n → AreBegun bodies opens n below under chain → AreBegun bodies opens (length opens) below under chain
  begun_end n below under chain l are = record {
    hole = λ i o lt a. are.hole i o (omega (arith, l, lt)) a;
    label = λ i o lt a. are.label i o (omega (arith, l, lt)) a;
    body = λ i o lt a m. are.body i o (omega (arith, l, lt)) a m;
  }

-- The plugs from the last to the first: what is still to do for each open hole that a set had, from some label that has it now.
module _ (owner : List ℕ) (bodies : List Bool) (whole : List Plug) where
  abbrev pub Upward : List Plug → List HoleSet → ℕ → ℕ → Type 0
  Upward rest under place h = (at : ℕ) × (has (set_at under at) place ≡ true) × (is_on_way owner h at rest ≡ true)

  abbrev pub Onward : List Plug → List HoleSet → ℕ → ℕ → Type 0
  Onward rest chain place a = (at : ℕ) × (has (set_at chain at) place ≡ true) × (is_by_bodies owner bodies a at rest ≡ true)

  pub record AreClimbed (rest : List Plug) (below0 under0 chain0 below under chain : List HoleSet) : Type 0 where
    pub ways : (place l h : ℕ) → has (set_at under0 l) place ≡ true → is_on_way owner h l whole ≡ true → (has (set_at below h) place ≡ true) ⊎ Upward rest under place h
    pub kept : Grows below0 below
    pub bodies_on : (place l a : ℕ) → has (set_at chain0 l) place ≡ true → is_by_bodies owner bodies a l whole ≡ true → Onward rest chain place a

  pub climbed_first : (below under chain : List HoleSet) → AreClimbed whole below under chain below under chain
  climbed_first below under chain = record {
    ways = λ place l h i m. inr (l, i, m);
    kept = λ number place i. i;
    bodies_on = λ place l a i m. (l, i, m);
  }

  module _ (x : Plug) (rest : List Plug) (below0 under0 chain0 below under chain below2 under2 chain2 : List HoleSet)
      (hole : (place : ℕ) → has (set_at under x.label) place ≡ true → has (set_at below2 x.hole) place ≡ true)
      (label : (place : ℕ) → has (set_at under x.label) place ≡ true → has (set_at under2 (slice_index owner x.hole)) place ≡ true)
      (body : slice_index_or bodies x.hole false ≡ true → (place : ℕ) → has (set_at chain x.label) place ≡ true → has (set_at chain2 (slice_index owner x.hole)) place ≡ true)
      (gb : Grows below below2) (gu : Grows under under2) (gc : Grows chain chain2) where
    way_on : (place h : ℕ) → Upward (x ∷ rest) under place h → (has (set_at below2 h) place ≡ true) ⊎ Upward rest under2 place h
    way_on place h (at, i, m) = by_label (x.label == at) refl m
      where
        by_hole : (b : Bool) → b ≡ (x.hole == h) → has (set_at under x.label) place ≡ true → (if b then true else is_on_way owner h (slice_index owner x.hole) rest) ≡ true → (has (set_at below2 h) place ≡ true) ⊎ Upward rest under2 place h
        by_hole true q j w = inl (subst (λ n. has (set_at below2 n) place ≡ true) (eqb-true x.hole h (sym q)) (hole place j))
        by_hole false q j w = inr (slice_index owner x.hole, label place j, w)

        by_label : (b : Bool) → b ≡ (x.label == at) → (if b then (if x.hole == h then true else is_on_way owner h (slice_index owner x.hole) rest) else is_on_way owner h at rest) ≡ true → (has (set_at below2 h) place ≡ true) ⊎ Upward rest under2 place h
        by_label true q w = by_hole (x.hole == h) refl (subst (λ n. has (set_at under n) place ≡ true) (sym (eqb-true x.label at (sym q))) i) w
        by_label false q w = inr (at, gu at place i, w)

    body_on : (place a : ℕ) → Onward (x ∷ rest) chain place a → Onward rest chain2 place a
    body_on place a (at, i, m) = by_first (a == at) refl m
      where
        by_mark : (b : Bool) → b ≡ slice_index_or bodies x.hole false → has (set_at chain x.label) place ≡ true → (if b then (is_by_bodies owner bodies a (slice_index owner x.hole) rest) else false) ≡ true → Onward rest chain2 place a
        by_mark true q j w = (slice_index owner x.hole, body (sym q) place j, w)
        by_mark false q j w = let z : false ≡ true = w in absurd (cc)

        by_label : (b : Bool) → b ≡ (x.label == at) → (if b then (if slice_index_or bodies x.hole false then (is_by_bodies owner bodies a (slice_index owner x.hole) rest) else false) else is_by_bodies owner bodies a at rest) ≡ true → Onward rest chain2 place a
        by_label true q w = by_mark (slice_index_or bodies x.hole false) refl (subst (λ n. has (set_at chain n) place ≡ true) (sym (eqb-true x.label at (sym q))) i) w
        by_label false q w = (at, gc at place i, w)

        by_first : (b : Bool) → b ≡ (a == at) → (if b then true else (if x.label == at then (if slice_index_or bodies x.hole false then (is_by_bodies owner bodies a (slice_index owner x.hole) rest) else false) else is_by_bodies owner bodies a at rest)) ≡ true → Onward rest chain2 place a
        by_first true q w = (at, gc at place i, by_here owner bodies a at rest (eqb-true a at (sym q)))
        by_first false q w = by_label (x.label == at) refl w

    climbed_step : AreClimbed (x ∷ rest) below0 under0 chain0 below under chain → AreClimbed rest below0 under0 chain0 below2 under2 chain2
    climbed_step are = record {
      ways = λ place l h i m. by_side place h (are.ways place l h i m);
      kept = λ number place i. gb number place (are.kept number place i);
      bodies_on = λ place l a i m. body_on place a (are.bodies_on place l a i m);
    }
      where
        by_side : (place h : ℕ) → (has (set_at below h) place ≡ true) ⊎ Upward (x ∷ rest) under place h → (has (set_at below2 h) place ≡ true) ⊎ Upward rest under2 place h
        by_side place h (inl i) = inl (gb h place i)
        by_side place h (inr w) = way_on place h w

  pub climbed_more : (xs : List Plug) (i : ℕ) (x : Plug) (below0 under0 chain0 below under chain below2 under2 chain2 : List HoleSet) → 0 < i → i ≤ length xs → x ≡ get_or xs (i - 1) x
      → ((place : ℕ) → has (set_at under x.label) place ≡ true → has (set_at below2 x.hole) place ≡ true)
      → ((place : ℕ) → has (set_at under x.label) place ≡ true → has (set_at under2 (slice_index owner x.hole)) place ≡ true)
      → (slice_index_or bodies x.hole false ≡ true → (place : ℕ) → has (set_at chain x.label) place ≡ true → has (set_at chain2 (slice_index owner x.hole)) place ≡ true)
      → Grows below below2 → Grows under under2 → Grows chain chain2
      → AreClimbed (reverse (take i xs)) below0 under0 chain0 below under chain → AreClimbed (reverse (take (i - 1) xs)) below0 under0 chain0 below2 under2 chain2
  climbed_more xs i x below0 under0 chain0 below under chain below2 under2 chain2 some within e hole label body gb gu gc are =
      climbed_step x (reverse (take (i - 1) xs)) below0 under0 chain0 below under chain below2 under2 chain2 hole label body gb gu gc
      (subst (λ ks. AreClimbed ks below0 under0 chain0 below under chain) (back xs i x some within e) are)

  module _ (below0 under0 chain0 below under chain : List HoleSet) (are : AreClimbed [] below0 under0 chain0 below under chain) where
    pub ways_end : (place l h : ℕ) → has (set_at under0 l) place ≡ true → is_on_way owner h l whole ≡ true → has (set_at below h) place ≡ true
    ways_end place l h i m = by_side (are.ways place l h i m)
      where
        by_side : (has (set_at below h) place ≡ true) ⊎ Upward [] under place h → has (set_at below h) place ≡ true
        by_side (inl j) = j
        by_side (inr w) = let z : false ≡ true = w.2 in absurd (cc)

    pub bodies_end : (place l a : ℕ) → has (set_at chain0 l) place ≡ true → is_by_bodies owner bodies a l whole ≡ true → has (set_at chain a) place ≡ true
    bodies_end place l a i m =
        let w = are.bodies_on place l a i m in
        subst (λ n. has (set_at chain n) place ≡ true) (sym (eqb-true a w.0 w.2)) w.1

-- what is seen
module _ (n : Net) (t : Trail) (net : IsNet n) (going : IsGoing (frame_in n.parts) t) where
  abbrev f : Frame
  f = frame_in n.parts

  pub seen_placed : (placed : List Bool) → length placed ≡ length n.is_label.items → AreMarks (IsPlaced (state_of t)) placed → (l : ℕ) → Contains n.parts.labels.items l → (slice_index_or placed l false ≡ true) ↔ IsPlaced (state_of t) l
  seen_placed placed size are l is = are l (by_size (cases_lt l (length n.is_label.items)))
    where
      by_size : (l < length n.is_label.items) ⊎ (length n.is_label.items ≤ l) → l < length placed
      by_size (inl lt) = omega (arith, lt, size)
      by_size (inr le) = absurd (let a = (net.is_label l).1 is in let b = get_or_past n.is_label.items l false le in let z : true ≡ false = sym a ∙ b in cc)

  module _ (opens : List Opening) (below0 under0 chain0 below chain : List HoleSet) (begun : AreBegun n.is_body.items opens (length opens) below0 under0 chain0) where
    pub seen_below : ((place l h : ℕ) → has (set_at under0 l) place ≡ true → is_on_way n.owner.items h l (path t) ≡ true → has (set_at below h) place ≡ true) → Grows below0 below → AreBelow f (state_of t) opens below
    seen_below ways grows place o h a (inl e) = subst (λ k. has (set_at below k) place ≡ true) e (grows o.hole place (begun.hole place o a.0 a))
    seen_below ways grows place o h a (inr w) = ways place o.label h (begun.label place o a.0 a) ((on_way n t net going h o.label).1 w)

    pub seen_chain : ((place l a : ℕ) → has (set_at chain0 l) place ≡ true → is_by_bodies n.owner.items n.is_body.items a l (path t) ≡ true → has (set_at chain a) place ≡ true) → AreReached f (state_of t) opens chain
    seen_chain ways place o q a at c e d w =
        let marked : slice_index_or n.is_body.items o.hole false ≡ true = subst (λ k. slice_index_or n.is_body.items k false ≡ true) d (net.body q c) in
        ways place o.label a (begun.body place o at.0 at marked) ((by_bodies n t net going a o.label).1 w)

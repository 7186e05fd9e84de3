-- The labels that are tried in an open hole.
use Rattle.std.proofs.Common.{ℕ, ◌≡◌, ◌<◌, ◌≤◌, ◌+◌, ◌-◌, inl, inr, ◌∙◌, Bool, true, false, List, [], ◌∷◌, ◌++◌, append_assoc, length, get_or, take, drop, refl, sym, ap, subst, arith, ◌==◌}
use Rattle.std.specs.Prelude.{Contains, if◌then◌else◌, slice_index_or}
use Rattle.std.proofs.lemmas.Bool.{eq-eqb, eqb-true}
use Rattle.std.proofs.lemmas.List.{take_more, get_or-drop, length-drop}
use Rattle.std.proofs.Math.Seq.{drop-append_seam}
use Rattle.scope_model.specs.declared.Opening.{Opening}
use Rattle.scope_model.specs.Frames.{Frame}
use Rattle.scope_model.specs.Readings.{Plugged, IsLabel, label_at, IsReading}
use Rattle.scope_model.specs.States.{State, IsPlaced, IsOpen, Extends, AreOnce, IsDead}
use Rattle.scope_model.proofs.Lists.{In, in_of, contains_of}
use Rattle.scope_model.proofs.Led.{hole_label, led_once_in}
use Rattle.scope_model.proofs.Under.{homes}
use Rattle.scope_model.proofs.Whole.{hole_is}
use Rattle.scope_resolve.specs.declared.hole_set.HoleSet.{HoleSet}
use Rattle.scope_resolve.specs.declared.nets.Net.{Net}
use Rattle.scope_resolve.specs.declared.ways.Ways.{Ways}
use Rattle.scope_resolve.specs.Inner.Nets.{IsNet, frame_in}
use Rattle.scope_resolve.specs.Inner.Filling.{AreFound, GoesOn, HasOneOf}
use Rattle.scope_resolve.specs.Inner.Masks.{has, set_at, IsAt}
use Rattle.scope_resolve.specs.Inner.Pruning.{IsSeen, AreSeats, AreCandidates, ArePut, suits, may_stand, those}
use Rattle.scope_resolve.proofs.Founds.{found_none}
use Rattle.scope_resolve.proofs.Planning.{own_label}
use Rattle.scope_resolve.proofs.Tests.{yes, no}

-- those that pass a test
module _ (test : ℕ → Bool) where
  those_both : (xs ys : List ℕ) → those test (xs ++ ys) ≡ those test xs ++ those test ys
  those_both [] ys = refl
  those_both (x ∷ xs) ys = by_test (test x) (those_both xs ys)
    where
      by_test : (b : Bool) → those test (xs ++ ys) ≡ those test xs ++ those test ys → (if b then x ∷ those test (xs ++ ys) else those test (xs ++ ys)) ≡ (if b then x ∷ those test xs else those test xs) ++ those test ys
      by_test true e = ap (λ zs. x ∷ zs) e
      by_test false e = e

  of_those : (ls : List ℕ) (l : ℕ) → In l (those test ls) → In l ls × (test l ≡ true)
  of_those [] l i = absurd i
  of_those (x ∷ ls) l i = by_test (test x) refl i (of_those ls l)
    where
      by_test : (b : Bool) → b ≡ test x → In l (if b then x ∷ those test ls else those test ls) → (In l (those test ls) → In l ls × (test l ≡ true)) → In l (x ∷ ls) × (test l ≡ true)
      by_test true q (inl e) rest = (inl e, ap test e ∙ sym q)
      by_test true q (inr j) rest = let r = rest j in (inr r.0, r.1)
      by_test false q j rest = let r = rest j in (inr r.0, r.1)

  in_those : (ls : List ℕ) (l : ℕ) → In l ls → test l ≡ true → In l (those test ls)
  in_those [] l i e = absurd i
  in_those (x ∷ ls) l i e = by_test (test x) refl i (λ j. in_those ls l j e)
    where
      by_test : (b : Bool) → b ≡ test x → In l (x ∷ ls) → (In l ls → In l (those test ls)) → In l (if b then x ∷ those test ls else those test ls)
      by_test true q (inl d) rest = inl d
      by_test true q (inr j) rest = inr (rest j)
      by_test false q (inl d) rest = absurd (let z : true ≡ false = sym e ∙ (ap test d ∙ sym q) in cc)
      by_test false q (inr j) rest = rest j

  once_those : (ls : List ℕ) → AreOnce ls → AreOnce (those test ls)
  once_those [] o = tt
  once_those (x ∷ ls) o = by_test (test x) (once_those ls o.1)
    where
      by_test : (b : Bool) → AreOnce (those test ls) → AreOnce (if b then x ∷ those test ls else those test ls)
      by_test true rest = (λ c. o.0 (contains_of ls x (of_those ls x (in_of (those test ls) x c)).0), rest)
      by_test false rest = rest

  one_those : (x : ℕ) → those test (x ∷ []) ≡ (if test x then x ∷ [] else [])
  one_those x = refl

  pub those_on : (ls : List ℕ) (k x : ℕ) (b : Bool) (old mid new : List ℕ) → k < length ls → x ≡ get_or ls k x → b ≡ test x → (b ≡ true → new ≡ mid ++ x ∷ []) → (b ≡ false → new ≡ mid)
      → mid ≡ old ++ those test (take k ls) → new ≡ old ++ those test (take (k + 1) ls)
  those_on ls k x b old mid new lt at t put keep so = by_test b t put keep
    where
      next : those test (take (k + 1) ls) ≡ those test (take k ls) ++ those test (x ∷ [])
      next = ap (those test) (take_more ls k x lt ∙ ap (λ v. take k ls ++ v ∷ []) (sym at)) ∙ those_both (take k ls) (x ∷ [])

      whole : old ++ those test (take (k + 1) ls) ≡ (old ++ those test (take k ls)) ++ those test (x ∷ [])
      whole = ap (λ zs. old ++ zs) next ∙ sym (append_assoc old (those test (take k ls)) (those test (x ∷ [])))

      nil : (xs : List ℕ) → xs ++ [] ≡ xs
      nil [] = refl
      nil (y ∷ xs) = ap (λ zs. y ∷ zs) (nil xs)

      by_test : (c : Bool) → c ≡ test x → (c ≡ true → new ≡ mid ++ x ∷ []) → (c ≡ false → new ≡ mid) → new ≡ old ++ those test (take (k + 1) ls)
      by_test true q p w = p refl ∙ (ap (λ zs. zs ++ x ∷ []) so ∙ (ap (λ zs. (old ++ those test (take k ls)) ++ zs) (sym (yes (test x) (x ∷ []) [] (sym q))) ∙ sym whole))
      by_test false q p w = w refl ∙ (so ∙ (sym (nil (old ++ those test (take k ls))) ∙ (ap (λ zs. (old ++ those test (take k ls)) ++ zs) (sym (no (test x) (x ∷ []) [] (sym q))) ∙ sym whole)))

-- the test of a label
module _ (placed : List Bool) (sets : List HoleSet) (is_label : List Bool) (place hole l : ℕ) where
  abbrev is_there : Bool
  is_there = slice_index_or placed l false

  abbrev in_mask : Bool
  in_mask = has (set_at sets l) place

  abbrev suited : Bool
  suited = suits is_label hole l

  pub stands_new : may_stand placed sets is_label place hole l ≡ true → is_there ≡ false
  stands_new = by_test is_there refl
    where
      by_test : (b : Bool) → b ≡ is_there → (if b then false else (if in_mask then suited else false)) ≡ true → is_there ≡ false
      by_test true q e = let z : false ≡ true = e in absurd (cc)
      by_test false q e = sym q

  pub stands_own : may_stand placed sets is_label place hole l ≡ true → suited ≡ true
  stands_own = by_test is_there in_mask
    where
      by_test : (b c : Bool) → (if b then false else (if c then suited else false)) ≡ true → suited ≡ true
      by_test true c e = let z : false ≡ true = e in absurd (cc)
      by_test false true e = e
      by_test false false e = let z : false ≡ true = e in absurd (cc)

  pub stands : is_there ≡ false → in_mask ≡ true → suited ≡ true → may_stand placed sets is_label place hole l ≡ true
  stands a b c = no is_there false (if in_mask then suited else false) a ∙ (yes in_mask suited false b ∙ c)

suits_of : (is_label : List Bool) (hole l : ℕ) → suits is_label hole l ≡ true → slice_index_or is_label hole false ≡ true → l ≡ hole
suits_of is_label hole l e y = eqb-true l hole (sym (yes (slice_index_or is_label hole false) (l == hole) true y) ∙ e)

of_suits : (is_label : List Bool) (hole l : ℕ) → (slice_index_or is_label hole false ≡ true → l ≡ hole) → suits is_label hole l ≡ true
of_suits is_label hole l w = by_test (slice_index_or is_label hole false) refl
  where
    by_test : (b : Bool) → b ≡ slice_index_or is_label hole false → (if b then l == hole else true) ≡ true
    by_test true q = eq-eqb l hole (w (sym q))
    by_test false q = refl

either : (b : Bool) → (b ≡ true → ⊥) → b ≡ false
either true w = absurd (w refl)
either false w = refl

module _ (n : Net) (net : IsNet n) (s : State) (w : Ways) (seen : IsSeen (frame_in n.parts) s w) (sets : List HoleSet) (seats : AreSeats (frame_in n.parts) s w.opens.items sets) (place : ℕ) (o : Opening) (there : IsAt w.opens.items place o) where
  abbrev f : Frame
  f = frame_in n.parts

  abbrev test : ℕ → Bool
  test = may_stand w.placed.items sets n.is_label.items place o.hole

  is_open : IsOpen f s o
  is_open = (seen.opens o).0 (place, there.0, there.1)

  candidates : AreCandidates f s o.hole (those test n.labels.items)
  candidates = record {
    once = once_those test n.labels.items net.once;
    labels = λ l c. (net.labels l).0 (contains_of n.labels.items l (passed l c).0);
    new = λ l c p. never l c p;
    own = λ l c is. suits_of n.is_label.items o.hole l (stands_own w.placed.items sets n.is_label.items place o.hole l (passed l c).1) ((net.is_label o.hole).1 is);
    all = all;
  }
    where
      passed : (l : ℕ) → Contains (those test n.labels.items) l → In l n.labels.items × (test l ≡ true)
      passed l c = of_those test n.labels.items l (in_of (those test n.labels.items) l c)

      never : (l : ℕ) → Contains (those test n.labels.items) l → IsPlaced s l → ⊥
      never l c p =
          let q = passed l c in
          let is : IsLabel f l = (net.labels l).0 (contains_of n.labels.items l q.0) in
          let z : true ≡ false = sym ((seen.placed l is).1 p) ∙ stands_new w.placed.items sets n.is_label.items place o.hole l q.1 in
          absurd (cc)

      all : (p : Plugged) → IsReading f p → Extends s p → Contains (those test n.labels.items) (label_at p o.hole)
      all p r x =
          let l = label_at p o.hole in
          let is : IsLabel f l = hole_label f p r o (in_of f.openings o is_open.there) in
          let h = homes f s p (led_once_in f p r) seen.top x in
          let free = either (slice_index_or w.placed.items l false) (λ y. h.apart o l (h.filled o is_open) ((seen.placed l is).0 y)) in
          let own = of_suits n.is_label.items o.hole l (λ y. own_label f p r o.hole (hole_is f o o.hole is_open.there refl) ((net.is_label o.hole).0 y)) in
          contains_of (those test n.labels.items) l
          (in_those test n.labels.items l (in_of n.labels.items l ((net.labels l).1 is)) (stands w.placed.items sets n.is_label.items place o.hole l free (seats p r x place o there) own))

  pub put : (hole : ℕ) (old new : List ℕ) → o.hole ≡ hole → new ≡ old ++ those (may_stand w.placed.items sets n.is_label.items place hole) n.labels.items → ArePut f s hole old new
  put hole old new e is = subst (λ h. new ≡ old ++ those (may_stand w.placed.items sets n.is_label.items place h) n.labels.items → ArePut f s h old new) e here is
    where
      here : new ≡ old ++ those test n.labels.items → ArePut f s o.hole old new
      here d =
          let q : drop (length old) new ≡ those test n.labels.items = ap (drop (length old)) d ∙ drop-append_seam old (those test n.labels.items) in
          record {
            open_hole = record { opening = o; open_hole = is_open; is = refl };
            is = d ∙ ap (λ zs. old ++ zs) (sym q);
            are = subst (AreCandidates f s o.hole) (sym q) candidates;
          }

-- the candidates in turn
pub turn_at : (xs : List ℕ) (from k x : ℕ) → from ≤ k → k < length xs → x ≡ get_or xs k x → (k - from < length (drop from xs)) × (x ≡ get_or (drop from xs) (k - from) x)
turn_at xs from k x le lt e =
    let n = length-drop from xs in
    let m : from + (k - from) ≡ k = omega (arith, le) in
    (omega (arith, n, le, lt), e ∙ sym (get_or-drop from xs (k - from) x ∙ ap (λ j. get_or xs j x) m))

pub turn_end : (xs : List ℕ) (from k : ℕ) → length xs ≤ k → length (drop from xs) ≤ k - from
turn_end xs from k le = let n = length-drop from xs in omega (arith, n, le)

pub dead_none : (f : Frame) (s : State) (max : ℕ) (old : List Plugged) → IsDead f s → AreFound f (GoesOn s) max true old old
dead_none f s max old dead = found_none f max (GoesOn s) old (λ p r x. dead p r x)

none_first : (xs : List ℕ) → take 0 xs ≡ []
none_first [] = refl
none_first (x ∷ xs) = refl

pub turn_first : (f : Frame) (s : State) (hole max from : ℕ) (xs : List ℕ) (old : List Plugged) → AreFound f (HasOneOf s hole (take (from - from) (drop from xs))) max true old old
turn_first f s hole max from xs old =
    let e : from - from ≡ 0 = omega arith in
    found_none f max (HasOneOf s hole (take (from - from) (drop from xs))) old (λ p r h. in_of [] _ (subst (λ ls. Contains ls (label_at p hole)) (ap (λ j. take j (drop from xs)) e ∙ none_first (drop from xs)) h.1))

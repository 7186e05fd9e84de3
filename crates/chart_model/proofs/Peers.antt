-- Peers and frost, where an index gives the rows to look at.
use Rattle.std.specs.Prelude.{◌≡◌, ℕ, ◌+◌, ◌<◌, ◌≤◌, Bool, true, false, Option, Some, None, List, [], ◌∷◌, length, refl, slice_set, if◌then◌else◌}
use Rattle.std.specs.List.{find, filter}
use Rattle.std.proofs.Common.{zero, suc, ap, subst, sym, ◌∙◌, arith, cond}
use Rattle.chart_model.specs.Calculus.{Calculus}
use Rattle.chart_model.specs.Chart.{Row, first_peer, frosted}
use Rattle.chart_model.specs.Picked.{Rises, next_is}
use Rattle.chart_model.specs.At.{At, here, there, at_below, at_one, at_found}
use Rattle.chart_model.proofs.Standing.{first_at, no_first, Frost, written, frozen, stays, beyond, at_frost, length-frosted}
use Rattle.chart_model.proofs.Gather.{Either, left, right}

-- two lists with the same at each place are one
pub same_lists : {A : Type 0} (xs ys : List A) → length xs ≡ length ys → ((i : ℕ) (x y : A) → At xs i x → At ys i y → x ≡ y) → xs ≡ ys
same_lists [] [] l h = refl
same_lists [] (y ∷ ys) l h = absurd (omega arith)
same_lists (x ∷ xs) [] l h = absurd (omega arith)
same_lists (x ∷ xs) (y ∷ ys) l h = let e = h zero x y here here in let r = same_lists xs ys (omega arith) (λ i a b p q. h (suc i) a b (there p) (there q)) in cc

-- the same representative written at several places
abbrev pub write_all : List (Option ℕ) → List ℕ → ℕ → List (Option ℕ)
write_all into [] n = into
write_all into (p ∷ ps) n = write_all (slice_set into p (Some n)) ps n

set_length : (into : List (Option ℕ)) (p : ℕ) (v : Option ℕ) → length (slice_set into p v) ≡ length into
set_length [] p v = refl
set_length (x ∷ into) zero v = refl
set_length (x ∷ into) (suc p) v = ap suc (set_length into p v)

pub write_length : (into : List (Option ℕ)) (ps : List ℕ) (n : ℕ) → length (write_all into ps n) ≡ length into
write_length into [] n = refl
write_length into (p ∷ ps) n = write_length (slice_set into p (Some n)) ps n ∙ set_length into p (Some n)

set_one : (into : List (Option ℕ)) (p i : ℕ) (v x : Option ℕ) → At (slice_set into p v) i x → Either (At into i x) ((i ≡ p) × (v ≡ x))
set_one [] p i v x a = left a
set_one (y ∷ into) zero zero v x (here) = right (refl, refl)
set_one (y ∷ into) zero (suc i) v x (there a) = left (there a)
set_one (y ∷ into) (suc p) zero v x (here) = left here
set_one (y ∷ into) (suc p) (suc i) v x (there a) = elim (set_one into p i v x a) [ left b ↦ left (there b) | right b ↦ right (ap suc b.0, b.1) ]

-- what stands at a place afterwards was there, or was written
pub at_written : (into : List (Option ℕ)) (ps : List ℕ) (n i : ℕ) (x : Option ℕ) → At (write_all into ps n) i x → Either (At into i x) ((x ≡ Some n) × ((j : ℕ) × At ps j i))
at_written into [] n i x a = left a
at_written into (p ∷ ps) n i x a = elim (at_written (slice_set into p (Some n)) ps n i x a) [
  | left b ↦ elim (set_one into p i (Some n) x b) [ left c ↦ left c | right c ↦ right (sym c.1, (zero, subst (λ q. At (p ∷ ps) zero q) (sym c.0) here)) ]
  | right b ↦ right (b.0, (suc b.1.0, there b.1.1))
]

set_there : (into : List (Option ℕ)) (p : ℕ) (v x : Option ℕ) → At into p x → At (slice_set into p v) p v
set_there [] p v x a = elim a [ ]
set_there (y ∷ into) zero v x a = here
set_there (y ∷ into) (suc p) v x (there a) = there (set_there into p v x a)

keeps_written : (into : List (Option ℕ)) (ps : List ℕ) (n i : ℕ) → At into i (Some n) → At (write_all into ps n) i (Some n)
keeps_written into [] n i a = a
keeps_written into (p ∷ ps) n i a = keeps_written (slice_set into p (Some n)) ps n i (kept into p i a)
  where
    kept : (into : List (Option ℕ)) (p i : ℕ) → At into i (Some n) → At (slice_set into p (Some n)) i (Some n)
    kept [] p i a = a
    kept (y ∷ into) zero zero (here) = here
    kept (y ∷ into) zero (suc i) (there a) = there a
    kept (y ∷ into) (suc p) zero (here) = here
    kept (y ∷ into) (suc p) (suc i) (there a) = there (kept into p i a)

pub written_there : (into : List (Option ℕ)) (ps : List ℕ) (n i j : ℕ) (x : Option ℕ) → At ps j i → At into i x → At (write_all into ps n) i (Some n)
written_there into [] n i j x b a = elim b [ ]
written_there into (p ∷ ps) n _ zero x (here) a = keeps_written (slice_set into p (Some n)) ps n p (set_there into p (Some n) x a)
written_there into (p ∷ ps) n i (suc j) x (there b) a =
    let l : i < length (slice_set into p (Some n)) = let z = at_below a in omega (arith, set_length into p (Some n)) in
    let f = at_found (slice_set into p (Some n)) i l in
    written_there (slice_set into p (Some n)) ps n i j f.0 b f.1

module _ (t : ℕ → Bool) where
  kept_by : (x : ℕ) (ps : List ℕ) → ((i p : ℕ) → At (filter t ps) i p → (t p ≡ true) × ((n : ℕ) × At ps n p)) → (b : Bool) → t x ≡ b → (j p : ℕ) → At (cond b (x ∷ filter t ps) (filter t ps)) j p → (t p ≡ true) × ((i : ℕ) × At (x ∷ ps) i p)
  kept_by x ps go true e zero p (here) = (e, (zero, here))
  kept_by x ps go true e (suc i) p (there b) = let r = go i p b in (r.0, (suc r.1.0, there r.1.1))
  kept_by x ps go false e j p b = let r = go j p b in (r.0, (suc r.1.0, there r.1.1))

  -- what a filter keeps
  pub at_kept : (ps : List ℕ) (j p : ℕ) → At (filter t ps) j p → (t p ≡ true) × ((i : ℕ) × At ps i p)
  at_kept [] j p a = elim a [ ]
  at_kept (x ∷ ps) j p a = kept_by x ps (λ i q b. at_kept ps i q b) (t x) refl j p a

  pub kept_at : (ps : List ℕ) (i p : ℕ) → At ps i p → t p ≡ true → (j : ℕ) × At (filter t ps) j p
  kept_at [] i p a h = elim a [ ]
  kept_at (x ∷ ps) zero p (here) h = (zero, subst (λ b. At (cond b (p ∷ filter t ps) (filter t ps)) zero p) (sym h) here)
  kept_at (x ∷ ps) (suc i) p (there a) h = let r = kept_at ps i p a h in by_test r (t x)
    where
      by_test : ((j : ℕ) × At (filter t ps) j p) → (b : Bool) → (j : ℕ) × At (cond b (x ∷ filter t ps) (filter t ps)) j p
      by_test r true = (suc r.0, there r.1)
      by_test r false = r

  -- the first of rising numbers that passes is the least
  pub found_is : (ps : List ℕ) (p : ℕ) → find t ps ≡ Some p → (t p ≡ true) × ((i : ℕ) × At ps i p)
  found_is [] p h = absurd (cc)
  found_is (x ∷ ps) p h = by_test (t x) refl h (λ e. found_is ps p e)
    where
      by_test : (b : Bool) → t x ≡ b → cond b (Some x) (find t ps) ≡ Some p → (find t ps ≡ Some p → (t p ≡ true) × ((i : ℕ) × At ps i p)) → (t p ≡ true) × ((i : ℕ) × At (x ∷ ps) i p)
      by_test true e g go = let z : x ≡ p = cc in (subst (λ q. t q ≡ true) z e, (zero, subst (λ q. At (x ∷ ps) zero q) z here))
      by_test false e g go = let r = go g in (r.0, (suc r.1.0, there r.1.1))

  rises_above : (i : ℕ) (ps : List ℕ) → Rises i ps → (n x : ℕ) → At ps n x → i ≤ x
  rises_above i [] r n x a = elim a [ ]
  rises_above i (_ ∷ ps) (next_is p l after) zero x (here) = l
  rises_above i (_ ∷ ps) (next_is p l after) (suc n) x (there a) = let r = rises_above (p + 1) ps after n x a in omega arith

  pub found_least : (i : ℕ) (ps : List ℕ) → Rises i ps → (n p : ℕ) → At ps n p → t p ≡ true → (q : ℕ) × (find t ps ≡ Some q) × (q ≤ p)
  found_least i [] r n p a h = elim a [ ]
  found_least i (_ ∷ ps) (next_is x l after) zero p (here) h = (x, ap (λ b. cond b (Some x) (find t ps)) h, omega arith)
  found_least i (_ ∷ ps) (next_is x l after) (suc n) p (there a) h = by_test (t x) refl (found_least (x + 1) ps after n p a h)
    where
      by_test : (b : Bool) → t x ≡ b → ((q : ℕ) × (find t ps ≡ Some q) × (q ≤ p)) → (q : ℕ) × (cond (t x) (Some x) (find t ps) ≡ Some q) × (q ≤ p)
      by_test true e r = (x, ap (λ c. cond c (Some x) (find t ps)) e, let z = rises_above (x + 1) ps after n p a in omega arith)
      by_test false e r = (r.0, ap (λ c. cond c (Some x) (find t ps)) e ∙ r.1, r.2)

module _ {M C : Type 0} (k : Calculus M C) (test : Row M C → Bool) (t : ℕ → Bool) (rows : List (Row M C)) (into : List (Option ℕ)) where
  -- the test by number is that of live rows
  pub record Agrees : Type 0 where
    pub passes : (p : ℕ) (row : Row M C) → At rows p row → At into p None → test row ≡ true → t p ≡ true
    pub only : (p : ℕ) → t p ≡ true → (row : Row M C) × At rows p row × At into p None × (test row ≡ true)

  -- the numbers that an index gives miss no live row that passes
  abbrev pub Misses_none : List ℕ → Type 0
  Misses_none ps = (p : ℕ) (row : Row M C) → At rows p row → At into p None → test row ≡ true → (i : ℕ) × At ps i p

  least_first : (i : ℕ) (rows : List (Row M C)) (intos : List (Option ℕ)) (j : ℕ) (row : Row M C) → At rows j row → At intos j None → test row ≡ true → (r : ℕ) × (first_peer k test i rows intos ≡ Some r) × (r ≤ i + j)
  least_first i [] intos j row a b h = elim a [ ]
  least_first i (w ∷ rows) [] j row a b h = elim b [ ]
  least_first i (w ∷ rows) (_ ∷ intos) zero row (here) (here) h = (i, ap (λ b. if b then Some i else first_peer k test (i + 1) rows intos) h, omega arith)
  least_first i (w ∷ rows) (Some s ∷ intos) (suc j) row (there a) (there b) h = let r = least_first (i + 1) rows intos j row a b h in (r.0, r.1, omega (arith, r.2))
  least_first i (w ∷ rows) (None ∷ intos) (suc j) row (there a) (there b) h = by_test (test w) refl (least_first (i + 1) rows intos j row a b h)
    where
      by_test : (c : Bool) → test w ≡ c → ((r : ℕ) × (first_peer k test (i + 1) rows intos ≡ Some r) × (r ≤ (i + 1) + j)) → (r : ℕ) × ((if test w then Some i else first_peer k test (i + 1) rows intos) ≡ Some r) × (r ≤ i + suc j)
      by_test true e r = (i, ap (λ c. if c then Some i else first_peer k test (i + 1) rows intos) e, omega arith)
      by_test false e r = (r.0, ap (λ c. if c then Some i else first_peer k test (i + 1) rows intos) e ∙ r.1, omega (arith, r.2))

  pub first_is : (agrees : Agrees) (ps : List ℕ) → Rises 0 ps → Misses_none ps → first_peer k test 0 rows into ≡ find t ps
  first_is agrees ps rises misses = by_both (first_peer k test 0 rows into) refl (find t ps) refl
    where
      by_both : (o : Option ℕ) → first_peer k test 0 rows into ≡ o → (q : Option ℕ) → find t ps ≡ q → o ≡ q
      by_both None e None f = refl
      by_both None e (Some q) f =
          let g = found_is t ps q f in
          let r = agrees.only q g.0 in
          absurd (let z = no_first k test 0 rows into e q r.0 r.1 r.2 in let y = r.3 in cc)
      by_both (Some r) e None f =
          let w = first_at k test 0 r rows into e in
          let m = misses w.place w.row w.at w.free w.passes in
          let g = found_least t 0 ps rises m.0 w.place m.1 (agrees.passes w.place w.row w.at w.free w.passes) in
          absurd (let z = g.1 in cc)
      by_both (Some r) e (Some q) f =
          let w = first_at k test 0 r rows into e in
          let m = misses w.place w.row w.at w.free w.passes in
          let g = found_least t 0 ps rises m.0 w.place m.1 (agrees.passes w.place w.row w.at w.free w.passes) in
          let qg : q ≡ g.0 = let z = g.1 in cc in
          let o = agrees.only q (found_is t ps q f).0 in
          let h = least_first 0 rows into q o.0 o.1 o.2 o.3 in
          let rh : r ≡ h.0 = let z = h.1 in cc in
          let n : r ≡ q = omega (arith, w.number, g.2, qg, h.2, rh) in
          ap Some n

  pub frost_is : (agrees : Agrees) (ps : List ℕ) (n : ℕ) → length into ≡ length rows → Misses_none ps → write_all into (filter t ps) n ≡ frosted k test n rows into
  frost_is agrees ps n same misses =
      same_lists (write_all into (filter t ps) n) (frosted k test n rows into) (write_length into (filter t ps) n ∙ sym (length-frosted k test n rows into))
      (λ i x y a b. by_frost i x y a (at_frost k test n rows into i y b))
    where
      by_written : (i : ℕ) (x : Option ℕ) → Either (At into i x) ((x ≡ Some n) × ((j : ℕ) × At (filter t ps) j i)) → At into i None → (row : Row M C) → At rows i row → test row ≡ false → x ≡ None
      by_written i x (left a) free row at h = at_one a free
      by_written i x (right w) free row at h =
          let g = at_kept t ps w.1.0 i w.1.1 in
          let o = agrees.only i g.0 in
          absurd (let z : o.0 ≡ row = at_one o.1 at in let y = subst (λ v. test v ≡ true) z o.3 in cc)

      by_old : (i r : ℕ) (x : Option ℕ) → Either (At into i x) ((x ≡ Some n) × ((j : ℕ) × At (filter t ps) j i)) → At into i (Some r) → x ≡ Some r
      by_old i r x (left a) old = at_one a old
      by_old i r x (right w) old =
          let g = at_kept t ps w.1.0 i w.1.1 in
          let o = agrees.only i g.0 in
          absurd (let z = at_one o.2 old in cc)

      by_frost : (i : ℕ) (x y : Option ℕ) → At (write_all into (filter t ps) n) i x → Frost k test n rows into i y → x ≡ y
      by_frost i x y a (written r e b) = by_old i r x (at_written into (filter t ps) n i x a) b ∙ sym e
      by_frost i x y a (frozen row b c h e) =
          let m = misses i row b c h in
          let g = kept_at t ps m.0 i m.1 (agrees.passes i row b c h) in
          at_one a (written_there into (filter t ps) n i g.0 None g.1 c) ∙ sym e
      by_frost i x y a (stays row b c h e) = by_written i x (at_written into (filter t ps) n i x a) c row b h ∙ sym e
      by_frost i x y a (beyond l) = absurd (let z : i < length (write_all into (filter t ps) n) = at_below a in omega (arith, write_length into (filter t ps) n))

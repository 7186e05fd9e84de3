-- MRSs that are one but for the numbers of their variables stay so when the variables that stand nowhere go.
use Rattle.std.proofs.Common.{ℕ, zero, suc, ◌≡◌, ◌<◌, ◌≤◌, inl, inr, List, [], ◌∷◌, length, map, slice_index, sym, ◌∙◌, ap, subst, arith}
use Rattle.std.specs.Prelude.{All, Some}
use Rattle.std.specs.List.{slice_get, AllZip}
use Rattle.std.proofs.lemmas.Bool.{cases_order}
use Rattle.std.proofs.lemmas.List.{get_or-map, length-map}
use Rattle.std.proofs.lemmas.List.Elements.{All-weaker, All-map, Contains-get_or}
use Rattle.mrs_model.specs.Meanings.{Filler, of_var, of_text, Predication, Constraint, Meaning}
use Rattle.mrs_model.specs.Valid.{IsFiller, Stands}
use Rattle.mrs_model.specs.Renaming.{IsOneToOne}
use Rattle.mrs_reading.specs.Laws.{IsRenumbering}
use Rattle.transfer_model.specs.Applying.{IsTrimmed}
use Rattle.transfer_model.proofs.RenumberMoved.{moved_filler, moved_argument, moved_ep, moved_constraint, IsMoved, EpWithin, EndsWithin, IsWithin, valid_within, moved_by_list, moved_same, moved_then, moved_back, moved_stands, renumbering_of, eps_by_list, constraints_by_list}
use Rattle.transfer_model.proofs.RenumberPlaces.{place_in, IsPlace, placed, few}
use Rattle.transfer_model.proofs.RenumberBack.{Twins, turned}
use Rattle.transfer_model.proofs.RenumberSites.{zip_length}

-- what stands in an MRS is below a number where the function gives no greater ones
module _ (f : ℕ → ℕ) (p n : ℕ) (below : (v : ℕ) → v < p → f v < n) where
  filler_within : (x : Filler) → IsFiller p x → IsFiller n (moved_filler f x)
  filler_within (of_var v) l = below v l
  filler_within (of_text t) l = tt

  ep_moved_within : (e : Predication) → EpWithin p e → EpWithin n (moved_ep f e)
  ep_moved_within e w = record {
    label = below e.label w.label;
    args = All-map (λ a. IsFiller n a.filler) (moved_argument f) e.args
        (All-weaker (λ a. IsFiller p a.filler) (λ a. IsFiller n (moved_filler f a.filler)) (λ a h. filler_within a.filler h) e.args w.args);
  }

  ends_moved_within : (c : Constraint) → EndsWithin p c → EndsWithin n (moved_constraint f c)
  ends_moved_within c w = record { left = below c.left w.left; right = below c.right w.right }

  constraints_within : (cs ds : List Constraint) → map (moved_constraint f) cs ≡ ds → All (EndsWithin p) cs → All (EndsWithin n) ds
  constraints_within cs ds e w =
      subst (All (EndsWithin n)) e (All-map (EndsWithin n) (moved_constraint f) cs (All-weaker (EndsWithin p) (λ c. EndsWithin n (moved_constraint f c)) ends_moved_within cs w))

  within_moved : (x a : Meaning) → IsMoved f x a → IsWithin p x → IsWithin n a
  within_moved x a m w = record {
    top = subst (λ (z : ℕ). z < n) m.top (below x.top w.top);
    index = subst (λ (z : ℕ). z < n) m.index (below x.index w.index);
    eps = subst (All (EpWithin n)) m.eps (All-map (EpWithin n) (moved_ep f) x.eps (All-weaker (EpWithin p) (λ e. EpWithin n (moved_ep f e)) ep_moved_within x.eps w.eps));
    hcons = constraints_within x.hcons a.hcons m.hcons w.hcons;
    icons = constraints_within x.icons a.icons m.icons w.icons;
  }

zip_at : {A : Type 0} (as' : List A) (kept : List ℕ) (xs : List A) → AllZip (λ v x. slice_get as' v ≡ Some x) kept xs → (i : ℕ) → i < length kept → slice_get as' (slice_index kept i) ≡ slice_get xs i
zip_at as' [] [] h i l = absurd (omega (arith, l))
zip_at as' [] (x ∷ xs) h i l = absurd h
zip_at as' (v ∷ vs) [] h i l = absurd h
zip_at as' (v ∷ vs) (x ∷ xs) h zero l = h.0
zip_at as' (v ∷ vs) (x ∷ xs) h (suc i) l = zip_at as' vs xs h.1 i (omega (arith, l))

module _ (a x : Meaning) (kept : List ℕ) (t : IsTrimmed a x kept) where
  abbrev at_kept : ℕ → ℕ
  at_kept v = slice_index kept v

  pub trimmed_length : length kept ≡ length x.vars
  trimmed_length = zip_length (λ v z. slice_get a.vars v ≡ Some z) kept x.vars t.vars

  trimmed_at : (v : ℕ) → v < length kept → slice_get a.vars (at_kept v) ≡ slice_get x.vars v
  trimmed_at v l = zip_at a.vars kept x.vars t.vars v l

  kept_one : IsOneToOne kept
  kept_one v w l k e = elim (cases_order v w) [
    | inl q ↦ q
    | inr (inl q) ↦ absurd (let h = t.rises v w q k in omega (arith, h, e))
    | inr (inr q) ↦ absurd (let h = t.rises w v q l in omega (arith, h, e))
  ]

  kept_stands : (v : ℕ) → v < length kept → (at_kept v < length a.vars) × Stands a (at_kept v)
  kept_stands v l = (t.standing (at_kept v)).0 (Contains-get_or kept v 0 l)

  trimmed_moved : IsMoved at_kept x a
  trimmed_moved = record {
    top = t.top;
    index = t.index;
    eps = sym (eps_by_list kept x.eps) ∙ t.eps;
    hcons = sym (constraints_by_list kept x.hcons) ∙ t.hcons;
    icons = sym (constraints_by_list kept x.icons) ∙ t.icons;
  }

  pub trimmed_within : IsWithin (length a.vars) a
  trimmed_within =
      let n = trimmed_length in
      within_moved at_kept (length x.vars) (length a.vars) (λ v l. (kept_stands v (omega (arith, n, l))).0) x a trimmed_moved (valid_within x t.valid)

  -- back to the numbers without those that stand nowhere
  place_again : (v : ℕ) → v < length x.vars → place_in kept (at_kept v) ≡ v
  place_again v l =
      let n = trimmed_length in
      let k : v < length kept = omega (arith, n, l) in
      let p = placed kept (at_kept v) (Contains-get_or kept v 0 k) in
      kept_one (place_in kept (at_kept v)) v p.within k p.there

  trimmed_again : IsMoved (λ v. place_in kept v) a x
  trimmed_again = moved_back at_kept (λ v. place_in kept v) (length x.vars) place_again x a (valid_within x t.valid) trimmed_moved

-- from what is left of the one to what is left of the other
abbrev pub left_over : List ℕ → List ℕ → List ℕ → List ℕ
left_over to from into = map (λ v. place_in into (slice_index to v)) from

module _ (a b x y : Meaning) (to back ka kb : List ℕ) (twin : Twins a b to back) (t : IsTrimmed a x ka) (u : IsTrimmed b y kb) where
  abbrev more : List ℕ
  more = left_over to ka kb

  more_length : length more ≡ length ka
  more_length = length-map ka (λ v. place_in kb (slice_index to v))

  more_at : (v : ℕ) → v < length ka → slice_index more v ≡ place_in kb (slice_index to (slice_index ka v))
  more_at v l = get_or-map (λ z. place_in kb (slice_index to z)) ka v 0 0 l

  into : (v : ℕ) → v < length ka → IsPlace kb (slice_index to (slice_index ka v)) (slice_index more v)
  into v l =
      let s = kept_stands a x ka t v l in
      let e = twin.there.vars.every in
      let low = s.0 in
      let w = twin.there.vars.within (slice_index ka v) (omega (arith, e, low)) in
      let c = (u.standing (slice_index to (slice_index ka v))).1 (w, moved_stands (λ z. slice_index to z) (slice_index ka v) a b (moved_by_list to a b twin.there) s.1) in
      subst (IsPlace kb (slice_index to (slice_index ka v))) (sym (more_at v l)) (placed kb (slice_index to (slice_index ka v)) c)

  more_one : IsOneToOne more
  more_one v w l k e =
      let n = more_length in
      let f = twin.there.vars.every in
      let lv : v < length ka = omega (arith, l, n) in
      let lw : w < length ka = omega (arith, k, n) in
      let sv = (kept_stands a x ka t v lv).0 in
      let sw = (kept_stands a x ka t w lw).0 in
      let q : slice_index to (slice_index ka v) ≡ slice_index to (slice_index ka w) = sym (into v lv).there ∙ ap (λ z. slice_index kb z) e ∙ (into w lw).there in
      kept_one a x ka t v w lv lw (twin.there.vars.one_to_one (slice_index ka v) (slice_index ka w) (omega (arith, f, sv)) (omega (arith, f, sw)) q)

  more_within : (v : ℕ) → v < length more → slice_index more v < length kb
  more_within v l = let n = more_length in (into v (omega (arith, l, n))).within

  shorter : length ka ≤ length kb
  shorter = let n = more_length in let l = few (length kb) more more_one more_within in omega (arith, n, l)

  more_moved : IsMoved (λ v. slice_index more v) x y
  more_moved =
      let n = trimmed_length a x ka t in
      let first = moved_then (λ v. slice_index ka v) (λ v. slice_index to v) x a b (trimmed_moved a x ka t) (moved_by_list to a b twin.there) in
      let whole = moved_then (λ v. slice_index to (slice_index ka v)) (λ v. place_in kb v) x b y first (trimmed_again b y kb u) in
      moved_same (λ v. place_in kb (slice_index to (slice_index ka v))) (λ v. slice_index more v) (length x.vars) (λ v l. sym (more_at v (omega (arith, n, l)))) x y (valid_within x t.valid) whole

  more_kept : (v : ℕ) → v < length more → slice_get y.vars (slice_index more v) ≡ slice_get x.vars v
  more_kept v l =
      let n = more_length in
      let lv : v < length ka = omega (arith, l, n) in
      let s = (kept_stands a x ka t v lv).0 in
      let e = twin.there.vars.every in
      let p = into v lv in
      sym (trimmed_at b y kb u (slice_index more v) p.within) ∙ ap (λ z. slice_get b.vars z) p.there
      ∙ twin.there.vars.kept (slice_index ka v) (omega (arith, e, s)) ∙ trimmed_at a x ka t v lv

pub left_over_renumbered : (a b x y : Meaning) (to back ka kb : List ℕ) → Twins a b to back → IsTrimmed a x ka → IsTrimmed b y kb → IsRenumbering x y (left_over to ka kb)
left_over_renumbered a b x y to back ka kb twin t u =
    let there = shorter a b x y to back ka kb twin t u in
    let again = shorter b a y x back to kb ka (turned a b to back twin) u t in
    let n = more_length a b x y to back ka kb twin t u in
    let p = trimmed_length a x ka t in
    let q = trimmed_length b y kb u in
    renumbering_of (left_over to ka kb) x y
    (record {
      every = n ∙ p;
      onto = omega (arith, there, again, p, q);
      within = λ v l. (let w = more_within a b x y to back ka kb twin t u v l in omega (arith, w, q));
      one_to_one = more_one a b x y to back ka kb twin t u;
      kept = more_kept a b x y to back ka kb twin t u;
    })
    (more_moved a b x y to back ka kb twin t u)

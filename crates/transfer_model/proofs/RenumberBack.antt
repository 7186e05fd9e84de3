-- A renumbering can be turned round.
use Rattle.std.proofs.Common.{ℕ, ◌≡◌, ◌<◌, List, length, map, slice_index, sym, ◌∙◌, ap, arith}
use Rattle.std.specs.List.{slice_get}
use Rattle.std.proofs.lemmas.List.{get_or-map, length-map}
use Rattle.mrs_model.specs.Meanings.{Variable, Meaning}
use Rattle.mrs_model.specs.Valid.{IsValid}
use Rattle.mrs_model.specs.Renaming.{IsVariableMap}
use Rattle.mrs_reading.specs.Laws.{IsRenumbering}
use Rattle.transfer_model.specs.Applying.{numbers}
use Rattle.transfer_model.proofs.RenumberMoved.{IsWithin, valid_within, moved_by_list, renumbering_of, moved_back}
use Rattle.transfer_model.proofs.RenumberPlaces.{place_in, IsPlace, placed, numbers_length, number_at, all_there}

-- two MRSs that are one but for the numbers of their variables, with the maps there and back
pub record Twins (a b : Meaning) (to back : List ℕ) : Type 0 where
  pub there : IsRenumbering a b to
  pub again : IsRenumbering b a back
  pub round : (v : ℕ) → v < length a.vars → slice_index back (slice_index to v) ≡ v
  pub round_back : (w : ℕ) → w < length b.vars → slice_index to (slice_index back w) ≡ w

pub turned : (a b : Meaning) (to back : List ℕ) → Twins a b to back → Twins b a back to
turned a b to back t = record { there = t.again; again = t.there; round = t.round_back; round_back = t.round }

-- where each variable comes from
abbrev pub back_of : ℕ → List ℕ → List ℕ
back_of n to = map (λ w. place_in to w) (numbers 0 n)

module _ (a b : List Variable) (to : List ℕ) (m : IsVariableMap a b to) where
  from : (w : ℕ) → w < length b → IsPlace to w (place_in to w)
  from w l = let e = m.every in let o = m.onto in placed to w (all_there (length b) to m.one_to_one m.within (omega (arith, e, o)) w l)

  back_length : length (back_of (length b) to) ≡ length b
  back_length = length-map (numbers 0 (length b)) (λ w. place_in to w) ∙ numbers_length 0 (length b)

  back_at : (w : ℕ) → w < length b → slice_index (back_of (length b) to) w ≡ place_in to w
  back_at w l =
      let e = numbers_length 0 (length b) in
      let q : slice_index (numbers 0 (length b)) w ≡ w = number_at 0 (length b) w l ∙ omega arith in
      get_or-map (λ w. place_in to w) (numbers 0 (length b)) w 0 0 (omega (arith, e, l)) ∙ ap (λ z. place_in to z) q

  pub there_again : (w : ℕ) → w < length b → slice_index to (slice_index (back_of (length b) to) w) ≡ w
  there_again w l = ap (λ z. slice_index to z) (back_at w l) ∙ (from w l).there

  back_within : (w : ℕ) → w < length b → slice_index (back_of (length b) to) w < length to
  back_within w l = let q = back_at w l in let p = (from w l).within in omega (arith, q, p)

  pub back_again : (v : ℕ) → v < length a → slice_index (back_of (length b) to) (slice_index to v) ≡ v
  back_again v l =
      let e = m.every in
      let h : v < length to = omega (arith, l, e) in
      let w = m.within v h in
      m.one_to_one (slice_index (back_of (length b) to) (slice_index to v)) v (back_within (slice_index to v) w) h (there_again (slice_index to v) w)

  pub back_map : IsVariableMap b a (back_of (length b) to)
  back_map =
      let n = back_length in
      let e = m.every in
      let at : (w : ℕ) → w < length (back_of (length b) to) → w < length b = λ w l. omega (arith, l, n) in
      record {
        every = n;
        onto = sym m.onto;
        within = λ w l. (let q = back_within w (at w l) in omega (arith, q, e));
        one_to_one = λ v w l k q. sym (there_again v (at v l)) ∙ ap (λ z. slice_index to z) q ∙ there_again w (at w k);
        kept = λ w l. sym (m.kept (slice_index (back_of (length b) to) w) (back_within w (at w l))) ∙ ap (λ z. slice_get b z) (there_again w (at w l));
      }

pub twins : (a b : Meaning) (to : List ℕ) → IsWithin (length a.vars) a → IsRenumbering a b to → Twins a b to (back_of (length b.vars) to)
twins a b to w r =
    let back = back_of (length b.vars) to in
    let round = back_again a.vars b.vars to r.vars in
    record {
      there = r;
      again = renumbering_of back b a (back_map a.vars b.vars to r.vars) (moved_back (λ v. slice_index to v) (λ v. slice_index back v) (length a.vars) round a b w (moved_by_list to a b r));
      round = round;
      round_back = there_again a.vars b.vars to r.vars;
    }

pub renumbered_back : (m k : Meaning) (to : List ℕ) → IsValid m → IsRenumbering m k to → (back : List ℕ) × IsRenumbering k m back
renumbered_back m k to v r = (back_of (length k.vars) to, (twins m k to (valid_within m v) r).again)

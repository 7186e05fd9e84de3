-- Each step of the draw keeps its rule.
use Rattle.std.proofs.Common.{◌≡◌, ◌≢◌, ℕ, ◌+◌, ◌^◌, ◌%◌, ◌<◌, ◌≤◌, List, [], ◌∷◌, ◌++◌, length, length-append, slice_index, set, refl, sym, ap, ◌∙◌, subst, inl, inr, ◌⊎◌, ⊎_elim, arith}
use mathlib.Core.Option.{some, some-ne-none}
use lib.ListN.{get_elem?}
use Rattle.std.proofs.Math.Nat.{mod-eq_of_lt}
use Rattle.std.proofs.lemmas.Bool.{cases_lt}
use Rattle.atomic_table.specs.Table.{Step, keeps, Allows, Splits, Joins, Final, Seen, opening}
use Rattle.atomic_table.proofs.Lists.{at_set, at_snoc, set_else}
use Rattle.side_by_side.specs.declared.draw_hand.Hand.{Hand}
use Rattle.side_by_side.specs.Draws.{is, times, once_below, Fits, Given}
use Rattle.side_by_side.specs.Plays.{after, drew, one_hand, without_one, both, spent, all_hands}
use Rattle.side_by_side.proofs.Sums.{total-append, total_set, total_part, total_room, total_only, times-append, times_none, none_below, once_more}

abbrev Views : Type 0
Views = List Hand

abbrev hands_of : Hand → ℕ
hands_of v = v.hands

abbrev over_of : Hand → ℕ
over_of v = v.over

abbrev drawn_of : Hand → ℕ
drawn_of v = length v.drawn

abbrev times_in : ℕ → Hand → ℕ
times_in x v = times x v.drawn

each_set : (F : Hand → Type 0) (views : Views) (id : ℕ) (w : Hand) → F w → ((i : ℕ) (v : Hand) → get_elem? views i ≡ some v → F v) → (i : ℕ) (v : Hand) → get_elem? (set views id w) i ≡ some v → F v
each_set F views id w mine old i v e = ⊎_elim (λ (x : (i ≡ id) × (w ≡ v)). subst F x.1 mine) (λ (x : (i ≢ id) × (get_elem? views i ≡ some v)). old i v x.1) (at_set views id i w v e)

each_snoc : (F : Hand → Type 0) (views : Views) (w : Hand) → F w → ((i : ℕ) (v : Hand) → get_elem? views i ≡ some v → F v) → (i : ℕ) (v : Hand) → get_elem? (views ++ w ∷ []) i ≡ some v → F v
each_snoc F views w mine old i v e = ⊎_elim (λ x. old i v x) (λ (x : w ≡ v). subst F x mine) (at_snoc views w v i e)

-- a number past the end is counted
over_more : (v : Hand) (n : ℕ) → ((n < v.count) × ((after v n).over ≡ v.over)) ⊎ ((v.count ≤ n) × ((after v n).over ≡ v.over + 1))
over_more v n = ⊎_elim (λ (lt : n < v.count). inl (lt, grind (arith, lt))) (λ (le : v.count ≤ n). inr (le, grind (arith, le))) (cases_lt n v.count)

drawn_more : (v : Hand) (n : ℕ) → drawn_of (after v n) ≡ drawn_of v + 1
drawn_more v n = length-append v.drawn (n ∷ [])

times_more : (x : ℕ) (v : Hand) (n : ℕ) → times_in x (after v n) ≡ times_in x v + is x n
times_more x v n = let a = times-append x v.drawn (n ∷ []) in omega arith

module _ {S : Type 0} where
  pub draws : (count seats slots id : ℕ) (st : Step S) (v : Hand) (carried : List (ℕ × S)) → v.over < v.hands → Allows (Given count seats) slots id (v, carried) 0 (λ x. (x + 1) % 2 ^ 64) (drew st (v, carried))
  draws count seats slots id st v carried room s k len at fit =
      let n = k.drawn in let w = after v n in let f = k.each id v at in
      let r : slice_index s.words 0 ≡ n = ap (λ (ws : List ℕ). slice_index ws 0) k.words in
      let c : v.count ≡ count = f.count_is (omega arith) in
      let rooms = total_room over_of hands_of s.views id v at (λ j u p. (k.each j u p).over) in
      let small : n + 1 < 2 ^ 64 = (let b = k.bound in let h = k.hands in let few = k.few in omega arith) in (
        w,
        keeps,
        tt,
        record {
          drawn = n + 1;
          words = ap (λ (ws : List ℕ). set ws 0 ((slice_index ws 0 + 1) % 2 ^ 64)) k.words ∙ ap (λ (x : ℕ). x ∷ []) (mod-eq_of_lt small);
          few = k.few;
          hands = (let t = total_set hands_of s.views id v w at in let h = k.hands in omega arith);
          bound = ⊎_elim
              (λ (x : (n < v.count) × (w.over ≡ v.over)). let t = total_set over_of s.views id v w at in let y = x.1 in let z = x.0 in omega arith)
              (λ (x : (v.count ≤ n) × (w.over ≡ v.over + 1)). let t = total_set over_of s.views id v w at in let b = k.bound in let y = x.1 in omega arith)
              (over_more v n);
          all = (let t = total_set drawn_of s.views id v w at in let d = drawn_more v n in let a = k.all in omega arith);
          once = λ x. (let t = total_set (times_in x) s.views id v w at in let d = times_more x v n in let o = k.once x in let m = once_more x n in omega arith);
          each = each_set (Fits count) s.views id w
              (record {
                idle = λ z. absurd (omega (arith, room));
                over = ⊎_elim (λ (x : (n < v.count) × (w.over ≡ v.over)). let y = x.1 in omega arith) (λ (x : (v.count ≤ n) × (w.over ≡ v.over + 1)). let y = x.1 in omega arith) (over_more v n);
                count_is = f.count_is;
              })
              k.each;
        },
        (ap (λ (x : ℕ). (after v x, carried)) (sym r), (let p = total_part drawn_of s.views id v at in let a = k.all in omega arith)),
      )

  pub cuts : (count seats id : ℕ) (v : Hand) → 0 < v.hands → v.drawn ≡ [] → v.over ≡ 0 → Splits {S = S} (Given count seats) id v (without_one v) (one_hand v)
  cuts count seats id v some_hand none calm s k at =
      let l = without_one v in let u = one_hand v in let f = k.each id v at in let vs = set s.views id l in
      record {
        drawn = k.drawn;
        words = k.words;
        few = k.few;
        hands = (let t = total_set hands_of s.views id v l at in let a = total-append hands_of vs (u ∷ []) in let h = k.hands in omega arith);
        bound = (let t = total_set over_of s.views id v l at in let a = total-append over_of vs (u ∷ []) in let b = k.bound in omega arith);
        all = (let t = total_set drawn_of s.views id v l at in let a = total-append drawn_of vs (u ∷ []) in let b = k.all in omega arith);
        once = λ x. (let t = total_set (times_in x) s.views id v l at in let a = total-append (times_in x) vs (u ∷ []) in let b = k.once x in omega arith);
        each = each_snoc (Fits count) vs u
            (record { idle = λ z. refl; over = omega arith; count_is = λ p. f.count_is some_hand })
            (each_set (Fits count) s.views id l
            (record { idle = λ z. ap (λ (xs : List ℕ). length xs) none; over = omega (arith, calm); count_is = λ p. f.count_is some_hand })
            k.each);
      }

  pub glues : (count seats id other : ℕ) (v u : Hand) → 0 < v.hands → Joins {S = S} (Given count seats) id v other u (both v u) spent
  glues count seats id other v u some_hand s k at apart there =
      let b = both v u in let f = k.each id v at in let vs = set s.views id b in
      let was : get_elem? s.views other ≡ some u = sym (set_else s.views id other b apart) ∙ there in
      let g = k.each other u was in
      record {
        drawn = k.drawn;
        words = k.words;
        few = k.few;
        hands = (let t = total_set hands_of s.views id v b at in let q = total_set hands_of vs other u spent there in let h = k.hands in omega arith);
        bound = (let t = total_set over_of s.views id v b at in let q = total_set over_of vs other u spent there in let h = k.bound in omega arith);
        all = (let t = total_set drawn_of s.views id v b at in let q = total_set drawn_of vs other u spent there in let h = k.all in let a = length-append v.drawn u.drawn in omega arith);
        once = λ x. (let t = total_set (times_in x) s.views id v b at in let q = total_set (times_in x) vs other u spent there in let h = k.once x in let a = times-append x v.drawn u.drawn in omega arith);
        each = each_set (Fits count) vs other spent
            (record { idle = λ z. refl; over = omega arith; count_is = λ p. absurd (omega (arith, p)) })
            (each_set (Fits count) s.views id b
            (record { idle = λ z. absurd (omega (arith, z, some_hand)); over = (let o = f.over in let q = g.over in omega arith); count_is = λ p. f.count_is some_hand })
            k.each);
      }

  pub opens : (count seats : ℕ) → count + seats < 2 ^ 64 → Given {S = S} count seats (opening (0 ∷ []) [] (all_hands count seats))
  opens count seats few = record {
    drawn = 0;
    words = refl;
    few = few;
    hands = omega arith;
    bound = omega arith;
    all = refl;
    once = λ x. none_below x;
    each = each_snoc (Fits count) [] (all_hands count seats) (record { idle = λ z. refl; over = omega arith; count_is = λ p. refl }) (λ i v e. absurd (some-ne-none v (sym e)));
  }

  pub closes : (count seats id : ℕ) (v : Hand) (ws : List ℕ) (xs : List S) → v.hands ≡ seats → Final (Seen (Given {S = S} count seats) id v) ws xs → (n : ℕ) × ((x : ℕ) → times x v.drawn ≡ once_below x n)
  closes count seats id v ws xs whole f =
      let s = f.0 in let k = f.1.0 in let at = f.1.1 in
      (k.drawn, λ x. sym (total_only hands_of (times_in x) s.views id v at (k.hands ∙ sym whole) (λ j u p z. times_none x u.drawn ((k.each j u p).idle z))) ∙ k.once x)

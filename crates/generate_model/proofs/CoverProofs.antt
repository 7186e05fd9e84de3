-- Counts are covers.
use Rattle.std.specs.Prelude.{ℕ, ◌≡◌, ◌+◌, ◌≤◌, ◌<◌, ◌==◌, ◌&&◌, nat_le, Bool, true, false, Option, Some, None, is_some, List, [], ◌∷◌, ◌++◌, length, sum, All, Contains, slice_index_or}
use Rattle.std.specs.List.{fold}
use Rattle.std.proofs.Common.{refl, sym, ◌∙◌, ap, subst, zero, suc, arith, eqb-true, leb-true}
use Rattle.std.specs.Ordering.{nat_cmp, is_eq}
use Rattle.std.specs.Cmp.Lexicographic.{slice_cmp}
use Rattle.std.specs.declared.cmp.Ordering.{Ordering}
use Rattle.std.specs.declared.cmp.Ordering.TheVariants.{Equal, Less, Greater}
use Rattle.std.specs.Cmp.{nat_cmp_is}
use Rattle.chart_model.specs.declared.counts.Counts.{Counts}
use Rattle.chart_model.specs.Sums.{counts_join, counts_size, counts_told}
use Rattle.chart_model.specs.Lists.{add_all, all_within}
use Rattle.generate_model.specs.Covers.{counts_next, counts_all, same_counts, IsCount, CountsAreCovers}

both : (a b : Bool) → a && b ≡ true → (a ≡ true) × (b ≡ true)
both true b h = (refl, h)
both false b h = absurd (cc)

sum_from : (n : ℕ) (xs : List ℕ) → fold ◌+◌ n xs ≡ n + sum xs
sum_from n [] = omega arith
sum_from n (x ∷ xs) = let a = sum_from (n + x) xs in let b = sum_from (0 + x) xs in let c : sum (x ∷ xs) ≡ fold ◌+◌ (0 + x) xs = refl in omega (arith, a, b, c)

pub sum_cons : (x : ℕ) (xs : List ℕ) → sum (x ∷ xs) ≡ x + sum xs
sum_cons x xs = sum_from (0 + x) xs ∙ omega arith

add_length : (cs ds : List ℕ) → length cs ≡ length ds → length (add_all cs ds) ≡ length cs
add_length [] ds e = refl
add_length (c ∷ cs) [] e = absurd (omega (arith, e))
add_length (c ∷ cs) (d ∷ ds) e = ap suc (add_length cs ds (omega (arith, e)))

add_sum : (cs ds : List ℕ) → length cs ≡ length ds → sum (add_all cs ds) ≡ sum cs + sum ds
add_sum [] [] e = refl
add_sum [] (d ∷ ds) e = absurd (omega (arith, e))
add_sum (c ∷ cs) [] e = absurd (omega (arith, e))
add_sum (c ∷ cs) (d ∷ ds) e =
    let z = add_sum cs ds (omega (arith, e)) in
    let a = sum_cons c cs in
    let b = sum_cons d ds in
    let m = sum_cons (c + d) (add_all cs ds) in
    omega (arith, z, a, b, m)

within_sum : (cs bs : List ℕ) → all_within cs bs ≡ true → sum cs ≤ sum bs
within_sum [] [] h = omega arith
within_sum [] (b ∷ bs) h = absurd (cc)
within_sum (c ∷ cs) [] h = absurd (cc)
within_sum (c ∷ cs) (b ∷ bs) h = let p = both (nat_le c b) (all_within cs bs) h in let z = within_sum cs bs p.1 in let a = sum_cons c cs in let d = sum_cons b bs in omega (arith, z, leb-true c b p.0, a, d)

-- what two counts join to
pub record Joins (bound c d e : Counts) : Type 0 where
  pub left : length c.of ≡ length bound.of
  pub right : length d.of ≡ length bound.of
  pub of : e.of ≡ add_all c.of d.of
  pub empty : e.empty ≡ c.empty + d.empty
  pub within : all_within e.of bound.of ≡ true
  pub few : e.empty ≤ bound.empty

pub joins_of : (bound c d e : Counts) → counts_join bound c d ≡ Some e → Joins bound c d e
joins_of bound c d e h = by_test ((length c.of == length bound.of) && (length d.of == length bound.of) && all_within (add_all c.of d.of) bound.of && nat_le (c.empty + d.empty) bound.empty) refl
  where
    by_test : (b : Bool) → ((length c.of == length bound.of) && (length d.of == length bound.of) && all_within (add_all c.of d.of) bound.of && nat_le (c.empty + d.empty) bound.empty) ≡ b → Joins bound c d e
    by_test false t = absurd (let v : counts_join bound c d ≡ None = rw t refl in cc)
    by_test true t =
        let v : counts_join bound c d ≡ Some (record { of = add_all c.of d.of; empty = c.empty + d.empty }) = rw t refl in
        let w : record { of = add_all c.of d.of; empty = c.empty + d.empty } ≡ e = cc in
        let r = both ((length c.of == length bound.of) && (length d.of == length bound.of) && all_within (add_all c.of d.of) bound.of) (nat_le (c.empty + d.empty) bound.empty) t in
        let q = both ((length c.of == length bound.of) && (length d.of == length bound.of)) (all_within (add_all c.of d.of) bound.of) r.0 in
        let p = both (length c.of == length bound.of) (length d.of == length bound.of) q.0 in
        let of : e.of ≡ add_all c.of d.of = ap (λ (x : Counts). x.of) (sym w) in
        let empty : e.empty ≡ c.empty + d.empty = ap (λ (x : Counts). x.empty) (sym w) in
        record {
          left = eqb-true (length c.of) (length bound.of) p.0;
          right = eqb-true (length d.of) (length bound.of) p.1;
          of = of;
          empty = empty;
          within = subst (λ xs. all_within xs bound.of ≡ true) (sym of) q.1;
          few = subst (λ n. n ≤ bound.empty) (sym empty) (leb-true (c.empty + d.empty) bound.empty r.1);
        }

pub join_size : (bound c d e : Counts) → Joins bound c d e → (length e.of ≡ length bound.of) × (counts_size e ≡ counts_size c + counts_size d)
join_size bound c d e j =
    let l : length c.of ≡ length d.of = j.left ∙ sym j.right in (
      ap length j.of ∙ add_length c.of d.of l ∙ j.left,
      (let a = add_sum c.of d.of l in let b = ap sum j.of in let m = j.empty in omega (arith, a, b, m)),
    )

-- the last of a list of joins
pub record Sums (bound x : Counts) (ds : List Counts) (c : Counts) : Type 0 where
  pub grows : counts_size x ≤ counts_size c
  pub each : (k : ℕ) (d : Counts) → k < length ds → slice_index_or ds k d ≡ d → counts_size x + counts_size d ≤ counts_size c

sums_next : (bound : Counts) (o : Option Counts) (x : Counts) (ds : List Counts) (c : Counts) → o ≡ Some x → counts_next bound o ds ≡ Some c → Sums bound x ds c
sums_next bound None x ds c e h = absurd (cc)
sums_next bound (Some y) x [] c e h = let z : x ≡ c = cc in record { grows = subst (λ w. counts_size x ≤ counts_size w) z (omega arith); each = λ k d l q. absurd (omega arith) }
sums_next bound (Some y) x (d ∷ ds) c e h = by_join (λ z f. sums_next bound (counts_join bound y d) z ds c f h) (counts_join bound y d) refl
  where
    by_join : ((z : Counts) → counts_join bound y d ≡ Some z → Sums bound z ds c) → (o : Option Counts) → counts_join bound y d ≡ o → Sums bound x (d ∷ ds) c
    by_join go None f = absurd (let g : counts_next bound (counts_join bound y d) ds ≡ None = rw f refl in cc)
    by_join go (Some z) f =
        let s = go z f in
        let same : y ≡ x = cc in
        let j = join_size bound x d z (subst (λ w. Joins bound w d z) same (joins_of bound y d z f)) in
        record { grows = (let a = s.grows in omega (arith, a, j.1)); each = each z s j.1 }
      where
        each : (z : Counts) → Sums bound z ds c → counts_size z ≡ counts_size x + counts_size d → (k : ℕ) (u : Counts) → k < length (d ∷ ds) → slice_index_or (d ∷ ds) k u ≡ u → counts_size x + counts_size u ≤ counts_size c
        each z s j zero u l q = let w : counts_size d ≡ counts_size u = ap counts_size q in let a = s.grows in omega (arith, a, j, w)
        each z s j (suc k) u l q = let a = s.each k u (omega (arith, l)) q in omega (arith, a, j)

-- two of a list that starts with them, or one of it
one_below : (xs : List Counts) (bound own c d : Counts) → 1 < length xs → All (IsCount bound) xs → Sums bound own xs c → counts_next bound (Some own) xs ≡ Some c → Contains xs d → counts_size d < counts_size c
one_below [] bound own c d l p s h m = absurd (omega (arith, l))
one_below (x ∷ []) bound own c d l p s h m = absurd (omega (arith, l))
one_below (x ∷ y ∷ ys) bound own c d l p s h m = by_join (counts_join bound own x) refl
  where
    by_place : (z : Counts) → counts_size z ≡ counts_size own + counts_size x → Sums bound z (y ∷ ys) c → (k : ℕ) → k < length (x ∷ y ∷ ys) → slice_index_or (x ∷ y ∷ ys) k d ≡ d → counts_size d < counts_size c
    by_place z j t zero l' q =
        let w : counts_size x ≡ counts_size d = ap counts_size q in
        let a = t.each 0 y (omega arith) refl in
        let b = (p 1 y (omega arith)).some in
        omega (arith, a, b, w, j)
    by_place z j t (suc k) l' q =
        let a = t.each k d (omega (arith, l')) q in
        let b = (p 0 x (omega arith)).some in
        omega (arith, a, b, j)

    by_join : (o : Option Counts) → counts_join bound own x ≡ o → counts_size d < counts_size c
    by_join None f = absurd (let g : counts_next bound (counts_join bound own x) (y ∷ ys) ≡ None = rw f refl in cc)
    by_join (Some z) f = by_place z (join_size bound own x z (joins_of bound own x z f)).1 (sums_next bound (counts_join bound own x) z (y ∷ ys) c f h) m.0 m.1 m.2

counts_prefix : (bound : Counts) (o : Option Counts) (front : List Counts) (next : Counts) (rest : List Counts) (c : Counts) → counts_next bound o (front ++ next ∷ rest) ≡ Some c → (d : Counts) × (counts_next bound o front ≡ Some d) × (is_some (counts_join bound d next) ≡ true)
counts_prefix bound None front next rest c h = absurd (cc)
counts_prefix bound (Some x) [] next rest c h = (x, refl, by_join (counts_join bound x next) refl)
  where
    by_join : (o : Option Counts) → counts_join bound x next ≡ o → is_some (counts_join bound x next) ≡ true
    by_join None e = absurd (let z : counts_next bound (counts_join bound x next) rest ≡ None = rw e refl in cc)
    by_join (Some y) e = rw e refl
counts_prefix bound (Some x) (y ∷ front) next rest c h = counts_prefix bound (counts_join bound x y) front next rest c h

proper_next : (bound : Counts) (o : Option Counts) (x : Counts) (ds : List Counts) (c : Counts) → o ≡ Some x → IsCount bound x → counts_next bound o ds ≡ Some c → IsCount bound c
proper_next bound None x ds c e p h = absurd (cc)
proper_next bound (Some y) x [] c e p h = let z : x ≡ c = cc in subst (IsCount bound) z p
proper_next bound (Some y) x (d ∷ ds) c e p h = by_join (λ z f i. proper_next bound (counts_join bound y d) z ds c f i h) (counts_join bound y d) refl
  where
    by_join : ((z : Counts) → counts_join bound y d ≡ Some z → IsCount bound z → IsCount bound c) → (o : Option Counts) → counts_join bound y d ≡ o → IsCount bound c
    by_join go None f = absurd (let g : counts_next bound (counts_join bound y d) ds ≡ None = rw f refl in cc)
    by_join go (Some z) f =
        let same : y ≡ x = cc in
        let j = joins_of bound y d z f in
        let s = join_size bound y d z j in
        let some : 0 < counts_size y = subst (λ w. 0 < counts_size w) (sym same) p.some in
        go z f (record { places = s.0; within = j.within; few = j.few; some = (let a = s.1 in omega (arith, a, some)) })

proper_all : (bound : Counts) (own : Option Counts) (front : List Counts) (c : Counts) → 0 < length front → All (IsCount bound) front → counts_all bound own front ≡ Some c → IsCount bound c
proper_all bound own [] c l p h = absurd (omega (arith, l))
proper_all bound None (x ∷ front) c l p h = absurd (cc)
proper_all bound (Some own) (x ∷ front) c l p h = by_join (counts_join bound own x) refl
  where
    by_join : (o : Option Counts) → counts_join bound own x ≡ o → IsCount bound c
    by_join None f = absurd (let g : counts_next bound (counts_join bound own x) front ≡ None = rw f refl in cc)
    by_join (Some z) f =
        let j = joins_of bound own x z f in
        let s = join_size bound own x z j in
        let some = (p 0 x (omega arith)).some in
        proper_next bound (counts_join bound own x) z front c f (record { places = s.0; within = j.within; few = j.few; some = (let a = s.1 in omega (arith, a, some)) }) h

larger_all : (bound : Counts) (own : Option Counts) (front : List Counts) (c d : Counts) → 1 < length front → All (IsCount bound) front → counts_all bound own front ≡ Some c → Contains front d → counts_size d < counts_size c
larger_all bound own [] c d l p h m = absurd (omega (arith, l))
larger_all bound None (x ∷ front) c d l p h m = absurd (cc)
larger_all bound (Some own) (x ∷ front) c d l p h m = one_below (x ∷ front) bound own c d l p (sums_next bound (Some own) own (x ∷ front) c refl h) h m

no_smaller_one : (bound : Counts) (own : Option Counts) (c d : Counts) → counts_all bound own (d ∷ []) ≡ Some c → counts_size d ≤ counts_size c
no_smaller_one bound None c d h = absurd (cc)
no_smaller_one bound (Some own) c d h = let s = sums_next bound (Some own) own (d ∷ []) c refl h in let a = s.each 0 d (omega arith) refl in omega (arith, a)

prefix_all : (bound : Counts) (own : Option Counts) (front : List Counts) (next : Counts) (rest : List Counts) (c : Counts) → 0 < length front → counts_all bound own (front ++ next ∷ rest) ≡ Some c → (d : Counts) × (counts_all bound own front ≡ Some d) × (is_some (counts_join bound d next) ≡ true)
prefix_all bound own [] next rest c l h = absurd (omega (arith, l))
prefix_all bound own (x ∷ front) next rest c l h = counts_prefix bound own (x ∷ front) next rest c h

eq_is : (r : Ordering) → is_eq r ≡ true → r ≡ Equal
eq_is Less h = absurd (cc)
eq_is Equal h = refl
eq_is Greater h = absurd (cc)

list_itself : (xs : List ℕ) → slice_cmp nat_cmp xs xs ≡ Equal
list_itself [] = refl
list_itself (x ∷ xs) = rw (sym (nat_cmp_is x x Equal refl)) (list_itself xs)

counts_itself : (c : Counts) → same_counts c c ≡ true
counts_itself c = rw (list_itself c.of, sym (nat_cmp_is c.empty c.empty Equal refl)) refl

pub counts_are_covers : CountsAreCovers
counts_are_covers g bound own small sized =
    record {
      same_is = λ c d. ((λ h. counts_told c d (eq_is _ h)), (λ e. subst (λ x. same_counts c x ≡ true) e (counts_itself c)));
      one_to_four = sized;
      prefixes = λ rule front next rest c l whole h. prefix_all bound (own rule) front next rest c l h;
      proper_mother = λ rule front c l short pos h. proper_all bound (own rule) front c l pos h;
      has_size = λ c p. (p.some, (let a = within_sum c.of bound.of p.within in let b = p.few in omega (arith, a, b, small)));
      larger = λ rule front c d l whole pos h m. larger_all bound (own rule) front c d l pos h m;
      no_smaller = λ rule c d one pos h. no_smaller_one bound (own rule) c d h;
    }

-- The laws of spans: a mother is larger than each of two daughters and more, and a span is told apart by its ends.
use Rattle.std.specs.declared.cmp.Ordering.{Ordering}
use Rattle.std.specs.declared.cmp.Ordering.TheVariants.{Equal, Less, Greater}
use Rattle.std.specs.Prelude.{◌≡◌, ℕ, ◌+◌, ◌-◌, ◌^◌, ◌<◌, ◌≤◌, ◌==◌, if◌then◌else◌, Bool, true, false, is_some, Option, Some, None, List, [], ◌∷◌, ◌++◌, length, slice_index_or, All, Contains}
use Rattle.std.specs.Ordering.{nat_cmp, then_cmp, on, is_eq}
use Rattle.std.specs.Cmp.{nat_cmp_is}
use Rattle.std.proofs.Common.{refl, ap, sym, ◌∙◌, subst, suc, zero, arith, eqb-true}
use Rattle.std.proofs.lemmas.Map.Lookups.{exact_pairs, exact_unsigned}
use Rattle.chart_model.specs.Calculus.{CoverLaws}
use Rattle.chart_model.specs.Spans.{span_join, span_size, is_span, same_span, join_next, join_all, over_spans}
use Rattle.chart_model.specs.declared.span.Span.{Span}

pub span_told : (x y : Span) → then_cmp (on (λ (s : Span). s.from) nat_cmp) (on (λ (s : Span). s.to) nat_cmp) x y ≡ Equal → x ≡ y
span_told x y h =
    let e = exact_pairs nat_cmp nat_cmp exact_unsigned exact_unsigned (x.from, x.to) (y.from, y.to) h in
    ap (λ p. record { from = p.0; to = p.1 }) e

if_joined : (o : Option Span) (t : Bool) → is_some (if t then o else None) ≡ true → t ≡ true
if_joined o true g = refl
if_joined o false g = absurd (cc)

pub span_meets : (a b : Span) → is_some (span_join a b) ≡ true → a.to ≡ b.from
span_meets a b h = eqb-true a.to b.from (if_joined (Some (record { from = a.from; to = b.to })) (a.to == b.from) h)

next_prefix : (o : Option Span) (front : List Span) (next : Span) (rest : List Span) (c : Span) → join_next o (front ++ next ∷ rest) ≡ Some c → (d : Span) × (join_next o front ≡ Some d) × (is_some (span_join d next) ≡ true)
next_prefix None front next rest c h = absurd (cc)
next_prefix (Some x) [] next rest c h = (x, refl, by_join (span_join x next) refl)
  where
    by_join : (o : Option Span) → span_join x next ≡ o → is_some (span_join x next) ≡ true
    by_join None e = absurd (let z : join_next (span_join x next) rest ≡ None = rw e refl in cc)
    by_join (Some y) e = rw e refl
next_prefix (Some x) (y ∷ front) next rest c h = next_prefix (span_join x y) front next rest c h

pub prefix_all : (front : List Span) (next : Span) (rest : List Span) (c : Span) → 0 < length front → join_all (front ++ next ∷ rest) ≡ Some c → (d : Span) × (join_all front ≡ Some d) × (is_some (span_join d next) ≡ true)
prefix_all [] next rest c l h = absurd (omega arith)
prefix_all (x ∷ front) next rest c l h = next_prefix (Some x) front next rest c h

eq_is : (r : Ordering) → is_eq r ≡ true → r ≡ Equal
eq_is Less h = absurd (cc)
eq_is Equal h = refl
eq_is Greater h = absurd (cc)

span_itself : (s : Span) → same_span s s ≡ true
span_itself s = rw (sym (nat_cmp_is s.from s.from Equal refl), sym (nat_cmp_is s.to s.to Equal refl)) refl

pub same_there : (c d : Span) → same_span c d ≡ true → c ≡ d
same_there c d h = span_told c d (eq_is (then_cmp (on (λ (s : Span). s.from) nat_cmp) (on (λ (s : Span). s.to) nat_cmp) c d) h)

pub same_back : (c d : Span) → c ≡ d → same_span c d ≡ true
same_back c d e = subst (λ x. same_span c x ≡ true) e (span_itself c)

-- what a join of spans with more spans after it is
pub record Joined (x : Span) (ds : List Span) (c : Span) : Type 0 where
  pub from : c.from ≡ x.from
  pub reaches : x.to + length ds ≤ c.to
  pub each : (k : ℕ) (d : Span) → k < length ds → slice_index_or ds k d ≡ d → (x.to ≤ d.from) × (d.to ≤ c.to)

joined_by : (x y : Span) (o : Option Span) → span_join x y ≡ o → (z : Span) → o ≡ Some z → (x.to ≡ y.from) × (z.from ≡ x.from) × (z.to ≡ y.to)
joined_by x y o e z h = by_test (x.to == y.from) refl (e ∙ h)
  where
    by_test : (b : Bool) → (x.to == y.from) ≡ b → span_join x y ≡ Some z → (x.to ≡ y.from) × (z.from ≡ x.from) × (z.to ≡ y.to)
    by_test true t g =
        let w : record { from = x.from; to = y.to } ≡ z = (let v : span_join x y ≡ Some (record { from = x.from; to = y.to }) = rw t refl in cc) in
        (eqb-true x.to y.from t, ap (λ (s : Span). s.from) (sym w), ap (λ (s : Span). s.to) (sym w))
    by_test false t g = absurd (let v : span_join x y ≡ None = rw t refl in cc)

joined_next : (o : Option Span) (x : Span) (ds : List Span) (c : Span) → o ≡ Some x → All (λ d. 0 < span_size d) ds → join_next o ds ≡ Some c → Joined x ds c
joined_next None x ds c e pos h = absurd (cc)
joined_next (Some y) x [] c e pos h =
    let z : x ≡ c = cc in
    record { from = ap (λ (s : Span). s.from) (sym z); reaches = let t = ap (λ (s : Span). s.to) z in omega arith; each = λ k d l q. absurd (omega arith) }
joined_next (Some y) x (d ∷ ds) c e pos h = by_next (span_join y d) refl (λ z f. joined_next (span_join y d) z ds c f (λ k v l. pos (suc k) v (omega arith)) h)
  where
    by_place : (z : Span) → y ≡ x → Joined z ds c → (y.to ≡ d.from) × (z.from ≡ y.from) × (z.to ≡ d.to) → 0 < d.to - d.from → (k : ℕ) (v : Span) → k < length (d ∷ ds) → slice_index_or (d ∷ ds) k v ≡ v → (x.to ≤ v.from) × (v.to ≤ c.to)
    by_place z same r p big zero v l q = let yx = ap (λ (s : Span). s.to) same in let f = ap (λ (s : Span). s.from) q in let t = ap (λ (s : Span). s.to) q in (omega (arith, p.0, yx, f), omega (arith, t, p.2, r.reaches))
    by_place z same r p big (suc k) v l q = let yx = ap (λ (s : Span). s.to) same in let w = r.each k v (omega arith) q in (omega (arith, w.0, p.2, p.0, big, yx), w.1)

    by_next : (o : Option Span) → span_join y d ≡ o → ((z : Span) → span_join y d ≡ Some z → Joined z ds c) → Joined x (d ∷ ds) c
    by_next None f go = absurd (let g : join_next (span_join y d) ds ≡ None = rw f refl in cc)
    by_next (Some z) f go =
        let same : y ≡ x = cc in
        let p = joined_by y d (span_join y d) refl z f in
        let r = go z f in
        let big : 0 < d.to - d.from = pos 0 d (omega arith) in
        let yx = ap (λ (s : Span). s.to) same in
        let yf = ap (λ (s : Span). s.from) same in
        record {
          from = r.from ∙ p.1 ∙ yf;
          reaches = omega (arith, r.reaches, p.0, p.2, big, yx);
          each = λ k v l q. by_place z same r p big k v l q;
        }

pub larger_all : (front : List Span) (c d : Span) → 1 < length front → All (λ d. 0 < span_size d) front → join_all front ≡ Some c → Contains front d → span_size d < span_size c
larger_all [] c d l pos h m = absurd (omega arith)
larger_all (x ∷ front) c d l pos h m =
    let r = joined_next (Some x) x front c refl (λ k v q. pos (suc k) v (omega arith)) h in
    let big : 0 < x.to - x.from = pos 0 x (omega arith) in
    by_place r big m.0 m.1 m.2
  where
    by_place : Joined x front c → 0 < x.to - x.from → (k : ℕ) → k < length (x ∷ front) → slice_index_or (x ∷ front) k d ≡ d → span_size d < span_size c
    by_place r big zero l' q = let f = ap (λ (s : Span). s.from) q in let t = ap (λ (s : Span). s.to) q in omega (arith, r.from, r.reaches, big, f, t, l)
    by_place r big (suc k) l q = let w = r.each k d (omega arith) q in omega (arith, w.0, w.1, r.from, r.reaches, big)

last_below : (o : Option Span) (x : Span) (ds : List Span) (c : Span) → o ≡ Some x → x.to < 2 ^ 32 → All is_span ds → join_next o ds ≡ Some c → c.to < 2 ^ 32
last_below None x ds c e l pos h = absurd (cc)
last_below (Some y) x [] c e l pos h = let z : x ≡ c = cc in subst (λ (s : Span). s.to < 2 ^ 32) z l
last_below (Some y) x (d ∷ ds) c e l pos h = by_next (span_join y d) refl (λ z f. last_below (span_join y d) z ds c f (let p = joined_by y d (span_join y d) refl z f in let q = (pos 0 d (omega arith)).1 in subst (λ n. n < 2 ^ 32) (sym p.2) q) (λ k v l. pos (suc k) v (omega arith)) h)
  where
    by_next : (o : Option Span) → span_join y d ≡ o → ((z : Span) → span_join y d ≡ Some z → c.to < 2 ^ 32) → c.to < 2 ^ 32
    by_next None f go = absurd (let g : join_next (span_join y d) ds ≡ None = rw f refl in cc)
    by_next (Some z) f go = go z f

pub proper_all : (front : List Span) (c : Span) → 0 < length front → All is_span front → join_all front ≡ Some c → is_span c
proper_all [] c l pos h = absurd (omega arith)
proper_all (x ∷ front) c l pos h =
    let first = pos 0 x (omega arith) in
    let r = joined_next (Some x) x front c refl (λ k v q. let s = pos (suc k) v (omega arith) in omega (arith, s.0)) h in
    (omega (arith, r.from, r.reaches, first.0), last_below (Some x) x front c refl first.1 (λ k v q. pos (suc k) v (omega arith)) h)

-- covers that are spans meet the laws of covers, whatever the rules are: each has one to four daughters
pub span_laws : {M : Type 0} (rules : ℕ) (arity : ℕ → ℕ) (over : M → M → Bool) (applies : ℕ → List M → Type 0) (mother : ℕ → List M → M → Type 0) → ((rule : ℕ) → rule < rules → (0 < arity rule) × (arity rule ≤ 4)) → CoverLaws (over_spans rules arity over applies mother)
span_laws rules arity over applies mother sized =
    record {
      same_is = λ c d. (same_there c d, same_back c d);
      prefixes = λ rule front next rest c l whole h. prefix_all front next rest c l h;
      proper_mother = λ rule front c l short pos h. proper_all front c l pos h;
      has_size = λ c p. (omega (arith, p.0), omega (arith, p.1));
      one_to_four = sized;
      larger = λ rule front c d l whole pos h m. larger_all front c d l (λ k v q. let s = pos k v q in omega (arith, s.0)) h m;
      no_smaller = λ rule c d one pos h. let z : d ≡ c = cc in let f = ap (λ (s : Span). s.from) z in let t = ap (λ (s : Span). s.to) z in omega arith;
    }

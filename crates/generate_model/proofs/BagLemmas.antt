-- Bags of words, and their counts at some places.
use Rattle.std.specs.Prelude.{ℕ, ◌≡◌, ◌⊎◌, ◌+◌, ◌≤◌, ◌<◌, ◌==◌, ◌&&◌, ◌||◌, nat_le, if◌then◌else◌, Bool, true, false, Some, None, List, [], ◌∷◌, ◌++◌, length, sum}
use Rattle.std.proofs.Common.{refl, sym, ◌∙◌, ap, subst, arith, eq-eqb, le-leb, inl, inr}
use Rattle.std.specs.Cmp.Lexicographic.{bytes_decides}
use Rattle.std.specs.Str.{bytes_eq}
use Rattle.chart_model.specs.declared.counts.Counts.{Counts}
use Rattle.chart_model.specs.Sums.{counts_join}
use Rattle.chart_model.specs.Lists.{add_all, all_within}
use Rattle.tree_model.specs.Lexical.{Word}
use Rattle.generate_model.proofs.CoverProofs.{sum_cons}
use Rattle.generate_model.specs.Bags.{count, SameBag, LiesIn, is_among, noted, all_noted, distinct, all_among, tally, counted, bound_of}

pub count_append : (w : Word) (xs ys : List Word) → count w (xs ++ ys) ≡ count w xs + count w ys
count_append w [] ys = omega arith
count_append w (x ∷ xs) ys = let z = count_append w xs ys in ap (λ n. (if bytes_eq w x then 1 else 0) + n) z ∙ omega arith

pub tally_append : (ps xs ys : List Word) → tally ps (xs ++ ys) ≡ add_all (tally ps xs) (tally ps ys)
tally_append [] xs ys = refl
tally_append (p ∷ ps) xs ys = let a = count_append p xs ys in let b = tally_append ps xs ys in λ i. a i ∷ b i

pub tally_length : (ps xs : List Word) → length (tally ps xs) ≡ length ps
tally_length [] xs = refl
tally_length (p ∷ ps) xs = let z = tally_length ps xs in omega (arith, z)

pub tally_within : (ps xs ys : List Word) → LiesIn xs ys → all_within (tally ps xs) (tally ps ys) ≡ true
tally_within [] xs ys h = refl
tally_within (p ∷ ps) xs ys h = rw (le-leb (count p xs) (count p ys) (h p), tally_within ps xs ys h) refl

pub among_some : (w : Word) (vs : List Word) → is_among w vs ≡ false → count w vs ≡ 0
among_some w [] h = refl
among_some w (v ∷ vs) h = by_test (bytes_eq w v) refl (among_some w vs)
  where
    by_test : (b : Bool) → bytes_eq w v ≡ b → (is_among w vs ≡ false → count w vs ≡ 0) → count w (v ∷ vs) ≡ 0
    by_test true t go = absurd (let e : is_among w (v ∷ vs) ≡ true = rw t refl in cc)
    by_test false t go = let e : is_among w (v ∷ vs) ≡ is_among w vs = rw t refl in let z = go (sym e ∙ h) in rw t (omega (arith, z))

or_left : (a b : Bool) → a ≡ true → a || b ≡ true
or_left true b h = refl
or_left false b h = absurd (cc)

or_right : (a b : Bool) → b ≡ true → a || b ≡ true
or_right true b h = refl
or_right false b h = h

or_cases : (a b : Bool) → a || b ≡ true → (a ≡ true) ⊎ (b ≡ true)
or_cases true b h = inl refl
or_cases false b h = inr h

among_more : (w : Word) (xs ys : List Word) → is_among w xs ≡ true → is_among w (xs ++ ys) ≡ true
among_more w [] ys h = absurd (cc)
among_more w (x ∷ xs) ys h = elim (or_cases (bytes_eq w x) (is_among w xs) h) [ inl e ↦ or_left (bytes_eq w x) (is_among w (xs ++ ys)) e | inr e ↦ or_right (bytes_eq w x) (is_among w (xs ++ ys)) (among_more w xs ys e) ]

among_last : (w : Word) (xs : List Word) → is_among w (xs ++ w ∷ []) ≡ true
among_last w [] = or_left (bytes_eq w w) false ((bytes_decides w w).1 refl)
among_last w (x ∷ xs) = or_right (bytes_eq w x) (is_among w (xs ++ w ∷ [])) (among_last w xs)

noted_keeps : (w v : Word) (ps : List Word) → is_among w ps ≡ true → is_among w (noted ps v) ≡ true
noted_keeps w v ps h = by_test (is_among v ps) refl
  where
    by_test : (b : Bool) → is_among v ps ≡ b → is_among w (noted ps v) ≡ true
    by_test true e = rw e h
    by_test false e = rw e (among_more w ps (v ∷ []) h)

noted_has : (w : Word) (ps : List Word) → is_among w (noted ps w) ≡ true
noted_has w ps = by_test (is_among w ps) refl
  where
    by_test : (b : Bool) → is_among w ps ≡ b → is_among w (noted ps w) ≡ true
    by_test true e = rw e e
    by_test false e = rw e (among_last w ps)

all_keep : (w : Word) (ps ws : List Word) → is_among w ps ≡ true → is_among w (all_noted ps ws) ≡ true
all_keep w ps [] h = h
all_keep w ps (v ∷ ws) h = all_keep w (noted ps v) ws (noted_keeps w v ps h)

among_noted : (w : Word) (ps ws : List Word) → is_among w ws ≡ true → is_among w (all_noted ps ws) ≡ true
among_noted w ps [] h = absurd (cc)
among_noted w ps (v ∷ ws) h = elim (or_cases (bytes_eq w v) (is_among w ws) h) [
  | inl e ↦ all_keep w (noted ps v) ws (let same : w ≡ v = (bytes_decides w v).0 e in subst (λ x. is_among w (noted ps x) ≡ true) same (noted_has w ps))
  | inr e ↦ among_noted w (noted ps v) ws e
]

among_distinct : (w : Word) (vs : List Word) → is_among w vs ≡ true → is_among w (distinct vs) ≡ true
among_distinct w vs h = among_noted w [] vs h

all_of : (ws ps : List Word) → ((w : Word) → 0 < count w ws → is_among w ps ≡ true) → all_among ws ps ≡ true
all_of [] ps h = refl
all_of (w ∷ ws) ps h =
    let e : bytes_eq w w ≡ true = (bytes_decides w w).1 refl in
    rw (h w (rw e (omega arith)), all_of ws ps (λ v l. h v (omega (arith, l)))) refl

pub lies_among : (ws bag : List Word) → LiesIn ws bag → all_among ws (distinct bag) ≡ true
lies_among ws bag h = all_of ws (distinct bag) (λ w l. by_test w l (is_among w bag) refl)
  where
    by_test : (w : Word) → 0 < count w ws → (b : Bool) → is_among w bag ≡ b → is_among w (distinct bag) ≡ true
    by_test w l true t = among_distinct w bag t
    by_test w l false t = absurd (let z = among_some w bag t in let k = h w in omega (arith, z, k, l))

tally_at : (w : Word) (ps xs ys : List Word) → is_among w ps ≡ true → tally ps xs ≡ tally ps ys → count w xs ≡ count w ys
tally_at w [] xs ys h e = absurd (cc)
tally_at w (p ∷ ps) xs ys h e = by_test (bytes_eq w p) refl (λ k. tally_at w ps xs ys k (cc))
  where
    by_test : (b : Bool) → bytes_eq w p ≡ b → (is_among w ps ≡ true → count w xs ≡ count w ys) → count w xs ≡ count w ys
    by_test true t go = let same : w ≡ p = (bytes_decides w p).0 t in let z : count p xs ≡ count p ys = cc in subst (λ v. count v xs ≡ count v ys) (sym same) z
    by_test false t go = go (let q : is_among w (p ∷ ps) ≡ is_among w ps = rw t refl in sym q ∙ h)

pub and_both : (a b : Bool) → a && b ≡ true → (a ≡ true) × (b ≡ true)
and_both true b h = (refl, h)
and_both false b h = absurd (cc)

pub among_all : (w : Word) (ws ps : List Word) → all_among ws ps ≡ true → is_among w ws ≡ true → is_among w ps ≡ true
among_all w [] ps a h = absurd (cc)
among_all w (v ∷ ws) ps a h = by_test (bytes_eq w v) refl (among_all w ws ps (and_both (is_among v ps) (all_among ws ps) a).1)
  where
    by_test : (b : Bool) → bytes_eq w v ≡ b → (is_among w ws ≡ true → is_among w ps ≡ true) → is_among w ps ≡ true
    by_test true t go = let same : w ≡ v = (bytes_decides w v).0 t in subst (λ x. is_among x ps ≡ true) (sym same) (and_both (is_among v ps) (all_among ws ps) a).0
    by_test false t go = go (let q : is_among w (v ∷ ws) ≡ is_among w ws = rw t refl in sym q ∙ h)

pub same_bag : (ws bag : List Word) → all_among ws (distinct bag) ≡ true → tally (distinct bag) ws ≡ tally (distinct bag) bag → SameBag ws bag
same_bag ws bag a e w = by_test (is_among w (distinct bag)) refl
  where
    none : (vs : List Word) (b : Bool) → is_among w vs ≡ b → (is_among w vs ≡ true → is_among w (distinct bag) ≡ true) → is_among w (distinct bag) ≡ false → count w vs ≡ 0
    none vs true t go f = absurd (let z = go t in cc)
    none vs false t go f = among_some w vs t

    by_test : (b : Bool) → is_among w (distinct bag) ≡ b → count w ws ≡ count w bag
    by_test true t = tally_at w (distinct bag) ws bag t e
    by_test false t = none ws (is_among w ws) refl (among_all w ws (distinct bag) a) t ∙ sym (none bag (is_among w bag) refl (among_distinct w bag) t)

pub all_append : (xs ys ps : List Word) → all_among xs ps ≡ true → all_among ys ps ≡ true → all_among (xs ++ ys) ps ≡ true
all_append [] ys ps a b = b
all_append (x ∷ xs) ys ps a b = let z = and_both (is_among x ps) (all_among xs ps) a in rw (z.0, all_append xs ys ps z.1 b) refl

-- what is counted
pub record Counted (places ws : List Word) (n : ℕ) (c : Counts) : Type 0 where
  pub among : all_among ws places ≡ true
  pub of : c.of ≡ tally places ws
  pub empty : c.empty ≡ n

pub counted_some : (places ws : List Word) (n : ℕ) (c : Counts) → counted places ws n ≡ Some c → Counted places ws n c
counted_some places ws n c h = by_test (all_among ws places) refl
  where
    by_test : (b : Bool) → all_among ws places ≡ b → Counted places ws n c
    by_test true t =
        let v : counted places ws n ≡ Some (record { of = tally places ws; empty = n }) = rw t refl in
        let w : record { of = tally places ws; empty = n } ≡ c = cc in
        record { among = t; of = ap (λ (x : Counts). x.of) (sym w); empty = ap (λ (x : Counts). x.empty) (sym w) }
    by_test false t = absurd (let v : counted places ws n ≡ None = rw t refl in cc)

pub counted_is : (places ws : List Word) (n : ℕ) → all_among ws places ≡ true → counted places ws n ≡ Some (record { of = tally places ws; empty = n })
counted_is places ws n h = rw h refl

-- two tallies within the bound join to that of both
pub tallies_join : (bag ws vs : List Word) (most m n : ℕ) → LiesIn (ws ++ vs) bag → m + n ≤ most →
    counts_join (bound_of bag most) (record { of = tally (distinct bag) ws; empty = m }) (record { of = tally (distinct bag) vs; empty = n }) ≡ Some (record { of = tally (distinct bag) (ws ++ vs); empty = m + n })
tallies_join bag ws vs most m n h l =
    let e = tally_append (distinct bag) ws vs in
    let a : (length (tally (distinct bag) ws) == length (tally (distinct bag) bag)) ≡ true = eq-eqb (length (tally (distinct bag) ws)) (length (tally (distinct bag) bag)) (tally_length (distinct bag) ws ∙ sym (tally_length (distinct bag) bag)) in
    let b : (length (tally (distinct bag) vs) == length (tally (distinct bag) bag)) ≡ true = eq-eqb (length (tally (distinct bag) vs)) (length (tally (distinct bag) bag)) (tally_length (distinct bag) vs ∙ sym (tally_length (distinct bag) bag)) in
    let c : all_within (add_all (tally (distinct bag) ws) (tally (distinct bag) vs)) (tally (distinct bag) bag) ≡ true = subst (λ xs. all_within xs (tally (distinct bag) bag) ≡ true) e (tally_within (distinct bag) (ws ++ vs) bag h) in
    let d : nat_le (m + n) most ≡ true = le-leb (m + n) most l in
    rw (a, b, c, d) (ap (λ xs. Some (record { of = xs; empty = m + n })) (sym e))

-- a word that is counted makes the sum of counts positive
pub tally_some : (w : Word) (ws ps : List Word) → is_among w ps ≡ true → 0 < count w ws → 0 < sum (tally ps ws)
tally_some w ws [] h l = absurd (cc)
tally_some w ws (p ∷ ps) h l =
    let whole = sum_cons (count p ws) (tally ps ws) in
    elim (or_cases (bytes_eq w p) (is_among w ps) h) [
      | inl e ↦ (let same : w ≡ p = (bytes_decides w p).0 e in let k : 0 < count p ws = subst (λ v. 0 < count v ws) same l in omega (arith, k, whole))
      | inr e ↦ (let k = tally_some w ws ps e l in omega (arith, k, whole))
    ]

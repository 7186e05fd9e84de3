-- A pool as it is made.
use Rattle.std.proofs.Common.{◌≡◌, ◌≢◌, ◌∙◌, ℕ, zero, suc, ◌+◌, ◌-◌, ◌<◌, ◌≤◌, if◌then◌else◌, List, [], ◌∷◌, ◌++◌, length, length-append, map, set, All, slice_index_or, refl, sym, ap, subst, ◌⊎◌, inl, inr, ⊎_elim, eq-eqb, ne_eqb, arith}
use Rattle.std.proofs.lemmas.List.{append-nil, length-map}
use mathlib.Core.Option.{some, some-injective, some-ne-none}
use mathlib.Core.Logic.{dite}
use native.Mathlib.Decide.{ℕ_discrete}
use lib.ListN.{get_elem?}
use Rattle.atomic_table.proofs.Lists.{at_set, at_longer, at_last, at_snoc}
use Rattle.crossbeam_deque.specs.Handles.{worker_deque, worker_flavor, worker_view, stealer_deque}
use Rattle.chart_workers.specs.declared.seat.Door.{Door}
use Rattle.chart_workers.specs.Balance.{hand}
use Rattle.chart_workers.specs.Whole.{ArePlaced}
use Rattle.chart_workers.specs.Pools.{others}
use Rattle.chart_workers.specs.Making.{Deque, IsRow, Lost}

pub others_past : (j n : ℕ) → n ≢ j → others j (suc n) ≡ others j n ++ n ∷ []
others_past j n ne = λ i. others j n ++ (if ne_eqb n j ne i then [] else n ∷ [])

pub others_own : (j n : ℕ) → n ≡ j → others j (suc n) ≡ others j n
others_own j n is = (λ i. others j n ++ (if eq-eqb n j is i then [] else n ∷ [])) ∙ append-nil (others j n)

pub others_few : (j n : ℕ) → length (others j n) ≤ n
others_few j zero = omega arith
others_few j (suc n) = let few = others_few j n in dite (ℕ_discrete n j)
    (λ is. let e = ap (λ l. length l) (others_own j n is) in omega arith)
    (λ ne. let e = ap (λ l. length l) (others_past j n ne) in let a = length-append (others j n) (n ∷ []) in omega arith)

others_all : (j n : ℕ) → n ≤ j → length (others j n) ≡ n
others_all j zero le = refl
others_all j (suc n) le =
    let ne : n ≢ j = λ is. absurd (omega arith) in
    let e = ap (λ l. length l) (others_past j n ne) in let a = length-append (others j n) (n ∷ []) in let r = others_all j n (omega arith) in omega arith

pub others_long : (j n : ℕ) → j < n → length (others j n) + 1 ≡ n
others_long j zero lt = absurd (omega arith)
others_long j (suc n) lt = dite (ℕ_discrete n j)
    (λ is. let e = ap (λ l. length l) (others_own j n is) in let r = others_all j n (omega arith) in omega arith)
    (λ ne. let e = ap (λ l. length l) (others_past j n ne) in let a = length-append (others j n) (n ∷ []) in let r = others_long j n (omega arith) in omega arith)

pub row_long : (places : List _) (j : ℕ) (doors : List Door) → j < length places → IsRow places j doors → length doors + 1 ≡ length places
row_long places j doors lt row = let n = ap (λ (l : List ℕ). length l) row.numbers in let m = length-map doors (λ (d : Door). d.deque) in let o = others_long j (length places) lt in omega arith

-- what was found of the deques before `at`, and those from there on as they were
abbrev pub AreLost : ℕ → ℕ → List Deque → List Deque → Type 0
AreLost j at old now = (t : ℕ) (d : Deque) → get_elem? now t ≡ some d → (e : Deque) × (get_elem? old t ≡ some e) × (t < at → Lost j t e d) × (at ≤ t → d ≡ e)

pub none_lost : (j : ℕ) (old : List Deque) → AreLost j 0 old old
none_lost j old t d there = (d, there, (λ lt. absurd (omega arith)), λ le. refl)

pub own_kept : (j at : ℕ) (old now : List Deque) → at ≡ j → ((t : ℕ) (d : Deque) → get_elem? old t ≡ some d → worker_flavor d ≡ 0) → AreLost j at old now → AreLost j (at + 1) old now
own_kept j at old now own fifo lost t d there = let l = lost t d there in (
  l.0,
  l.1,
  (λ lt. dite (ℕ_discrete t at)
      (λ is. let same = l.3 (omega arith) in record {
        place = ap worker_deque same;
        fifo = ap worker_flavor same ∙ fifo t l.0 l.1;
        own = λ _. ap worker_view same;
        other = λ ne. absurd (ne (is ∙ own));
      })
      (λ ne. l.2 (omega arith))),
  λ le. l.3 (omega arith),
)

pub one_lost : (j at : ℕ) (old now : List Deque) (d d' : Deque) → at ≢ j → get_elem? now at ≡ some d → worker_deque d' ≡ worker_deque d → worker_flavor d' ≡ 0 → worker_view d' ≡ hand ((worker_view d).parts - 1) (worker_view d).put (worker_view d).taken → AreLost j at old now → AreLost j (at + 1) old (set now at d')
one_lost j at old now d d' other here place fifo views lost t x there = ⊎_elim
    (λ (y : (t ≡ at) × (d' ≡ x)).
    let l = lost at d here in let same = l.3 (omega arith) in (
      l.0,
      ap (λ (k : ℕ). get_elem? old k) y.0 ∙ l.1,
      (λ lt. subst (λ (z : Deque). Lost j t l.0 z) y.1 (record {
        place = place ∙ ap worker_deque same;
        fifo = fifo;
        own = λ is. absurd (other (sym y.0 ∙ is));
        other = λ ne. views ∙ ap (λ (z : Deque). hand ((worker_view z).parts - 1) (worker_view z).put (worker_view z).taken) same;
      })),
      λ le. absurd (let n = y.0 in omega arith),
    ))
    (λ (y : (t ≢ at) × (get_elem? now t ≡ some x)).
    let l = lost t x y.1 in let ne = y.0 in (l.0, l.1, (λ lt. l.2 (omega arith)), λ le. l.3 (omega arith)))
    (at_set now at t d' x there)

pub below : {A : Type 0} (l : List A) (i : ℕ) (a : A) → get_elem? l i ≡ some a → i < length l
below [] i a e = absurd (some-ne-none a (sym e))
below (x ∷ xs) zero a e = omega arith
below (x ∷ xs) (suc i) a e = let r = below xs i a e in omega arith

pub all_lost : (j at : ℕ) (old now : List Deque) → length old ≤ at → AreLost j at old now → (t : ℕ) (d : Deque) → get_elem? now t ≡ some d → (e : Deque) × (get_elem? old t ≡ some e) × Lost j t e d
all_lost j at old now past lost t d there = let l = lost t d there in let lt = below old t l.0 l.1 in (l.0, l.1, l.2 (omega arith))

pub one_placed : (places : List _) (doors : List Door) (d : Door) (k : ℕ) (place : _) → d.deque ≡ k → get_elem? places k ≡ some place → stealer_deque d.thief ≡ place → ArePlaced places doors → ArePlaced places (doors ++ d ∷ [])
one_placed places doors d k place number there leads placed i x at = ⊎_elim (λ e. placed i x e)
    (λ (same : d ≡ x). subst (λ (z : Door). get_elem? places z.deque ≡ some (stealer_deque z.thief)) same (ap (λ (n : ℕ). get_elem? places n) number ∙ there ∙ ap some (sym leads)))
    (at_snoc doors d x i at)

-- after the seats before j have their doors, and those of the seat j
pub cut_on : (j t : ℕ) (e d : Deque) → (t < j → (worker_view e).parts + j ≡ 65) → (j ≤ t → (worker_view e).parts + j ≡ 64) → 0 < (worker_view e).parts → Lost j t e d
    → (t < j + 1 → (worker_view d).parts + (j + 1) ≡ 65) × (j + 1 ≤ t → (worker_view d).parts + (j + 1) ≡ 64)
cut_on j t e d before after some_part lost = dite (ℕ_discrete t j)
    (λ is. let v = ap (λ v. v.parts) (lost.own is) in let a = after (omega arith) in ((λ lt. omega arith), λ le. absurd (omega arith)))
    (λ ne. let v = ap (λ v. v.parts) (lost.other ne) in ((λ lt. let b = before (omega arith) in omega arith), λ le. let a = after (omega arith) in omega arith))

module _ {A B : Type 0} (f : A → B) where
  map_last : (xs : List A) (x : A) → map f (xs ++ x ∷ []) ≡ map f xs ++ f x ∷ []
  map_last [] x = refl
  map_last (y ∷ ys) x = ap (λ l. f y ∷ l) (map_last ys x)

pub numbers_past : (found : List Door) (x : Door) (j at : ℕ) → at ≢ j → x.deque ≡ at → map (λ (d : Door). d.deque) found ≡ others j at → map (λ (d : Door). d.deque) (found ++ x ∷ []) ≡ others j (at + 1)
numbers_past found x j at ne is known =
    map_last (λ (d : Door). d.deque) found x ∙ ap (λ (l : List ℕ). l ++ x.deque ∷ []) known ∙ ap (λ (n : ℕ). others j at ++ n ∷ []) is ∙ sym (others_past j at ne) ∙ ap (λ (n : ℕ). others j n) (let z : suc at ≡ at + 1 = omega arith in z)

pub numbers_own : (j at : ℕ) → at ≡ j → others j at ≡ others j (at + 1)
numbers_own j at is = sym (others_own j at is) ∙ ap (λ (n : ℕ). others j n) (let z : suc at ≡ at + 1 = omega arith in z)

module _ {A : Type 0} where
  pub none_there : (l : List A) → l ≡ [] → (i : ℕ) (a : A) → get_elem? l i ≡ some a → ⊥
  none_there l none i a at = some-ne-none a (sym at ∙ ap (λ (k : List A). get_elem? k i) none)

  or_of : (l : List A) (i : ℕ) (a d : A) → get_elem? l i ≡ some a → slice_index_or l i d ≡ a
  or_of [] i a d e = absurd (some-ne-none a (sym e))
  or_of (x ∷ xs) zero a d e = some-injective x a e
  or_of (x ∷ xs) (suc i) a d e = or_of xs i a d e

  pub all_at : (P : A → Type 0) (l : List A) → All P l → (i : ℕ) (a : A) → get_elem? l i ≡ some a → P a
  all_at P l all i a at = subst P (or_of l i a a at) (all i a (below l i a at))

  pub the_last : (orig new rest : List A) (x : A) → orig ≡ (new ++ x ∷ []) ++ rest → get_elem? orig (length new) ≡ some x
  the_last orig new rest x is = ap (λ (l : List A). get_elem? l (length new)) is ∙ at_longer (new ++ x ∷ []) rest (length new) x (at_last new x (length new) refl)

  push_at : (P : A → Type 0) (l : List A) (a : A) → P a → ((i : ℕ) (x : A) → get_elem? l i ≡ some x → P x) → (i : ℕ) (x : A) → get_elem? (l ++ a ∷ []) i ≡ some x → P x
  push_at P l a last old i x e = ⊎_elim (λ h. old i x h) (λ (same : a ≡ x). subst P same last) (at_snoc l a x i e)

  pub each_push : (P : A → Type 0) (l l' : List A) (a : A) → l' ≡ l ++ a ∷ [] → P a → ((i : ℕ) (x : A) → get_elem? l i ≡ some x → P x) → (i : ℕ) (x : A) → get_elem? l' i ≡ some x → P x
  each_push P l l' a is last old i x e = push_at P l a last old i x (ap (λ (k : List A). get_elem? k i) (sym is) ∙ e)

  snoc_cases : (l : List A) (a b : A) (j : ℕ) → get_elem? (l ++ a ∷ []) j ≡ some b → (get_elem? l j ≡ some b) ⊎ ((j ≡ length l) × (a ≡ b))
  snoc_cases [] a b zero e = inr (refl, some-injective a b e)
  snoc_cases [] a b (suc j) e = absurd (some-ne-none b (sym e))
  snoc_cases (x ∷ xs) a b zero e = inl e
  snoc_cases (x ∷ xs) a b (suc j) e = ⊎_elim (λ h. inl h) (λ (t : (j ≡ length xs) × (a ≡ b)). inr ((let n = t.0 in omega arith), t.1)) (snoc_cases xs a b j e)

  -- the same where each stands at its place
  pub each_placed : (P : ℕ → A → Type 0) (l l' : List A) (a : A) → l' ≡ l ++ a ∷ [] → P (length l) a → ((i : ℕ) (x : A) → get_elem? l i ≡ some x → P i x) → (i : ℕ) (x : A) → get_elem? l' i ≡ some x → P i x
  each_placed P l l' a is last old i x e = ⊎_elim (λ h. old i x h)
      (λ (t : (i ≡ length l) × (a ≡ x)). subst (λ (k : ℕ). P k x) (sym t.0) (subst (λ (y : A). P (length l) y) t.1 last))
      (snoc_cases l a x i (ap (λ (k : List A). get_elem? k i) (sym is) ∙ e))

-- what is left of a deque's part after a seat has its doors
pub fresh_on : (j t : ℕ) (e d : Deque) → Lost j t e d → (worker_view e).put ≡ [] → (worker_view e).taken ≡ [] → (worker_flavor d ≡ 0) × ((worker_view d).put ≡ []) × ((worker_view d).taken ≡ [])
fresh_on j t e d lost put taken = (
  lost.fifo,
  dite (ℕ_discrete t j) (λ is. ap (λ v. v.put) (lost.own is) ∙ put) (λ ne. ap (λ v. v.put) (lost.other ne) ∙ put),
  dite (ℕ_discrete t j) (λ is. ap (λ v. v.taken) (lost.own is) ∙ taken) (λ ne. ap (λ v. v.taken) (lost.other ne) ∙ taken),
)

less_or : (a b : ℕ) → (a < b) ⊎ (b ≤ a)
less_or a zero = inr (omega arith)
less_or zero (suc b) = inl (omega arith)
less_or (suc a) (suc b) = ⊎_elim (λ l. inl (omega arith)) (λ l. inr (omega arith)) (less_or a b)

-- a deque has a part left, and two where it has still to give one
pub some_part : (parts j t : ℕ) → (t < j → parts + j ≡ 65) → (j ≤ t → parts + j ≡ 64) → j < 64 → 0 < parts
some_part parts j t before after few = ⊎_elim (λ l. let b = before l in omega arith) (λ l. let a = after l in omega arith) (less_or t j)

pub two_parts : (parts j t n : ℕ) → (t < j → parts + j ≡ 65) → (j ≤ t → parts + j ≡ 64) → t ≢ j → t < n → j < n → n ≤ 64 → 1 < parts
two_parts parts j t n before after ne lt less few = ⊎_elim (λ l. let b = before l in omega arith) (λ l. let a = after l in omega arith) (less_or t j)

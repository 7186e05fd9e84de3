-- Notes under sizes and levels.
use Rattle.std.specs.Prelude.{◌≡◌, ℕ, ◌+◌, ◌<◌, ◌⊎◌, Bool, true, false, cond, ◌==◌, Option, Some, None, IsSome, MatchOption, option_to_list, List, [], ◌∷◌, ◌++◌, length, refl, option_map, unwrap_or}
use Rattle.std.specs.declared.cmp.Ordering.{Ordering}
use Rattle.std.specs.declared.cmp.Ordering.TheVariants.{Less, Equal, Greater}
use Rattle.std.specs.Ordering.{nat_cmp, ordering_then, is_eq, is_gt}
use Rattle.std.specs.Cmp.{nat_cmp_is}
use Rattle.std.specs.BTreeMap as tree
use Rattle.std.specs.Map.{lookup}
use Rattle.std.specs.Global.{Global}
use Rattle.std.specs.VecDeque.{deque_items}
use Rattle.std.specs.declared.collections.VecDeque.{VecDeque}
use Rattle.std.proofs.Common.{ap, sym, ◌∙◌, subst, arith, inl, inr, zero, suc, true≢false, eqb-true}
use Rattle.std.proofs.lemmas.Bool.{cases_order, cases_eq}
use Rattle.chart_model.specs.At.{At, here, there, at_append, at_last, Snoc, at_snoc, at_found}
use Rattle.chart_model.specs.Ordered.{IsFrom}
use Rattle.chart_core.specs.declared.noted.Notes.{Notes}
use Rattle.chart_core.specs.Noted.{Key, compare, tasks_at, SameNotes, noted, IsEmpty, IsAfter, Adds, IsNext, Takes}

data Compared (x y : ℕ) : Ordering → Type 0 where
  less : x < y → Compared x y Less
  equal : x ≡ y → Compared x y Equal
  greater : y < x → Compared x y Greater

compared : (x y : ℕ) → Compared x y (nat_cmp x y)
compared x y = elim (cases_order x y) [
  | inl p ↦ subst (Compared x y) (nat_cmp_is x y Equal p) (equal p)
  | inr o ↦ elim o [
    | inl p ↦ subst (Compared x y) (nat_cmp_is x y Less p) (less p)
    | inr p ↦ subst (Compared x y) (nat_cmp_is x y Greater p) (greater p)
  ]
]

-- two keys are equal where they compare so, and nowhere else
data Apart (s v a b : ℕ) : Bool → Type 0 where
  same : s ≡ a → v ≡ b → Apart s v a b true
  other : ((a ≡ s) → (b ≡ v) → ⊥) → Apart s v a b false

apart_by : (s v a b : ℕ) (o p : Ordering) → Compared s a o → Compared v b p → Apart s v a b (is_eq (ordering_then o p))
apart_by s v a b _ _ (equal e) (equal f) = same e f
apart_by s v a b _ _ (equal e) (less f) = other (λ p q. absurd (omega arith))
apart_by s v a b _ _ (equal e) (greater f) = other (λ p q. absurd (omega arith))
apart_by s v a b _ p (less e) f = other (λ p q. absurd (omega arith))
apart_by s v a b _ p (greater e) f = other (λ p q. absurd (omega arith))

apart : (s v a b : ℕ) → Apart s v a b (is_eq (compare (s, v) (a, b)))
apart s v a b = apart_by s v a b _ _ (compared s a) (compared v b)

-- only the tasks under this size and level change
abbrev pub OnlyAt : Notes → ℕ → ℕ → Notes → Type 0
OnlyAt old size level new = (a b : ℕ) → (a ≡ size → b ≡ level → ⊥) → tasks_at new a b ≡ tasks_at old a b

abbrev pub Tasks : Type 0
Tasks = VecDeque ℕ Global

abbrev pub items_in : Option Tasks → List ℕ
items_in o = unwrap_or (option_map deque_items o) []

-- one entry is written
module _ (old new : Notes) (size level : ℕ) (w : Option Tasks) (h : (q : Key) → tree.get compare new.lists q ≡ cond (is_eq (compare (size, level) q)) w (tree.get compare old.lists q)) where
  pub here_is : tasks_at new size level ≡ items_in w
  here_is = ap items_in (h (size, level) ∙ by (is_eq (compare (size, level) (size, level))) (apart size level size level))
    where
      by : (b : Bool) → Apart size level size level b → cond b w (tree.get compare old.lists (size, level)) ≡ w
      by _ (same p q) = refl
      by _ (other f) = absurd (f refl refl)

  pub others_are : OnlyAt old size level new
  others_are a b p = ap items_in (h (a, b) ∙ by (is_eq (compare (size, level) (a, b))) (apart size level a b))
    where
      by : (t : Bool) → Apart size level a b t → cond t w (tree.get compare old.lists (a, b)) ≡ tree.get compare old.lists (a, b)
      by _ (same x y) = absurd (p (sym x) (sym y))
      by _ (other f) = refl

by_key : (s v a b : ℕ) → ((a ≡ s) × (b ≡ v)) ⊎ (a ≡ s → b ≡ v → ⊥)
by_key s v a b = elim (cases_eq a s) [
  | inl e ↦ elim (cases_eq b v) [ inl f ↦ inl (e, f) | inr f ↦ inr (λ p q. f q) ]
  | inr e ↦ inr (λ p q. e p)
]

pub adds_from : (old new : Notes) (t size level : ℕ) → tasks_at new size level ≡ tasks_at old size level ++ t ∷ [] → OnlyAt old size level new → Adds old t size level new
adds_from old new t size level e others = record {
  has = (length (tasks_at old size level), subst (λ xs. At xs (length (tasks_at old size level)) t) (sym e) (at_last (tasks_at old size level) t));
  keeps = λ u s v n. elim (by_key size level s v) [
    | inl p ↦
        let m : At (tasks_at old size level) n.0 u = subst (λ x. At (tasks_at old x level) n.0 u) p.0 (subst (λ y. At (tasks_at old s y) n.0 u) p.1 n.1) in
        let k : At (tasks_at new size level) n.0 u = subst (λ xs. At xs n.0 u) (sym e) (at_append (t ∷ []) m) in
        (n.0, subst (λ x. At (tasks_at new x v) n.0 u) (sym p.0) (subst (λ y. At (tasks_at new size y) n.0 u) (sym p.1) k))
    | inr p ↦ (n.0, subst (λ xs. At xs n.0 u) (sym (others s v p)) n.1)
  ];
  only = λ u s v n. elim (by_key size level s v) [
    | inl p ↦
        let m : At (tasks_at new size level) n.0 u = subst (λ x. At (tasks_at new x level) n.0 u) p.0 (subst (λ y. At (tasks_at new s y) n.0 u) p.1 n.1) in
        by_snoc s v u n.0 p.0 p.1 (at_snoc (tasks_at old size level) t n.0 u (subst (λ xs. At xs n.0 u) e m))
    | inr p ↦ inl (n.0, subst (λ xs. At xs n.0 u) (others s v p) n.1)
  ];
}
  where
    by_snoc : (s v u i : ℕ) → s ≡ size → v ≡ level → Snoc (tasks_at old size level) t i u → noted old u s v ⊎ ((u ≡ t) × (s ≡ size) × (v ≡ level))
    by_snoc s v u i p q (Snoc.old a) = inl (i, subst (λ x. At (tasks_at old x v) i u) (sym p) (subst (λ y. At (tasks_at old size y) i u) (sym q) a))
    by_snoc s v u i p q (Snoc.new e f) = inr (sym f, p, q)

behind : {xs ys : List ℕ} {i x y : ℕ} → xs ≡ x ∷ ys → At xs i y → ((j : ℕ) × At ys j y) ⊎ (y ≡ x)
behind {i = i} {y = y} e a = by (subst (λ l. At l i y) e a)
  where
    by : {ys : List ℕ} {i x y : ℕ} → At (x ∷ ys) i y → ((j : ℕ) × At ys j y) ⊎ (y ≡ x)
    by here = inr refl
    by (there a) = inl (_, a)

pub takes_from : (old new : Notes) (t size level : ℕ) → tasks_at old size level ≡ t ∷ tasks_at new size level → OnlyAt old size level new → Takes old t size level new × (length (tasks_at new size level) < length (tasks_at old size level))
takes_from old new t size level e others = (
  record {
    had = (zero, subst (λ xs. At xs zero t) (sym e) here);
    keeps = λ u s v n. elim (by_key size level s v) [
      | inl p ↦
          let m : At (tasks_at old size level) n.0 u = subst (λ x. At (tasks_at old x level) n.0 u) p.0 (subst (λ y. At (tasks_at old s y) n.0 u) p.1 n.1) in
          elim (behind e m) [
            | inl k ↦ inl (k.0, subst (λ x. At (tasks_at new x v) k.0 u) (sym p.0) (subst (λ y. At (tasks_at new size y) k.0 u) (sym p.1) k.1))
            | inr q ↦ inr (q, p.0, p.1)
          ]
      | inr p ↦ inl (n.0, subst (λ xs. At xs n.0 u) (sym (others s v p)) n.1)
    ];
    only = λ u s v n. elim (by_key size level s v) [
      | inl p ↦
          let m : At (tasks_at new size level) n.0 u = subst (λ x. At (tasks_at new x level) n.0 u) p.0 (subst (λ y. At (tasks_at new s y) n.0 u) p.1 n.1) in
          let k : At (tasks_at old size level) (suc n.0) u = subst (λ xs. At xs (suc n.0) u) (sym e) (there m) in
          (suc n.0, subst (λ x. At (tasks_at old x v) (suc n.0) u) (sym p.0) (subst (λ y. At (tasks_at old size y) (suc n.0) u) (sym p.1) k))
      | inr p ↦ (n.0, subst (λ xs. At xs n.0 u) (others s v p) n.1)
    ];
  },
  omega (arith, ap length e),
)

-- what is noted stays so
pub noted_same : (old new : Notes) → SameNotes old new → (t s v : ℕ) → noted old t s v → noted new t s v
noted_same old new h t s v n = (n.0, subst (λ xs. At xs n.0 t) (sym (h s v)) n.1)

pub noted_back : (old new : Notes) → SameNotes old new → (t s v : ℕ) → noted new t s v → noted old t s v
noted_back old new h t s v n = (n.0, subst (λ xs. At xs n.0 t) (h s v) n.1)

-- where none is under this size and level, what comes from them on comes after them
pub after_none : (notes : Notes) (size level : ℕ) → IsAfter notes size level → tasks_at notes size level ≡ [] → IsAfter notes size (level + 1)
after_none notes size level after e t s v n = elim (by_key size level s v) [
  | inl p ↦ absurd (no_place (subst (λ xs. At xs n.0 t) e (subst (λ x. At (tasks_at notes x level) n.0 t) p.0 (subst (λ y. At (tasks_at notes s y) n.0 t) p.1 n.1))))
  | inr p ↦ next s v p (after t s v n)
]
  where
    no_place : {i x : ℕ} → At [] i x → ⊥
    no_place a = elim a [ ]

    next : (s v : ℕ) → (s ≡ size → v ≡ level → ⊥) → IsFrom size level s v → IsFrom size (level + 1) s v
    next s v p (inl q) = inl q
    next s v p (inr q) = elim (cases_eq v level) [ inl f ↦ absurd (p q.0 f) | inr f ↦ inr (q.0, let h = q.1 in omega (arith, f, h)) ]

pub after_same : (old new : Notes) (n l : ℕ) → SameNotes old new → IsAfter old n l → IsAfter new n l
after_same old new n l h after t s v m = after t s v (noted_back old new h t s v m)

empty_list : (xs : List ℕ) → length xs ≡ 0 → xs ≡ []
empty_list [] e = refl
empty_list (x ∷ xs) e = absurd (omega (arith, e))

pub unfilled : (xs : List ℕ) (n : ℕ) → n ≡ length xs → (n == 0) ≡ true → xs ≡ []
unfilled xs n e f = empty_list xs (sym e ∙ eqb-true n 0 f)

pub filled : (xs : List ℕ) (n : ℕ) → n ≡ length xs → (n == 0) ≡ false → 0 < length xs
filled [] n e f = absurd (true≢false (subst (λ m. (m == 0) ≡ false) e f))
filled (x ∷ xs) n e f = omega arith

-- what taking out a task answers
abbrev pub Taken : Notes → ℕ → ℕ → Notes → Option ℕ → Type 0
Taken old size level new r = MatchOption r (SameNotes old new × IsAfter new size (level + 1)) (λ task. Takes old task size level new × (length (tasks_at new size level) < length (tasks_at old size level)))

-- the tasks of one entry are written, and nothing else
module _ (old new : Notes) (size level : ℕ) (found written : Option Tasks) (had : tree.get compare old.lists (size, level) ≡ found) (h : (q : Key) → tree.get compare new.lists q ≡ cond (is_eq (compare (size, level) q)) written (tree.get compare old.lists q)) where
  pub adds_at : (t : ℕ) → items_in written ≡ items_in found ++ t ∷ [] → Adds old t size level new
  adds_at t e = adds_from old new t size level (here_is old new size level written h ∙ (e ∙ ap (λ o. items_in o ++ t ∷ []) (sym had))) (others_are old new size level written h)

  takes_at : (t : ℕ) → items_in found ≡ t ∷ items_in written → Takes old t size level new × (length (tasks_at new size level) < length (tasks_at old size level))
  takes_at t e = takes_from old new t size level (ap items_in had ∙ (e ∙ ap (λ xs. t ∷ xs) (sym (here_is old new size level written h)))) (others_are old new size level written h)

  pub same_at : items_in written ≡ items_in found → SameNotes old new
  same_at e s v = elim (by_key size level s v) [
    | inl p ↦
        let here : tasks_at new size level ≡ tasks_at old size level = here_is old new size level written h ∙ (e ∙ ap items_in (sym had)) in
        subst (λ x. tasks_at new x v ≡ tasks_at old x v) (sym p.0) (subst (λ y. tasks_at new size y ≡ tasks_at old size y) (sym p.1) here)
    | inr p ↦ others_are old new size level written h s v p
  ]

  none_at : items_in written ≡ items_in found → items_in found ≡ [] → IsAfter old size level → SameNotes old new × IsAfter new size (level + 1)
  none_at e none after =
      let same : SameNotes old new = same_at e in
      (same, after_none new size level (after_same old new size level same after) (here_is old new size level written h ∙ (e ∙ none)))

  pub taken_at : (r : Option ℕ) (n m : ℕ) → n ≡ length (items_in found) → items_in found ≡ option_to_list r ++ items_in written → MatchOption r ((n ≡ 0) × (m ≡ 0)) (λ _. m + 1 ≡ n) → IsAfter old size level → Taken old size level new r
  taken_at None n m l e cases after = none_at (sym e) (empty_list (items_in found) (sym l ∙ cases.0)) after
  taken_at (Some t) n m l e cases after = takes_at t e

pub same_then : (one two three : Notes) → SameNotes one two → SameNotes two three → SameNotes one three
same_then one two three f g s v = g s v ∙ f s v

pub none_taken : (old new : Notes) (size level : ℕ) (r : Option ℕ) → r ≡ None → new.lists ≡ old.lists → tree.get compare old.lists (size, level) ≡ None → IsAfter old size level → Taken old size level new r
none_taken old new size level r is e none after =
    let same : SameNotes old new = λ s v. ap (λ m. items_in (tree.get compare m (s, v))) e in
    subst (Taken old size level new) (sym is) (same, after_none new size level (after_same old new size level same after) (same size level ∙ ap items_in none))

-- no entries, no notes
no_entry : (test : Key → Bool) (es : List (Key × Tasks)) → length es ≡ 0 → lookup test es ≡ None
no_entry test [] e = refl
no_entry test (x ∷ es) e = absurd (omega (arith, e))

no_task : {i t : ℕ} → At (items_in None) i t → ⊥
no_task a = elim a [ ]

pub is_empty : (notes : Notes) → length notes.lists.entries ≡ 0 → IsEmpty notes
is_empty notes e t s v n = no_task (subst (λ o. At (items_in o) n.0 t) (no_entry (tree.is_at (compare (s, v))) notes.lists.entries e) n.1)

-- the first key with tasks is the next one
from_by : (n l s v : ℕ) (o p : Ordering) → Compared n s o → Compared l v p → is_gt (ordering_then o p) ≡ false → IsFrom n l s v
from_by n l s v _ p (less e) f h = inl e
from_by n l s v _ _ (equal e) (less f) h = inr (sym e, omega arith)
from_by n l s v _ _ (equal e) (equal f) h = inr (sym e, omega arith)
from_by n l s v _ _ (equal e) (greater f) h = absurd (cc)
from_by n l s v _ p (greater e) f h = absurd (cc)

from_least : (a b : Key) → is_gt (compare a b) ≡ false → IsFrom a.0 a.1 b.0 b.1
from_least a b h = from_by a.0 a.1 b.0 b.1 _ _ (compared a.0 b.0) (compared a.1 b.1) h

is_there : (o : Option Tasks) (i t : ℕ) → At (items_in o) i t → IsSome o
is_there None i t a = absurd (no_task a)
is_there (Some l) i t a = refl

pub is_next : (notes : Notes) (first : Key) (list : Tasks) → tree.get compare notes.lists first ≡ Some list → 0 < length list.items → tree.IsLowerBound compare notes.lists first → IsNext notes first.0 first.1
is_next notes first list found long least =
    let task = at_found list.items 0 long in
    record {
      task = task.0;
      has = (zero, subst (λ xs. At xs zero task.0) (sym (ap items_in found)) task.1);
      first = λ t s v n. from_least first (s, v) (least (s, v) (is_there (tree.get compare notes.lists (s, v)) n.0 t n.1));
    }

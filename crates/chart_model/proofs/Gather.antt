-- Lists of tasks: what is in them, and that nothing is twice.
use Rattle.std.specs.Prelude.{◌≡◌, ℕ, ◌+◌, ◌<◌, ◌≤◌, Bool, true, false, ◌&&◌, Option, Some, None, List, [], ◌∷◌, ◌++◌, length, refl}
use Rattle.std.proofs.Math.Nat.{eq-or-lt_of_le}
use Rattle.std.proofs.Common.{inl, inr, zero, suc, ap, subst, arith, add-zero}
use Rattle.chart_model.specs.Calculus.{Calculus}
use Rattle.chart_model.specs.Tuples.{on_list}
use Rattle.chart_model.specs.Chart.{Row, Task, gather, rule_tasks, is_free, all_free}
use Rattle.chart_model.specs.At.{At, here, there}

-- nothing stands at two places
abbrev pub Once : {A : Type 0} → List A → Type 0
Once {A} xs = (i j : ℕ) (x : A) → At xs i x → At xs j x → i ≡ j

pub data Either (A B : Type 0) : Type 0 where
  left : A → Either A B
  right : B → Either A B

module _ {A : Type 0} where
  pub at_behind : (xs : List A) (ys : List A) (i : ℕ) (y : A) → At ys i y → At (xs ++ ys) (length xs + i) y
  at_behind [] ys i y a = subst (λ j. At ys j y) (omega arith) a
  at_behind (x ∷ xs) ys i y a = subst (λ j. At (x ∷ (xs ++ ys)) j y) (omega arith) (there (at_behind xs ys i y a))

  -- a place of a joined list is one of the first or of the second
  pub record Behind (xs ys : List A) (i : ℕ) (y : A) : Type 0 where
    pub place : ℕ
    pub number : i ≡ length xs + place
    pub at : At ys place y

  pub split_at : (xs ys : List A) (i : ℕ) (y : A) → At (xs ++ ys) i y → Either (At xs i y) (Behind xs ys i y)
  split_at [] ys i y a = right (record { place = i; number = omega arith; at = a })
  split_at (x ∷ xs) ys i y (here) = left here
  split_at (x ∷ xs) ys i y (there {i = j} a) = elim (split_at xs ys j y a) [ left b ↦ left (there b) | right b ↦ right (record { place = b.place; number = omega arith; at = b.at }) ]

  pub once_append : (xs ys : List A) → Once xs → Once ys → ((i j : ℕ) (x : A) → At xs i x → At ys j x → ⊥) → Once (xs ++ ys)
  once_append xs ys p q apart i j x a b = of_sides (split_at xs ys i x a) (split_at xs ys j x b)
    where
      of_sides : Either (At xs i x) (Behind xs ys i x) → Either (At xs j x) (Behind xs ys j x) → i ≡ j
      of_sides (left c) (left d) = p i j x c d
      of_sides (left c) (right d) = absurd (apart i d.place x c d.at)
      of_sides (right c) (left d) = absurd (apart j c.place x d c.at)
      of_sides (right c) (right d) = let e : c.place ≡ d.place = q c.place d.place x c.at d.at in omega (arith, c.number, d.number, e)

pub free_at : (into : List (Option ℕ)) (i : ℕ) → is_free into i ≡ true → At into i None
free_at [] i h = absurd (cc)
free_at (None ∷ into) zero h = here
free_at (Some r ∷ into) zero h = absurd (cc)
free_at (None ∷ into) (suc i) h = there (free_at into i h)
free_at (Some r ∷ into) (suc i) h = there (free_at into i h)

pub at_free : (into : List (Option ℕ)) (i : ℕ) → At into i None → is_free into i ≡ true
at_free [] i a = elim a [ ]
at_free (Some r ∷ into) zero a = elim a [ ]
at_free (None ∷ into) zero (here) = refl
at_free (None ∷ into) (suc i) (there a) = at_free into i a
at_free (Some r ∷ into) (suc i) (there a) = at_free into i a

both : (a b : Bool) → a && b ≡ true → (a ≡ true) × (b ≡ true)
both true b h = (refl, h)
both false b h = absurd (cc)

pub both_free : (into : List (Option ℕ)) (d : ℕ) (ds : List ℕ) → all_free into (d ∷ ds) ≡ true → (is_free into d ≡ true) × (all_free into ds ≡ true)
both_free into d ds h = both (is_free into d) (all_free into ds) h

pub all_free_at : (into : List (Option ℕ)) (ds : List ℕ) → all_free into ds ≡ true → (j d : ℕ) → At ds j d → At into d None
all_free_at into [] h j d a = elim a [ ]
all_free_at into (x ∷ ds) h j d (here) = free_at into d (both (is_free into x) (all_free into ds) h).0
all_free_at into (x ∷ ds) h j d (there {i = l} a) = all_free_at into ds (both (is_free into x) (all_free into ds) h).1 l d a

pub at_all_free : (into : List (Option ℕ)) (ds : List ℕ) → ((j d : ℕ) → At ds j d → At into d None) → all_free into ds ≡ true
at_all_free into [] h = refl
at_all_free into (x ∷ ds) h = rw (at_free into x (h zero x here)) (at_all_free into ds (λ j d a. h (suc j) d (there a)))

nat_split : (a b : ℕ) → a ≤ b → Either (a ≡ b) (a + 1 ≤ b)
nat_split a b p = elim (eq-or-lt_of_le p) [ inl e ↦ left e | inr l ↦ right (omega arith) ]

-- a task with each rule
pub rule_has : (n base more rule : ℕ) → base ≤ rule → rule < base + more → (t : ℕ) × At (rule_tasks n base more) t (record { rule = rule; partial = None; host = n })
rule_has n base zero rule l h = absurd (omega arith)
rule_has n base (suc more) rule l h = elim (nat_split base rule l) [ left e ↦ (zero, subst (λ r. At (rule_tasks n base (suc more)) zero (record { rule = r; partial = None; host = n })) e here) | right q ↦ let r = rule_has n (base + 1) more rule q (omega arith) in (suc r.0, there r.1) ]

pub record IsRuleTask (n base more t : ℕ) (task : Task) : Type 0 where
  pub rule : task.rule ≡ base + t
  pub below : task.rule < base + more
  pub partial : task.partial ≡ None
  pub host : task.host ≡ n

pub rule_is : (n base more t : ℕ) (task : Task) → At (rule_tasks n base more) t task → IsRuleTask n base more t task
rule_is n base zero t task a = elim a [ ]
rule_is n base (suc more) t task (here) = record { rule = omega arith; below = omega arith; partial = refl; host = refl }
rule_is n base (suc more) t task (there {i = j} a) = let r = rule_is n (base + 1) more j task a in record { rule = omega (arith, r.rule); below = omega (arith, r.below); partial = r.partial; host = r.host }

pub rule_once : (n base more : ℕ) → Once (rule_tasks n base more)
rule_once n base more i j x a b = omega (arith, (rule_is n base more i x a).rule, (rule_is n base more j x b).rule)

module _ {M C : Type 0} (k : Calculus M C) (f : ℕ → Row M C → Option Task) where
  listed_has : (o : Option Task) (task : Task) (tasks : List Task) → o ≡ Some task → At (on_list o tasks) zero task
  listed_has None task tasks e = absurd (cc)
  listed_has (Some x) task tasks e = let z : x ≡ task = cc in subst (λ y. At (x ∷ tasks) zero y) z here

  listed_behind : (o : Option Task) (tasks : List Task) (t : ℕ) (task : Task) → At tasks t task → (s : ℕ) × At (on_list o tasks) s task
  listed_behind None tasks t task a = (t, a)
  listed_behind (Some x) tasks t task a = (suc t, there a)

  pub gather_has : (i : ℕ) (rows : List (Row M C)) (j : ℕ) (row : Row M C) (task : Task) → At rows j row → f (i + j) row ≡ Some task → (t : ℕ) × At (gather k f i rows) t task
  gather_has i [] j row task a e = elim a [ ]
  gather_has i (w ∷ rows) zero row task (here) e = (zero, listed_has (f i w) task (gather k f (i + 1) rows) (rw add-zero at e))
  gather_has i (w ∷ rows) (suc j) row task (there a) e =
      let r = gather_has (i + 1) rows j row task a (let z : i + suc j ≡ (i + 1) + j = omega arith in subst (λ n. f n row ≡ Some task) z e) in
      listed_behind (f i w) (gather k f (i + 1) rows) r.0 task r.1

  -- a task of the list comes from the row at this place
  pub record From (i : ℕ) (rows : List (Row M C)) (task : Task) : Type 0 where
    pub place : ℕ
    pub row : Row M C
    pub at : At rows place row
    pub gives : f (i + place) row ≡ Some task

  pub from_zero : (rows : List (Row M C)) (task : Task) (r : From 0 rows task) → f r.place r.row ≡ Some task
  from_zero rows task r = let z : 0 + r.place ≡ r.place = omega arith in subst (λ n. f n r.row ≡ Some task) z r.gives

  from_there : (i : ℕ) (w : Row M C) (rows : List (Row M C)) (task : Task) → From (i + 1) rows task → From i (w ∷ rows) task
  from_there i w rows task r = record { place = suc r.place; row = r.row; at = there r.at; gives = let z : (i + 1) + r.place ≡ i + suc r.place = omega arith in subst (λ n. f n r.row ≡ Some task) z r.gives }

  listed_is : (i : ℕ) (w : Row M C) (rows : List (Row M C)) (tasks : List Task) (t : ℕ) (task : Task) → ((s : ℕ) → At tasks s task → From (i + 1) rows task) → (o : Option Task) → f i w ≡ o → At (on_list o tasks) t task → From i (w ∷ rows) task
  listed_is i w rows tasks t task more None e a = from_there i w rows task (more t a)
  listed_is i w rows tasks zero task more (Some x) e (here) = record { place = zero; row = w; at = here; gives = rw add-zero e }
  listed_is i w rows tasks (suc t) task more (Some x) e (there a) = from_there i w rows task (more t a)

  pub gather_is : (i : ℕ) (rows : List (Row M C)) (t : ℕ) (task : Task) → At (gather k f i rows) t task → From i rows task
  gather_is i [] t task a = elim a [ ]
  gather_is i (w ∷ rows) t task a = listed_is i w rows (gather k f (i + 1) rows) t task (λ s b. gather_is (i + 1) rows s task b) (f i w) refl a

  listed_once : (o : Option Task) (tasks : List Task) → Once tasks → ((t : ℕ) (x : Task) → o ≡ Some x → At tasks t x → ⊥) → Once (on_list o tasks)
  listed_once None tasks once fresh s t task a b = once s t task a b
  listed_once (Some x) tasks once fresh zero zero task a b = refl
  listed_once (Some x) tasks once fresh zero (suc t) task (here) (there b) = absurd (fresh t x refl b)
  listed_once (Some x) tasks once fresh (suc s) zero task (there a) (here) = absurd (fresh s x refl a)
  listed_once (Some x) tasks once fresh (suc s) (suc t) task (there a) (there b) = ap suc (once s t task a b)

  -- rows give different tasks
  pub gather_once : ((i j : ℕ) (v w : Row M C) (task : Task) → f i v ≡ Some task → f j w ≡ Some task → i ≡ j) → (i : ℕ) (rows : List (Row M C)) → Once (gather k f i rows)
  gather_once apart i [] = λ s t task a b. elim a [ ]
  gather_once apart i (w ∷ rows) =
      listed_once (f i w) (gather k f (i + 1) rows) (gather_once apart (i + 1) rows)
      (λ t x e a. let r = gather_is (i + 1) rows t x a in let z : i ≡ (i + 1) + r.place = apart i ((i + 1) + r.place) w r.row x e r.gives in omega arith)

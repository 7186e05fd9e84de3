-- No two rows have one rule and the same daughters.
use Rattle.std.specs.Prelude.{◌≡◌, ℕ, ◌+◌, Bool, true, false, Option, Some, None, List, [], ◌∷◌, ◌++◌, length, refl, slice_set, if◌then◌else◌}
use Rattle.std.proofs.Common.{zero, suc, ap, subst, sym, ◌∙◌, arith, length-append, append-nil}
use Rattle.chart_model.specs.Calculus.{Calculus}
use Rattle.chart_model.specs.Chart.{Row, Task, Chart, Leaf, Limits, daughters, before, daughters_of_row, all_free, with_done, with_outcome, whole_row, partial_row, peer_over, step, Entry, Outcome, Fails, Fits, Makes}
use Rattle.chart_model.proofs.Complete.{FactsOf, rule_of}
use Rattle.chart_model.proofs.Steps.{daughters_more}
use Rattle.chart_model.specs.Below.{Follows}
use Rattle.chart_model.specs.At.{At, here, there, at_one, at_append, to_get, from_get, Snoc, old, new, at_snoc}
use Rattle.chart_model.proofs.Pairing
use Rattle.chart_model.proofs.Gather.{free_at}

module _ {A : Type 0} where
  snoc_same : (xs ys : List A) (x y : A) → xs ++ x ∷ [] ≡ ys ++ y ∷ [] → (xs ≡ ys) × (x ≡ y)
  snoc_same [] [] x y e = (refl, cc)
  snoc_same [] (b ∷ ys) x y e = absurd (let z : length (x ∷ []) ≡ length (b ∷ (ys ++ y ∷ [])) = ap length e in omega (arith, z, length-append ys (y ∷ [])))
  snoc_same (a ∷ xs) [] x y e = absurd (let z : length (a ∷ (xs ++ x ∷ [])) ≡ length (y ∷ []) = ap length e in omega (arith, z, length-append xs (x ∷ [])))
  snoc_same (a ∷ xs) (b ∷ ys) x y e =
      let f : xs ++ x ∷ [] ≡ ys ++ y ∷ [] = cc in
      let r = snoc_same xs ys x y f in
      let g : a ≡ b = cc in
      (let p = r.0 in cc, r.1)

  snoc_nonempty : (xs : List A) (x : A) → xs ++ x ∷ [] ≡ [] → ⊥
  snoc_nonempty [] x e = cc
  snoc_nonempty (a ∷ xs) x e = cc

module _ {M C : Type 0} (k : Calculus M C) (limits : Limits) (leaves : List (Leaf M C)) where
  -- a row with a rule came from a done task with that rule and those daughters
  pub record Origin (ch : Chart M C) (row : Row M C) (r : ℕ) : Type 0 where
    pub t : ℕ
    pub task : Task
    pub place : ℕ
    pub at : At ch.tasks t task
    pub done : At ch.done t (Some place)
    pub rule : task.rule ≡ r
    pub ds : daughters ch.rows task ≡ row.daughters

  pub record Unique (ch : Chart M C) : Type 0 where
    pub origin : (i : ℕ) (row : Row M C) (r : ℕ) → At ch.rows i row → rule_of row.kind ≡ Some r → Origin ch row r
    pub row_once : (i j : ℕ) (a b : Row M C) (r : ℕ) → At ch.rows i a → At ch.rows j b → rule_of a.kind ≡ Some r → rule_of b.kind ≡ Some r → a.daughters ≡ b.daughters → i ≡ j

  module _ (entered : List (Leaf M C)) (ch : Chart M C) (facts : FactsOf k limits leaves entered ch) (unique : Unique ch) where
    filled : (i : ℕ) (row : Row M C) (r : ℕ) → At ch.rows i row → rule_of row.kind ≡ Some r → row.daughters ≡ [] → ⊥
    filled i row r a e empty = let o = unique.origin i row r a e in snoc_nonempty (before ch.rows o.task.partial) o.task.host (o.ds ∙ empty)

    -- tasks of one rule with the same daughters before the host have the same partial
    same_partial : (r : ℕ) (p q : Option ℕ) → Pairing.Front k limits ch.rows r p → Pairing.Front k limits ch.rows r q → before ch.rows p ≡ before ch.rows q → p ≡ q
    same_partial r None None f g e = refl
    same_partial r None (Some q) f (Pairing.front _ row at kind) e = absurd (filled q row r at (ap rule_of kind) (ap daughters_of_row (sym (to_get at)) ∙ sym e))
    same_partial r (Some p) None (Pairing.front _ row at kind) g e = absurd (filled p row r at (ap rule_of kind) (ap daughters_of_row (sym (to_get at)) ∙ e))
    same_partial r (Some p) (Some q) (Pairing.front _ a at kind) (Pairing.front _ b bt kind') e =
        ap Some (unique.row_once p q a b r at bt (ap rule_of kind) (ap rule_of kind') (ap daughters_of_row (sym (to_get at)) ∙ e ∙ ap daughters_of_row (to_get bt)))

    task_same : (u v : Task) → u.rule ≡ v.rule → u.partial ≡ v.partial → u.host ≡ v.host → u ≡ v
    task_same u v e f g = rw (e, f, g) refl

    -- tasks of one rule with the same daughters are one
    pub same_task : (s t : ℕ) (u v : Task) → At ch.tasks s u → At ch.tasks t v → u.rule ≡ v.rule → daughters ch.rows u ≡ daughters ch.rows v → s ≡ t
    same_task s t u v a b e f =
        let h = snoc_same (before ch.rows u.partial) (before ch.rows v.partial) u.host v.host f in
        let p = same_partial v.rule u.partial v.partial (subst (λ r. Pairing.Front k limits ch.rows r u.partial) e (facts.pairing.task_ok s u a).front) (facts.pairing.task_ok t v b).front h.0 in
        facts.pairing.once s t v (subst (At ch.tasks s) (task_same u v e p h.1) a) b

    -- a row that task t gives is a new one, where t was pending
    pub unique_row : (t place : ℕ) (task : Task) (w : Row M C) (into done : List (Option ℕ)) (added : List Task) (made places : ℕ) → At ch.tasks t task → At ch.done t None → rule_of w.kind ≡ Some task.rule → w.daughters ≡ daughters ch.rows task → ((s p : ℕ) → At ch.done s (Some p) → At done s (Some p)) → At done t (Some place) → Unique (record { rows = ch.rows ++ w ∷ []; into = into; tasks = ch.tasks ++ added; done = done; made = made; places = places })
    unique_row t place task w into done added made places at pending rule ds kept marked =
        record {
          origin = λ i row r a e. origin_of i row r (at_snoc ch.rows w i row a) e;
          row_once = λ i j a b r p q e f g. once_of i j a b r (at_snoc ch.rows w i a p) (at_snoc ch.rows w j b q) e f g;
        }
      where
        next : Chart M C
        next = record { rows = ch.rows ++ w ∷ []; into = into; tasks = ch.tasks ++ added; done = done; made = made; places = places }

        origin_of : (i : ℕ) (row : Row M C) (r : ℕ) → Snoc ch.rows w i row → rule_of row.kind ≡ Some r → Origin (record { rows = ch.rows ++ w ∷ []; into = into; tasks = ch.tasks ++ added; done = done; made = made; places = places }) row r
        origin_of i row r (old a) e =
            let o = unique.origin i row r a e in
            record { t = o.t; task = o.task; place = o.place; at = at_append added o.at; done = kept o.t o.place o.done; rule = o.rule; ds = daughters_more k limits leaves ch.rows (w ∷ []) o.task (facts.pairing.task_ok o.t o.task o.at) ∙ o.ds }
        origin_of i row r (new p q) e =
            record { t = t; task = task; place = place; at = at_append added at; done = marked; rule = (let z = ap (λ (x : Row M C). rule_of x.kind) q in cc); ds = daughters_more k limits leaves ch.rows (w ∷ []) task (facts.pairing.task_ok t task at) ∙ sym ds ∙ ap (λ (x : Row M C). x.daughters) q }

        -- an old row has not the rule and daughters of the new one
        apart : (i : ℕ) (a : Row M C) → At ch.rows i a → rule_of a.kind ≡ Some task.rule → a.daughters ≡ w.daughters → ⊥
        apart i a p e f =
            let o = unique.origin i a task.rule p e in
            let z = same_task o.t t o.task task o.at at o.rule (o.ds ∙ f ∙ ds) in
            let y = at_one (subst (λ n. At ch.done n (Some o.place)) z o.done) pending in
            cc

        once_of : (i j : ℕ) (a b : Row M C) (r : ℕ) → Snoc ch.rows w i a → Snoc ch.rows w j b → rule_of a.kind ≡ Some r → rule_of b.kind ≡ Some r → a.daughters ≡ b.daughters → i ≡ j
        once_of i j a b r (old p) (old q) e f g = unique.row_once i j a b r p q e f g
        once_of i j a b r (new p x) (new q y) e f g = omega arith
        once_of i j a b r (old p) (new q y) e f g = absurd (let z = ap (λ (x : Row M C). rule_of x.kind) y in let v : rule_of a.kind ≡ Some task.rule = cc in apart i a p v (g ∙ ap (λ (x : Row M C). x.daughters) (sym y)))
        once_of i j a b r (new p x) (old q) e f g = absurd (let z = ap (λ (x : Row M C). rule_of x.kind) x in let v : rule_of b.kind ≡ Some task.rule = cc in apart j b q v (sym g ∙ ap (λ (x : Row M C). x.daughters) (sym x)))

module _ {A : Type 0} where
  set_keep : (xs : List A) (t s : ℕ) (v x y : A) → At xs s x → At xs t y → (x ≡ y → ⊥) → At (slice_set xs t v) s x
  set_keep [] t s v x y a b h = elim a [ ]
  set_keep (z ∷ xs) zero zero v x y (here) (here) h = absurd (h refl)
  set_keep (z ∷ xs) zero (suc s) v x y (there a) b h = there a
  set_keep (z ∷ xs) (suc t) zero v x y (here) b h = here
  set_keep (z ∷ xs) (suc t) (suc s) v x y (there a) (there b) h = there (set_keep xs t s v x y a b h)

  pub set_hit : (xs : List A) (t : ℕ) (v y : A) → At xs t y → At (slice_set xs t v) t v
  set_hit [] t v y b = elim b [ ]
  set_hit (z ∷ xs) zero v y b = here
  set_hit (z ∷ xs) (suc t) v y (there b) = there (set_hit xs t v y b)

module _ {M C : Type 0} (k : Calculus M C) (limits : Limits) (leaves : List (Leaf M C)) where
  -- more tasks and more rows of leaves take nothing away
  pub unique_leaf : (entered : List (Leaf M C)) (ch : Chart M C) → FactsOf k limits leaves entered ch → Unique k limits leaves ch → (w : Row M C) (into : List (Option ℕ)) (added : List Task) (extra : List (Option ℕ)) (made : ℕ) → rule_of w.kind ≡ None → Unique k limits leaves (record ch { rows = ch.rows ++ w ∷ []; into = into; tasks = ch.tasks ++ added; done = ch.done ++ extra; made = made })
  unique_leaf entered ch facts unique w into added extra made none =
      record {
        origin = λ i row r a e. origin_of i row r (at_snoc ch.rows w i row a) e;
        row_once = λ i j a b r p q e f g. once_of i j a b r (at_snoc ch.rows w i a p) (at_snoc ch.rows w j b q) e f g;
      }
    where
      origin_of : (i : ℕ) (row : Row M C) (r : ℕ) → Snoc ch.rows w i row → rule_of row.kind ≡ Some r → Origin k limits leaves (record ch { rows = ch.rows ++ w ∷ []; into = into; tasks = ch.tasks ++ added; done = ch.done ++ extra; made = made }) row r
      origin_of i row r (old a) e =
          let o = unique.origin i row r a e in
          record { t = o.t; task = o.task; place = o.place; at = at_append added o.at; done = at_append extra o.done; rule = o.rule; ds = daughters_more k limits leaves ch.rows (w ∷ []) o.task (facts.pairing.task_ok o.t o.task o.at) ∙ o.ds }
      origin_of i row r (new p q) e = absurd (let z = ap (λ (x : Row M C). rule_of x.kind) q in cc)

      once_of : (i j : ℕ) (a b : Row M C) (r : ℕ) → Snoc ch.rows w i a → Snoc ch.rows w j b → rule_of a.kind ≡ Some r → rule_of b.kind ≡ Some r → a.daughters ≡ b.daughters → i ≡ j
      once_of i j a b r (old p) (old q) e f g = unique.row_once i j a b r p q e f g
      once_of i j a b r (new p x) q e f g = absurd (let z = ap (λ (x : Row M C). rule_of x.kind) x in cc)
      once_of i j a b r (old p) (new q x) e f g = absurd (let z = ap (λ (x : Row M C). rule_of x.kind) x in cc)

  -- a mark alone
  pub unique_done : (ch : Chart M C) → Unique k limits leaves ch → (t : ℕ) → At ch.done t None → Unique k limits leaves (with_done ch t)
  unique_done ch unique t pending =
      record {
        origin = λ i row r a e. let o = unique.origin i row r a e in record { t = o.t; task = o.task; place = o.place; at = o.at; done = set_keep ch.done t o.t (Some ch.places) (Some o.place) None o.done pending (λ z. cc); rule = o.rule; ds = o.ds };
        row_once = unique.row_once;
      }

  -- a step
  pub unique_step : (entered : List (Leaf M C)) (ch : Chart M C) → FactsOf k limits leaves entered ch → Unique k limits leaves ch → (e : Entry M C) → Follows k limits ch e → Unique k limits leaves (step k limits ch e)
  unique_step entered ch facts unique e follows =
      rw (follows.made, follows.pending) (by_live e.outcome (all_free ch.into (daughters ch.rows follows.task)))
    where
      at : At ch.tasks e.task follows.task
      at = from_get ch.tasks e.task follows.task follows.made

      pending : At ch.done e.task None
      pending = free_at ch.done e.task follows.pending

      row : (w : Row M C) (into : List (Option ℕ)) (added : List Task) (extra : List (Option ℕ)) (made : ℕ) → rule_of w.kind ≡ Some follows.task.rule → w.daughters ≡ daughters ch.rows follows.task → Unique k limits leaves (record (with_done ch e.task) { rows = ch.rows ++ w ∷ []; into = into; tasks = ch.tasks ++ added; done = slice_set ch.done e.task (Some ch.places) ++ extra; made = made })
      row w into added extra made rule ds =
          unique_row k limits leaves entered ch facts unique e.task ch.places follows.task w into (slice_set ch.done e.task (Some ch.places) ++ extra) added made (ch.places + 1) at pending rule ds
          (λ s p a. at_append extra (set_keep ch.done e.task s (Some ch.places) (Some p) None a pending (λ z. cc)))
          (at_append extra (set_hit ch.done e.task (Some ch.places) None pending))

      by_peer : (c : C) (m : M) (o : Option ℕ) → peer_over k limits (with_done ch e.task) (whole_row k limits (with_done ch e.task) follows.task c m) m ≡ o → Unique k limits leaves (with_outcome k limits (with_done ch e.task) follows.task (Makes c m))
      by_peer c m None f = rw f (row (whole_row k limits (with_done ch e.task) follows.task c m) _ _ _ _ refl refl)
      by_peer c m (Some r) f =
          rw f
          (subst (λ ts. Unique k limits leaves (record (with_done ch e.task) { rows = ch.rows ++ whole_row k limits (with_done ch e.task) follows.task c m ∷ []; into = ch.into ++ Some r ∷ []; tasks = ts })) (append-nil ch.tasks)
          (subst (λ ds. Unique k limits leaves (record (with_done ch e.task) { rows = ch.rows ++ whole_row k limits (with_done ch e.task) follows.task c m ∷ []; into = ch.into ++ Some r ∷ []; tasks = ch.tasks ++ []; done = ds })) (append-nil (slice_set ch.done e.task (Some ch.places)))
          (row (whole_row k limits (with_done ch e.task) follows.task c m) (ch.into ++ Some r ∷ []) [] [] ch.made refl refl)))

      by_outcome : (o : Outcome M C) → Unique k limits leaves (with_outcome k limits (with_done ch e.task) follows.task o)
      by_outcome Fails = unique_done ch unique e.task pending
      by_outcome (Fits c) = row (partial_row k limits (with_done ch e.task) follows.task c) _ _ _ _ refl refl
      by_outcome (Makes c m) = by_peer c m (peer_over k limits (with_done ch e.task) (whole_row k limits (with_done ch e.task) follows.task c m) m) refl

      by_live : (o : Outcome M C) (b : Bool) → Unique k limits leaves (if b then with_outcome k limits (with_done ch e.task) follows.task o else with_done ch e.task)
      by_live o true = by_outcome o
      by_live o false = unique_done ch unique e.task pending

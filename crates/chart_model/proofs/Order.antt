-- The tasks of a chart in the order of size and level: new tasks are taken up, and those of one size and level entered.
use Rattle.std.specs.Prelude.{◌≡◌, ℕ, ◌+◌, ◌-◌, ◌*◌, ◌<◌, ◌≤◌, ◌^◌, ◌⊎◌, Bool, true, false, Option, Some, None, List, [], ◌∷◌, ◌++◌, length, refl}
use Rattle.std.proofs.Common.{ap, subst, sym, ◌∙◌, arith, inl, inr, length-append}
use Rattle.std.proofs.Math.Nat.{mul-le-mul_right, add-mul}
use Rattle.std.proofs.lemmas.Bool.{cases_order}
use Rattle.chart_model.specs.Calculus.{Calculus, Laws}
use Rattle.chart_model.specs.At.{At, at_below, at_one, at_append, at_found, from_get}
use Rattle.chart_model.specs.Chart.{Row, Task, Chart, Leaf, Limits, Entry, Outcome, Fails, Fits, Makes, IsRight, step, before, daughters, all_free, covers_at, shapes_at}
use Rattle.chart_model.specs.Finished.{NothingPending}
use Rattle.chart_model.specs.Limits.{AreProper}
use Rattle.chart_model.specs.Below.{Follows, PendingFrom}
use Rattle.chart_model.specs.Ordered.{IsFrom, GivesMother, LateDaughter, IsLate, NotesAreTrue, AreDue, IsNoted, Waits, AreTaken, AreEntered, AreNoted}
use Rattle.chart_model.proofs.Complete.{Facts}
use Rattle.chart_model.proofs.Steps.{facts_step}
use Rattle.chart_model.proofs.Gather.{free_at}
use Rattle.chart_model.proofs.Late.{late_by, late_start, task_short, host_at}
use Rattle.chart_model.proofs.Next.{WasPending, IsNew, over_host, over_partial, NextOf, was_pending, is_new, next_tasks}
use Rattle.chart_model.proofs.Kept.{rows_begin, task_kept, same_daughters, mother_kept, late_kept}

module _ {M C : Type 0} (k : Calculus M C) (limits : Limits) (leaves : List (Leaf M C)) where
  -- what is noted or due stays true
  module _ (laws : Laws k) (ch : Chart M C) (facts : Facts k limits leaves ch) (e : Entry M C) where
    pub notes_kept : (notes : ℕ → ℕ → ℕ → Type 0) → NotesAreTrue k ch notes → NotesAreTrue k (step k limits ch e) notes
    notes_kept notes true_notes t size level n =
        let r = true_notes t size level n in
        (r.0, task_kept k limits ch e t r.0 r.1, mother_kept k limits leaves laws ch facts (step k limits ch e) (rows_begin k limits ch e) t r.0 r.1 size level r.2)

    pub due_kept : (due : ℕ → Type 0) (n l : ℕ) → AreDue k ch due n l → AreDue k (step k limits ch e) due n l
    due_kept due n l are t d =
        let r = are t d in
        (r.0, task_kept k limits ch e t r.0 r.1, mother_kept k limits leaves laws ch facts (step k limits ch e) (rows_begin k limits ch e) t r.0 r.1 n l r.2)

  module _ (ch : Chart M C) (e : Entry M C) (f : Follows k limits ch e) where
    abbrev Right : Outcome M C → Type 0
    Right o = IsRight k limits f.task.rule (length (daughters ch.rows f.task)) (covers_at ch.rows (daughters ch.rows f.task)) (shapes_at ch.rows (daughters ch.rows f.task)) o

    -- an outcome that gives a row is right
    right_by : (b : Bool) → all_free ch.into (daughters ch.rows f.task) ≡ b → (e.outcome ≡ Fails → ⊥) → Right e.outcome
    right_by true h gives = f.right h
    right_by false h gives = absurd (gives (f.skipped h))

    right_of : (e.outcome ≡ Fails → ⊥) → Right e.outcome
    right_of gives = right_by (all_free ch.into (daughters ch.rows f.task)) refl gives

    fits_short : (c : C) → e.outcome ≡ Fits c → length (daughters ch.rows f.task) < k.arity f.task.rule
    fits_short c q = (subst Right q (right_of (λ z. absurd (cc)))).0

    makes_cover : (c : C) (m : M) → e.outcome ≡ Makes c m → k.covers f.task.rule (covers_at ch.rows (daughters ch.rows f.task)) ≡ Some c
    makes_cover c m q = (subst Right q (right_of (λ z. absurd (cc)))).1

  module _ (laws : Laws k) (proper : AreProper k limits leaves) (ch : Chart M C) (facts : Facts k limits leaves ch) (e : Entry M C) (f : Follows k limits ch e) where
    abbrev next : Chart M C
    next = step k limits ch e

    next_facts : Facts k limits leaves next
    next_facts = facts_step k limits leaves laws leaves ch facts e f

    entered_at : At ch.tasks e.task f.task
    entered_at = from_get ch.tasks e.task f.task f.made

    -- a new task that goes on from a late partial is late, and has one daughter more
    goes_late : (n l t : ℕ) (task : Task) → At next.tasks t task → daughters next.rows task ≡ daughters ch.rows f.task ++ task.host ∷ [] → LateDaughter k ch n l (daughters ch.rows f.task) → IsLate k next n l task
    goes_late n l t task a ds late =
        let grown = rows_begin k limits ch e in
        late_by k limits leaves laws proper next next_facts n l t task a
        (record { place = late.place; number = late.number; at = subst (λ xs. At xs late.place late.number) (sym ds) (at_append (task.host ∷ []) late.at); row = late.row; row_at = subst (λ rs. At rs late.number late.row) (sym grown.are) (at_append grown.more late.row_at); late = late.late })

    -- a new task over a late host is late
    host_late : (n l t : ℕ) (task : Task) (row : Row M C) → At next.tasks t task → task.host ≡ length ch.rows → At next.rows (length ch.rows) row → IsFrom n l (k.size row.cover) (row.level + 1) → IsLate k next n l task
    host_late n l t task row a host row_at late =
        late_by k limits leaves laws proper next next_facts n l t task a
        (record { place = length (before next.rows task.partial); number = task.host; at = host_at k limits leaves laws proper next next_facts task; row = row; row_at = subst (λ i. At next.rows i row) (sym host) row_at; late = late })

    -- a step for the task at `seen` that makes no host
    pub taken_step : (notes : ℕ → ℕ → ℕ → Type 0) (n l seen far short : ℕ) → NotesAreTrue k ch notes → AreTaken k ch notes n l seen far short → e.task ≡ seen → seen < far → far ≤ length ch.tasks → ((c : C) (m : M) → e.outcome ≡ Makes c m → ⊥) → AreTaken k next notes n l (seen + 1) far short
    taken_step notes n l seen far short are taken is_seen below made no_host t task a d = of_next (next_tasks k limits ch e facts.same_done f t task a d)
      where
        short_front : (c : C) → e.outcome ≡ Fits c → IsNoted k ch notes n l e.task ⊎ Waits k ch n l seen far short e.task f.task → Waits k ch n l seen far short e.task f.task
        short_front c q (inr w) = w
        short_front c q (inl x) =
            let r = are e.task x.size x.level x.note in
            let same : r.0 ≡ f.task = at_one r.1 entered_at in
            absurd (let w : length (daughters ch.rows f.task) ≡ k.arity f.task.rule = subst (λ u. length (daughters ch.rows u) ≡ k.arity u.rule) same r.2.whole in let s = fits_short ch e f c q in omega arith)

        of_old : WasPending k limits ch e t task → IsNoted k ch notes n l t ⊎ Waits k ch n l seen far short t task → IsNoted k next notes n l t ⊎ Waits k next n l (seen + 1) far short t task
        of_old w (inl x) = inl (record { size = x.size; level = x.level; note = x.note; late = x.late })
        of_old w (inr x) =
            let same = ap length (same_daughters k limits leaves laws ch facts next (rows_begin k limits ch e) t task w.at) in
            inr (record {
              behind = elim (cases_order seen t) [ inl q ↦ absurd (w.other (sym q ∙ sym is_seen)) | inr o ↦ elim o [ inl p ↦ omega arith | inr p ↦ absurd (let b = x.behind in omega arith) ] ];
              late = late_kept k limits leaves laws ch facts next (rows_begin k limits ch e) t task w.at n l x.late;
              long = let b = x.long in omega (arith, same);
              longer = λ g. let b = x.longer g in omega (arith, same);
            })

        of_new : (o : Outcome M C) → e.outcome ≡ o → length ch.tasks ≤ t → IsNew k limits ch f.task next.rows task o → Waits k next n l (seen + 1) far short t task
        of_new (Makes c m) q behind x = absurd (no_host c m q)
        of_new Fails q behind x = elim x [ ]
        of_new (Fits c) q behind (over_partial _ rule ds) =
            let w = short_front c q (taken e.task f.task entered_at (free_at ch.done e.task f.pending)) in
            let many : length (daughters next.rows task) ≡ length (daughters ch.rows f.task) + 1 = ap length ds ∙ length-append (daughters ch.rows f.task) (task.host ∷ []) in
            record {
              behind = omega arith;
              late = goes_late n l t task a ds (w.late.front (fits_short ch e f c q));
              long = let b = w.long in omega (arith, many);
              longer = λ g. let b = w.long in omega (arith, many);
            }

        of_next : NextOf k limits ch e f.task next t task → IsNoted k next notes n l t ⊎ Waits k next n l (seen + 1) far short t task
        of_next (was_pending w) = of_old w (taken t task w.at w.pending)
        of_next (is_new behind x) = inr (of_new e.outcome refl behind x)

    -- a step for a task that is due: its mother has size n and level l
    pub entered_step : (notes : ℕ → ℕ → ℕ → Type 0) (due rest : ℕ → Type 0) (n l seen : ℕ) → AreDue k ch due n l → AreEntered k ch notes due n l seen → due e.task → seen ≤ length ch.tasks → ((t : ℕ) → due t → (t ≡ e.task → ⊥) → rest t) → AreEntered k next notes rest n l seen
    entered_step notes due rest n l seen are entered now made others t task a d = of_next (next_tasks k limits ch e facts.same_done f t task a d)
      where
        mother : GivesMother k ch f.task n l
        mother = let r = are e.task now in subst (λ u. GivesMother k ch u n l) (at_one r.1 entered_at) r.2

        of_old : WasPending k limits ch e t task → due t ⊎ (IsNoted k ch notes n (l + 1) t ⊎ ((seen ≤ t) × IsLate k ch n (l + 1) task)) → rest t ⊎ (IsNoted k next notes n (l + 1) t ⊎ ((seen ≤ t) × IsLate k next n (l + 1) task))
        of_old w (inl x) = inl (others t x w.other)
        of_old w (inr (inl x)) = inr (inl (record { size = x.size; level = x.level; note = x.note; late = x.late }))
        of_old w (inr (inr x)) = inr (inr (x.0, late_kept k limits leaves laws ch facts next (rows_begin k limits ch e) t task w.at n (l + 1) x.1))

        of_new : (o : Outcome M C) → e.outcome ≡ o → IsNew k limits ch f.task next.rows task o → IsLate k next n (l + 1) task
        of_new Fails q x = elim x [ ]
        of_new (Fits c) q x = absurd (let s = fits_short ch e f c q in let w = mother.whole in omega arith)
        of_new (Makes c m) q (over_host _ _ row host row_at cover level) =
            let same : c ≡ mother.cover = let p = makes_cover ch e f c m q in let r = mother.covers in cc in
            let size : k.size row.cover ≡ n = ap k.size (cover ∙ same) ∙ sym mother.size_is in
            let high : row.level ≡ l = level ∙ sym mother.level_is in
            host_late n (l + 1) t task row a host row_at (inr (size, omega (arith, high)))

        of_next : NextOf k limits ch e f.task next t task → rest t ⊎ (IsNoted k next notes n (l + 1) t ⊎ ((seen ≤ t) × IsLate k next n (l + 1) task))
        of_next (was_pending w) = of_old w (entered t task w.at w.pending)
        of_next (is_new behind x) = inr (inr (omega arith, of_new e.outcome refl x))

  module _ (ch : Chart M C) where
    -- the task at `seen` is noted
    pub taken_note : (notes more : ℕ → ℕ → ℕ → Type 0) (n l seen far short : ℕ) (task : Task) (size level : ℕ) → AreTaken k ch notes n l seen far short → ((t s v : ℕ) → notes t s v → more t s v) → At ch.tasks seen task → GivesMother k ch task size level → more seen size level → AreTaken k ch more n l (seen + 1) far short
    taken_note notes more n l seen far short task size level taken all at mother note t other a d = of_old (taken t other a d)
      where
        of_order : Waits k ch n l seen far short t other → (seen ≡ t) ⊎ ((seen < t) ⊎ (t < seen)) → IsNoted k ch more n l t ⊎ Waits k ch n l (seen + 1) far short t other
        of_order x (inl q) =
            let same : task ≡ other = at_one (subst (λ i. At ch.tasks i task) q at) a in
            inl (record { size = size; level = level; note = subst (λ i. more i size level) q note; late = x.late.mother size level (subst (λ u. GivesMother k ch u size level) same mother) })
        of_order x (inr (inl p)) = inr (record { behind = omega arith; late = x.late; long = x.long; longer = x.longer })
        of_order x (inr (inr p)) = absurd (let b = x.behind in omega arith)

        of_old : IsNoted k ch notes n l t ⊎ Waits k ch n l seen far short t other → IsNoted k ch more n l t ⊎ Waits k ch n l (seen + 1) far short t other
        of_old (inl x) = inl (record { size = x.size; level = x.level; note = all t x.size x.level x.note; late = x.late })
        of_old (inr x) = of_order x (cases_order seen t)

    -- the task at `seen` is done
    pub taken_done : (notes : ℕ → ℕ → ℕ → Type 0) (n l seen far short place : ℕ) → AreTaken k ch notes n l seen far short → At ch.done seen (Some place) → AreTaken k ch notes n l (seen + 1) far short
    taken_done notes n l seen far short place taken done t task a d = of_old (taken t task a d)
      where
        of_order : Waits k ch n l seen far short t task → (seen ≡ t) ⊎ ((seen < t) ⊎ (t < seen)) → Waits k ch n l (seen + 1) far short t task
        of_order x (inl q) = absurd (let z : Some place ≡ None = at_one done (subst (λ i. At ch.done i None) (sym q) d) in cc)
        of_order x (inr (inl p)) = record { behind = omega arith; late = x.late; long = x.long; longer = x.longer }
        of_order x (inr (inr p)) = absurd (let b = x.behind in omega arith)

        of_old : IsNoted k ch notes n l t ⊎ Waits k ch n l seen far short t task → IsNoted k ch notes n l t ⊎ Waits k ch n l (seen + 1) far short t task
        of_old (inl x) = inl x
        of_old (inr x) = inr (of_order x (cases_order seen t))

    -- at the end of a round what waits has one daughter more
    pub taken_round : (notes : ℕ → ℕ → ℕ → Type 0) (n l far short end : ℕ) → AreTaken k ch notes n l far far short → length ch.tasks ≤ end → AreTaken k ch notes n l far end (short + 1)
    taken_round notes n l far short end taken all t task a d = of_old (taken t task a d)
      where
        of_old : IsNoted k ch notes n l t ⊎ Waits k ch n l far far short t task → IsNoted k ch notes n l t ⊎ Waits k ch n l far end (short + 1) t task
        of_old (inl x) = inl (record { size = x.size; level = x.level; note = x.note; late = x.late })
        of_old (inr x) = inr (record { behind = x.behind; late = x.late; long = x.longer x.behind; longer = λ g. absurd (let b = at_below a in omega arith) })

    -- what is noted, with larger sizes alone, leaves the sizes below as they are
    pub pending_from : (notes : ℕ → ℕ → ℕ → Type 0) (n l size : ℕ) → NotesAreTrue k ch notes → AreNoted k ch notes n l → ((t s v : ℕ) → notes t s v → size ≤ s) → PendingFrom k limits ch size
    pending_from notes n l size are noted least t task a d =
        let x = noted t task a d in
        let r = are t x.size x.level x.note in
        let m = subst (λ u. GivesMother k ch u x.size x.level) (at_one r.1 a) r.2 in
        let low = least t x.size x.level x.note in
        record { whole = m.whole; size = λ c cov. let same : c ≡ m.cover = let q = m.covers in cc in omega (arith, m.size_is, ap k.size same) }

    -- the tasks that are noted with one size and level are due, where the others are noted after it
    pub entered_start : (notes later : ℕ → ℕ → ℕ → Type 0) (due : ℕ → Type 0) (n l m v seen : ℕ) → AreNoted k ch notes n l → ((t s u : ℕ) → notes t s u → due t ⊎ (later t s u × IsFrom m (v + 1) s u)) → AreEntered k ch later due m v seen
    entered_start notes later due n l m v seen noted split t task a d =
        let x = noted t task a d in
        elim (split t x.size x.level x.note) [ inl y ↦ inl y | inr y ↦ inr (inl (record { size = x.size; level = x.level; note = y.0; late = y.1 })) ]

    -- a due task that is done is due no more
    pub entered_done : (notes : ℕ → ℕ → ℕ → Type 0) (due rest : ℕ → Type 0) (n l seen now place : ℕ) → AreEntered k ch notes due n l seen → At ch.done now (Some place) → ((t : ℕ) → due t → (t ≡ now → ⊥) → rest t) → AreEntered k ch notes rest n l seen
    entered_done notes due rest n l seen now place entered done others t task a d = of_old (entered t task a d)
      where
        other : t ≡ now → ⊥
        other q = absurd (let z : Some place ≡ None = at_one done (subst (λ i. At ch.done i None) q d) in cc)

        of_old : due t ⊎ (IsNoted k ch notes n (l + 1) t ⊎ ((seen ≤ t) × IsLate k ch n (l + 1) task)) → rest t ⊎ (IsNoted k ch notes n (l + 1) t ⊎ ((seen ≤ t) × IsLate k ch n (l + 1) task))
        of_old (inl x) = inl (others t x other)
        of_old (inr x) = inr x

    -- where nothing is due any more, the new tasks are to be looked at
    pub entered_end : (laws : Laws k) (proper : AreProper k limits leaves) (facts : Facts k limits leaves ch) (notes : ℕ → ℕ → ℕ → Type 0) (due : ℕ → Type 0) (n l seen end : ℕ) → AreEntered k ch notes due n l seen → ((t : ℕ) → due t → ⊥) → length ch.tasks ≤ end → AreTaken k ch notes n (l + 1) seen end 1
    entered_end laws proper facts notes due n l seen end entered none all t task a d = of_old (entered t task a d)
      where
        of_old : due t ⊎ (IsNoted k ch notes n (l + 1) t ⊎ ((seen ≤ t) × IsLate k ch n (l + 1) task)) → IsNoted k ch notes n (l + 1) t ⊎ Waits k ch n (l + 1) seen end 1 t task
        of_old (inl x) = absurd (none t x)
        of_old (inr (inl x)) = inl x
        of_old (inr (inr x)) = inr (record { behind = x.0; late = x.1; long = (task_short k limits leaves laws proper ch facts t task a).0; longer = λ g. absurd (let b = at_below a in omega arith) })

    module _ (laws : Laws k) (proper : AreProper k limits leaves) (facts : Facts k limits leaves ch) where
      -- at the beginning each task is to be looked at
      pub taken_start : (notes : ℕ → ℕ → ℕ → Type 0) (l end : ℕ) → length ch.tasks ≤ end → AreTaken k ch notes 0 l 0 end 1
      taken_start notes l end all t task a d = inr (record { behind = omega arith; late = late_start k limits leaves laws proper ch facts l t task a; long = (task_short k limits leaves laws proper ch facts t task a).0; longer = λ g. absurd (let b = at_below a in omega arith) })

      -- after four rounds nothing waits
      pub taken_end : (notes : ℕ → ℕ → ℕ → Type 0) (n l seen far : ℕ) → AreTaken k ch notes n l seen far 5 → AreNoted k ch notes n l
      taken_end notes n l seen far taken t task a d = of_old (taken t task a d)
        where
          of_old : IsNoted k ch notes n l t ⊎ Waits k ch n l seen far 5 t task → IsNoted k ch notes n l t
          of_old (inl x) = x
          of_old (inr x) = absurd (let b = x.long in let s = task_short k limits leaves laws proper ch facts t task a in omega (arith, s.2))

      -- where nothing is noted, nothing is pending
      pub none_noted : (notes : ℕ → ℕ → ℕ → Type 0) (n l : ℕ) → AreNoted k ch notes n l → ((t s v : ℕ) → notes t s v → ⊥) → NothingPending ch
      none_noted notes n l noted none t task a = let v = at_found ch.done t (let b = at_below a in omega (arith, facts.same_done)) in of_value v.0 v.1
        where
          of_value : (v : Option ℕ) → At ch.done t v → (place : ℕ) × At ch.done t (Some place)
          of_value (Some p) d = (p, d)
          of_value None d = absurd (let x = noted t task a d in none t x.size x.level x.note)

-- how much of the order is left after a size and a level
abbrev pub rank : ℕ → ℕ → ℕ → ℕ
rank unary size level = (2 ^ 32 - size) * (unary + 2) + (unary + 1 - level)

-- it falls from each size and level to a later one
pub rank_falls : (unary n l size level : ℕ) → IsFrom n (l + 1) size level → size < 2 ^ 32 → level ≤ unary + 1 → rank unary size level < rank unary n l
rank_falls unary n l size level (inr p) small low = let e : rank unary size level ≡ (2 ^ 32 - n) * (unary + 2) + (unary + 1 - level) = ap (λ s. (2 ^ 32 - s) * (unary + 2) + (unary + 1 - level)) p.0 in omega (arith, p.1, e)
rank_falls unary n l size level (inl p) small low =
    let more : 2 ^ 32 - size + 1 ≤ 2 ^ 32 - n = omega arith in
    let e : (2 ^ 32 - size + 1) * (unary + 2) ≤ (2 ^ 32 - n) * (unary + 2) = mul-le-mul_right (unary + 2) more in
    let d : (2 ^ 32 - size + 1) * (unary + 2) ≡ (2 ^ 32 - size) * (unary + 2) + 1 * (unary + 2) = add-mul (2 ^ 32 - size) 1 (unary + 2) in
    omega (arith, d, e)

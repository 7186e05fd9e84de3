-- The steps of the ordered pass.
use Rattle.std.specs.Prelude.{◌≡◌, ℕ, ◌+◌, ◌≤◌, ◌<◌, Some, length}
use Rattle.std.proofs.Common.{sym, ◌∙◌, subst, arith, inl, inr}
use Rattle.std.proofs.lemmas.List.{length-map}
use Rattle.chart_model.specs.Calculus.{Laws}
use Rattle.chart_model.specs.Chart as model
use Rattle.chart_model.specs.At.{At, at_one, at_below, from_get}
use Rattle.chart_model.specs.Limits.{AreProper}
use Rattle.chart_model.specs.Ordered.{IsFrom, GivesMother, NotesAreTrue, IsNoted, AreTaken, AreEntered}
use Rattle.chart_model.proofs.Order.{notes_kept, taken_note, taken_done, taken_step, taken_round, taken_end, entered_step, entered_done, entered_end}
use Rattle.chart_model.proofs.Late.{late_mother}
use Rattle.chart_core.specs.declared.chart.Core.{Core}
use Rattle.chart_core.specs.declared.Outcome.{Outcome}
use Rattle.chart_core.specs.declared.noted.Notes.{Notes}
use Rattle.chart_core.specs.declared.passing.Pass.{Pass}
use Rattle.chart_core.specs.Grammar.{Grammar}
use Rattle.chart_core.specs.View.{task_of}
use Rattle.chart_core.specs.CoreView.{chart_of, limits_of, leaves_of}
use Rattle.chart_core.specs.Kept.{IsCore, tasks_of}
use Rattle.chart_core.specs.Outcomes.{outcome_seen}
use Rattle.chart_core.specs.Steps.{IsDoneAt}
use Rattle.chart_core.specs.Noted.{noted, SameNotes, IsAfter, Adds, Takes}
use Rattle.chart_core.proofs.Keyed.{noted_same, noted_back}
use Rattle.chart_core.specs.Passing.{IsHostless, IsMother, IsSettled, was_done, by_step, StaysOver, IsSure, IsTaking, IsEntering, IsPassing}
use Rattle.chart_core.proofs.Facts.{facts_in}
use Rattle.chart_core.proofs.Decide.{leaves_proper}

module _ {X T C W B M : Type 0} (g : Grammar T M C) (laws : Laws g.calculus) where
  abbrev pub ch : Core X T C W B → model.Chart M C
  ch core = chart_of g.meaning core

  pub proper : (core : Core X T C W B) → IsCore g core → AreProper g.calculus (limits_of core) (leaves_of g.meaning core)
  proper core is = leaves_proper g.calculus g.belongs g.meaning core.rows.items is.belongs_all

  pub counted : (core : Core X T C W B) → length (ch core).tasks ≡ tasks_of core
  counted core = length-map core.tasks.items task_of

  pub over_both : (old mid new : Core X T C W B) → StaysOver g old mid → StaysOver g mid new → StaysOver g old new
  over_both old mid new a b = record { limits_same = b.limits_same ∙ a.limits_same; leaves_same = b.leaves_same ∙ a.leaves_same; more = let x = a.more in let y = b.more in omega arith }

  -- notes stay true over what is settled
  kept : (old new : Core X T C W B) (t : ℕ) (o : model.Outcome M C) → IsCore g old → IsSettled g old t o new → (notes : ℕ → ℕ → ℕ → Type 0) → NotesAreTrue g.calculus (ch old) notes → NotesAreTrue g.calculus (ch new) notes
  kept old new t o is (was_done place d e) notes h = subst (λ c. NotesAreTrue g.calculus c notes) (sym e) h
  kept old new t o is (by_step e f s p q) notes h = subst (λ c. NotesAreTrue g.calculus c notes) (sym q) (notes_kept g.calculus (limits_of old) (leaves_of g.meaning old) laws (ch old) (facts_in g laws old is) e notes h)

  module _ (old : Pass X T C W B) (sure : IsSure g old) where
    abbrev pub notes_of : ℕ → ℕ → ℕ → Type 0
    notes_of = noted old.notes

    -- a done task is past
    pub past_done : (new : Pass X T C W B) → new.core ≡ old.core → new.notes ≡ old.notes → new.size ≡ old.size → new.level ≡ old.level → new.seen ≡ old.seen + 1 → (place far short : ℕ) → IsDoneAt (ch old.core) old.seen place → IsTaking g old far short → IsTaking g new far short
    past_done new a b c d e place far short done h =
        let taken = taken_done g.calculus (limits_of old.core) (leaves_of g.meaning old.core) (ch old.core) notes_of old.size (old.level + 1) old.seen far short place h.taken (from_get (ch old.core).done old.seen (Some place) done) in
        rw (a, b, c, d, e) (record { after = h.after; taken = taken })

    -- a task is noted
    module _ (notes : Notes) (size level : ℕ) (m : IsMother g old.core old.seen size level) (adds : Adds old.notes old.seen size level notes) where
      pub note_true : NotesAreTrue g.calculus (ch old.core) (noted notes)
      note_true t s v n = elim (adds.only t s v n) [ inl x ↦ sure.true_notes t s v x | inr q ↦ again t s v q.0 q.1 q.2 ]
        where
          again : (t s v : ℕ) → t ≡ old.seen → s ≡ size → v ≡ level → (task : model.Task) × At (ch old.core).tasks t task × GivesMother g.calculus (ch old.core) task s v
          again t s v p q r = (m.task, subst (λ i. At (ch old.core).tasks i m.task) (sym p) m.made, subst (λ i. GivesMother g.calculus (ch old.core) m.task i v) (sym q) (subst (λ i. GivesMother g.calculus (ch old.core) m.task size i) (sym r) m.mother))

      late : (far short : ℕ) → IsTaking g old far short → IsFrom old.size (old.level + 1) size level
      late far short h = elim (h.taken old.seen m.task m.made m.pending) [
        | inl x ↦
            let r = sure.true_notes old.seen x.size x.level x.note in
            let mother = subst (λ (u : model.Task). GivesMother g.calculus (ch old.core) u x.size x.level) (at_one r.1 m.made) r.2 in
            (late_mother g.calculus (limits_of old.core) (leaves_of g.meaning old.core) laws (proper old.core sure.core) (ch old.core) (facts_in g laws old.core sure.core) old.size (old.level + 1) x.size x.level m.task mother x.late).mother size level m.mother
        | inr w ↦ w.late.mother size level m.mother
      ]

      pub past_note : (far short : ℕ) → IsTaking g old far short → IsTaking g (record { core = old.core; notes = notes; size = old.size; level = old.level; seen = old.seen + 1 }) far short
      past_note far short h = record {
        after = λ t s v n. elim (adds.only t s v n) [ inl x ↦ h.after t s v x | inr q ↦ subst (λ i. IsFrom old.size (old.level + 1) i v) (sym q.1) (subst (λ i. IsFrom old.size (old.level + 1) size i) (sym q.2) (late far short h)) ];
        taken = taken_note g.calculus (limits_of old.core) (leaves_of g.meaning old.core) (ch old.core) notes_of (noted notes) old.size (old.level + 1) old.seen far short m.task size level h.taken adds.keeps m.made m.mother adds.has;
      }

    -- an outcome without a mother is entered
    module _ (core : Core X T C W B) (o : Outcome X T C W B) (hostless : IsHostless g old.core old.seen o) (settled : IsSettled g old.core old.seen (outcome_seen g.meaning o) core) where
      pub enter_true : NotesAreTrue g.calculus (ch core) notes_of
      enter_true = kept old.core core old.seen (outcome_seen g.meaning o) sure.core settled notes_of sure.true_notes

      taken_by : IsSettled g old.core old.seen (outcome_seen g.meaning o) core → (far short : ℕ) → old.seen < far → far ≤ tasks_of old.core → IsTaking g old far short → AreTaken g.calculus (ch core) notes_of old.size (old.level + 1) (old.seen + 1) far short
      taken_by (was_done place d e) far short below inside h =
          subst (λ c. AreTaken g.calculus c notes_of old.size (old.level + 1) (old.seen + 1) far short) (sym e)
          (taken_done g.calculus (limits_of old.core) (leaves_of g.meaning old.core) (ch old.core) notes_of old.size (old.level + 1) old.seen far short place h.taken d)
      taken_by (by_step e f s p q) far short below inside h =
          subst (λ c. AreTaken g.calculus c notes_of old.size (old.level + 1) (old.seen + 1) far short) (sym q)
          (taken_step g.calculus (limits_of old.core) (leaves_of g.meaning old.core) laws (proper old.core sure.core) (ch old.core) (facts_in g laws old.core sure.core) e f notes_of old.size (old.level + 1) old.seen far short sure.true_notes h.taken s below (omega (arith, counted old.core))
          (λ c m z. elim p [ inl y ↦ absurd (cc) | inr y ↦ hostless.hostless c m (sym y ∙ z) ]))

      pub past_enter : (far short : ℕ) → old.seen < far → far ≤ tasks_of old.core → IsTaking g old far short → IsTaking g (record { core = core; notes = old.notes; size = old.size; level = old.level; seen = old.seen + 1 }) far short
      past_enter far short below inside h = record { after = h.after; taken = taken_by settled far short below inside h }

    -- after a round, what waits has one daughter more
    pub rounded : (far short : ℕ) → IsTaking g old far short → old.seen ≡ far → IsTaking g old (tasks_of old.core) (short + 1)
    rounded far short h e = record {
      after = h.after;
      taken = subst (λ i. AreTaken g.calculus (ch old.core) notes_of old.size (old.level + 1) i (tasks_of old.core) (short + 1)) (sym e)
          (taken_round g.calculus (limits_of old.core) (leaves_of g.meaning old.core) (ch old.core) notes_of old.size (old.level + 1) far short (tasks_of old.core)
          (subst (λ i. AreTaken g.calculus (ch old.core) notes_of old.size (old.level + 1) i far short) e h.taken) (omega (arith, counted old.core)));
    }

    -- after four rounds each pending task is noted
    pub taken_up : (far : ℕ) → IsTaking g old far 5 → IsPassing g old
    taken_up far h = record { sure = sure; after = h.after; noted_all = taken_end g.calculus (limits_of old.core) (leaves_of g.meaning old.core) (ch old.core) laws (proper old.core sure.core) (facts_in g laws old.core sure.core) notes_of old.size (old.level + 1) old.seen far h.taken }

    -- where nothing of this size and level is noted any more, new tasks are to be looked at
    pub made_all : IsEntering g old → IsAfter old.notes old.size (old.level + 1) → IsTaking g old (tasks_of old.core) 1
    made_all h after = record {
      after = after;
      taken = entered_end g.calculus (limits_of old.core) (leaves_of g.meaning old.core) (ch old.core) laws (proper old.core sure.core) (facts_in g laws old.core sure.core) notes_of (λ t. notes_of t old.size old.level) old.size old.level old.seen (tasks_of old.core) h.entered
          (λ t n. no_itself (after t old.size old.level n)) (omega (arith, counted old.core));
    }
      where
        no_itself : IsFrom old.size (old.level + 1) old.size old.level → ⊥
        no_itself (inl p) = absurd (omega arith)
        no_itself (inr p) = absurd (let q = p.1 in omega arith)

    -- the same where the same tasks are noted
    module _ (notes : Notes) (h : SameNotes old.notes notes) where
      pub sure_same : IsSure g (record { core = old.core; notes = notes; size = old.size; level = old.level; seen = old.seen })
      sure_same = record { core = sure.core; true_notes = λ t s v n. sure.true_notes t s v (noted_back old.notes notes h t s v n); inside = sure.inside }

      pub note_same : (n l t : ℕ) → IsNoted g.calculus (ch old.core) notes_of n l t → IsNoted g.calculus (ch old.core) (noted notes) n l t
      note_same n l t x = record { size = x.size; level = x.level; note = noted_same old.notes notes h t x.size x.level x.note; late = x.late }

      pub made_same : IsEntering g old → IsAfter notes old.size (old.level + 1) → IsTaking g (record { core = old.core; notes = notes; size = old.size; level = old.level; seen = old.seen }) (tasks_of old.core) 1
      made_same entering after = record {
        after = after;
        taken = λ t task a d. elim ((made_all entering (λ u s v n. after u s v (noted_same old.notes notes h u s v n))).taken t task a d) [ inl x ↦ inl (note_same old.size (old.level + 1) t x) | inr w ↦ inr w ];
      }

    -- the task that is taken out was made
    module _ (notes : Notes) (t : ℕ) (takes : Takes old.notes t old.size old.level notes) where
      pub due_made : t < tasks_of old.core
      due_made = let r = sure.true_notes t old.size old.level takes.had in let b = at_below r.1 in omega (arith, counted old.core)

      module _ (core : Core X T C W B) (is : IsCore g core) (o : model.Outcome M C) (settled : IsSettled g old.core t o core) (over : StaysOver g old.core core) where
        pub due_sure : IsSure g (record { core = core; notes = notes; size = old.size; level = old.level; seen = old.seen })
        due_sure = record {
          core = is;
          true_notes = λ u s v n. kept old.core core t o sure.core settled notes_of sure.true_notes u s v (takes.only u s v n);
          inside = let m = over.more in let i = sure.inside in omega arith;
        }

        rest : (u : ℕ) → noted old.notes u old.size old.level → (u ≡ t → ⊥) → noted notes u old.size old.level
        rest u n other = elim (takes.keeps u old.size old.level n) [ inl x ↦ x | inr q ↦ absurd (other q.0) ]

        entered_by : IsSettled g old.core t o core → IsEntering g old → AreEntered g.calculus (ch core) notes_of (λ u. noted notes u old.size old.level) old.size old.level old.seen
        entered_by (was_done place d e) h =
            subst (λ c. AreEntered g.calculus c notes_of (λ u. noted notes u old.size old.level) old.size old.level old.seen) (sym e)
            (entered_done g.calculus (limits_of old.core) (leaves_of g.meaning old.core) (ch old.core) notes_of (λ u. notes_of u old.size old.level) (λ u. noted notes u old.size old.level) old.size old.level old.seen t place h.entered d rest)
        entered_by (by_step e f s p q) h =
            subst (λ c. AreEntered g.calculus c notes_of (λ u. noted notes u old.size old.level) old.size old.level old.seen) (sym q)
            (entered_step g.calculus (limits_of old.core) (leaves_of g.meaning old.core) laws (proper old.core sure.core) (ch old.core) (facts_in g laws old.core sure.core) e f notes_of (λ u. notes_of u old.size old.level) (λ u. noted notes u old.size old.level) old.size old.level old.seen
            (λ u n. sure.true_notes u old.size old.level n) h.entered (subst (λ i. notes_of i old.size old.level) (sym s) takes.had) (let i = sure.inside in omega (arith, counted old.core))
            (λ u n other. rest u n (λ z. other (z ∙ sym s))))

        later : (u : ℕ) → IsNoted g.calculus (ch core) notes_of old.size (old.level + 1) u → IsNoted g.calculus (ch core) (noted notes) old.size (old.level + 1) u
        later u x = elim (takes.keeps u x.size x.level x.note) [
          | inl n ↦ record { size = x.size; level = x.level; note = n; late = x.late }
          | inr q ↦ absurd (past x.size x.level q.1 q.2 x.late)
        ]
          where
            past : (s v : ℕ) → s ≡ old.size → v ≡ old.level → IsFrom old.size (old.level + 1) s v → ⊥
            past s v a b (inl p) = absurd (omega arith)
            past s v a b (inr p) = absurd (let q = p.1 in omega arith)

        pub due_entering : IsEntering g old → IsEntering g (record { core = core; notes = notes; size = old.size; level = old.level; seen = old.seen })
        due_entering h = record {
          after = λ u s v n. h.after u s v (takes.only u s v n);
          entered = λ u task a d. elim (entered_by settled h u task a d) [ inl n ↦ inl n | inr x ↦ inr (elim x [ inl y ↦ inl (later u y) | inr y ↦ inr y ]) ];
        }

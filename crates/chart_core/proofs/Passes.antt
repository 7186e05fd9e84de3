-- From one size and level to the next, and the end.
use Rattle.std.specs.Prelude.{◌≡◌, ℕ, ◌+◌, ◌<◌, ◌^◌, ◌⊎◌, Option, Some, None, List, [], ◌∷◌, map, refl, MatchOption, MatchResult, Result}
use Rattle.std.proofs.Common.{ap, sym, subst, arith, inl, inr, zero, suc}
use Rattle.std.proofs.lemmas.Bool.{cases_order}
use Rattle.chart_model.specs.Calculus.{Calculus, Laws, Agreement}
use Rattle.chart_model.specs.Chart as model
use Rattle.chart_model.specs.At.{At, here, there}
use Rattle.chart_model.specs.Limits.{LimitAnswer, Within, IsLimitAnswer}
use Rattle.chart_model.specs.Below.{AnswersBelow, answer_by}
use Rattle.chart_model.specs.Ordered.{IsFrom}
use Rattle.chart_model.proofs.Order.{taken_start, pending_from, entered_start, none_noted, rank, rank_falls}
use Rattle.chart_model.proofs.Late.{from_size, mother_bounds}
use Rattle.chart_model.proofs.Decided.{decided_below}
use Rattle.chart_core.specs.declared.chart.Core.{Core}
use Rattle.chart_core.specs.declared.history.TaskRow.{TaskRow}
use Rattle.chart_core.specs.declared.ended.Finished.{Finished}
use Rattle.chart_core.specs.declared.ChartFault.{ChartFault}
use Rattle.chart_core.specs.declared.ChartFault.TheVariants as faults
use Rattle.chart_core.specs.declared.noted.Notes.{Notes}
use Rattle.chart_core.specs.declared.passing.Pass.{Pass}
use Rattle.chart_core.specs.Grammar.{Grammar}
use Rattle.chart_core.specs.View.{task_of}
use Rattle.chart_core.specs.CoreView.{chart_of, limits_of, leaves_of}
use Rattle.chart_core.specs.Kept.{IsCore, tasks_of, pending_of, limits_seen}
use Rattle.chart_core.specs.declared.Limits.{Limits}
use Rattle.chart_core.specs.Sound.{left_of}
use Rattle.chart_core.specs.Counted.{IsFoundBelow, IsAnswer}
use Rattle.chart_core.specs.Noted.{noted, SameNotes, IsEmpty, IsNext}
use Rattle.chart_core.specs.Passed.{IsPassed, IsPassFault}
use Rattle.chart_core.specs.Passing.{IsSure, IsTaking, IsEntering, IsPassing}
use Rattle.chart_core.proofs.Facts.{facts_in}
use Rattle.chart_core.proofs.Tally.{tally_is, least_same}
use Rattle.chart_core.proofs.Done.{core_complete, core_forest}
use Rattle.chart_core.proofs.Keyed.{noted_back}
use Rattle.chart_core.proofs.Visits.{proper, counted, sure_same, note_same}

-- where each task is done, none is pending
none_left : (tasks : List TaskRow) → ((t : ℕ) (task : model.Task) → At (map task_of tasks) t task → (place : ℕ) × At (map (λ (x : TaskRow). x.done) tasks) t (Some place)) → left_of (map (λ (x : TaskRow). x.done) tasks) ≡ 0
none_left [] h = refl
none_left (x ∷ tasks) h = by (x.done) (h zero (task_of x) here) (none_left tasks (λ t task a. rest (h (suc t) task (there a))))
  where
    by : (o : Option ℕ) → (place : ℕ) × At (o ∷ map (λ (x : TaskRow). x.done) tasks) zero (Some place) → left_of (map (λ (x : TaskRow). x.done) tasks) ≡ 0 → left_of (o ∷ map (λ (x : TaskRow). x.done) tasks) ≡ 0
    by None (p, a) e = elim a [ ]
    by (Some n) p e = e

    rest : {t : ℕ} → (place : ℕ) × At (map (λ (x : TaskRow). x.done) (x ∷ tasks)) (suc t) (Some place) → (place : ℕ) × At (map (λ (x : TaskRow). x.done) tasks) t (Some place)
    rest (p, there a) = (p, a)

module _ {X T C W B M : Type 0} (g : Grammar T M C) (laws : Laws g.calculus) where
  abbrev ch : Core X T C W B → model.Chart M C
  ch core = chart_of g.meaning core

  -- a new pass has everything to look at
  pub sure_start : (core : Core X T C W B) (notes : Notes) → IsCore g core → IsEmpty notes → IsSure g (record { core = core; notes = notes; size = 0; level = 0; seen = 0 })
  sure_start core notes is none = record { core = is; true_notes = λ t s v n. absurd (none t s v n); inside = omega arith }

  pub taking_start : (core : Core X T C W B) (notes : Notes) → IsCore g core → IsEmpty notes → IsTaking g (record { core = core; notes = notes; size = 0; level = 0; seen = 0 }) (tasks_of core) 1
  taking_start core notes is none = record {
    after = λ t s v n. absurd (none t s v n);
    taken = taken_start g.calculus (limits_of core) (leaves_of g.meaning core) (ch core) laws (proper g laws core is) (facts_in g laws core is) (noted notes) 1 (tasks_of core) (omega (arith, counted g laws core));
  }

  module _ (pass : Pass X T C W B) (is : IsPassing g pass) where
    abbrev core : Core X T C W B
    core = pass.core

    -- the same where the same tasks are noted
    pub passing_same : (notes : Notes) → SameNotes pass.notes notes → IsPassing g (record { core = pass.core; notes = notes; size = pass.size; level = pass.level; seen = pass.seen })
    passing_same notes h = record {
      sure = sure_same g laws pass is.sure notes h;
      after = λ t s v n. is.after t s v (noted_back pass.notes notes h t s v n);
      noted_all = λ t task a d. note_same g laws pass is.sure notes h pass.size (pass.level + 1) t (is.noted_all t task a d);
    }

    module _ (size level : ℕ) (next : IsNext pass.notes size level) where
      pub comes_later : IsFrom pass.size (pass.level + 1) size level
      comes_later = is.after next.task size level next.has

      -- what is left falls
      falls : rank core.unary size level < rank core.unary pass.size pass.level
      falls =
          let r = is.sure.true_notes next.task size level next.has in
          let b = mother_bounds g.calculus (limits_of core) (leaves_of g.meaning core) laws (proper g laws core is.sure.core) (ch core) (facts_in g laws core is.sure.core) next.task r.0 size level r.1 r.2 in
          rank_falls core.unary pass.size pass.level size level comes_later b.1 b.2

      pub size_small : size < 2 ^ 32
      size_small =
          let r = is.sure.true_notes next.task size level next.has in
          let b = mother_bounds g.calculus (limits_of core) (leaves_of g.meaning core) laws (proper g laws core is.sure.core) (ch core) (facts_in g laws core is.sure.core) next.task r.0 size level r.1 r.2 in
          b.1

      -- the tasks of the next size and level are due
      pub entering_next : IsEntering g (record { core = pass.core; notes = pass.notes; size = size; level = level; seen = pass.seen })
      entering_next = record {
        after = next.first;
        entered = entered_start g.calculus (limits_of core) (leaves_of g.meaning core) (ch core) (noted pass.notes) (noted pass.notes) (λ t. noted pass.notes t size level) pass.size (pass.level + 1) size level pass.seen is.noted_all split;
      }
        where
          by_order : (t s v : ℕ) → noted pass.notes t s v → IsFrom size level s v → noted pass.notes t size level ⊎ (noted pass.notes t s v × IsFrom size (level + 1) s v)
          by_order t s v n (inl p) = inr (n, inl p)
          by_order t s v n (inr p) = elim (cases_order level v) [
            | inl e ↦ inl (subst (λ i. noted pass.notes t i level) p.0 (subst (λ i. noted pass.notes t s i) (sym e) n))
            | inr o ↦ elim o [ inl q ↦ inr (n, inr (p.0, omega arith)) | inr q ↦ absurd (let h = p.1 in omega arith) ]
          ]

          split : (t s v : ℕ) → noted pass.notes t s v → noted pass.notes t size level ⊎ (noted pass.notes t s v × IsFrom size (level + 1) s v)
          split t s v n = by_order t s v n (next.first t s v n)

      pub sure_next : IsSure g (record { core = pass.core; notes = pass.notes; size = size; level = level; seen = pass.seen })
      sure_next = record { core = is.sure.core; true_notes = is.sure.true_notes; inside = is.sure.inside }

      -- a fault below the next size is the answer of the limits
      fault_is : (extent : C → ℕ) → ((c : C) → g.calculus.size c ≡ extent c) → (fault : ChartFault) → IsFoundBelow extent core.edges core.unary size core.rows.items (Some fault) → IsPassFault g.calculus (limits_of core) (leaves_of g.meaning core) fault
      fault_is extent sizes fault f = by_fault fault (answer_by f.chain f.edges) f.answer answers
        where
          answers : AnswersBelow g.calculus (limits_of core) (leaves_of g.meaning core) size (answer_by f.chain f.edges)
          answers =
              let pending = pending_from g.calculus (limits_of core) (leaves_of g.meaning core) (ch core) (noted pass.notes) pass.size (pass.level + 1) size is.sure.true_notes is.noted_all (λ t s v n. from_size size level s v (next.first t s v n)) in
              (decided_below g.calculus laws (limits_of core) (leaves_of g.meaning core) (proper g laws core is.sure.core) (ch core) (facts_in g laws core is.sure.core) size pending).answer f.chain f.edges
              (least_same _ _ 0 size f.chain (λ n. tally_is extent g.calculus g.meaning sizes (core.unary + 1) (core.unary + 1) n core.rows.items) f.chain_is)
              (least_same _ _ core.edges size f.edges (λ n. tally_is extent g.calculus g.meaning sizes 0 core.unary n core.rows.items) f.edges_is)

          by_fault : (fault : ChartFault) (a : LimitAnswer) → IsAnswer (Some fault) a → AnswersBelow g.calculus (limits_of core) (leaves_of g.meaning core) size a → IsPassFault g.calculus (limits_of core) (leaves_of g.meaning core) fault
          by_fault (faults.UnaryChain n) a e h = subst (AnswersBelow g.calculus (limits_of core) (leaves_of g.meaning core) size) e h
          by_fault (faults.Edges n) a e h = subst (AnswersBelow g.calculus (limits_of core) (leaves_of g.meaning core) size) e h
          by_fault (faults.NoMemory) a e h = absurd (e)

      pub fault_or : (extent : C → ℕ) → ((c : C) → g.calculus.size c ≡ extent c) → (fault : Option ChartFault) → IsFoundBelow extent core.edges core.unary size core.rows.items fault → MatchOption fault (Unit {0}) (IsPassFault g.calculus (limits_of core) (leaves_of g.meaning core))
      fault_or extent sizes None f = tt
      fault_or extent sizes (Some fault) f = fault_is extent sizes fault f

      -- by the limits that were given
      pub falls_by : (new : Pass X T C W B) (limits : Limits) → limits_of core ≡ limits_seen limits → new.size ≡ size → new.level ≡ level → rank limits.unary new.size new.level < rank limits.unary pass.size pass.level
      falls_by new limits e p q =
          let u : core.unary ≡ limits.unary = ap (λ (l : model.Limits). l.unary) e in
          subst (λ s. rank limits.unary s new.level < rank limits.unary pass.size pass.level) (sym p)
          (subst (λ v. rank limits.unary size v < rank limits.unary pass.size pass.level) (sym q)
          (subst (λ v. rank v size level < rank v pass.size pass.level) u falls))

    -- at the end nothing is pending
    pub none_pending : IsEmpty pass.notes → pending_of core ≡ 0
    none_pending none =
        none_left core.tasks.items
        (none_noted g.calculus (limits_of core) (leaves_of g.meaning core) (ch core) laws (proper g laws core is.sure.core) (facts_in g laws core is.sure.core) (noted pass.notes) pass.size (pass.level + 1) is.noted_all none)

    pub passed_at : {F : Type 0} (full : ℕ → List F → F → Type 0) (agrees : M → F → Type 0) → Agreement g.calculus.over g.calculus.applies g.calculus.mother full agrees → (done : pending_of core ≡ 0) → IsLimitAnswer g.calculus (limits_of core) (leaves_of g.meaning core) Within → IsPassed g full agrees (limits_of core) (leaves_of g.meaning core) (record { core = core })
    passed_at full agrees agree done within = record {
      complete = core_complete g laws core is.sure.core done;
      forest = core_forest g laws core is.sure.core done full agrees agree;
      within = within;
      core = is.sure.core;
      limits_same = refl;
      leaves_same = refl;
      done = done;
    }

-- what a decision refuses is the answer of the limits
pub refused : {M C : Type 0} (k : Calculus M C) (limits : model.Limits) (leaves : List (model.Leaf M C)) (fault : ChartFault) → (a : LimitAnswer) × IsAnswer (Some fault) a × IsLimitAnswer k limits leaves a → IsPassFault k limits leaves fault
refused k limits leaves (faults.UnaryChain n) r = subst (IsLimitAnswer k limits leaves) r.1 r.2
refused k limits leaves (faults.Edges n) r = subst (IsLimitAnswer k limits leaves) r.1 r.2
refused k limits leaves (faults.NoMemory) r = tt

-- where the leaves and the limits are the same, so is what the pass answers
pub refused_at : {M C : Type 0} (k : Calculus M C) (some other : model.Limits) (xs ys : List (model.Leaf M C)) (fault : ChartFault) → some ≡ other → xs ≡ ys → IsPassFault k some xs fault → IsPassFault k other ys fault
refused_at k some other xs ys fault e f h = subst (λ l. IsPassFault k l ys fault) e (subst (λ x. IsPassFault k some x fault) f h)

pub ended : {X T C W B M F : Type 0} (g : Grammar T M C) (full : ℕ → List F → F → Type 0) (agrees : M → F → Type 0) (some other : model.Limits) (xs ys : List (model.Leaf M C)) (r : Result (Finished X T C W B) ChartFault) → some ≡ other → xs ≡ ys → MatchResult r (IsPassed g full agrees some xs) (IsPassFault g.calculus some xs) → MatchResult r (IsPassed g full agrees other ys) (IsPassFault g.calculus other ys)
ended g full agrees some other xs ys r e f h =
    subst (λ l. MatchResult r (IsPassed g full agrees l ys) (IsPassFault g.calculus l ys)) e
    (subst (λ x. MatchResult r (IsPassed g full agrees some x) (IsPassFault g.calculus some x)) f h)

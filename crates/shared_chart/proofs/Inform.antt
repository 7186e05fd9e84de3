-- What is told of one task more.
use Rattle.std.proofs.Common.{◌≡◌, ◌∙◌, sym, ap, refl, subst, ℕ, zero, suc, ◌+◌, ◌-◌, ◌≤◌, List, [], ◌∷◌, ◌++◌, length, length-append, Some, None, slice_get, inl, inr, ◌⊎◌, arith}
use Rattle.chart_core.specs.declared.chart.Core.{Core}
use Rattle.chart_core.specs.declared.TaskInfo.{TaskInfo}
use Rattle.chart_core.specs.Calls.{IsInfo}
use Rattle.std.proofs.lemmas.List.{length-map}
use Rattle.chart_core.specs.declared.Caller.{Caller}
use Rattle.chart_core.specs.declared.Entered.{Entered}
use Rattle.chart_core.specs.declared.Entered.TheVariants as entered
use Rattle.chart_core.specs.declared.Outcome.{Outcome}
use Rattle.chart_core.specs.Grammar.{Grammar}
use Rattle.chart_core.specs.View.{task_of}
use Rattle.chart_core.specs.Calls.{IsAnswer, Changes}
use Rattle.shared_chart.specs.Infos.{AreInfos, AreMade}

-- an element of a list that has one more is that one, or one of the rest
at_end : {A : Type 0} (xs : List A) (x : A) (i : ℕ) (y : A) → slice_get (xs ++ x ∷ []) i ≡ Some y → (slice_get xs i ≡ Some y) ⊎ ((length xs ≡ i) × (x ≡ y))
at_end [] x zero y e = inr (refl, cc)
at_end [] x (suc i) y e = absurd cc
at_end (a ∷ rest) x zero y e = inl e
at_end (a ∷ rest) x (suc i) y e = elim (at_end rest x i y e) [
  | inl p ↦ inl p
  | inr p ↦ inr (ap (λ (n : ℕ). suc n) p.0, p.1)
]

module _ {X T C W B : Type 0} where
  pub more_infos : (extent : C → ℕ) (core : Core X T C W B) (first n : ℕ) (xs ys : List TaskInfo) (x : TaskInfo) → first ≤ n → ys ≡ xs ++ x ∷ [] → AreInfos extent core first n xs → IsInfo extent core n x → AreInfos extent core first (n + 1) ys
  more_infos extent core first n xs ys x low more are is = record {
    count = (let a = ap (λ (l : List TaskInfo). length l) more in let b = length-append xs (x ∷ []) in let c = are.count in omega arith);
    each = λ i info at. elim (at_end xs x i info (ap (λ l. slice_get l i) (sym more) ∙ at)) [
      | inl p ↦ are.each i info p
      | inr p ↦ subst (λ y. IsInfo extent core (first + i) y) p.1 (subst (λ (k : ℕ). IsInfo extent core k x) (let c = are.count in let d = p.0 in omega arith) is)
    ];
  }

  pub no_infos : (extent : C → ℕ) (core : Core X T C W B) (first : ℕ) (xs : List TaskInfo) → xs ≡ [] → AreInfos extent core first first xs
  no_infos extent core first xs none = record {
    count = (let a = ap (λ (l : List TaskInfo). length l) none in omega arith);
    each = λ i info at. absurd (let e : None ≡ Some info = sym (ap (λ l. slice_get l i) none) ∙ at in cc);
  }

  -- the end is where it was reached, or before the beginning
  pub all_infos : (extent : C → ℕ) (core : Core X T C W B) (first n end : ℕ) (xs : List TaskInfo) → n - first ≡ end - first → AreInfos extent core first n xs → AreInfos extent core first end xs
  all_infos extent core first n end xs same are = record { count = are.count ∙ same; each = are.each }

module _ {X T C W B M : Type 0} (g : Grammar T M C) where
  -- the tasks that an answer says were made are there
  pub made_there : (old new : Core X T C W B) (t : ℕ) (o : Outcome X T C W B) (by : Caller) (answer : Entered) → IsAnswer g old t o by answer → Changes g old t o by answer new → AreMade new answer
  made_there old new t o by (entered.Stale place) is ch = tt
  made_there old new t o by (entered.Skipped place row) is ch = tt
  made_there old new t o by (entered.Noted place) is ch = tt
  made_there old new t o by (entered.Full made) is ch = tt
  made_there old new t o by (entered.Placed place row first end) is ch =
      let a = is.end_is in let b = ap (λ c. length c.tasks) ch.chart in let d = length-map new.tasks.items task_of in omega arith
  made_there old new t o by (entered.NoMemory) is ch = tt

-- What the calls of a core say, over the core itself.
use Rattle.std.specs.Prelude.{◌≡◌, ℕ, ◌<◌, Bool, true, Some, None, List, [], ◌++◌, length, map, slice_get, All}
use Rattle.chart_model.specs.Tuples.{on_list, IsFor}
use Rattle.chart_model.specs.Chart as model
use Rattle.chart_model.specs.At.{At}
use Rattle.chart_model.specs.Picked.{Rises}
use Rattle.chart_core.specs.declared.chart.Core.{Core}
use Rattle.chart_core.specs.declared.history.TaskRow.{TaskRow}
use Rattle.chart_core.specs.declared.Row.{Row}
use Rattle.chart_core.specs.declared.rows.Candidate.{Candidate}
use Rattle.chart_core.specs.declared.Caller.{Caller}
use Rattle.chart_core.specs.declared.Entered.{Entered}
use Rattle.chart_core.specs.declared.Outcome.{Outcome}
use Rattle.chart_core.specs.declared.Outcome.TheVariants as outcomes
use Rattle.chart_core.specs.declared.Peer.{Peer}
use Rattle.chart_core.specs.declared.Verdict.{Verdict}
use Rattle.chart_core.specs.declared.TaskInfo.{TaskInfo}
use Rattle.chart_core.specs.declared.Ready.{Ready}
use Rattle.chart_core.specs.declared.Ready.TheVariants as ready
use Rattle.chart_core.specs.Grammar.{Grammar}
use Rattle.chart_core.specs.CoreView.{chart_of, history_of, leaves_of, limits_of, caller_of, candidate_of}
use Rattle.chart_core.specs.Outcomes.{outcome_seen}
use Rattle.chart_core.specs.Verdicts.{AreRight}
use Rattle.chart_core.specs.declared.Daughters.{Daughters}
use Rattle.chart_core.specs.View.{AreDaughters, list_of}
use Rattle.chart_core.specs.Tests.{IsLow}
use Rattle.chart_core.specs.Copies.{IsWholeAt}
use Rattle.chart_core.specs.Steps.{IsOpen, IsSkipped, IsDoneAt, IsRightAt, IsTupleOf, Answers, added, stepped}

module _ {X T C W B M : Type 0} (g : Grammar T M C) where
  -- the outcome is right for the task
  abbrev pub IsRightIn : Core X T C W B → ℕ → Outcome X T C W B → Type 0
  IsRightIn core t o = IsRightAt g.calculus (limits_of core) (chart_of g.meaning core) t (outcome_seen g.meaning o)

  -- this is the answer to that outcome, by the table of answers; whether room is asked for
  abbrev pub IsAnswerTo : Bool → Core X T C W B → ℕ → model.Outcome M C → Caller → Entered → Type 0
  IsAnswerTo bounded core t o by answer = Answers g.calculus (limits_of core) (chart_of g.meaning core) t bounded o (caller_of by) answer

  abbrev pub IsAnswer : Core X T C W B → ℕ → Outcome X T C W B → Caller → Entered → Type 0
  IsAnswer core t o by answer = IsAnswerTo true core t (outcome_seen g.meaning o) by answer

  -- the entry that the answer adds, or none, is the step from the old chart to the new one
  pub record ChangesBy (old : Core X T C W B) (t : ℕ) (o : model.Outcome M C) (by : Caller) (answer : Entered) (new : Core X T C W B) : Type 0 where
    pub chart : chart_of g.meaning new ≡ stepped g.calculus (limits_of old) (chart_of g.meaning old) (added t o (caller_of by) answer)
    pub history : history_of g.meaning new ≡ history_of g.meaning old ++ on_list (added t o (caller_of by) answer) []
    pub leaves : leaves_of g.meaning new ≡ leaves_of g.meaning old
    pub limits : limits_of new ≡ limits_of old

  abbrev pub Changes : Core X T C W B → ℕ → Outcome X T C W B → Caller → Entered → Core X T C W B → Type 0
  Changes old t o by answer new = ChangesBy old t (outcome_seen g.meaning o) by answer new

  -- each verdict is right of the outcome's structure, if it has one
  abbrev pub AreRightVerdicts : Core X T C W B → Outcome X T C W B → List Verdict → Type 0
  AreRightVerdicts core (outcomes.Fails) verdicts = Unit {0}
  AreRightVerdicts core (outcomes.Fits cover) verdicts = Unit {0}
  AreRightVerdicts core (outcomes.Whole cover shape) verdicts = AreRight g.calculus g.meaning (g.meaning shape) core.rows.items verdicts

  -- how the task stands
  abbrev pub Tells : Core X T C W B → ℕ → Ready X T C W B → Type 0
  Tells core t (ready.Ready rule parts) = IsTupleOf g.meaning (chart_of g.meaning core) t rule parts × IsFor g.calculus g.belongs rule parts
  Tells core t (ready.Skipped row) = IsSkipped (chart_of g.meaning core) t row.0
  Tells core t (ready.Done place) = IsDoneAt (chart_of g.meaning core) t place

  abbrev pub IsOpenIn : Core X T C W B → ℕ → Type 0
  IsOpenIn core t = IsOpen (chart_of g.meaning core) t

  -- the task is open, with this rule and these daughters
  pub record IsOpenWith (core : Core X T C W B) (t rule : ℕ) (ds : List ℕ) : Type 0 where
    pub live : IsOpen (chart_of g.meaning core) t
    pub rule_is : rule ≡ live.task.rule
    pub daughters : ds ≡ model.daughters (chart_of g.meaning core).rows live.task

  -- so it is, and the daughters are whole rows of low level that are there
  pub record IsReady (core : Core X T C W B) (t rule : ℕ) (daughters : Daughters) : Type 0 where
    pub with_these : IsOpenWith core t rule (list_of daughters)
    pub well : AreDaughters daughters
    pub in_range : All (λ d. d < length core.rows.items) (list_of daughters)
    pub lows : All (IsLow core.rows.items) (list_of daughters)
    pub wholes : All (IsWholeAt core.rows.items) (list_of daughters)

  -- the task is open, and this is its whole row
  pub record IsNewRow (core : Core X T C W B) (t : ℕ) (new : Candidate X T C W B) : Type 0 where
    pub live : IsOpen (chart_of g.meaning core) t
    pub row_is : candidate_of g.meaning new ≡ model.whole_row g.calculus (limits_of core) (chart_of g.meaning core) live.task new.cover (g.meaning new.shape)

  -- the number of a live host of this cover and level
  pub record IsLiveHost (core : Core X T C W B) (cover : C) (level p : ℕ) : Type 0 where
    pub row : Row X T C W B
    pub at : slice_get core.rows.items p ≡ Some row
    pub live : row.into ≡ None
    pub shape : T
    pub shape_is : row.shape ≡ Some shape
    pub cover_is : row.cover ≡ cover
    pub level_is : row.level ≡ level

  -- these are the live hosts of the cover and level, each once and in order of rows, with shapes equal to theirs
  pub record ArePeers (core : Core X T C W B) (cover : C) (level : ℕ) (hosts : List (Peer X T C W B)) : Type 0 where
    pub each : (i : ℕ) (peer : Peer X T C W B) → At hosts i peer → (h : IsLiveHost core cover level peer.row.0) × (g.meaning peer.shape ≡ g.meaning h.shape) × g.belongs peer.shape
    pub all : (p : ℕ) → IsLiveHost core cover level p → (i : ℕ) × (peer : Peer X T C W B) × At hosts i peer × (peer.row.0 ≡ p)
    pub in_order : Rises 0 (map (λ peer. peer.row.0) hosts)

module _ {X T C W B : Type 0} where
  -- the rule of the task, and the size and level of its host
  pub record IsInfo (extent : C → ℕ) (core : Core X T C W B) (t : ℕ) (info : TaskInfo) : Type 0 where
    pub task : TaskRow
    pub made : slice_get core.tasks.items t ≡ Some task
    pub host : Row X T C W B
    pub at : slice_get core.rows.items task.host.0 ≡ Some host
    pub rule : info.rule ≡ task.rule
    pub size : info.size ≡ extent host.cover
    pub level : info.level ≡ host.level

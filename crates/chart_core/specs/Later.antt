-- A core at a later time, and what is right there.
use Rattle.std.specs.Prelude.{◌≡◌, ℕ, List, [], ◌++◌, refl}
use Rattle.std.proofs.Common.{sym, ap, ◌∙◌, append-nil, append_assoc}
use Rattle.chart_model.specs.Chart as model
use Rattle.chart_core.specs.declared.chart.Core.{Core}
use Rattle.chart_core.specs.declared.Caller.{Caller}
use Rattle.chart_core.specs.declared.Entered.{Entered}
use Rattle.chart_core.specs.declared.Outcome.{Outcome}
use Rattle.chart_core.specs.declared.Peer.{Peer}
use Rattle.chart_core.specs.declared.Verdict.{Verdict}
use Rattle.chart_core.specs.declared.Ready.{Ready}
use Rattle.chart_core.specs.declared.Ready.TheVariants as ready
use Rattle.chart_core.specs.Grammar.{Grammar}
use Rattle.chart_core.specs.CoreView.{history_of, leaves_of, limits_of}
use Rattle.chart_core.specs.Kept.{IsCore}
use Rattle.chart_core.specs.Outcomes.{IsRightFor}
use Rattle.chart_core.specs.Calls.{IsRightIn, ChangesBy, ArePeers, AreRightVerdicts}

module _ {X T C W B M : Type 0} (g : Grammar T M C) where
  -- the new core comes from the old one by outcomes that were entered
  pub record IsLater (old new : Core X T C W B) : Type 0 where
    pub limits_same : limits_of new ≡ limits_of old
    pub leaves_same : leaves_of g.meaning new ≡ leaves_of g.meaning old
    pub more : List (model.Entry M C)
    pub history : history_of g.meaning new ≡ history_of g.meaning old ++ more

  -- a core is later than itself, and than each that one before it is later than
  pub later_itself : (core : Core X T C W B) → IsLater core core
  later_itself core = record { limits_same = refl; leaves_same = refl; more = []; history = sym (append-nil (history_of g.meaning core)) }

  pub later_after : (a b c : Core X T C W B) → IsLater a b → IsLater b c → IsLater a c
  later_after a b c p q = record {
    limits_same = q.limits_same ∙ p.limits_same;
    leaves_same = q.leaves_same ∙ p.leaves_same;
    more = p.more ++ q.more;
    history = q.history ∙ ap (λ es. es ++ q.more) p.history ∙ append_assoc (history_of g.meaning a) p.more q.more;
  }

  -- so is one that an outcome was entered in
  pub later_by : (old new : Core X T C W B) (t : ℕ) (o : model.Outcome M C) (by : Caller) (answer : Entered) → ChangesBy g old t o by answer new → IsLater old new
  later_by old new t o by answer c = record { limits_same = c.limits; leaves_same = c.leaves; more = _; history = c.history }

  -- an outcome that is right for what was told of the task is right for the task; for one that was done or skipped each is
  abbrev pub StaysRight : Core X T C W B → ℕ → Ready X T C W B → Type 0
  StaysRight core t (ready.Ready rule parts) = (o : Outcome X T C W B) → IsRightFor g.calculus g.meaning rule parts o → IsRightIn g core t o
  StaysRight core t (ready.Skipped row) = (o : Outcome X T C W B) → IsRightIn g core t o
  StaysRight core t (ready.Done place) = (o : Outcome X T C W B) → IsRightIn g core t o

  -- the verdicts are right of an outcome's structure wherever these are live hosts, and at each later time
  abbrev pub AreLasting : List (Peer X T C W B) → Outcome X T C W B → List Verdict → Type 0
  AreLasting hosts o verdicts =
      (old new : Core X T C W B) (cover : C) (level : ℕ) → IsCore g old → IsCore g new → IsLater old new → ArePeers g old cover level hosts → AreRightVerdicts g new o verdicts

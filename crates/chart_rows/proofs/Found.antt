-- What was found stays right.
use Rattle.std.proofs.Common.{◌≡◌, ℕ, List, arith}
use Rattle.chart_model.specs.Calculus.{Laws}
use Rattle.chart_core.specs.declared.chart.Core.{Core}
use Rattle.chart_core.specs.declared.Outcome.{Outcome}
use Rattle.chart_core.specs.declared.Peer.{Peer}
use Rattle.chart_core.specs.declared.Verdict.{Verdict}
use Rattle.chart_core.specs.Grammar.{Grammar}
use Rattle.chart_core.specs.Kept.{IsCore}
use Rattle.chart_core.specs.Later.{AreLasting, later_after}
use Rattle.chart_core.specs.Calls.{ArePeers}
use Rattle.chart_core.proofs.Later.{tasks_later}
use Rattle.shared_chart.specs.Seats.{ChartSeat, state_of}
use Rattle.shared_chart.specs.Told.{Sees, AreRightSince}
use Rattle.chart_rows.specs.Sitting.{IsFound}

module _ {X T C W B M : Type 0} (g : Grammar T M C) where
  pub found_on : Laws g.calculus → (a b : ChartSeat X T C W B) (t : ℕ) (o : Outcome X T C W B) → IsFound g a t o → Sees g (state_of a) (state_of b) → IsFound g b t o
  found_on laws a b t o f s = record {
    core = s.core;
    made = (let n = tasks_later g laws (state_of a) (state_of b) f.core s.core s.later in let m = f.made in omega (arith, n, m));
    right = λ c is later. f.right c is (later_after g (state_of a) (state_of b) c s.later later);
    belongs = f.belongs;
  }

  pub right_since : (s : Core X T C W B) (cover : C) (level : ℕ) (hosts : List (Peer X T C W B)) (o : Outcome X T C W B) (verdicts : List Verdict) → IsCore g s → ArePeers g s cover level hosts → AreLasting g hosts o verdicts → AreRightSince g s o verdicts
  right_since s cover level hosts o verdicts is peers lasting = λ c core later. lasting s c cover level is core later peers

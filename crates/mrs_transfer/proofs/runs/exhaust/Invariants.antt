use Rattle.std.proofs.Common.{ℕ, ◌-◌, ◌≤◌, Bool}
use Rattle.mrs_model.specs.Valid.{IsValid}
use Rattle.mrs_model.specs.Views.{meaning_of, predication_of}
use Rattle.sieve.specs.Guards.{Answers}
use Rattle.transfer_model.specs.Sites.{Site}
use Rattle.transfer_model.specs.Views.{rule_of}
use Rattle.std.specs.Prelude.{map}
use Rattle.mrs_transfer.specs.Inner.Present.{ArePresent}
use Rattle.mrs_transfer.specs.Inner.Running.{Leads}
use Rattle.mrs_transfer.proofs.runs.exhaust.Given as goal

abbrev pub invariant-loop-done : goal.invariant-loop-done
invariant-loop-done g l = record {
  valid : IsValid (meaning_of l.done.mrs);
  present : ArePresent l.done.present.places.items (map predication_of l.done.mrs.eps.items);
  within : l.done.steps ≤ l.most;
  leads : (allows : ℕ → Site → Bool) → Answers g.F.Decision.answers l.guard allows → Leads allows l.number (rule_of l.rule) (meaning_of l.fn.done.mrs) l.fn.done.steps (meaning_of l.done.mrs) l.done.steps;
}

abbrev pub decreases-loop-done : goal.decreases-loop-done
decreases-loop-done g l = l.most - l.done.steps

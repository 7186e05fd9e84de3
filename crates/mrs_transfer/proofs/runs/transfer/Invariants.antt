use Rattle.std.proofs.Common.{ℕ, ◌≤◌, Bool}
use Rattle.std.specs.Prelude.{map}
use Rattle.mrs_model.specs.Valid.{IsValid}
use Rattle.mrs_model.specs.Views.{meaning_of, predication_of}
use Rattle.sieve.specs.Guards.{Answers}
use Rattle.transfer_model.specs.Sites.{Site}
use Rattle.mrs_transfer.specs.Inner.Present.{ArePresent}
use Rattle.mrs_transfer.specs.Inner.Running.{Follows}
use Rattle.mrs_transfer.proofs.runs.transfer.Given as goal

abbrev pub invariant-loop-number : goal.invariant-loop-number
invariant-loop-number g l = record {
  valid : IsValid (meaning_of l.done.mrs);
  present : ArePresent l.done.present.places.items (map predication_of l.done.mrs.eps.items);
  within : l.done.steps ≤ l.most;
  follows : (allows : ℕ → Site → Bool) → Answers g.F.Decision.answers l.guard allows → Follows allows l.rules (meaning_of l.fn.mrs) l.number (meaning_of l.done.mrs) l.done.steps;
}

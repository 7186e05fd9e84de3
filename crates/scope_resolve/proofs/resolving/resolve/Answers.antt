use Rattle.std.proofs.Common.{◌≤◌, ◌∙◌, sym, ap, subst, map, length}
use Rattle.std.specs.Prelude.{MatchOption}
use Rattle.mrs_model.specs.Views.{meaning_of}
use Rattle.scope_model.specs.Frames.{Frame}
use Rattle.scope_model.specs.Readings.{Plugged, IsReading}
use Rattle.scope_model.specs.Answers.{AreReadings, plugged_of, frame}
use Rattle.scope_resolve.specs.Inner.Nets.{frame_in}
use Rattle.scope_resolve.specs.Inner.Building.{AreNumbers}
use Rattle.scope_resolve.specs.Inner.Resolving.{AreMore}
use Rattle.scope_resolve.proofs.Resolves.{linked_at, no_readings}
use Rattle.scope_resolve.proofs.resolving.resolve.Goals as goal

pub parts_of-requires-clause-numbers : goal.parts_of-requires-clause-numbers
parts_of-requires-clause-numbers c =
    subst (AreNumbers (meaning_of c.args.mrs.now)) (sym c.deref-table.ensures.value) (record { size = c.in_ok-numbers.ensures.size; each = c.in_ok-numbers.ensures.each })

pub net_of-requires : goal.net_of-requires
net_of-requires c = linked_at _ (meaning_of c.args.mrs.now) c.in_ok-parts.ensures

pub returns-in-Some : goal.returns-in-Some
returns-in-Some c =
    let a = rw c.in-Some.is at c.in_ok-found.ensures in
    let e = ap frame_in a.1 ∙ c.in_ok-parts.ensures in
    subst (λ (f : Frame). MatchOption c.in_ok-readings-in-Some.readings (AreMore f c.args.max) (λ ps. AreReadings f (map plugged_of ps.items) × (length ps.items ≤ c.args.max))) e c.in_ok-readings-in-Some.ensures

pub returns : goal.returns
returns c =
    let never = rw c.in-None.is at c.in_ok-found.ensures in
    no_readings (frame (meaning_of c.args.mrs.now)) c.args.max _ c.new.ensures.items (subst (λ (f : Frame). (p : Plugged) → IsReading f p → ⊥) c.in_ok-parts.ensures never)

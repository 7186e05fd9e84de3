use Rattle.std.proofs.Common.{ℕ, ◌≡◌, ◌<◌, ◌∙◌, Bool, true, Some, List, length, take, map, sym, subst}
use Rattle.std.specs.Prelude.{All, slice_index}
use Rattle.std.specs.List.{AllZip, slice_get}
use Rattle.mrs_model.specs.Views.{variable_of, meaning_of}
use Rattle.mrs_transfer.specs.Inner.Trimming.{IsRenumbered, kept_by}
use Rattle.mrs_transfer.proofs.Kept.{none_unmarked}
use Rattle.mrs_transfer.proofs.Trimmed.{trimmed_by, trimmed_whole}
use Rattle.mrs_transfer.proofs.trimming.trim.Goals as goal

pub returns-then-not-contains : goal.returns-then-not-contains
returns-then-not-contains c = (
  kept_by c.in_ok-marks.marks.items,
  trimmed_whole (meaning_of c.args.mrs) c.in_ok-marks.marks.items c.requires c.in_ok-marks.ensures
      (subst (All (λ m. m ≡ true)) c.deref.ensures.value (none_unmarked c.deref.result.now (sym c.contains.ensures.value ∙ c.if-not-contains.true))),
)

pub returns : goal.returns
returns c = (
  kept_by c.in_ok-marks.marks.items,
  trimmed_by (meaning_of c.args.mrs) (meaning_of c.renumber.new.mrs) (map variable_of c.in_ok-vars.vars.items) c.in_ok-marks.marks.items c.in_ok-to.to.items c.requires c.in_ok-marks.ensures
      (subst (λ (bs : List Bool). (v : ℕ) → v < length bs → slice_index c.in_ok-to.to.items v ≡ length (kept_by (take v bs))) c.deref-2.ensures.value c.in_ok-to.ensures.numbers)
      (subst (λ (ts : List ℕ). IsRenumbered ts (meaning_of c.args.mrs) (meaning_of c.renumber.new.mrs)) c.deref-3.ensures.value c.renumber.ensures.renumbered)
      (subst (λ (bs : List Bool). AllZip (λ v x. slice_get (map variable_of c.args.mrs.vars.items) v ≡ Some x) (kept_by bs) (map variable_of c.in_ok-vars.vars.items)) c.deref-4.ensures.value (rw c.renumber.ensures.vars at c.in_ok-vars.ensures)),
)

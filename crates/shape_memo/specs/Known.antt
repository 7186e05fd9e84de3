-- What is known of a rule with daughters.
use Rattle.std.specs.Prelude.{◌≡◌, ℕ, false, List, All, MatchOption, map}
use Rattle.boxcar.specs.Slot.{Named}
use Rattle.chart_model.specs.Calculus.{Calculus, NoneApplies}
use Rattle.chart_model.specs.declared.covers.Part.{Part}
use Rattle.chart_model.specs.declared.covers.Tuple.{Tuple}
use Rattle.chart_model.specs.Tuples.{shapes_of}
use Rattle.shape_memo.specs.declared.answer.Outcome.{Outcome}
use Rattle.shape_memo.specs.declared.answer.Outcome.TheVariants.{Fits, Mother}

-- what a daughter stands for
abbrev pub meant : {T C M : Type 0} → (T → M) → Part T C → M
meant meaning part = meaning part.shape

-- The outcome is right for a rule with daughters that stand for these structures: they don't fit only where the rule applies to
-- no tuple that begins with them; a mother is the rule's, and there is none only where the rule doesn't apply.
abbrev pub IsRight : {T M C : Type 0} → Calculus M C → (T → M) → (T → Type 0) → ℕ → List M → Outcome T → Type 0
IsRight k meaning belongs rule ms (Fits fit) = fit ≡ false → NoneApplies k rule ms
IsRight k meaning belongs rule ms (Mother o) = MatchOption o (k.applies rule ms → ⊥) (λ s. k.mother rule ms (meaning s) × belongs s)

-- the same, of a tuple of daughters
abbrev pub IsRightFor : {T M C X : Type 0} → Calculus M C → (T → M) → (T → Type 0) → ℕ → Tuple T X → Outcome T → Type 0
IsRightFor k meaning belongs rule parts outcome = IsRight k meaning belongs rule (map meaning (shapes_of parts)) outcome

-- slots that have this tag
abbrev pub AreTagged : List ℕ → List Named → Type 0
AreTagged tag slots = All (λ slot. slot.tag ≡ tag) slots

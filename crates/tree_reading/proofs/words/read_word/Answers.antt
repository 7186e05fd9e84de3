use Rattle.std.proofs.Common.{◌≡◌, ◌∙◌, ◌==◌, ◌∷◌, [], ℕ, List, Bool, true, length, refl, sym, subst, inl, inr, ◌⊎◌, rules, arith, eqb-true}
use Rattle.std.specs.String.{string_bytes}
use Rattle.tree_reading.specs.declared.stops.Stop.{Stop}
use Rattle.tree_reading.specs.declared.stops.Stop.TheVariants.{Left, NoMemory}
use Rattle.tree_reading.specs.Inner.Shapes.{Begins}
use Rattle.tree_reading.specs.Inner.Stops.{IsStop, IsEndedWord, BeginsWord, HasAdded}
use Rattle.tree_reading.proofs.Lifting.{at_exit}
use Rattle.tree_reading.proofs.WordReading.{stop_escape, stop_word, added_more}
use Rattle.tree_reading.proofs.words.read_word.Goals.{then-is_empty-via-then-is_empty, then-is_empty-via-else-is_empty+then-is_empty-2}
use Rattle.tree_reading.proofs.words.read_word.Goals as goal

stopped : (word whole rest after : List ℕ) (e : Stop) → HasAdded [] word whole rest → rest ≡ 92 ∷ after → (e ≡ NoMemory) ⊎ ((e ≡ Left (length after)) × (Begins 34 after → ⊥) × (Begins 92 after → ⊥)) →
    IsStop IsEndedWord BeginsWord whole e
stopped word whole rest after e h is (inl k) = subst (IsStop IsEndedWord BeginsWord whole) (sym k) tt
stopped word whole rest after e h is (inr k) =
    subst (IsStop IsEndedWord BeginsWord whole) (sym k.0) (stop_escape word whole after (subst (HasAdded [] word whole) is h) k.1 k.2)

nothing : (bs : List ℕ) (b : Bool) → b ≡ true → b ≡ (length bs == 0) → bs ≡ []
nothing [] b h e = refl
nothing (x ∷ bs) b h e = absurd (omega (arith, eqb-true (length (x ∷ bs)) 0 (sym e ∙ h)))

pub loop-after-preserved : goal.loop-after-preserved
loop-after-preserved c = record {
  text = search rules;
  added = added_more [] (string_bytes c.loop-after.word) (string_bytes c.take_escaped.new.word) c.args.text.now c.loop-after.rest.now c.in_ok-rest-2.rest.now c.loop-after.invariant.added
      (subst (λ t. HasAdded (string_bytes c.loop-after.word) (string_bytes c.take_escaped.new.word) t c.in_ok-rest-2.rest.now) (sym c.in-Some.ensures) c.in_ok-rest-2.ensures.read);
}

pub returns-in_err-rest-2-clause-stopped : goal.returns-in_err-rest-2-clause-stopped
returns-in_err-rest-2-clause-stopped c =
    let e = c.in_err-rest-2.field-0.0 in
    at_exit (IsStop IsEndedWord BeginsWord c.args.text.now) c.from_residual-in_err-rest-2.result e c.from_residual-in_err-rest-2.ensures.1
    (stopped (string_bytes c.loop-after.word) c.args.text.now c.loop-after.rest.now c.in-Some.after.now e c.loop-after.invariant.added c.in-Some.ensures c.in_err-rest-2.ensures.stopped)

pub returns-then-is_empty-clause-stopped : goal.returns-then-is_empty-clause-stopped
returns-then-is_empty-clause-stopped c =
    let h = c.loop-after.invariant.added in
    let word = string_bytes c.loop-after.word in
    let stop = stop_word word c.args.text.now c.loop-after.rest.now h in
    elim c.then-is_empty.branch [ then-is_empty-via-then-is_empty w ↦ stop (inl (sym c.as_bytes.ensures.value ∙ nothing c.as_bytes.result.now c.is_empty.result w.if-is_empty.true c.is_empty.ensures)) c.in_default.ensures | then-is_empty-via-else-is_empty+then-is_empty-2 w ↦ stop (inr (nothing c.loop-after.rest.now w.is_empty-else-is_empty.result w.if-is_empty-2.true w.is_empty-else-is_empty.ensures)) c.in_default.ensures ]

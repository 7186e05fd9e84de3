use Rattle.std.proofs.Common.{◌≡◌, ◌++◌, ◌∷◌, ◌∙◌, ℕ, List, [], None, length, refl, sym, subst, arith}
use Rattle.std.proofs.lemmas.Bool.{false≢true}
use Rattle.tree_reading.specs.declared.uses.Uses.{Uses}
use Rattle.tree_reading.specs.Grammars.{TreeGrammar, IsNamedWell, HasEntry}
use Rattle.tree_reading.specs.Inner.Shapes.{Begins}
use Rattle.tree_reading.specs.Inner.Frames.{Frame, AreFrames, front, frames_of, is_wide}
use Rattle.tree_reading.specs.Inner.Stops.{Fails, IsText}
use Rattle.tree_reading.specs.Inner.Begun.{IsNamed}
use Rattle.tree_reading.proofs.Runs.{heads}
use Rattle.tree_reading.proofs.Faults.{fails, stop_begun}
use Rattle.tree_reading.proofs.Beginning.{begun_row}
use Rattle.tree_reading.proofs.opening.begin.Goals as goal

stopped : (g : TreeGrammar) → IsNamedWell g → HasEntry g → (fs : List Frame) (bytes rest : List ℕ) (uses : Uses) → AreFrames g fs → IsNamed g (is_wide fs) bytes uses rest → (Begins 34 rest → uses.entry ≡ None) →
    (Begins 40 rest → (uses.rules.lexical ≡ None) × (uses.rules.phrase ≡ None)) → Fails (IsText g) (IsText g) (front fs ++ bytes) (length rest)
stopped g well entry fs bytes rest uses frames n a b =
    fails g (front fs ++ bytes) (front fs ++ (40 ∷ (n.name ++ 32 ∷ []))) rest (length rest) (begun_row fs bytes n.name rest n.is) refl
    (stop_begun g well entry fs n.name rest uses frames n.is_name n.uses_are n.some a b)

quote_alone : (rest words : List ℕ) → rest ≡ 34 ∷ words → Begins 40 rest → ⊥
quote_alone [] words e h = h
quote_alone (x ∷ rest) words e h = omega (arith, h, heads _ _ _ _ e)

pub returns-in-None-clause-stopped : goal.returns-in-None-clause-stopped
returns-in-None-clause-stopped c =
    let g = c.args.names.now in
    stopped g c.requires.well c.requires.entry (frames_of g.names c.args.stack.now) c.args.text.now c.in_ok-uses.rest.now c.in_ok-uses.uses c.requires.frames.frames c.in_ok-uses.ensures.read
    (λ b. c.in-None.is) (λ b. absurd (quote_alone c.in_ok-uses.rest.now c.in-Some.words.now c.in-Some.ensures b))

pub returns-in_default-strip-clause-stopped : goal.returns-in_default-strip-clause-stopped
returns-in_default-strip-clause-stopped c =
    let g = c.args.names.now in
    stopped g c.requires.well c.requires.entry (frames_of g.names c.args.stack.now) c.args.text.now c.in_ok-uses.rest.now c.in_ok-uses.uses c.requires.frames.frames c.in_ok-uses.ensures.read
    (λ b. absurd (c.in_default.ensures b)) (λ b. absurd (c.in_default-strip.ensures b))

pub returns-then-is_none-clause-stopped : goal.returns-then-is_none-clause-stopped
returns-then-is_none-clause-stopped c =
    let g = c.args.names.now in
    stopped g c.requires.well c.requires.entry (frames_of g.names c.args.stack.now) c.args.text.now c.in_ok-uses.rest.now c.in_ok-uses.uses c.requires.frames.frames c.in_ok-uses.ensures.read
    (λ b. absurd (c.in_default.ensures b)) (λ b. c.is_none.ensures.0 c.if-is_none.true)

pub returns-clause-read : goal.returns-clause-read
returns-clause-read c =
    let n = c.in_ok-uses.ensures.read in
    (n.name, n.is_name, n.uses_are.rules, (λ h. false≢true (sym c.if-is_none.false ∙ c.is_none.ensures.1 h)), n.is, subst (Begins 40) (sym c.in-Some-strip.ensures) refl)

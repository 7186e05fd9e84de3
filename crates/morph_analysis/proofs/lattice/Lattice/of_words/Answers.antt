use Rattle.std.proofs.Common.{arith, ◌≡◌, ◌∙◌, ◌+◌, ◌<◌, ◌≤◌, ◌++◌, [], ◌∷◌, length, map, take, string_bytes, sym, ap, subst}
use Rattle.morph_analysis.proofs.LatticeLemmas.{of_words_next, steps_valid}
use Rattle.morph_analysis.specs.Lattices.{steps_from}
use Rattle.morph_analysis.specs.LatticeViews.{step_of}
use Rattle.lexicon.specs.Words.{Each}
use Rattle.std.proofs.lemmas.List.{map-append, length-map, take_all}
use Rattle.morph_analysis.proofs.lattice.Lattice.of_words.Goals as goal

pub loop-i-preserved : goal.loop-i-preserved
loop-i-preserved c =
    ap (map step_of) c.in_ok-push.ensures.items ∙ map-append step_of c.loop-i.steps.items _ ∙ ap (λ l. l ++ record { from = c.loop-i.i; to = c.loop-i.i + 1; word = string_bytes c.in_ok-clone.field-0 } ∷ []) c.loop-i.invariant
    ∙ of_words_next c.args.words.now c.loop-i.i c.index-words-i.result (string_bytes c.in_ok-clone.field-0) c.loop-i-test.true c.index-words-i.is c.in_ok-clone.ensures.cases

pub returns-clause-valid : goal.returns-clause-valid
returns-clause-valid c =
    let all : take c.loop-i.i c.args.words.now ≡ c.args.words.now = take_all c.loop-i.i c.args.words.now c.loop-i-test.false in
    let is = c.loop-i.invariant ∙ ap (λ l. steps_from 0 (map string_bytes l)) all in
    subst (Each (λ s. (s.from < s.to) × (s.to ≤ length c.args.words.now))) (sym is) (steps_valid 0 (length c.args.words.now) (map string_bytes c.args.words.now) (omega (arith, length-map c.args.words.now string_bytes)))

use Rattle.std.proofs.Common.{◌≡◌, ◌∙◌, ◌++◌, ◌∷◌, [], ℕ, List, refl, sym, ap, append_assoc, rules}
use Rattle.std.specs.List.{All}
use Rattle.std.proofs.lemmas.List.Elements.{All-nil, All-push}
use Rattle.tree_reading.specs.Inner.Shapes.{Begins}
use Rattle.tree_reading.specs.Inner.Begun.{HasBlanks}
use Rattle.tree_reading.proofs.reading.after_blanks.Goals as goal

abbrev Passed : List ℕ → List ℕ → Type 0
Passed line rest = (blanks : List ℕ) × All (λ byte. byte ≡ 32) blanks × (line ≡ blanks ++ rest)

one_more : (line rest after : List ℕ) → Passed line rest → rest ≡ 32 ∷ after → Passed line after
one_more line rest after h e =
    (h.0 ++ 32 ∷ [], All-push (λ byte. byte ≡ 32) h.0 32 h.1 refl, h.2 ∙ ap (λ t. h.0 ++ t) e ∙ sym (append_assoc h.0 (32 ∷ []) after))

blanks_end : (line rest : List ℕ) → Passed line rest → (Begins 32 rest → ⊥) → HasBlanks line rest
blanks_end line rest h none = record { blanks = h.0; blank = h.1; is = h.2; no_more = none }

pub loop-after-init : goal.loop-after-init
loop-after-init c = record { text = search rules; passed = ([], All-nil (λ byte. byte ≡ 32), refl) }

pub loop-after-preserved : goal.loop-after-preserved
loop-after-preserved c = record {
  text = search rules;
  passed = one_more c.args.line.now c.loop-after.rest.now c.in-Some.after.now c.loop-after.invariant.passed c.in-Some.ensures;
}

pub returns : goal.returns
returns c = blanks_end c.args.line.now c.loop-after.rest.now c.loop-after.invariant.passed c.in_default.ensures

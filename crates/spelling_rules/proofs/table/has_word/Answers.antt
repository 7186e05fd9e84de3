use Rattle.std.proofs.Common.{◌∙◌, inl, inr, false, map, string_bytes, refl, sym, ap, subst}
use Rattle.std.specs.Str.{bytes_eq}
use Rattle.lexicon.proofs.WordLemmas.{bytes_eq-same, bytes_eq-refl}
use Rattle.lexicon.specs.Words.{Has}
use Rattle.spelling_rules.proofs.Lists.{Has-at, Has-next, all_taken, true_not_false}
use Rattle.spelling_rules.proofs.table.has_word.Goals as goal

pub returns-then-eq : goal.returns-then-eq
returns-then-eq c =
    let e = sym c.as_str.ensures.value ∙ bytes_eq-same c.as_str.result.now c.args.text.now (sym c.if-eq.ensures) in
    (λ _. Has-at string_bytes c.args.words.now c.loop-word.word-index c.word-item.result c.args.text.now c.loop-word-test.true c.word-item.is e, λ _. refl)

pub loop-word-preserved : goal.loop-word-preserved
loop-word-preserved c = λ h.
    elim (Has-next string_bytes c.args.words.now c.loop-word.word-index c.word-item.result c.args.text.now c.loop-word-test.true c.word-item.is h) [
      | inl k ↦ c.loop-word.invariant k
      | inr e ↦ true_not_false (bytes_eq c.as_str.result.now c.args.text.now) (bytes_eq-refl c.as_str.result.now c.args.text.now (c.as_str.ensures.value ∙ sym e)) (sym c.if-eq.ensures)
    ]

pub returns : goal.returns
returns c =
    let all = ap (map string_bytes) (all_taken c.args.words.now c.loop-word.word-index c.loop-word-test.false) in
    (λ e. true_not_false false e refl, λ h. absurd (c.loop-word.invariant (subst (Has c.args.text.now) (sym all) h)))

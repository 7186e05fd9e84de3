-- What holds of `scope`.
use Rattle.std.proofs.Common.{ℕ, ◌∙◌, sym}
use Rattle.endings.specs.Meanings.{Lawful}
use Rattle.endings.proofs.ToldLines.{no-gap}
use Rattle.scope_commands.specs.Answers.{IsAnswer}
use Rattle.scope_commands.specs.Scoping.{scope_meaning}
use Rattle.scope_commands.proofs.OneAnswers.{TextLaws, ReadingLaws, one-answer, one-answers}

pub scope-laws : TextLaws → ReadingLaws → (max : ℕ) → Lawful (scope_meaning max)
scope-laws texts readings max = record {
  loads = λ files lines pieces refused r. tt;
  gaps_load = λ files lines pieces wanting r. tt;
  no_gap = λ files lines pieces r. no-gap (IsAnswer max) 1 lines pieces r;
  one_first = λ files f g a b. absurd a;
  not_both = λ files f l a. a;
  one_report = λ files lines pieces others refused may p q. one-answers (IsAnswer max) (one-answer texts readings max) 1 lines pieces others refused may p q;
  one_notes = λ files lines text other p q. p ∙ sym q;
  calm = λ h f x none. x.0;
}

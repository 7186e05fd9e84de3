use Rattle.std.proofs.Common.{◌≡◌, min, fold, drop, arith, ap, sym, ◌∙◌, ◌+◌, ◌∷◌}
use Rattle.std.proofs.lemmas.Grind.{common_steps}
use Rattle.grammar_settings.specs.Forms.{with_digit}
use Rattle.grammar_settings.proofs.FormLemmas.{fold_capped}
use Rattle.grammar_settings.proofs.forms.number_to_limit.Goals as goal

pub loop-c-preserved : goal.loop-c-preserved
loop-c-preserved c =
    let bound = c.args.most + 1 in
    let rest = drop (c.loop-c.c-index + 1) c.args.digits.now in
    let more : drop c.loop-c.c-index c.args.digits.now ≡ c.c-item.result ∷ rest = grind (arith, common_steps) in
    record {
      are_digits = grind (arith, common_steps);
      room = omega arith;
      same = ap (λ k. min (fold with_digit k rest) bound) (omega arith) ∙ fold_capped bound (with_digit c.loop-c.number c.c-item.result) rest ∙ ap (λ l. min (fold with_digit c.loop-c.number l) bound) (sym more) ∙ c.loop-c.invariant.same;
    }

use Rattle.std.proofs.Common.{List, ℕ, Bor, sym, subst}
use Rattle.std.specs.Str.{str_to_ascii_lowercase}
use Rattle.std.proofs.lemmas.Result.{on_ok_weaker}
use Rattle.mrs_model.specs.Views.{predication_of}
use Rattle.mrs_reading.specs.Inner.Predications.{IsFilled}
use Rattle.mrs_reading.proofs.Agreeing.{last_name, no_last}
use Rattle.mrs_reading.proofs.eps.fill_variable.Goals as goal

pub returns-in-Some : goal.returns-in-Some
returns-in-Some c =
    on_ok_weaker c.add_variable.result (λ h before r e. subst (λ (z : List ℕ). IsFilled z c.args.variable (predication_of c.args.ep.now) (predication_of c.add_variable.new.ep))
    (last_name (λ (n : Bor (List ℕ)). str_to_ascii_lowercase n.now) c.args.roles.now c.in-Some.role.now before r (sym c.in-Some.ensures.value) e) h) c.add_variable.ensures

pub returns-in-None : goal.returns-in-None
returns-in-None c = λ before r e. absurd (no_last (λ (n : Bor (List ℕ)). str_to_ascii_lowercase n.now) c.args.roles.now before r (sym c.in-None.ensures.value) e)

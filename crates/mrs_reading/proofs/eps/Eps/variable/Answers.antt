use Rattle.std.proofs.Common.{◌∙◌, List, ℕ, Bor, sym, subst, ap, map, refl}
use Rattle.std.specs.Option.{option_map}
use Rattle.std.specs.Str.{str_to_ascii_lowercase}
use Rattle.std.proofs.lemmas.Option.{same_Some}
use Rattle.std.proofs.lemmas.Result.{on_ok_weaker}
use Rattle.mrs_model.specs.Meanings.{Predication}
use Rattle.mrs_model.specs.Views.{predication_of}
use Rattle.mrs_reading.specs.Inner.Predications.{IsFilled}
use Rattle.mrs_reading.proofs.eps.Eps.variable.Goals as goal

pub returns-in-Some-clause-current : goal.returns-in-Some-clause-current
returns-in-Some-clause-current c =
    on_ok_weaker c.fill_variable.result (λ h. record {
      filled = λ ep before r e q. (
        predication_of c.fill_variable.new.ep,
        refl,
        subst (λ (z : Predication). IsFilled r c.args.variable z (predication_of c.fill_variable.new.ep)) (same_Some (predication_of c.in-Some.ep) ep (ap (option_map predication_of) (sym c.in-Some.is) ∙ e))
            (h before r (ap (map (λ (n : Bor (List ℕ)). str_to_ascii_lowercase n.now)) c.deref.ensures.value ∙ q)),
      );
    }) c.fill_variable.ensures

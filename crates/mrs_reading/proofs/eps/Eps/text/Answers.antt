use Rattle.std.proofs.Common.{◌∙◌, List, ℕ, Bor, sym, subst, ap, map, refl}
use Rattle.std.specs.Option.{option_map}
use Rattle.std.specs.Str.{str_to_ascii_lowercase}
use Rattle.std.proofs.lemmas.Option.{same_Some}
use Rattle.std.proofs.lemmas.Result.{on_ok_weaker}
use Rattle.mrs_model.specs.Meanings.{Predication}
use Rattle.mrs_model.specs.Views.{predication_of}
use Rattle.mrs_model.specs.Meanings.{of_text}
use Rattle.mrs_reading.specs.Meaning.{plain}
use Rattle.mrs_reading.specs.Inner.Predications.{IsArgumentAdded}
use Rattle.mrs_reading.proofs.eps.Eps.text.Goals as goal

pub returns-in-Some-clause-current : goal.returns-in-Some-clause-current
returns-in-Some-clause-current c =
    on_ok_weaker c.fill_text.result (λ h. record {
      filled = λ ep before r e q. (
        predication_of c.fill_text.new.ep,
        refl,
        subst (λ (z : Predication). IsArgumentAdded r (of_text (plain c.args.text.now)) z (predication_of c.fill_text.new.ep)) (same_Some (predication_of c.in-Some.ep) ep (ap (option_map predication_of) (sym c.in-Some.is) ∙ e))
            (h before r (ap (map (λ (n : Bor (List ℕ)). str_to_ascii_lowercase n.now)) c.deref.ensures.value ∙ q)),
      );
    }) c.fill_text.ensures

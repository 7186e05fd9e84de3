use Rattle.std.proofs.Common.{◌≢◌, ◌∙◌, sym, codes}
use Rattle.std.specs.Str.{str_to_ascii_lowercase}
use Rattle.std.proofs.lemmas.Result.{on_ok_weaker}
use Rattle.std.proofs.lemmas.Bool.{false≢true}
use Rattle.mrs_model.specs.Views.{predication_of}
use Rattle.mrs_reading.specs.Inner.Predications.{label, argument}
use Rattle.mrs_reading.proofs.eps.add_variable.Goals as goal

pub returns-then-eq_ignore_ascii_case : goal.returns-then-eq_ignore_ascii_case
returns-then-eq_ignore_ascii_case c = label (c.eq_ignore_ascii_case.ensures.test.0 c.if-eq_ignore_ascii_case.true)

pub returns : goal.returns
returns c =
    let n : str_to_ascii_lowercase c.args.role.now ≢ codes "lbl" = λ e. false≢true (sym c.if-eq_ignore_ascii_case.false ∙ c.eq_ignore_ascii_case.ensures.test.1 e) in
    on_ok_weaker c.add_role.result (λ a. argument (predication_of c.add_role.new.ep) n a) c.add_role.ensures

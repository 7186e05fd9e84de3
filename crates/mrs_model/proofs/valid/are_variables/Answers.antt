use Rattle.std.proofs.Common.{◌↔◌, IsTrue, rules}
use Rattle.std.specs.List.{All}
use Rattle.mrs_model.specs.Views.{variable_of}
use Rattle.mrs_model.specs.Valid.{IsVariable}
use Rattle.mrs_model.proofs.Rows.{all_rows, rows_all}
use Rattle.mrs_model.proofs.valid.are_variables.Goals as goal

pub returns : goal.returns
returns c =
    let same : IsTrue c.all.result ↔ All (λ x. IsVariable (variable_of x)) c.args.vars.now = search rules in
    (λ t. all_rows variable_of IsVariable _ (same.0 t), λ h. same.1 (rows_all variable_of IsVariable _ h))

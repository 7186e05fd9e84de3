use Rattle.std.proofs.Common.{◌↔◌, IsTrue, rules}
use Rattle.std.specs.List.{All}
use Rattle.mrs_model.specs.Views.{argument_of}
use Rattle.mrs_model.specs.Valid.{IsArgument}
use Rattle.mrs_model.proofs.Rows.{all_rows, rows_all}
use Rattle.mrs_model.proofs.valid.are_arguments.Goals as goal

pub returns : goal.returns
returns c =
    let same : IsTrue c.all.result ↔ All (λ x. (IsArgument c.args.vars) (argument_of x)) c.args.roles.now = search rules in
    (λ t. all_rows argument_of (IsArgument c.args.vars) _ (same.0 t), λ h. same.1 (rows_all argument_of (IsArgument c.args.vars) _ h))

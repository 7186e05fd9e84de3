use Rattle.std.proofs.Common.{◌↔◌, IsTrue, rules}
use Rattle.std.specs.List.{All}
use Rattle.mrs_model.specs.Views.{predication_of}
use Rattle.mrs_model.specs.Valid.{IsPredication}
use Rattle.mrs_model.proofs.Rows.{all_rows, rows_all}
use Rattle.mrs_model.proofs.valid.are_predications.Goals as goal

pub returns : goal.returns
returns c =
    let same : IsTrue c.all.result ↔ All (λ x. (IsPredication c.args.vars) (predication_of x)) c.args.eps.now = search rules in
    (λ t. all_rows predication_of (IsPredication c.args.vars) _ (same.0 t), λ h. same.1 (rows_all predication_of (IsPredication c.args.vars) _ h))

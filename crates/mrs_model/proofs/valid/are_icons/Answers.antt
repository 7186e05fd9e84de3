use Rattle.std.proofs.Common.{◌↔◌, IsTrue, rules}
use Rattle.std.specs.List.{All}
use Rattle.mrs_model.specs.Views.{icon_of}
use Rattle.mrs_model.specs.Valid.{IsConstraint}
use Rattle.mrs_model.proofs.Rows.{all_rows, rows_all}
use Rattle.mrs_model.proofs.valid.are_icons.Goals as goal

pub returns : goal.returns
returns c =
    let same : IsTrue c.all.result ↔ All (λ x. (IsConstraint c.args.vars) (icon_of x)) c.args.icons.now = search rules in
    (λ t. all_rows icon_of (IsConstraint c.args.vars) _ (same.0 t), λ h. same.1 (rows_all icon_of (IsConstraint c.args.vars) _ h))

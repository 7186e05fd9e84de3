use Rattle.std.proofs.Common.{◌↔◌, IsTrue, rules}
use Rattle.std.specs.List.{All}
use Rattle.mrs_model.specs.Views.{property_of}
use Rattle.mrs_model.specs.Valid.{IsProperty}
use Rattle.mrs_model.proofs.Rows.{all_rows, rows_all}
use Rattle.mrs_model.proofs.valid.are_properties.Goals as goal

pub returns : goal.returns
returns c =
    let same : IsTrue c.all.result ↔ All (λ x. IsProperty (property_of x)) c.args.props.now = search rules in
    (λ t. all_rows property_of IsProperty _ (same.0 t), λ h. same.1 (rows_all property_of IsProperty _ h))

use Rattle.std.proofs.Common.{◌∙◌, sym}
use Rattle.std.specs.Prelude.{codes}
use Rattle.std.proofs.lemmas.Slice.Eq.{bytes_eq-Decides}
use Rattle.scope_resolve.proofs.resolving.is_qeq.Goals as goal

pub returns : goal.returns
returns c =
    let d = bytes_eq-Decides c.as_str.result.now (codes "qeq") in
    (λ t. sym c.as_str.ensures.value ∙ d.0 (sym c.eq.ensures ∙ t), λ q. c.eq.ensures ∙ d.1 (c.as_str.ensures.value ∙ q))

use Rattle.std.proofs.Common.{◌∙◌, ◌-◌, sym, ap, take, length}
use Rattle.std.specs.Prelude.{codes, nat_eq}
use Rattle.std.specs.List.{ends_with}
use Rattle.std.specs.String.{string_bytes}
use Rattle.mrs_extract.proofs.Predicates.{normal_step, normal_end}
use Rattle.generate_model.proofs.names.normal.Goals as goal

pub ends-preserved : goal.ends-preserved
ends-preserved c = λ out h. c.ends.invariant out
    (normal_step (string_bytes c.ends.pred) _ out (sym (c.ends_with.ensures.value ∙ ap (λ t. ends_with nat_eq t (codes "_rel")) c.as_bytes.ensures.value) ∙ c.ends-test.true)
    (c.truncate.ensures.bytes ∙ ap (λ n. take (n - 4) (string_bytes c.ends.pred)) (c.len.ensures ∙ sym c.as_bytes.ensures.len ∙ ap length c.as_bytes.ensures.value)) h)

pub returns : goal.returns
returns c = c.ends.invariant _ (normal_end (string_bytes c.ends.pred) (sym (c.ends_with.ensures.value ∙ ap (λ t. ends_with nat_eq t (codes "_rel")) c.as_bytes.ensures.value) ∙ c.ends-test.false))

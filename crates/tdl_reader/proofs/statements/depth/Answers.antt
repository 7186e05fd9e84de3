use Rattle.std.proofs.Common.{◌≡◌, ◌+◌, ◌∙◌, ap, sym, length}
use Rattle.tdl_reader.specs.Machine.{depth}
use Rattle.tdl_reader.specs.Stages.{stage_of}
use Rattle.tdl_reader.specs.States.{stack_of}
use Rattle.tdl_reader.proofs.Stacks.{stack-length}
use Rattle.tdl_reader.proofs.statements.depth.Goals as goal

pub returns-in-InBody : goal.returns-in-InBody
returns-in-InBody c =
    let n : c.len.result ≡ length (stack_of c.in-InBody.frames.items) = c.len.ensures ∙ (c.in-InBody.frames.ok.0 ∙ stack-length c.in-InBody.frames.items) in
    ap (λ x. x + c.point_depth.result) n ∙ (ap (λ x. length (stack_of c.in-InBody.frames.items) + x) c.point_depth.ensures ∙ ap (λ s. depth (stage_of s)) (sym c.in-InBody.is))

use Rattle.std.proofs.Common.{◌∙◌, ◌++◌, ap, sym, refl, map, append_assoc}
use Rattle.std.specs.String.{string_bytes}
use Rattle.tree_reading.specs.Inner.Stops.{IsStop, IsLeafEnd, BeginsLeafEnd, body, ending}
use Rattle.tree_reading.proofs.Lifting.{at_exit, lift_body, lift_ending}
use Rattle.tree_reading.proofs.leaves.read_leaf.Goals as goal

pub returns-in_err-words-clause-stopped : goal.returns-in_err-words-clause-stopped
returns-in_err-words-clause-stopped c =
    let e = c.in_err-words.field-0.0 in
    at_exit (IsStop IsLeafEnd BeginsLeafEnd c.args.text.now) c.from_residual.result e c.from_residual.ensures.1 (lift_body c.args.text.now e c.in_err-words.ensures.stopped)

pub returns-in_err-nodes-clause-stopped : goal.returns-in_err-nodes-clause-stopped
returns-in_err-nodes-clause-stopped c =
    let e = c.in_err-nodes.field-0.0 in
    at_exit (IsStop IsLeafEnd BeginsLeafEnd c.args.text.now) c.from_residual-in_err-nodes.result e c.from_residual-in_err-nodes.ensures.1
    (lift_ending (map string_bytes c.in_ok-words.words.items) c.in_ok-words.rest.now c.args.text.now e c.in_ok-words.ensures.read.0 c.in_ok-words.ensures.read.1 c.in_err-nodes.ensures.stopped)

pub returns-clause-read : goal.returns-clause-read
returns-clause-read c =
    let b = body (map string_bytes c.in_ok-words.words.items) in
    record {
      entry = refl;
      no_rules = c.new.ensures.items;
      words = c.in_ok-words.ensures.read.0;
      nodes = c.in_ok-nodes.ensures.read.0;
      is = c.in_ok-words.ensures.read.1 ∙ ap (λ t. b ++ t) c.in_ok-nodes.ensures.read.1 ∙ sym (append_assoc b (ending c.in_ok-nodes.nodes) c.in_ok-nodes.rest.now);
    }

use Rattle.std.proofs.Common.{◌≡◌, ◌∙◌, ◌+◌, ap, sym, drop, add-one}
use Rattle.std.specs.List.{position_from}
use Rattle.grammar_commands.specs.Expansions.{is_called}
use Rattle.grammar_commands.proofs.InstanceLemmas.{all_of, called, found-here, found-on, found-nowhere}
use Rattle.grammar_commands.proofs.expansion.instance_named.Goals as goal

pub returns-then-is_called : goal.returns-then-is_called
returns-then-is_called c =
    let f = is_called c.args.name.now c.args.status in
    let is = c.args.instances.now in
    let ns = c.args.names.now in
    let asked = ap (λ n. is_called c.args.name.now c.args.status (record { status = c.index-instances-place.result.status; name = n })) (sym c.deref.ensures) ∙ sym c.is_called.ensures ∙ c.if-is_called.true in
    sym (c.loop-place.invariant ∙ found-here f is ns c.loop-place.place c.index-instances-place.result c.index-names-place.result c.requires c.loop-place-test.true (sym c.index-instances-place.is) (sym c.index-names-place.is) asked)

pub loop-place-preserved : goal.loop-place-preserved
loop-place-preserved c =
    let f = is_called c.args.name.now c.args.status in
    let is = c.args.instances.now in
    let ns = c.args.names.now in
    let asked = ap (λ n. is_called c.args.name.now c.args.status (record { status = c.index-instances-place.result.status; name = n })) (sym c.deref.ensures) ∙ sym c.is_called.ensures ∙ c.if-is_called.false in
    c.loop-place.invariant ∙ found-on f is ns c.loop-place.place c.index-instances-place.result c.index-names-place.result c.requires c.loop-place-test.true (sym c.index-instances-place.is) (sym c.index-names-place.is) asked
    ∙ ap (λ k. position_from f (c.loop-place.place + 1) (drop k (all_of is ns))) (sym (add-one c.loop-place.place))

pub returns : goal.returns
returns c =
    let f = is_called c.args.name.now c.args.status in
    sym (c.loop-place.invariant ∙ found-nowhere f c.args.instances.now c.args.names.now c.loop-place.place c.loop-place-test.false)

use Rattle.tree_reading.proofs.Lifting.{moved, cut_number, stop_none, stop_some}
use Rattle.tree_reading.proofs.numbers.read_number.Goals as goal

pub split_at-requires : goal.split_at-requires
split_at-requires c =
    let d = c.digits_of-number in
    cut_number c.as_bytes.result.now c.args.text.now d.result.0 d.result.1 c.utf8.text d.ensures.number c.as_bytes.ensures.value d.ensures.within

pub returns-in-None-clause-stopped : goal.returns-in-None-clause-stopped
returns-in-None-clause-stopped c =
    let d = c.digits_of-number in
    stop_none c.args.text.now c.split_at.result.1.now d.result.0 c.args.end c.in-None.is
    (moved c.as_bytes.result.now c.args.text.now c.split_at.result.1.now d.result.0 d.result.1 d.ensures.number c.as_bytes.ensures.value c.split_at.ensures.back)

pub returns-in-None-strip-clause-stopped : goal.returns-in-None-strip-clause-stopped
returns-in-None-strip-clause-stopped c =
    let d = c.digits_of-number in
    stop_some c.args.text.now c.split_at.result.1.now d.result.0 c.in-Some.number c.args.end c.in-Some.is c.requires c.in-None-strip.ensures
    (moved c.as_bytes.result.now c.args.text.now c.split_at.result.1.now d.result.0 d.result.1 d.ensures.number c.as_bytes.ensures.value c.split_at.ensures.back)

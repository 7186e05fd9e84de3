use Rattle.std.proofs.Common.{◌≡◌, ◌∙◌, length, sym, subst, ap, arith, take}
use Rattle.std.proofs.lemmas.List.{length-take-le}
use Rattle.std.specs.Str.{IsValidUpTo}
use Rattle.mrs_reading.proofs.Faulting.{whole_fault, front_fault}
use Rattle.mrs_reading.proofs.lines.read.Goals as goal

pub returns-in-Ok-clause-fault : goal.returns-in-Ok-clause-fault
returns-in-Ok-clause-fault c = whole_fault c.args.line.now c.in-Ok.text.now c.read_text.result c.in-Ok.ensures.cases.0 c.in-Ok.ensures.cases.1 c.read_text.ensures.fault

pub returns-in-Ok-from_utf8-clause-fault : goal.returns-in-Ok-from_utf8-clause-fault
returns-in-Ok-from_utf8-clause-fault c =
    let n = c.valid_up_to-at.result in
    let v : IsValidUpTo c.args.line.now n = subst (IsValidUpTo c.args.line.now) (sym c.valid_up_to-at.ensures) c.in-Err.ensures.cases.1 in
    let s = v.short in
    let e : length (take n c.args.line.now) ≡ n = length-take-le n c.args.line.now (omega (arith, s)) in
    front_fault c.args.line.now c.in-Ok-from_utf8.front.now n c.fault_of.result c.in-Ok-from_utf8.ensures.cases.0 c.in-Err.ensures.cases.0 v (ap length c.in-Ok-from_utf8.ensures.cases.0 ∙ e) c.fault_of.ensures

use Rattle.std.proofs.Common.{◌≡◌, ◌<◌, ◌≤◌, subst, length, get_or, Some, None}
use Rattle.mrs_extract.specs.Inner.Made.{with_digit}
use Rattle.mrs_extract.proofs.Predicates.{no_number, longer, digits_more, number_more, is_number, filled_of}
use Rattle.mrs_extract.proofs.predications.number_of.Goals as goal

pub returns-in_default : goal.returns-in_default
returns-in_default c =
    let same = c.as_bytes-byte-items.ensures.value in
    let inside = subst (λ l. c.loop-byte.byte-index < length l) same c.loop-byte-test.true in
    let none = subst (λ l. None ≡ with_digit c.loop-byte.number (get_or l c.loop-byte.byte-index 0)) same c.in_default.ensures in
    no_number c.args.text.now c.loop-byte.byte-index 0 c.loop-byte.number inside c.loop-byte.invariant.is none

pub loop-byte-preserved : goal.loop-byte-preserved
loop-byte-preserved c =
    let same = c.as_bytes-byte-items.ensures.value in
    let inside = subst (λ l. c.loop-byte.byte-index < length l) same c.loop-byte-test.true in
    let more = longer c.loop-byte.number (get_or c.args.text.now c.loop-byte.byte-index 0) c.in-Some.longer
    (subst (λ l. Some c.in-Some.longer ≡ with_digit c.loop-byte.number (get_or l c.loop-byte.byte-index 0)) same c.in-Some.ensures) in
    record {
      digits = digits_more c.args.text.now c.loop-byte.byte-index 0 inside c.loop-byte.invariant.digits more.digit;
      is = number_more c.args.text.now c.loop-byte.byte-index 0 c.loop-byte.number c.in-Some.longer inside c.loop-byte.invariant.is more.is;
      small = more.small;
    }

pub returns : goal.returns
returns c =
    let past = subst (λ l. length l ≤ c.loop-byte.byte-index) c.as_bytes-byte-items.ensures.value c.loop-byte-test.false in
    is_number c.args.text.now c.loop-byte.byte-index c.loop-byte.number past (filled_of c.args.text.now c.if-is_empty.ensures) c.loop-byte.invariant.small c.loop-byte.invariant.digits c.loop-byte.invariant.is

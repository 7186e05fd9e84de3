use Rattle.std.proofs.Common.{◌≡◌, ◌<◌, ◌+◌, ◌-◌, ◌*◌, ◌∙◌, sym, slice_index_or, length, arith, rules}
use Rattle.std.proofs.lemmas.Grind.{common_steps}
use Rattle.mrs_reading.proofs.Numbers.{no_digit, too_great, product_great, sum_great, number_more, digits_more, whole_number}
use Rattle.mrs_reading.proofs.texts.number.Goals as goal

pub returns-then-not-is_ascii_digit-clause-none : goal.returns-then-not-is_ascii_digit-clause-none
returns-then-not-is_ascii_digit-clause-none c = λ n h.
    no_digit c.as_bytes-byte-items.result.now c.args.text.now c.loop-byte.byte-index 0 n c.as_bytes-byte-items.ensures.value c.loop-byte-test.true (sym c.is_ascii_digit.ensures.value ∙ c.if-not-is_ascii_digit.true) h

pub returns-in_err-checked_mul-clause-none : goal.returns-in_err-checked_mul-clause-none
returns-in_err-checked_mul-clause-none c =
    let bs = c.as_bytes-byte-items.result.now in
    let i = c.loop-byte.byte-index in
    rw c.from_residual.ensures (λ n h. too_great bs c.args.text.now i 0 c.loop-byte.number n c.as_bytes-byte-items.ensures.value c.loop-byte-test.true c.loop-byte.invariant.0
    (product_great c.loop-byte.number (slice_index_or bs i 0 - 48) c.in_err-checked_mul.ensures) h)

pub returns-in_err-number-clause-none : goal.returns-in_err-number-clause-none
returns-in_err-number-clause-none c =
    let bs = c.as_bytes-byte-items.result.now in
    let i = c.loop-byte.byte-index in
    rw c.from_residual-in_err-number.ensures (λ n h. too_great bs c.args.text.now i 0 c.loop-byte.number n c.as_bytes-byte-items.ensures.value c.loop-byte-test.true c.loop-byte.invariant.0
    (sum_great c.loop-byte.number c.in_ok-checked_mul.field-0 (slice_index_or bs i 0 - 48) c.from.result (search rules) (search rules) c.in_err-number.ensures) h)

pub loop-byte-preserved : goal.loop-byte-preserved
loop-byte-preserved c =
    let bs = c.as_bytes-byte-items.result.now in
    let i = c.loop-byte.byte-index in
    let p : c.in_ok-checked_mul.field-0 ≡ c.loop-byte.number * 10 = search rules in
    let q : c.from.result ≡ slice_index_or bs i 0 - 48 = search rules in
    let s : c.in_ok-number.number ≡ c.in_ok-checked_mul.field-0 + c.from.result = search rules in (
      number_more bs i 0 c.loop-byte.number c.in_ok-number.number c.loop-byte-test.true c.loop-byte.invariant.0 (omega (arith, p, q, s)),
      digits_more bs i 0 c.loop-byte-test.true (sym c.is_ascii_digit.ensures.value ∙ c.if-not-is_ascii_digit.false) c.loop-byte.invariant.1,
      search rules,
    )

pub returns-clause-some : goal.returns-clause-some
returns-clause-some c =
    let f : 0 < length c.args.text.now = grind (arith, common_steps) in
    whole_number c.as_bytes-byte-items.result.now c.args.text.now c.loop-byte.byte-index c.loop-byte.number c.as_bytes-byte-items.ensures.value f c.loop-byte-test.false c.loop-byte.invariant.0 c.loop-byte.invariant.1 c.loop-byte.invariant.2

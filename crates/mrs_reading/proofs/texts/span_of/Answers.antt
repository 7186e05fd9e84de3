use Rattle.std.proofs.Common.{lit<}
use Rattle.std.proofs.lemmas.Str.Pattern.{split_once_first}
use Rattle.mrs_reading.proofs.Numbers.{no_colon, no_first, no_second, cut_none, cut_some}
use Rattle.mrs_reading.proofs.texts.span_of.Goals as goal

pub returns-in_err-from-clause-none : goal.returns-in_err-from-clause-none
returns-in_err-from-clause-none c =
    let t = c.args.text.now in
    let w = split_once_first 58 t c.split_once.result c.split_once.ensures.cases (lit< tt) in
    rw c.from_residual.ensures (λ e s. no_colon t (cut_none t c.split_once.result w c.in_err-from.was) e s)

pub returns-in_err-number-clause-none : goal.returns-in_err-number-clause-none
returns-in_err-number-clause-none c =
    let t = c.args.text.now in
    let w = split_once_first 58 t c.split_once.result c.split_once.ensures.cases (lit< tt) in
    let h = cut_some t c.split_once.result (c.in_ok-from.from, c.in_ok-from.to) w c.in_ok-from.was in
    rw c.from_residual-in_err-number.ensures (λ e s. no_first t c.in_ok-from.from.now c.in_ok-from.to.now h c.in_err-number.ensures.none e s)

pub returns-in_err-number-2-clause-none : goal.returns-in_err-number-2-clause-none
returns-in_err-number-2-clause-none c =
    let t = c.args.text.now in
    let w = split_once_first 58 t c.split_once.result c.split_once.ensures.cases (lit< tt) in
    let h = cut_some t c.split_once.result (c.in_ok-from.from, c.in_ok-from.to) w c.in_ok-from.was in
    rw c.from_residual-in_err-number-2.ensures (λ e s. no_second t c.in_ok-from.from.now c.in_ok-from.to.now h c.in_err-number-2.ensures.none e s)

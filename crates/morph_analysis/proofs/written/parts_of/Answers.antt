use Rattle.std.proofs.Common.{arith, ◌≡◌, ◌∙◌, ◌<◌, ◌≤◌, length, refl, sym, ap}
use Rattle.morph_analysis.proofs.Lists.{empty_list}
use Rattle.morph_analysis.proofs.LineLemmas.{one_number, has_colon, rest_colon, parts_are}
use Rattle.morph_analysis.proofs.written.parts_of.Goals as goal

pub returns-in_default : goal.returns-in_default
returns-in_default c = λ from to word p. c.in_default.ensures (has_colon c.args.item.now from to word p)

pub returns-in_default-at_colon : goal.returns-in_default-at_colon
returns-in_default-at_colon c = λ from to word p. c.in_default-at_colon.ensures (rest_colon c.args.item.now c.in-Some.first.now c.in-Some.rest.now from to word c.in-Some.ensures p)

pub returns-in_default-number : goal.returns-in_default-number
returns-in_default-number c = λ from to word p.
    c.in_default-number.ensures from (parts_are c.args.item.now c.in-Some.first.now c.in-Some.rest.now c.in-Some-at_colon.second.now c.in-Some-at_colon.word.now from to word c.in-Some.ensures c.in-Some-at_colon.ensures p).0

pub returns-in_default-number-2 : goal.returns-in_default-number-2
returns-in_default-number-2 c = λ from to word p.
    c.in_default-number-2.ensures to (parts_are c.args.item.now c.in-Some.first.now c.in-Some.rest.now c.in-Some-at_colon.second.now c.in-Some-at_colon.word.now from to word c.in-Some.ensures c.in-Some-at_colon.ensures p).1

pub returns-then-from-to : goal.returns-then-from-to
returns-then-from-to c = λ from to word p.
    let are = parts_are c.args.item.now c.in-Some.first.now c.in-Some.rest.now c.in-Some-at_colon.second.now c.in-Some-at_colon.word.now from to word c.in-Some.ensures c.in-Some-at_colon.ensures p in
    let one : from ≡ c.in-Some-number.from = one_number c.in-Some.first.now from c.in-Some-number.from are.0 c.in-Some-number.ensures in
    let two : to ≡ c.in-Some-number-2.to = one_number c.in-Some-at_colon.second.now to c.in-Some-number-2.to are.1 c.in-Some-number-2.ensures in
    let back : c.in-Some-number-2.to ≤ c.in-Some-number.from = c.if-from-to.true in
    let goes : from < to = p.forward in
    absurd (omega (arith, one, two, back, goes))

pub returns-then-is_empty : goal.returns-then-is_empty
returns-then-is_empty c = λ from to word p.
    let l = c.in-Some-at_colon.word.now in
    let are = parts_are c.args.item.now c.in-Some.first.now c.in-Some.rest.now c.in-Some-at_colon.second.now l from to word c.in-Some.ensures c.in-Some-at_colon.ensures p in
    let none : length word ≡ 0 = ap (λ k. length k) (are.2 ∙ empty_list l (length l) refl (sym c.is_empty.ensures ∙ c.if-is_empty.true)) in
    let some : 0 < length word = p.some in
    absurd (omega (arith, none, some))

use Rattle.std.proofs.Common.{◌≡◌, ◌+◌, ◌*◌, ◌/◌, true, refl, subst, inl, inr, arith}
use Rattle.std.proofs.lemmas.Bool.{cases_lt}
use Rattle.type_hierarchy.specs.Bits.{has_bit}
use Rattle.type_hierarchy.proofs.BitLemmas.{next_in_word, none_in_word}
use Rattle.type_hierarchy.proofs.bits.next.Goals as goal

pub returns-then-left-ne0-clause-none_before : goal.returns-then-left-ne0-clause-none_before
returns-then-left-ne0-clause-none_before c = λ x low high.
    let n = next_in_word c.args.words.now c.loop-at.at _ (c.type_inv.words (c.loop-at.at / 64)).fits refl c.if-left-ne0.true in
    let s = c.saturating_add.ensures in
    let m = c.min.ensures in
    elim (cases_lt x c.loop-at.at) [
      | inl before ↦ c.loop-at.invariant.none_before x low before
      | inr after ↦ n.none_before x after (omega arith)
    ]

pub returns-then-left-ne0-clause-member : goal.returns-then-left-ne0-clause-member
returns-then-left-ne0-clause-member c = λ less.
    let n = next_in_word c.args.words.now c.loop-at.at _ (c.type_inv.words (c.loop-at.at / 64)).fits refl c.if-left-ne0.true in
    let s = c.saturating_add.ensures in
    let m = c.min.ensures in
    subst (λ x. has_bit c.args.words.now x ≡ true) (omega (arith, n.within, c.ranges.count.fits)) n.member

pub loop-at-preserved : goal.loop-at-preserved
loop-at-preserved c =
    let p = c.past_empty-at.ensures in
    let l = p.low (c.loop-at.at + 1) (omega arith) (omega arith) in
    record {
      low = omega (arith, c.loop-at.invariant.low, l);
      high = p.high;
      none_before = λ x low high. elim (cases_lt x c.loop-at.at) [
        | inl before ↦ c.loop-at.invariant.none_before x low before
        | inr after ↦ elim (cases_lt x (64 * (c.loop-at.at / 64 + 1))) [
          | inl here ↦ none_in_word c.args.words.now c.loop-at.at _ refl c.if-left-ne0.false x after (omega arith)
          | inr past ↦ p.none_before x (omega arith) high
        ]
      ];
    }

pub loop-at-smaller : goal.loop-at-smaller
loop-at-smaller c =
    let l = c.past_empty-at.ensures.low (c.loop-at.at + 1) (omega arith) (omega arith) in
    omega (arith, l)

use Rattle.std.proofs.Common.{◌≡◌, ◌-◌, false, true, get_or, drop, if◌then◌else◌, sym, ap, ◌∙◌, arith}
use Rattle.fault_places.specs.Places.{is_end, line_begin}
use Rattle.fault_places.proofs.LineLemmas.{begin-here, begin-after}
use Rattle.fault_places.proofs.line_begin.Goals as goal
use Rattle.fault_places.proofs.line_begin.Goals.{then-text-i-eq10, else-text-i-eq10}

pub returns-then-left-le1 : goal.returns-then-left-le1
returns-then-left-le1 c =
    let here : line_begin (drop c.loop-i.i c.args.text.now) c.loop-i.left ≡ 0 = begin-here (drop c.loop-i.i c.args.text.now) c.loop-i.left c.if-left-le1.true in
    omega (arith, c.loop-i.invariant, here)

pub loop-i-preserved : goal.loop-i-preserved
loop-i-preserved c =
    let text = c.args.text.now in
    let i = c.loop-i.i in
    let left = c.loop-i.left in
    elim c.if-text-i-eq10.branch [
      | then-text-i-eq10 w ↦
          let yes : is_end (get_or text i 0) ≡ true = grind (arith, w.if-text-i-eq10.true) in
          begin-after text i c.args.line left _ c.loop-i-test.true (omega (arith, c.if-left-le1.false)) c.loop-i.invariant
          (w.left-is ∙ sym (ap (λ b. if b then left - 1 else left) yes))
      | else-text-i-eq10 w ↦
          let no : is_end (get_or text i 0) ≡ false = grind (arith, w.if-text-i-eq10.false) in
          begin-after text i c.args.line left _ c.loop-i-test.true (omega (arith, c.if-left-le1.false)) c.loop-i.invariant
          (w.left-is ∙ sym (ap (λ b. if b then left - 1 else left) no))
    ]

use Rattle.std.proofs.Common.{◌≡◌, ℕ, ◌<◌, List, [], length, drop, drop-cons, None, sym, ◌∙◌, refl}
use Rattle.tdl_lexer.specs.Scan.{after_front}
use Rattle.tdl_lexer.proofs.scan.after_front.Goals as goal

-- nothing is left for the rest of the mark
nothing_left : (ms cs : List ℕ) (i : ℕ) → i < length ms → cs ≡ [] → after_front (drop i ms) cs ≡ None
nothing_left ms cs i h e = rw (drop-cons ms i 0, e) refl

pub returns-in_default : goal.returns-in_default
returns-in_default c = let e = c.in_default.ensures.parts in sym (sym c.loop-m.invariant.same ∙ nothing_left c.args.mark.now _ c.loop-m.m-index c.loop-m-test.true e)

use Rattle.std.proofs.Common.{◌≡◌, ℕ, ◌<◌, List, [], length, drop, drop-cons, None, sym, ◌∙◌, refl}
use Rattle.tdl_reader.specs.GroupScan.{after_word}
use Rattle.tdl_reader.proofs.groups.after_word.Goals as goal

-- nothing is left for the rest of the mark
nothing_left : (ms cs : List ℕ) (i : ℕ) → i < length ms → cs ≡ [] → after_word (drop i ms) cs ≡ None
nothing_left ms cs i h e = rw (drop-cons ms i 0, e) refl

pub returns-in_default : goal.returns-in_default
returns-in_default c = let e = c.in_default.ensures.parts in sym (sym c.loop-w.invariant.same ∙ nothing_left c.args.word.now _ c.loop-w.w-index c.loop-w-test.true e)

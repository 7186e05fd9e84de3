use Rattle.std.proofs.Common.{◌≡◌, ◌++◌, length, take, drop, append-nil, ◌∙◌, ap, arith}
use Rattle.std.proofs.lemmas.List.{take_all, drop_all}
use Rattle.fs_drawing.proofs.NoteLemmas.{none_over, below_cleared}
use Rattle.fs_drawing.proofs.notes.Notes.clear.Goals as goal

pub invariant_of-self : goal.invariant_of-self
invariant_of-self c =
    let items = c.self.inside.written.items in
    let new = c.next_floor-self-inside.new.written in
    let same : length new ≡ length items = c.next_floor-self-inside.ensures.size ∙ ap length c.deref_mut.ensures.value in
    let back : take c.self.inside.written.len (new ++ drop (length new) items) ≡ new =
    ap (λ r. take c.self.inside.written.len (new ++ r)) (drop_all (length new) items (omega (arith, same)))
    ∙ ap (take c.self.inside.written.len) (append-nil new) ∙ take_all c.self.inside.written.len new (omega (arith, same, c.self.inside.written.ok)) in
    rw back (below_cleared c.next_floor-self-inside.result new c.next_floor-self-inside.ensures.below)

pub returns-clause-none : goal.returns-clause-none
returns-clause-none c =
    let items = c.self.inside.written.items in
    let new = c.next_floor-self-inside.new.written in
    let same : length new ≡ length items = c.next_floor-self-inside.ensures.size ∙ ap length c.deref_mut.ensures.value in
    let back : take c.self.inside.written.len (new ++ drop (length new) items) ≡ new =
    ap (λ r. take c.self.inside.written.len (new ++ r)) (drop_all (length new) items (omega (arith, same)))
    ∙ ap (take c.self.inside.written.len) (append-nil new) ∙ take_all c.self.inside.written.len new (omega (arith, same, c.self.inside.written.ok)) in
    rw back (none_over c.next_floor-self-inside.result new c.next_floor-self-inside.ensures.below)

use Rattle.std.proofs.Common.{◌≡◌, ◌++◌, length, take, drop, append-nil, ◌∙◌, ap, arith}
use Rattle.std.proofs.lemmas.List.{take_all, drop_all}
use Rattle.fs_closing.proofs.GenerationLemmas.{none_written, past_turned}
use Rattle.fs_closing.proofs.marks.Marks.clear.Goals as goal

pub invariant_of-self : goal.invariant_of-self
invariant_of-self c =
    let items = c.self.inside.marks.items in
    let new = c.next_generation-self-inside.new.marks in
    let same : length new ≡ length items = c.next_generation-self-inside.ensures.size ∙ ap length c.deref_mut.ensures.value in
    let back : take c.self.inside.marks.len (new ++ drop (length new) items) ≡ new =
    ap (λ r. take c.self.inside.marks.len (new ++ r)) (drop_all (length new) items (omega (arith, same)))
    ∙ ap (take c.self.inside.marks.len) (append-nil new) ∙ take_all c.self.inside.marks.len new (omega (arith, same, c.self.inside.marks.ok)) in
    rw back (past_turned c.next_generation-self-inside.result new c.next_generation-self-inside.ensures.before)

pub returns-clause-none : goal.returns-clause-none
returns-clause-none c =
    let items = c.self.inside.marks.items in
    let new = c.next_generation-self-inside.new.marks in
    let same : length new ≡ length items = c.next_generation-self-inside.ensures.size ∙ ap length c.deref_mut.ensures.value in
    let back : take c.self.inside.marks.len (new ++ drop (length new) items) ≡ new =
    ap (λ r. take c.self.inside.marks.len (new ++ r)) (drop_all (length new) items (omega (arith, same)))
    ∙ ap (take c.self.inside.marks.len) (append-nil new) ∙ take_all c.self.inside.marks.len new (omega (arith, same, c.self.inside.marks.ok)) in
    rw back (none_written c.next_generation-self-inside.result new c.next_generation-self-inside.ensures.before)

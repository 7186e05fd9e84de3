use Rattle.std.proofs.Common.{rules, ℕ, ◌≡◌, Some, sym, ◌∙◌, ap, arith}
use Rattle.fs_closing.specs.declared.index.Index.{Index}
use Rattle.fs_closing.specs.Inner.Indexes.{arc_in, part_in}
use Rattle.fs_closing.proofs.IndexLemmas.{parts_grown, arcs_inserted, parts_inserted}
use Rattle.fs_closing.proofs.index.enter.Goals as goal

pub returns : goal.returns
returns c = λ cells place are.
    let index = c.args.index.now in
    let after : Index = record { arcs = c.insert.new.self; parts = c.insert-2.new.self } in
    let cell = c.args.cell in
    let n = c.args.n in
    let p = c.in-Some.part in
    let had : part_in c.args.index.now c.args.n ≡ Some c.in-Some.part = search rules in
    let next : c.in-Some.part.first ≡ c.args.cell.next = omega (arith, c.if-part-cell.false) in
    let arcs = arcs_inserted (arc_in index) (arc_in after) n cell.feat cell.to (λ k g. c.in_ok-insert.ensures.updates.0 (k, g)) in
    let parts = parts_inserted (part_in index) (part_in after) n (record { first = c.args.place; rest = p.rest }) (λ k. c.in_ok-insert-2.ensures.updates.0 k) in
    let longer : (k : ℕ) → k ≡ c.args.place → part_in after c.args.n ≡ Some (record { first = k; rest = c.in-Some.part.rest }) = λ k e. parts.0 ∙ ap (λ i. Some (record { first = i; rest = c.in-Some.part.rest })) (sym e) in
    parts_grown cells (arc_in index) (arc_in after) (part_in index) (part_in after) n cell p are had next arcs.0 arcs.1 arcs.2
    (longer _ (sym place)) parts.1

use Rattle.std.proofs.Common.{ℕ, ◌≡◌, ◌<◌, ◌+◌, ◌++◌, ◌∷◌, [], ◌^◌, length, refl, sym, ◌∙◌, ap, subst, arith}
use Rattle.fs_closing.specs.declared.parts.Based.{Based}
use Rattle.fs_closing.specs.Marked.{written_at, type_by, depth_by}
use Rattle.fs_closing.specs.Beside.{row_in, type_in, depth_in, ArePlaced}
use Rattle.fs_closing.specs.NodeSteps.{EntersTable}
use Rattle.fs_closing.specs.NodeTable.{at_of, table_of, table_from, AreWhole, AreWithin}
use Rattle.fs_closing.proofs.EnterTable.{table_entered, whole_entered, within_entered, placed_entered, depth_old, depth_root, depth_inner, depth_past}
use Rattle.fs_closing.proofs.nodes.add_graph.Goals as goal

pub returns-clause-enters : goal.returns-clause-enters
returns-clause-enters c =
    let nodes = c.args.nodes.now in
    let p : Based = record { graph = c.args.graph; base = nodes.size; depth = c.args.depth; further = c.args.further } in
    let old = nodes.parts in
    let size : nodes.size + c.nodes-count.result ≡ nodes.size + length c.args.graph.now.types = omega (arith, c.nodes-count.ensures.count) in
    let room : nodes.size + length c.args.graph.now.types < 2 ^ 32 = omega (arith, c.nodes-count.ensures.count, c.if-count-base.false, c.requires.whole.stands.small) in
    subst (λ l. EntersTable c.args.graph.now (table_of nodes) (table_from (written_at c.widen.new.self) (type_in l) (row_in l) nodes.cells nodes.merges (nodes.size + c.nodes-count.result)))
    (sym c.in_ok-add.ensures)
    (subst (λ k. EntersTable c.args.graph.now (table_of nodes) (table_from (written_at c.widen.new.self) (type_in (old ++ p ∷ [])) (row_in (old ++ p ∷ [])) nodes.cells nodes.merges k)) (sym size)
    (table_entered (at_of nodes) (written_at c.widen.new.self) nodes.cells nodes.merges nodes.size old p c.nodes-count.ensures.graph c.requires.whole.placed
    c.requires.whole.stands refl c.in_ok-widen.ensures.kept room))

pub returns-clause-whole : goal.returns-clause-whole
returns-clause-whole c =
    let nodes = c.args.nodes.now in
    let p : Based = record { graph = c.args.graph; base = nodes.size; depth = c.args.depth; further = c.args.further } in
    let old = nodes.parts in
    let size : nodes.size + c.nodes-count.result ≡ nodes.size + length c.args.graph.now.types = omega (arith, c.nodes-count.ensures.count) in
    let room : nodes.size + length c.args.graph.now.types < 2 ^ 32 = omega (arith, c.nodes-count.ensures.count, c.if-count-base.false, c.requires.whole.stands.small) in
    record {
      stands = subst (λ l. AreWhole (written_at c.widen.new.self) (row_in l) nodes.cells nodes.merges (nodes.size + c.nodes-count.result)) (sym c.in_ok-add.ensures)
          (subst (λ k. AreWhole (written_at c.widen.new.self) (row_in (old ++ p ∷ [])) nodes.cells nodes.merges k) (sym size)
          (whole_entered (at_of nodes) (written_at c.widen.new.self) nodes.cells nodes.merges nodes.size old p c.nodes-count.ensures.graph c.requires.whole.placed
          c.requires.whole.stands refl c.in_ok-widen.ensures.kept room));
      enough = omega (arith, c.in_ok-widen.ensures.room);
      placed = subst (λ l. ArePlaced l (nodes.size + c.nodes-count.result)) (sym c.in_ok-add.ensures)
          (subst (λ k. ArePlaced (old ++ p ∷ []) k) (sym size)
          (placed_entered (at_of nodes) (written_at c.widen.new.self) nodes.cells nodes.merges nodes.size old p c.nodes-count.ensures.graph c.requires.whole.placed
          c.requires.whole.stands refl c.in_ok-widen.ensures.kept room));
    }

pub returns-clause-within : goal.returns-clause-within
returns-clause-within c = λ a b inside before.
    let nodes = c.args.nodes.now in
    let p : Based = record { graph = c.args.graph; base = nodes.size; depth = c.args.depth; further = c.args.further } in
    let old = nodes.parts in
    let size : nodes.size + c.nodes-count.result ≡ nodes.size + length c.args.graph.now.types = omega (arith, c.nodes-count.ensures.count) in
    let room : nodes.size + length c.args.graph.now.types < 2 ^ 32 = omega (arith, c.nodes-count.ensures.count, c.if-count-base.false, c.requires.whole.stands.small) in
    subst (λ l. AreWithin a b (λ k. type_by (type_in l k) (written_at c.widen.new.self k)) (row_in l) nodes.cells (nodes.size + c.nodes-count.result)) (sym c.in_ok-add.ensures)
    (subst (λ k. AreWithin a b (λ m. type_by (type_in (old ++ p ∷ []) m) (written_at c.widen.new.self m)) (row_in (old ++ p ∷ [])) nodes.cells k) (sym size)
    (within_entered (at_of nodes) (written_at c.widen.new.self) nodes.cells nodes.merges nodes.size old p c.nodes-count.ensures.graph c.requires.whole.placed
    c.requires.whole.stands refl c.in_ok-widen.ensures.kept room a b inside before))

pub returns-clause-depths : goal.returns-clause-depths
returns-clause-depths c =
    let nodes = c.args.nodes.now in
    let p : Based = record { graph = c.args.graph; base = nodes.size; depth = c.args.depth; further = c.args.further } in
    let old = nodes.parts in
    let room : nodes.size + length c.args.graph.now.types < 2 ^ 32 = omega (arith, c.nodes-count.ensures.count, c.if-count-base.false, c.requires.whole.stands.small) in
    let at = λ (k : ℕ). ap (λ l. depth_by (depth_in l k) (written_at c.widen.new.self k)) c.in_ok-add.ensures in
    record {
      others = λ k h. at k ∙ depth_old (at_of nodes) (written_at c.widen.new.self) nodes.cells nodes.merges nodes.size old p c.nodes-count.ensures.graph c.requires.whole.placed
          c.requires.whole.stands refl c.in_ok-widen.ensures.kept room k h;
      root = λ h. at nodes.size ∙ depth_root (at_of nodes) (written_at c.widen.new.self) nodes.cells nodes.merges nodes.size old p c.nodes-count.ensures.graph
          c.requires.whole.placed c.requires.whole.stands refl c.in_ok-widen.ensures.kept room h;
      inner = λ k pos h. at (nodes.size + k) ∙ depth_inner (at_of nodes) (written_at c.widen.new.self) nodes.cells nodes.merges nodes.size old p
          c.nodes-count.ensures.graph c.requires.whole.placed c.requires.whole.stands refl c.in_ok-widen.ensures.kept room k pos h;
      past = λ k h. at k ∙ depth_past (at_of nodes) (written_at c.widen.new.self) nodes.cells nodes.merges nodes.size old p c.nodes-count.ensures.graph
          c.requires.whole.placed c.requires.whole.stands refl c.in_ok-widen.ensures.kept room k h;
    }

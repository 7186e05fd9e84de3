use Rattle.std.proofs.Common.{refl, ap, arith}
use Rattle.fs_closing.specs.Marked.{written_at, depth_by}
use Rattle.fs_closing.specs.NodeTable.{at_of, own_type, own_depth, own_row}
use Rattle.fs_closing.proofs.MarkLemmas.{read_same, live_retyped, table_retyped, whole_retyped, within_retyped}
use Rattle.fs_closing.proofs.nodes.set_type.Goals as goal

pub returns-clause-retypes : goal.returns-clause-retypes
returns-clause-retypes c =
    let nodes = c.args.nodes.now in
    let stood = c.stands-old.ensures in
    table_retyped (at_of nodes) (written_at c.write.new.self) (own_type nodes) (own_row nodes) nodes.cells nodes.merges nodes.size c.requires.whole.stands
    c.args.n _ c.requires.node c.write.ensures.here c.write.ensures.others (ap (λ w. w.forward) stood) (ap (λ w. w.first) stood)

pub returns-clause-whole : goal.returns-clause-whole
returns-clause-whole c =
    let nodes = c.args.nodes.now in
    let stood = c.stands-old.ensures in
    record {
      stands = whole_retyped (at_of nodes) (written_at c.write.new.self) (own_type nodes) (own_row nodes) nodes.cells nodes.merges nodes.size c.requires.whole.stands
          c.args.n _ c.requires.node c.write.ensures.here c.write.ensures.others (ap (λ w. w.forward) stood) (ap (λ w. w.first) stood);
      enough = omega (arith, c.requires.whole.enough, c.write.ensures.size);
      placed = c.requires.whole.placed;
    }

pub returns-clause-within : goal.returns-clause-within
returns-clause-within c = λ types feats low old.
    let nodes = c.args.nodes.now in
    let stood = c.stands-old.ensures in
    within_retyped (at_of nodes) (written_at c.write.new.self) (own_type nodes) (own_row nodes) nodes.cells nodes.merges nodes.size c.requires.whole.stands
    c.args.n _ c.requires.node c.write.ensures.here c.write.ensures.others (ap (λ w. w.forward) stood) (ap (λ w. w.first) stood) types feats low old

pub returns-clause-keeps : goal.returns-clause-keeps
returns-clause-keeps c =
    let nodes = c.args.nodes.now in
    let stood = c.stands-old.ensures in
    record {
      arcs = record {
        size = refl;
        live = live_retyped (at_of nodes) (written_at c.write.new.self) (own_type nodes) (own_row nodes) nodes.cells nodes.merges nodes.size c.requires.whole.stands
            c.args.n _ c.requires.node c.write.ensures.here c.write.ensures.others (ap (λ w. w.forward) stood) (ap (λ w. w.first) stood);
        own = λ k. refl;
        more = omega arith;
        chains = λ place h. refl;
      };
      depths = read_same (at_of nodes) (written_at c.write.new.self) c.args.n _ c.write.ensures.here c.write.ensures.others (λ k. depth_by (own_depth nodes k))
          (ap (λ w. w.depth) stood);
    }

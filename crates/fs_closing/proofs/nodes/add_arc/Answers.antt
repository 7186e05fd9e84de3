use Rattle.std.proofs.Common.{◌≡◌, ◌<◌, ◌+◌, ◌^◌, ◌∷◌, [], length, refl, sym, ap, subst, arith}
use Rattle.std.proofs.lemmas.List.{length-append}
use Rattle.fs_closing.specs.declared.cells.Cell.{Cell}
use Rattle.fs_closing.specs.Marked.{written_at, type_by, depth_by}
use Rattle.fs_closing.specs.NodeTable.{at_of, own_type, own_depth, own_row, AreWhole, AreWithin}
use Rattle.fs_closing.proofs.ChainLemmas.{chain-push_old}
use Rattle.fs_closing.proofs.MarkLemmas.{read_same, live_linked, table_linked, whole_linked, within_linked}
use Rattle.fs_closing.proofs.nodes.add_arc.Goals as goal

pub returns-clause-links : goal.returns-clause-links
returns-clause-links c =
    let nodes = c.args.nodes.now in
    let stood = c.stands-old.ensures in
    let place : c.len-place.result + 1 ≡ length c.args.nodes.now.cells + 1 = omega (arith, c.len-place.ensures) in
    rw c.in_ok-push.ensures
    (table_linked (at_of nodes) (written_at c.write.new.self) (own_type nodes) (own_row nodes) nodes.cells nodes.merges nodes.size c.requires.whole.stands
    c.args.n c.args.feat c.args.to c.stands-old.result.first _ c.requires.node c.requires.to c.write.ensures.here c.write.ensures.others
    (ap (λ w. w.first) stood) (ap (λ w. w.forward) stood) (ap (λ w. w.ty) stood) place c.requires.no_arc)

pub returns-clause-whole : goal.returns-clause-whole
returns-clause-whole c =
    let nodes = c.args.nodes.now in
    let stood = c.stands-old.ensures in
    let place : c.len-place.result + 1 ≡ length c.args.nodes.now.cells + 1 = omega (arith, c.len-place.ensures) in
    let room : length c.args.nodes.now.cells + 1 < 2 ^ 32 = omega (arith, c.len-place.ensures, c.if-place.false) in
    record {
      stands = subst (λ l. AreWhole (written_at c.write.new.self) (own_row nodes) l nodes.merges nodes.size) (sym c.in_ok-push.ensures)
          (whole_linked (at_of nodes) (written_at c.write.new.self) (own_type nodes) (own_row nodes) nodes.cells nodes.merges nodes.size c.requires.whole.stands
          c.args.n c.args.feat c.args.to c.stands-old.result.first _ c.requires.node c.requires.to c.write.ensures.here c.write.ensures.others
          (ap (λ w. w.first) stood) (ap (λ w. w.forward) stood) (ap (λ w. w.ty) stood) place c.requires.no_arc room);
      enough = omega (arith, c.requires.whole.enough, c.write.ensures.size);
      placed = c.requires.whole.placed;
    }

pub returns-clause-within : goal.returns-clause-within
returns-clause-within c = λ types feats low old.
    let nodes = c.args.nodes.now in
    let stood = c.stands-old.ensures in
    let place : c.len-place.result + 1 ≡ length c.args.nodes.now.cells + 1 = omega (arith, c.len-place.ensures) in
    subst (λ l. AreWithin types feats (λ k. type_by (own_type nodes k) (written_at c.write.new.self k)) (own_row nodes) l nodes.size) (sym c.in_ok-push.ensures)
    (within_linked (at_of nodes) (written_at c.write.new.self) (own_type nodes) (own_row nodes) nodes.cells nodes.merges nodes.size c.requires.whole.stands
    c.args.n c.args.feat c.args.to c.stands-old.result.first _ c.requires.node c.requires.to c.write.ensures.here c.write.ensures.others
    (ap (λ w. w.first) stood) (ap (λ w. w.forward) stood) (ap (λ w. w.ty) stood) place c.requires.no_arc types feats low old)

pub returns-clause-keeps : goal.returns-clause-keeps
returns-clause-keeps c =
    let nodes = c.args.nodes.now in
    let stood = c.stands-old.ensures in
    let place : c.len-place.result + 1 ≡ length c.args.nodes.now.cells + 1 = omega (arith, c.len-place.ensures) in
    let cell : Cell = record { feat = c.args.feat; to = c.args.to; next = c.stands-old.result.first } in
    record {
      arcs = record {
        size = refl;
        live = live_linked (at_of nodes) (written_at c.write.new.self) (own_type nodes) (own_row nodes) nodes.cells nodes.merges nodes.size c.requires.whole.stands
            c.args.n c.args.feat c.args.to c.stands-old.result.first _ c.requires.node c.requires.to c.write.ensures.here c.write.ensures.others
            (ap (λ w. w.first) stood) (ap (λ w. w.forward) stood) (ap (λ w. w.ty) stood) place c.requires.no_arc;
        own = λ k. refl;
        more = omega (arith, ap length c.in_ok-push.ensures, length-append c.args.nodes.now.cells (cell ∷ []));
        chains = λ place h. rw c.in_ok-push.ensures (chain-push_old c.args.nodes.now.cells cell place h);
      };
      depths = read_same (at_of nodes) (written_at c.write.new.self) c.args.n _ c.write.ensures.here c.write.ensures.others (λ k. depth_by (own_depth nodes k))
          (ap (λ w. w.depth) stood);
    }

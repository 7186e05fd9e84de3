use Rattle.std.proofs.Common.{◌<◌, ◌+◌, ◌^◌, refl, ◌∙◌, ap, arith}
use Rattle.fs_closing.specs.Marked.{written_at, depth_by}
use Rattle.fs_closing.specs.NodeTable.{at_of, own_type, own_depth, own_row}
use Rattle.fs_closing.proofs.WiderLemmas.{table_added, whole_added, within_added}
use Rattle.fs_closing.proofs.nodes.add_node.Goals as goal

pub write-requires : goal.write-requires
write-requires c = let more = c.in_ok-widen.ensures.room in omega (arith, more)

pub returns-clause-adds : goal.returns-clause-adds
returns-clause-adds c =
    let nodes = c.args.nodes.now in
    table_added (at_of nodes) (written_at c.write.new.self) (own_type nodes) (own_type nodes) (own_row nodes) (own_row nodes) nodes.cells nodes.merges nodes.size
    c.requires.stands _ c.write.ensures.here (λ k e. c.write.ensures.others k e ∙ c.in_ok-widen.ensures.kept k) (λ k. refl) (λ k. refl) refl refl

pub returns-clause-whole : goal.returns-clause-whole
returns-clause-whole c =
    let nodes = c.args.nodes.now in
    let room : c.args.nodes.now.size + 1 < 2 ^ 32 = omega (arith, c.requires.stands.small, c.if-n.false) in
    record {
      stands = whole_added (at_of nodes) (written_at c.write.new.self) (own_type nodes) (own_type nodes) (own_row nodes) (own_row nodes) nodes.cells nodes.merges nodes.size
          c.requires.stands _ c.write.ensures.here (λ k e. c.write.ensures.others k e ∙ c.in_ok-widen.ensures.kept k) (λ k. refl) (λ k. refl) refl refl room;
      enough = omega (arith, c.in_ok-widen.ensures.room, c.write.ensures.size);
      placed = λ p h. let x = c.requires.placed p h in (x.0, omega (arith, x.1));
    }

pub returns-clause-within : goal.returns-clause-within
returns-clause-within c = λ types feats low old.
    let nodes = c.args.nodes.now in
    within_added (at_of nodes) (written_at c.write.new.self) (own_type nodes) (own_type nodes) (own_row nodes) (own_row nodes) nodes.cells nodes.merges nodes.size
    c.requires.stands _ c.write.ensures.here (λ k e. c.write.ensures.others k e ∙ c.in_ok-widen.ensures.kept k) (λ k. refl) (λ k. refl) refl refl types feats low old

pub returns-clause-depths : goal.returns-clause-depths
returns-clause-depths c = record {
  others = λ k e. ap (depth_by (own_depth c.args.nodes.now k)) (c.write.ensures.others k e ∙ c.in_ok-widen.ensures.kept k);
  here = ap (depth_by (own_depth c.args.nodes.now c.args.nodes.now.size)) c.write.ensures.here;
}

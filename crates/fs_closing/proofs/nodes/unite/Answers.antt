use Rattle.std.proofs.Common.{◌≡◌, ◌+◌, suc, refl, ap, arith}
use Rattle.fs_closing.specs.Marked.{written_at, depth_by}
use Rattle.fs_closing.specs.NodeTable.{at_of, own_type, own_depth, own_row}
use Rattle.fs_closing.proofs.MarkLemmas.{same_after, table_united, whole_united, within_united}
use Rattle.fs_closing.proofs.nodes.unite.Goals as goal

pub write-requires-2 : goal.write-requires-2
write-requires-2 c = omega (arith, c.requires.a_in, c.requires.whole.enough, c.write.ensures.size)

pub returns-clause-unites : goal.returns-clause-unites
returns-clause-unites c =
    let nodes = c.args.nodes.now in
    let a = c.stands-stays.ensures in
    let b = c.stands-goes.ensures in
    let more : c.args.nodes.now.merges + 1 ≡ suc c.args.nodes.now.merges = omega arith in
    rw more
    (table_united (at_of nodes) (written_at c.write.new.self) (written_at c.write-2.new.self) (own_type nodes) (own_row nodes) nodes.cells nodes.merges nodes.size
    c.requires.whole.stands c.args.a c.args.b _ _ c.requires.a_in c.requires.b_in c.requires.apart c.requires.no_root c.requires.a_stays c.requires.b_stays
    c.write.ensures.here c.write.ensures.others c.write-2.ensures.here c.write-2.ensures.others
    refl (ap (λ w. w.ty) b) (ap (λ w. w.first) b) (ap (λ w. w.forward) a) (ap (λ w. w.first) a))

pub returns-clause-whole : goal.returns-clause-whole
returns-clause-whole c =
    let nodes = c.args.nodes.now in
    let a = c.stands-stays.ensures in
    let b = c.stands-goes.ensures in
    let more : c.args.nodes.now.merges + 1 ≡ suc c.args.nodes.now.merges = omega arith in
    rw more
    (record {
      stands = whole_united (at_of nodes) (written_at c.write.new.self) (written_at c.write-2.new.self) (own_type nodes) (own_row nodes) nodes.cells nodes.merges nodes.size
          c.requires.whole.stands c.args.a c.args.b _ _ c.requires.a_in c.requires.b_in c.requires.apart c.requires.no_root c.requires.a_stays c.requires.b_stays
          c.write.ensures.here c.write.ensures.others c.write-2.ensures.here c.write-2.ensures.others
          refl (ap (λ w. w.ty) b) (ap (λ w. w.first) b) (ap (λ w. w.forward) a) (ap (λ w. w.first) a);
      enough = omega (arith, c.requires.whole.enough, c.write.ensures.size, c.write-2.ensures.size);
      placed = c.requires.whole.placed;
    })

pub returns-clause-within : goal.returns-clause-within
returns-clause-within c = λ types feats low old.
    let nodes = c.args.nodes.now in
    let a = c.stands-stays.ensures in
    let b = c.stands-goes.ensures in
    within_united (at_of nodes) (written_at c.write.new.self) (written_at c.write-2.new.self) (own_type nodes) (own_row nodes) nodes.cells nodes.merges nodes.size
    c.requires.whole.stands c.args.a c.args.b _ _ c.requires.a_in c.requires.b_in c.requires.apart c.requires.no_root c.requires.a_stays c.requires.b_stays
    c.write.ensures.here c.write.ensures.others c.write-2.ensures.here c.write-2.ensures.others
    refl (ap (λ w. w.ty) b) (ap (λ w. w.first) b) (ap (λ w. w.forward) a) (ap (λ w. w.first) a) types feats low old

pub returns-clause-depths : goal.returns-clause-depths
returns-clause-depths c =
    let nodes = c.args.nodes.now in
    let a = c.stands-stays.ensures in
    let b = c.stands-goes.ensures in
    same_after (at_of nodes) (written_at c.write.new.self) (written_at c.write-2.new.self) (own_type nodes) (own_row nodes) nodes.cells nodes.merges nodes.size
    c.requires.whole.stands c.args.a c.args.b _ _ c.requires.a_in c.requires.b_in c.requires.apart c.requires.no_root c.requires.a_stays c.requires.b_stays
    c.write.ensures.here c.write.ensures.others c.write-2.ensures.here c.write-2.ensures.others
    refl (ap (λ w. w.ty) b) (ap (λ w. w.first) b) (ap (λ w. w.forward) a) (ap (λ w. w.first) a) (λ k. depth_by (own_depth nodes k)) (ap (λ w. w.depth) a) (ap (λ w. w.depth) b)

pub returns-clause-own : goal.returns-clause-own
returns-clause-own c = λ k. refl

use Rattle.std.proofs.Common.{◌∙◌}
use Rattle.fs_closing.specs.NodeTable.{table_of}
use Rattle.fs_closing.proofs.WiderLemmas.{grows_by}
use Rattle.fs_closing.proofs.nodes.grow.Goals as goal

pub returns-clause-grows : goal.returns-clause-grows
returns-clause-grows c =
    grows_by c.args.ty (table_of c.args.nodes.now) (table_of c.add_node.new.nodes) (table_of c.add_arc.new.nodes) c.args.n c.args.feat
    c.in_ok-to.to c.in_ok-to.ensures.adds c.in_ok-add_arc.ensures.links c.requires.node c.in_ok-to.ensures.place

pub returns-clause-depths : goal.returns-clause-depths
returns-clause-depths c = record {
  others = λ k e. c.in_ok-add_arc.ensures.keeps.depths k ∙ c.in_ok-to.ensures.depths.others k e;
  here = c.in_ok-add_arc.ensures.keeps.depths c.args.nodes.now.size ∙ c.in_ok-to.ensures.depths.here;
}

pub returns-clause-within : goal.returns-clause-within
returns-clause-within c = λ types feats low feat old. c.in_ok-add_arc.ensures.within types feats feat (c.in_ok-to.ensures.within types feats low old)

use Rattle.std.proofs.Common.{[], sym}
use Rattle.std.proofs.lemmas.List.{get_or-map}
use Rattle.fs_closing.proofs.HasLemmas.{Has-at}
use Rattle.fs_graph.specs.Facts.{path_of}
use Rattle.forced_types.specs.declared.placed.PlacedGraph.{PlacedGraph}
use Rattle.forced_types.proofs.loading.place_of.Goals as goal

pub returns : goal.returns
returns c =
    let g = c.args.given in
    let x = c.index-given-i.result in
    record {
      value = sym (get_or-map (λ (p : PlacedGraph). path_of p.at.now) g.parts.now c.args.i x [] c.requires.part);
      feats = (c.requires.within _ (Has-at g.parts.now c.args.i x c.requires.part)).place;
    }

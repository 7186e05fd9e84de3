use Rattle.std.proofs.Common.{◌≡◌, ◌∙◌, length, map, sym, ap, subst}
use Rattle.std.specs.Prelude.{string_bytes}
use Rattle.type_hierarchy.specs.Table.{count_of}
use Rattle.fs_graph.specs.GraphMap.{IsGraph}
use Rattle.fs_trim.specs.Cutting.{IsShort}
use Rattle.fs_unify.specs.Entering.{IsGraphIn}
use Rattle.grammar_shapes.specs.declared.place.Place.{Place}
use Rattle.grammar_shapes.specs.Shaped.{graph_of}
use Rattle.grammar_shapes.specs.Systems.{grammar_of}
use Rattle.line_charts.specs.Keys.{IsGraphText}
use Rattle.line_charts.proofs.HostKeys.{host_below, host_some, host_short}
use Rattle.line_charts.proofs.keyed.host_key.Goals as goal

pub row-row-requires : goal.row-row-requires
row-row-requires g c = host_below c.args.finished.now c.args.host.0 c.requires.host

pub unreachable-requires : goal.unreachable-requires
unreachable-requires g c = host_some c.args.finished.now c.args.host.0 c.requires.host c.row-row.result.now c.row-row.ensures c.in_default.is

pub class_key-requires : goal.class_key-requires
class_key-requires g c =
    let s = c.args.shapes.now in
    let shape = c.in-Some.shape in
    let types = c.types.ensures in
    let short = host_short s c.args.finished.now c.requires.belonging c.args.host.0 c.row-row.result.now c.row-row.ensures shape c.in-Some.is in
    subst (λ (p : Place). IsGraphIn (count_of c.types.result.now) (length c.args.feats.now) p.graph) (sym c.deref-place.ensures)
    (subst (λ n. IsGraphIn (count_of c.types.result.now) n (graph_of shape)) (sym c.requires.feats)
    (subst (λ t. IsGraphIn (count_of t) (length (grammar_of s).introducers) (graph_of shape)) (sym types) short.graph_in))

pub returns : goal.returns
returns g c =
    let s = c.args.shapes.now in
    let shape = c.in-Some.shape in
    let key = c.in_ok-key.key in
    let made = c.in_ok-key.ensures in
    let feats = map string_bytes c.args.feats.now in
    let types = c.types.ensures in
    let short = host_short s c.args.finished.now c.requires.belonging c.args.host.0 c.row-row.result.now c.row-row.ensures shape c.in-Some.is in
    let graph : key.graph.now ≡ graph_of shape = made.graph ∙ ap (λ (p : Place). p.graph) c.deref-place.ensures in
    record {
      of_row = record { row = c.row-row.result.now; at = c.row-row.ensures; shape = shape; is = c.in-Some.is };
      graph = graph;
      from = made.from;
      to = made.to;
      level = made.level;
      is = record {
        is_graph = subst IsGraph (sym made.graph) c.laws.ensures;
        short = subst (IsShort (grammar_of s)) (sym graph) short;
        text = subst (λ g. IsGraphText (grammar_of s).types feats g key.text.items) (sym made.graph)
            (subst (λ t. IsGraphText t feats c.deref-place.result.now.graph key.text.items) types made.text);
      };
    }

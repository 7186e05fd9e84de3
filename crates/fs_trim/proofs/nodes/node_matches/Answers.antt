use Rattle.std.proofs.Common.{◌≡◌, ◌≢◌, true, sym, ◌∙◌, ap, subst}
use Rattle.type_hierarchy.specs.Table.{is_below}
use Rattle.fs_graph.specs.GraphMap.{type_at}
use Rattle.fs_trim.specs.Marks.{unmet}
use Rattle.fs_trim.proofs.MeetLemmas.{meets_in}
use Rattle.fs_trim.proofs.nodes.node_matches.Goals as goal

pub ty-requires : goal.ty-requires
ty-requires c =
    meets_in c.args.general.now c.args.special.now c.requires.general_graph c.requires.special_graph c.args.n.0 _
    (c.requires.seen.meets c.args.n.0 c.requires.n_in c.requires.met)

pub returns-clause-matched : goal.returns-clause-matched
returns-clause-matched c =
    λ e.
    let same = (c.arcs_match.ensures.extends e).kept c.args.n.0 c.requires.met in
    let below : is_below c.args.types.now (type_at c.args.special.now _) (type_at c.args.general.now c.args.n.0) ≡ true =
    ap (λ z. is_below c.args.types.now z (type_at c.args.general.now c.args.n.0)) (sym c.ty.ensures)
    ∙ ap (λ z. is_below c.args.types.now c.ty.result.0 z) (sym c.ty-2.ensures) ∙ sym c.if-not-at_or_below.ensures in
    record {
      met = subst (λ z. z ≢ unmet) (sym same) c.requires.met;
      arcs = c.arcs_match.ensures.kept e;
      type_below =
          subst (λ z. is_below c.args.types.now (type_at c.args.special.now z) (type_at c.args.general.now c.args.n.0) ≡ true) (sym same) below;
    }

pub returns-clause-no : goal.returns-clause-no
returns-clause-no c = λ e s order. c.arcs_match.ensures.no e s

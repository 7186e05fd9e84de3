use Rattle.std.proofs.Common.{◌∙◌, length, map, string_bytes, sym, subst, List}
use Rattle.std.specs.Prelude.{String}
use Rattle.std.specs.Global.{Global}
use Rattle.type_hierarchy.specs.Table.{TypeTable}
use Rattle.tree_faults.specs.Texts.{explained_line}
use Rattle.tree_faults.specs.Views.{explanation_of, IsExplainedNamed}
use Rattle.line_commands.specs.Inner.Charters.{types_in}
use Rattle.line_commands.proofs.explainer.Explainer.line_told.Goals as goal

pub explained_line-requires : goal.explained_line-requires
explained_line-requires c =
    let e = c.args.self.now.engine in
    let x = explanation_of c.args.explanation.now in
    record {
      named =
          subst (λ (t : TypeTable). IsExplainedNamed t (length c.deref.result.now) (length c.deref-2.result.now) x) (sym c.types.ensures)
          (subst (λ (fs : List (String Global)). IsExplainedNamed (types_in e) (length fs) (length c.deref-2.result.now) x) (sym c.deref.ensures.value)
          (subst (λ (ns : List (String Global)). IsExplainedNamed (types_in e) (length e.grammar.now.book.feats.items) (length ns) x) (sym c.deref-2.ensures.value) c.requires));
    }

pub returns-in-Ok : goal.returns-in-Ok
returns-in-Ok c =
    c.in-Ok.ensures ∙ (λ k. explained_line (c.types.ensures k) (map string_bytes (c.deref.ensures.value k)) (map string_bytes (c.deref-2.ensures.value k)) c.args.number (explanation_of c.args.explanation.now))

use Rattle.std.proofs.Common.{◌≡◌, ◌∷◌, [], true, map, subst}
use Rattle.derivation.specs.Views.{derivation_of}
use Rattle.tree_faults.specs.Texts.{no_tree_line}
use Rattle.engine.proofs.Results.{if-ok}
use Rattle.line_commands.specs.Inner.Trees.{IsFaultOf}
use Rattle.line_commands.specs.Inner.Explainers.{IsReportOn, IsLineOf}
use Rattle.line_commands.proofs.Explainings.{tree-answered, none-answered}
use Rattle.line_commands.proofs.explainer.Explainer.answer_alone.Goals as goal

pub report_on-requires-clause-over : goal.report_on-requires-clause-over
report_on-requires-clause-over c = c.in-Ok.ensures.tree.0.over

pub returns-in-Ok : goal.returns-in-Ok
returns-in-Ok c =
    let x = c.args.self.now in
    let t = derivation_of c.in-Ok.tree in
    if-ok c.report_on.result
    (λ r. IsReportOn x c.args.number t (map (λ l. l.items) r.lines.items) r.refused)
    (λ r. IsLineOf x c.args.number c.args.line.now (map (λ l. l.items) r.lines.items) r.refused)
    (λ r is. tree-answered x c.requires.ready c.args.number c.args.line.now t c.in-Ok.ensures.text c.in-Ok.ensures.tree (map (λ l. l.items) r.lines.items) r.refused is) c.report_on.ensures

pub returns-in-Err-At : goal.returns-in-Err-At
returns-in-Err-At c =
    let x = c.args.self.now in
    let at = c.in-Err-At.at in
    let fault = subst (IsFaultOf x.names c.args.line.now) c.in-Err-At.field-0-is c.in-Err-At.ensures.fault in
    if-ok c.report_of_no_tree.result
    (λ r. (map (λ l. l.items) r.lines.items ≡ no_tree_line c.args.number at ∷ []) × (r.refused ≡ true))
    (λ r. IsLineOf x c.args.number c.args.line.now (map (λ l. l.items) r.lines.items) r.refused)
    (λ r h. none-answered x c.requires.ready c.args.number c.args.line.now at fault (map (λ l. l.items) r.lines.items) r.refused h.0 h.1) c.report_of_no_tree.ensures

use Rattle.std.proofs.Common.{◌∙◌, ◌++◌, ◌∷◌, [], map, sym, ap}
use Rattle.derivation.specs.Views.{derivation_of}
use Rattle.tree_faults.specs.Views.{explanation_of}
use Rattle.engine.specs.Views.{speech_of}
use Rattle.line_commands.proofs.Explainings.{asked-licensed, has-structure, nothing-follows, mrs-follows}
use Rattle.line_commands.proofs.explainer.Explainer.lines_told.Goals as goal

pub line_of_mrs-requires-clause-full : goal.line_of_mrs-requires-clause-full
line_of_mrs-requires-clause-full c =
    let x = c.args.self.now in
    let e = explanation_of c.args.explanation.now in
    has-structure x (derivation_of c.args.tree.now) e c.requires.told (asked-licensed x.mrs e (sym c.asks_mrs.ensures ∙ c.if-not-asks_mrs.false))

pub returns-then-not-asks_mrs : goal.returns-then-not-asks_mrs
returns-then-not-asks_mrs c =
    let x = c.args.self.now in
    let first = c.in_ok-told.told in
    record {
      rest = [];
      followed = nothing-follows (speech_of x.engine) x.mrs (derivation_of c.args.tree.now) (explanation_of c.args.explanation.now) (sym c.asks_mrs.ensures ∙ c.if-not-asks_mrs.true);
      are = ap (map (λ l. l.items)) (c.in_ok-push.ensures.items ∙ ap (λ ls. ls ++ first ∷ []) c.new-lines.ensures.items) ∙ ap (λ l. l ∷ []) c.in_ok-told.ensures;
    }

pub returns : goal.returns
returns c =
    let x = c.args.self.now in
    let first = c.in_ok-told.told in
    let second = c.in_ok-mrs.mrs in
    record {
      rest = second.items ∷ [];
      followed = mrs-follows (speech_of x.engine) x.mrs (derivation_of c.args.tree.now) (explanation_of c.args.explanation.now) (sym c.asks_mrs.ensures ∙ c.if-not-asks_mrs.false) second.items c.in_ok-mrs.ensures;
      are = ap (map (λ l. l.items)) (c.in_ok-push-2.ensures.items ∙ ap (λ ls. ls ++ second ∷ []) (c.in_ok-push.ensures.items ∙ ap (λ ls. ls ++ first ∷ []) c.new-lines.ensures.items))
          ∙ ap (λ l. l ∷ second.items ∷ []) c.in_ok-told.ensures;
    }

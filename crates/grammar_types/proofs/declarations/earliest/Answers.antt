use Rattle.std.proofs.Common.{◌≡◌, ◌<◌, ◌≤◌, ◌∙◌, length, map, ap, sym, subst, arith}
use Rattle.std.proofs.lemmas.List.{length-map}
use Rattle.grammar_files.specs.Placings.{placed_of}
use Rattle.type_hierarchy.specs.Decls.{texts}
use Rattle.grammar_types.specs.SettleViews.{is_again, IsEntered}
use Rattle.grammar_types.specs.Typings.{statement_at}
use Rattle.grammar_types.proofs.SettleRepeats.{Met, at_placed, met_next, met_again}
use Rattle.grammar_types.proofs.declarations.earliest.Goals as goal

pub returns-then-not-is_new : goal.returns-then-not-is_new
returns-then-not-is_new c =
    let xs = c.args.statements.now in
    let i = c.loop-i.i in
    let within : i < length xs = omega arith in
    let within' : i < length (map placed_of xs) = omega (arith, length-map xs placed_of) in
    let here = at_placed xs i c.index-statements-i.result within c.index-statements-i.is in
    let again : is_again c.args.status (placed_of c.index-statements-i.result) (texts c.loop-i.names.keys) ≡ _ =
    subst (IsEntered c.args.status (placed_of c.index-statements-i.result) (texts c.loop-i.names.keys) (texts c.enter.new.names.keys)) c.if-not-is_new.true c.in_ok-is_new.ensures in
    met_again c.args.status (map placed_of xs) c.args.bound i (texts c.loop-i.names.keys) c.loop-i.invariant within' (omega arith)
    (ap (λ p. is_again c.args.status p (texts c.loop-i.names.keys)) here ∙ again)

pub loop-i-preserved : goal.loop-i-preserved
loop-i-preserved c =
    let xs = c.args.statements.now in
    let i = c.loop-i.i in
    let within : i < length xs = omega arith in
    let within' : i < length (map placed_of xs) = omega (arith, length-map xs placed_of) in
    let here = at_placed xs i c.index-statements-i.result within c.index-statements-i.is in
    let step = subst (IsEntered c.args.status (statement_at (map placed_of xs) i) (texts c.loop-i.names.keys) (texts c.enter.new.names.keys)) c.if-not-is_new.false
    (subst (λ p. IsEntered c.args.status p (texts c.loop-i.names.keys) (texts c.enter.new.names.keys) c.in_ok-is_new.is_new) (sym here) c.in_ok-is_new.ensures) in
    met_next c.args.status (map placed_of xs) i (texts c.loop-i.names.keys) (texts c.enter.new.names.keys) c.loop-i.invariant within' step.0 step.1

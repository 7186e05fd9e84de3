use Rattle.std.proofs.Common.{◌≡◌, ◌||◌, ◌∙◌, true, false, get_or, sym, subst, arith}
use Rattle.std.proofs.lemmas.List.{length-map}
use Rattle.grammar_files.specs.Placings.{PlacedTree, placed_of}
use Rattle.constraint_expand.specs.Statements.{defines_type, defines_instance}
use Rattle.constraint_expand.proofs.FirstLemmas.{at_placed}
use Rattle.grammar_files.specs.WalkViews.{walked_of}
use Rattle.grammar_load.specs.Expanding.{names_by}
use Rattle.fault_details.proofs.Definitions.{there, defined}
use Rattle.fault_details.proofs.structures.is_definition_at.Goals as goal

pub returns-clause-defines : goal.returns-clause-defines
returns-clause-defines c = λ yes.
    let all = c.args.walked.now.statements.items in
    let at = at_placed all c.args.k c.index-statements-k.result (grind arith) (subst (λ l. c.index-statements-k.result ≡ get_or l c.args.k c.index-statements-k.result) c.as_slice-statements.ensures.value c.index-statements-k.is) in
    subst (λ (p : PlacedTree). (defines_type p || defines_instance p) ≡ true) (sym at) (sym c.is_definition.ensures ∙ yes)

pub returns-clause-other : goal.returns-clause-other
returns-clause-other c = λ no types h.
    let w = walked_of c.args.walked.now in
    let all = c.args.walked.now.statements.items in
    let at = at_placed all c.args.k c.index-statements-k.result (grind arith) (subst (λ l. c.index-statements-k.result ≡ get_or l c.args.k c.index-statements-k.result) c.as_slice-statements.ensures.value c.index-statements-k.is) in
    let yes = subst (λ (p : PlacedTree). (defines_type p || defines_instance p) ≡ true) at (defined w (names_by w.settings) types c.args.k h) in
    let bad : false ≡ true = sym (sym c.is_definition.ensures ∙ no) ∙ yes in
    absurd cc

pub returns-then-k-statements-clause-other : goal.returns-then-k-statements-clause-other
returns-then-k-statements-clause-other c = λ no types h.
    let w = walked_of c.args.walked.now in
    let low = there w (names_by w.settings) types c.args.k h in
    let size = length-map c.args.walked.now.statements.items placed_of in
    absurd (omega (arith, low, size, c.if-k-statements.true, c.as_slice-statements.ensures.len))

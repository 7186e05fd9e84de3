use Rattle.std.proofs.Common.{sym, subst, [], ◌∷◌}
use Rattle.std.specs.Prelude.{option_map}
use Rattle.fs_model.specs.Claims.{IsBare}
use Rattle.fs_graph.specs.GraphMap.{reader_of}
use Rattle.fs_closing.specs.Rules.{system_of}
use Rattle.fs_unify.specs.Owing.{ListsOwed}
use Rattle.fs_unify.specs.Placing.{source_of}
use Rattle.fs_trim.specs.Cutting.{cut_of, owed_of}
use Rattle.tree_model.specs.Views.{IsTrimmed}
use Rattle.grammar_shapes.proofs.CutLemmas.{one_cut}
use Rattle.grammar_shapes.proofs.OwedLemmas.{owes_same, trimmed_same}
use Rattle.grammar_shapes.proofs.shapes.GrammarShapes.trimmed.Goals as goal

pub unify_without-requires-clause-bare : goal.unify_without-requires-clause-bare
unify_without-requires-clause-bare c = subst (λ g. IsBare (system_of g)) (sym c.system-system.ensures) c.args.self.now.bare

pub unify_trimmed_owing-requires-clause-bare : goal.unify_trimmed_owing-requires-clause-bare
unify_trimmed_owing-requires-clause-bare c = subst (λ g. IsBare (system_of g)) (sym c.system-system.ensures) c.args.self.now.bare

pub unify_trimmed_owing-requires-clause-owed : goal.unify_trimmed_owing-requires-clause-owed
unify_trimmed_owing-requires-clause-owed c =
    subst (λ d. ListsOwed c.system-system.result.now (owed_of d) c.fulls_owe.result.now) (sym c.daughters.ensures)
    (subst (λ g. ListsOwed g (owed_of c.args.self.now.rules.daughters) c.fulls_owe.result.now) (sym c.system-system.ensures) c.fulls_owe.ensures)

pub returns-then-self-clause-answer : goal.returns-then-self-clause-answer
returns-then-self-clause-answer c =
    let g = c.args.self.now.rules.grammar in
    let d = c.args.self.now.rules.daughters in
    let l = c.args.self.now.rules.restrictors in
    let o = option_map reader_of c.in_ok-kept.kept in
    one_cut (system_of g) (source_of c.args.placed.now) d l (c.args.self.now.no_more c.if-self.true) o
    (trimmed_same g c.system-system.result.now (source_of c.args.placed.now) [] l (cut_of c.restrictors.result.now) o c.system-system.ensures c.restrictors.ensures c.in_ok-kept.ensures.answer)

pub returns-then-self-clause-owes : goal.returns-then-self-clause-owes
returns-then-self-clause-owes c =
    owes_same c.args.self.now.rules.grammar c.system-system.result.now c.args.self.now.rules.restrictors (cut_of c.restrictors.result.now) c.in_ok-kept.kept c.system-system.ensures
    c.restrictors.ensures c.in_ok-kept.ensures.owes

pub returns-clause-answer : goal.returns-clause-answer
returns-clause-answer c =
    let g = c.args.self.now.rules.grammar in
    let l = c.args.self.now.rules.restrictors in
    let o = option_map reader_of c.in_ok-mother.mother in
    subst (λ d. IsTrimmed (system_of g) (source_of c.args.placed.now) (d ∷ []) l o) c.daughters.ensures
    (trimmed_same g c.system-system.result.now (source_of c.args.placed.now) (cut_of c.daughters.result.now ∷ []) l (cut_of c.restrictors-2.result.now) o c.system-system.ensures
    c.restrictors-2.ensures c.in_ok-mother.ensures.answer)

pub returns-clause-owes : goal.returns-clause-owes
returns-clause-owes c =
    owes_same c.args.self.now.rules.grammar c.system-system.result.now c.args.self.now.rules.restrictors (cut_of c.restrictors-2.result.now) c.in_ok-mother.mother c.system-system.ensures
    c.restrictors-2.ensures c.in_ok-mother.ensures.owes

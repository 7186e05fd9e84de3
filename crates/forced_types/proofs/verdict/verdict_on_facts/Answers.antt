use Rattle.std.proofs.Common.{[], ◌≤◌, refl, subst, arith}
use Rattle.type_hierarchy.specs.Laws.{HasTypeLaws}
use Rattle.type_hierarchy.specs.Table.{TypeTable, count_of, completed_count}
use Rattle.forced_types.specs.declared.given.Given.{Given}
use Rattle.forced_types.proofs.LoadLemmas.{root_given}
use Rattle.forced_types.proofs.RangeLemmas.{answer_in}
use Rattle.forced_types.proofs.verdict.verdict_on_facts.Goals as goal

pub told_within-requires-clause-there : goal.told_within-requires-clause-there
told_within-requires-clause-there c =
    let g : Given = record { system = c.args.system; parts = record { ref_ptr = (0, 0); now = [] }; facts = c.args.facts } in
    root_given g c.args.facts.now refl c.requires.some

pub told_within-requires-clause-parts : goal.told_within-requires-clause-parts
told_within-requires-clause-parts c = λ p h. elim h [ ]

pub returns-clause-within : goal.returns-clause-within
returns-clause-within c =
    let g = c.args.system.now in
    let laws : HasTypeLaws g.types = subst HasTypeLaws c.types-types.ensures c.laws-2.ensures in
    let counts : completed_count g.types ≤ count_of g.types = subst (λ (t : TypeTable). completed_count t ≤ count_of t) c.types-types.ensures (omega arith) in
    answer_in g c.laws.ensures laws counts c.args.facts.now c.requires.within c.args.limit c.in_ok-verdict.verdict c.in_ok-verdict.ensures

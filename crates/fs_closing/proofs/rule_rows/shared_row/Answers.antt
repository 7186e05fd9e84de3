use Rattle.std.proofs.Common.{[], map, length, slice_index_or, sym, subst}
use Rattle.std.proofs.lemmas.List.{length-map}
use Rattle.fs_closing.specs.Rules.{HaveSame}
use Rattle.fs_closing.specs.Systems.{rule_of, rules_of}
use Rattle.fs_closing.specs.Inner.RuleRows.{IsShared}
use Rattle.fs_closing.proofs.RuleRowLemmas.{string_row, row_found}
use Rattle.fs_closing.proofs.rule_rows.shared_row.Goals as goal

pub returns-in-Some-clause-row : goal.returns-in-Some-clause-row
returns-in-Some-clause-row c =
    let rules = rules_of c.args.constraints.now in
    let rows = map (λ row. row.items) c.args.rows.now.list.items in
    let same = string_row c.args.types.now rules (length c.args.constraints.now) c.args.t c.requires.string c.requires.t_in c.requires.types_in
    (length-map c.args.constraints.now rule_of) c.requires.no_rule_of in
    let shared = subst (IsShared c.args.types.now rules rows) c.in-Some.is c.requires.shared in
    row_found rows c.in-Some.number _ shared.0 (subst (HaveSame (slice_index_or rows c.in-Some.number [])) (sym same) shared.1)

pub returns-clause-shared : goal.returns-clause-shared
returns-clause-shared c =
    let rules = rules_of c.args.constraints.now in
    let same = string_row c.args.types.now rules (length c.args.constraints.now) c.args.t c.requires.string c.requires.t_in c.requires.types_in
    (length-map c.args.constraints.now rule_of) c.requires.no_rule_of in
    (c.in_ok-number.ensures.within, subst (HaveSame _) same c.in_ok-number.ensures.row_is)

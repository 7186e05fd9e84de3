use Rattle.std.proofs.Common.{◌<◌, length, map, slice_index_or, sym, ap, arith}
use Rattle.std.proofs.lemmas.List.{get_or-map, length-map}
use Rattle.fs_closing.specs.Rules.{no_rule}
use Rattle.fs_closing.specs.Systems.{rule_of, rules_of}
use Rattle.fs_closing.proofs.RuleRowLemmas.{own_more}
use Rattle.fs_closing.proofs.rule_rows.owners.Goals as goal

pub index_mut-requires : goal.index_mut-requires
index_mut-requires c =
    let rule = get_or-map rule_of c.args.constraints.now c.loop-j.j c.index-constraints-j.result no_rule c.loop-j-test.true in
    let within : c.loop-j.j < length (map rule_of c.args.constraints.now) = omega (arith, length-map c.args.constraints.now rule_of, c.loop-j-test.true) in
    omega (arith, ap (λ r. r.ty) rule, c.requires c.loop-j.j within, c.loop-j.invariant.each)

pub loop-j-preserved : goal.loop-j-preserved
loop-j-preserved c =
    let rule = get_or-map rule_of c.args.constraints.now c.loop-j.j c.index-constraints-j.result no_rule c.loop-j-test.true in
    let within : c.loop-j.j < length (map rule_of c.args.constraints.now) = omega (arith, length-map c.args.constraints.now rule_of, c.loop-j-test.true) in
    own_more (rules_of c.args.constraints.now) c.loop-j.j c.args.count (slice_index_or c.args.constraints.now c.loop-j.j c.index-constraints-j.result).ty.0 c.loop-j.own.items
    (omega (arith, ap (λ r. r.ty) rule, c.requires c.loop-j.j within)) (sym (ap (λ r. r.ty) rule)) c.loop-j.invariant

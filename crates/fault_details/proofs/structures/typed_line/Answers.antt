use Rattle.std.proofs.Common.{IfSome, option_map, subst, sym}
use Rattle.type_hierarchy.specs.Table.{count_of}
use Rattle.forced_types.specs.Verdicts.{IsVerdictIn}
use Rattle.forced_types.specs.Views.{verdict_of}
use Rattle.constraint_expand.specs.Systems.{settled_of}
use Rattle.grammar_files.specs.WalkViews.{walked_of}
use Rattle.fault_details.specs.Inner.{IsVerdictAt}
use Rattle.fault_details.proofs.Systems.{feats-many, placed-there, clash-told, lack-apart}
use Rattle.fault_details.proofs.structures.typed_line.Goals as goal

pub told-requires : goal.told-requires
told-requires c =
    let t = c.args.typed.now in
    subst (λ n. IfSome c.in-Ok.verdict (λ v. IsVerdictIn n (count_of t.system.types) (verdict_of v))) (sym (feats-many (walked_of c.args.walked.now) (settled_of c.args.names.now) t c.requires.typed)) c.in-Ok.ensures.within

pub returns-in-Ok-clause-line : goal.returns-in-Ok-clause-line
returns-in-Ok-clause-line c =
    clash-told (walked_of c.args.walked.now) (settled_of c.args.names.now) c.args.typed.now c.args.k (option_map verdict_of c.in-Ok.verdict) c.requires.names c.requires.typed
    (placed-there c.args.walked.now.statements.items c.args.k c.requires.there) c.requires.defines c.in-Ok.ensures.verdict c.in-Ok.ensures.lacks c.told.result c.told.ensures.line

pub returns-in-Ok-clause-read : goal.returns-in-Ok-clause-read
returns-in-Ok-clause-read c = λ unread. absurd (c.told.ensures.read unread)

pub returns-in-Err-clause-read : goal.returns-in-Err-clause-read
returns-in-Err-clause-read c = λ unread types typed lacks.
    lack-apart c.one_settling.ensures.tables (walked_of c.args.walked.now) (settled_of c.args.names.now) c.args.typed.now c.args.k c.requires.typed (c.in-Err.ensures.read cc) types typed lacks

use Rattle.std.proofs.Common.{◌∙◌, map, string_bytes}
use Rattle.std.proofs.lemmas.Result.{IfOk-weaker, IfErr-weaker}
use Rattle.tdl_reader.specs.Machine.{affixed}
use Rattle.tdl_reader.specs.States.{tok_in}
use Rattle.tdl_reader.specs.Stages.{past_of}
use Rattle.tdl_reader.specs.Views.{group_in}
use Rattle.tdl_reader.proofs.StageLemmas.{affixed_else, affixed_formed, stage_stop, stop_same}
use Rattle.tdl_reader.proofs.statements.affixed.Goals as goal

pub returns-in_default : goal.returns-in_default
returns-in_default c =
    let done = (past_of c.args.done.now) in
    let same = affixed_else c.args.seen.token.kind c.in_default.not-Group done (string_bytes c.args.name) c.args.at c.args.suffix (map group_in c.args.groups.items) (tok_in c.args.seen) in
    let formed = affixed_formed c.args.seen.token.kind c.in_default.not-Group done.sets (string_bytes c.args.name) c.args.at c.args.suffix (map group_in c.args.groups.items) (tok_in c.args.seen) in
    record {
      found = IfOk-weaker c.after_groups.result _ _ (λ p h. (same ∙ h done, formed)) c.after_groups.ensures.found;
      fault = IfErr-weaker c.after_groups.result _ _ (λ e h. stage_stop done (affixed (string_bytes c.args.name) c.args.at c.args.suffix (map group_in c.args.groups.items)) c.args.seen.token.kind (tok_in c.args.seen) e (stop_same _ _ _ e same (h done))) c.after_groups.ensures.fault;
    }

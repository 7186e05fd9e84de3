use Rattle.std.proofs.Common.{ap, refl, string_bytes}
use Rattle.tdl_reader.specs.Machine.{between, lettered, named, defined, begin, begin_instance, begin_status, end, include, want_dot, in_body}
use Rattle.tdl_reader.specs.States.{tok_in, stack_of, point_of}
use Rattle.tdl_reader.specs.Stages.{past_of, stage_of, head_of}
use Rattle.tdl_reader.specs.Views.{statement_of}
use Rattle.tdl_reader.proofs.StageLemmas.{free_found, free_fault, same_found, same_fault}
use Rattle.tdl_reader.proofs.statements.stage_step.Goals as goal

pub returns-in-Between : goal.returns-in-Between
returns-in-Between c = record {
  found = free_found c.first_word.result (past_of c.args.done.now) (stage_of c.args.stage) between c.args.seen.token.kind (tok_in c.args.seen) (ap stage_of c.in-Between.is) (λ sets k t. refl) c.first_word.ensures.found;
  fault = free_fault c.first_word.result (past_of c.args.done.now) (stage_of c.args.stage) between c.args.seen.token.kind (tok_in c.args.seen) (ap stage_of c.in-Between.is) c.first_word.ensures.fault;
}

pub returns-in-Lettered : goal.returns-in-Lettered
returns-in-Lettered c = record {
  found = free_found c.lettered.result (past_of c.args.done.now) (stage_of c.args.stage) lettered c.args.seen.token.kind (tok_in c.args.seen) (ap stage_of c.in-Lettered.is) (λ sets k t. refl) c.lettered.ensures.found;
  fault = free_fault c.lettered.result (past_of c.args.done.now) (stage_of c.args.stage) lettered c.args.seen.token.kind (tok_in c.args.seen) (ap stage_of c.in-Lettered.is) c.lettered.ensures.fault;
}

pub returns-in-Named : goal.returns-in-Named
returns-in-Named c = record {
  found = free_found c.named.result (past_of c.args.done.now) (stage_of c.args.stage) (named (string_bytes c.in-Named.name) c.in-Named.at) c.args.seen.token.kind (tok_in c.args.seen) (ap stage_of c.in-Named.is) (λ sets k t. refl) c.named.ensures.found;
  fault = free_fault c.named.result (past_of c.args.done.now) (stage_of c.args.stage) (named (string_bytes c.in-Named.name) c.in-Named.at) c.args.seen.token.kind (tok_in c.args.seen) (ap stage_of c.in-Named.is) c.named.ensures.fault;
}

pub returns-in-Defined : goal.returns-in-Defined
returns-in-Defined c = record {
  found = free_found c.defined.result (past_of c.args.done.now) (stage_of c.args.stage) (defined (string_bytes c.in-Defined.name) c.in-Defined.at) c.args.seen.token.kind (tok_in c.args.seen) (ap stage_of c.in-Defined.is) (λ sets k t. refl) c.defined.ensures.found;
  fault = free_fault c.defined.result (past_of c.args.done.now) (stage_of c.args.stage) (defined (string_bytes c.in-Defined.name) c.in-Defined.at) c.args.seen.token.kind (tok_in c.args.seen) (ap stage_of c.in-Defined.is) c.defined.ensures.fault;
}

pub returns-in-Begin : goal.returns-in-Begin
returns-in-Begin c = record {
  found = free_found c.begin_word.result (past_of c.args.done.now) (stage_of c.args.stage) (begin c.in-Begin.at) c.args.seen.token.kind (tok_in c.args.seen) (ap stage_of c.in-Begin.is) (λ sets k t. refl) c.begin_word.ensures.found;
  fault = free_fault c.begin_word.result (past_of c.args.done.now) (stage_of c.args.stage) (begin c.in-Begin.at) c.args.seen.token.kind (tok_in c.args.seen) (ap stage_of c.in-Begin.is) c.begin_word.ensures.fault;
}

pub returns-in-BeginInstance : goal.returns-in-BeginInstance
returns-in-BeginInstance c = record {
  found = free_found c.instance_word.result (past_of c.args.done.now) (stage_of c.args.stage) (begin_instance c.in-BeginInstance.at) c.args.seen.token.kind (tok_in c.args.seen) (ap stage_of c.in-BeginInstance.is) (λ sets k t. refl) c.instance_word.ensures.found;
  fault = free_fault c.instance_word.result (past_of c.args.done.now) (stage_of c.args.stage) (begin_instance c.in-BeginInstance.at) c.args.seen.token.kind (tok_in c.args.seen) (ap stage_of c.in-BeginInstance.is) c.instance_word.ensures.fault;
}

pub returns-in-BeginStatus : goal.returns-in-BeginStatus
returns-in-BeginStatus c = record {
  found = free_found c.status_name.result (past_of c.args.done.now) (stage_of c.args.stage) (begin_status c.in-BeginStatus.at) c.args.seen.token.kind (tok_in c.args.seen) (ap stage_of c.in-BeginStatus.is) (λ sets k t. refl) c.status_name.ensures.found;
  fault = free_fault c.status_name.result (past_of c.args.done.now) (stage_of c.args.stage) (begin_status c.in-BeginStatus.at) c.args.seen.token.kind (tok_in c.args.seen) (ap stage_of c.in-BeginStatus.is) c.status_name.ensures.fault;
}

pub returns-in-End : goal.returns-in-End
returns-in-End c = record {
  found = free_found c.end_word.result (past_of c.args.done.now) (stage_of c.args.stage) (end c.in-End.at) c.args.seen.token.kind (tok_in c.args.seen) (ap stage_of c.in-End.is) (λ sets k t. refl) c.end_word.ensures.found;
  fault = free_fault c.end_word.result (past_of c.args.done.now) (stage_of c.args.stage) (end c.in-End.at) c.args.seen.token.kind (tok_in c.args.seen) (ap stage_of c.in-End.is) c.end_word.ensures.fault;
}

pub returns-in-Include : goal.returns-in-Include
returns-in-Include c = record {
  found = free_found c.include_name.result (past_of c.args.done.now) (stage_of c.args.stage) (include c.in-Include.at) c.args.seen.token.kind (tok_in c.args.seen) (ap stage_of c.in-Include.is) (λ sets k t. refl) c.include_name.ensures.found;
  fault = free_fault c.include_name.result (past_of c.args.done.now) (stage_of c.args.stage) (include c.in-Include.at) c.args.seen.token.kind (tok_in c.args.seen) (ap stage_of c.in-Include.is) c.include_name.ensures.fault;
}

pub returns-in-WantDot : goal.returns-in-WantDot
returns-in-WantDot c = record {
  found = same_found c.dot.result (past_of c.args.done.now) (past_of c.dot.new.done) (stage_of c.args.stage) (want_dot (statement_of c.in-WantDot.statement)) c.args.seen.token.kind (tok_in c.args.seen) (ap stage_of c.in-WantDot.is) (λ sets k t. refl) c.dot.ensures.found;
  fault = same_fault c.dot.result (past_of c.args.done.now) (stage_of c.args.stage) (want_dot (statement_of c.in-WantDot.statement)) c.args.seen.token.kind (tok_in c.args.seen) (ap stage_of c.in-WantDot.is) c.dot.ensures.fault;
}

pub returns-in-InBody : goal.returns-in-InBody
returns-in-InBody c = record {
  found = same_found c.body.result (past_of c.args.done.now) (past_of c.body.new.done) (stage_of c.args.stage) (in_body (head_of c.in-InBody.head) (stack_of c.in-InBody.frames.items) (point_of c.in-InBody.point)) c.args.seen.token.kind (tok_in c.args.seen) (ap stage_of c.in-InBody.is) (λ sets k t. refl) c.body.ensures.found;
  fault = same_fault c.body.result (past_of c.args.done.now) (stage_of c.args.stage) (in_body (head_of c.in-InBody.head) (stack_of c.in-InBody.frames.items) (point_of c.in-InBody.point)) c.args.seen.token.kind (tok_in c.args.seen) (ap stage_of c.in-InBody.is) c.body.ensures.fault;
}

use Rattle.std.proofs.Common.{◌≡◌, map, inl, inr, ⊎_elim, subst, arith}
use Rattle.std.proofs.lemmas.Grind.{common_steps}
use Rattle.std.proofs.lemmas.Result.{IfErr-weaker}
use Rattle.std.specs.Prelude.{◌⊎◌, IfErr, Ok, Err}
use Rattle.tdl_reader.specs.declared.ReadFault.TheVariants.{EndOfFile, NoMemory}
use Rattle.tdl_reader.specs.Machine.{begun}
use Rattle.tdl_reader.specs.Running.{read_from}
use Rattle.tdl_reader.specs.Toks.{toks_of}
use Rattle.tdl_reader.specs.Views.{statement_of}
use Rattle.tdl_reader.proofs.Faults.{Outcome, outcome}
use Rattle.tdl_reader.proofs.read.Goals as goal

pub returns-in_err-step-clause-fault : goal.returns-in_err-step-clause-fault
returns-in_err-step-clause-fault c =
    let ts = toks_of c.args.text.now c.args.tokens.now in
    let h : IfErr c.from_residual.result (λ e. (e ≡ NoMemory) ⊎ (read_from begun ts ≡ Err e)) = grind (arith, common_steps) in
    IfErr-weaker c.from_residual.result _ _ (λ e k. ⊎_elim inl (λ m. inr (subst (Outcome ts) m (outcome ts))) k) h

pub returns-then-may_end-clause-found : goal.returns-then-may_end-clause-found
returns-then-may_end-clause-found c =
    let ts = toks_of c.args.text.now c.args.tokens.now in
    let h : read_from begun ts ≡ Ok (map statement_of c.loop-token.done.statements.items) = grind (arith, common_steps) in
    subst (Outcome ts) h (outcome ts)

pub returns-else-may_end-clause-fault : goal.returns-else-may_end-clause-fault
returns-else-may_end-clause-fault c =
    let ts = toks_of c.args.text.now c.args.tokens.now in
    let h : read_from begun ts ≡ Err EndOfFile = grind (arith, common_steps) in
    inr (subst (Outcome ts) h (outcome ts))

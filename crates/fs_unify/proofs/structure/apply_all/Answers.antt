use Rattle.std.proofs.Common.{◌≡◌, ◌+◌, [], ◌∷◌, ◌++◌, map, drop, refl, sym, ◌∙◌, ap, subst, arith}
use Rattle.std.proofs.lemmas.List.{drop_all, length-map}
use Rattle.fs_model.specs.Claims.{Claim, exists_at}
use Rattle.fs_model.specs.Table.{from}
use Rattle.fs_graph.specs.Facts.{claim_of, claims_of}
use Rattle.fs_closing.specs.Rules.{system_of}
use Rattle.fs_closing.specs.Work.{work_of}
use Rattle.fs_closing.specs.Keeps.{Turns, StepsTo, deep_of}
use Rattle.fs_closing.proofs.ClosingLemmas.{fact_at, fact_has}
use Rattle.fs_closing.proofs.StepLemmas.{turn_one}
use Rattle.fs_closing.proofs.StepLemmas.{refute_one}
use Rattle.fs_unify.proofs.GivenLemmas.{claims_step}
use Rattle.fs_unify.proofs.structure.apply_all.Goals as goal

pub apply-requires-clause-fact : goal.apply-requires-clause-fact
apply-requires-clause-fact c =
    c.requires.facts (claim_of c.fact-item.result) (fact_has c.args.facts.now c.loop-fact.fact-index c.fact-item.result c.loop-fact-test.true c.fact-item.is)

pub returns-in-false : goal.returns-in-false
returns-in-false c =
    let g = c.args.system.now in
    let s = system_of g in
    let i = c.loop-fact.fact-index in
    let claims = claims_of c.args.facts.now in
    let none : Claim = exists_at [] in
    let fact = fact_at c.args.facts.now i c.fact-item.result claims none refl c.loop-fact-test.true c.fact-item.is in
    let rest = map (from 0) (drop (i + 1) claims) in
    let e = claims_step claims i none fact.1 ∙ ap (λ k. from 0 k ∷ map (from 0) (drop (i + 1) claims)) (sym fact.0) in
    let work = work_of g.rules c.loop-fact.tasks in
    let start = map (from 0) claims ++ work_of g.rules c.args.tasks.now in
    let before = subst (λ l. Turns s (deep_of c.args.nodes.now) start (deep_of c.loop-fact.nodes) (l ++ work)) e c.loop-fact.invariant.leads in
    let r = subst (StepsTo g c.loop-fact.nodes (from 0 (claim_of c.fact-item.result) ∷ work) c.apply.new.nodes c.apply.new.tasks) c.in-false.is c.in_ok-apply.ensures.steps in
    refute_one s (deep_of c.args.nodes.now) (deep_of c.loop-fact.nodes) start (from 0 (claim_of c.fact-item.result)) rest work before r

pub loop-fact-preserved : goal.loop-fact-preserved
loop-fact-preserved c =
    let g = c.args.system.now in
    let s = system_of g in
    let i = c.loop-fact.fact-index in
    let claims = claims_of c.args.facts.now in
    let none : Claim = exists_at [] in
    let fact = fact_at c.args.facts.now i c.fact-item.result claims none refl c.loop-fact-test.true c.fact-item.is in
    let rest = map (from 0) (drop (i + 1) claims) in
    let e = claims_step claims i none fact.1 ∙ ap (λ k. from 0 k ∷ map (from 0) (drop (i + 1) claims)) (sym fact.0) in
    let work = work_of g.rules c.loop-fact.tasks in
    let start = map (from 0) claims ++ work_of g.rules c.args.tasks.now in
    let before = subst (λ l. Turns s (deep_of c.args.nodes.now) start (deep_of c.loop-fact.nodes) (l ++ work)) e c.loop-fact.invariant.leads in
    let r = subst (StepsTo g c.loop-fact.nodes (from 0 (claim_of c.fact-item.result) ∷ work) c.apply.new.nodes c.apply.new.tasks) c.in-true.is c.in_ok-apply.ensures.steps in
    let more = c.in_ok-apply.ensures.more c.in-true.is in
    record {
      leads = turn_one s (deep_of c.args.nodes.now) (deep_of c.loop-fact.nodes) (deep_of c.apply.new.nodes) start (from 0 (claim_of c.fact-item.result)) rest work
          (work_of g.rules c.apply.new.tasks) before r.0;
      sound = r.1;
      filled = omega (arith, more, c.loop-fact.invariant.filled);
    }

pub returns : goal.returns
returns c =
    let g = c.args.system.now in
    let s = system_of g in
    let claims = claims_of c.args.facts.now in
    let start = map (from 0) claims ++ work_of g.rules c.args.tasks.now in
    let end : drop c.loop-fact.fact-index (claims_of c.args.facts.now) ≡ [] =
    drop_all c.loop-fact.fact-index claims (omega (arith, length-map c.args.facts.now claim_of, c.loop-fact-test.false)) in (
      subst (λ l. Turns s (deep_of c.args.nodes.now) start (deep_of c.loop-fact.nodes) (map (from 0) l ++ work_of g.rules c.loop-fact.tasks)) end c.loop-fact.invariant.leads,
      c.loop-fact.invariant.sound,
    )

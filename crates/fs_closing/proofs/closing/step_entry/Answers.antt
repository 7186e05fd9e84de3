use Rattle.std.proofs.Common.{◌<◌, ◌≤◌, ◌+◌, ◌∷◌, ◌++◌, [], length, slice_index_or, sym, ◌∙◌, ap, subst, arith}
use Rattle.std.proofs.lemmas.List.{length-map}
use Rattle.fs_model.specs.Claims.{Claim, exists_at}
use Rattle.fs_model.specs.Table.{from}
use Rattle.fs_graph.specs.Facts.{claim_of}
use Rattle.fs_closing.specs.declared.tasks.Entry.{Entry}
use Rattle.fs_closing.specs.Rules.{system_of, no_rule}
use Rattle.fs_closing.specs.Work.{entry_claims, work_of}
use Rattle.fs_closing.specs.Keeps.{Turns, deep_of}
use Rattle.fs_closing.proofs.ClosingLemmas.{fact_at, fact_has}
use Rattle.fs_closing.proofs.StepLemmas.{Turns-none, entry_step, entry_ends, entry_same, steps_order}
use Rattle.fs_closing.proofs.ToldLemmas.{entry_told}
use Rattle.fs_closing.proofs.closing.step_entry.Goals as goal

pub apply-requires-clause-fact : goal.apply-requires-clause-fact
apply-requires-clause-fact c =
    let within : c.args.entry.from < length c.facts-facts.result.now = omega (arith, c.if-entry-facts.false) in
    c.facts-facts.ensures.within (claim_of c.index-facts-entry.result)
    (fact_has c.facts-facts.result.now c.args.entry.from c.index-facts-entry.result within c.index-facts-entry.is)

pub returns-then-entry-facts : goal.returns-then-entry-facts
returns-then-entry-facts c =
    let g = c.args.system.now in
    let work = work_of g.rules c.args.tasks.now in
    let past : length (slice_index_or g.rules c.args.entry.rule no_rule).claims ≤ c.args.entry.from =
    omega (arith, ap length c.facts-facts.ensures.value, length-map c.facts-facts.result.now claim_of, c.if-entry-facts.true) in
    let none = entry_ends g.rules c.args.entry.node c.args.entry.rule c.args.entry.from past in (
      subst (λ l. Turns (system_of g) (deep_of c.args.nodes.now) (l ++ work) (deep_of c.args.nodes.now) work) (sym none)
          (Turns-none (system_of g) (deep_of c.args.nodes.now) work),
      c.requires.sound,
    )

pub returns : goal.returns
returns c =
    let g = c.args.system.now in
    let n = c.args.entry.node in
    let r = c.args.entry.rule in
    let i = c.args.entry.from in
    let none : Claim = exists_at [] in
    let within : i < length c.facts-facts.result.now = omega (arith, c.if-entry-facts.false) in
    let fact = fact_at c.facts-facts.result.now i c.index-facts-entry.result _ none c.facts-facts.ensures.value within c.index-facts-entry.is in
    let next : Entry = record { node = n; rule = r; from = i + 1 } in
    let is = entry_step g.rules n r i none fact.1 ∙ ap (λ k. from n k ∷ entry_claims g.rules next) (sym fact.0) in
    steps_order g c.args.nodes.now _ (from n (claim_of c.index-facts-entry.result) ∷ work_of g.rules c.push_entry.new.self) c.apply.new.nodes c.apply.new.tasks c.in_ok-ok.ok
    (entry_same (from n (claim_of c.index-facts-entry.result)) (entry_claims g.rules next) (entry_claims g.rules c.args.entry) (work_of g.rules c.args.tasks.now)
    (work_of g.rules c.push_entry.new.self) is (c.in_ok-push_entry.ensures.work g.rules)) c.in_ok-ok.ensures.steps

pub returns-then-is_told_next : goal.returns-then-is_told_next
returns-then-is_told_next c =
    let g = c.args.system.now in
    let i = c.args.entry.from in
    let none : Claim = exists_at [] in
    let told = c.is_told_next.ensures none c.if-is_told_next.true in
    let sound = c.requires.sound in (
      entry_told g c.args.nodes.now c.args.entry none _ (work_of g.rules c.args.tasks.now) (work_of g.rules c.push_entry.new.self) c.facts-facts.ensures.value told
          (c.in_ok-push_entry.ensures.work g.rules),
      record {
        whole = sound.whole;
        within = sound.within;
        ready = c.in_ok-push_entry.ensures.ready _ _ _ c.requires.node c.requires.rule sound.ready;
      },
    )

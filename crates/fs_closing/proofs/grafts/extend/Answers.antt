use Rattle.std.proofs.Common.{◌≡◌, ◌≤◌, ◌+◌, None, [], ◌∷◌, sym, ◌∙◌, ap, subst, arith}
use Rattle.fs_closing.specs.NodeTable.{table_of, depth_of}
use Rattle.fs_model.specs.Table.{is_under}
use Rattle.fs_closing.specs.Rules.{system_of}
use Rattle.fs_closing.specs.Work.{work_of}
use Rattle.fs_closing.specs.Keeps.{Leads, Clashes, StepsTo, deep_of}
use Rattle.fs_closing.proofs.KeepsLemmas.{Turns-advance, Refutes-deep}
use Rattle.fs_closing.proofs.StepLemmas.{grown_bound, grown_clash, depth_added}
use Rattle.fs_closing.proofs.grafts.extend.Goals as goal

pub returns-in-Some-clause-leads : goal.returns-in-Some-clause-leads
returns-in-Some-clause-leads c =
    let is_l = c.live-from.ensures.value in
    λ d p. Turns-advance (system_of c.args.system.now) (deep_of c.args.nodes.now) c.args.node c.args.feat c.in-Some.to p d _
    (ap (λ k. (table_of c.args.nodes.now).arc k c.args.feat) (sym is_l) ∙ sym c.in-Some.ensures.value)

pub returns-then-depth-path_limit-clause-leads : goal.returns-then-depth-path_limit-clause-leads
returns-then-depth-path_limit-clause-leads c =
    let is_l = c.live-from.ensures.value in
    let deep : c.args.system.now.path_limit ≤ depth_of c.args.nodes.now c.live-from.result =
    omega (arith, c.depth_of-depth.ensures, c.path_limit.ensures.limit, c.if-depth-path_limit.true) in
    λ d p. Refutes-deep (system_of c.args.system.now) (deep_of c.args.nodes.now) c.args.node c.live-from.result c.args.feat p d _ (sym is_l) deep

pub returns-in-true-clause-leads : goal.returns-in-true-clause-leads
returns-in-true-clause-leads c =
    let g = c.args.system.now in
    let is_l = c.live-from.ensures.value in
    let none : None ≡ (table_of c.args.nodes.now).arc c.live-from.result c.args.feat = cc (c.in_default.is, c.in_default.ensures.value) in
    let pushed = depth_added c.args.nodes.now c.grow.new.nodes (c.depth_of-depth.result + 1) c.in_ok-to.ensures.depths in
    let bound = subst (StepsTo g c.grow.new.nodes (is_under c.live-from.result [] c.introducer-introducer.result ∷ work_of g.rules c.args.tasks.now)
    c.put_under.new.nodes c.put_under.new.tasks) c.in-true.is c.in_ok-put_under.ensures.steps in
    λ d p. grown_bound (system_of g) (deep_of c.args.nodes.now) (deep_of c.grow.new.nodes) (deep_of c.put_under.new.nodes) c.args.node c.live-from.result c.args.feat
    c.in_ok-to.to p d _ _ c.requires.bare is_l none c.in_ok-to.ensures.grows c.in_ok-to.ensures.place
    pushed.0 (pushed.1 c.in_ok-to.to c.in_ok-to.ensures.place ∙ ap (λ i. i + 1) c.depth_of-depth.ensures)
    (subst (λ i. Leads g c.grow.new.nodes (is_under c.live-from.result [] i ∷ work_of g.rules c.args.tasks.now) c.put_under.new.nodes
    (work_of g.rules c.put_under.new.tasks)) c.introducer-introducer.ensures.value bound.0)

pub returns-in-false-clause-leads : goal.returns-in-false-clause-leads
returns-in-false-clause-leads c =
    let g = c.args.system.now in
    let is_l = c.live-from.ensures.value in
    let none : None ≡ (table_of c.args.nodes.now).arc c.live-from.result c.args.feat = cc (c.in_default.is, c.in_default.ensures.value) in
    let pushed = depth_added c.args.nodes.now c.grow.new.nodes (c.depth_of-depth.result + 1) c.in_ok-to.ensures.depths in
    let bound = subst (StepsTo g c.grow.new.nodes (is_under c.live-from.result [] c.introducer-introducer.result ∷ work_of g.rules c.args.tasks.now)
    c.put_under.new.nodes c.put_under.new.tasks) c.in-false.is c.in_ok-put_under.ensures.steps in
    λ d p. grown_clash (system_of g) (deep_of c.args.nodes.now) (deep_of c.grow.new.nodes) c.args.node c.live-from.result c.args.feat
    c.in_ok-to.to p d _ c.requires.bare is_l none c.in_ok-to.ensures.grows c.in_ok-to.ensures.place
    pushed.0 (pushed.1 c.in_ok-to.to c.in_ok-to.ensures.place ∙ ap (λ i. i + 1) c.depth_of-depth.ensures)
    (subst (λ i. Clashes g c.grow.new.nodes (is_under c.live-from.result [] i ∷ work_of g.rules c.args.tasks.now)) c.introducer-introducer.ensures.value bound)

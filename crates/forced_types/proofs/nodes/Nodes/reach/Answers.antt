use Rattle.std.proofs.Common.{◌≡◌, ◌≤◌, ◌+◌, [], ◌∷◌, ◌++◌, take, drop, length, slice_index_or, arith, refl, sym, subst, append-nil, length-append}
use Rattle.std.proofs.lemmas.List.{length-map, length-take-le, take_all}
use Rattle.fs_model.specs.Claims.{exists_at, same}
use Rattle.fs_model.specs.Sources.{Told}
use Rattle.fs_graph.specs.declared.facts.Feat.{Feat}
use Rattle.fs_graph.specs.Facts.{path_of}
use Rattle.fs_closing.specs.Rules.{system_of}
use Rattle.fs_closing.proofs.StepLemmas.{path_feature}
use Rattle.forced_types.specs.Forced.{same_refl, same_trans}
use Rattle.forced_types.specs.Inner.Sound.{Forces, IsEnd, most_of, path_in, source_in}
use Rattle.forced_types.proofs.ForcedLemmas.{forced_within}
use Rattle.forced_types.proofs.SoundLemmas.{entry_count}
use Rattle.forced_types.proofs.StepLemmas.{keeps_on, path_more, path_split}
use Rattle.forced_types.proofs.nodes.Nodes.reach.Goals as goal

pub loop-feat-init : goal.loop-feat-init
loop-feat-init c =
    let t = c.args.self.now in
    let P = path_in t c.args.n in
    let there = (c.requires.sound.entries.each c.args.n (omega (arith, entry_count t, c.requires.node))).there in
    let short : length P ≤ most_of c.args.given = forced_within (system_of c.args.given.system.now) (most_of c.args.given) (Told (source_in c.args.given)) (exists_at P) there in
    record {
      sound = c.requires.sound;
      keeps = record { more = omega arith; same_at = λ _ _. refl };
      end = record { inside = c.requires.node; equal = subst (λ x. Forces c.args.given (same x P)) (sym (append-nil P)) (same_refl P there) };
      left = omega (arith, c.saturating_sub-left.ensures, c.most.ensures, c.depth-depth.ensures, short);
    }

pub step-requires-clause-feat : goal.step-requires-clause-feat
step-requires-clause-feat c =
    let d : Feat = record { 0 = 0 } in
    path_feature c.args.path.now c.loop-feat.feat-index _ d c.loop-feat-test.true c.requires.feats

pub step-requires-clause-on : goal.step-requires-clause-on
step-requires-clause-on c =
    let d : Feat = record { 0 = 0 } in
    let i = c.loop-feat.feat-index in
    let P = path_in c.args.self.now c.args.n in
    let pi = path_of c.args.path.now in
    let f = (slice_index_or c.args.path.now i d).0 in
    let small : i ≤ length pi = omega (arith, length-map c.args.path.now (λ (x : Feat). x.0), c.loop-feat-test.true) in
    let long : length ((P ++ take i pi) ++ f ∷ []) ≤ most_of c.args.given =
    omega (arith, length-append (P ++ take i pi) (f ∷ []), length-append P (take i pi), length-take-le i pi small, c.loop-feat.invariant.left, c.if-left-eq0.false) in
    record {
      other = P ++ take i pi;
      equal = same_trans _ _ _ c.loop-feat.invariant.end.equal c.live-live.ensures.same;
      on = c.requires.fronts ((P ++ take i pi) ++ f ∷ []) (drop (i + 1) pi) (path_split P c.args.path.now i d c.loop-feat-test.true) long;
    }

pub loop-feat-preserved : goal.loop-feat-preserved
loop-feat-preserved c =
    let d : Feat = record { 0 = 0 } in
    let i = c.loop-feat.feat-index in
    let P = path_in c.args.self.now c.args.n in
    let pi = path_of c.args.path.now in
    let f = (slice_index_or c.args.path.now i d).0 in
    let some = rw c.in-Some.is at c.in_ok-to.ensures.end in
    let small : i ≤ length pi = omega (arith, length-map c.args.path.now (λ (x : Feat). x.0), c.loop-feat-test.true) in
    let long : length ((P ++ take i pi) ++ f ∷ []) ≤ most_of c.args.given =
    omega (arith, length-append (P ++ take i pi) (f ∷ []), length-append P (take i pi), length-take-le i pi small, c.loop-feat.invariant.left, c.if-left-eq0.false) in
    let equal = same_trans _ _ _ c.loop-feat.invariant.end.equal c.live-live.ensures.same in
    let on = c.requires.fronts ((P ++ take i pi) ++ f ∷ []) (drop (i + 1) pi) (path_split P c.args.path.now i d c.loop-feat-test.true) long in
    record {
      sound = c.in_ok-to.ensures.sound;
      keeps = keeps_on _ _ _ c.loop-feat.invariant.keeps c.in_ok-to.ensures.keeps;
      end = record {
        inside = some.inside;
        equal = subst (λ x. Forces c.args.given (same x (path_in c.step.new.self c.in-Some.to))) (path_more P c.args.path.now i d c.loop-feat-test.true)
            (some.leads (P ++ take i pi) equal on);
      };
      left = omega (arith, c.loop-feat.invariant.left, c.if-left-eq0.false);
    }

pub returns-clause-end : goal.returns-clause-end
returns-clause-end c =
    let P = path_in c.args.self.now c.args.n in
    let whole : take c.loop-feat.feat-index (path_of c.args.path.now) ≡ path_of c.args.path.now =
    take_all c.loop-feat.feat-index (path_of c.args.path.now) (omega (arith, length-map c.args.path.now (λ (x : Feat). x.0), c.loop-feat-test.false)) in
    subst (λ x. IsEnd c.args.given c.loop-feat.self (P ++ x) c.loop-feat.at) whole c.loop-feat.invariant.end

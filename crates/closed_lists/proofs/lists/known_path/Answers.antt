use Rattle.std.proofs.Common.{◌≡◌, ◌∙◌, None, Some, refl, sym}
use Rattle.std.specs.Option.{option_map}
use Rattle.std.proofs.lemmas.List.{get_or_default}
use Rattle.closed_lists.proofs.ListLemmas.{unknown_at, known_next}
use Rattle.closed_lists.proofs.lists.known_path.Goals as goal

pub returns-in-None : goal.returns-in-None
returns-in-None c = λ known e. unknown_at (option_map (λ f. f.0)) c.args.path.now c.loop-feat.feat-index None known c.loop-feat-test.true (sym c.in-None.is) refl e

pub loop-feat-preserved : goal.loop-feat-preserved
loop-feat-preserved c =
    known_next (option_map (λ f. f.0)) (λ f. f.0) c.args.path.now c.loop-feat.feat-index (Some c.in-Some.feat) c.in-Some.feat c.loop-feat.known.items c.push.new.self.items c.loop-feat-test.true
    (sym c.in-Some.is ∙ get_or_default c.args.path.now c.loop-feat.feat-index None (Some c.in-Some.feat) c.loop-feat-test.true) refl c.in_ok-push-in-Some.ensures.items c.loop-feat.invariant

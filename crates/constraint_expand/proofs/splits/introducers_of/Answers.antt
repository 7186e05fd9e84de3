use Rattle.std.proofs.Common.{◌<◌, ◌≤◌, length, sym, subst, arith}
use Rattle.std.specs.List.{AllZip}
use Rattle.std.specs.String.{string_bytes}
use Rattle.std.proofs.lemmas.List.{take_all}
use Rattle.fs_model.specs.Claims.{Has}
use Rattle.type_hierarchy.specs.Decls.{texts}
use Rattle.constraint_expand.specs.Introducers.{numbers_of, IsIntroducer}
use Rattle.constraint_expand.specs.Found.{numbers_noted}
use Rattle.type_facts.proofs.ListLemmas.{Has-read, Has-map}
use Rattle.constraint_expand.proofs.SplitLemmas.{zip_next}
use Rattle.constraint_expand.proofs.splits.introducers_of.Goals as goal

pub introducer_of-requires-clause-noted : goal.introducer_of-requires-clause-noted
introducer_of-requires-clause-noted c =
    let xs = c.args.feats.now in
    let i = c.loop-feat.feat-index in
    let within : i < length xs = omega arith in
    c.requires.noted c.as_str.result.now
    (subst (λ f. Has f (texts xs)) (sym c.as_str.ensures.value) (Has-map string_bytes c.feat-item.result xs (Has-read xs i c.feat-item.result within c.feat-item.is)))

pub introducer_of-requires-clause-introduced : goal.introducer_of-requires-clause-introduced
introducer_of-requires-clause-introduced c =
    let xs = c.args.feats.now in
    let i = c.loop-feat.feat-index in
    let within : i < length xs = omega arith in
    c.requires.introduced c.as_str.result.now
    (subst (λ f. Has f (texts xs)) (sym c.as_str.ensures.value) (Has-map string_bytes c.feat-item.result xs (Has-read xs i c.feat-item.result within c.feat-item.is)))

pub loop-feat-preserved : goal.loop-feat-preserved
loop-feat-preserved c =
    let xs = c.args.feats.now in
    let i = c.loop-feat.feat-index in
    let within : i < length xs = omega arith in
    zip_next (λ f t. IsIntroducer c.args.types.now (numbers_noted c.args.writers.now.entries f) t) xs i c.feat-item.result _ _ c.introducer_of.result within c.feat-item.is c.in_ok-push.ensures.items
    c.loop-feat.invariant (subst (λ f. IsIntroducer c.args.types.now (numbers_noted c.args.writers.now.entries f) c.introducer_of.result.0) c.as_str.ensures.value c.introducer_of.ensures)

pub returns : goal.returns
returns c =
    let xs = c.args.feats.now in
    let past : length xs ≤ c.loop-feat.feat-index = omega arith in
    subst (λ l. AllZip (λ f t. IsIntroducer c.args.types.now (numbers_noted c.args.writers.now.entries f) t) (texts l) (numbers_of c.loop-feat.introducers.items)) (take_all c.loop-feat.feat-index xs past) c.loop-feat.invariant

use Rattle.std.proofs.Common.{◌≡◌, ◌<◌, ◌≤◌, ◌∙◌, length, map, get_or, ap, sym, subst, arith}
use Rattle.std.specs.String.{string_bytes}
use Rattle.std.proofs.lemmas.List.{length-map}
use Rattle.fs_model.specs.Claims.{Has}
use Rattle.type_hierarchy.specs.Decls.{texts}
use Rattle.grammar_files.specs.Placings.{placed_of}
use Rattle.constraint_expand.specs.Found.{numbers_noted, HasNoted, IsSplitAmong}
use Rattle.type_facts.proofs.ListLemmas.{Has-read, Has-map}
use Rattle.constraint_expand.proofs.NumberLemmas.{text_at}
use Rattle.constraint_expand.proofs.MissingLemmas.{at_exit}
use Rattle.constraint_expand.proofs.SplitLemmas.{split_here, introduced_next, introduced_all}
use Rattle.constraint_expand.proofs.splits.check_introducers.Goals as goal

pub check_feature-requires-clause-noted : goal.check_feature-requires-clause-noted
check_feature-requires-clause-noted c =
    let xs = c.args.features.now.keys in
    let i = c.loop-feature.feature-index in
    let same : c.as_slice-feature-items.result.now ≡ xs = c.as_slice-feature-items.ensures.keys in
    let within : i < length xs = omega (arith, ap length same) in
    let is : c.feature-item.result ≡ get_or xs i c.feature-item.result = c.feature-item.is ∙ ap (λ l. get_or l i c.feature-item.result) same in
    c.requires.noted c.as_str.result.now
    (subst (λ f. Has f (texts xs)) (sym c.as_str.ensures.value) (Has-map string_bytes c.feature-item.result xs (Has-read xs i c.feature-item.result within is)))

pub check_feature-requires-clause-defined : goal.check_feature-requires-clause-defined
check_feature-requires-clause-defined c = λ t h.
    let xs = c.args.features.now.keys in
    let i = c.loop-feature.feature-index in
    let same : c.as_slice-feature-items.result.now ≡ xs = c.as_slice-feature-items.ensures.keys in
    let within : i < length xs = omega (arith, ap length same) in
    let is : c.feature-item.result ≡ get_or xs i c.feature-item.result = c.feature-item.is ∙ ap (λ l. get_or l i c.feature-item.result) same in
    c.requires.defined c.as_str.result.now t
    (subst (λ f. Has f (texts xs)) (sym c.as_str.ensures.value) (Has-map string_bytes c.feature-item.result xs (Has-read xs i c.feature-item.result within is))) h

pub loop-feature-preserved : goal.loop-feature-preserved
loop-feature-preserved c =
    let xs = c.args.features.now.keys in
    let i = c.loop-feature.feature-index in
    let same : c.as_slice-feature-items.result.now ≡ xs = c.as_slice-feature-items.ensures.keys in
    let within : i < length xs = omega (arith, ap length same) in
    let is : c.feature-item.result ≡ get_or xs i c.feature-item.result = c.feature-item.is ∙ ap (λ l. get_or l i c.feature-item.result) same in
    introduced_next c.args.types.now (numbers_noted c.args.writers.now.entries) (texts xs) i c.loop-feature.invariant
    (subst (λ f. HasNoted c.args.types.now (numbers_noted c.args.writers.now.entries f))
    (c.as_str.ensures.value ∙ sym (text_at xs i c.feature-item.result within is)) c.in_ok-check_feature.ensures.introduced)

pub returns-in_err-check_feature-clause-fault : goal.returns-in_err-check_feature-clause-fault
returns-in_err-check_feature-clause-fault c =
    let types = c.args.types.now in
    let ps = map placed_of c.args.statements.now in
    let writers = numbers_noted c.args.writers.now.entries in
    let xs = c.args.features.now.keys in
    let i = c.loop-feature.feature-index in
    let same : c.as_slice-feature-items.result.now ≡ xs = c.as_slice-feature-items.ensures.keys in
    let within : i < length xs = omega (arith, ap length same) in
    let is : c.feature-item.result ≡ get_or xs i c.feature-item.result = c.feature-item.is ∙ ap (λ l. get_or l i c.feature-item.result) same in
    at_exit (IsSplitAmong types ps writers (texts xs)) c.from_residual.result c.in_err-check_feature.field-0.0 c.from_residual.ensures.1
    (split_here types ps writers (texts xs) i c.as_str.result.now c.in_err-check_feature.field-0.0 (omega (arith, length-map xs string_bytes))
    (text_at xs i c.feature-item.result within is ∙ sym c.as_str.ensures.value) c.loop-feature.invariant c.in_err-check_feature.ensures.fault)

pub returns-clause-introduced : goal.returns-clause-introduced
returns-clause-introduced c =
    let xs = c.args.features.now.keys in
    let same : c.as_slice-feature-items.result.now ≡ xs = c.as_slice-feature-items.ensures.keys in
    let past : length (texts xs) ≤ c.loop-feature.feature-index = omega (arith, length-map xs string_bytes, ap length same) in
    introduced_all c.args.types.now (numbers_noted c.args.writers.now.entries) (texts xs) c.loop-feature.feature-index past c.loop-feature.invariant

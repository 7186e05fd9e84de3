use Rattle.derivation.specs.declared.Tree.{Tree}
use Rattle.std.proofs.Common.{◌+◌, Vec, Global, ap, ◌∙◌, arith}
use Rattle.std.specs.Arc.{arc_value}
use Rattle.std.specs.declared.sync.Arc.{Arc}
use Rattle.std.specs.Ordering.{nat_cmp}
use Rattle.derivation.specs.Counts.{words_left}
use Rattle.derivation.proofs.Weights.{words_of-opened, weight_of-opened, weight_left}
use Rattle.derivation.proofs.counts.+walk.Goals as goal

pub owe-owe-requires-in-Some-Phrase-default : goal.owe-owe-requires-in-Some-Phrase-default
owe-owe-requires-in-Some-Phrase-default t c =
    let arm = c.in-Some-Phrase-default in
    let opened = weight_of-opened c.in-Trees.trees.now arm.more.now c.deref-in-Some-Phrase-default-2.result.now arm.field-0-0.now arm.field-0-0-0 arm.field-0-0-1 arm.daughters arm.ensures.cases.0 arm.field-0-0-is (c.deref-in-Some-Phrase-default-2.ensures.value ∙ ap (λ (ds : Vec Tree Global). ds.items) (c.deref-in-Some-Phrase-default.ensures ∙ ap (λ (ds : Arc (Vec Tree Global) Global). arc_value ds) arm.daughters-is)) in
    let is = ap weight_left c.in-Trees.is in
    (omega arith, tt)

pub owe-returns-in-Some-Phrase-default : goal.owe-returns-in-Some-Phrase-default
owe-returns-in-Some-Phrase-default t c =
    let arm = c.in-Some-Phrase-default in
    let opened = words_of-opened c.in-Trees.trees.now arm.more.now c.deref-in-Some-Phrase-default-2.result.now arm.field-0-0.now arm.field-0-0-0 arm.field-0-0-1 arm.daughters arm.ensures.cases.0 arm.field-0-0-is (c.deref-in-Some-Phrase-default-2.ensures.value ∙ ap (λ (ds : Vec Tree Global). ds.items) (c.deref-in-Some-Phrase-default.ensures ∙ ap (λ (ds : Arc (Vec Tree Global) Global). arc_value ds) arm.daughters-is)) in
    let is = ap words_left c.in-Trees.is in
    c.owe-in-Some-Phrase-default.ensures ∙ ap (λ n. nat_cmp n (words_left c.args.other.now)) (omega arith)

pub pay-pay-requires-in-Some-Phrase-default : goal.pay-pay-requires-in-Some-Phrase-default
pay-pay-requires-in-Some-Phrase-default t c =
    let arm = c.in-Some-Phrase-default in
    let opened = weight_of-opened c.in-Trees.trees.now arm.more.now c.deref-in-Some-Phrase-default-2.result.now arm.field-0-0.now arm.field-0-0-0 arm.field-0-0-1 arm.daughters arm.ensures.cases.0 arm.field-0-0-is (c.deref-in-Some-Phrase-default-2.ensures.value ∙ ap (λ (ds : Vec Tree Global). ds.items) (c.deref-in-Some-Phrase-default.ensures ∙ ap (λ (ds : Arc (Vec Tree Global) Global). arc_value ds) arm.daughters-is)) in
    let is = ap weight_left c.in-Trees.is in
    (omega arith, tt)

pub pay-returns-in-Some-Phrase-default : goal.pay-returns-in-Some-Phrase-default
pay-returns-in-Some-Phrase-default t c =
    let arm = c.in-Some-Phrase-default in
    let opened = words_of-opened c.in-Trees.trees.now arm.more.now c.deref-in-Some-Phrase-default-2.result.now arm.field-0-0.now arm.field-0-0-0 arm.field-0-0-1 arm.daughters arm.ensures.cases.0 arm.field-0-0-is (c.deref-in-Some-Phrase-default-2.ensures.value ∙ ap (λ (ds : Vec Tree Global). ds.items) (c.deref-in-Some-Phrase-default.ensures ∙ ap (λ (ds : Arc (Vec Tree Global) Global). arc_value ds) arm.daughters-is)) in
    let is = ap words_left c.in-Trees.is in
    c.pay-in-Some-Phrase-default.ensures ∙ ap (nat_cmp (c.args.owed + words_left c.args.left.now)) (omega arith)

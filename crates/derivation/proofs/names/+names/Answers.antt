use Rattle.std.proofs.Common.{map, Vec, Global, sym, ap, subst, ◌∙◌, arith}
use Rattle.derivation.specs.declared.Tree.{Tree}
use Rattle.derivation.specs.Text.{IsNamed, AreNamed}
use Rattle.derivation.specs.Views.{derivation_of, in_order}
use Rattle.derivation.proofs.Texts.{named_at, named_more, named-Phrase, Phrase-named}
use Rattle.derivation.proofs.Weights.{weight, weight_of, weight-Phrase}
use Rattle.derivation.proofs.names.+names.Goals as goal

pub are_named-returns-then-not-is_named : goal.are_named-returns-then-not-is_named
are_named-returns-then-not-is_named t c =
    let at = named_at c.args.count c.args.daughters.now c.loop-daughter.daughter-index c.daughter-item.result in
    let is = c.is_named.ensures in
    (λ e. cc, λ named. let told = is.1 (subst (λ d. IsNamed c.args.count (derivation_of d)) (sym c.daughter-item.is) (at named c.loop-daughter-test.true)) in sym c.if-not-is_named.true ∙ told)

pub are_named-loop-daughter-preserved : goal.are_named-loop-daughter-preserved
are_named-loop-daughter-preserved t c =
    named_more c.args.count c.args.daughters.now c.loop-daughter.daughter-index c.daughter-item.result c.loop-daughter-test.true c.daughter-item.is
    c.loop-daughter.invariant (c.is_named.ensures.0 c.if-not-is_named.false)

pub is_named-are_named-requires : goal.is_named-are_named-requires
is_named-are_named-requires t c =
    let whole = weight-Phrase c.in-Phrase.rule c.in-Phrase.words c.in-Phrase.daughters in
    let is = ap (λ d. weight (derivation_of d)) c.in-Phrase.is in
    let same = ap weight_of (c.deref-then-rule-count-2.ensures.value ∙ ap (λ (ds : Vec Tree Global). ds.items) c.deref-then-rule-count.ensures) in
    (omega arith, tt)

pub is_named-returns-then-rule-count : goal.is_named-returns-then-rule-count
is_named-returns-then-rule-count t c =
    let n = c.args.count in
    let same = c.deref-then-rule-count-2.ensures.value ∙ ap (λ (ds : Vec Tree Global). ds.items) c.deref-then-rule-count.ensures in
    let is = c.in-Phrase.is in (
      λ told. subst (λ d. IsNamed n (derivation_of d)) (sym is) (Phrase-named n c.in-Phrase.rule c.in-Phrase.words c.in-Phrase.daughters c.if-rule-count.true
          (subst (λ ts. AreNamed n (in_order (map derivation_of ts))) same (c.are_named.ensures.0 told))),
      λ named. c.are_named.ensures.1 (subst (λ ts. AreNamed n (in_order (map derivation_of ts))) (sym same)
          (named-Phrase n c.in-Phrase.rule c.in-Phrase.words c.in-Phrase.daughters (subst (λ d. IsNamed n (derivation_of d)) is named)).1),
    )

use Rattle.std.proofs.Common.{◌≡◌, ◌++◌, ◌∷◌, [], length, map, vec_len, Vec, Global, sym, ap, subst, ◌∙◌, arith}
use Rattle.std.specs.Arc.{arc_value}
use Rattle.derivation.specs.declared.Tree.{Tree}
use Rattle.std.specs.String.{string_bytes}
use Rattle.derivation.specs.Text.{IsNamed, AreNamed, daughters_text, text_of, words_text, nodes_text, openings, name_of}
use Rattle.derivation.specs.Views.{derivation_of, in_order}
use Rattle.std.proofs.lemmas.Result.{on_ok_weaker}
use Rattle.derivation.proofs.Weights.{weight, weight_of, weight_at, weight-Phrase}
use Rattle.derivation.proofs.Rows.{derivation_of-Lexical}
use Rattle.derivation.proofs.Fronts.{on_err, front_byte}
use Rattle.derivation.proofs.Texts.{named_at, named-Phrase, daughter_more, text_of-Phrase, lexical_written, phrase_written}
use Rattle.derivation.proofs.text.+texts.Goals as goal

pub put_daughters-put_tree-requires : goal.put_daughters-put_tree-requires
put_daughters-put_tree-requires t c =
    let named = named_at (length c.args.names.now) c.args.daughters.now c.loop-daughter.daughter-index c.daughter-item.result c.requires c.loop-daughter-test.true in
    let light = weight_at c.args.daughters.now c.loop-daughter.daughter-index c.daughter-item.result c.loop-daughter-test.true in
    let is = ap (λ d. weight (derivation_of d)) c.daughter-item.is in
    (omega arith, subst (λ d. IsNamed (length c.args.names.now) (derivation_of d)) (sym c.daughter-item.is) named)

pub put_daughters-returns-in_err-put_tree-clause-err : goal.put_daughters-returns-in_err-put_tree-clause-err
put_daughters-returns-in_err-put_tree-clause-err t c =
    on_err _ (front_byte _ _ _ _ _ _ c.loop-daughter.invariant c.in_ok-push.ensures.items c.in_err-put_tree.ensures.err)

pub put_daughters-loop-daughter-preserved : goal.put_daughters-loop-daughter-preserved
put_daughters-loop-daughter-preserved t c =
    daughter_more (map string_bytes c.args.names.now) c.args.asked c.args.daughters.now c.loop-daughter.daughter-index c.daughter-item.result _ _ _ _
    c.loop-daughter-test.true c.daughter-item.is c.loop-daughter.invariant c.in_ok-push.ensures.items c.in_ok-put_tree.ensures.ok

pub put_tree-put_daughters-requires : goal.put_tree-put_daughters-requires
put_tree-put_daughters-requires t c =
    let n = length c.args.names.now in
    let named = named-Phrase n c.in-Phrase.rule c.in-Phrase.words c.in-Phrase.daughters (subst (λ d. IsNamed n (derivation_of d)) c.in-Phrase.is c.requires) in
    let whole = weight-Phrase c.in-Phrase.rule c.in-Phrase.words c.in-Phrase.daughters in
    let is = ap (λ d. weight (derivation_of d)) c.in-Phrase.is in
    let read = c.deref-in-Phrase-2.ensures.value ∙ ap (λ (ds : Vec Tree Global). ds.items) c.deref-in-Phrase.ensures in
    let same = ap weight_of read in
    (omega arith, subst (λ ts. AreNamed n (in_order (map derivation_of ts))) (sym read) named.1)

pub put_tree-returns-in_ok-put_nodes-in-Lexical-clause-ok : goal.put_tree-returns-in_ok-put_nodes-in-Lexical-clause-ok
put_tree-returns-in_ok-put_nodes-in-Lexical-clause-ok t c =
    let names = map string_bytes c.args.names.now in
    let old = c.args.into.now.items in
    let a = c.in-Lexical in
    let words = words_text (map string_bytes (arc_value a.words).items) in
    let rules_put : c.put_rules.new.into.items ≡ old ++ openings names (arc_value a.rules).items = cc (c.in_ok-put_rules-in-Lexical.ensures.ok) in
    let name_put : c.put_name.new.into.items ≡ c.put_rules.new.into.items ++ (40 ∷ name_of names a.entry) = c.in_ok-put_name-in-Lexical.ensures.ok in
    let words_put : c.put_words.new.into.items ≡ c.put_name.new.into.items ++ words = cc (c.in_ok-put_words-in-Lexical.ensures.ok) in
    let nodes_put : c.put_nodes.new.into.items ≡ c.put_words.new.into.items ++ nodes_text c.args.asked a.nodes = c.in_ok-put_nodes-in-Lexical.ensures.ok in
    let long : c.len.result ≡ vec_len (arc_value a.rules) = cc (c.len.ensures) in
    on_ok_weaker c.close.result
    (λ closed. lexical_written names (arc_value a.rules).items a.entry _ words (nodes_text c.args.asked a.nodes) old _ _ _ _ _ (omega (arith, long, (arc_value a.rules).ok.0)) rules_put name_put words_put nodes_put closed
    ∙ ap (λ d. old ++ text_of names c.args.asked d) (sym (derivation_of-Lexical a.entry a.rules a.words a.nodes))
    ∙ ap (λ d. old ++ text_of names c.args.asked (derivation_of d)) (sym a.is))
    c.close.ensures.ok

pub put_tree-returns-in_ok-put_daughters-in-Phrase-clause-ok : goal.put_tree-returns-in_ok-put_daughters-in-Phrase-clause-ok
put_tree-returns-in_ok-put_daughters-in-Phrase-clause-ok t c =
    let names = map string_bytes c.args.names.now in
    let old = c.args.into.now.items in
    let a = c.in-Phrase in
    let texts = daughters_text names c.args.asked (in_order (map derivation_of (arc_value a.daughters).items)) in
    let daughters_put : c.put_daughters.new.into.items ≡ c.put_name-in-Phrase.new.into.items ++ texts = cc (c.in_ok-put_daughters-in-Phrase.ensures.ok) in
    on_ok_weaker c.close-in-Phrase.result
    (λ closed. phrase_written old _ _ _ (40 ∷ name_of names a.rule) texts (41 ∷ []) c.in_ok-put_name-in-Phrase.ensures.ok daughters_put closed
    ∙ ap (λ zs. old ++ zs) (sym (text_of-Phrase names c.args.asked a.rule a.words a.daughters))
    ∙ ap (λ d. old ++ text_of names c.args.asked (derivation_of d)) (sym a.is))
    c.close-in-Phrase.ensures.ok

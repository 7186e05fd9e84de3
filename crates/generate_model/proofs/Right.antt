-- Chart, unpacking and texts give the answer for generation.
use Rattle.std.specs.Prelude.{ℕ, ◌↔◌, List}
use Rattle.derivation.specs.Trees.{Derivation}
use Rattle.tree_model.specs.Items as item
use Rattle.tree_model.specs.Items.{LeafTree, AreLeaves, AreExactly, AreMoreThan, Limits}
use Rattle.tree_model.proofs.Bridge.{answers_are_right}
use Rattle.tree_model.proofs.Orders.{not_more}
use Rattle.generate_model.specs.Realizations.{gen_item}
use Rattle.generate_model.specs.Sentences.{Sentence, AreSentences, LexicalDepth, ByUnaryChain, ByEdges, Readings, Sentences, GenerationIsRight}
use Rattle.generate_model.proofs.Generated.{realizations_are_wanted, generation_is_item}

sentences_of : {P Q : Derivation → Type 0} → ((t : Derivation) → P t ↔ Q t) → (ss : List Sentence) → AreSentences P ss → AreSentences Q ss
sentences_of f ss x = record {
  each = λ s h. let z = x.each s h in record { is = (f s.tree).0 z.is; text = z.text; least = λ t q e l. z.least t ((f t).1 q) e l };
  all = λ t q. x.all t ((f t).1 q);
  rise = x.rise;
}

exactly_of : {P Q : Derivation → Type 0} → ((t : Derivation) → P t ↔ Q t) → (ts : List Derivation) → AreExactly P ts → AreExactly Q ts
exactly_of f ts x = record { ordered = x.ordered; each = λ t h. (f t).0 (x.each t h); all = λ t q. x.all t ((f t).1 q) }

more_of : {P Q : Derivation → Type 0} → ((t : Derivation) → P t ↔ Q t) → (n : ℕ) → AreMoreThan P n → AreMoreThan Q n
more_of f n x = record { trees = x.trees; ordered = x.ordered; each = λ t h. (f t).0 (x.each t h); more = x.more }

pub generation_is_right : GenerationIsRight
generation_is_right g o words asked r z own told limits flat ls leaves LexicalDepth f = absurd f
generation_is_right g o words asked r z own told limits flat ls leaves ByUnaryChain f = (flat, (ls, leaves, f))
generation_is_right g o words asked r z own told limits flat ls leaves ByEdges f = (flat, (ls, leaves, f))
generation_is_right g o words asked r z own told limits flat ls leaves Readings f =
    let a = answers_are_right (gen_item g words asked r z own) g o (generation_is_item g o words asked r z own told) limits flat ls leaves item.Readings f in
    (flat, (ls, leaves, (f.0.within, more_of (realizations_are_wanted g o words asked r z own told) limits.readings a.1.2.1)))
generation_is_right g o words asked r z own told limits flat ls leaves (Sentences classes ss) f =
    let ts = f.0 in
    let a = answers_are_right (gen_item g words asked r z own) g o (generation_is_item g o words asked r z own told) limits flat ls leaves (item.Trees classes ts) f.1 in
    let x = exactly_of (realizations_are_wanted g o words asked r z own told) ts a.1.2.2 in
    (flat, (ls, leaves, (f.1.0.within, f.1.1, λ m. not_more ts m x f.1.3, sentences_of (λ t. (x.each t, x.all t)) ss f.2)))

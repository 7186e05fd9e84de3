-- Words with spaces before them, and joined.
use Rattle.std.specs.Prelude.{ℕ, ◌≡◌, ◌+◌, ◌<◌, Option, None, Some, unwrap_or, List, [], ◌∷◌, ◌++◌, length, map, take}
use Rattle.std.proofs.Common.{refl, sym, ◌∙◌, ap, arith, append_assoc, append-nil, String, Global, get_or}
use Rattle.std.specs.String.{string_bytes}
use Rattle.std.proofs.lemmas.List.{take_more, map-append}
use Rattle.std.proofs.lemmas.List.Concat.{flat_map-append}
use Rattle.derivation.specs.Views.{derivation_of, in_order}
use Rattle.derivation.specs.declared.Tree.{Tree}
use Rattle.tree_model.specs.Lexical.{Word}
use Rattle.generate_model.specs.Sentences.{joined, text_of, yield, yields}
use Rattle.realized_trees.specs.TreeInner.{spaced, said, with_text}
use Rattle.realized_trees.specs.Views.{sentence_seen}
use Rattle.realized_trees.specs.declared.sentence.Sentence.{Sentence}

-- the words of these trees and of one more
yields_more : (ts : List Tree) (t : Tree) → yields (in_order (map derivation_of (ts ++ t ∷ []))) ≡ yields (in_order (map derivation_of ts)) ++ yield (derivation_of t)
yields_more [] t = append-nil (yield (derivation_of t))
yields_more (u ∷ ts) t = ap (λ ws. yield (derivation_of u) ++ ws) (yields_more ts t) ∙ sym (append_assoc (yield (derivation_of u)) (yields (in_order (map derivation_of ts))) (yield (derivation_of t)))

spaced_more : (ts : List Tree) (t : Tree) → spaced (yields (in_order (map derivation_of (ts ++ t ∷ [])))) ≡ spaced (yields (in_order (map derivation_of ts))) ++ spaced (yield (derivation_of t))
spaced_more ts t = ap spaced (yields_more ts t) ∙ flat_map-append (λ w. 32 ∷ w) (yields (in_order (map derivation_of ts))) (yield (derivation_of t))

-- joined words are spaced ones without the first space
spaced_joined : (w : Word) (ws : List Word) → spaced (w ∷ ws) ≡ 32 ∷ joined (w ∷ ws)
spaced_joined w [] = ap (λ u. 32 ∷ u) (append-nil w)
spaced_joined w (v ∷ vs) = ap (λ u. (32 ∷ w) ++ u) (spaced_joined v vs)

pub tree_more : (ts : List Tree) (i : ℕ) (t : Tree) → i < length ts → t ≡ get_or ts i t → (old mid new : Word) → mid ≡ old ++ spaced (yields (in_order (map derivation_of (take i ts)))) → new ≡ mid ++ spaced (yield (derivation_of t)) →
    new ≡ old ++ spaced (yields (in_order (map derivation_of (take (i + 1) ts))))
tree_more ts i t lt at old mid new e f =
    let whole : take i ts ++ t ∷ [] ≡ take (i + 1) ts = ap (λ u. take i ts ++ u ∷ []) at ∙ sym (take_more ts i t lt) in
    f ∙ ap (λ m. m ++ spaced (yield (derivation_of t))) e
    ∙ append_assoc old (spaced (yields (in_order (map derivation_of (take i ts))))) (spaced (yield (derivation_of t)))
    ∙ ap (λ m. old ++ m) (sym (spaced_more (take i ts) t) ∙ ap (λ us. spaced (yields (in_order (map derivation_of us)))) whole)

abbrev without_first : Word → Word
without_first [] = []
without_first (c ∷ cs) = cs

-- a line without its first space is the text of its words
pub line_is : (line : Option (String Global)) (ws : List Word) (none : String Global) → said line ≡ spaced ws → string_bytes none ≡ [] → string_bytes (unwrap_or line none) ≡ joined ws
line_is None [] none e n = n
line_is None (w ∷ ws) none e n = absurd (omega (arith, ap length e))
line_is (Some text) [] none e n = absurd (omega (arith, ap length e))
line_is (Some text) (w ∷ ws) none e n = ap without_first (e ∙ spaced_joined w ws)

-- one tree more with its text
pub told_more : (xs : List Sentence) (s : Sentence) (ts : List Tree) (t : Tree) → s.tree ≡ t → string_bytes s.text ≡ text_of (derivation_of t) → map sentence_seen xs ≡ map with_text (map derivation_of ts) →
    map sentence_seen (xs ++ s ∷ []) ≡ map with_text (map derivation_of (ts ++ t ∷ []))
told_more xs s ts t e f told =
    map-append sentence_seen xs (s ∷ [])
    ∙ ap (λ us. us ++ sentence_seen s ∷ []) told
    ∙ (λ i. map with_text (map derivation_of ts) ++ record { text = f i; tree = derivation_of (e i) } ∷ [])
    ∙ sym (map-append with_text (map derivation_of ts) (derivation_of t ∷ []))
    ∙ ap (map with_text) (sym (map-append derivation_of ts (t ∷ [])))

pub same_map : {A : Type 0} (xs : List A) → map (λ x. x) xs ≡ xs
same_map [] = refl
same_map (x ∷ xs) = ap (λ ys. x ∷ ys) (same_map xs)

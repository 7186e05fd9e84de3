-- The lattice of words in a row.
use Rattle.std.proofs.Common.{ℕ, suc, ◌≡◌, ◌<◌, ◌≤◌, ◌+◌, List, [], ◌∷◌, ◌++◌, length, map, take, get_or, String, string_bytes, sym, ◌∙◌, ap, arith}
use Rattle.std.specs.Global.{Global}
use Rattle.std.proofs.lemmas.List.{length-map, length-take-le}
use Rattle.morph_analysis.proofs.Lists.{map_take_next}
use Rattle.lexicon.specs.Words.{Word, Each}
use Rattle.morph_analysis.specs.Lattices.{StepTree, steps_from}

pub steps-more : (i : ℕ) (ws : List Word) (w : Word) → steps_from i (ws ++ w ∷ []) ≡ steps_from i ws ++ record { from = i + length ws; to = suc (i + length ws); word = w } ∷ []
steps-more i [] w = ap (λ k. let s : StepTree = record { from = k; to = suc k; word = w } in s ∷ []) (let e : i ≡ i + 0 = omega arith in e)
steps-more i (v ∷ vs) w =
    ap (λ l. let s : StepTree = record { from = i; to = suc i; word = v } in s ∷ l)
    (steps-more (suc i) vs w ∙ ap (λ k. let s : StepTree = record { from = k; to = suc k; word = w } in steps_from (suc i) vs ++ s ∷ []) (let e : suc i + length vs ≡ i + suc (length vs) = omega arith in e))

pub steps_valid : (i end : ℕ) (ws : List Word) → i + length ws ≤ end → Each (λ s. (s.from < s.to) × (s.to ≤ end)) (steps_from i ws)
steps_valid i end [] le = tt
steps_valid i end (w ∷ ws) le = ((omega arith, omega arith), steps_valid (suc i) end ws (omega arith))

pub of_words_next : (words : List (String Global)) (i : ℕ) (x : String Global) (w : Word) → i < length words → x ≡ get_or words i x → w ≡ string_bytes x
    → steps_from 0 (map string_bytes (take i words)) ++ record { from = i; to = i + 1; word = w } ∷ [] ≡ steps_from 0 (map string_bytes (take (i + 1) words))
of_words_next words i x w lt e f =
    let ws : List Word = map string_bytes (take i words) in
    let size : length ws ≡ i = length-map (take i words) string_bytes ∙ length-take-le i words (omega arith) in
    let from : i ≡ 0 + length ws = omega (arith, size) in
    let to : i + 1 ≡ suc (0 + length ws) = omega (arith, size) in
    ap (λ k. let s : StepTree = record { from = k; to = i + 1; word = w } in steps_from 0 ws ++ s ∷ []) from
    ∙ ap (λ k. let s : StepTree = record { from = 0 + length ws; to = k; word = w } in steps_from 0 ws ++ s ∷ []) to
    ∙ ap (λ v. let s : StepTree = record { from = 0 + length ws; to = suc (0 + length ws); word = v } in steps_from 0 ws ++ s ∷ []) f
    ∙ sym (ap (steps_from 0) (map_take_next string_bytes words i x lt e) ∙ steps-more 0 ws (string_bytes x))

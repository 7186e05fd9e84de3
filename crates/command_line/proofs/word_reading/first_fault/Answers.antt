use Rattle.std.proofs.Common.{◌≡◌, ◌∙◌, ◌+◌, inr, sym, ap, subst, rules, arith, map, take, drop, suc, List, ℕ, [], ◌∷◌, ◌++◌, string_bytes, add-one, String, Global}
use Rattle.std.proofs.lemmas.List.{take-map}
use Rattle.command_line.specs.Fronts.{GoesOn, IsAt}
use Rattle.command_line.proofs.Ends.{so-far, parted, first-wrong}
use Rattle.command_line.proofs.word_reading.first_fault.Goals as goal

pub returns-in-None : goal.returns-in-None
returns-in-None c =
    let f = λ (w : String Global). string_bytes w in
    let words = map f c.args.words.now in
    let i = c.loop-at.at in
    let item = c.index-words-at.result in
    let before = take i words in
    let w = c.deref-in-None.result.now in
    let same : before ≡ map f (take i c.args.words.now) = take-map f i c.args.words.now in
    let split : words ≡ before ++ w ∷ drop (suc i) words = parted f c.args.words.now i item (omega arith) (sym c.index-words-at.is) ∙ ap (λ (x : List ℕ). before ++ x ∷ drop (suc i) words) (sym c.deref-in-None.ensures) in
    let told : c.deref.result.now ≡ w = c.deref.ensures ∙ sym c.deref-in-None.ensures in
    let no : GoesOn (before ++ w ∷ []) → ⊥ = subst (λ (x : List ℕ). GoesOn (before ++ x ∷ []) → ⊥) told
    (subst (λ (b : List (List ℕ)). GoesOn (b ++ c.deref.result.now ∷ []) → ⊥) (sym same) (c.in-None.ensures (subst (λ (b : List (List ℕ)). IsAt b c.loop-at.place) same c.loop-at.invariant.0))) in
    c.wrong.ensures words before (first-wrong words before w (drop (suc i) words) c.loop-at.place split c.loop-at.invariant.0 no) c.loop-at.invariant.0 c.loop-at.invariant.1

pub loop-at-preserved : goal.loop-at-preserved
loop-at-preserved c =
    let f = λ (w : String Global). string_bytes w in
    let words = map f c.args.words.now in
    let i = c.loop-at.at in
    let item = c.index-words-at.result in
    let before = take i words in
    let same : before ≡ map f (take i c.args.words.now) = take-map f i c.args.words.now in
    let next : take (i + 1) words ≡ before ++ f item ∷ [] = ap (λ n. take n words) (add-one i) ∙ so-far f c.args.words.now i item (omega arith) (sym c.index-words-at.is) in
    let after = c.in-Some.ensures (subst (λ (b : List (List ℕ)). IsAt b c.loop-at.place) same c.loop-at.invariant.0) in
    let here : IsAt (before ++ c.deref.result.now ∷ []) c.in-Some.after = subst (λ (b : List (List ℕ)). IsAt (b ++ c.deref.result.now ∷ []) c.in-Some.after) (sym same) after in (
      subst (λ (b : List (List ℕ)). IsAt b c.in-Some.after) (sym next) (subst (λ (x : List ℕ). IsAt (before ++ x ∷ []) c.in-Some.after) c.deref.ensures here),
      inr (before, next ∙ ap (λ (x : List ℕ). before ++ x ∷ []) (sym c.deref-last.ensures)),
      search rules,
    )

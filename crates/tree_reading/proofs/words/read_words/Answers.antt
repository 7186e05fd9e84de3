use Rattle.std.proofs.Common.{◌≡◌, ◌∙◌, ◌∷◌, ◌++◌, [], ℕ, List, String, Global, length, map, sym, ap, subst, inl, inr, rules, arith, append_assoc, drop, length-append}
use Rattle.std.specs.List.{All, flat_map}
use Rattle.std.specs.Str.{IsUtf8, IsCharBoundary}
use Rattle.std.proofs.lemmas.Str.{IsCharBoundary-after_ascii}
use Rattle.std.proofs.lemmas.List.{map-append, length-map}
use Rattle.std.proofs.lemmas.List.Elements.{All-push}
use Rattle.std.specs.String.{string_bytes}
use Rattle.derivation.specs.Text.{escaped}
use Rattle.tree_reading.specs.Grammars.{IsWord}
use Rattle.tree_reading.specs.Inner.Shapes.{Begins}
use Rattle.tree_reading.specs.Inner.Stops.{IsStop, IsBody, BeginsBody, IsWordEnd, body}
use Rattle.tree_reading.proofs.WordTexts.{spelled, spelled_more, body_last}
use Rattle.tree_reading.proofs.Lifting.{at_exit, lift_word}
use Rattle.tree_reading.proofs.words.read_words.Goals as goal

bytes_more : (ws new : List (String Global)) (w : String Global) → new ≡ ws ++ w ∷ [] → map string_bytes new ≡ map string_bytes ws ++ string_bytes w ∷ []
bytes_more ws new w e = ap (λ t. map string_bytes t) e ∙ map-append string_bytes ws (w ∷ [])

all_more : (ws new : List (String Global)) (w : String Global) → new ≡ ws ++ w ∷ [] → All IsWord (map string_bytes ws) → IsWord (string_bytes w) → All IsWord (map string_bytes new)
all_more ws new w e all is = subst (All IsWord) (sym (bytes_more ws new w e)) (All-push IsWord (map string_bytes ws) (string_bytes w) all is)

ended : (ws new : List (String Global)) (w : String Global) (text rest after end : List ℕ) → new ≡ ws ++ w ∷ [] → text ≡ spelled (map string_bytes ws) ++ rest → rest ≡ flat_map escaped (string_bytes w) ++ after → after ≡ 34 ∷ end →
    text ≡ body (map string_bytes new) ++ end
ended ws new w text rest after end e is read q =
    is ∙ ap (λ t. spelled (map string_bytes ws) ++ t) (read ∙ ap (λ t. flat_map escaped (string_bytes w) ++ t) q)
    ∙ sym (body_last (map string_bytes ws) (string_bytes w) end) ∙ ap (λ t. body t ++ end) (sym (bytes_more ws new w e))

gone_on : (ws new : List (String Global)) (w : String Global) (text rest after next : List ℕ) → new ≡ ws ++ w ∷ [] → text ≡ spelled (map string_bytes ws) ++ rest → rest ≡ flat_map escaped (string_bytes w) ++ after → after ≡ 32 ∷ next →
    text ≡ spelled (map string_bytes new) ++ next
gone_on ws new w text rest after next e is read q =
    let ss = spelled (map string_bytes ws) in
    let f = flat_map escaped (string_bytes w) in
    is ∙ ap (λ t. ss ++ t) (read ∙ ap (λ t. f ++ t) q ∙ sym (append_assoc f (32 ∷ []) next))
    ∙ sym (append_assoc ss (f ++ 32 ∷ []) next) ∙ ap (λ t. t ++ next) (sym (ap spelled (bytes_more ws new w e) ∙ spelled_more (map string_bytes ws) (string_bytes w)))

blank_next : (after rest : List ℕ) → IsWordEnd after → (Begins 34 after → ⊥) → rest ≡ drop 1 after → after ≡ 32 ∷ rest
blank_next [] rest h none e = absurd h
blank_next (x ∷ xs) rest (inl h) none e = ap (λ t. t ∷ xs) h ∙ ap (λ t. 32 ∷ t) (sym e)
blank_next (x ∷ xs) rest (inr h) none e = absurd (none h)

cut : (after : List ℕ) → IsUtf8 after → IsWordEnd after → IsCharBoundary after 1
cut [] u h = absurd h
cut (x ∷ xs) u (inl h) = IsCharBoundary-after_ascii (x ∷ xs) 0 u (omega arith) (omega arith)
cut (x ∷ xs) u (inr h) = IsCharBoundary-after_ascii (x ∷ xs) 0 u (omega arith) (omega arith)

pub returns-in_err-word-clause-stopped : goal.returns-in_err-word-clause-stopped
returns-in_err-word-clause-stopped c =
    let e = c.in_err-word.field-0.0 in
    at_exit (IsStop IsBody BeginsBody c.args.text.now) c.from_residual.result e c.from_residual.ensures.1
    (lift_word (map string_bytes c.words.words.items) c.words.rest.now c.args.text.now e c.words.invariant.all c.words.invariant.is c.in_err-word.ensures.stopped)

pub returns-in-Some-clause-read : goal.returns-in-Some-clause-read
returns-in-Some-clause-read c =
    let ws = c.words.words.items in
    let new = c.push.new.self.items in
    let w = c.in_ok-word.word in
    let e = c.in_ok-push.ensures.items in (
      (omega (arith, ap length e, length-append ws (w ∷ []), length-map new string_bytes), all_more ws new w e c.words.invariant.all c.in_ok-word.ensures.word),
      ended ws new w c.args.text.now c.words.rest.now c.in_ok-word.after.now c.in-Some.end.now e c.words.invariant.is c.in_ok-word.ensures.read.0 c.in-Some.ensures,
    )

pub split_at-requires : goal.split_at-requires
split_at-requires c = cut c.in_ok-word.after.now (search rules) c.in_ok-word.ensures.read.1

pub words-preserved : goal.words-preserved
words-preserved c =
    let ws = c.words.words.items in
    let new = c.push.new.self.items in
    let w = c.in_ok-word.word in
    let e = c.in_ok-push.ensures.items in
    record {
      text = search rules;
      is = gone_on ws new w c.args.text.now c.words.rest.now c.in_ok-word.after.now c.split_at.result.1.now e c.words.invariant.is c.in_ok-word.ensures.read.0
          (blank_next c.in_ok-word.after.now c.split_at.result.1.now c.in_ok-word.ensures.read.1 c.in_default.ensures c.split_at.ensures.back);
      all = all_more ws new w e c.words.invariant.all c.in_ok-word.ensures.word;
    }

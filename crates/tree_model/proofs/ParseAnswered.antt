-- The answer to a line is that to its item over spans.
use Rattle.std.specs.Prelude.{ℕ, ◌↔◌, List}
use Rattle.derivation.specs.Trees.{Derivation}
use Rattle.tree_model.specs.Signs.{Signs}
use Rattle.tree_model.specs.Lexical.{Words}
use Rattle.tree_model.specs.Items.{Limits, Answer, LexicalDepth, ByUnaryChain, ByEdges, Readings, Trees, AreExactly, AreMoreThan, IsItemAnswer}
use Rattle.tree_model.proofs.Joint.{forests_are_wanted}
use Rattle.tree_model.proofs.Bridge.{answers_are_right}
use Rattle.tree_model.proofs.OneAnswer.{item_answers_are_one}
use Rattle.tree_model.specs.Lattices.{Lattice}
use Rattle.tree_model.specs.Licensed.{parse_item}
use Rattle.tree_model.specs.Answers.{IsParseAnswer, ForestsAreLicensed, FoundIsAnswer, ParseAnswersAreOne}
use Rattle.tree_model.proofs.Spanned.{licensed_are_wanted}

exactly_same : {P Q : Derivation → Type 0} {ts : List Derivation} → ((t : Derivation) → P t ↔ Q t) → AreExactly P ts → AreExactly Q ts
exactly_same same x = record { ordered = x.ordered; each = λ t h. (same t).0 (x.each t h); all = λ t q. x.all t ((same t).1 q) }

more_same : {P Q : Derivation → Type 0} {most : ℕ} → ((t : Derivation) → P t ↔ Q t) → AreMoreThan P most → AreMoreThan Q most
more_same same x = record { trees = x.trees; ordered = x.ordered; each = λ t h. (same t).0 (x.each t h); more = x.more }

turned : {A B : Type 0} → A ↔ B → B ↔ A
turned h = (h.1, h.0)

module _ (g : Signs) (words : Words) (lattice : Lattice) (most : ℕ) (limits : Limits) where
  from_item : (a : Answer) → IsItemAnswer g (parse_item g words lattice most) limits a → IsParseAnswer g words lattice most limits a
  from_item LexicalDepth x = x
  from_item ByUnaryChain x = x
  from_item ByEdges x = x
  from_item Readings x = (x.0, (x.1.0, x.1.1, (x.1.2.0, more_same (licensed_are_wanted g words lattice most).1 x.1.2.1)))
  from_item (Trees classes trees) x = (x.0, (x.1.0, x.1.1, (x.1.2.0, x.1.2.1, exactly_same (licensed_are_wanted g words lattice most).1 x.1.2.2, x.1.2.3)))

  to_item : (a : Answer) → IsParseAnswer g words lattice most limits a → IsItemAnswer g (parse_item g words lattice most) limits a
  to_item LexicalDepth x = x
  to_item ByUnaryChain x = x
  to_item ByEdges x = x
  to_item Readings x = (x.0, (x.1.0, x.1.1, (x.1.2.0, more_same (λ t. turned ((licensed_are_wanted g words lattice most).1 t)) x.1.2.1)))
  to_item (Trees classes trees) x = (x.0, (x.1.0, x.1.1, (x.1.2.0, x.1.2.1, exactly_same (λ t. turned ((licensed_are_wanted g words lattice most).1 t)) x.1.2.2, x.1.2.3)))

pub forests_are_licensed : ForestsAreLicensed
forests_are_licensed g words lattice most limits o ls leaves f t =
    let w = licensed_are_wanted g words lattice most in
    let h = forests_are_wanted (parse_item g words lattice most) g o w.0 limits ls leaves f t in
    (λ u. (w.1 t).0 (h.0 u), λ l. h.1 ((w.1 t).1 l))

pub found_is_answer : FoundIsAnswer
found_is_answer g words lattice most limits o flat ls leaves a f =
    from_item g words lattice most limits a (answers_are_right (parse_item g words lattice most) g o (licensed_are_wanted g words lattice most).0 limits flat ls leaves a f)

pub parse_answers_are_one : ParseAnswersAreOne
parse_answers_are_one g words lattice most limits o a b x y =
    item_answers_are_one (parse_item g words lattice most) g o (licensed_are_wanted g words lattice most).0 limits a b (to_item g words lattice most limits a x) (to_item g words lattice most limits b y)

-- A tree has one explanation.
use Rattle.std.specs.Prelude.{ℕ}
use Rattle.std.proofs.Common.{refl}
use Rattle.derivation.specs.Trees.{Derivation}
use Rattle.tree_model.specs.Signs.{Signs}
use Rattle.forced_types.specs.Verdicts.{Verdict}
use Rattle.tree_faults.specs.Nodes.{Place}
use Rattle.tree_faults.specs.Explained.{Licensed, Clashes, GoesTooFar, Misspelled, Unrooted, HasStructure, IsFirstWithout}
use Rattle.tree_faults.specs.Laws.{ExplainedAreOne}
use Rattle.tree_faults.proofs.OneNode.{one_without, node_has}
use Rattle.tree_faults.proofs.OneSpelling.{one_misspelled, spelled_not}

has_not : (g : Signs) {t : Derivation} {place : Place} {instance : ℕ} {verdict : Verdict} → HasStructure g t → IsFirstWithout g t place instance verdict → ⊥
has_not g h x = x.none (node_has g h.1 x.stands)

pub explained_are_one : ExplainedAreOne
explained_are_one g words t o Licensed Licensed x y = refl
explained_are_one g words t o Licensed (Clashes q j path v w) x y = absurd (has_not g (x.0, x.1) y)
explained_are_one g words t o Licensed (GoesTooFar q j path) x y = absurd (has_not g (x.0, x.1) y)
explained_are_one g words t o Licensed (Misspelled q j) x y = absurd (spelled_not words q j x.2 y.1)
explained_are_one g words t o Licensed Unrooted x y = absurd (y.2 x.0 x.1 x.3)
explained_are_one g words t o (Clashes p i path a b) Licensed x y = absurd (has_not g (y.0, y.1) x)
explained_are_one g words t o (Clashes p i path a b) (Clashes q j other v w) x y =
    let z = one_without g o p q i j _ _ x y in let place = z.0 in let instance = z.1 in let verdict = z.2 in cc
explained_are_one g words t o (Clashes p i path a b) (GoesTooFar q j other) x y = let z = one_without g o p q i j _ _ x y in let verdict = z.2 in absurd cc
explained_are_one g words t o (Clashes p i path a b) (Misspelled q j) x y = absurd (has_not g y.0 x)
explained_are_one g words t o (Clashes p i path a b) Unrooted x y = absurd (has_not g y.0 x)
explained_are_one g words t o (GoesTooFar p i path) Licensed x y = absurd (has_not g (y.0, y.1) x)
explained_are_one g words t o (GoesTooFar p i path) (Clashes q j other v w) x y = let z = one_without g o p q i j _ _ x y in let verdict = z.2 in absurd cc
explained_are_one g words t o (GoesTooFar p i path) (GoesTooFar q j other) x y =
    let z = one_without g o p q i j _ _ x y in let place = z.0 in let instance = z.1 in let verdict = z.2 in cc
explained_are_one g words t o (GoesTooFar p i path) (Misspelled q j) x y = absurd (has_not g y.0 x)
explained_are_one g words t o (GoesTooFar p i path) Unrooted x y = absurd (has_not g y.0 x)
explained_are_one g words t o (Misspelled p i) Licensed x y = absurd (spelled_not words p i y.2 x.1)
explained_are_one g words t o (Misspelled p i) (Clashes q j path v w) x y = absurd (has_not g x.0 y)
explained_are_one g words t o (Misspelled p i) (GoesTooFar q j path) x y = absurd (has_not g x.0 y)
explained_are_one g words t o (Misspelled p i) (Misspelled q j) x y = let z = one_misspelled words p q i j x.1 y.1 in let place = z.0 in let instance = z.1 in cc
explained_are_one g words t o (Misspelled p i) Unrooted x y = absurd (spelled_not words p i y.1 x.1)
explained_are_one g words t o Unrooted Licensed x y = absurd (x.2 y.0 y.1 y.3)
explained_are_one g words t o Unrooted (Clashes q j path v w) x y = absurd (has_not g x.0 y)
explained_are_one g words t o Unrooted (GoesTooFar q j path) x y = absurd (has_not g x.0 y)
explained_are_one g words t o Unrooted (Misspelled q j) x y = absurd (spelled_not words q j x.1 y.1)
explained_are_one g words t o Unrooted Unrooted x y = refl

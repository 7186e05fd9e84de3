use Rattle.std.proofs.Common.{◌≡◌, ◌++◌, ◌∷◌, [], ◌∙◌, ◌==◌, ℕ, List, Bool, true, false, Result, Ok, Err, length, refl, sym, ap, subst, arith, rules, eqb-true, append-nil}
use Rattle.std.specs.Result.{IfOk}
use Rattle.std.proofs.lemmas.Bool.{false≢true}
use Rattle.derivation.specs.Views.{derivation_of}
use Rattle.derivation.specs.Counted.{IsCounted}
use Rattle.derivation.specs.declared.Tree.{Tree}
use Rattle.tree_reading.specs.declared.closing.Child.{Child}
use Rattle.tree_reading.specs.declared.closing.Child.TheVariants.{Lexical}
use Rattle.tree_reading.specs.declared.stops.Stop.{Stop}
use Rattle.tree_reading.specs.Grammars.{TreeGrammar, IsOver}
use Rattle.tree_reading.specs.Texts.{IsPreferred}
use Rattle.tree_reading.specs.Inner.Shapes.{text, shape}
use Rattle.tree_reading.specs.Inner.Closed.{tree_of}
use Rattle.tree_reading.specs.Inner.Stops.{IsStop, IsText}
use Rattle.tree_reading.specs.Inner.Begun.{IsAfter, HasRisen, IsWritten}
use Rattle.tree_reading.proofs.Lifting.{at_exit}
use Rattle.tree_reading.proofs.Rising.{stop_past}
use Rattle.tree_reading.proofs.reading.read.Goals as goal

ok_both : (P Q R : Tree → Type 0) (r : Result Tree Stop) → ((t : Tree) → P t → Q t → R t) → IfOk r P → IfOk r Q → IfOk r R
ok_both P Q R (Ok t) f p q = f t p q
ok_both P Q R (Err e) f p q = tt

nothing : (bs : List ℕ) (b : Bool) → b ≡ true → b ≡ (length bs == 0) → bs ≡ []
nothing [] b h e = refl
nothing (x ∷ bs) b h e = absurd (omega (arith, eqb-true (length (x ∷ bs)) 0 (sym e ∙ h)))

something : (bs : List ℕ) (b : Bool) → b ≡ false → b ≡ (length bs == 0) → bs ≡ [] → ⊥
something bs b h e n = false≢true (sym h ∙ e ∙ ap (λ t. length t == 0) n)

written : (g : TreeGrammar) (child : Child) (whole rest : List ℕ) (t : Tree) → IsAfter g [] child whole rest → rest ≡ [] → derivation_of t ≡ tree_of child → IsCounted t → IsWritten g whole t
written g child whole rest t h e is counted = record {
  over = subst (IsOver g) (sym is) h.good.over;
  preferred = subst (IsPreferred g) (sym is) h.good.preferred;
  counted = counted;
  is = sym h.is ∙ ap (λ r. text (shape g.names (tree_of child)) ++ r) e ∙ append-nil (text (shape g.names (tree_of child))) ∙ ap (λ d. text (shape g.names d)) (sym is);
}

pub returns-in_err-child-clause-stopped : goal.returns-in_err-child-clause-stopped
returns-in_err-child-clause-stopped c =
    let g = c.args.names.now in
    let e = c.in_err-child.field-0.0 in
    at_exit (IsStop (IsText g) (IsText g) c.args.text.now) c.from_residual-in_err-child.result e c.from_residual-in_err-child.ensures.1
    (c.in_err-child.ensures.stopped g c.args.text.now (subst (λ t. IsAfter g c.descend.new.stack.items (Lexical c.in_ok-leaf.leaf) t c.in_ok-leaf.after.now) c.leaves.invariant.before.is c.in_ok-leaf.ensures.read) c.requires.well c.requires.entry)

pub returns-then-not-is_empty-clause-stopped : goal.returns-then-not-is_empty-clause-stopped
returns-then-not-is_empty-clause-stopped c =
    let g = c.args.names.now in
    let after = subst (λ t. IsAfter g c.descend.new.stack.items (Lexical c.in_ok-leaf.leaf) t c.in_ok-leaf.after.now) c.leaves.invariant.before.is c.in_ok-leaf.ensures.read in
    let risen = subst (λ o. HasRisen g c.rise.new.stack.items o c.args.text.now c.in_ok-child.after.now) c.in-Some.is (c.in_ok-child.ensures.read g c.args.text.now after c.requires.well) in
    stop_past g c.requires.well c.requires.entry c.in-Some.child c.args.text.now c.in_ok-child.after.now risen (something c.in_ok-child.after.now c.is_empty.result c.if-not-is_empty.true c.is_empty.ensures)

pub returns-in-Some-clause-tree : goal.returns-in-Some-clause-tree
returns-in-Some-clause-tree c =
    let g = c.args.names.now in
    let child = c.in-Some.child in
    let after = subst (λ t. IsAfter g c.descend.new.stack.items (Lexical c.in_ok-leaf.leaf) t c.in_ok-leaf.after.now) c.leaves.invariant.before.is c.in_ok-leaf.ensures.read in
    let risen = subst (λ o. HasRisen g c.rise.new.stack.items o c.args.text.now c.in_ok-child.after.now) c.in-Some.is (c.in_ok-child.ensures.read g c.args.text.now after c.requires.well) in
    ok_both (λ t. derivation_of t ≡ tree_of child) IsCounted (IsWritten g c.args.text.now) c.tree_of.result
    (λ t is counted. written g child c.args.text.now c.in_ok-child.after.now t risen (nothing c.in_ok-child.after.now c.is_empty.result c.if-not-is_empty.false c.is_empty.ensures) is counted)
    c.tree_of.ensures.is (c.tree_of.ensures.counted risen.good.counted)

pub leaves-preserved : goal.leaves-preserved
leaves-preserved c =
    let g = c.args.names.now in
    let after = subst (λ t. IsAfter g c.descend.new.stack.items (Lexical c.in_ok-leaf.leaf) t c.in_ok-leaf.after.now) c.leaves.invariant.before.is c.in_ok-leaf.ensures.read in
    record {
      text = search rules;
      before = subst (λ o. HasRisen g c.rise.new.stack.items o c.args.text.now c.in_ok-child.after.now) c.in_default.is (c.in_ok-child.ensures.read g c.args.text.now after c.requires.well);
    }

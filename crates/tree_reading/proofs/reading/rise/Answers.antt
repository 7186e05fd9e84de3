use Rattle.std.proofs.Common.{◌≡◌, ◌∷◌, [], ℕ, List, Option, Some, None, MatchOption, length, refl, sym, ap, subst, arith, rules}
use Rattle.std.proofs.lemmas.List.Elements.{All-pop}
use Rattle.derivation.specs.Trees.{Derivation}
use Rattle.tree_reading.specs.declared.opening.Open.{Open}
use Rattle.tree_reading.specs.declared.closing.Child.{Child}
use Rattle.tree_reading.specs.declared.stops.Stop.{Stop}
use Rattle.tree_reading.specs.Grammars.{TreeGrammar, IsNamedWell, HasEntry}
use Rattle.tree_reading.specs.Inner.Shapes.{Begins}
use Rattle.tree_reading.specs.Inner.Frames.{trees_of}
use Rattle.tree_reading.specs.Inner.Closed.{IsChildCounted, tree_of, closed}
use Rattle.tree_reading.specs.Inner.Stops.{IsStop, IsText}
use Rattle.tree_reading.specs.Inner.Begun.{IsAfter, AreCountedIn}
use Rattle.tree_reading.proofs.Lifting.{at_exit}
use Rattle.tree_reading.proofs.Rising.{under, risen, stop_shut}
use Rattle.tree_reading.proofs.reading.rise.Goals as goal

at_none : (o : Option Child) (a : Option Derivation) → MatchOption o (a ≡ None) (λ c. (a ≡ Some (tree_of c)) × IsChildCounted c) → o ≡ None → a ≡ None
at_none None a h e = h
at_none (Some x) a h e = cc

at_some : (o : Option Child) (a : Option Derivation) (m : Child) → MatchOption o (a ≡ None) (λ c. (a ≡ Some (tree_of c)) × IsChildCounted c) → o ≡ Some m → (a ≡ Some (tree_of m)) × IsChildCounted m
at_some o a m h e = subst (λ t. MatchOption t (a ≡ None) (λ c. (a ≡ Some (tree_of c)) × IsChildCounted c)) e h

nil_of : (xs : List Open) → length xs ≡ 0 → xs ≡ []
nil_of [] e = refl
nil_of (x ∷ xs) e = absurd (omega (arith, e))

pub returns-in_err-go_on-clause-stopped : goal.returns-in_err-go_on-clause-stopped
returns-in_err-go_on-clause-stopped c =
    let e = c.in_err-go_on.field-0.0 in
    at_exit (λ (e : Stop). (g : TreeGrammar) (whole : List ℕ) → IsAfter g c.args.stack.now.items c.args.child whole c.args.text.now → IsNamedWell g → HasEntry g → IsStop (IsText g) (IsText g) whole e)
    c.from_residual.result e c.from_residual.ensures.1
    (λ g whole a well entry. c.in_err-go_on.ensures.stopped g whole (subst (λ t. IsAfter g t c.loop-rule.below whole c.loop-rule.rest.now) c.in-Some.ensures.items (c.loop-rule.invariant.after g whole a well)) well entry c.in_default-strip.ensures)

pub returns-in_default-strip-clause-read : goal.returns-in_default-strip-clause-read
returns-in_default-strip-clause-read c = λ g whole a well.
    c.in_ok-go_on.ensures.read g whole (subst (λ t. IsAfter g t c.loop-rule.below whole c.loop-rule.rest.now) c.in-Some.ensures.items (c.loop-rule.invariant.after g whole a well)) well

pub returns-in-None-clause-stopped : goal.returns-in-None-clause-stopped
returns-in-None-clause-stopped c = λ g whole a well entry.
    let os = c.pop.new.self.items in
    let rule = c.in-Some.rule in
    let below = c.loop-rule.below in
    let rest = c.loop-rule.rest.now in
    stop_shut g well entry os rule below whole rest
    (under g os rule below whole rest (subst (λ t. IsAfter g t below whole rest) c.in-Some.ensures.items (c.loop-rule.invariant.after g whole a well)))
    (subst (Begins 41) (sym c.in-Some-strip.ensures) refl)
    (at_none c.in_ok-closed.field-0 (closed rule.rules (trees_of rule) (tree_of below)) c.in_ok-closed.ensures.closed c.in-None.is)

pub loop-rule-preserved : goal.loop-rule-preserved
loop-rule-preserved c =
    let os = c.pop.new.self.items in
    let rule = c.in-Some.rule in
    let below = c.loop-rule.below in
    let rest = c.loop-rule.rest.now in
    let mother = c.in-Some-2.mother in
    let m = at_some c.in_ok-closed.field-0 (closed rule.rules (trees_of rule) (tree_of below)) mother c.in_ok-closed.ensures.closed c.in-Some-2.is in
    record {
      text = search rules;
      after = λ g whole a well.
          risen g os rule below mother whole rest c.in-Some-strip.after.now
          (under g os rule below whole rest (subst (λ t. IsAfter g t below whole rest) c.in-Some.ensures.items (c.loop-rule.invariant.after g whole a well)))
          c.in-Some-strip.ensures m.0 m.1;
      counted = (All-pop AreCountedIn c.loop-rule.stack.items os (Some rule) c.in-Some.ensures.items c.loop-rule.invariant.counted).0;
      below_counted = m.1;
      shorter = omega (arith, ap length c.in-Some-strip.ensures, c.loop-rule.invariant.shorter);
    }

pub returns-clause-read : goal.returns-clause-read
returns-clause-read c = λ g whole a well.
    subst (λ t. IsAfter g t c.loop-rule.below whole c.loop-rule.rest.now) (nil_of c.loop-rule.stack.items (omega (arith, c.in_default.ensures.cases.0, c.loop-rule.stack.ok.0))) (c.loop-rule.invariant.after g whole a well)

use Rattle.std.proofs.Common.{◌++◌, ◌<◌, ◌≤◌, ℕ, List, length, map, refl, sym, ap, subst, arith, rules, length-append}
use Rattle.std.proofs.lemmas.Result.{IfOk-weaker, IfErr-weaker}
use Rattle.std.specs.String.{string_bytes}
use Rattle.tree_reading.specs.declared.leaves.Leaf.{Leaf}
use Rattle.tree_reading.specs.declared.closing.Child.TheVariants.{Lexical}
use Rattle.tree_reading.specs.Inner.Frames.{AreRules, front, frames_of, is_wide}
use Rattle.tree_reading.specs.Inner.Stops.{IsStop, IsText, IsLeafEnd, BeginsLeafEnd, body, ending}
use Rattle.tree_reading.specs.Inner.Begun.{IsBefore, IsAfter, HasBegun}
use Rattle.tree_reading.specs.Inner.Closed.{HasLeaf}
use Rattle.tree_reading.proofs.Beginning.{leaf_after, leaf_stop, rule_begun}
use Rattle.tree_reading.proofs.opening.descend.Goals as goal

leaf_size : (e : ℕ) (bytes : List ℕ) (leaf : Leaf) (rest : List ℕ) → HasLeaf e bytes leaf rest → length rest ≤ length bytes
leaf_size e bytes leaf rest h =
    omega (arith, ap length h.is, length-append (body (map string_bytes leaf.words.items) ++ ending leaf.nodes) rest)

pub returns-in-Leaf-clause-stopped : goal.returns-in-Leaf-clause-stopped
returns-in-Leaf-clause-stopped c =
    let g = c.args.names.now in
    let whole = front (frames_of g.names c.args.stack.now.items) ++ c.args.text.now in
    let w = is_wide (frames_of g.names c.deref.result.now) in
    let facts = subst (λ b. HasBegun g w c.rules.rest.now b c.in_ok-begun.after.now) c.in-Leaf.is c.in_ok-begun.ensures.read in
    IfErr-weaker c.read_leaf.result (IsStop IsLeafEnd BeginsLeafEnd c.in_ok-begun.after.now) (IsStop (IsText g) (IsText g) whole)
    (λ e h. leaf_stop g c.requires.well c.requires.entry c.rules.stack.items c.in-Leaf.entry whole c.rules.rest.now c.in_ok-begun.after.now e c.rules.invariant.before facts.0 facts.1 h) c.read_leaf.ensures.stopped

pub returns-in-Leaf-clause-read : goal.returns-in-Leaf-clause-read
returns-in-Leaf-clause-read c =
    let g = c.args.names.now in
    let whole = front (frames_of g.names c.args.stack.now.items) ++ c.args.text.now in
    let w = is_wide (frames_of g.names c.deref.result.now) in
    let facts = subst (λ b. HasBegun g w c.rules.rest.now b c.in_ok-begun.after.now) c.in-Leaf.is c.in_ok-begun.ensures.read in
    IfOk-weaker c.read_leaf.result (λ p. HasLeaf c.in-Leaf.entry c.in_ok-begun.after.now p.0 p.1.now) (λ p. IsAfter g c.rules.stack.items (Lexical p.0) whole p.1.now)
    (λ p h. leaf_after g c.rules.stack.items p.0 c.in-Leaf.entry whole c.rules.rest.now c.in_ok-begun.after.now p.1.now c.rules.invariant.before facts.0 facts.1 h) c.read_leaf.ensures.read

pub returns-in-Leaf-clause-shorter : goal.returns-in-Leaf-clause-shorter
returns-in-Leaf-clause-shorter c =
    IfOk-weaker c.read_leaf.result (λ p. HasLeaf c.in-Leaf.entry c.in_ok-begun.after.now p.0 p.1.now) (λ p. length p.1.now < length c.args.text.now)
    (λ p h. omega (arith, leaf_size c.in-Leaf.entry c.in_ok-begun.after.now p.0 p.1.now h, c.in_ok-begun.ensures.shorter, c.rules.invariant.shorter)) c.read_leaf.ensures.read

pub rules-preserved : goal.rules-preserved
rules-preserved c =
    let g = c.args.names.now in
    let whole = front (frames_of g.names c.args.stack.now.items) ++ c.args.text.now in
    let w = is_wide (frames_of g.names c.deref.result.now) in
    let after = c.in_ok-begun.after.now in
    let k = subst (λ b. HasBegun g w c.rules.rest.now b after) c.in-Rule.is c.in_ok-begun.ensures.read in
    let are = subst (λ t. AreRules g (is_wide (frames_of g.names t)) k.0 c.in-Rule.rules) c.deref.ensures.value k.2 in
    record {
      text = search rules;
      before = subst (λ t. IsBefore g t whole after) (sym c.in_ok-push-in-Rule.ensures.items)
          (rule_begun g c.rules.stack.items _ c.in-Rule.rules k.0 whole c.rules.rest.now after c.rules.invariant.before refl c.new-daughters.ensures.items are k.3 k.4 k.5);
      shorter = omega (arith, c.in_ok-begun.ensures.shorter, c.rules.invariant.shorter);
    }

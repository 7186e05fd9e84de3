use Rattle.std.proofs.Common.{◌≡◌, ◌<◌, map, sym, subst}
use Rattle.morph_analysis.specs.LatticeViews.{lattice_of}
use Rattle.book_signs.specs.Trees.{signs_of}
use Rattle.grammar_shapes.specs.Systems.{meaning_of}
use Rattle.rule_trees.specs.Mothers.{view_in}
use Rattle.lexical_items.specs.Fulls.{IsLexicalFull}
use Rattle.lexical_items.specs.Listed.{Trees, IsLexicalAnswer}
use Rattle.lexical_items.specs.Seen.{lattice_seen}
use Rattle.lexical_items.specs.Views.{lexeme_seen, lexical_seen}
use Rattle.grammar_rules.specs.Lined.{AreLined}
use Rattle.grammar_rules.specs.Lines.{AreShapesOf, words_by}
use Rattle.grammar_rules.specs.Remembered.{IsMemoryOf}
use Rattle.grammar_rules.proofs.Calls.{all_lexemes, lexeme_lexical, same_lined, same_belong}
use Rattle.grammar_rules.proofs.leaves.line_leaves.Goals as goal

pub leaves_of-requires-clause-shapes : goal.leaves_of-requires-clause-shapes
leaves_of-requires-clause-shapes c = subst (AreShapesOf c.args.grammar.now.signs.now) (sym c.shapes-plain.ensures) c.requires.grammar.shapes

pub leaves_of-requires-clause-shared : goal.leaves_of-requires-clause-shared
leaves_of-requires-clause-shared c = subst (λ s. IsMemoryOf c.args.grammar.now.signs.now s c.args.grammar.now.shared.now) (sym c.shapes-plain.ensures) c.requires.grammar.shared

pub leaves_of-requires-clause-forward : goal.leaves_of-requires-clause-forward
leaves_of-requires-clause-forward c =
    let g = signs_of c.args.grammar.now.signs.now in
    let words = words_by c.args.grammar.now in
    let lattice = lattice_seen (lattice_of c.args.lattice.now) in
    let seen = lexeme_seen (λ full. view_in c.args.grammar.now.signs.now full.graph) in
    let known : IsLexicalAnswer g words lattice c.args.most (Trees (map seen c.in-Trees.trees.items))
    = subst (λ t. IsLexicalAnswer g words lattice c.args.most (lexical_seen (λ full. view_in c.args.grammar.now.signs.now full.graph) t)) c.in-Trees.is c.in_ok-found.ensures in
    let listed = subst (λ xs. IsLexicalAnswer g words lattice c.args.most (Trees (map seen xs))) (sym c.deref.ensures.value) known in
    all_lexemes seen g words lattice c.args.most (λ x. x.from < x.to) c.deref.result.now (λ x h. h.forward) listed.1

pub leaves_of-requires-clause-lexical : goal.leaves_of-requires-clause-lexical
leaves_of-requires-clause-lexical c =
    let g = signs_of c.args.grammar.now.signs.now in
    let words = words_by c.args.grammar.now in
    let lattice = lattice_seen (lattice_of c.args.lattice.now) in
    let seen = lexeme_seen (λ full. view_in c.args.grammar.now.signs.now full.graph) in
    let known : IsLexicalAnswer g words lattice c.args.most (Trees (map seen c.in-Trees.trees.items))
    = subst (λ t. IsLexicalAnswer g words lattice c.args.most (lexical_seen (λ full. view_in c.args.grammar.now.signs.now full.graph) t)) c.in-Trees.is c.in_ok-found.ensures in
    let listed = subst (λ xs. IsLexicalAnswer g words lattice c.args.most (Trees (map seen xs))) (sym c.deref.ensures.value) known in
    all_lexemes seen g words lattice c.args.most (λ x. IsLexicalFull g x.full) c.deref.result.now (lexeme_lexical g words lattice c.args.most) listed.1

pub returns : goal.returns
returns c =
    let g = signs_of c.args.grammar.now.signs.now in
    let words = words_by c.args.grammar.now in
    let lattice = lattice_seen (lattice_of c.args.lattice.now) in
    let seen = lexeme_seen (λ full. view_in c.args.grammar.now.signs.now full.graph) in
    let known : IsLexicalAnswer g words lattice c.args.most (Trees (map seen c.in-Trees.trees.items))
    = subst (λ t. IsLexicalAnswer g words lattice c.args.most (lexical_seen (λ full. view_in c.args.grammar.now.signs.now full.graph) t)) c.in-Trees.is c.in_ok-found.ensures in
    let s = c.args.grammar.now.shapes.now in
    let plain = c.shapes-plain.result.now in
    let e : s ≡ plain = sym c.shapes-plain.ensures in
    let lined = same_lined plain s e g (map seen c.deref.result.now) c.in_ok-leaves.leaves.items c.in_ok-leaves.ensures.lined in
    (known, subst (λ xs. AreLined g (meaning_of s) (map seen xs) c.in_ok-leaves.leaves.items) c.deref.ensures.value lined, same_belong plain s e c.in_ok-leaves.leaves.items c.in_ok-leaves.ensures.belong)

use Rattle.std.proofs.Common.{map, subst}
use Rattle.type_hierarchy.specs.Laws.{HasTypeLaws}
use Rattle.fs_model.specs.Claims.{IsOrder}
use Rattle.fs_unify.specs.Rules.{system_of}
use Rattle.fs_closing.proofs.OrderLemmas.{order_of_laws}
use Rattle.book_signs.specs.Signed.{IsSignsOf}
use Rattle.book_signs.specs.Trees.{SignTree, paths_of, signs_of, HaveArities}
use Rattle.book_signs.proofs.SignLemmas.{are_signs, arities}
use Rattle.book_signs.proofs.signs.SignBook.laws.Goals as goal

pub returns-clause-signs : goal.returns-clause-signs
returns-clause-signs c =
    subst (λ (t : SignTree). IsSignsOf t.book (signs_of t)) c.self.view_is (are_signs c.self.inside.book.now (map (λ p. paths_of p.items) c.self.inside.places.items) c.self.invariant.placed)

pub returns-clause-arities : goal.returns-clause-arities
returns-clause-arities c =
    subst (λ (t : SignTree). HaveArities (signs_of t)) c.self.view_is
    (arities c.self.inside.book.now (map (λ p. paths_of p.items) c.self.inside.places.items) c.self.invariant.placed c.self.invariant.whole.daughters)

pub returns-clause-order : goal.returns-clause-order
returns-clause-order c =
    subst (λ (t : SignTree). IsOrder (system_of t.book.system)) c.self.view_is (order_of_laws c.self.inside.book.now.system (subst HasTypeLaws c.types-types.ensures c.laws.ensures))

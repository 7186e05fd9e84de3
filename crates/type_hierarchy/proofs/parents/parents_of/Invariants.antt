use Rattle.std.proofs.Common.{◌≡◌, ℕ, ◌<◌, ◌++◌, take}
use Rattle.type_hierarchy.specs.Decls.{decls_of, texts, unwritten, at_place}
use Rattle.type_hierarchy.specs.Inner.Reach.{lists}
use Rattle.type_hierarchy.specs.Inner.Parents.{AllKnown, implied}
use Rattle.type_hierarchy.proofs.parents.parents_of.Given as goal

abbrev pub invariant-loop-decl : goal.invariant-loop-decl
invariant-loop-decl l =
    record {
      parents : lists l.parents.items ≡ implied (texts l.names.keys) l.top (unwritten l.top l.text (decls_of l.decls)) ++ implied (texts l.names.keys) l.top (take l.decl-index (decls_of l.decls));
      known : (k : ℕ) → k < l.decl-index → AllKnown (texts l.names.keys) (at_place (decls_of l.decls) k);
    }

use Rattle.std.proofs.Common.{◌≡◌, ℕ, ◌<◌, ◌++◌, map, take}
use Rattle.type_hierarchy.specs.Decls.{decls_of, texts, unwritten}
use Rattle.type_hierarchy.specs.Faults.{IsDuplicate}
use Rattle.type_hierarchy.proofs.names.numbered.Given as goal

abbrev pub invariant-loop-decl : goal.invariant-loop-decl
invariant-loop-decl l =
    record {
      names : texts l.names.keys ≡ map (λ d. d.name) (unwritten l.top l.text (decls_of l.decls)) ++ map (λ d. d.name) (take l.decl-index (decls_of l.decls));
      once : (k : ℕ) → k < l.decl-index → IsDuplicate (decls_of l.decls) k → ⊥;
    }

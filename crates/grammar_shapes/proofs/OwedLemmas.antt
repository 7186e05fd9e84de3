-- What is owed, and what is left, by cuts that are equal.
use Rattle.std.proofs.Common.{◌≡◌, Option, subst, List}
use Rattle.std.specs.Prelude.{IfSome}
use Rattle.fs_model.specs.Sources.{Source, Reader}
use Rattle.fs_graph.specs.GraphMap.{GraphMap, reader_of}
use Rattle.fs_closing.specs.Rules.{Grammar, system_of}
use Rattle.fs_unify.specs.Owing.{IsWellFormedBut}
use Rattle.fs_trim.specs.Cutting.{owed_of}
use Rattle.tree_model.specs.Cuts.{Cut}
use Rattle.tree_model.specs.Views.{IsTrimmed}

-- what is well-formed but for what one cut owes, in an equal system and by an equal cut
pub owes_same : (g g' : Grammar) (cut cut' : Cut) (o : Option GraphMap) → g' ≡ g → cut' ≡ cut → IfSome o (λ k. IsWellFormedBut (system_of g') (reader_of k) (owed_of cut')) →
    IfSome o (λ k. IsWellFormedBut (system_of g) (reader_of k) (owed_of cut))
owes_same g g' cut cut' o same_system same_cut owes =
    subst (λ x. IfSome o (λ k. IsWellFormedBut (system_of x) (reader_of k) (owed_of cut))) same_system
    (subst (λ l. IfSome o (λ k. IsWellFormedBut (system_of g') (reader_of k) (owed_of l))) same_cut owes)

-- what is trimmed
pub trimmed_same : (g g' : Grammar) (source : Source) (cuts : List Cut) (last last' : Cut) (o : Option Reader) → g' ≡ g → last' ≡ last →
    IsTrimmed (system_of g') source cuts last' o → IsTrimmed (system_of g) source cuts last o
trimmed_same g g' source cuts last last' o same_system same_cut is =
    subst (λ x. IsTrimmed (system_of x) source cuts last o) same_system (subst (λ l. IsTrimmed (system_of g') source cuts l o) same_cut is)

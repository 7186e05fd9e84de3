use Rattle.std.proofs.Common.{map, subst}
use Rattle.mrs_places.specs.Paths.{paths_of}
use Rattle.book_signs.specs.Trees.{signs_of}
use Rattle.generated_leaves.specs.Told.{AreTold}
use Rattle.generated_leaves.specs.Views.{told_seen}
use Rattle.mrs_generate.specs.Answers.{words_by}
use Rattle.mrs_generate.proofs.contributors.contributors_of.Goals as goal

pub make-requires-clause-cons : goal.make-requires-clause-cons
make-requires-clause-cons c = c.requires.paths.cons_in

pub make-requires-clause-null : goal.make-requires-clause-null
make-requires-clause-null c = c.requires.paths.null_in

pub returns : goal.returns
returns c =
    let t = c.args.grammar.now.fulls.now.signs.now in
    record {
      told = subst (λ n. AreTold (signs_of t) (words_by t c.args.grammar.now.lexicon.now c.args.grammar.now.spelling.now) t.book.system.types (paths_of c.args.paths.now) n (map (told_seen t) c.in_ok-told.told.items)) c.in_ok-most.ensures c.in_ok-told.ensures;
      given = c.in_ok-rules.ensures;
      list = c.in_ok-list.ensures;
    }

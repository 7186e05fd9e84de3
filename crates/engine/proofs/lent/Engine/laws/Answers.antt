use Rattle.std.proofs.Common.{◌≡◌, ◌∙◌, length, string_bytes, refl, sym, subst}
use Rattle.std.proofs.lemmas.List.{length-map}
use Rattle.constraint_expand.specs.declared.books.Book.{Book}
use Rattle.book_signs.specs.Signed.{IsSignsOf}
use Rattle.book_signs.specs.Trees.{signs_of}
use Rattle.grammar_load.specs.Views.{grammar_of}
use Rattle.mrs_places.specs.Paths.{paths_of}
use Rattle.engine.proofs.Counts.{numbered, all-have-names}
use Rattle.engine.proofs.Semantics.{semantics-are, paths-fit}
use Rattle.engine.proofs.lent.Engine.laws.Goals as goal

pub returns-clause-speech : goal.returns-clause-speech
returns-clause-speech c =
    let e = c.args.self.now in
    let signs = signs_of e.signs.now in
    let is : IsSignsOf e.grammar.now.book signs = subst (λ b. IsSignsOf b signs) c.requires.book c.laws.ensures.signs in
    record { signs = is; words = refl; names = refl; semantics = semantics-are e.signs.now (grammar_of e.grammar.now) (paths_of e.paths.now) c.requires.book c.requires.paths }

pub returns-clause-have : goal.returns-clause-have
returns-clause-have c =
    let e = c.args.self.now in
    let signs = signs_of e.signs.now in
    let is : IsSignsOf e.grammar.now.book signs = subst (λ b. IsSignsOf b signs) c.requires.book c.laws.ensures.signs in
    numbered (grammar_of e.grammar.now) signs c.requires.loaded is

pub returns-clause-names : goal.returns-clause-names
returns-clause-names c =
    let e = c.args.self.now in
    let signs = signs_of e.signs.now in
    let is : IsSignsOf e.grammar.now.book signs = subst (λ b. IsSignsOf b signs) c.requires.book c.laws.ensures.signs in
    sym (length-map e.grammar.now.names.items string_bytes) ∙ all-have-names (grammar_of e.grammar.now) signs c.requires.loaded is

pub returns-clause-feats : goal.returns-clause-feats
returns-clause-feats c = subst (λ (b : Book). length b.feats.items ≡ length c.args.self.now.signs.now.book.system.introducers) c.requires.book c.laws.ensures.whole.features

pub returns-clause-paths : goal.returns-clause-paths
returns-clause-paths c =
    let e = c.args.self.now in
    paths-fit e.signs.now (grammar_of e.grammar.now) (paths_of e.paths.now) c.requires.book c.requires.paths c.requires.fits

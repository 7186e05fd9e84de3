use Rattle.std.proofs.Common.{◌≡◌, ap, subst, option_map}
use Rattle.grammar_files.specs.Faults.{FoundFault}
use Rattle.grammar_files.specs.declared.fault.Why.TheVariants.{Shelf}
use Rattle.grammar_files.specs.Walks.{has_failed}
use Rattle.grammar_load.specs.Views.{grammar_of}
use Rattle.endings.specs.Meanings.{Shelves, shelves}
use Rattle.command_files.specs.Grammars.{never}
use Rattle.command_files.specs.Views.{IsToldIn}
use Rattle.command_files.proofs.FaultLemmas.{by_on, lacks_in}
use Rattle.command_files.proofs.grammars.load_grammar.Goals as goal

pub returns-in-Err-clause-fault : goal.returns-in-Err-clause-fault
returns-in-Err-clause-fault g c =
    let S = g.S.Shelf in
    let settings = option_map (λ s. s.now) c.args.settings in
    let h : Shelves = shelves S.files S.faults S.asked c.args.shelf.now c.told.new.shelf in
    let still = by_on (λ (f : FoundFault). f.why ≡ Shelf → c.told.new.shelf ≡ c.load.new.shelf) (λ (f : FoundFault). f.why ≡ Shelf → (h.faults_new ≡ S.faults c.load.new.shelf) × (h.asked_new ≡ S.asked c.load.new.shelf)) c.in-Err.fault
    (λ f x e. (ap S.faults (x e), ap S.asked (x e))) c.told.ensures.still in
    lacks_in c.load_without_faults.ensures.shelf c.load_without_faults.ensures.fault h (S.faults c.load.new.shelf) (S.asked c.load.new.shelf) c.args.name.now settings c.args.verbose
    c.in-Err.fault c.told.result c.in-Err.ensures.fault still
    (subst (λ files. IsToldIn c.args.verbose files c.args.name.now settings c.in-Err.fault c.told.result) c.load.ensures.same c.told.ensures.told)

pub returns-in-Ok-clause-grammar : goal.returns-in-Ok-clause-grammar
returns-in-Ok-clause-grammar g c =
    let h : Shelves = shelves g.S.Shelf.files g.S.Shelf.faults g.S.Shelf.asked c.args.shelf.now c.load.new.shelf in
    c.load_without_faults.ensures.loaded h.files (has_failed h.faults_old h.faults_new h.asked_new) never c.args.name.now (option_map (λ s. s.now) c.args.settings) (grammar_of c.in-Ok.grammar) c.in-Ok.ensures.grammar

use Rattle.std.proofs.Common.{option_map, Ok}
use Rattle.grammar_files.specs.Walks.{has_failed}
use Rattle.grammar_files.specs.WalkViews.{walked_of}
use Rattle.grammar_files.proofs.LawLemmas.{outcome_moves}
use Rattle.grammar_files.proofs.WalkLemmas.{at_exit}
use Rattle.grammar_files.proofs.ReadLemmas.{walk_faults, forms_faults, all_read}
use Rattle.grammar_files.proofs.all_read.read_files.Goals as goal

pub returns-in_err-walked-clause-fault : goal.returns-in_err-walked-clause-fault
returns-in_err-walked-clause-fault g c =
    at_exit _ c.from_residual.result c.in_err-walked.field-0.0 c.from_residual.ensures.1
    (walk_faults (g.S.Shelf.files c.args.shelf.now) (has_failed (g.S.Shelf.faults c.args.shelf.now) (g.S.Shelf.faults c.walk.new.shelf) (g.S.Shelf.asked c.walk.new.shelf)) c.args.top.now (option_map (λ n. n.now) c.args.settings) c.in_err-walked.field-0.0
    c.in_err-walked.ensures.fault)

pub returns-in_err-irregular-clause-fault : goal.returns-in_err-irregular-clause-fault
returns-in_err-irregular-clause-fault g c =
    let files = g.S.Shelf.files c.args.shelf.now in
    let old = g.S.Shelf.faults c.args.shelf.now in
    let mid = g.S.Shelf.faults c.walk.new.shelf in
    let new = g.S.Shelf.faults c.irregular_text.new.shelf in
    let asked = g.S.Shelf.asked c.irregular_text.new.shelf in
    let settings = option_map (λ n. n.now) c.args.settings in
    let w = walked_of c.in_ok-walked.walked in
    at_exit _ c.from_residual-in_err-irregular.result c.in_err-irregular.field-0.0 c.from_residual-in_err-irregular.ensures.1
    (forms_faults files (g.S.Shelf.files c.walk.new.shelf) old mid new asked c.args.top.now settings w c.in_err-irregular.field-0.0 c.walk.ensures.same c.walk.ensures.no_fall
    (outcome_moves files (has_failed old mid (g.S.Shelf.asked c.walk.new.shelf)) (has_failed old new asked) c.args.top.now settings (Ok w) c.in_ok-walked.ensures.walked tt) c.in_err-irregular.ensures.fault)

pub returns-clause-read : goal.returns-clause-read
returns-clause-read g c =
    let files = g.S.Shelf.files c.args.shelf.now in
    let old = g.S.Shelf.faults c.args.shelf.now in
    let settings = option_map (λ n. n.now) c.args.settings in
    let fails = has_failed old (g.S.Shelf.faults c.irregular_text.new.shelf) (g.S.Shelf.asked c.irregular_text.new.shelf) in
    let w = walked_of c.in_ok-walked.walked in
    all_read files (g.S.Shelf.files c.walk.new.shelf) fails c.args.top.now settings w c.in_ok-irregular.irregular.items c.walk.ensures.same
    (outcome_moves files (has_failed old (g.S.Shelf.faults c.walk.new.shelf) (g.S.Shelf.asked c.walk.new.shelf)) fails c.args.top.now settings (Ok w) c.in_ok-walked.ensures.walked tt) c.in_ok-irregular.ensures.text

use Rattle.std.proofs.Common.{option_map, ap, map, string_bytes, refl, None, false}
use Rattle.grammar_settings.specs.SettingsViews.{settings_of, names_in}
use Rattle.grammar_files.specs.WalkViews.{walk_of}
use Rattle.grammar_files.specs.Walks.{has_failed}
use Rattle.grammar_files.proofs.SettledLemmas.{settled_names, can_settle}
use Rattle.grammar_files.proofs.WalkLemmas.{at_exit, walks_settle_fault, walks_fault, walks_ok, begun_is}
use Rattle.grammar_files.specs.declared.walking.Progress.{Progress}
use Rattle.grammar_files.proofs.walking.walk.Goals as goal

pub returns-in_err-settings-clause-fault : goal.returns-in_err-settings-clause-fault
returns-in_err-settings-clause-fault g c =
    at_exit _ c.from_residual.result c.in_err-settings.field-0.0 c.from_residual.ensures.1
    (walks_settle_fault (g.S.Shelf.files c.args.shelf.now) (g.S.Shelf.faults c.args.shelf.now) (g.S.Shelf.faults c.read_settings.new.shelf) (g.S.Shelf.asked c.read_settings.new.shelf) c.args.top.now
    (option_map (λ n. n.now) c.args.settings) c.in_err-settings.field-0.0 c.in_err-settings.ensures.fault)

pub returns-in_err-walk_file-clause-fault : goal.returns-in_err-walk_file-clause-fault
returns-in_err-walk_file-clause-fault g c =
    let p : Progress = record { placed = c.new.result; files = c.new-2.result; environment = None } in
    at_exit _ c.from_residual-in_err-walk_file.result c.in_err-walk_file.field-0.0 c.from_residual-in_err-walk_file.ensures.1
    (walks_fault (g.S.Shelf.files c.args.shelf.now) (g.S.Shelf.files c.read_settings.new.shelf) (g.S.Shelf.faults c.args.shelf.now) (g.S.Shelf.faults c.read_settings.new.shelf) (g.S.Shelf.faults c.walk_file.new.shelf) (g.S.Shelf.asked c.walk_file.new.shelf)
    c.args.top.now (string_bytes c.in_ok-top.top) (option_map (λ n. n.now) c.args.settings) (settings_of c.in_ok-settings.settings) (names_in c.new-open.result) (walk_of p) c.in_err-walk_file.field-0.0
    c.read_settings.ensures.same (ap (map string_bytes) c.new-open.ensures.items) (begun_is p c.new.ensures.items c.new-2.ensures.items refl) c.in_ok-top.ensures c.read_settings.ensures.no_fall
    c.in_ok-settings.ensures.settled c.in_err-walk_file.ensures.fault)

pub returns-clause-walked : goal.returns-clause-walked
returns-clause-walked g c =
    let p : Progress = record { placed = c.new.result; files = c.new-2.result; environment = None } in
    walks_ok (g.S.Shelf.files c.args.shelf.now) (g.S.Shelf.files c.read_settings.new.shelf) (has_failed (g.S.Shelf.faults c.args.shelf.now) (g.S.Shelf.faults c.walk_file.new.shelf) (g.S.Shelf.asked c.walk_file.new.shelf))
    c.args.top.now (string_bytes c.in_ok-top.top) (option_map (λ n. n.now) c.args.settings) (settings_of c.in_ok-settings.settings) (names_in c.new-open.result) (walk_of p) (walk_of c.walk_file.new.progress)
    c.read_settings.ensures.same (ap (map string_bytes) c.new-open.ensures.items) (begun_is p c.new.ensures.items c.new-2.ensures.items refl) c.in_ok-top.ensures
    c.in_ok-settings.ensures.settled c.in_ok-walk_file.ensures.walked

pub returns-clause-settled : goal.returns-clause-settled
returns-clause-settled g c =
    can_settle _ (settled_names (g.S.Shelf.files c.args.shelf.now) (λ name. false) (option_map (λ n. n.now) c.args.settings) (settings_of c.in_ok-settings.settings) (c.in_ok-settings.ensures.settled (λ name. false)))

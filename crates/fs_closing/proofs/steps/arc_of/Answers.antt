use Rattle.std.proofs.Common.{◌≡◌, None, Some, sym, ◌∙◌, ap, arith}
use Rattle.fs_closing.specs.Cells.{chain, find_arc}
use Rattle.fs_closing.specs.NodeTable.{at_of, own_row, first_of}
use Rattle.fs_closing.proofs.ChainLemmas.{find_left, find_right}
use Rattle.fs_closing.proofs.MarkLemmas.{arc_within_some}
use Rattle.fs_closing.proofs.steps.arc_of.Goals as goal

pub returns-in-Some-clause-value : goal.returns-in-Some-clause-value
returns-in-Some-clause-value c =
    let nodes = c.args.nodes.now in
    let value = c.in-Some.ensures ∙ ap (λ p. find_arc (chain nodes.cells p) c.args.feat) c.first_of.ensures in
    sym (find_left (chain nodes.cells (first_of nodes c.args.n)) (own_row nodes c.args.n) c.args.feat c.in-Some.to (sym value))

pub returns-in-Some-clause-within : goal.returns-in-Some-clause-within
returns-in-Some-clause-within c =
    let nodes = c.args.nodes.now in
    let value = c.in-Some.ensures ∙ ap (λ p. find_arc (chain nodes.cells p) c.args.feat) c.first_of.ensures in
    arc_within_some (at_of nodes) (own_row nodes) nodes.cells nodes.merges nodes.size c.requires.sound.stands c.args.n c.args.feat (Some c.in-Some.to)
    (sym (find_left (chain nodes.cells (first_of nodes c.args.n)) (own_row nodes c.args.n) c.args.feat c.in-Some.to (sym value)))

pub find-requires-clause-place : goal.find-requires-clause-place
find-requires-clause-place c =
    omega (arith, c.first_of.ensures, c.requires.sound.stands.first_in c.args.n c.requires.node)

pub own_arc-requires : goal.own_arc-requires
own_arc-requires c = record { small = λ x h. omega (arith, c.requires.sound.stands.own_in c.args.n x h, c.requires.sound.stands.small) }

pub returns-clause-value : goal.returns-clause-value
returns-clause-value c =
    let nodes = c.args.nodes.now in
    let value : None ≡ find_arc (chain nodes.cells c.first_of.result) c.args.feat = cc (c.in_default.is, c.in_default.ensures) in
    let none = value ∙ ap (λ p. find_arc (chain nodes.cells p) c.args.feat) c.first_of.ensures in
    c.own_arc.ensures ∙ sym (find_right (chain nodes.cells (first_of nodes c.args.n)) (own_row nodes c.args.n) c.args.feat (sym none))

pub returns-clause-within : goal.returns-clause-within
returns-clause-within c =
    let nodes = c.args.nodes.now in
    let value : None ≡ find_arc (chain nodes.cells c.first_of.result) c.args.feat = cc (c.in_default.is, c.in_default.ensures) in
    let none = value ∙ ap (λ p. find_arc (chain nodes.cells p) c.args.feat) c.first_of.ensures in
    arc_within_some (at_of nodes) (own_row nodes) nodes.cells nodes.merges nodes.size c.requires.sound.stands c.args.n c.args.feat c.own_arc.result
    (c.own_arc.ensures ∙ sym (find_right (chain nodes.cells (first_of nodes c.args.n)) (own_row nodes c.args.n) c.args.feat (sym none)))

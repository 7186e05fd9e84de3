use Rattle.std.proofs.Common.{◌∙◌, sym, ap, Some}
use Rattle.std.proofs.lemmas.List.{length-map}
use Rattle.mrs_model.specs.Views.{variable_of}
use Rattle.mrs_model.proofs.Joining.{told_next, grown_next, read_at, differ_no}
use Rattle.mrs_model.proofs.join.Vars.bind.Goals as goal

pub returns-then-same_var-clause-grown : goal.returns-then-same_var-clause-grown
returns-then-same_var-clause-grown c =
    let p = read_at variable_of c.args.self.left.now c.args.left c.index-self-left.result c.requires.left_in in
    let q = read_at variable_of c.args.self.right.now c.args.right c.index-self-right.result c.requires.right_in in
    let e = c.same_var.ensures.0 c.if-same_var.true in
    grown_next _ _ _ _ _ _ c.bind.ensures.next (q ∙ ap Some (sym e) ∙ sym p)

pub returns-then-same_var-clause-told : goal.returns-then-same_var-clause-told
returns-then-same_var-clause-told c = λ to m a e. told_next to _ _ _ _ c.bind.ensures.next a e

pub returns-else-same_var-clause-no : goal.returns-else-same_var-clause-no
returns-else-same_var-clause-no c = λ to m a e.
    let p = read_at variable_of c.args.self.left.now c.args.left c.index-self-left.result c.requires.left_in in
    let q = read_at variable_of c.args.self.right.now c.args.right c.index-self-right.result c.requires.right_in in
    differ_no _ _ to _ _ _ _ p q (λ h. absurd (cc (c.if-same_var.ensures.1 h))) (simp length-map c.requires.left_in) m e

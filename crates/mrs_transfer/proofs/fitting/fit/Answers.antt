use Rattle.std.proofs.Common.{◌∙◌, ap, sym}
use Rattle.std.specs.Prelude.{map, string_bytes}
use Rattle.std.proofs.lemmas.Bool.{OnTrue_at}
use Rattle.mrs_model.specs.Views.{variable_of, argument_of, predication_of}
use Rattle.transfer_model.specs.Views.{element_of}
use Rattle.mrs_transfer.proofs.Labels.{fits_yes, fits_no, fits_other_pred, differs, agrees}
use Rattle.mrs_transfer.proofs.fitting.fit.Goals as goal

pub returns-then-ne-clause-no : goal.returns-then-ne-clause-no
returns-then-ne-clause-no c =
    fits_other_pred (map variable_of c.args.all.now) (map string_bytes c.args.letters.now) (element_of c.args.element.now) (predication_of c.args.ep.now) c.args.pairs.now.items
    (differs (string_bytes c.args.element.now.pred) (string_bytes c.args.ep.now.pred) (sym c.ne.ensures ∙ c.if-ne.true))

pub returns-clause-yes : goal.returns-clause-yes
returns-clause-yes c =
    fits_yes (map variable_of c.args.all.now) (map string_bytes c.args.letters.now) (element_of c.args.element.now) (predication_of c.args.ep.now) (map argument_of c.deref.result.now) (map argument_of c.deref-2.result.now) c.args.pairs.now.items c.fit_label.new.pairs.items c.fill_roles.new.pairs.items c.in_ok-filled.filled
    (ap (map argument_of) c.deref.ensures.value) (ap (map argument_of) c.deref-2.ensures.value) (agrees (string_bytes c.args.element.now.pred) (string_bytes c.args.ep.now.pred) (sym c.ne.ensures ∙ c.if-ne.false)) (OnTrue_at c.if-not-branch.false c.in_ok-fit_label.ensures.yes) c.in_ok-filled.ensures.yes

pub returns-clause-no : goal.returns-clause-no
returns-clause-no c =
    fits_no (map variable_of c.args.all.now) (map string_bytes c.args.letters.now) (element_of c.args.element.now) (predication_of c.args.ep.now) (map argument_of c.deref.result.now) (map argument_of c.deref-2.result.now) c.args.pairs.now.items c.fit_label.new.pairs.items c.fill_roles.new.pairs.items c.in_ok-filled.filled
    (ap (map argument_of) c.deref.ensures.value) (ap (map argument_of) c.deref-2.ensures.value) (OnTrue_at c.if-not-branch.false c.in_ok-fit_label.ensures.yes) c.in_ok-filled.ensures.no

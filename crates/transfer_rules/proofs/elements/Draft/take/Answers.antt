use Rattle.std.proofs.Common.{◌≡◌, ◌≢◌, ◌∙◌, codes, sym}
use Rattle.std.proofs.lemmas.Slice.Eq.{bytes_eq-Decides}
use Rattle.transfer_rules.specs.Inner.Drafts.{draft_of, names_seen}
use Rattle.transfer_rules.specs.Inner.Views.{feature_of}
use Rattle.transfer_rules.proofs.Lists.{true_not_false}
use Rattle.transfer_rules.proofs.Taking.{on_ok, on_both, takes_pred, takes_label, takes_role, label_form}
use Rattle.transfer_rules.proofs.elements.Draft.take.Goals as goal

pub returns-then-eq-clause-some : goal.returns-then-eq-clause-some
returns-then-eq-clause-some c =
    let n : c.args.feature.now.name.now ≡ codes "pred" = (bytes_eq-Decides c.args.feature.now.name.now (codes "pred")).0 (sym c.eq.ensures ∙ c.if-eq.true) in
    on_ok c.take_pred.result (takes_pred (names_seen c.args.names.now) (feature_of c.args.feature.now) (draft_of c.args.self.now) (draft_of c.take_pred.new.self) n) c.take_pred.ensures.some

pub returns-then-eq-2-clause-some : goal.returns-then-eq-2-clause-some
returns-then-eq-2-clause-some c =
    let n : c.args.feature.now.name.now ≡ codes "lbl" = (bytes_eq-Decides c.args.feature.now.name.now (codes "lbl")).0 (sym c.eq-else-eq.ensures ∙ c.if-eq-2.true) in
    on_ok c.take_label.result (takes_label (names_seen c.args.names.now) (names_seen c.take_label.new.names) (feature_of c.args.feature.now) (draft_of c.args.self.now) (draft_of c.take_label.new.self) n) c.take_label.ensures.some

pub returns-then-eq-2-clause-form : goal.returns-then-eq-2-clause-form
returns-then-eq-2-clause-form c =
    let n : c.args.feature.now.name.now ≡ codes "lbl" = (bytes_eq-Decides c.args.feature.now.name.now (codes "lbl")).0 (sym c.eq-else-eq.ensures ∙ c.if-eq-2.true) in
    on_ok c.take_label.result (label_form (names_seen c.args.names.now) (names_seen c.take_label.new.names) (feature_of c.args.feature.now) (draft_of c.args.self.now) (draft_of c.take_label.new.self) n) c.take_label.ensures.some

pub returns-then-eq-2-clause-none : goal.returns-then-eq-2-clause-none
returns-then-eq-2-clause-none c =
    let n : c.args.feature.now.name.now ≡ codes "lbl" = (bytes_eq-Decides c.args.feature.now.name.now (codes "lbl")).0 (sym c.eq-else-eq.ensures ∙ c.if-eq-2.true) in
    λ e h. (let w = h.1 n in c.take_label.ensures.none e w.0 w.1 w.2 w.3)

pub returns-else-eq-2-clause-some : goal.returns-else-eq-2-clause-some
returns-else-eq-2-clause-some c =
    let name = c.args.feature.now.name.now in
    let np : name ≢ codes "pred" = λ e. true_not_false _ ((bytes_eq-Decides name (codes "pred")).1 e) (sym c.eq.ensures ∙ c.if-eq.false) in
    let nl : name ≢ codes "lbl" = λ e. true_not_false _ ((bytes_eq-Decides name (codes "lbl")).1 e) (sym c.eq-else-eq.ensures ∙ c.if-eq-2.false) in
    on_both c.take_role.result (takes_role (names_seen c.args.names.now) (names_seen c.take_role.new.names) (feature_of c.args.feature.now) (draft_of c.args.self.now) (draft_of c.take_role.new.self) np nl)
    c.take_role.ensures.names c.take_role.ensures.some

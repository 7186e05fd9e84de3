use Rattle.std.proofs.Common.{◌≡◌, ◌∙◌, ◌++◌, ◌∷◌, [], sym, subst, ap, map}
use Rattle.std.specs.String.{string_bytes}
use Rattle.std.proofs.lemmas.List.{map-append}
use Rattle.mrs_model.specs.Meanings.{Constraint}
use Rattle.mrs_model.specs.Views.{icon_of}
use Rattle.mrs_reading.specs.Meaning.{is_left, is_variable_rel, is_right, is_variable}
use Rattle.mrs_reading.specs.Inner.Reading.{piece_at, IsLinked}
use Rattle.mrs_reading.proofs.Linked.{linked_first, linked_rel, linked_second, linked_other, same_constraint, not_is_left, not_is_variable_rel, not_is_right}
use Rattle.mrs_reading.proofs.constraints.Icons.take.Goals as goal

pub returns-in-Left : goal.returns-in-Left
returns-in-Left c = λ keys ps v h.
    let old = c.args.self.now in
    let k = c.in-Left.is in
    linked_first is_left is_variable_rel is_right keys ps (piece_at c.args.token.now) old.left c.args.last (string_bytes old.rel) (map icon_of old.list.items) (ap is_left k) (ap is_right k) (v (ap is_variable k)) h

pub returns-in_ok-self-in-VariableRel : goal.returns-in_ok-self-in-VariableRel
returns-in_ok-self-in-VariableRel c = λ keys ps v h.
    let old = c.args.self.now in
    let k = c.in-VariableRel.is in
    linked_rel is_left is_variable_rel is_right keys ps (piece_at c.args.token.now) old.left (string_bytes old.rel) (string_bytes c.in_ok-self-in-VariableRel.field-0) (map icon_of old.list.items) (ap is_left k) (ap is_variable_rel k) (ap is_right k) c.in_ok-self-in-VariableRel.ensures.ok h

pub returns-in_ok-push-in-Right : goal.returns-in_ok-push-in-Right
returns-in_ok-push-in-Right c = λ keys ps v h.
    let old = c.args.self.now in
    let p = piece_at c.args.token.now in
    let k = c.in-Right.is in
    let n = linked_second is_left is_variable_rel is_right keys ps p old.left c.args.last (string_bytes old.rel) (map icon_of old.list.items) (ap is_left k) (ap is_variable_rel k) (ap is_right k) (v (ap is_variable k)) h in
    let e : map icon_of c.push.new.self.items ≡ map icon_of old.list.items ++ record { left = old.left; rel = string_bytes old.rel; right = c.args.last } ∷ [] =
    ap (map icon_of) c.in_ok-push-in-Right.ensures.items ∙ map-append icon_of old.list.items (_ ∷ []) ∙ ap (λ (z : Constraint). map icon_of old.list.items ++ z ∷ []) (same_constraint old.left (string_bytes c.in_ok-rel-in-Right.rel) (string_bytes old.rel) c.args.last c.in_ok-rel-in-Right.ensures.cases) in
    subst (IsLinked is_left is_variable_rel is_right keys (ps ++ p ∷ []) old.left (string_bytes old.rel)) (sym e) n

pub returns-in_default : goal.returns-in_default
returns-in_default c = λ keys ps v h.
    let old = c.args.self.now in
    let k = c.args.token.now.kind in
    linked_other is_left is_variable_rel is_right keys ps (piece_at c.args.token.now) old.left (string_bytes old.rel) (map icon_of old.list.items) (not_is_left k c.in_default.not-Left) (not_is_variable_rel k c.in_default.not-VariableRel) (not_is_right k c.in_default.not-Right) h

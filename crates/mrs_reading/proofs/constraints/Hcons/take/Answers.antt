use Rattle.std.proofs.Common.{◌≡◌, ◌∙◌, ◌++◌, ◌∷◌, [], sym, subst, ap, map}
use Rattle.std.specs.String.{string_bytes}
use Rattle.std.proofs.lemmas.List.{map-append}
use Rattle.mrs_model.specs.Meanings.{Constraint}
use Rattle.mrs_model.specs.Views.{hcon_of}
use Rattle.mrs_reading.specs.Meaning.{is_high, is_handle_rel, is_low, is_variable}
use Rattle.mrs_reading.specs.Inner.Reading.{piece_at, IsLinked}
use Rattle.mrs_reading.proofs.Linked.{linked_first, linked_rel, linked_second, linked_other, same_constraint, not_is_high, not_is_handle_rel, not_is_low}
use Rattle.mrs_reading.proofs.constraints.Hcons.take.Goals as goal

pub returns-in-High : goal.returns-in-High
returns-in-High c = λ keys ps v h.
    let old = c.args.self.now in
    let k = c.in-High.is in
    linked_first is_high is_handle_rel is_low keys ps (piece_at c.args.token.now) old.high c.args.last (string_bytes old.rel) (map hcon_of old.list.items) (ap is_high k) (ap is_low k) (v (ap is_variable k)) h

pub returns-in_ok-self-in-HandleRel : goal.returns-in_ok-self-in-HandleRel
returns-in_ok-self-in-HandleRel c = λ keys ps v h.
    let old = c.args.self.now in
    let k = c.in-HandleRel.is in
    linked_rel is_high is_handle_rel is_low keys ps (piece_at c.args.token.now) old.high (string_bytes old.rel) (string_bytes c.in_ok-self-in-HandleRel.field-0) (map hcon_of old.list.items) (ap is_high k) (ap is_handle_rel k) (ap is_low k) c.in_ok-self-in-HandleRel.ensures.ok h

pub returns-in_ok-push-in-Low : goal.returns-in_ok-push-in-Low
returns-in_ok-push-in-Low c = λ keys ps v h.
    let old = c.args.self.now in
    let p = piece_at c.args.token.now in
    let k = c.in-Low.is in
    let n = linked_second is_high is_handle_rel is_low keys ps p old.high c.args.last (string_bytes old.rel) (map hcon_of old.list.items) (ap is_high k) (ap is_handle_rel k) (ap is_low k) (v (ap is_variable k)) h in
    let e : map hcon_of c.push.new.self.items ≡ map hcon_of old.list.items ++ record { left = old.high; rel = string_bytes old.rel; right = c.args.last } ∷ [] =
    ap (map hcon_of) c.in_ok-push-in-Low.ensures.items ∙ map-append hcon_of old.list.items (_ ∷ []) ∙ ap (λ (z : Constraint). map hcon_of old.list.items ++ z ∷ []) (same_constraint old.high (string_bytes c.in_ok-rel-in-Low.rel) (string_bytes old.rel) c.args.last c.in_ok-rel-in-Low.ensures.cases) in
    subst (IsLinked is_high is_handle_rel is_low keys (ps ++ p ∷ []) old.high (string_bytes old.rel)) (sym e) n

pub returns-in_default : goal.returns-in_default
returns-in_default c = λ keys ps v h.
    let old = c.args.self.now in
    let k = c.args.token.now.kind in
    linked_other is_high is_handle_rel is_low keys ps (piece_at c.args.token.now) old.high (string_bytes old.rel) (map hcon_of old.list.items) (not_is_high k c.in_default.not-High) (not_is_handle_rel k c.in_default.not-HandleRel) (not_is_low k c.in_default.not-Low) h

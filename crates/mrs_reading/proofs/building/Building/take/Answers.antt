use Rattle.std.proofs.Common.{◌≡◌, ◌≤◌, ◌<◌, ◌∙◌, true, sym, subst, ap, rules, vec_len}
use Rattle.std.proofs.lemmas.Bool.{OnTrue_at}
use Rattle.mrs_spelling.specs.Conditions.{Context, context, given}
use Rattle.mrs_reading.specs.declared.table.Table.{Table}
use Rattle.mrs_reading.specs.Inner.Tables.{IsTableOf, keys_in}
use Rattle.mrs_reading.specs.Inner.Built.{word_at, roles_in}
use Rattle.mrs_reading.specs.declared.building.Building.{Building}
use Rattle.mrs_reading.specs.Meaning.{is_variable, Is}
use Rattle.mrs_reading.specs.Inner.Reading.{piece_at, Grows, AreHcons, AreIcons}
use Rattle.mrs_reading.specs.Inner.Predications.{AreEps}
use Rattle.mrs_reading.proofs.Saying.{read_on}
use Rattle.mrs_reading.proofs.Contexts.{context_more}
use Rattle.mrs_reading.proofs.Agreeing.{yes_weaker, no_weaker}
use Rattle.mrs_reading.proofs.Taking.{table_more, keeps_both}
use Rattle.mrs_reading.proofs.building.Building.take.Goals as goal

pub returns-clause-built : goal.returns-clause-built
returns-clause-built c =
    let t = c.args.token.now in
    let y : c.in_ok-take.field-0 ≡ true = search rules in
    yes_weaker c.take-4.result (λ r ws b. record {
      table = table_more ws (word_at t) c.note.new.self.table (subst (IsTableOf _ _) (sym c.note.ensures.table) (OnTrue_at y c.in_ok-take.ensures.table (context ws) (given ws) b.table));
      roles = ap (λ (z : Context). z.roles) (context_more ws (word_at t)) ∙ r (context ws) (b.roles ∙ ap roles_in (sym c.note.ensures.eps));
    }) c.take-4.ensures.roles

pub returns-clause-keeps : goal.returns-clause-keeps
returns-clause-keeps c =
    let t = c.args.token.now in
    let y : c.in_ok-take.field-0 ≡ true = search rules in
    yes_weaker c.take-4.result (λ k ws b x. keeps_both (context ws) (given ws) t.kind (word_at t).text (λ e z. OnTrue_at y c.in_ok-take.ensures.keeps (context ws) (given ws) b.table e z)
    (λ n z. k (context ws) (given ws) (b.roles ∙ ap roles_in (sym c.note.ensures.eps)) n z) x) c.take-4.ensures.keeps

pub returns-clause-breaks : goal.returns-clause-breaks
returns-clause-breaks c = no_weaker c.take-4.result (λ k ws b. k (context ws) (given ws) (b.roles ∙ ap roles_in (sym c.note.ensures.eps))) c.take-4.ensures.breaks

pub returns-clause-some : goal.returns-clause-some
returns-clause-some c =
    yes_weaker c.take-4.result (λ _ ws b v. subst (λ (z : Table). 0 < vec_len z.vars) (sym c.note.ensures.table) (c.in_ok-take.ensures.some (context ws) (given ws) b.table v)) c.take-4.ensures.roles

pub returns-clause-more : goal.returns-clause-more
returns-clause-more c =
    yes_weaker c.take-4.result (λ _ ws b. subst (λ (z : Table). vec_len c.args.self.now.table.vars ≤ vec_len z.vars) (sym c.note.ensures.table) (c.in_ok-take.ensures.more (context ws) (given ws) b.table)) c.take-4.ensures.roles

pub returns-clause-read : goal.returns-clause-read
returns-clause-read c =
    let p = piece_at c.args.token.now in
    let old = c.args.self.now in
    let n = c.note.new.self in
    let new : Building = record { table = n.table; top = n.top; index = n.index; eps = c.take-4.new.self; hcons = c.take-2.new.self; icons = c.take-3.new.self } in
    let l : c.in_ok-last.last ≡ c.take.new.self.last = c.in_ok-last.ensures in
    yes_weaker c.take-4.result (λ q ws ps b r x.
    let g = c.in_ok-take.ensures.grown (context ws) (given ws) b.table in
    let f : is_variable p.kind ≡ true → Is (keys_in n.table) p c.in_ok-last.last = λ v. subst (λ (z : Table). Is (keys_in z) p c.in_ok-last.last) (sym c.note.ensures.table) (subst (Is (keys_in c.take.new.self) p) (sym l) (g.here v)) in
    read_on ps p old new c.in_ok-last.last (subst (λ (z : Table). Grows (keys_in old.table) (keys_in z) p c.in_ok-last.last) (sym c.note.ensures.table) (subst (Grows (keys_in old.table) (keys_in c.take.new.self) p) (sym l) g)) r
    c.note.ensures.top c.note.ensures.index
    (λ h. c.in_ok-take-2.ensures (keys_in n.table) ps f (subst (AreHcons (keys_in n.table) ps) (sym c.note.ensures.hcons) h))
    (λ h. c.in_ok-take-3.ensures (keys_in n.table) ps f (subst (AreIcons (keys_in n.table) ps) (sym c.note.ensures.icons) h))
    (λ s t e h. q (keys_in n.table) ps s t e f (subst (AreEps (keys_in n.table) ps s) (sym c.note.ensures.eps) h)) x) c.take-4.ensures.read

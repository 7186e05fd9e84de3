use Rattle.std.proofs.Common.{sym, ap, ◌∙◌, subst, List, ℕ, Bool, ◌≡◌}
use Rattle.lkb_io.specs.Lines.{IsTooLong, Kept}
use Rattle.lkb_io.proofs.lines.read_line.Goals as goal

pair : {a b : List ℕ} {x y : Bool} → a ≡ b → x ≡ y → let p : List ℕ × Bool = (a, x) in let q : List ℕ × Bool = (b, y) in p ≡ q
pair e f = λ i. (e i, f i)

pub returns-clause-again : goal.returns-clause-again
returns-clause-again g c = λ h.
    let k = c.next_line.ensures.again (subst (λ v. IsTooLong v.bytes) (sym c.held.view_is) h) in
    let v : _ = c.held.view_is in (k.0, ap (λ (p : List ℕ × Bool). let r : Kept = record { bytes = p.0; ended = p.1 } in r) (pair k.1 k.2) ∙ v)

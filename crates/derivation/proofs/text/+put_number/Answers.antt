use Rattle.std.proofs.Common.{◌≡◌, ◌/◌, ◌%◌, ◌+◌, ◌++◌, ◌∷◌, [], ◌∙◌, ap, sym, append_assoc, arith}
use Rattle.std.proofs.lemmas.Fmt.{decimal_step, decimal_digit}
use Rattle.std.specs.Fmt.{decimal}
use Rattle.derivation.proofs.text.+put_number.Goals as goal
use Rattle.derivation.proofs.text.+put_number.Goals.{then-number-ge10+in_ok-put_number, else-number-ge10}

pub returns-clause-ok : goal.returns-clause-ok
returns-clause-ok t c =
    let n = c.args.number in
    let old = c.args.into.now.items in
    let fits = c.ranges.number.fits in
    let last = (48 + n % 10) ∷ [] in
    let pushed : c.push.new.self.items ≡ c.if-number-ge10.into.items ++ last = c.in_ok-push.ensures.items in
    elim c.if-number-ge10.branch [
      | then-number-ge10+in_ok-put_number w ↦
          let front : c.if-number-ge10.into.items ≡ old ++ decimal (n / 10) = cc (w.in_ok-put_number.ensures.ok) in
          pushed ∙ ap (λ zs. zs ++ last) front ∙ append_assoc old (decimal (n / 10)) last
          ∙ ap (λ zs. old ++ zs) (sym (decimal_step n w.if-number-ge10.true (omega arith)))
      | else-number-ge10 w ↦
          let same : n % 10 ≡ n = omega (arith, w.if-number-ge10.false) in
          let front : c.if-number-ge10.into.items ≡ old = cc in
          pushed ∙ ap (λ zs. zs ++ last) front ∙ ap (λ k. old ++ (48 + k) ∷ []) same ∙ ap (λ zs. old ++ zs) (sym (decimal_digit n w.if-number-ge10.false))
    ]

use Rattle.std.proofs.Common.{ap, ◌∙◌, ◌≡◌, option_map, Some, None, List, ℕ, Option, Bor, unwrap_or}
use Rattle.clap.specs.Words.{found_of}
use Rattle.command_line.proofs.Keeping.{first-kept, second-kept, names-kept}
use Rattle.command_line.proofs.reading.read_arguments.Goals as goal

text-of : (s : Option (Bor (List ℕ))) (d : Bor (List ℕ)) (w : List ℕ) → option_map (λ s. s.now) s ≡ Some w → (unwrap_or s d).now ≡ w
text-of (Some x) d w e = cc
text-of None d w e = cc

pub returns-clause-ok : goal.returns-clause-ok
returns-clause-ok c =
    let found = c.in_ok-matches.ensures.ok in
    let f = found_of c.in_ok-matches.matches in (
      found.items,
      found.written,
      found.items_are,
      found.once,
      found.filled,
      names-kept c.args.places _ c.unwrap_or.result.now c.unwrap_or-2.result.now found.filled
          (λ w at. ap (λ (s : Bor (List ℕ)). s.now) c.unwrap_or.ensures ∙ text-of c.get_str.result _ w (c.get_str.ensures ∙ first-kept found.items f found.rows ∙ at))
          (λ w at. ap (λ (s : Bor (List ℕ)). s.now) c.unwrap_or-2.ensures ∙ text-of c.get_str-2.result _ w (c.get_str-2.ensures ∙ second-kept found.items f found.rows ∙ at)),
      c.options_of.ensures found.items found.rows found.items_are,
    )

use Rattle.std.proofs.Common.{◌≡◌, length, arith, sym, ap}
use Rattle.fs_model.specs.Claims.{exists_at}
use Rattle.fs_model.specs.Sources.{Told}
use Rattle.fs_closing.specs.Rules.{system_of}
use Rattle.forced_types.specs.Inner.Sound.{most_of, entry_in, path_in, source_in}
use Rattle.forced_types.proofs.ForcedLemmas.{forced_within}
use Rattle.forced_types.proofs.SoundLemmas.{entry_count}
use Rattle.forced_types.proofs.nodes.Nodes.is_closed.Goals as goal

pub returns : goal.returns
returns c = λ yes.
    let g = c.args.given in
    let t = c.args.self.now in
    record {
      filled = omega (arith, c.requires.entries.filled, entry_count t);
      flat = c.is_flat.ensures c.if-not-is_flat.false;
      root =
          let moved : length (path_in t (entry_in t 0).up) ≡ length (path_in t c.up-top.result) = ap (λ x. length (path_in t x)) (sym c.up-top.ensures) in
          omega (arith, c.depth.ensures);
      nodes = c.are_nodes_closed.ensures c.if-not-are_nodes_closed.false;
      short = λ n h.
          forced_within (system_of g.system.now) (most_of g) (Told (source_in g)) (exists_at (path_in t n)) (c.requires.entries.each n (omega (arith, entry_count t, h))).there;
      told = c.in_ok-told.ensures yes;
      facts = c.holds_facts.ensures c.if-not-holds_facts.false;
    }

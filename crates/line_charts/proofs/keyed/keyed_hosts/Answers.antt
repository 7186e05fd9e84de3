use Rattle.std.proofs.Common.{◌∙◌, [], ◌∷◌, ◌++◌, All, length, map, sym, ap, subst}
use Rattle.std.specs.Prelude.{string_bytes}
use Rattle.std.proofs.lemmas.List.{map-append}
use Rattle.std.proofs.lemmas.Iterator.Adapters.{YieldsList-from_vec}
use Rattle.std.proofs.lemmas.Iterator.Consumers.{YieldsList-end, YieldsList-turn}
use Rattle.chart_core.proofs.Grows.{all_snoc}
use Rattle.grammar_shapes.specs.Systems.{grammar_of}
use Rattle.packed_forests.specs.declared.ClassRows.{ClassRows}
use Rattle.line_charts.specs.Inner.Hosts.{HasShape}
use Rattle.line_charts.specs.Inner.KeyedHosts.{IsHostKeyed}
use Rattle.line_charts.specs.declared.hosts.Host.{Host}
use Rattle.line_charts.proofs.Steps.{same_map}
use Rattle.line_charts.proofs.keyed.keyed_hosts.Goals as goal

pub host_key-requires-clause-host : goal.host_key-requires-clause-host
host_key-requires-clause-host g c =
    let turn = YieldsList-turn (YieldsList-from_vec c.args.classes.items (cc) (cc)) c.loop-rows.yielded _ c.loop-rows.yielded_by _ c.next.new.self c.in-Some.rows c.in-Some.is c.next.ensures.steps in
    subst (λ (r : ClassRows). HasShape c.args.finished.now r.host.0) (sym turn.1) (c.requires.hosts (length c.loop-rows.yielded) c.in-Some.rows turn.0)

pub loop-rows-preserved : goal.loop-rows-preserved
loop-rows-preserved g c =
    let h : Host = record { rows = c.in-Some.rows; key = c.in_ok-key.key } in
    let is = c.in_ok-push.ensures.items in
    let P = IsHostKeyed c.args.shapes.now c.args.finished.now (grammar_of c.args.shapes.now).types (map string_bytes c.args.feats.now) in (
      ap (map (λ (h : Host). h.rows)) is ∙ map-append (λ (h : Host). h.rows) c.loop-rows.hosts.items (h ∷ []) ∙ ap (λ rs. rs ++ c.in-Some.rows ∷ []) c.loop-rows.invariant.0,
      subst (All P) (sym is) (all_snoc P c.loop-rows.hosts.items h c.loop-rows.invariant.1 c.in_ok-key.ensures),
    )

pub returns-clause-rows : goal.returns-clause-rows
returns-clause-rows g c =
    let end = YieldsList-end (YieldsList-from_vec c.args.classes.items (cc) (cc)) c.loop-rows.yielded _ c.loop-rows.yielded_by _ c.next.new.self c.in-None.is c.next.ensures.steps in
    c.loop-rows.invariant.0 ∙ sym (same_map c.loop-rows.yielded) ∙ end.0

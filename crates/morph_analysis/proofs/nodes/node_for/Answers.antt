use Rattle.std.proofs.Common.{rules, ◌≡◌, ◌∙◌, inr, None, map, string_bytes, refl, sym, ap, subst}
use Rattle.morph_analysis.proofs.NodeLemmas.{node_found, grown_by, new_node, none_when}
use Rattle.morph_analysis.specs.Views.{node_of}
use Rattle.morph_analysis.specs.Inner.Growing.{IsWithNode}
use Rattle.std.proofs.lemmas.List.{length-map}
use Rattle.indexmap.proofs.CallerLemmas.{insert_entry-new}
use Rattle.std.specs.Map.{lookup}
use Rattle.std.specs.Str.{bytes_eq}
use Rattle.std.specs.Prelude.{is_some}
use Rattle.morph_analysis.proofs.nodes.node_for.Goals as goal

pub returns-in-Some-clause-node : goal.returns-in-Some-clause-node
returns-in-Some-clause-node c = node_found c.args.nodes.now.entries c.args.word.now c.in-Some.place (sym c.in-Some.ensures.index)

pub returns-clause-node : goal.returns-clause-node
returns-clause-node c =
    let entries = c.args.nodes.now.entries in
    let none : c.get_index_of.result ≡ None = search rules in
    let missing : lookup (λ k. bytes_eq c.args.word.now (string_bytes k)) c.args.nodes.now.entries ≡ None = none_when (lookup (λ k. bytes_eq c.args.word.now (string_bytes k)) c.args.nodes.now.entries) (sym (ap is_some none) ∙ c.get_index_of.ensures.found) in
    let absent : lookup (λ k. bytes_eq (string_bytes c.in_ok-key.key) (string_bytes k)) c.args.nodes.now.entries ≡ None =
    subst (λ w. lookup (λ k. bytes_eq w (string_bytes k)) c.args.nodes.now.entries ≡ None) (sym c.in_ok-key.ensures.ok) missing in
    let is : IsWithNode c.args.distance c.args.word.now (map node_of c.args.nodes.now.entries) (map node_of c.insert.new.self.entries) =
    grown_by entries c.insert.new.self.entries c.in_ok-key.key (record { distance = c.args.distance; edges = c.new-edges.result }) c.args.word.now c.args.distance (c.in_ok-insert.ensures.entries ∙ insert_entry-new _ c.args.nodes.now c.in_ok-key.key _ absent)
    c.in_ok-key.ensures.ok refl c.new-edges.ensures.items missing in
    new_node (map node_of entries) (map node_of c.insert.new.self.entries) c.args.word.now c.args.distance c.len-place.result is (c.len-place.ensures.len ∙ sym (length-map entries node_of))

pub returns-clause-same : goal.returns-clause-same
returns-clause-same c =
    let entries = c.args.nodes.now.entries in
    let none : c.get_index_of.result ≡ None = search rules in
    let missing : lookup (λ k. bytes_eq c.args.word.now (string_bytes k)) c.args.nodes.now.entries ≡ None = none_when (lookup (λ k. bytes_eq c.args.word.now (string_bytes k)) c.args.nodes.now.entries) (sym (ap is_some none) ∙ c.get_index_of.ensures.found) in
    let absent : lookup (λ k. bytes_eq (string_bytes c.in_ok-key.key) (string_bytes k)) c.args.nodes.now.entries ≡ None =
    subst (λ w. lookup (λ k. bytes_eq w (string_bytes k)) c.args.nodes.now.entries ≡ None) (sym c.in_ok-key.ensures.ok) missing in
    let is : IsWithNode c.args.distance c.args.word.now (map node_of c.args.nodes.now.entries) (map node_of c.insert.new.self.entries) =
    grown_by entries c.insert.new.self.entries c.in_ok-key.key (record { distance = c.args.distance; edges = c.new-edges.result }) c.args.word.now c.args.distance (c.in_ok-insert.ensures.entries ∙ insert_entry-new _ c.args.nodes.now c.in_ok-key.key _ absent)
    c.in_ok-key.ensures.ok refl c.new-edges.ensures.items missing in
    inr is

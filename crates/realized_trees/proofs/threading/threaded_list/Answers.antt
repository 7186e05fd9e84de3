use Rattle.std.proofs.Common.{◌∙◌, refl, sym, ap}
use Rattle.std.specs.Prelude.{option_map}
use Rattle.tree_model.specs.Signs.{rule_system}
use Rattle.book_signs.specs.Trees.{signs_of}
use Rattle.relation_fit.specs.Lists.{list_seen}
use Rattle.realized_trees.proofs.Listed.{cut_is}
use Rattle.realized_trees.proofs.threading.threaded_list.Goals as goal

pub is_null_apart-requires : goal.is_null_apart-requires
is_null_apart-requires c = c.requires.null_in

pub returns : goal.returns
returns c =
    let g = signs_of c.args.signs.now in
    record {
      list = sym c.in_ok-list.ensures ∙ ap (option_map list_seen) c.in-Some.is;
      outside = c.if-not-is_outside.ensures refl (rule_system g) (cut_is g c.daughters.result.now c.deref.result.now c.daughters.ensures c.deref.ensures.value);
      threads = c.in_ok-all_thread.ensures c.if-not-branch.false;
      apart = c.if-not-is_null_apart.ensures refl;
    }

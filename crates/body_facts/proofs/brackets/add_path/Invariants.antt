use Rattle.std.proofs.Common.{◌≡◌, ◌++◌, ◌&&◌, map, take, string_bytes}
use Rattle.body_facts.specs.BracketUses.{used_of, path_uses, is_empty_path}
use Rattle.body_facts.proofs.brackets.add_path.Given as goal

abbrev pub invariant-loop-feature : goal.invariant-loop-feature
invariant-loop-feature l =
    (map used_of l.found.items ≡ map used_of l.initial.found.items ++ path_uses l.at l.own (map string_bytes (take l.feature-index l.path)))
    × (l.here ≡ (l.own && is_empty_path (map string_bytes (take l.feature-index l.path))))

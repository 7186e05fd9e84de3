-- Roots and shapes.
use Rattle.fs_model.specs.Claims.{Claim}
use Rattle.fs_model.specs.Closure.{Closure, given_claim}
use Rattle.tree_model.proofs.Closures.{grows, falls, trimmed_inside}
use Rattle.tree_model.specs.Trees.{Both, of_root, of_full}
use Rattle.generate_model.specs.EarlyRoots.{RootsFall}

pub roots_fall : RootsFall
roots_fall g m f a r = record { place = r.place; root = r.root; at = r.at; kind = r.kind; unifies = falls g.system (λ c h. grows g.system by_part h) r.unifies }
  where
    by_part : (c : Claim) → Both g r.root m c → Closure g.system (Both g r.root f) c
    by_part c (of_root _ h) = given_claim c (of_root c h)
    by_part c (of_full _ h) = grows g.system (λ d x. given_claim d (of_full d x)) (trimmed_inside g.system (a c h))

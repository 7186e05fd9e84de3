use Rattle.scope_resolve.specs.Inner.Nets.{frame_in}
use Rattle.scope_resolve.proofs.Rooting.{going_first, found_root}
use Rattle.scope_resolve.proofs.roots.fill_root.Goals as goal

pub fill-requires-clause-going : goal.fill-requires-clause-going
fill-requires-clause-going c = going_first (frame_in c.args.net.now.parts) (record { root = c.args.root; plugs = c.in_ok-plugs.plugs }) c.in_ok-plugs.ensures.items ((c.requires.net.labels c.args.root).0 c.requires.root)

pub returns-clause-found : goal.returns-clause-found
returns-clause-found c = found_root (frame_in c.args.net.now.parts) (record { root = c.args.root; plugs = c.in_ok-plugs.plugs }) c.in_ok-plugs.ensures.items c.args.max _ _ _ c.in_ok-done.ensures.found

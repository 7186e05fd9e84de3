use Rattle.std.proofs.Common.{refl, sym}
use Rattle.scope_resolve.proofs.Candidates.{put}
use Rattle.scope_resolve.proofs.search.Search.put_candidates.Goals as goal

pub returns-clause-are : goal.returns-clause-are
returns-clause-are c = λ s seen seats.
    let ways = c.args.self.now.ways in
    put c.args.net.now c.requires.net s ways seen c.args.self.now.masks.sets.items seats c.choose-place.result c.index.result.now (c.choose-place.ensures, sym c.index.ensures) c.index.result.now.hole _ _ refl c.in_ok-put_candidates.ensures

use Rattle.scope_resolve.proofs.Masking.{along_on}
use Rattle.scope_resolve.proofs.masks.Masks.go_along.Goals as goal

pub returns : goal.returns
returns c = λ f s seen here reaches. along_on f s c.args.ways.now seen c.args.link here reaches c.chain_at.result c.chain_at.ensures _ _ c.narrow.ensures

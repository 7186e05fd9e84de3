use Rattle.std.proofs.Common.{rules, ◌≡◌, ◌<◌, ◌+◌, ◌∷◌, arith, length}
use Rattle.std.specs.Prelude.{ℕ}
use Rattle.tree_model.specs.Lists as model
use Rattle.forest_unpack.proofs.Waiting.{first_low, rest_low, first_lacks, rest_lacks}
use Rattle.forest_unpack.proofs.listing.+first_lacking.Goals as goal

pub bounds-table-host : goal.bounds-table-host
bounds-table-host g t c =
    let e : c.args.hosts.now ≡ c.in-Some.host.now ∷ c.in-Some.more.now = search rules in
    first_low c.args.table.now c.in-Some.host.now c.in-Some.more.now c.args.hosts.now e c.requires

pub offset_bounds-table-host : goal.offset_bounds-table-host
offset_bounds-table-host g t c =
    let e : c.args.hosts.now ≡ c.in-Some.host.now ∷ c.in-Some.more.now = search rules in
    let low : c.in-Some.host.now < length c.args.table.now = first_low c.args.table.now c.in-Some.host.now c.in-Some.more.now c.args.hosts.now e c.requires in
    search rules

pub first_lacking-requires : goal.first_lacking-requires
first_lacking-requires g t c =
    let e : c.args.hosts.now ≡ c.in-Some.host.now ∷ c.in-Some.more.now = search rules in
    let low : (d : ℕ) → model.Has d c.in-Some.more.now → d < length c.args.table.now = rest_low c.args.table.now c.in-Some.host.now c.in-Some.more.now c.args.hosts.now e c.requires in
    let long : length c.args.hosts.now ≡ length c.in-Some.more.now + 1 = rw e (omega arith) in
    let smaller : length c.in-Some.more.now < length c.args.hosts.now = omega (arith, long) in
    search rules

pub returns-then-is_none : goal.returns-then-is_none
returns-then-is_none g t c =
    let e : c.args.hosts.now ≡ c.in-Some.host.now ∷ c.in-Some.more.now = search rules in
    first_lacks c.args.table.now c.in-Some.host.now c.in-Some.more.now c.args.hosts.now e c.index-table-host.result
    (first_low c.args.table.now c.in-Some.host.now c.in-Some.more.now c.args.hosts.now e c.requires) c.index-table-host.is c.if-is_none.ensures

pub returns : goal.returns
returns g t c =
    let e : c.args.hosts.now ≡ c.in-Some.host.now ∷ c.in-Some.more.now = search rules in
    rest_lacks c.args.table.now c.in-Some.host.now c.in-Some.more.now c.args.hosts.now e c.index-table-host.result
    (first_low c.args.table.now c.in-Some.host.now c.in-Some.more.now c.args.hosts.now e c.requires) c.index-table-host.is c.if-is_none.ensures
    c.first_lacking.result c.first_lacking.ensures

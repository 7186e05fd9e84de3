use Rattle.std.proofs.Common.{refl, sym}
use Rattle.mrs_spelling.specs.Conditions.{nothing_before}
use Rattle.mrs_reading.specs.Meaning.{is_top, is_index}
use Rattle.mrs_reading.specs.Inner.Tables.{keys_in}
use Rattle.mrs_reading.specs.Inner.Stages.{begun}
use Rattle.mrs_reading.proofs.Linked.{nothing_written, none_marked}
use Rattle.mrs_reading.proofs.building.Building.new.Goals as goal

pub returns-clause-built : goal.returns-clause-built
returns-clause-built c = record { table = c.new.ensures.table nothing_before refl; roles = sym c.new-2.ensures.roles }

pub returns-clause-read : goal.returns-clause-read
returns-clause-read c =
    let keys = keys_in c.new.result in record {
      all = nothing_written keys c.new.ensures.keys;
      top = none_marked is_top keys 0;
      index = none_marked is_index keys 0;
      hcons = c.new-3.ensures keys;
      icons = c.new-4.ensures keys;
      stage = begun;
      at = refl;
      eps = c.new-2.ensures.read keys;
    }

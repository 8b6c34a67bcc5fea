-- `put_what_fits` meets its contract: the front of what was lent is written over.
use Rattle.host_values.proofs.Filling.{values_over}
use Rattle.host_values.proofs.put_what_fits.Goals as goal

pub returns-clause-lent_after : goal.returns-clause-lent_after
returns-clause-lent_after c =
    values_over c.args.lent.now c.args.values.now c.copy_from_slice.new.self c.min-room.result c.min-room.ensures c.copy_from_slice.ensures.after

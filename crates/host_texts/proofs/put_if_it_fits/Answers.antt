-- `put_if_it_fits` meets its contract: it puts the text in front of a buffer that has room for it.
use mathlib.Core.Path.{refl}
use native.Mathlib.Omega.{arith}
use Rattle.host_texts.proofs.Rooms.{without_room, with_room}
use Rattle.host_texts.proofs.put_if_it_fits.Goals as goal

pub returns-then-out-text : goal.returns-then-out-text
returns-then-out-text c =
    let the-args = c.args in
    record { value = refl; out_after = without_room the-args.text.now the-args.out.now (omega arith) }

pub returns : goal.returns
returns c =
    let the-args = c.args in
    record { value = omega arith; out_after = with_room the-args.text.now the-args.out.now _ (omega arith) c.put_text.ensures.out_after }

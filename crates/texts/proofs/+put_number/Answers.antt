-- `texts::put_number` meets its contract: the digits of the tenth first, then the last digit behind them.
use mathlib.Core.Path.{ap}
use native.Mathlib.Omega.{arith}
use lib.ListN.{length}
use Rattle.network.proofs.Pairs.{both}
use Rattle.texts.proofs.Digits.{decimal_one, decimal_length}
use Rattle.texts.proofs.Pieces.{number_one, number_more}
use Rattle.texts.proofs.+put_number.Goals as goal

pub bounds-out-at : goal.bounds-out-at
bounds-out-at t c = omega (arith, ap length (decimal_one c.args.n (omega arith)))

pub returns-then-n-lt10 : goal.returns-then-n-lt10
returns-then-n-lt10 t c =
    let put = number_one c.args.out.now c.args.at c.args.n (omega arith) in
    record { value = put.0; out_after = put.1 }

pub put_number-next-requires : goal.put_number-next-requires
put_number-next-requires t c = (omega arith, omega (arith, decimal_length c.args.n (omega arith)))

pub bounds-out-next : goal.bounds-out-next
bounds-out-next t c = omega (arith, decimal_length c.args.n (omega arith))

pub overflow_add-result-2 : goal.overflow_add-result-2
overflow_add-result-2 t c = omega (arith, decimal_length c.args.n (omega arith))

pub returns : goal.returns
returns t c =
    let a = c.args in
    let put = number_more a.out.now _ a.at _ a.n (omega arith) (both c.put_number-next.ensures.value c.put_number-next.ensures.out_after) in
    record { value = put.0; out_after = put.1 }

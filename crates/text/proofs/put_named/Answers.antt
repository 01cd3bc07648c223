-- `put_named` meets its contract: text behind text, and a number has no more than twenty digits.
-- It is how a program puts a number of its own.
use native.Mathlib.Omega.{arith}
use Rattle.text.proofs.Puts.{decimal-le, put-join}
use Rattle.text.proofs.put_named.Goals as goal

pub put-requires : goal.put-requires
put-requires c = omega (arith, c.put-named.ensures.ends, c.put_number-numbered.ensures.ends, decimal-le 20 c.args.n)

pub returns-clause-put : goal.returns-clause-put
returns-clause-put c = put-join c.put-named.ensures (put-join c.put_number-numbered.ensures c.put.ensures)

pub returns-clause-upper_bound : goal.returns-clause-upper_bound
returns-clause-upper_bound c =
    omega (arith, c.put-named.ensures.ends, c.put_number-numbered.ensures.ends, c.put.ensures.ends, decimal-le 20 c.args.n)

-- `say_list` meets its contract: the name, how many there are, and each.
-- It ends the answer of a call that lends memory.
use native.Mathlib.Omega.{arith}
use lib.ListN.{length}
use Rattle.text.proofs.Puts.{decimal-le, put-join}
use Rattle.answers.proofs.say_list.Goals as goal

pub say_items-requires : goal.say_items-requires
say_items-requires c = omega (arith, c.put-named.ensures.ends, c.put_number-counted.ensures.ends, decimal-le 20 (length c.args.xs.now))

pub returns-clause-put : goal.returns-clause-put
returns-clause-put c = put-join c.put-named.ensures (put-join c.put_number-counted.ensures c.say_items.ensures.put)

pub returns-clause-upper_bound : goal.returns-clause-upper_bound
returns-clause-upper_bound c =
    omega (arith, c.put-named.ensures.ends, c.put_number-counted.ensures.ends, c.say_items.ensures.upper_bound, decimal-le 20 (length c.args.xs.now))

-- `put_number` meets its contract: the digits are the fewest that hold the number.
-- They are those that the definition `decimal` has.
use mathlib.Core.Path.{◌∙◌}
use Rattle.text.proofs.Puts.{decimal-is, put-text}
use Rattle.text.proofs.put_number.Goals as goal

pub returns : goal.returns
returns c =
    let d = c.decimal-count in
    put-text (d.ensures.digits ∙ decimal-is d.result c.args.n c.ranges.n.fits d.ensures.len) c.put.ensures

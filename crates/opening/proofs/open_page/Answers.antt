-- `open_page` meets its contract: the number is that of what measuring told.
use mathlib.Core.Path.{sym, ap, ◌∙◌}
use Rattle.paper.specs.Page.{plate_number, opens}
use Rattle.paper.specs.Refusals.{Told, measured_d1}
use Rattle.paper.specs.declared.MeasuredD1.{MeasuredD1}
use Rattle.opening.proofs.open_page.Goals as goal

-- the number of what a measurement tells
abbrev number_of : MeasuredD1 → Told
number_of m = plate_number (measured_d1 m)

pub returns-in-Distance : goal.returns-in-Distance
unfolding opens
returns-in-Distance c = ap number_of (sym c.in-Distance.is) ∙ ap plate_number c.measure_d1.ensures

pub returns-in-More : goal.returns-in-More
unfolding opens
returns-in-More c = ap number_of (sym c.in-More.is) ∙ ap plate_number c.measure_d1.ensures

pub returns-in-Refused : goal.returns-in-Refused
unfolding opens
returns-in-Refused c = ap number_of (sym c.in-Refused.is) ∙ ap plate_number c.measure_d1.ensures

-- The rules that every read begins with. Only a private function's contract speaks of them.
use Rattle.std.specs.Prelude.{ℕ, leb}
use Rattle.paper.specs.First.{first}
use Rattle.paper.specs.Reading.{most_radius, stray_cell}
use Rattle.paper.specs.Refusals.{Told, unless, unless_at}
use Rattle.paper.specs.Words.{width}

-- 10, then 11, else what comes next
abbrev pub readable : ℕ → ℕ → ℕ → Told → Told
readable n y t next = unless_at (first width (stray_cell n y)) 10 0 (unless (leb t most_radius) 11 next)

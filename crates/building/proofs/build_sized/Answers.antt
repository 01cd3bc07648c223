-- `build_sized` meets its contract: stray bits of P, then of R, then of Q; then the sheet.
use mathlib.Core.Path.{◌≡◌, refl, sym, ap, ◌∙◌, subst}
use native.Mathlib.Omega.{arith}
use Rattle.paper.specs.First.{First, nowhere}
use Rattle.paper.specs.Tables.{builds_sized}
use Rattle.words.specs.Places.{as_first}
use Rattle.std.proofs.Common.{ℕ, Option, None}
use Rattle.rules.proofs.Rooms.{room-left, room-filled}
use Rattle.rules.proofs.Rules.{stop-first, stop, pass}
use Rattle.building.specs.Handed.{Sized}
use Rattle.building.proofs.Sizes.{found_lt, fits-of}
use Rattle.building.proofs.build_sized.Goals as goal

pub returns-in-Some : goal.returns-in-Some
unfolding builds_sized
returns-in-Some c =
    rw (← c.tables.view_is)
    (let e = stop-first 2 _ c.find_stray.ensures c.in-Some.is in
    record { result_value = e; room_after = room-left _ _ e })

-- a row of R is below l, and one of Q too
pub overflow_add-result : goal.overflow_add-result
overflow_add-result c =
    let z = subst (Sized c.args.room.now) (sym c.tables.view_is) c.requires in
    omega (arith, found_lt _ _ c.find_stray-2.ensures c.in-Some-find_stray.is, z.1.rows-R, z.0.room, z.0.few-cells)

pub returns-in-Some-find_stray : goal.returns-in-Some-find_stray
unfolding builds_sized
returns-in-Some-find_stray c =
    rw (← c.tables.view_is)
    (let e = pass 2 _ c.find_stray.ensures 0 c.in_default.is (stop 2 _ c.find_stray-2.ensures _ c.in-Some-find_stray.is) in
    record { result_value = e; room_after = room-left _ _ e })

pub overflow_add-result-in-Some-find_stray-2 : goal.overflow_add-result-in-Some-find_stray-2
overflow_add-result-in-Some-find_stray-2 c =
    let z = subst (Sized c.args.room.now) (sym c.tables.view_is) c.requires in
    omega (arith, found_lt _ _ c.find_stray-3.ensures c.in-Some-find_stray-2.is, z.1.rows-Q, z.0.room, z.0.few-cells)

pub returns-in-Some-find_stray-2 : goal.returns-in-Some-find_stray-2
unfolding builds_sized
returns-in-Some-find_stray-2 c =
    rw (← c.tables.view_is)
    (let e = pass 2 _ c.find_stray.ensures 0 c.in_default.is
    (pass 2 _ c.find_stray-2.ensures _ c.in_default-find_stray.is (stop 2 _ c.find_stray-3.ensures _ c.in-Some-find_stray-2.is)) in
    record { result_value = e; room_after = room-left _ _ e })

-- what was not found is nowhere
none : {p : Option ℕ} {f : First} → as_first p ≡ f → p ≡ None → f ≡ nowhere
none e h = sym e ∙ ap as_first h

-- no stray bits were found: the tables fit
pub fill-requires : goal.fill-requires
fill-requires c =
    let z = subst (Sized c.args.room.now) (sym c.tables.view_is) c.requires in
    rw (← c.tables.view_is) (
      fits-of _ _ _ _ _ _ _ z.0 z.1
          (none c.find_stray.ensures c.in_default.is)
          (none c.find_stray-2.ensures c.in_default-find_stray.is)
          (none c.find_stray-3.ensures c.in_default-find_stray-2.is),
      z.0.all-rows,
    )

pub returns : goal.returns
unfolding builds_sized
returns c =
    rw (c.fill.ensures, ← c.tables.view_is)
    (let e = pass 2 _ c.find_stray.ensures 0 c.in_default.is
    (pass 2 _ c.find_stray-2.ensures _ c.in_default-find_stray.is
    (pass 2 _ c.find_stray-3.ensures _ c.in_default-find_stray-2.is refl)) in
    record { result_value = e; room_after = room-filled _ _ e })

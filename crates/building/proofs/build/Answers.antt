-- `build` meets its contract: the sizes, and then the rest.
use mathlib.Core.Path.{◌≡◌, refl, sym, ap, ap₂, ◌∙◌}
use mathlib.Core.Bool.{◌&&◌}
use Rattle.paper.specs.Refusals.{Told, leaves}
use Rattle.paper.specs.Tables.{builds, built_of, builds_of}
use Rattle.rules.proofs.Rooms.{room-left}
use Rattle.rules.proofs.Rules.{unless-stop, unless-pass}
use Rattle.building.specs.Handed.{builds_sized_of}
use Rattle.building.proofs.build.Goals as goal

pub returns-then-not-is_shaped : goal.returns-then-not-is_shaped
unfolding builds
returns-then-not-is_shaped c =
    rw (← c.tables.view_is)
    (let e = unless-stop 1 _ (ap₂ ◌&&◌ (sym c.is_shaped.ensures ∙ c.if-not-is_shaped.true) refl) in
    record { result_value = e; room_after = room-left _ _ e })

pub returns-then-not-is_tabled : goal.returns-then-not-is_tabled
unfolding builds
returns-then-not-is_tabled c =
    rw (← c.tables.view_is)
    (let e = unless-stop 1 _ (ap₂ ◌&&◌ (sym c.is_shaped.ensures ∙ c.if-not-is_shaped.false) (sym c.is_tabled.ensures ∙ c.if-not-is_tabled.true)) in
    record { result_value = e; room_after = room-left _ _ e })

pub returns : goal.returns
unfolding builds
returns c =
    let t = c.args.tables.now in
    let b = c.build_sized.ensures in
    let sizes = ap₂ ◌&&◌ (sym c.is_shaped.ensures ∙ c.if-not-is_shaped.false) (sym c.is_tabled.ensures ∙ c.if-not-is_tabled.false) in
    let e : builds_sized_of t ≡ builds_of t c.args.room.now = rw (← c.tables.view_is) (unless-pass 1 _ sizes refl) in
    record {
      result_value = b.result_value ∙ e;
      room_after = b.room_after ∙ ap (λ (told : Told). leaves told (built_of t) c.args.room.now) e;
    }

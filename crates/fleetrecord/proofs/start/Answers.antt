-- `start` meets its contract: a law for each return, refusal 2 before 7.
use mathlib.Core.Path.{sym, ◌∙◌}
use Rattle.protocol.specs.Fleets.{started, start_check}
use Rattle.recording.proofs.Accepted.{trucks_in_lem, openings_in}
use Rattle.fleetrecord.proofs.start.Goals as goal

pub returns-then-bad_trucks : goal.returns-then-bad_trucks
unfolding started start_check
returns-then-bad_trucks c = c.refused.ensures ∙ rw (sym c.bad_trucks.ensures ∙ c.if-bad_trucks.true)

pub returns-then-bad_openings : goal.returns-then-bad_openings
unfolding started start_check
returns-then-bad_openings c =
    c.refused-then-bad_openings.ensures
    ∙ rw (sym c.bad_trucks.ensures ∙ c.if-bad_trucks.false, sym c.bad_openings.ensures ∙ c.if-bad_openings.true)

pub open_fleet-requires : goal.open_fleet-requires
open_fleet-requires c =
    let a = c.args in (
      (openings_in a.n a.openings.now (sym c.bad_openings.ensures ∙ c.if-bad_openings.false)).count,
      (trucks_in_lem a.n (sym c.bad_trucks.ensures ∙ c.if-bad_trucks.false)).1,
    )

pub returns : goal.returns
unfolding started start_check
returns c =
    rw (sym c.bad_trucks.ensures ∙ c.if-bad_trucks.false, sym c.bad_openings.ensures ∙ c.if-bad_openings.false, c.open_fleet.ensures)

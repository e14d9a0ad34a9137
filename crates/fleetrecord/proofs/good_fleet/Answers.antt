-- `good_fleet` meets its contract: a law for each return.
use mathlib.Core.Path.{sym, ◌∙◌}
use Rattle.protocol.specs.Fleets.{chosen}
use Rattle.recording.proofs.Accepted.{trucks_in_lem}
use Rattle.fleetrecord.proofs.Records.{bad_count, bad_done, good-count}
use Rattle.fleetrecord.proofs.good_fleet.Goals as goal

pub returns-then-bad_trucks : goal.returns-then-bad_trucks
returns-then-bad_trucks c = sym (bad_count (chosen c.args.cycle) c.args.f (sym c.bad_trucks.ensures ∙ c.if-bad_trucks.true))

pub returns-then-f-gt400 : goal.returns-then-f-gt400
returns-then-f-gt400 c =
    sym (bad_done (chosen c.args.cycle) c.args.f (sym c.bad_trucks.ensures ∙ c.if-bad_trucks.false) c.if-f-gt400.true)

pub good_trucks-requires : goal.good_trucks-requires
good_trucks-requires c = (trucks_in_lem c.args.f.n (sym c.bad_trucks.ensures ∙ c.if-bad_trucks.false)).1

pub returns : goal.returns
returns c =
    c.good_trucks.ensures
    ∙ sym (good-count (chosen c.args.cycle) c.args.f (sym c.bad_trucks.ensures ∙ c.if-bad_trucks.false) c.if-f-gt400.false)

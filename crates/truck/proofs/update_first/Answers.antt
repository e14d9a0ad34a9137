-- A turn brings one more truck up to date (`fill_step`): the truck that it finds in place i is the first fleet's, since only the places below i have changed.
use Rattle.std.proofs.Common.{◌≡◌, ℕ, ◌+◌, ◌<◌, List, length, get_or, ap, ◌∙◌, refl, arith}
use Rattle.std.proofs.Math.ListN.{set}
use Rattle.basics.specs.Lists.{filled}
use Rattle.basics.proofs.Laws.{filled_none, get_or-filled_past, fill_step}
use Rattle.protocol.specs.declared.Fleet.{Fleet}
use Rattle.protocol.specs.declared.Truck.{Truck}
use Rattle.protocol.specs.Rules.{opened, truck}
use Rattle.truck.specs.declared.Event.{Event}
use Rattle.truck.specs.declared.Event.TheVariants.{Stop}
use Rattle.truck.specs.Events.{turned, updated_first}
use Rattle.truck.proofs.update_first.Goals as goal

updated_more : (f : Fleet) (k : ℕ) (es : List Event) (g : Fleet) (i : ℕ) (t : Truck) → g ≡ updated_first f i k es → i < length f.trucks
    → t ≡ turned k (get_or es i Stop) (truck g.trucks i) → record { n = g.n; done = g.done; trucks = set g.trucks i t } ≡ updated_first f (i + 1) k es
updated_more f k es g i t e l h =
    ap (λ (x : Fleet). record { n = x.n; done = x.done; trucks = set x.trucks i t }) e
    ∙ ap (λ (ts : List Truck). record { n = f.n; done = f.done; trucks = ts }) (fill_step turns f.trucks (filled turns i f.trucks) i refl t l
    (h ∙ ap (λ (x : Fleet). turned k (get_or es i Stop) (truck x.trucks i)) e ∙ ap (turned k (get_or es i Stop)) (get_or-filled_past turns i f.trucks i (opened 0) (omega arith))))
  where
    turns : ℕ → Truck
    turns j = turned k (get_or es j Stop) (truck f.trucks j)

pub loop-i-init : goal.loop-i-init
loop-i-init c = rw filled_none

pub loop-i-preserved : goal.loop-i-preserved
loop-i-preserved c =
    let a = c.args in
    let l = c.loop-i in
    updated_more a.f a.round a.events l.f l.i c.update.new.t l.invariant (omega arith) c.update.ensures

-- The numbers of messages that are printed (document 02, F-5): in the last line the sums over the records of the trucks below n, which are the sums of the
-- rounds in which the rules made the trucks send; in a truck's line its own.
use mathlib.Core.Path.{◌≡◌, refl, ap, ap₂, sym, ◌∙◌}
use mathlib.Core.Bool.{not}
use mathlib.Core.List.{List, ◌++◌}
use Prim.Native.Nat.{ℕ, ◌<◌}
use Rattle.std.specs.Prelude.{Ok}
use Rattle.basics.specs.Bits.{odd}
use Rattle.basics.specs.Lists.{sum_below}
use Rattle.basics.proofs.Laws.{sum_ext}
use Rattle.radio.specs.Radio.{times_sent}
use Rattle.recording.specs.Packed.{trucks_of, rounds_of, openings_of, round_at}
use Rattle.recording.specs.Checks.{check_of}
use Rattle.protocol.specs.declared.Fleet.{Fleet}
use Rattle.protocol.specs.Rules.{truck}
use Rattle.protocol.specs.Runs.{radio_at}
use Rattle.protocol.specs.Fleets.{two_round, ran, ran_in, fleet_in}
use Rattle.protocol.proofs.Ran.{ran-fleet}
use Rattle.protocol.proofs.Counts.{sent-counts}
use Rattle.listing.specs.Text.{text, state_text, truck_line, truck_lines, totals_line, listing_of, printed_for, printed}
use Rattle.listing.specs.Writing.{opening_text, spaced, sent_line, header_text}
use Rattle.listing.proofs.Laws.{line_text}
use Rattle.refusals.specs.Outcomes.{Outcome}

-- a listing: its first line, the trucks' lines, and a last line with the sums over the records
pub listing_totals : (f : Fleet)
    → listing_of f
    ≡ header_text f.n f.done ++ truck_lines f.trucks f.n
    ++ sent_line (sum_below (λ i. (truck f.trucks i).sent.proposals) f.n) (sum_below (λ i. (truck f.trucks i).sent.vetoes) f.n)
unfolding listing_of totals_line
listing_totals f = refl

-- of an accepted recording
module _ (s : List ℕ) (h : check_of s ≡ Ok tt) where
  abbrev n : ℕ
  n = trucks_of s

  abbrev R : ℕ
  R = rounds_of s

  abbrev f : Fleet
  f = (ran s).fleet

  -- in how many proposal rounds, and in how many veto rounds, the rules make truck i send
  abbrev proposed : ℕ → ℕ
  proposed i = times_sent odd (radio_at n (openings_of s) (round_at s)) i R

  abbrev vetoed : ℕ → ℕ
  vetoed i = times_sent (λ k. not (odd k)) (radio_at n (openings_of s) (round_at s)) i R

  accepted : (ran s).outcome ≡ Ok tt
  unfolding ran_in
  accepted = rw h

  counted : (i : ℕ) → i < n → ((truck f.trucks i).sent.proposals ≡ proposed i) × ((truck f.trucks i).sent.vetoes ≡ vetoed i)
  counted = sent-counts.run s accepted

  -- the totals that are printed are the sums of those numbers over the trucks below n
  pub printed_totals : printed s ≡ header_text n R ++ truck_lines f.trucks n ++ sent_line (sum_below proposed n) (sum_below vetoed n)
  unfolding printed fleet_in
  printed_totals =
      let p : ℕ → ℕ = λ i. (truck f.trucks i).sent.proposals in
      let v : ℕ → ℕ = λ i. (truck f.trucks i).sent.vetoes in
      ap (λ (o : Outcome). printed_for o f) accepted
      ∙ listing_totals f
      ∙ ap (λ (g : Fleet). header_text g.n g.done ++ truck_lines f.trucks g.n ++ sent_line (sum_below p g.n) (sum_below v g.n)) (ran-fleet two_round s h)
      ∙ ap₂ (λ (a b : ℕ). header_text n R ++ truck_lines f.trucks n ++ sent_line a b)
      (sum_ext p proposed n (λ i l. (counted i l).0)) (sum_ext v vetoed n (λ i l. (counted i l).1))

  -- and the line of a truck has its own
  pub printed-counts : (i : ℕ) → i < n
      → truck_line i (truck f.trucks i)
      ≡ opening_text i (truck f.trucks i).opening ++ spaced (state_text (truck f.trucks i).state (truck f.trucks i).estimate) ++ text " "
      ++ sent_line (proposed i) (vetoed i)
  printed-counts i l =
      let t = truck f.trucks i in
      sym (line_text i t)
      ∙ ap₂ (λ (a b : ℕ). opening_text i t.opening ++ spaced (state_text t.state t.estimate) ++ text " " ++ sent_line a b) (counted i l).0 (counted i l).1

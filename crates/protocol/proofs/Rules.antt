-- Laws of the two-round rules for one truck: who sends and who vetoes, who decides, what each kind of round makes of a truck that plays it, and what
-- refusal 7 asks of its memory and of its counts. Where they can, the proofs go by cases and not by the text of the rules. A truck with other memory than t is `proposed` of t.
use mathlib.Core.Path.{◌≡◌, refl, sym, subst}
use mathlib.Core.Bool.{Bool, true, false, true≢false, false≢true}
use mathlib.Core.List.{List}
use Prim.Native.Nat.{ℕ, suc, ◌+◌, ◌/◌, ◌%◌, ◌≤◌}
use native.Mathlib.Omega.{arith}
use borrow.Author.Tests.{le-leb, leb-true, eqb-true, eqb-false}
use lib.Dec.{ltb, leb}
use lib.ListN.{length}
use Rattle.basics.specs.Bits.{odd}
use Rattle.basics.proofs.Laws.{and_left, and_right}
use Rattle.protocol.specs.declared.Heard.{Heard}
use Rattle.protocol.specs.declared.Heard.TheVariants.{Nothing, One, Several}
use Rattle.protocol.specs.declared.Sent.{Sent}
use Rattle.protocol.specs.declared.Truck.{Truck}
use Rattle.protocol.specs.Rules.{is_several, is_one, runs, vetoes, different, least_or, proposed, decides, vetoed, two_rules}
use Rattle.protocol.specs.Fleets.{is_empty, two_memory, two_counts}

-- a truck without a veto: it had no mark and did not hear several values
pub no_veto_parts : (t : Truck) → vetoes t ≡ false → (t.mark ≡ false) × (is_several t.heard ≡ false)
no_veto_parts t h = go t.mark t.heard h
  where
    go : (m : Bool) (h : Heard) → vetoes (proposed false m h 0 t) ≡ false → (m ≡ false) × (is_several h ≡ false)
    go false Nothing g = (refl, refl)
    go false One g = (refl, refl)
    go false Several g = absurd (true≢false g)
    go true Nothing g = absurd (true≢false g)
    go true One g = absurd (true≢false g)
    go true Several g = absurd (true≢false g)

pub no_veto_by : (t : Truck) → t.mark ≡ false → is_several t.heard ≡ false → vetoes t ≡ false
no_veto_by t m h = rw (m, h)

-- a truck that decides: it heard no veto, has no mark, and had exactly one value
pub decides_parts : (m veto : Bool) (t : Truck) → decides m veto t ≡ true → (veto ≡ false) × (m ≡ false) × (is_one t.heard ≡ true)
decides_parts m veto t h = go m veto t.heard h
  where
    go : (m v : Bool) (h : Heard) → decides m v (proposed false m h 0 t) ≡ true → (v ≡ false) × (m ≡ false) × (is_one h ≡ true)
    go false false One g = (refl, refl, refl)
    go false false Nothing g = absurd (false≢true g)
    go false false Several g = absurd (false≢true g)
    go false true Nothing g = absurd (false≢true g)
    go false true One g = absurd (false≢true g)
    go false true Several g = absurd (false≢true g)
    go true false Nothing g = absurd (false≢true g)
    go true false One g = absurd (false≢true g)
    go true false Several g = absurd (false≢true g)
    go true true Nothing g = absurd (false≢true g)
    go true true One g = absurd (false≢true g)
    go true true Several g = absurd (false≢true g)

pub decides_by : (m veto : Bool) (t : Truck) → veto ≡ false → m ≡ false → is_one t.heard ≡ true → decides m veto t ≡ true
decides_by m veto t v u o = rw (v, u, o)

-- in a veto round a running truck sends where it vetoes
pub sends-veto : (k : ℕ) (active : Bool) (t : Truck) → odd k ≡ false → two_rules.sends k active t ≡ vetoes t
sends-veto k active t e = rw e

-- a truck that plays round k, by the kind of round
module _ (k : ℕ) (b s m : Bool) (vs : List ℕ) (t : Truck) where
  pub plays-odd : odd k ≡ true → two_rules.plays k b s m vs t ≡ proposed s m (different vs) (least_or t.estimate vs) t
  plays-odd e = rw e

  pub plays_even : odd k ≡ false → two_rules.plays k b s m vs t ≡ vetoed k s m (ltb 0 (length vs)) t
  plays_even e = rw e

  pub plays_cases : (P : Truck → Type 0) → (odd k ≡ true → P (proposed s m (different vs) (least_or t.estimate vs) t))
      → (odd k ≡ false → P (vetoed k s m (ltb 0 (length vs)) t)) → P (two_rules.plays k b s m vs t)
  plays_cases P proposal veto = go (odd k) refl
    where
      go : (o : Bool) → odd k ≡ o → P (two_rules.plays k b s m vs t)
      go true e = subst P (sym (plays-odd e)) (proposal e)
      go false e = subst P (sym (plays_even e)) (veto e)

-- the memory after a veto round, of a running truck after a proposal round, and of a truck that doesn't run
module _ (done : ℕ) (t : Truck) where
  pub memory_even : odd done ≡ false → two_memory done t ≡ is_empty t.mark t.heard
  memory_even e = rw e

  pub memory_odd : odd done ≡ true → runs t ≡ true → two_memory done t ≡ true
  memory_odd e h = rw (e, h)

  pub memory_idle : runs t ≡ false → two_memory done t ≡ is_empty t.mark t.heard
  memory_idle h = go (odd done) refl
    where
      go : (o : Bool) → odd done ≡ o → two_memory done t ≡ is_empty t.mark t.heard
      go true e = rw (e, h)
      go false e = memory_even e

-- the counts that refusal 7 lets pass
pub counts_parts : (done : ℕ) (c : Sent) → two_counts done c ≡ true → (c.proposals ≤ (done + 1) / 2) × (c.vetoes ≤ done / 2)
counts_parts done c h = (
  leb-true c.proposals ((done + 1) / 2) (and_left (leb c.proposals ((done + 1) / 2)) (leb c.vetoes (done / 2)) h),
  leb-true c.vetoes (done / 2) (and_right (leb c.proposals ((done + 1) / 2)) (leb c.vetoes (done / 2)) h),
)

-- with at most 400 rounds done
pub counts-few : (done : ℕ) (c : Sent) → done ≤ 400 → two_counts done c ≡ true → (c.proposals ≤ 200) × (c.vetoes ≤ 200)
counts-few done c l h = let g = counts_parts done c h in (omega (arith, g.0), omega (arith, g.1))

pub counts_by : (done : ℕ) (c : Sent) → c.proposals ≤ (done + 1) / 2 → c.vetoes ≤ done / 2 → two_counts done c ≡ true
counts_by done c p v = rw (le-leb c.proposals ((done + 1) / 2) p, le-leb c.vetoes (done / 2) v)

-- a round adds at most 1
proposals_most : (s m : Bool) (h : Heard) (v : ℕ) (t : Truck) → (proposed s m h v t).sent.proposals ≤ t.sent.proposals + 1
proposals_most true true h v t = omega arith
proposals_most true false h v t = omega arith
proposals_most false true h v t = omega arith
proposals_most false false h v t = omega arith

vetoes-most : (k : ℕ) (s m veto : Bool) (t : Truck) → (vetoed k s m veto t).sent.vetoes ≤ t.sent.vetoes + 1
vetoes-most k true m veto t = omega arith
vetoes-most k false m veto t = omega arith

-- with one more round done: of a truck that sent nothing in it, and of one that played it
pub counts_later : (done : ℕ) (c : Sent) → two_counts done c ≡ true → two_counts (suc done) c ≡ true
counts_later done c h =
    let g = counts_parts done c h in
    counts_by (suc done) c (omega (arith, g.0)) (omega (arith, g.1))

module _ (done : ℕ) (s m : Bool) (vs : List ℕ) (t : Truck) (h : two_counts done t.sent ≡ true) where
  pub counts-proposed : odd (suc done) ≡ true → two_counts (suc done) (proposed s m (different vs) (least_or t.estimate vs) t).sent ≡ true
  counts-proposed e =
      let g = counts_parts done t.sent h in
      counts_by (suc done) (proposed s m (different vs) (least_or t.estimate vs) t).sent
      (omega (arith, g.0, proposals_most s m (different vs) (least_or t.estimate vs) t, eqb-true (suc done % 2) 1 e)) (omega (arith, g.1))

  pub counts-vetoed : odd (suc done) ≡ false → two_counts (suc done) (vetoed (suc done) s m (ltb 0 (length vs)) t).sent ≡ true
  counts-vetoed e =
      let g = counts_parts done t.sent h in
      counts_by (suc done) (vetoed (suc done) s m (ltb 0 (length vs)) t).sent
      (omega (arith, g.0)) (omega (arith, g.1, vetoes-most (suc done) s m (ltb 0 (length vs)) t, eqb-false (suc done % 2) 1 e))

-- Laws of refusal 6: it accepts exactly where no own loss bit is 1, and names the earliest round and, in it, the lowest truck.
use mathlib.Core.Path.{◌≡◌, refl, ap, ap₂, sym, subst, ◌∙◌}
use mathlib.Core.Bool.{Bool, true, false}
use Prim.Native.Nat.{ℕ, ◌+◌, ◌*◌, ◌≤◌, ◌<◌}
use native.Mathlib.Omega.{arith}
use lib.Arith.{digits_lt}
use Rattle.std.specs.Prelude.{Ok, Err}
use Rattle.refusals.specs.declared.Refusal.TheVariants.{OwnLoss}
use Rattle.refusals.specs.Outcomes.{refuse}
use Rattle.refusals.proofs.Outcomes.{refused-not, refuse-false, refuse-on}
use Rattle.basics.specs.Bits.{bit}
use Rattle.basics.specs.Lists.{first, some_below}
use Rattle.basics.proofs.Laws.{some_below-none, none-some_below, some_below_by, some_first, first-none, first-before, first-at, first_unique, first_step, first_found, first_ext, some_ext, first-le, first-all}
use Rattle.recording.specs.Checks.{own_bit, own_in, own_loss, own_round, own_truck, own_loss_check, FirstOwn, FirstOwnAt}

-- words that agree have the same own loss bits
pub own_ext : (f g : ℕ → ℕ) (n R : ℕ) → ((w : ℕ) → w < R * (3 + n) → f w ≡ g w) → (r i : ℕ) → r < R → i < n → own_bit f n r i ≡ own_bit g n r i
unfolding own_bit
own_ext f g n R h r i l u = ap (λ (w : ℕ). bit w i) (h (r * (3 + n) + (3 + i)) (digits_lt l (omega arith)))

module _ (word : ℕ → ℕ) (n : ℕ) where
  -- no own loss bit of R rounds is 1
  pub own-round : (R : ℕ) → own_loss word n R ≡ false → (r i : ℕ) → r < R → i < n → own_bit word n r i ≡ false
  unfolding own_loss own_in
  own-round R h r i l u = some_below-none (own_bit word n r) n (some_below-none (own_in word n) R h r l) i u

  pub clear_own : (R : ℕ) → ((r i : ℕ) → r < R → i < n → own_bit word n r i ≡ false) → own_loss word n R ≡ false
  unfolding own_loss own_in
  clear_own R h = none-some_below (own_in word n) R (λ r l. none-some_below (own_bit word n r) n (λ i u. h r i l u))

  module _ (k R : ℕ) where
    pub own-accepted : own_loss_check word n k R ≡ Ok tt → (r i : ℕ) → r < R → i < n → own_bit word n r i ≡ false
    unfolding own_loss_check
    own-accepted h =
        let r = own_round word n R in
        own-round R (refuse-false (own_loss word n R) (OwnLoss (k + r) (own_truck word n r)) (Ok tt) h)

    pub accepted-own : ((r i : ℕ) → r < R → i < n → own_bit word n r i ≡ false) → own_loss_check word n k R ≡ Ok tt
    unfolding own_loss_check
    accepted-own h =
        let r = own_round word n R in
        refuse-on (own_loss word n R) (OwnLoss (k + r) (own_truck word n r)) (Ok tt) (clear_own R h) refl

  -- what is named where an own loss bit is 1
  pub own_first : (R : ℕ) → own_loss word n R ≡ true → FirstOwn word n R (own_round word n R) (own_truck word n (own_round word n R))
  unfolding own_loss own_round own_truck own_in
  own_first R h =
      let p : ℕ → Bool = own_in word n in
      let r : ℕ = first p R in
      let round : r < R = some_first p R h in
      let truck : first (own_bit word n r) n < n = some_first (own_bit word n r) n (first-at p R round) in
      record {
        round = round;
        truck = truck;
        set = first-at (own_bit word n r) n truck;
        earlier = λ q j l u. some_below-none (own_bit word n q) n (first-before p R q l) j u;
        lower = λ j l. first-before (own_bit word n r) n j l;
      }

  -- and nothing else is
  module _ (R r i : ℕ) (f : FirstOwn word n R r i) where
    row_has : own_in word n r ≡ true
    unfolding own_in
    row_has = some_below_by (own_bit word n r) n i f.truck f.set

    pub first_round : own_round word n R ≡ r
    unfolding own_round own_in
    first_round =
        first_unique (own_in word n) R r (omega (arith, f.round)) (λ q l. none-some_below (own_bit word n q) n (λ j u. f.earlier q j l u)) (λ l. row_has)

    pub first-truck : own_truck word n r ≡ i
    unfolding own_truck
    first-truck = first_unique (own_bit word n r) n i (omega (arith, f.truck)) f.lower (λ l. f.set)

    pub first_loss : own_loss word n R ≡ true
    unfolding own_loss
    first_loss = some_below_by (own_in word n) R r f.round row_has

  -- the check names the first one, and nothing else
  module _ (k R round truck : ℕ) where
    pub own_named : FirstOwnAt word n k R round truck → own_loss_check word n k R ≡ Err (OwnLoss round truck)
    unfolding own_loss_check
    own_named (r, e, f) =
        ap₂ (λ (b : Bool) (q : ℕ). refuse b (OwnLoss (k + q) (own_truck word n q)) (Ok tt)) (first_loss R r truck f) (first_round R r truck f)
        ∙ ap₂ (λ (q i : ℕ). Err (OwnLoss q i)) (sym e) (first-truck R r truck f)

    pub own_names : own_loss_check word n k R ≡ Err (OwnLoss round truck) → FirstOwnAt word n k R round truck
    unfolding own_loss_check
    own_names h = go (own_loss word n R) refl h
      where
        r : ℕ
        r = own_round word n R

        go : (b : Bool) → own_loss word n R ≡ b → refuse b (OwnLoss (k + r) (own_truck word n r)) (Ok tt) ≡ Err (OwnLoss round truck) → FirstOwnAt word n k R round truck
        go true e g = (r, cc, subst (λ (i : ℕ). FirstOwn word n R r i) (cc) (own_first R e))
        go false e g = refused-not (OwnLoss round truck) (sym g)

  -- what a look at round r says of it, by a test that agrees with its own loss bits
  module _ (r : ℕ) (p : ℕ → Bool) (same : (i : ℕ) → i < n → p i ≡ own_bit word n r i) where
    pub own_looked : (b : Bool) → b ≡ some_below p n → own_in word n r ≡ b
    unfolding own_in
    own_looked b e = sym (e ∙ some_ext p (own_bit word n r) n same)

    pub own_searched : (truck : ℕ) → truck ≡ first p n → own_truck word n r ≡ truck
    unfolding own_truck
    own_searched truck e = sym (e ∙ first_ext p (own_bit word n r) n same)

  -- a search by rounds that goes upward and is at round r: it begins, passes the round, has found it, or has passed all of them
  pub own_begins : own_round word n 0 ≡ 0
  unfolding own_round
  own_begins = first-none (own_in word n)

  pub own_passes : (r : ℕ) → own_round word n r ≡ r → own_in word n r ≡ false → own_round word n (r + 1) ≡ r + 1
  unfolding own_round
  own_passes r = first_step (own_in word n) r

  pub own_at : (R r : ℕ) → r < R → own_round word n r ≡ r → own_in word n r ≡ true → r ≡ own_round word n R
  unfolding own_round
  own_at R r l e h = sym (first_found (own_in word n) R r l e h)

  -- the round that such a search came to: no earlier round has an own loss bit that is 1, and where it is none of the R rounds, none of them has
  pub own_on : (R r : ℕ) → r ≡ own_round word n R → (r ≤ R) × (own_round word n r ≡ r)
  unfolding own_round
  own_on R r e = (omega (arith, first-le (own_in word n) R), first-all (own_in word n) r (λ q l. first-before (own_in word n) R q (omega arith)))

  pub own_there : (R r : ℕ) → r ≡ own_round word n R → r < R → own_in word n r ≡ true
  unfolding own_round
  own_there R r e l = rw e (first-at (own_in word n) R (omega arith))

  -- in such a round a truck has one
  pub truck_there : (r : ℕ) → own_in word n r ≡ true → own_truck word n r < n
  unfolding own_in own_truck
  truck_there r h = some_first (own_bit word n r) n h

  module _ (k R : ℕ) where
    pub own_found : (r round truck : ℕ) → r < R → own_round word n r ≡ r → own_in word n r ≡ true → own_truck word n r ≡ truck → round ≡ k + r
        → Err (OwnLoss round truck) ≡ own_loss_check word n k R
    unfolding own_loss_check own_loss own_round
    own_found r round truck l e h t g =
        sym
        (ap₂ (λ (b : Bool) (q : ℕ). refuse b (OwnLoss (k + q) (own_truck word n q)) (Ok tt)) (some_below_by (own_in word n) R r l h) (first_found (own_in word n) R r l e h)
        ∙ ap₂ (λ (q i : ℕ). Err (OwnLoss q i)) (sym g) t)

    pub own-ends : (r : ℕ) → r ≡ R → own_round word n r ≡ r → (Ok tt) ≡ own_loss_check word n k R
    unfolding own_round own_in
    own-ends r g e =
        sym
        (accepted-own k R
        (λ q i l u. some_below-none (own_bit word n q) n (first-before (own_in word n) r q (omega (arith, e, g))) i u))

-- Loops that sort the trucks of a set by crusher: `left` holds those that are still to come.
use mathlib.Core.Path.{◌≡◌, refl, ap, sym, ◌∙◌}
use mathlib.Core.Bool.{Bool, true, false, cond, ◌&&◌, and-true, and-false}
use mathlib.Core.List.{List}
use Prim.Native.Nat.{ℕ, suc, ◌^◌, ◌≤◌, ◌<◌}
use native.Mathlib.Omega.{arith}
use native.Mathlib.Decide.{ℕ_discrete}
use borrow.Author.Tests.{eq-eqb, ne_eqb}
use lib.Bits.{bit_and, bit_or, bit_xor}
use lib.Dec.{eqb}
use lib.ListN.{length, get_or, set, replicate, get_or-replicate, length-set}
use lib.Seq.{get_or-set_same, get_or-set_other}
use Rattle.basics.specs.Bits.{bit}
use Rattle.basics.specs.Lists.{first}
use Rattle.basics.proofs.Laws.{first-le}
use Rattle.sets.specs.Sets.{Members}
use Rattle.protocol.specs.declared.Heard.TheVariants.{Nothing, One, Several}
use Rattle.playback.specs.declared.hearing.Values.{Values}
use Rattle.playback.specs.Sets.{Sorted, heard_set, was_heard, values_of}
use Rattle.sets.proofs.Members.{TakenOut, members-next, within-removed, Picked, picked_none, picked_more, picked_all}
use Rattle.playback.proofs.ByCrusher.{values_hit, values-none, first-from}
use Rattle.playback.proofs.Radios.{heard-sends, heard-fits}

-- the trucks of `senders` that were taken already, sorted by crusher
pub record Sorting (n senders : ℕ) (est : ℕ → ℕ) (values : List ℕ) (left : ℕ) : Type 0 where
  pub long : length values ≡ 16
  pub within : (j : ℕ) → bit left j ≡ true → bit senders j ≡ true
  pub sorted : (c : ℕ) → c < 16 → Picked n senders (λ j. eqb (est j) c) left (get_or values c 0)

module _ (n senders : ℕ) (est : ℕ → ℕ) where
  pub sorting-starts : Sorting n senders est (replicate 16 0) senders
  sorting-starts =
      record {
        long = refl;
        within = λ j e. e;
        sorted = λ c l. rw (get_or-replicate {A = ℕ} 16 c 0 0 l) (picked_none n senders (λ j. eqb (est j) c));
      }

  pub sorting_more : {values : List ℕ} {left : ℕ} → Sorting n senders est values left → (i : ℕ) → i < n → bit left i ≡ true → est i < 16
      → (left' : ℕ) → left' ≡ bit_xor left (2 ^ i) → Sorting n senders est (set values (est i) (bit_or (get_or values (est i) 0) (2 ^ i))) left'
  sorting_more {values} {left} s i l h small left' e =
      rw e (record {
        long = length-set values (est i) (bit_or (get_or values (est i) 0) (2 ^ i)) ∙ s.long;
        within = λ j o. s.within j (within-removed left i h j o);
        sorted = λ c lc. go c lc (ℕ_discrete c (est i));
      })
    where
      more : List ℕ
      more = set values (est i) (bit_or (get_or values (est i) 0) (2 ^ i))

      go : (c : ℕ) → c < 16 → Dec (c ≡ est i) → Picked n senders (λ j. eqb (est j) c) (bit_xor left (2 ^ i)) (get_or more c 0)
      go c lc (yes d) =
          rw (d, get_or-set_same values (est i) (bit_or (get_or values (est i) 0) (2 ^ i)) 0 (omega (arith, s.long)))
          (picked_more n senders (λ j. eqb (est j) (est i)) left (s.sorted (est i) small) i l h (s.within i h) true (sym (eq-eqb (est i) (est i) refl)))
      go c lc (no d) =
          rw (get_or-set_other values (est i) c (bit_or (get_or values (est i) 0) (2 ^ i)) 0 d)
          (picked_more n senders (λ j. eqb (est j) c) left (s.sorted c lc) i l h (s.within i h) false (sym (ne_eqb (est i) c (λ q. d (sym q)))))

  -- one that belongs to none
  pub sorting_skip : {values : List ℕ} {left : ℕ} → Sorting n senders est values left → (i : ℕ) → i < n → bit left i ≡ true → 16 ≤ est i
      → (left' : ℕ) → left' ≡ bit_xor left (2 ^ i) → Sorting n senders est values left'
  sorting_skip {values} {left} s i l h large left' e =
      rw e (record {
        long = s.long;
        within = λ j o. s.within j (within-removed left i h j o);
        sorted = λ c lc.
            picked_more n senders (λ j. eqb (est j) c) left (s.sorted c lc) i l h (s.within i h) false (sym (ne_eqb (est i) c (λ q. absurd (omega (arith, q, large, lc)))));
      })

  pub sorting-done : {values : List ℕ} {left : ℕ} → Sorting n senders est values left → left ≡ 0 → Sorted values n senders est
  sorting-done s z c l = picked_all n senders (λ j. eqb (est j) c) (s.sorted c l) z

-- what the truck at place p hears was sent, so a search for its least value may begin with the least that anybody sends
pub sent-from : (by : List ℕ) (senders row p : ℕ) {w low : ℕ} → senders < 2 ^ 32 → w ≡ heard_set senders row p → low ≡ first (was_heard by senders) 16
    → (low ≤ 16) × (first (was_heard by w) low ≡ low)
sent-from by senders row p {w} {low} fits o l =
    first-from by senders w low (rw o (heard-fits senders row p fits)) (λ j h. heard-sends senders row p j (sym (ap (λ (x : ℕ). bit x j) o) ∙ h)) l

-- the least values that those wanted heard are sorted. The truck at place p is next, and w are those that it hears
module _ (by : List ℕ) (wanted : ℕ) (h : ℕ → Values) {left p left' : ℕ} (t : TakenOut left p left') (c w : ℕ) (is : h p ≡ values_of by w 16)
    (least : c ≡ first (was_heard by w) 16) {taking taking' : List ℕ} (s : Sorting 32 wanted (λ j. (h j).least) taking left) where
  -- it hears something, and one value alone where nobody else is heard than those that sent it
  pub least-heard : {own : ℕ} → own ≡ 2 ^ p → c < 16 → taking' ≡ set taking c (bit_or (get_or taking c 0) own)
      → (lone : Bool) → lone ≡ eqb (bit_xor w (bit_and w (get_or by c 0))) 0 → ((h p).heard ≡ cond lone One Several) × Sorting 32 wanted (λ j. (h j).least) taking' left'
  least-heard q small e lone o =
      let v : h p ≡ record { heard = cond (eqb (bit_xor w (bit_and w (get_or by c 0))) 0) One Several; least = c } = is ∙ values_hit by w 16 c small (sym least) in
      let m : c ≡ (h p).least = sym (ap (λ (x : Values). x.least) v) in (
        rw o (ap (λ (x : Values). x.heard) v),
        rw (e, q, m) (sorting_more 32 wanted (λ j. (h j).least) s p t.below t.held (rw m at small) left' t.rest),
      )

  -- it hears nothing
  pub none-heard : 16 ≤ c → taking' ≡ taking → ((h p).heard ≡ Nothing) × Sorting 32 wanted (λ j. (h j).least) taking' left'
  none-heard large e =
      let v : h p ≡ record { heard = Nothing; least = 16 } = is ∙ values-none by w 16 (omega (arith, first-le (was_heard by w) 16, least, large)) in (
        ap (λ (x : Values). x.heard) v,
        rw e (sorting_skip 32 wanted (λ j. (h j).least) s p t.below t.held (omega (arith, ap (λ (x : Values). x.least) v)) left' t.rest),
      )

-- the trucks below i are looked at: those that send, and those of them of each crusher
pub record Sending (sends : ℕ → Bool) (est : ℕ → ℕ) (i senders : ℕ) (values : List ℕ) : Type 0 where
  pub long : length values ≡ 16
  pub all : Members senders i sends
  pub each : (c : ℕ) → c < 16 → Members (get_or values c 0) i (λ j. sends j && eqb (est j) c)

module _ (sends : ℕ → Bool) (est : ℕ → ℕ) where
  pub sending_more : {i senders : ℕ} {values : List ℕ} → Sending sends est i senders values → est i < 16 → (joins : Bool) → joins ≡ sends i
      → Sending sends est (suc i) (cond joins (bit_or senders (2 ^ i)) senders) (set values (est i) (cond joins (bit_or (get_or values (est i) 0) (2 ^ i)) (get_or values (est i) 0)))
  sending_more {i} {senders} {values} s small joins e =
      record {
        long = length-set values (est i) own ∙ s.long;
        all = members-next s.all joins e;
        each = λ c lc. go c lc (ℕ_discrete c (est i));
      }
    where
      own : ℕ
      own = cond joins (bit_or (get_or values (est i) 0) (2 ^ i)) (get_or values (est i) 0)

      go : (c : ℕ) → c < 16 → Dec (c ≡ est i) → Members (get_or (set values (est i) own) c 0) (suc i) (λ j. sends j && eqb (est j) c)
      go c lc (yes d) =
          rw (d, get_or-set_same values (est i) own 0 (omega (arith, s.long)))
          (members-next (s.each (est i) small) joins (e ∙ sym (ap (λ (b : Bool). sends i && b) (eq-eqb (est i) (est i) refl) ∙ and-true (sends i))))
      go c lc (no d) =
          rw (get_or-set_other values (est i) c own 0 d)
          (members-next (s.each c lc) false (sym (ap (λ (b : Bool). sends i && b) (ne_eqb (est i) c (λ q. d (sym q))) ∙ and-false (sends i))))

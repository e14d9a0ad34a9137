-- What is worked out by sets of trucks is what the rules say.
use mathlib.Core.Path.{◌≡◌, refl, ap, ap₂, sym, ◌∙◌}
use mathlib.Core.Bool.{Bool, true, false, cond, not, ◌&&◌, true≢false, false≢true}
use mathlib.Core.List.{List, [], map, Memᴰ}
use Prim.Native.Nat.{ℕ, zero, suc, ◌^◌, ◌≤◌, ◌<◌}
use native.Mathlib.Decide.{dec_lt}
use native.Mathlib.Omega.{arith}
use borrow.Author.Tests.{eq-eqb, ne_eqb, eqb-true, eqb-false, lt-ltb, not-true, not-false}
use lib.Bits.{bit_xor, and_le_l, xor_lt, bit_and, and_zero_l}
use lib.Dec.{eqb}
use lib.ListN.{get_or}
use Rattle.basics.specs.Bits.{bit}
use Rattle.basics.specs.Lists.{who, first}
use Rattle.basics.proofs.Laws.{and_left, and_right, first-le, first-before, first-at, first-all}
use Rattle.basics.proofs.Bits.{bit-and, bit-xor, one_of}
use Rattle.radio.specs.Radio.{heard}
use Rattle.sets.proofs.Words.{bit-zero, no_bits, some-bit}
use Rattle.protocol.proofs.Values.{value_of, of_value, least-le, least_keeps, one_value, all_one}
use Rattle.protocol.specs.declared.Heard.{Heard}
use Rattle.protocol.specs.declared.Heard.TheVariants.{Nothing, One, Several}
use Rattle.protocol.specs.Rules.{is_several, different, least_or}
use Rattle.playback.specs.declared.hearing.Values.{Values}
use Rattle.playback.specs.Sets.{sent_here, was_heard, values_of, Sorted}

-- ---- the values heard
pub values_hit : (values : List ℕ) (heard e c : ℕ) → c < 16 → first (was_heard values heard) 16 ≡ c
    → values_of values heard e ≡ record { heard = cond (eqb (bit_xor heard (sent_here values heard c)) 0) One Several; least = c }
unfolding values_of
values_hit values heard e c l h = rw (h, lt-ltb c 16 l)

pub values-none : (values : List ℕ) (heard e : ℕ) → first (was_heard values heard) 16 ≡ 16 → values_of values heard e ≡ record { heard = Nothing; least = e }
unfolding values_of
values-none values heard e h = rw h

-- nobody was heard
pub values_silent : (values : List ℕ) (heard e : ℕ) → heard ≡ 0 → values_of values heard e ≡ record { heard = Nothing; least = e }
values_silent values heard e z =
    values-none values heard e (first-all (was_heard values heard) 16
    (λ c l. ap not (eq-eqb (sent_here values heard c) 0 (ap (λ (w : ℕ). bit_and w (get_or values c 0)) z ∙ and_zero_l (get_or values c 0)))))

-- a search of what some of the senders sent may begin with the least crusher that any of them sent
pub first-from : (values : List ℕ) (senders heard low : ℕ) → heard < 2 ^ 32 → ((j : ℕ) → bit heard j ≡ true → bit senders j ≡ true)
    → low ≡ first (was_heard values senders) 16 → (low ≤ 16) × (first (was_heard values heard) low ≡ low)
first-from values senders heard low fits among e = (
  omega (arith, e, first-le (was_heard values senders) 16),
  first-all (was_heard values heard) low
      (λ c l.
      ap not (eq-eqb (sent_here values heard c) 0
      (no_bits (sent_here values heard c) 32 (omega (arith, and_le_l heard (get_or values c 0))) (λ j lj. bit-and heard (get_or values c 0) j ∙ go c l j (bit heard j) refl)))),
)
  where
    none : (c : ℕ) → c < low → sent_here values senders c ≡ 0
    none c l = eqb-true (sent_here values senders c) 0 (not-false (eqb (sent_here values senders c) 0) (first-before (was_heard values senders) 16 c (omega (arith, e))))

    last : (x y : Bool) → x ≡ true → (x && y) ≡ false → y ≡ false
    last true y e f = f
    last false y e f = absurd (false≢true e)

    go : (c : ℕ) → c < low → (j : ℕ) (b : Bool) → bit heard j ≡ b → (b && bit (get_or values c 0) j) ≡ false
    go c l j true h =
        last (bit senders j) (bit (get_or values c 0) j) (among j h) (sym (bit-and senders (get_or values c 0) j) ∙ ap (λ (w : ℕ). bit w j) (none c l) ∙ bit-zero j)
    go c l j false h = refl

several : (vs : List ℕ) (u v : ℕ) → Memᴰ u vs → Memᴰ v vs → (u ≡ v → ⊥) → different vs ≡ Several
several vs u v mu mv h = go (different vs) refl
  where
    no_one : is_several (different vs) ≡ false → ⊥
    no_one e = h (sym (one_value 0 vs e u mu) ∙ one_value 0 vs e v mv)

    go : (d : Heard) → different vs ≡ d → d ≡ Several
    go Nothing e = absurd (no_one (ap is_several e))
    go One e = absurd (no_one (ap is_several e))
    go Several e = refl

pub who-none : (p : ℕ → Bool) (m : ℕ) → ((k : ℕ) → k < m → p k ≡ false) → who p m ≡ []
unfolding who
who-none p zero h = refl
who-none p (suc m) h = rw (who-none p m (λ k l. h k (omega arith)), h m (omega arith))

silent : (e : ℕ) (est : ℕ → ℕ) (js : List ℕ) → js ≡ [] → ◌≡◌ {A = Values} (record { heard = Nothing; least = e }) (record { heard = different (map est js); least = least_or e (map est js) })
unfolding different least_or
silent e est js z = rw z

module _ (values : List ℕ) (n senders heard e : ℕ) (est : ℕ → ℕ) (sorted : Sorted values n senders est)
    (below : heard < 2 ^ n) (within : (j : ℕ) → bit heard j ≡ true → bit senders j ≡ true) (small : (j : ℕ) → j < n → bit senders j ≡ true → est j < 16) where
  abbrev vs : List ℕ
  vs = map est (who (bit heard) n)

  abbrev here : ℕ → ℕ
  here c = sent_here values heard c

  -- who of those heard sent c
  here-bit : (c j : ℕ) → c < 16 → j < n → bit (here c) j ≡ (bit heard j && (bit senders j && eqb (est j) c))
  here-bit c j l lj = bit-and heard (get_or values c 0) j ∙ ap (λ (b : Bool). bit heard j && b) ((sorted c l).each j lj)

  here_est : (c j : ℕ) → c < 16 → j < n → bit (here c) j ≡ true → est j ≡ c
  here_est c j l lj h =
      eqb-true (est j) c (and_right (bit senders j) (eqb (est j) c) (and_right (bit heard j) (bit senders j && eqb (est j) c) (sym (here-bit c j l lj) ∙ h)))

  est_here : (c j : ℕ) → c < 16 → j < n → bit heard j ≡ true → est j ≡ c → bit (here c) j ≡ true
  est_here c j l lj h e = here-bit c j l lj ∙ rw (h, within j h, eq-eqb (est j) c e)

  -- a sender that was heard shows its crusher
  shows : (j : ℕ) → j < n → bit heard j ≡ true → was_heard values heard (est j) ≡ true
  shows j lj h =
      let s : est j < 16 = small j lj (within j h) in
      ap not (ne_eqb (here (est j)) 0
      (λ z. true≢false (sym (est_here (est j) j s lj h refl) ∙ ap (λ (w : ℕ). bit w j) z ∙ bit-zero j)))

  -- what no sender heard sent
  module _ (c : ℕ) (at : first (was_heard values heard) 16 ≡ c) where
    least_bound : (j : ℕ) → j < n → bit heard j ≡ true → c ≤ est j
    least_bound j lj h = go (dec_lt (est j) c)
      where
        go : Dec (est j < c) → c ≤ est j
        go (yes l) = absurd (true≢false (sym (shows j lj h) ∙ first-before (was_heard values heard) 16 (est j) (omega arith)))
        go (no l) = omega arith

    some_value_lem : c < 16 → (j : ℕ) × (j < n) × (bit heard j ≡ true) × (est j ≡ c)
    some_value_lem l =
        let p : was_heard values heard c ≡ true = ap (was_heard values heard) (sym at) ∙ first-at (was_heard values heard) 16 (omega arith) in
        let r = some-bit (here c) n (omega (arith, and_le_l heard (get_or values c 0))) (eqb-false (here c) 0 (not-true (eqb (here c) 0) p)) in
        let h : bit heard r.0 ≡ true = and_left (bit heard r.0) (bit (get_or values c 0) r.0) (sym (bit-and heard (get_or values c 0) r.0) ∙ r.2) in
        (r.0, r.1, h, here_est c r.0 l r.1 r.2)

    least_is : c < 16 → least_or e vs ≡ c
    least_is l =
        let r = some_value_lem l in
        let m : Memᴰ (est r.0) vs = value_of est (bit heard) n r.0 r.1 r.2 in
        let lo : c ≤ least_or e vs
        = least_keeps (λ (x : ℕ). c ≤ x) e vs (λ z. absurd (mathlib.Core.List.Memᴰ.not-nil (rw z at m)))
        (λ u mu. let q = of_value est (bit heard) n u mu in omega (arith, q.3, least_bound q.0 q.1 q.2)) in
        omega (arith, least-le e vs (est r.0) m, r.3)

    count_is : c < 16 → different vs ≡ cond (eqb (bit_xor heard (here c)) 0) One Several
    count_is l = go (eqb (bit_xor heard (here c)) 0) refl
      where
        r : (j : ℕ) × (j < n) × (bit heard j ≡ true) × (est j ≡ c)
        r = some_value_lem l

        m : Memᴰ (est r.0) vs
        m = value_of est (bit heard) n r.0 r.1 r.2

        both : (x y : Bool) → one_of x y ≡ false → x ≡ true → y ≡ true
        both true true h g = refl
        both true false h g = absurd (true≢false h)
        both false y h g = absurd (false≢true g)

        apart : (x y : Bool) → (y ≡ true → x ≡ true) → one_of x y ≡ true → (x ≡ true) × (y ≡ false)
        apart true true h g = absurd (false≢true g)
        apart true false h g = (refl, refl)
        apart false true h g = absurd (false≢true (h refl))
        apart false false h g = absurd (false≢true g)

        go : (b : Bool) → eqb (bit_xor heard (here c)) 0 ≡ b → different vs ≡ cond b One Several
        go true z =
            all_one c (est r.0) vs m
            (λ u mu.
            let q = of_value est (bit heard) n u mu in
            let o : one_of (bit heard q.0) (bit (here c) q.0) ≡ false
            = sym (bit-xor heard (here c) q.0) ∙ ap (λ (w : ℕ). bit w q.0) (eqb-true (bit_xor heard (here c)) 0 z) ∙ bit-zero q.0 in
            q.3 ∙ here_est c q.0 l q.1 (both (bit heard q.0) (bit (here c) q.0) o q.2))
        go false z =
            let under : here c < 2 ^ n = omega (arith, and_le_l heard (get_or values c 0)) in
            let s = some-bit (bit_xor heard (here c)) n (xor_lt n heard (here c) below under) (eqb-false (bit_xor heard (here c)) 0 z) in
            let p = apart (bit heard s.0) (bit (here c) s.0)
            (λ h. and_left (bit heard s.0) (bit (get_or values c 0) s.0) (sym (bit-and heard (get_or values c 0) s.0) ∙ h))
            (sym (bit-xor heard (here c) s.0) ∙ s.2) in
            several vs (est s.0) (est r.0) (value_of est (bit heard) n s.0 s.1 p.0) m
            (λ k. true≢false (sym (est_here c s.0 l s.1 p.0 (k ∙ r.3)) ∙ p.1))

  -- how many different values were heard, and the least of them
  pub values-right : values_of values heard e ≡ record { heard = different vs; least = least_or e vs }
  values-right = go (dec_lt (first (was_heard values heard) 16) 16)
    where
      c : ℕ
      c = first (was_heard values heard) 16

      go : Dec (c < 16) → values_of values heard e ≡ record { heard = different vs; least = least_or e vs }
      go (yes l) = values_hit values heard e c l refl ∙ ap₂ (λ (h : Heard) (v : ℕ). record { heard = h; least = v }) (sym (count_is c refl l)) (sym (least_is c refl l))
      go (no l) =
          let s : c ≡ 16 = omega (arith, first-le (was_heard values heard) 16) in
          values-none values heard e s ∙ silent e est (who (bit heard) n) (who-none (bit heard) n (λ j lj. clear j lj (bit heard j) refl))
        where
          clear : (j : ℕ) → j < n → (b : Bool) → bit heard j ≡ b → b ≡ false
          clear j lj true h =
              absurd (true≢false (sym (shows j lj h) ∙ first-before (was_heard values heard) 16 (est j) (omega (arith, small j lj (within j h)))))
          clear j lj false h = refl

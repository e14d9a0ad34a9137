-- Each class is judged by a set: the trucks that break it.
use mathlib.Core.Path.{◌≡◌, refl, ap, ap₂, sym, ◌∙◌}
use mathlib.Core.Bool.{Bool, true, false, cond, not, ◌&&◌, ◌||◌, and-false, true≢false, false≢true}
use mathlib.Core.List.{List, [], ◌∷◌}
use Prim.Native.Nat.{ℕ, ◌*◌, ◌-◌, ◌^◌, ◌≤◌, ◌<◌}
use native.Mathlib.Decide.{dec_lt, ℕ_discrete}
use native.Mathlib.Omega.{arith}
use borrow.Author.Tests.{eq-eqb, ne_eqb, eqb-true, ltb-true, ltb-false, lt-leb}
use lib.Bits.{bit_and, bit_or, and_le_l, xor_lt}
use lib.Count.{ones}
use lib.Dec.{eqb, leb, ltb}
use lib.ListN.{length, get_or, set}
use Rattle.basics.specs.Bits.{bit}
use Rattle.basics.specs.Lists.{all_below, some_below}
use Rattle.basics.proofs.Laws.{all_below-all, all_below-at, none-some_below, some_below-none}
use Rattle.radio.specs.Radio.{Radio, implies, sent, hears, heard_by, heard, misses, misses_any, judged, complete, majority_complete, zero_complete, accurate}
use Rattle.radio.proofs.Laws.{hears-sends}
use Rattle.bitreader.specs.Bits.{mirrored}
use Rattle.basics.proofs.Bits.{bit-and, bit-or}
use Rattle.sets.proofs.Words.{bit-without, bit-zero, same_bits, some-bit}
use Rattle.sets.proofs.Mirror.{mirror_eq, mirror_zero, mirror_ones}
use Rattle.protocol.specs.declared.Grades.{Grades}
use Rattle.sets.specs.Sets.{Members, without}
use Rattle.playback.specs.Listens.{row_from}
use Rattle.playback.specs.Standing.{holds}
use Rattle.playback.specs.Grading.{carried, heard_at, misses_some, carried_by, grades_of, RadioSets, asked_of, Judges}
use Rattle.playback.specs.declared.grading.Missed.{Missed}
use Rattle.playback.proofs.Radios.{heard-fits, heard_silent, count-members, some-members}
use Rattle.playback.proofs.Places.{turn-back}

-- the truck at place p misses a message
abbrev missed_at : List ℕ → ℕ → ℕ → ℕ → ℕ → Bool
missed_at s at n senders p = misses_some senders (heard_at s at n senders p)

-- a truck misses a message where it hears fewer than send
missed_by : (a : Radio) (i set senders : ℕ) → Members set a.trucks (hears a i) → Members senders a.trucks a.sends → misses_any a i ≡ not (eqb set senders)
unfolding misses_any misses
missed_by a i set senders hearing sends = go (ℕ_discrete set senders)
  where
    all : (j : ℕ) → j < a.trucks → set ≡ senders → (a.sends j && not (hears a i j)) ≡ false
    all j lj e = both (a.sends j) (hears a i j) (sym (sends.each j lj) ∙ ap (λ (w : ℕ). bit w j) (sym e) ∙ hearing.each j lj)
      where
        both : (x y : Bool) → x ≡ y → (x && not y) ≡ false
        both true true q = refl
        both true false q = q
        both false y q = refl

    some : (set ≡ senders → ⊥) → some_below (λ j. a.sends j && not (hears a i j)) a.trucks ≡ true
    some n = pick (some_below (λ j. a.sends j && not (hears a i j)) a.trucks) refl
      where
        equal : (x y : Bool) → (x && not y) ≡ false → (y ≡ true → x ≡ true) → y ≡ x
        equal true true e f = refl
        equal true false e f = sym e
        equal false true e f = sym (f refl)
        equal false false e f = refl

        pick : (b : Bool) → some_below (λ j. a.sends j && not (hears a i j)) a.trucks ≡ b → b ≡ true
        pick true e = refl
        pick false e =
            absurd (n (same_bits set senders a.trucks hearing.below sends.below
            (λ j lj. hearing.each j lj ∙ equal (a.sends j) (hears a i j) (some_below-none (λ j. a.sends j && not (hears a i j)) a.trucks e j lj) (hears-sends a i j) ∙ sym (sends.each j lj))))

    go : Dec (set ≡ senders) → some_below (λ j. a.sends j && not (hears a i j)) a.trucks ≡ not (eqb set senders)
    go (yes e) = none-some_below (λ j. a.sends j && not (hears a i j)) a.trucks (λ j lj. all j lj e) ∙ sym (ap not (eq-eqb set senders e))
    go (no e) = some e ∙ sym (ap not (ne_eqb set senders e))

-- what is carried asks for a round only where none has broken the class
carried-asks : (first k : ℕ) (x y : Bool) → (eqb first 0 ≡ true → x ≡ y) → carried first x k ≡ carried first y k
unfolding carried
carried-asks first k x y h = go (eqb first 0) refl
  where
    go : (b : Bool) → eqb first 0 ≡ b → cond b (cond x 0 k) first ≡ cond b (cond y 0 k) first
    go true e = ap (λ (z : Bool). cond z 0 k) (h e)
    go false e = refl

module _ {a : Radio} {s : List ℕ} {at n going senders mark : ℕ} (d : RadioSets a s at n going senders mark) where
  heard-lt : (p : ℕ) → heard_at s at n senders p < 2 ^ 32
  heard-lt p = heard-fits senders (row_from s at n p) p d.fits

  missed_is : (i : ℕ) → i < a.trucks → misses_any a i ≡ missed_at s at n senders (31 - i)
  missed_is i l =
      missed_by a i (mirrored 32 (heard_at s at n senders (31 - i))) (mirrored 32 senders) (d.heard i l) d.sends
      ∙ ap not (mirror_eq 32 (heard_at s at n senders (31 - i)) senders (heard-lt (31 - i)) d.fits)

  sent_is : sent a ≡ ones senders
  unfolding sent
  sent_is = count-members d.sends ∙ mirror_ones 32 senders d.fits

  sent-some : ltb 0 (sent a) ≡ not (eqb senders 0)
  unfolding sent
  sent-some = some-members d.sends ∙ ap not (mirror_zero 32 senders d.fits)

  heard_is : (i : ℕ) → i < a.trucks → heard a i ≡ ones (heard_at s at n senders (31 - i))
  unfolding heard heard_by
  heard_is i l = count-members (d.heard i l) ∙ mirror_ones 32 (heard_at s at n senders (31 - i)) (heard-lt (31 - i))

  heard-some : (i : ℕ) → i < a.trucks → ltb 0 (heard a i) ≡ not (eqb (heard_at s at n senders (31 - i)) 0)
  unfolding heard heard_by
  heard-some i l = some-members (d.heard i l) ∙ ap not (mirror_zero 32 (heard_at s at n senders (31 - i)) (heard-lt (31 - i)))

  -- nobody misses anything in a silent round
  silent_misses : (p : ℕ) → senders ≡ 0 → missed_at s at n senders p ≡ false
  silent_misses p z = ap not (eq-eqb (heard_at s at n senders p) senders (heard_silent senders (row_from s at n p) p z ∙ sym z))

  silent_heard : (p : ℕ) → senders ≡ 0 → heard_at s at n senders p ≡ senders
  silent_heard p z = heard_silent senders (row_from s at n p) p z ∙ sym z

  none-sent : ltb 0 (sent a) ≡ false → eqb senders 0 ≡ true
  none-sent e = go (eqb senders 0) (sym sent-some ∙ e)
    where
      go : (b : Bool) → not b ≡ false → b ≡ true
      go true q = refl
      go false q = sym q

  -- a class that every running truck has, by the set of those that lack it
  judged-set : (p : ℕ → Bool) (set : ℕ) → set < 2 ^ 32 → ((j : ℕ) → j < a.trucks → holds set j ≡ (holds going j && not (p j)))
      → ((j : ℕ) → a.trucks ≤ j → j < 32 → holds set j ≡ false) → eqb set 0 ≡ judged a p
  unfolding judged
  judged-set p set lt each out = go (ℕ_discrete set 0)
    where
      fine : (r q : Bool) → (r && not q) ≡ false → implies r q ≡ true
      fine true true e = refl
      fine true false e = absurd (true≢false e)
      fine false q e = refl

      bad : (r q : Bool) → (r && not q) ≡ true → implies r q ≡ true → ⊥
      bad true true e f = false≢true e
      bad true false e f = false≢true f
      bad false q e f = false≢true e

      go : Dec (set ≡ 0) → eqb set 0 ≡ all_below (λ i. implies (a.running i) (p i)) a.trucks
      go (yes z) =
          eq-eqb set 0 z
          ∙ sym (all_below-all (λ i. implies (a.running i) (p i)) a.trucks
          (λ j l. ap (λ (r : Bool). implies r (p j)) (d.running j l) ∙ fine (holds going j) (p j) (sym (each j l) ∙ ap (λ (x : ℕ). holds x j) z ∙ bit-zero (31 - j))))
      go (no z) = ne_eqb set 0 z ∙ sym (none (all_below (λ i. implies (a.running i) (p i)) a.trucks) refl)
        where
          q : (j : ℕ) × (j < 32) × (bit set j ≡ true)
          q = some-bit set 32 lt z

          here : holds set (31 - q.0) ≡ true
          here = ap (bit set) (turn-back q.0 q.1) ∙ q.2

          none : (b : Bool) → all_below (λ i. implies (a.running i) (p i)) a.trucks ≡ b → b ≡ false
          none false e = refl
          none true e = absurd (at_one (dec_lt (31 - q.0) a.trucks))
            where
              at_one : Dec (31 - q.0 < a.trucks) → ⊥
              at_one (yes l) =
                  bad (holds going (31 - q.0)) (p (31 - q.0)) (sym (each (31 - q.0) l) ∙ here)
                  (ap (λ (r : Bool). implies r (p (31 - q.0))) (sym (d.running (31 - q.0) l)) ∙ all_below-at (λ i. implies (a.running i) (p i)) a.trucks e (31 - q.0) l)
              at_one (no l) = true≢false (sym here ∙ out (31 - q.0) (omega arith) (omega arith))

  -- ---- the classes of a round whose rows were read where they matter
  module _ (g : Grades) (m : Missed) (wanted : ℕ) (ew : wanted ≡ cond (eqb senders 0) 0 (asked_of g going mark))
      (some : Members m.some 32 (λ p. bit wanted p && missed_at s at n senders p))
      (all : Members m.all 32 (λ p. bit wanted p && (missed_at s at n senders p && eqb (heard_at s at n senders p) 0)))
      (half : Members m.half 32 (λ p. bit wanted p && (missed_at s at n senders p && leb (2 * ones (heard_at s at n senders p)) (ones senders)))) where
    abbrev first_three : Bool
    first_three = eqb g.complete 0 || eqb g.majority 0 || eqb g.zero 0

    asked_bit : (j : ℕ) → holds (asked_of g going mark) j ≡ (cond first_three (holds going j && not (holds mark j)) false || cond (eqb g.accurate 0) (holds going j && holds mark j) false)
    asked_bit j =
        bit-or (cond first_three (without going mark) 0) (cond (eqb g.accurate 0) (bit_and going mark) 0) (31 - j)
        ∙ ap₂ ◌||◌ (one first_three (without going mark) (holds going j && not (holds mark j)) (bit-without going mark (31 - j))) (one (eqb g.accurate 0) (bit_and going mark) (holds going j && holds mark j) (bit-and going mark (31 - j)))
      where
        one : (b : Bool) (w : ℕ) (x : Bool) → holds w j ≡ x → holds (cond b w 0) j ≡ cond b x false
        one true w x e = e
        one false w x e = bit-zero (31 - j)

    -- as if rows were read in silent rounds too
    wanted-bit : (j : ℕ) (x : Bool) → (missed_at s at n senders (31 - j) ≡ false → x ≡ false) → (holds wanted j && x) ≡ (holds (asked_of g going mark) j && x)
    wanted-bit j x h = ap (λ (w : ℕ). holds w j && x) ew ∙ go (eqb senders 0) refl
      where
        go : (b : Bool) → eqb senders 0 ≡ b → (holds (cond b 0 (asked_of g going mark)) j && x) ≡ (holds (asked_of g going mark) j && x)
        go true e =
            let z : x ≡ false = h (silent_misses (31 - j) (eqb-true senders 0 e)) in
            ap₂ ◌&&◌ (bit-zero (31 - j)) z ∙ sym (ap (λ (y : Bool). holds (asked_of g going mark) j && y) z ∙ and-false (holds (asked_of g going mark) j))
        go false e = refl

    wanted-none : (j : ℕ) → a.trucks ≤ j → j < 32 → holds wanted j ≡ false
    wanted-none j o l = ap (λ (w : ℕ). holds w j) ew ∙ go (eqb senders 0)
      where
        neither : (x y : Bool) → (cond x false false || cond y false false) ≡ false
        neither true true = refl
        neither true false = refl
        neither false true = refl
        neither false false = refl

        go : (b : Bool) → holds (cond b 0 (asked_of g going mark)) j ≡ false
        go true = bit-zero (31 - j)
        go false =
            asked_bit j ∙ ap (λ (r : Bool). cond first_three (r && not (holds mark j)) false || cond (eqb g.accurate 0) (r && holds mark j) false) (d.none j o l)
            ∙ neither first_three (eqb g.accurate 0)

    -- those without a mark that have x, where one of the first three classes is open
    unmarked : (set j : ℕ) (x : Bool) → first_three ≡ true → holds set j ≡ (holds wanted j && x) → (missed_at s at n senders (31 - j) ≡ false → x ≡ false)
        → holds (without set mark) j ≡ (holds going j && not (implies x (holds mark j)))
    unmarked set j x ask e h =
        bit-without set mark (31 - j)
        ∙ ap (λ (y : Bool). y && not (holds mark j)) (e ∙ wanted-bit j x h ∙ ap (λ (y : Bool). y && x) (asked_bit j ∙ ap (λ (b : Bool). cond b (holds going j && not (holds mark j)) false || cond (eqb g.accurate 0) (holds going j && holds mark j) false) ask))
        ∙ go (holds going j) (holds mark j) x (eqb g.accurate 0)
      where
        go : (r k x b : Bool) → ((((r && not k) || cond b (r && k) false) && x) && not k) ≡ (r && not (implies x k))
        go true true true true = refl
        go true true true false = refl
        go true true false true = refl
        go true true false false = refl
        go true false true b = refl
        go true false false true = refl
        go true false false false = refl
        go false k x true = refl
        go false k x false = refl

    unmarked_none : (set : ℕ) (f : ℕ → Bool) → Members set 32 (λ p. bit wanted p && f p) → (j : ℕ) → a.trucks ≤ j → j < 32 → holds (without set mark) j ≡ false
    unmarked_none set f ms j o l =
        bit-without set mark (31 - j) ∙ ap (λ (y : Bool). y && not (holds mark j)) (ms.each (31 - j) (omega arith) ∙ ap (λ (y : Bool). y && f (31 - j)) (wanted-none j o l))

    fewer : (set : ℕ) (f : ℕ → Bool) → Members set 32 (λ p. bit wanted p && f p) → without set mark < 2 ^ 32
    fewer set f ms = xor_lt 32 set (bit_and set mark) ms.below (omega (arith, and_le_l set mark, ms.below))

    -- one class of the first three: x says of each truck what asks for a mark
    of_class : (set : ℕ) (f : ℕ → Bool) → Members set 32 (λ p. bit wanted p && f p) → ((p : ℕ) → missed_at s at n senders p ≡ false → f p ≡ false)
        → (x : ℕ → Bool) → ((j : ℕ) → j < a.trucks → x j ≡ f (31 - j)) → first_three ≡ true → eqb (without set mark) 0 ≡ judged a (λ i. implies (x i) (a.marked i))
    of_class set f ms miss x ex ask =
        judged-set (λ i. implies (x i) (a.marked i)) (without set mark) (fewer set f ms)
        (λ j l. unmarked set j (f (31 - j)) ask (ms.each (31 - j) (omega arith)) (miss (31 - j)) ∙ ap₂ (λ (y z : Bool). holds going j && not (implies y z)) (sym (ex j l)) (sym (d.marked j l)))
        (unmarked_none set f ms)

    all_miss : (p : ℕ) (y : Bool) → missed_at s at n senders p ≡ false → (missed_at s at n senders p && y) ≡ false
    all_miss p y e = ap (λ (b : Bool). b && y) e

    complete_is : first_three ≡ true → eqb (without m.some mark) 0 ≡ complete a
    unfolding complete
    complete_is = of_class m.some (missed_at s at n senders) some (λ p e. e) (misses_any a) missed_is

    majority_is : first_three ≡ true → eqb (without m.half mark) 0 ≡ majority_complete a
    unfolding majority_complete
    majority_is =
        of_class m.half (λ p. missed_at s at n senders p && leb (2 * ones (heard_at s at n senders p)) (ones senders)) half
        (λ p. all_miss p (leb (2 * ones (heard_at s at n senders p)) (ones senders))) (λ i. ltb 0 (sent a) && leb (2 * heard a i) (sent a)) each
      where
        each : (j : ℕ) → j < a.trucks
            → (ltb 0 (sent a) && leb (2 * heard a j) (sent a)) ≡ (missed_at s at n senders (31 - j) && leb (2 * ones (heard_at s at n senders (31 - j))) (ones senders))
        each j l =
            ap (λ (b : Bool). ltb 0 (sent a) && b) (ap₂ (λ (x y : ℕ). leb (2 * x) y) (heard_is j l) sent_is)
            ∙ go (ℕ_discrete (heard_at s at n senders (31 - j)) senders) (ltb 0 (sent a)) refl
          where
            go : Dec (heard_at s at n senders (31 - j) ≡ senders) → (b : Bool) → ltb 0 (sent a) ≡ b
                → (b && leb (2 * ones (heard_at s at n senders (31 - j))) (ones senders)) ≡ (missed_at s at n senders (31 - j) && leb (2 * ones (heard_at s at n senders (31 - j))) (ones senders))
            go (yes e) true q =
                lt-leb (2 * ones (heard_at s at n senders (31 - j))) (ones senders) (omega (arith, ap ones e, ltb-true 0 (sent a) q, sent_is))
                ∙ sym (ap (λ (b : Bool). not b && leb (2 * ones (heard_at s at n senders (31 - j))) (ones senders)) (eq-eqb (heard_at s at n senders (31 - j)) senders e))
            go (yes e) false q = sym (ap (λ (b : Bool). not b && leb (2 * ones (heard_at s at n senders (31 - j))) (ones senders)) (eq-eqb (heard_at s at n senders (31 - j)) senders e))
            go (no e) true q = sym (ap (λ (b : Bool). not b && leb (2 * ones (heard_at s at n senders (31 - j))) (ones senders)) (ne_eqb (heard_at s at n senders (31 - j)) senders e))
            go (no e) false q = absurd (e (silent_heard (31 - j) (eqb-true senders 0 (none-sent q))))

    zero_is : first_three ≡ true → eqb (without m.all mark) 0 ≡ zero_complete a
    unfolding zero_complete
    zero_is =
        of_class m.all (λ p. missed_at s at n senders p && eqb (heard_at s at n senders p) 0) all (λ p. all_miss p (eqb (heard_at s at n senders p) 0)) (λ i. ltb 0 (sent a) && eqb (heard a i) 0) each
      where
        each : (j : ℕ) → j < a.trucks → (ltb 0 (sent a) && eqb (heard a j) 0) ≡ (missed_at s at n senders (31 - j) && eqb (heard_at s at n senders (31 - j)) 0)
        each j l =
            ap₂ ◌&&◌ sent-some (none-heard (heard a j) (eqb (heard_at s at n senders (31 - j)) 0) (heard-some j l))
            ∙ go (ℕ_discrete (heard_at s at n senders (31 - j)) 0)
          where
            none-heard : (x : ℕ) (b : Bool) → ltb 0 x ≡ not b → eqb x 0 ≡ b
            none-heard x true e = eq-eqb x 0 (omega (arith, ltb-false 0 x e))
            none-heard x false e = ne_eqb x 0 (λ z. omega (arith, ltb-true 0 x e))

            go : Dec (heard_at s at n senders (31 - j) ≡ 0)
                → (not (eqb senders 0) && eqb (heard_at s at n senders (31 - j)) 0) ≡ (missed_at s at n senders (31 - j) && eqb (heard_at s at n senders (31 - j)) 0)
            go (yes e) = ap (λ (b : Bool). not b && eqb (heard_at s at n senders (31 - j)) 0) (turned senders ∙ sym (ap (λ (x : ℕ). eqb x senders) e))
              where
                turned : (x : ℕ) → eqb x 0 ≡ eqb 0 x
                turned x = either (ℕ_discrete x 0)
                  where
                    either : Dec (x ≡ 0) → eqb x 0 ≡ eqb 0 x
                    either (yes z) = eq-eqb x 0 z ∙ sym (eq-eqb 0 x (sym z))
                    either (no z) = ne_eqb x 0 z ∙ sym (ne_eqb 0 x (λ q. z (sym q)))
            go (no e) =
                ap (λ (b : Bool). not (eqb senders 0) && b) (ne_eqb (heard_at s at n senders (31 - j)) 0 e) ∙ and-false (not (eqb senders 0))
                ∙ sym (ap (λ (b : Bool). missed_at s at n senders (31 - j) && b) (ne_eqb (heard_at s at n senders (31 - j)) 0 e) ∙ and-false (missed_at s at n senders (31 - j)))

    accurate_is : eqb g.accurate 0 ≡ true → eqb (without (bit_and going mark) m.some) 0 ≡ accurate a
    unfolding accurate
    accurate_is ask =
        judged-set (λ i. implies (a.marked i) (misses_any a i)) (without (bit_and going mark) m.some)
        (xor_lt 32 (bit_and going mark) (bit_and (bit_and going mark) m.some) (omega (arith, and_le_l going mark, d.goes)) (omega (arith, and_le_l (bit_and going mark) m.some, and_le_l going mark, d.goes)))
        (λ j l. bits j ∙ ap₂ (λ (y z : Bool). holds going j && not (implies y z)) (sym (d.marked j l)) (sym (missed_is j l)))
        (λ j o l. bit-without (bit_and going mark) m.some (31 - j) ∙ ap (λ (y : Bool). y && not (holds m.some j)) (bit-and going mark (31 - j) ∙ ap (λ (y : Bool). y && holds mark j) (d.none j o l)))
      where
        bits : (j : ℕ) → holds (without (bit_and going mark) m.some) j ≡ (holds going j && not (implies (holds mark j) (missed_at s at n senders (31 - j))))
        bits j =
            bit-without (bit_and going mark) m.some (31 - j)
            ∙ ap₂ (λ (x y : Bool). x && not y) (bit-and going mark (31 - j))
            (some.each (31 - j) (omega arith) ∙ wanted-bit j (missed_at s at n senders (31 - j)) (λ e. e)
            ∙ ap (λ (b : Bool). b && missed_at s at n senders (31 - j)) (asked_bit j ∙ ap (λ (b : Bool). cond first_three (holds going j && not (holds mark j)) false || cond b (holds going j && holds mark j) false) ask))
            ∙ go (holds going j) (holds mark j) (missed_at s at n senders (31 - j)) first_three
          where
            go : (r k x b : Bool) → ((r && k) && not ((cond b (r && not k) false || (r && k)) && x)) ≡ (r && not (implies k x))
            go true true x true = refl
            go true true x false = refl
            go true false x b = refl
            go false k x b = refl

    -- the grades with the round too
    pub judged_by : (k : ℕ) → ◌≡◌ {A = Grades} (record {
      complete = carried g.complete (eqb (without m.some mark) 0) k;
      majority = carried g.majority (eqb (without m.half mark) 0) k;
      zero = carried g.zero (eqb (without m.all mark) 0) k;
      accurate = carried g.accurate (eqb (without (bit_and going mark) m.some) 0) k;
    }) (carried_by g a k)
    unfolding carried_by
    judged_by k =
        rw (
          carried-asks g.complete k (eqb (without m.some mark) 0) (complete a) (λ e. complete_is (ap (λ (b : Bool). b || eqb g.majority 0 || eqb g.zero 0) e)),
          carried-asks g.majority k (eqb (without m.half mark) 0) (majority_complete a) (λ e. majority_is (ap (λ (b : Bool). eqb g.complete 0 || b || eqb g.zero 0) e ∙ middle (eqb g.complete 0) (eqb g.zero 0))),
          carried-asks g.zero k (eqb (without m.all mark) 0) (zero_complete a) (λ e. zero_is (ap (λ (b : Bool). eqb g.complete 0 || eqb g.majority 0 || b) e ∙ top (eqb g.complete 0 || eqb g.majority 0))),
          carried-asks g.accurate k (eqb (without (bit_and going mark) m.some) 0) (accurate a) accurate_is,
        )
      where
        middle : (x y : Bool) → (x || true || y) ≡ true
        middle true y = refl
        middle false y = refl

        top : (x : Bool) → (x || true) ≡ true
        top true = refl
        top false = refl

-- four numbers put one after the other: what is read of the list meanwhile, and what it then says
put_four : (l : List ℕ) (w x y z : ℕ) → 4 ≤ length l
    → (length (set (set (set (set l 0 w) 1 x) 2 y) 3 z) ≡ length l)
    × ((grades_of (set (set (set (set l 0 w) 1 x) 2 y) 3 z) ≡ record { complete = w; majority = x; zero = y; accurate = z })
    × ((get_or (set l 0 w) 1 0 ≡ get_or l 1 0) × ((get_or (set (set l 0 w) 1 x) 2 0 ≡ get_or l 2 0) × (get_or (set (set (set l 0 w) 1 x) 2 y) 3 0 ≡ get_or l 3 0))))
put_four [] w x y z h = absurd (omega arith)
put_four (a ∷ []) w x y z h = absurd (omega arith)
put_four (a ∷ b ∷ []) w x y z h = absurd (omega arith)
put_four (a ∷ b ∷ c ∷ []) w x y z h = absurd (omega arith)
put_four (a ∷ b ∷ c ∷ d ∷ t) w x y z h = (refl, (refl, (refl, (refl, refl))))

-- what the function makes of its list
pub judged-four : (s : List ℕ) (at n going senders mark : ℕ) (l : List ℕ) → length l ≡ 4 → (m : Missed) (k u first last wanted x1 x2 x3 x4 c1 c2 c3 c4 : ℕ)
    → u ≡ without going mark → first ≡ cond (eqb (get_or l 0 0) 0 || eqb (get_or l 1 0) 0 || eqb (get_or l 2 0) 0) u 0 → last ≡ cond (eqb (get_or l 3 0) 0) (bit_and going mark) 0
    → wanted ≡ cond (eqb senders 0) 0 (bit_or first last)
    → Members m.some 32 (λ p. bit wanted p && missed_at s at n senders p)
    × (Members m.all 32 (λ p. bit wanted p && (missed_at s at n senders p && eqb (heard_at s at n senders p) 0))
    × Members m.half 32 (λ p. bit wanted p && (missed_at s at n senders p && leb (2 * ones (heard_at s at n senders p)) (ones senders))))
    → x1 ≡ without m.some mark → c1 ≡ carried (get_or l 0 0) (eqb x1 0) k → x2 ≡ without m.half mark → c2 ≡ carried (get_or (set l 0 c1) 1 0) (eqb x2 0) k
    → x3 ≡ without m.all mark → c3 ≡ carried (get_or (set (set l 0 c1) 1 c2) 2 0) (eqb x3 0) k
    → x4 ≡ without (bit_and going mark) m.some → c4 ≡ carried (get_or (set (set (set l 0 c1) 1 c2) 2 c3) 3 0) (eqb x4 0) k
    → Judges true s at n k going senders mark l (set (set (set (set l 0 c1) 1 c2) 2 c3) 3 c4)
judged-four s at n going senders mark l four m k u first last wanted x1 x2 x3 x4 c1 c2 c3 c4 eu ef el ew em e1 f1 e2 f2 e3 f3 e4 f4 =
    let p = put_four l c1 c2 c3 c4 (omega (arith, four)) in
    record {
      four = p.0 ∙ four;
      grades = λ a d.
          p.1.0
          ∙ puts (f1 ∙ ap (λ (x : ℕ). carried (get_or l 0 0) (eqb x 0) k) e1)
          (f2 ∙ ap₂ (λ (y x : ℕ). carried y (eqb x 0) k) p.1.1.0 e2)
          (f3 ∙ ap₂ (λ (y x : ℕ). carried y (eqb x 0) k) p.1.1.1.0 e3)
          (f4 ∙ ap₂ (λ (y x : ℕ). carried y (eqb x 0) k) p.1.1.1.1 e4)
          ∙ judged_by d (grades_of l) m wanted
          (ew ∙ ap (cond (eqb senders 0) 0) (ap₂ bit_or (ef ∙ ap (λ (x : ℕ). cond (eqb (get_or l 0 0) 0 || eqb (get_or l 1 0) 0 || eqb (get_or l 2 0) 0) x 0) eu) el)) em.0 em.1.0 em.1.1 k;
    }
  where
    puts : {w x y z w' x' y' z' : ℕ} → w ≡ w' → x ≡ x' → y ≡ y' → z ≡ z'
        → ◌≡◌ {A = Grades} (record { complete = w; majority = x; zero = y; accurate = z }) (record { complete = w'; majority = x'; zero = y'; accurate = z' })
    puts a b c d = rw (a, b, c, d)

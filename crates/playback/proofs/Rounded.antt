-- What a round's function returns, as its contract says it.
use mathlib.Core.Path.{◌≡◌, refl, ap, ap₂, sym, subst₂, ◌∙◌}
use mathlib.Core.Bool.{Bool, true, false, cond, not, ◌&&◌, ◌||◌, and-false}
use mathlib.Core.List.{List}
use Prim.Native.Nat.{ℕ, ◌+◌, ◌*◌, ◌<◌, ◌^◌}
use borrow.Author.Tests.{eqb-true}
use native.Mathlib.Omega.{arith}
use lib.Bits.{bit_and, bit_or, bit_xor, and_zero_l, and_le_l, xor_lt}
use lib.Dec.{eqb}
use Rattle.basics.specs.Bits.{bit}
use Rattle.basics.specs.Lists.{filled}
use Rattle.protocol.specs.declared.Heard.{Heard}
use Rattle.protocol.specs.Rules.{is_one, is_several}
use Rattle.playback.specs.declared.listening.Hearing.{Hearing}
use Rattle.sets.specs.Sets.{Members, without}
use Rattle.sets.proofs.Words.{bit-zero}
use Rattle.sets.proofs.Members.{members-none, members-rest}
use Rattle.playback.specs.Sets.{Sorted}
use Rattle.playback.specs.Listens.{row_from, heard_from, some_value, settled}
use Rattle.playback.proofs.Asking.{several-rest, some-parts}
use Rattle.playback.specs.Standing.{word_from, going_on, senders_of, proposers_of, unread_of, wanted_of, Proposes, may_of, Vetoes, unmarked_of, Prepares, with_bit, quiet_of, asked_in, Listens, willing_of, Accepts}

pub proposes_by : (s : List ℕ) (at n left running : ℕ) (by by' : List ℕ) (stop active mark going u fewer wanted changed : ℕ) (h : Hearing)
    → stop ≡ word_from s at → mark ≡ word_from s (at + 2 * n) → going ≡ without running stop → u ≡ unread_of left mark → fewer ≡ without going u
    → wanted ≡ cond (eqb (bit_and going active) 0) 0 fewer
    → Members h.some 32 (λ p. bit wanted p && some_value (heard_from s (at + 3 * n) n (bit_and going active) by p).heard)
    × (Members h.one 32 (λ p. bit wanted p && is_one (heard_from s (at + 3 * n) n (bit_and going active) by p).heard)
    × Sorted h.taking 32 wanted (λ p. (heard_from s (at + 3 * n) n (bit_and going active) by p).least))
    → changed ≡ without h.some mark → by' ≡ filled (settled by h.taking changed) 16 by
    → Proposes s at n left running active by by' (record { going = going; senders = bit_and going active; mark = mark; one = h.one; several = bit_xor h.some h.one })
proposes_by s at n left running by by' stop active mark going u fewer wanted changed h es em eg eu ef ew eh ec eb =
    let g : going ≡ going_on s at running = eg ∙ ap (without running) es in
    let d : bit_and going active ≡ senders_of s at running active = ap (λ (x : ℕ). bit_and x active) g in
    let w : wanted ≡ wanted_of s at n left running active = ew ∙ ap₂ (λ (x y : ℕ). cond (eqb x 0) 0 y) d (ef ∙ ap₂ without g (eu ∙ ap (unread_of left) em)) in
    let heard : ℕ → Heard = λ p. (heard_from s (at + 3 * n) n (bit_and going active) by p).heard in
    record {
      going = g;
      senders = d;
      mark = em;
      one = subst₂ (λ (x y : ℕ). Members h.one 32 (λ p. bit x p && is_one (heard_from s (at + 3 * n) n y by p).heard)) w d eh.1.0;
      several = subst₂ (λ (x y : ℕ). Members (bit_xor h.some h.one) 32 (λ p. bit x p && is_several (heard_from s (at + 3 * n) n y by p).heard)) w d (several-rest wanted heard eh.0 eh.1.0);
      taking = h.taking;
      sorted = subst₂ (λ (x y : ℕ). Sorted h.taking 32 x (λ p. (heard_from s (at + 3 * n) n y by p).least)) w d eh.1.1;
      took = eb ∙ ap (λ (x : ℕ). filled (settled by h.taking x) 16 by) (ec ∙ sym (ap (λ (x : ℕ). without x mark) (some-parts wanted heard eh.0 eh.1.0)));
    }

-- who hears some of the senders need not be asked where nobody sends, or nobody is wanted
pub none_asked : (s : List ℕ) (at n senders wanted : ℕ) {some : ℕ} → (eqb senders 0 || eqb wanted 0) ≡ true → some ≡ 0
    → Members some 32 (λ p. bit wanted p && not (eqb (without senders (row_from s at n p)) 0))
none_asked s at n senders wanted {some} e z = rw z (members-none 32 (λ p. bit wanted p && not (eqb (without senders (row_from s at n p)) 0)) (λ p l. go p (eqb senders 0) refl e))
  where
    go : (p : ℕ) (b : Bool) → eqb senders 0 ≡ b → (b || eqb wanted 0) ≡ true → (bit wanted p && not (eqb (without senders (row_from s at n p)) 0)) ≡ false
    go p true q h =
        ap (λ (x : ℕ). bit wanted p && not (eqb (without x (row_from s at n p)) 0)) (eqb-true senders 0 q)
        ∙ ap (λ (x : ℕ). bit wanted p && not (eqb x 0)) (and_zero_l (row_from s at n p)) ∙ and-false (bit wanted p)
    go p false q h =
        ap (λ (x : ℕ). bit x p && not (eqb (without senders (row_from s at n p)) 0)) (eqb-true wanted 0 h)
        ∙ ap (λ (x : Bool). x && not (eqb (without senders (row_from s at n p)) 0)) (bit-zero p)

-- what a loop that was asked or not asked has come to
pub as_asked : (s : List ℕ) (at n senders wanted : ℕ) {some asked : ℕ} → some ≡ asked → Members asked 32 (λ p. bit wanted p && not (eqb (without senders (row_from s at n p)) 0))
    → Members some 32 (λ p. bit wanted p && not (eqb (without senders (row_from s at n p)) 0))
as_asked s at n senders wanted e m = rw e m

without-lt : (x y : ℕ) → x < 2 ^ 32 → without x y < 2 ^ 32
without-lt x y l = xor_lt 32 x (bit_and x y) l (omega (arith, and_le_l x y, l))

pub vetoes_by : (s : List ℕ) (at n running marked one several stop mark going may some : ℕ) → running < 2 ^ 32
    → stop ≡ word_from s at → mark ≡ word_from s (at + 2 * n) → going ≡ without running stop → may ≡ without (bit_and going one) (bit_or mark marked)
    → Members some 32 (λ p. bit may p && not (eqb (without (bit_and going (bit_or marked several)) (row_from s (at + 3 * n) n p)) 0))
    → Vetoes s at n running marked one several
    (record { going = going; senders = bit_and going (bit_or marked several); mark = mark; on = bit_xor going (bit_xor may some); done = bit_xor may some })
vetoes_by s at n running marked one several stop mark going may some fits es em eg ey eh =
    let g : going ≡ going_on s at running = eg ∙ ap (without running) es in
    let m : may ≡ may_of s at n running marked one = ey ∙ ap₂ (λ (x y : ℕ). without (bit_and x one) (bit_or y marked)) g em in
    let l : going < 2 ^ 32 = rw eg (without-lt running stop fits) in
    let few : may < 2 ^ 32 = rw ey (without-lt (bit_and going one) (bit_or mark marked) (omega (arith, and_le_l going one, l))) in
    record {
      going = g;
      senders = ap (λ (x : ℕ). bit_and x (bit_or marked several)) g;
      mark = em;
      done = subst₂ (λ (x y : ℕ). Members (bit_xor may some) 32 (λ p. bit x p && eqb (without (bit_and y (bit_or marked several)) (row_from s (at + 3 * n) n p)) 0)) m g
          (members-rest may 32 (λ p. eqb (without (bit_and going (bit_or marked several)) (row_from s (at + 3 * n) n p)) 0) few eh);
      on = ap (λ (x : ℕ). bit_xor x (bit_xor may some)) g;
    }

-- rounds of the six-round cycle
pub prepares_by : (s : List ℕ) (at n running : ℕ) (by by' : List ℕ) (stop active mark going unmarked wanted : ℕ) (h : Hearing)
    → stop ≡ word_from s at → active ≡ word_from s (at + n) → mark ≡ word_from s (at + 2 * n) → going ≡ without running stop → unmarked ≡ without going mark
    → wanted ≡ cond (eqb (bit_and going active) 0) 0 unmarked
    → Members h.some 32 (λ p. bit wanted p && some_value (heard_from s (at + 3 * n) n (bit_and going active) by p).heard)
    → Sorted h.taking 32 wanted (λ p. (heard_from s (at + 3 * n) n (bit_and going active) by p).least)
    → by' ≡ filled (settled by h.taking h.some) 16 by
    → Prepares s at n running by by' (record { going = going; senders = bit_and going active; mark = mark; on = going; done = 0; unwilling = 0 })
prepares_by s at n running by by' stop active mark going unmarked wanted h es ea em eg eu ew eh et eb =
    let g : going ≡ going_on s at running = eg ∙ ap (without running) es in
    let d : bit_and going active ≡ proposers_of s at n running = ap₂ bit_and g ea in
    let w : wanted ≡ unmarked_of s at n running = ew ∙ ap₂ (λ (x y : ℕ). cond (eqb x 0) 0 y) d (eu ∙ ap₂ without g em) in
    record {
      changed = h.some;
      heard = subst₂ (λ (x y : ℕ). Members h.some 32 (λ p. bit x p && some_value (heard_from s (at + 3 * n) n y by p).heard)) w d eh;
      taking = h.taking;
      sorted = subst₂ (λ (x y : ℕ). Sorted h.taking 32 x (λ p. (heard_from s (at + 3 * n) n y by p).least)) w d et;
      took = eb;
      played = λ i. record { going = g i; senders = d i; mark = em i; on = g i; done = 0; unwilling = 0 };
    }

pub listens_by : (s : List ℕ) (at n b running unwilling : ℕ) (by : List ℕ) (stop mark going shown quiet unmarked asked some : ℕ)
    → stop ≡ word_from s at → mark ≡ word_from s (at + 2 * n) → going ≡ without running stop → ((p : ℕ) → p < 32 → bit shown p ≡ with_bit by b p) → quiet ≡ without going (bit_and going shown)
    → unmarked ≡ without quiet (bit_or mark unwilling) → asked ≡ cond (eqb (bit_and going shown) 0) 0 unmarked
    → Members some 32 (λ p. bit asked p && not (eqb (without (bit_and going shown) (row_from s (at + 3 * n) n p)) 0))
    → Listens s at n b running unwilling by
    (record { going = going; senders = bit_and going shown; mark = mark; on = going; done = 0; unwilling = bit_or (bit_or (bit_and going unwilling) (bit_and quiet mark)) some })
listens_by s at n b running unwilling by stop mark going shown quiet unmarked asked some es em eg eb eq eu ea eh =
    let g : going ≡ going_on s at running = eg ∙ ap (without running) es in
    let q : quiet ≡ quiet_of s at running shown = eq ∙ ap (λ (x : ℕ). without x (bit_and x shown)) g in
    let a : asked ≡ asked_in s at n running unwilling shown =
    ea ∙ ap₂ (λ (x y : ℕ). cond (eqb (bit_and x shown) 0) 0 y) g (eu ∙ ap₂ (λ (x y : ℕ). without x (bit_or y unwilling)) q em) in
    record {
      shown = shown;
      bits = eb;
      some = some;
      heard = subst₂ (λ (x y : ℕ). Members some 32 (λ p. bit x p && not (eqb (without (bit_and y shown) (row_from s (at + 3 * n) n p)) 0))) a g eh;
      played = λ i.
          record {
            going = g i;
            senders = bit_and (g i) shown;
            mark = em i;
            on = g i;
            done = 0;
            unwilling = bit_or (bit_or (bit_and (g i) unwilling) (bit_and (q i) (em i))) some;
          };
    }

pub accepts_by : (s : List ℕ) (at n running unwilling stop mark going may some : ℕ)
    → stop ≡ word_from s at → mark ≡ word_from s (at + 2 * n) → going ≡ without running stop → may ≡ without going (bit_or mark unwilling)
    → Members some 32 (λ p. bit may p && not (eqb (without (bit_and going unwilling) (row_from s (at + 3 * n) n p)) 0))
    → Accepts s at n running unwilling
    (record { going = going; senders = bit_and going unwilling; mark = mark; on = bit_xor going (bit_xor may some); done = bit_xor may some; unwilling = 0 })
accepts_by s at n running unwilling stop mark going may some es em eg ey eh =
    let g : going ≡ going_on s at running = eg ∙ ap (without running) es in
    let m : may ≡ willing_of s at n running unwilling = ey ∙ ap₂ (λ (x y : ℕ). without x (bit_or y unwilling)) g em in
    record {
      some = some;
      heard = subst₂ (λ (x y : ℕ). Members some 32 (λ p. bit x p && not (eqb (without (bit_and y unwilling) (row_from s (at + 3 * n) n p)) 0))) m g eh;
      played = λ i.
          record {
            going = g i;
            senders = bit_and (g i) unwilling;
            mark = em i;
            on = bit_xor (g i) (bit_xor (m i) some);
            done = bit_xor (m i) some;
            unwilling = 0;
          };
    }

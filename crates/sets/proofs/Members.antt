-- Sets of trucks in words, and loops that take the trucks of a set one by one: `left` holds those that are still to come.
use mathlib.Core.Path.{◌≡◌, refl, ap, ap₂, sym, ◌∙◌}
use mathlib.Core.Bool.{Bool, true, false, cond, not, ◌&&◌, ◌||◌, and-true, and-false, or-false, true≢false, false≢true}
use mathlib.Core.List.{List}
use Prim.Native.Nat.{ℕ, suc, ◌%◌, ◌^◌, ◌≤◌, ◌<◌}
use native.Mathlib.Nat.{mod-eq_of_lt}
use native.Mathlib.Decide.{dec_lt, ℕ_discrete}
use native.Mathlib.Omega.{arith}
use borrow.Author.Tests.{eq-eqb, ne_eqb}
use lib.Bits.{bit_and, bit_or, bit_xor, and_le_l, or_lt, xor_lt}
use lib.Count.{count_trailing_zeros}
use lib.Dec.{eqb}
use lib.Pow.{pow_pos, pow-lt}
use lib.ListN.{length, get_or, set, length-set}
use lib.Seq.{ext_get_or, get_or-set_same, get_or-set_other}
use Rattle.basics.specs.Bits.{bit}
use Rattle.basics.specs.Lists.{filled}
use Rattle.basics.proofs.Laws.{and_left, length-filled, get_or-filled, get_or-filled_past, filled_ext, filled-same}
use Rattle.basics.proofs.Bits.{bit-and, bit-or, bit-xor, one_of}
use Rattle.sets.proofs.Words.{bit-without, bit_power, bit_high, bit-zero, bit-removed, removed-lt}
use Rattle.sets.specs.Sets.{Members, IsNext, rest_of}

pub set_below : (set n : ℕ) → set < 2 ^ n → (j : ℕ) → bit set j ≡ true → j < n
set_below set n below j h = go (dec_lt j n)
  where
    go : Dec (j < n) → j < n
    go (yes l) = l
    go (no l) = absurd (true≢false (sym h ∙ bit_high set n j below (omega arith)))

-- the lowest truck p is taken out of a set
pub record TakenOut (left p left' : ℕ) : Type 0 where
  pub below : p < 32
  pub held : bit left p ≡ true
  pub rest : left' ≡ bit_xor left (2 ^ p)
  pub less : left' < left

pub taken_out : {left p left' : ℕ} → (left ≡ 0 → ⊥) → (p ≡ count_trailing_zeros 32 left) × ((left ≡ 0 → ⊥) → (p < 32) × (bit left p ≡ true)) → left' ≡ rest_of left → TakenOut left p left'
unfolding rest_of
taken_out {left} {p} {left'} some (lowest, is) e =
    let r : left' ≡ bit_xor left (2 ^ p) = e ∙ ap₂ (λ (b : Bool) (i : ℕ). cond b 0 (bit_xor left (2 ^ i))) (ne_eqb left 0 some) (sym lowest) in
    record { below = (is some).0; held = (is some).1; rest = r; less = rw r (removed-lt left p (is some).1) }

-- so it is where an iterator gives it
pub next_out : {left p left' : ℕ} → IsNext left p left' → TakenOut left p left'
next_out n = taken_out n.some (n.lowest, λ some. (n.below, n.held)) n.rest

-- the set of one truck
pub only_is : (i : ℕ) → i < 32 → 2 ^ i % 2 ^ 32 ≡ 2 ^ i
only_is i l = mod-eq_of_lt (pow-lt l)

module _ {set n : ℕ} {p : ℕ → Bool} (m : Members set n p) where
  pub member_below : (j : ℕ) → bit set j ≡ true → j < n
  member_below = set_below set n m.below

  -- a member has p
  pub member_has : (j : ℕ) → bit set j ≡ true → p j ≡ true
  member_has j h = sym (m.each j (member_below j h)) ∙ h

  pub members_ext : (q : ℕ → Bool) → ((j : ℕ) → j < n → p j ≡ q j) → Members set n q
  members_ext q h = record { below = m.below; each = λ j l. m.each j l ∙ h j l }

  pub members-and : (b : ℕ) → Members (bit_and set b) n (λ j. p j && bit b j)
  members-and b =
      record {
        below = omega (arith, and_le_l set b, m.below);
        each = λ j l. bit-and set b j ∙ ap (λ (x : Bool). x && bit b j) (m.each j l);
      }

  pub members-without : (b : ℕ) → Members (bit_xor set (bit_and set b)) n (λ j. p j && not (bit b j))
  members-without b =
      record {
        below = xor_lt n set (bit_and set b) m.below (omega (arith, and_le_l set b, m.below));
        each = λ j l. bit-without set b j ∙ ap (λ (x : Bool). x && not (bit b j)) (m.each j l);
      }

-- of a set, those that have f are the rest of those that don't
pub members-rest : (w n : ℕ) (f : ℕ → Bool) {others : ℕ} → w < 2 ^ n → Members others n (λ j. bit w j && not (f j)) → Members (bit_xor w others) n (λ j. bit w j && f j)
members-rest w n f {others} l m =
    record {
      below = xor_lt n w others l m.below;
      each = λ j lj. bit-xor w others j ∙ ap (one_of (bit w j)) (m.each j lj) ∙ go (bit w j) (f j);
    }
  where
    go : (x y : Bool) → one_of x (x && not y) ≡ (x && y)
    go true true = refl
    go true false = refl
    go false y = refl

pub members-none : (n : ℕ) (p : ℕ → Bool) → ((j : ℕ) → j < n → p j ≡ false) → Members 0 n p
members-none n p h = record { below = pow_pos n; each = λ j l. bit-zero j ∙ sym (h j l) }

-- one number more is looked at, and joins where it has p
pub members-next : {m i : ℕ} {p : ℕ → Bool} → Members m i p → (b : Bool) → b ≡ p i → Members (cond b (bit_or m (2 ^ i)) m) (suc i) p
members-next {m} {i} {p} s b e = record { below = below b; each = λ j l. each b e j l (dec_lt j i) }
  where
    less : m < 2 ^ suc i
    less = omega (arith, s.below, pow-lt (let z : i < suc i = omega arith in z))

    below : (b : Bool) → cond b (bit_or m (2 ^ i)) m < 2 ^ suc i
    below true = or_lt (suc i) m (2 ^ i) less (pow-lt (omega arith))
    below false = less

    last : (b : Bool) → bit (cond b (bit_or m (2 ^ i)) m) i ≡ b
    last true = bit-or m (2 ^ i) i ∙ ap₂ ◌||◌ (bit_high m i i s.below (omega arith)) (bit_power i i ∙ eq-eqb i i refl)
    last false = bit_high m i i s.below (omega arith)

    each : (b : Bool) → b ≡ p i → (j : ℕ) → j < suc i → Dec (j < i) → bit (cond b (bit_or m (2 ^ i)) m) j ≡ p j
    each true e j l (yes o) =
        bit-or m (2 ^ i) j ∙ ap (λ (x : Bool). bit m j || x) (bit_power i j ∙ ne_eqb i j (λ q. omega arith)) ∙ or-false (bit m j) ∙ s.each j o
    each false e j l (yes o) = s.each j o
    each b e j l (no o) = let q : j ≡ i = omega arith in rw q (last b ∙ e)

-- those that are left after one is taken were left before
pub within-removed : (left i : ℕ) → bit left i ≡ true → (j : ℕ) → bit (bit_xor left (2 ^ i)) j ≡ true → bit left j ≡ true
within-removed left i h j e = and_left (bit left j) (not (eqb i j)) (sym (bit-removed left i j h) ∙ e)

-- those of q that were taken already
abbrev pub seen : ℕ → (ℕ → Bool) → ℕ → Bool
seen left q j = not (bit left j) && q j

pub seen_none : (n left : ℕ) (q : ℕ → Bool) → ((j : ℕ) → j < n → q j ≡ true → bit left j ≡ true) → Members 0 n (seen left q)
seen_none n left q h = members-none n (seen left q) (λ j l. go (bit left j) (q j) (h j l))
  where
    go : (x y : Bool) → (y ≡ true → x ≡ true) → (not x && y) ≡ false
    go true y f = refl
    go false true f = absurd (false≢true (f refl))
    go false false f = refl

pub seen_all : {m n : ℕ} {q : ℕ → Bool} → Members m n (seen 0 q) → Members m n q
seen_all {m} {n} {q} h = members_ext h q (λ j l. ap (λ (b : Bool). not b && q j) (bit-zero j))

module _ (m n left i : ℕ) (q : ℕ → Bool) (l : i < n) (h : bit left i ≡ true) (s : Members m n (seen left q)) where
  -- the others were seen or not as before
  other : (j : ℕ) → (i ≡ j → ⊥) → seen (bit_xor left (2 ^ i)) q j ≡ seen left q j
  other j d = ap (λ (b : Bool). not b && q j) (bit-removed left i j h ∙ ap (λ (b : Bool). bit left j && not b) (ne_eqb i j d) ∙ and-true (bit left j))

  same : seen (bit_xor left (2 ^ i)) q i ≡ q i
  same = ap (λ (b : Bool). not b && q i) (bit-removed left i i h ∙ ap (λ (b : Bool). bit left i && not b) (eq-eqb i i refl) ∙ and-false (bit left i))

  pub seen_in : q i ≡ true → Members (bit_or m (2 ^ i)) n (seen (bit_xor left (2 ^ i)) q)
  seen_in e =
      record {
        below = or_lt n m (2 ^ i) s.below (pow-lt l);
        each = λ j lj. bit-or m (2 ^ i) j ∙ ap (λ (b : Bool). bit m j || b) (bit_power i j) ∙ go j lj (ℕ_discrete i j);
      }
    where
      top : (b : Bool) → (b || true) ≡ true
      top true = refl
      top false = refl

      go : (j : ℕ) → j < n → Dec (i ≡ j) → (bit m j || eqb i j) ≡ seen (bit_xor left (2 ^ i)) q j
      go j lj (yes d) = rw (eq-eqb i j d) (top (bit m j) ∙ sym (ap (seen (bit_xor left (2 ^ i)) q) (sym d) ∙ same ∙ e))
      go j lj (no d) = rw (ne_eqb i j d) (or-false (bit m j) ∙ s.each j lj ∙ sym (other j d))

  pub seen_out : q i ≡ false → Members m n (seen (bit_xor left (2 ^ i)) q)
  seen_out e = members_ext s (seen (bit_xor left (2 ^ i)) q) (λ j lj. go j (ℕ_discrete i j))
    where
      go : (j : ℕ) → Dec (i ≡ j) → seen left q j ≡ seen (bit_xor left (2 ^ i)) q j
      go j (yes d) =
          ap (seen left q) (sym d) ∙ ap (λ (b : Bool). not (bit left i) && b) e ∙ and-false (not (bit left i))
          ∙ sym (ap (seen (bit_xor left (2 ^ i)) q) (sym d) ∙ same ∙ e)
      go j (no d) = sym (other j d)

  -- truck i joins where it has q
  pub seen-joined : (b : Bool) → b ≡ q i → Members (cond b (bit_or m (2 ^ i)) m) n (seen (bit_xor left (2 ^ i)) q)
  seen-joined true e = seen_in (sym e)
  seen-joined false e = seen_out (sym e)

-- ---- those wanted are taken one by one, and `out` holds those of them that were taken already and have f
abbrev pub Picked : ℕ → ℕ → (ℕ → Bool) → ℕ → ℕ → Type 0
Picked n wanted f left out = Members out n (seen left (λ j. bit wanted j && f j))

module _ (n wanted : ℕ) (f : ℕ → Bool) where
  pub picked_none : Picked n wanted f wanted 0
  picked_none = seen_none n wanted (λ j. bit wanted j && f j) (λ j l e. and_left (bit wanted j) (f j) e)

  -- the next one joins where it has f
  pub picked_more : (left : ℕ) {out : ℕ} → Picked n wanted f left out → (i : ℕ) → i < n → bit left i ≡ true → bit wanted i ≡ true → (b : Bool) → b ≡ f i
      → Picked n wanted f (bit_xor left (2 ^ i)) (cond b (bit_or out (2 ^ i)) out)
  picked_more left {out} m i l h w b e = seen-joined out n left i (λ j. bit wanted j && f j) l h m b (e ∙ sym (ap (λ (x : Bool). x && f i) w))

  pub picked_all : {left out : ℕ} → Picked n wanted f left out → left ≡ 0 → Members out n (λ j. bit wanted j && f j)
  picked_all m z = seen_all (rw z at m)

-- the same where the next one is the lowest, whose set is own
pub picked-lowest : (wanted : ℕ) (f : ℕ → Bool) {left p left' own out out' : ℕ} → TakenOut left p left' → own ≡ 2 ^ p → bit wanted p ≡ true → (b : Bool) → b ≡ f p
    → out' ≡ cond b (bit_or out own) out → Picked 32 wanted f left out → Picked 32 wanted f left' out'
picked-lowest wanted f {left} {p} {left'} t q w b e o m = rw (t.rest, o, q) (picked_more 32 wanted f left m p t.below t.held w b e)

-- ---- a list whose elements are replaced one by one
module _ {A : Type 0} (z : A) (d : List A) (new : ℕ → A) (n : ℕ) where
  abbrev pub half : ℕ → ℕ → A
  half left j = cond (bit left j) (get_or d j z) (new j)

  -- the elements that are still to come stand as they were
  abbrev pub replaced : ℕ → List A
  replaced left = filled (half left) n d

  pub replaced-all : replaced 0 ≡ filled new n d
  replaced-all = filled_ext (half 0) new n d (λ j l. ap (λ (b : Bool). cond b (get_or d j z) (new j)) (bit-zero j))

module _ {A : Type 0} (z : A) (d : List A) (new : ℕ → A) (n : ℕ) (long : n ≤ length d) where
  abbrev old : ℕ → ℕ → A
  old = half z d new n

  abbrev part : ℕ → List A
  part = replaced z d new n

  pub replaced-none : (left : ℕ) → ((j : ℕ) → j < n → bit left j ≡ false → new j ≡ get_or d j z) → part left ≡ d
  replaced-none left h = filled-same z (old left) n d long (λ j l. pick j (bit left j) refl (h j l))
    where
      pick : (j : ℕ) → (b : Bool) → bit left j ≡ b → (bit left j ≡ false → new j ≡ get_or d j z) → cond b (get_or d j z) (new j) ≡ get_or d j z
      pick j true e f = refl
      pick j false e f = f e

  pub replaced_more : (left i : ℕ) (a : A) → i < n → bit left i ≡ true → a ≡ new i → set (part left) i a ≡ part (bit_xor left (2 ^ i))
  replaced_more left i a l h e =
      ext_get_or z (set (part left) i a) (part left')
      (length-set (part left) i a ∙ long' ∙ sym (length-filled (old left') n d long)) (λ j o. go j (ℕ_discrete j i) (dec_lt j n))
    where
      left' : ℕ
      left' = bit_xor left (2 ^ i)

      long' : length (part left) ≡ length d
      long' = length-filled (old left) n d long

      go : (j : ℕ) → Dec (j ≡ i) → Dec (j < n) → get_or (set (part left) i a) j z ≡ get_or (part left') j z
      go j (yes s) o =
          ap (λ (k : ℕ). get_or (set (part left) i a) k z) s
          ∙ get_or-set_same (part left) i a z (omega (arith, long'))
          ∙ e
          ∙ sym (ap (λ (k : ℕ). get_or (part left') k z) s ∙ get_or-filled (old left') n d i z l
          ∙ ap (λ (b : Bool). cond b (get_or d i z) (new i)) (bit-removed left i i h ∙ ap (λ (b : Bool). bit left i && not b) (eq-eqb i i refl) ∙ and-false (bit left i)))
      go j (no s) (yes o) =
          get_or-set_other (part left) i j a z s
          ∙ get_or-filled (old left) n d j z o
          ∙ sym (get_or-filled (old left') n d j z o
          ∙ ap (λ (b : Bool). cond b (get_or d j z) (new j)) (bit-removed left i j h ∙ ap (λ (b : Bool). bit left j && not b) (ne_eqb i j (λ t. s (sym t))) ∙ and-true (bit left j)))
      go j (no s) (no o) =
          get_or-set_other (part left) i j a z s
          ∙ get_or-filled_past (old left) n d j z (omega arith)
          ∙ sym (get_or-filled_past (old left') n d j z (omega arith))

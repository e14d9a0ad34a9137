-- Loops that ask those wanted, one by one, what they hear: `left` holds those that are still to come.
use mathlib.Core.Path.{◌≡◌, refl, ap, ap₂, sym, ◌∙◌}
use mathlib.Core.Bool.{Bool, true, false, cond, not, ◌&&◌, ◌||◌}
use mathlib.Core.List.{List}
use Prim.Native.Nat.{ℕ, ◌%◌, ◌^◌, ◌≤◌, ◌<◌}
use lib.Bits.{bit_or, bit_xor, or_lt, xor_lt}
use lib.Dec.{eqb}
use lib.ListN.{get_or, set, replicate}
use Rattle.basics.specs.Bits.{bit}
use Rattle.basics.specs.Lists.{first}
use Rattle.sets.specs.Sets.{Members, without, IsNext}
use Rattle.protocol.specs.declared.Heard.{Heard}
use Rattle.protocol.specs.declared.Heard.TheVariants.{Nothing, One, Several}
use Rattle.protocol.specs.Rules.{is_one, is_several}
use Rattle.playback.specs.declared.hearing.Values.{Values}
use Rattle.playback.specs.Sets.{Sorted, heard_set, was_heard, values_of}
use Rattle.playback.specs.Listens.{row_from, heard_from, some_value}
use Rattle.basics.proofs.Bits.{bit-or, bit-xor, one_of}
use Rattle.sets.proofs.Words.{same_bits}
use Rattle.sets.proofs.Members.{TakenOut, next_out, only_is, within-removed, Picked, picked_none, picked-lowest, picked_all, members_ext, members-rest}
use Rattle.playback.proofs.Sorting.{Sorting, sorting-starts, least-heard, none-heard, sorting-done}

-- the truck at place p is the next of those left: `only` is its set, and left' are left after it
pub record Next (left p only left' : ℕ) : Type 0 where
  pub taken : TakenOut left p left'
  pub own : only ≡ 2 ^ p

pub next_is : {left p only left' : ℕ} → IsNext left p left' → only ≡ 2 ^ p % 2 ^ 32 → Next left p only left'
next_is {p = p} n e = let t = next_out n in record { taken = t; own = e ∙ only_is p t.below }

-- `out` holds those wanted that were asked already and have f
pub record Asking (wanted : ℕ) (f : ℕ → Bool) (left out : ℕ) : Type 0 where
  pub within : (j : ℕ) → bit left j ≡ true → bit wanted j ≡ true
  pub picked : Picked 32 wanted f left out

module _ (wanted : ℕ) (f : ℕ → Bool) where
  pub asking-starts : Asking wanted f wanted 0
  asking-starts = record { within = λ j e. e; picked = picked_none 32 wanted f }

  -- the next one joins where it has f
  pub asking_more : {left p only left' out out' : ℕ} → Next left p only left' → (b : Bool) → b ≡ f p → out' ≡ cond b (bit_or out only) out → Asking wanted f left out → Asking wanted f left' out'
  asking_more {left} {p} x b e joined a =
      record {
        within = λ j h. a.within j (within-removed left p x.taken.held j (rw x.taken.rest at h));
        picked = picked-lowest wanted f x.taken x.own (a.within p x.taken.held) b e joined a.picked;
      }

  pub asking-done : {left out : ℕ} → Asking wanted f left out → left ≡ 0 → Members out 32 (λ j. bit wanted j && f j)
  asking-done a none = picked_all 32 wanted f a.picked none

-- what the truck at place p hears, of which w are the senders
pub heard-at : (s : List ℕ) (at n senders : ℕ) (by : List ℕ) (p : ℕ) {w : ℕ} → w ≡ heard_set senders (row_from s at n p) p → heard_from s at n senders by p ≡ values_of by w 16
heard-at s at n senders by p e = sym (ap (λ (x : ℕ). values_of by x 16) e)

-- those that heard several values are the rest of those that heard some
pub several-rest : (wanted : ℕ) (h : ℕ → Heard) {some one : ℕ} → Members some 32 (λ p. bit wanted p && some_value (h p)) → Members one 32 (λ p. bit wanted p && is_one (h p))
    → Members (bit_xor some one) 32 (λ p. bit wanted p && is_several (h p))
several-rest wanted h {some} {one} a b =
    members_ext
    (members-rest some 32 (λ p. is_several (h p)) a.below
    (members_ext b (λ p. bit some p && not (is_several (h p))) (λ p l. out (bit wanted p) (h p) ∙ sym (ap (λ (x : Bool). x && not (is_several (h p))) (a.each p l)))))
    (λ p. bit wanted p && is_several (h p)) (λ p l. ap (λ (x : Bool). x && is_several (h p)) (a.each p l) ∙ both (bit wanted p) (h p))
  where
    out : (x : Bool) (v : Heard) → (x && is_one v) ≡ ((x && some_value v) && not (is_several v))
    out true Nothing = refl
    out true One = refl
    out true Several = refl
    out false v = refl

    both : (x : Bool) (v : Heard) → ((x && some_value v) && is_several v) ≡ (x && is_several v)
    both true Nothing = refl
    both true One = refl
    both true Several = refl
    both false v = refl

-- those that heard some are those that heard one value and those that heard several
pub some-parts : (wanted : ℕ) (h : ℕ → Heard) {some one : ℕ} → Members some 32 (λ p. bit wanted p && some_value (h p)) → Members one 32 (λ p. bit wanted p && is_one (h p))
    → bit_or one (bit_xor some one) ≡ some
some-parts wanted h {some} {one} a b =
    same_bits (bit_or one (bit_xor some one)) some 32 (or_lt 32 one (bit_xor some one) b.below (xor_lt 32 some one a.below b.below)) a.below
    (λ j l.
    bit-or one (bit_xor some one) j
    ∙ ap (λ (x : Bool). bit one j || x) (bit-xor some one j)
    ∙ ap₂ (λ (x y : Bool). y || one_of x y) (a.each j l) (b.each j l)
    ∙ go (bit wanted j) (h j)
    ∙ sym (a.each j l))
  where
    go : (x : Bool) (v : Heard) → ((x && is_one v) || one_of (x && some_value v) (x && is_one v)) ≡ (x && some_value v)
    go true Nothing = refl
    go true One = refl
    go true Several = refl
    go false v = refl

-- ---- those wanted take the least value that they hear: `some` holds those asked already that heard one, and `taking` those of them of each crusher
pub record Takes (wanted : ℕ) (h : ℕ → Values) (left some : ℕ) (taking : List ℕ) : Type 0 where
  pub hearers : Asking wanted (λ p. some_value (h p).heard) left some
  pub takers : Sorting 32 wanted (λ p. (h p).least) taking left

module _ (wanted : ℕ) (h : ℕ → Values) where
  pub takes-starts : Takes wanted h wanted 0 (replicate 16 0)
  takes-starts = record { hearers = asking-starts wanted (λ p. some_value (h p).heard); takers = sorting-starts 32 wanted (λ p. (h p).least) }

  pub takes-done : {left some : ℕ} {taking : List ℕ} → Takes wanted h left some taking → left ≡ 0
      → Members some 32 (λ p. bit wanted p && some_value (h p).heard) × Sorted taking 32 wanted (λ p. (h p).least)
  takes-done t none = (asking-done wanted (λ p. some_value (h p).heard) t.hearers none, sorting-done 32 wanted (λ p. (h p).least) t.takers none)

-- the truck at place p is next, w are the senders that it hears, and c is the least value of theirs
module _ (by : List ℕ) (wanted : ℕ) (h : ℕ → Values) {left p only left' : ℕ} (next : Next left p only left') (c w : ℕ) (is : h p ≡ values_of by w 16) (least : c ≡ first (was_heard by w) 16)
    {some some' : ℕ} {taking taking' : List ℕ} (t : Takes wanted h left some taking) where
  -- it hears something, and one value alone where nobody else is heard than those that sent it
  pub takes_more : c < 16 → some' ≡ bit_or some only → taking' ≡ set taking c (bit_or (get_or taking c 0) only)
      → ((h p).heard ≡ cond (eqb (without w (get_or by c 0)) 0) One Several) × Takes wanted h left' some' taking'
  takes_more small joined taken =
      let lone = eqb (without w (get_or by c 0)) 0 in
      let v = least-heard by wanted h next.taken c w is least t.takers next.own small taken lone refl in (
        v.0,
        record {
          hearers = asking_more wanted (λ q. some_value (h q).heard) next true (sym (ap some_value v.0 ∙ any lone)) joined t.hearers;
          takers = v.1;
        },
      )
    where
      any : (b : Bool) → some_value (cond b One Several) ≡ true
      any true = refl
      any false = refl

  -- it hears nothing
  pub takes_none : 16 ≤ c → some' ≡ some → taking' ≡ taking → ((h p).heard ≡ Nothing) × Takes wanted h left' some' taking'
  takes_none large same kept =
      let v = none-heard by wanted h next.taken c w is least t.takers large kept in (
        v.0,
        record {
          hearers = asking_more wanted (λ q. some_value (h q).heard) next false (sym (ap some_value v.0)) same t.hearers;
          takers = v.1;
        },
      )

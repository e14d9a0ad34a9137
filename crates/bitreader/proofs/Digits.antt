-- Binary digits, and the two numbers that a run of bits makes: `num_at` with the first bit worth most, `row_at` with the first bit worth 1.
use mathlib.Core.Path.{◌≡◌, refl, ap, ap₂, sym, ◌∙◌}
use Prim.Native.Nat.{ℕ, zero, suc, ◌+◌, ◌*◌, ◌-◌, ◌/◌, ◌%◌, ◌^◌, ◌≤◌, ◌<◌}
use native.Mathlib.Nat.{mod-lt, mod-eq_of_lt, mul-le-mul_right, pow-suc, div-div-eq-div-mul, add-zero, mul_comm, add_comm}
use native.Mathlib.Decide.{dec_lt}
use native.Mathlib.Omega.{arith}
use lib.Dec.{lit<}
use lib.Pow.{mod-pow-add, mod-mod-pow, field, high, low, pow-add, shl_exact, shl-shr, shr-shr}
use Rattle.std.specs.Int.{reverse_bits_onto}
use Rattle.basics.specs.Bits.{digit}
use mathlib.Core.List.{List}
use lib.ListN.{get_or}
use Rattle.bitreader.specs.Bits.{bit_at, num_at, row_at, mirrored}

pub digit_lt : (v j : ℕ) → digit v j < 2
digit_lt v j = mod-lt (v / 2 ^ j) (lit< tt)

-- the lowest digit, and the digits above it
pub digit-zero : (x : ℕ) {b : ℕ} → b < 2 → digit (x * 2 + b) 0 ≡ b
digit-zero x h = omega arith

pub digit-suc : (x : ℕ) {b : ℕ} (j : ℕ) → b < 2 → digit (x * 2 + b) (suc j) ≡ digit x j
digit-suc x {b} j h =
    ap (λ (a : ℕ). (x * 2 + b) / a % 2) (pow-suc 2 j ∙ mul_comm (2 ^ j) 2)
    ∙ ap (λ (a : ℕ). a % 2) (sym (div-div-eq-div-mul (x * 2 + b) 2 (2 ^ j)))
    ∙ ap (λ (a : ℕ). a / 2 ^ j % 2) (let e : (x * 2 + b) / 2 ≡ x = omega arith in e)

-- the digits below the k-th do not see what stands above
pub digit-mod : (v k j : ℕ) → j < k → digit (v % 2 ^ k) j ≡ digit v j
digit-mod v k j h =
    let d : ℕ = k - j - 1 in
    let e : k ≡ d + 1 + j = omega arith in
    ap (λ (a : ℕ). v % 2 ^ a / 2 ^ j % 2) e
    ∙ ap (λ (a : ℕ). a % 2) (field v (d + 1) j)
    ∙ mod-mod-pow (v / 2 ^ j) d 1

-- numbers below 2 to the k are their digits
low_same : (v w k : ℕ) → ((j : ℕ) → j < k → digit v j ≡ digit w j) → v % 2 ^ k ≡ w % 2 ^ k
low_same v w zero h = omega arith
low_same v w (suc k) h = step v ∙ ap₂ (λ (a b : ℕ). a * 2 ^ k + b) (h k (omega arith)) (low_same v w k (λ j l. h j (omega arith))) ∙ sym (step w)
  where
    step : (x : ℕ) → x % 2 ^ suc k ≡ digit x k * 2 ^ k + x % 2 ^ k
    step x = ap (λ (a : ℕ). x % 2 ^ a) (let e : suc k ≡ 1 + k = omega arith in e) ∙ mod-pow-add x 1 k

pub same_digits : (v w k : ℕ) → v < 2 ^ k → w < 2 ^ k → ((j : ℕ) → j < k → digit v j ≡ digit w j) → v ≡ w
same_digits v w k p q h = sym (mod-eq_of_lt p) ∙ low_same v w k h ∙ mod-eq_of_lt q

pub num_at_ext : (f g : ℕ → ℕ) (p q k : ℕ) → ((i : ℕ) → i < k → f (p + i) ≡ g (q + i)) → num_at f p k ≡ num_at g q k
unfolding num_at
num_at_ext f g p q zero h = refl
num_at_ext f g p q (suc k) h = ap₂ (λ (a b : ℕ). a * 2 + b) (num_at_ext f g p q k (λ i l. h i (omega arith))) (h k (omega arith))

pub row_at_ext : (f g : ℕ → ℕ) (p q k : ℕ) → ((i : ℕ) → i < k → f (p + i) ≡ g (q + i)) → row_at f p k ≡ row_at g q k
unfolding row_at
row_at_ext f g p q zero h = refl
row_at_ext f g p q (suc k) h = ap₂ (λ (a b : ℕ). a + b * 2 ^ k) (row_at_ext f g p q k (λ i l. h i (omega arith))) (h k (omega arith))

-- of a function that gives bits
module _ (f : ℕ → ℕ) (bits : (i : ℕ) → f i < 2) where
  pub num_at-lt : (p k : ℕ) → num_at f p k < 2 ^ k
  unfolding num_at
  num_at-lt p zero = lit< tt
  num_at-lt p (suc k) = omega (arith, num_at-lt p k, bits (p + k), pow-suc 2 k)

  pub row_at-lt : (p k : ℕ) → row_at f p k < 2 ^ k
  unfolding row_at
  row_at-lt p zero = lit< tt
  row_at-lt p (suc k) =
      let m : f (p + k) * 2 ^ k ≤ 1 * 2 ^ k = mul-le-mul_right (2 ^ k) (let b : f (p + k) ≤ 1 = omega (arith, bits (p + k)) in b) in
      omega (arith, row_at-lt p k, pow-suc 2 k)

  -- the digits of the one
  pub num_at-digit : (p k j : ℕ) → j < k → digit (num_at f p k) j ≡ f (p + (k - suc j))
  unfolding num_at
  num_at-digit p zero j h = absurd (omega arith)
  num_at-digit p (suc k) zero h = digit-zero (num_at f p k) (bits (p + k)) ∙ ap f (omega arith)
  num_at-digit p (suc k) (suc j) h =
      digit-suc (num_at f p k) j (bits (p + k)) ∙ num_at-digit p k j (omega arith) ∙ ap f (omega arith)

  -- and of the other
  pub row_at-digit : (p k j : ℕ) → j < k → digit (row_at f p k) j ≡ f (p + j)
  unfolding row_at
  row_at-digit p zero j h = absurd (omega arith)
  row_at-digit p (suc k) j h = go (dec_lt j k) (row_at-digit p k j)
    where
      lo : ℕ
      lo = row_at f p k

      hi : ℕ
      hi = f (p + k)

      turned : lo + hi * 2 ^ k ≡ hi * 2 ^ k + lo
      turned = omega arith

      go : Dec (j < k) → (j < k → digit lo j ≡ f (p + j)) → digit (lo + hi * 2 ^ k) j ≡ f (p + j)
      go (yes l) ih =
          sym (digit-mod (lo + hi * 2 ^ k) k j l)
          ∙ ap (λ (a : ℕ). digit (a % 2 ^ k) j) turned
          ∙ ap (λ (a : ℕ). digit a j) (low hi k (row_at-lt p k))
          ∙ ih l
      go (no l) ih =
          let e : j ≡ k = omega arith in
          ap (λ (a : ℕ). digit (lo + hi * 2 ^ k) a) e
          ∙ ap (λ (a : ℕ). a / 2 ^ k % 2) turned
          ∙ ap (λ (a : ℕ). a % 2) (high hi k (row_at-lt p k))
          ∙ mod-eq_of_lt (bits (p + k))
          ∙ ap (λ (a : ℕ). f (p + a)) (sym e)

  -- a number is read back from its digits
  pub num_at_is : (p k v : ℕ) → v < 2 ^ k → ((i : ℕ) → i < k → f (p + i) ≡ digit v (k - suc i)) → num_at f p k ≡ v
  num_at_is p k v l h =
      same_digits (num_at f p k) v k (num_at-lt p k) l
      (λ j o. num_at-digit p k j o ∙ h (k - suc j) (omega arith) ∙ ap (digit v) (omega arith))

  pub row_at_is : (p k v : ℕ) → v < 2 ^ k → ((i : ℕ) → i < k → f (p + i) ≡ digit v i) → row_at f p k ≡ v
  row_at_is p k v l h = same_digits (row_at f p k) v k (row_at-lt p k) l (λ j o. row_at-digit p k j o ∙ h j o)

-- a single bit
pub num_at-one : (f : ℕ → ℕ) (p : ℕ) → num_at f p 1 ≡ f p
unfolding num_at
num_at-one f p = omega (arith, ap f (add-zero p))

-- a run of bits in two parts
pub num_at-add : (f : ℕ → ℕ) (p a b : ℕ) → num_at f p (a + b) ≡ num_at f p a * 2 ^ b + num_at f (p + a) b
unfolding num_at
num_at-add f p a zero = ap (num_at f p) (add-zero a) ∙ omega arith
num_at-add f p a (suc b) =
    ap (num_at f p) (let e : a + suc b ≡ suc (a + b) = omega arith in e)
    ∙ ap₂ (λ (x y : ℕ). x * 2 + f y) (num_at-add f p a b) (let e : p + (a + b) ≡ p + a + b = omega arith in e)
    ∙ omega (arith, ap (λ (x : ℕ). num_at f p a * x) (pow-suc 2 b))

pub row_at-add : (f : ℕ → ℕ) (p a b : ℕ) → row_at f p (a + b) ≡ row_at f p a + row_at f (p + a) b * 2 ^ a
unfolding row_at
row_at-add f p a zero = ap (row_at f p) (add-zero a) ∙ omega arith
row_at-add f p a (suc b) =
    ap (row_at f p) (let e : a + suc b ≡ suc (a + b) = omega arith in e)
    ∙ ap₂ (λ (x y : ℕ). x + y) (row_at-add f p a b) (ap₂ (λ (x y : ℕ). f x * y) (let e : p + (a + b) ≡ p + a + b = omega arith in e) (pow-add 2 a b))
    ∙ omega arith

-- the first k of more bits
pub row_at_low : (f : ℕ → ℕ) → ((i : ℕ) → f i < 2) → (p k m : ℕ) → k ≤ m → row_at f p m % 2 ^ k ≡ row_at f p k
row_at_low f bits p k m h =
    ap (λ (x : ℕ). row_at f p x % 2 ^ k) (let e : m ≡ k + (m - k) = omega arith in e)
    ∙ ap (λ (x : ℕ). x % 2 ^ k) (row_at-add f p k (m - k) ∙ add_comm (row_at f p k) (row_at f (p + k) (m - k) * 2 ^ k))
    ∙ low (row_at f (p + k) (m - k)) k (row_at-lt f bits p k)

-- the middle one of three parts
pub num_at-part : (f : ℕ → ℕ) → ((i : ℕ) → f i < 2) → (p a b c : ℕ) → num_at f p (a + b + c) / 2 ^ c % 2 ^ b ≡ num_at f (p + a) b
num_at-part f bits p a b c =
    ap (λ (x : ℕ). x / 2 ^ c % 2 ^ b) (num_at-add f p (a + b) c)
    ∙ ap (λ (x : ℕ). x % 2 ^ b) (high (num_at f p (a + b)) c (num_at-lt f bits (p + (a + b)) c))
    ∙ ap (λ (x : ℕ). x % 2 ^ b) (num_at-add f p a b)
    ∙ low (num_at f p a) b (num_at-lt f bits (p + a) b)

-- the first k of more bits
pub num_at-first : (f : ℕ → ℕ) → ((i : ℕ) → f i < 2) → (p k m : ℕ) → k ≤ m → num_at f p m / 2 ^ (m - k) ≡ num_at f p k
num_at-first f bits p k m h =
    ap (λ (x : ℕ). num_at f p x / 2 ^ (m - k)) (let e : m ≡ k + (m - k) = omega arith in e)
    ∙ ap (λ (x : ℕ). x / 2 ^ (m - k)) (num_at-add f p k (m - k))
    ∙ high (num_at f p k) (m - k) (num_at-lt f bits (p + k) (m - k))

-- ---- bytes
pub bit_at_lt : (s : List ℕ) (p : ℕ) → bit_at s p < 2
unfolding bit_at
bit_at_lt s p = mod-lt _ (lit< tt)

-- bit i of byte q
pub bit_at_byte : (s : List ℕ) (q i : ℕ) → i < 8 → bit_at s (8 * q + i) ≡ digit (get_or s q 0) (8 - suc i)
unfolding bit_at
bit_at_byte s q i l = ap₂ (λ (a b : ℕ). digit (get_or s a 0) b) (omega arith) (omega arith)

-- the bit at a place, with those before it shifted out of its byte
pub bit_in_byte : (s : List ℕ) (p : ℕ) → get_or s (p / 8) 0 < 256 → get_or s (p / 8) 0 * 2 ^ (p % 8) % 2 ^ 32 / 128 % 2 ≡ bit_at s p
unfolding bit_at
bit_in_byte s p h =
    let x : ℕ = get_or s (p / 8) 0 in
    let d : ℕ = p % 8 in
    ap (λ (v : ℕ). v / 128 % 2) (shl_exact {a = x} 8 d 32 h (omega arith))
    ∙ ap (λ (k : ℕ). x * 2 ^ d / 2 ^ k % 2) (let e : 7 ≡ d + (7 - d) = omega arith in e)
    ∙ ap (λ (v : ℕ). v % 2) (sym (shr-shr (x * 2 ^ d) d (7 - d)) ∙ ap (λ (v : ℕ). v / 2 ^ (7 - d)) (shl-shr x d))

pub byte_is : (s : List ℕ) (q : ℕ) → get_or s q 0 < 256 → num_at (bit_at s) (8 * q) 8 ≡ get_or s q 0
byte_is s q h = num_at_is (bit_at s) (bit_at_lt s) (8 * q) 8 (get_or s q 0) h (bit_at_byte s q)

-- a shift of 1
pub one_shifted : (k : ℕ) → k < 64 → 1 * 2 ^ k % 2 ^ 64 ≡ 2 ^ k
one_shifted k h = shl_exact {a = 1} 1 k 64 (lit< tt) (omega arith) ∙ omega arith

-- ---- digits in reverse
pub mirrored-lt : (k v : ℕ) → mirrored k v < 2 ^ k
unfolding mirrored
mirrored-lt k v = row_at-lt (λ i. digit v (k - suc i)) (λ i. digit_lt v (k - suc i)) 0 k

pub mirrored-digit : (k v j : ℕ) → j < k → digit (mirrored k v) j ≡ digit v (k - suc j)
unfolding mirrored
mirrored-digit k v j h = row_at-digit (λ i. digit v (k - suc i)) (λ i. digit_lt v (k - suc i)) 0 k j h ∙ ap (λ (i : ℕ). digit v (k - suc i)) (omega arith)

-- digits above the d-th, counted from there
digit_shr : (v d j : ℕ) → digit v (d + j) ≡ digit (v / 2 ^ d) j
digit_shr v d j = ap (λ (x : ℕ). x % 2) (sym (shr-shr v d j))

-- each half is reversed, and the halves change places
pub mirrored-add : (a b v : ℕ) → mirrored (a + b) v ≡ mirrored a (v / 2 ^ b) + mirrored b (v % 2 ^ b) * 2 ^ a
unfolding mirrored
mirrored-add a b v =
    let f : ℕ → ℕ = λ i. digit v (a + b - suc i) in
    row_at-add f 0 a b
    ∙ ap₂ (λ (x y : ℕ). x + y * 2 ^ a)
    (row_at_ext f (λ i. digit (v / 2 ^ b) (a - suc i)) 0 0 a
    (λ i l.
    ap (digit v) (let e : a + b - suc (0 + i) ≡ b + (a - suc (0 + i)) = omega arith in e) ∙ digit_shr v b (a - suc (0 + i))))
    (row_at_ext f (λ i. digit (v % 2 ^ b) (b - suc i)) (0 + a) 0 b
    (λ i l.
    ap (digit v) (let e : a + b - suc (0 + a + i) ≡ b - suc (0 + i) = omega arith in e)
    ∙ sym (digit-mod v b (b - suc (0 + i)) (omega arith))))

pub mirrored_one : (v : ℕ) → mirrored 1 v ≡ v % 2
unfolding mirrored row_at
mirrored_one v = omega arith

onto_step : (k v a : ℕ) → (a * 2 + v % 2) * 2 ^ k + mirrored k (v / 2) ≡ a * 2 ^ suc k + mirrored (suc k) v
onto_step k v a =
    let e : mirrored (suc k) v ≡ mirrored k (v / 2) + v % 2 * 2 ^ k =
    ap (λ (n : ℕ). mirrored n v) (let z : suc k ≡ k + 1 = omega arith in z) ∙ mirrored-add k 1 v ∙ ap (λ (x : ℕ). mirrored k (v / 2) + x * 2 ^ k) (mirrored_one (v % 2) ∙ omega arith) in
    rw (e, pow-suc 2 k) (grind arith)

-- the library's way, digit by digit behind those of a
pub reversed_onto : (k v a : ℕ) → reverse_bits_onto k v a ≡ a * 2 ^ k + mirrored k v
unfolding reverse_bits_onto
reversed_onto zero v a = omega (arith, mirrored-lt 0 v)
reversed_onto (suc k) v a = reversed_onto k (v / 2) (a * 2 + v % 2) ∙ onto_step k v a

-- the digits below the k-th in reverse, out of more digits in reverse
pub mirrored-below : (k d v : ℕ) → mirrored (d + k) v / 2 ^ d ≡ mirrored k v
unfolding mirrored
mirrored-below k d v =
    ap (λ (x : ℕ). x / 2 ^ d) (mirrored-add d k v ∙ add_comm (mirrored d (v / 2 ^ k)) (mirrored k (v % 2 ^ k) * 2 ^ d))
    ∙ high (mirrored k (v % 2 ^ k)) d (mirrored-lt d (v / 2 ^ k))
    ∙ row_at_ext (λ i. digit (v % 2 ^ k) (k - suc i)) (λ i. digit v (k - suc i)) 0 0 k (λ i l. digit-mod v k (k - suc (0 + i)) (omega arith))

-- between the two numbers of a run of bits
module _ (f : ℕ → ℕ) (bits : (i : ℕ) → f i < 2) (p k : ℕ) where
  pub mirrored_num : mirrored k (num_at f p k) ≡ row_at f p k
  unfolding mirrored
  mirrored_num =
      row_at_ext (λ i. digit (num_at f p k) (k - suc i)) f 0 p k
      (λ i l. num_at-digit f bits p k (k - suc (0 + i)) (omega arith) ∙ ap f (omega arith))

  pub num_mirrored : (v : ℕ) → ((i : ℕ) → i < k → f (p + i) ≡ digit v i) → num_at f p k ≡ mirrored k v
  num_mirrored v h =
      num_at_is f bits p k (mirrored k v) (mirrored-lt k v)
      (λ i l. h i l ∙ sym (mirrored-digit k v (k - suc i) (omega arith) ∙ ap (digit v) (omega arith)))

-- the reverse of the lowest w of 32 digits
pub mirrored_of_32 : (w x y : ℕ) → w ≤ 32 → y ≡ mirrored 32 x → y / 2 ^ (32 - w) ≡ mirrored w x
mirrored_of_32 w x y h e =
    ap (λ (a : ℕ). a / 2 ^ (32 - w)) (e ∙ ap (λ (a : ℕ). mirrored a x) (let o : 32 ≡ 32 - w + w = omega arith in o)) ∙ mirrored-below w (32 - w) x

-- One round on the radio, and what a mark is worth (document 01, 'What a mark is worth').
-- A protocol says who is running and who sends; all else here holds for any of them.
use Rattle.std.specs.Prelude.{ℕ, suc, ◌+◌, ◌*◌, ◌≤◌, ◌<◌, ◌≡◌, Bool, true, false, cond, not, ◌&&◌, ◌||◌, List, eqb, leb, ltb, length}
use Rattle.basics.specs.Lists.{who, all_below, some_below, first}

pub record Radio : Type 0 where
  -- n: trucks are numbered from 0
  pub trucks : ℕ
  -- running, after the round's stops
  pub running : ℕ → Bool
  -- sends a message in this round
  pub sends : ℕ → Bool
  -- has a mark in this round
  pub marked : ℕ → Bool
  -- the loss bit of row i for truck j
  pub lost : ℕ → ℕ → Bool

-- if b, then c
abbrev pub implies : Bool → Bool → Bool
implies b c = not b || c

-- M, the number of messages sent
unfoldable pub sent : Radio → ℕ
sent a = length (who a.sends a.trucks)

-- truck i hears truck j: j sends, and either i is j or the loss bit in i's row is clear
unfoldable pub hears : Radio → ℕ → ℕ → Bool
hears a i j = a.sends j && (eqb i j || not (a.lost i j))

-- the trucks that truck i hears
unfoldable pub heard_by : Radio → ℕ → List ℕ
heard_by a i = who (hears a i) a.trucks

-- how many messages truck i hears
unfoldable pub heard : Radio → ℕ → ℕ
heard a i = length (heard_by a i)

-- truck i misses what truck j sent
unfoldable pub misses : Radio → ℕ → ℕ → Bool
misses a i j = a.sends j && not (hears a i j)

-- truck i misses some message; it hears the round in full if it misses none
unfoldable pub misses_any : Radio → ℕ → Bool
misses_any a i = some_below (misses a i) a.trucks

-- every running truck has p: only running trucks are judged
unfoldable pub judged : Radio → (ℕ → Bool) → Bool
judged a p = all_below (λ i. implies (a.running i) (p i)) a.trucks

-- complete: a truck that misses any message has a mark
unfoldable pub complete : Radio → Bool
complete a = judged a (λ i. implies (misses_any a i) (a.marked i))

-- majority complete: if M is above 0, a truck hearing at most M/2 messages has a mark
unfoldable pub majority_complete : Radio → Bool
majority_complete a = judged a (λ i. implies (ltb 0 (sent a) && leb (2 * heard a i) (sent a)) (a.marked i))

-- zero complete: if M is above 0, a truck hearing none has a mark
unfoldable pub zero_complete : Radio → Bool
zero_complete a = judged a (λ i. implies (ltb 0 (sent a) && eqb (heard a i) 0) (a.marked i))

-- accurate: a truck with a mark missed some message (a false mark is one that breaks this)
unfoldable pub accurate : Radio → Bool
accurate a = judged a (λ i. implies (a.marked i) (misses_any a i))

-- one to b senders
unfoldable pub few_senders : ℕ → Radio → Bool
few_senders b a = ltb 0 (sent a) && leb (sent a) b

-- every running truck hears the round in full
unfoldable pub in_full : Radio → Bool
in_full a = judged a (λ i. not (misses_any a i))

-- some truck is running
unfoldable pub some_running : Radio → Bool
some_running a = some_below a.running a.trucks

-- a calm round: no mark is false; one to b senders are heard in full; and a round for proposals with a truck running has one to b senders
unfoldable pub calm_round : ℕ → Bool → Radio → Bool
calm_round b proposes a =
    accurate a && implies (few_senders b a) (in_full a) && implies (proposes && some_running a) (few_senders b a)

-- rounds S to S + d are among the rounds 1 to R and calm with b; `proposes` says of a round's number whether it is for proposals
unfoldable pub calm_for : ℕ → (ℕ → Bool) → (ℕ → Radio) → ℕ → ℕ → ℕ → Bool
calm_for d proposes radios R S b =
    leb 1 S && leb (S + d) R && all_below (λ e. calm_round b (proposes (S + e)) (radios (S + e))) (suc d)

-- the first of the rounds 1 to R that breaks a class, or 0
unfoldable pub first_break : (Radio → Bool) → (ℕ → Radio) → ℕ → ℕ
first_break class radios R =
    let k = first (λ e. not (class (radios (suc e)))) R in
    cond (ltb k R) (suc k) 0

-- round k is the first of the rounds 1 to R that breaks a class
pub record FirstToBreak (class : Radio → Bool) (radios : ℕ → Radio) (R k : ℕ) : Type 0 where
  pub some : 1 ≤ k
  pub most : k ≤ R
  pub breaks : class (radios k) ≡ false
  pub before : (j : ℕ) → 1 ≤ j → j < k → class (radios j) ≡ true

-- in how many of the rounds 1 to R that are of a kind truck i sends
unfoldable pub times_sent : (ℕ → Bool) → (ℕ → Radio) → ℕ → ℕ → ℕ
times_sent kind radios i R = length (who (λ e. kind (suc e) && (radios (suc e)).sends i) R)

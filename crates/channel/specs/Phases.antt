-- Model: the least start and the size of a channel, as they are reckoned from its phases. x is the number of tokens present at the start; the base has none.
use Rattle.std.specs.Prelude.{◌≡◌, cond, List, ◌∷◌, [], ◌++◌, ℕ, zero, suc, ◌+◌, ◌/◌, ◌<◌, max, eqb, length, set, take, map, refl}
use Rattle.std.specs.List.{All, fold, range_with_len}
use Rattle.std.proofs.Common.{get_or, sym, ap, ap₂, subst, ◌∙◌, add-one, arith}
use Rattle.std.proofs.lemmas.List.{take_more_set}
use Rattle.std.proofs.lemmas.List.FromFn.{get_or-map-range_with_len, length-map-range_with_len, map-range_with_len_more}
use Rattle.std.proofs.lemmas.List.Sums.{fold_push}
use Rattle.numbers.specs.Extreme.{most_of}
use Rattle.numbers.specs.Reckoned.{gcd_of}
use Rattle.units.specs.declared.Tick.{Tick}
use Rattle.units.specs.declared.Token.{Token}
use Rattle.units.specs.Ticks.{tick, plus_ticks, times_ticks, rest_ticks}
use Rattle.units.specs.Tokens.{token, greater_token, plus_tokens, times_tokens, rest_tokens}
use Rattle.units.specs.Firings.{firing}
use Rattle.period.specs.Period.{begins_at, ends_at}
use Rattle.rate.specs.Rate.{rate_of, tokens_of}
use Rattle.rate.specs.Pace.{lasting_of, moving_of}
use Rattle.rate.specs.declared.pace.Step.{Step}
use Rattle.channel.specs.declared.End.{End}
use Rattle.channel.specs.declared.pace.Pace.{Pace}
use Rattle.channel.specs.declared.pair.Phase.{Phase}
use Rattle.channel.specs.Flow.{rates_of, cycle_tokens, cycle_ticks}
use Rattle.channel.specs.Pairs.{beyond}

-- what phases 0 to n - 1 come to
abbrev pub listed : {A : Type 0} → ℕ → (ℕ → A) → List A
listed n at = map at (range_with_len 0 n)

-- the greatest value on a list; 0 where there is none
abbrev pub most_on : {A : Type 0} → (A → ℕ) → List A → ℕ
most_on f = fold (λ most a. max most (f a)) 0

-- the step of two ends, and their pace with k cycles of the producer
abbrev pub step_of : End → End → Step
step_of p c =
    record {
      tokens = token (gcd_of (cycle_tokens p).0 (cycle_tokens c).0);
      ticks = tick ((cycle_ticks p).0 / ((cycle_tokens p).0 / gcd_of (cycle_tokens p).0 (cycle_tokens c).0));
    }

abbrev pub pace_of : End → End → ℕ → Pace
pace_of p c k = record { step = step_of p c; tokens = times_tokens k (cycle_tokens p); ticks = times_ticks k (cycle_ticks p) }

-- the count made of a number has that number: so it is with ticks and with tokens
abbrev pub Faithful : {A : Type 0} → (A → ℕ) → (ℕ → A) → Type 0
Faithful number count = (n : ℕ) → number (count n) ≡ n

-- what a phase of the producer comes to with one of the consumer, and the most that one of the consumer comes to with any
abbrev pub pair_of : {A B : Type 0} → (A → ℕ) → (ℕ → A) → (B → ℕ) → A → Phase A B → Phase A B → A
pair_of number count rest unit g t = count (beyond (rest g.rest) (rest t.rest) (number g.more + number t.more) (number g.less + number t.less) (number unit))

abbrev pub most_of_pairs : {A B : Type 0} → (A → ℕ) → (ℕ → A) → (B → ℕ) → List (Phase A B) → A → Phase A B → A
most_of_pairs number count rest phases unit t = count (most_on (λ g. number (pair_of number count rest unit g t)) phases)

-- A phase by which a wait ends later or sooner, by the tokens that are moved; and one by which more or fewer places are claimed, by the ticks that pass.
abbrev pub Mark : Type 0
Mark = Phase Tick Token

abbrev pub Hold : Type 0
Hold = Phase Token Tick

-- The start. A phase of the producer that ends at a tick, before which there are too few tokens by so many; one of the consumer that begins at a tick,
-- until whose end so many tokens are taken.
abbrev pub give_of : Pace → Tick → Token → Mark
give_of w ends short = record { more = ends; less = lasting_of w.step short; rest = rest_tokens short w.step.tokens }

abbrev pub take_of : Pace → Tick → Token → Mark
take_of w begins taken =
    record {
      more = lasting_of w.step (plus_tokens taken w.tokens);
      less = plus_ticks begins w.ticks;
      rest = rest_tokens (plus_tokens taken w.tokens) w.step.tokens;
    }

-- the wait of the one for the other
abbrev pub wait_of : Tick → Mark → Mark → Tick
wait_of = pair_of (λ t. t.0) tick (λ k. k.0)

-- phase s of the producer, and phase f of the consumer
abbrev pub give_at : ℕ → Pace → End → Tick → ℕ → Mark
give_at x w p sp s = give_of w (ends_at sp p.period (firing s)) (plus_tokens (tokens_of (rates_of p) (firing s)) (token (x + 1)))

abbrev pub take_at : Pace → End → ℕ → Mark
take_at w c f = take_of w (begins_at (tick 0) c.period (firing f)) (tokens_of (rates_of c) (firing (f + 1)))

-- the longest wait for the phases of the producer
abbrev pub longest_of : List Mark → Tick → Mark → Tick
longest_of = most_of_pairs (λ t. t.0) tick (λ k. k.0)

-- a phase that takes nothing waits for nothing
abbrev pub asked_by : List Mark → Pace → Tick → ℕ → Token → Tick
asked_by gives w begins rate taken = tick (cond (eqb rate 0) 0 (longest_of gives w.step.ticks (take_of w begins taken)).0)

abbrev pub asked_of : List Mark → Pace → End → ℕ → Tick
asked_of gives w c f = asked_by gives w (begins_at (tick 0) c.period (firing f)) (rate_of (rates_of c) f) (tokens_of (rates_of c) (firing (f + 1)))

-- the longest wait of all
abbrev pub latest_of : List Mark → Pace → End → Tick
latest_of gives w c = tick (most_of (λ f. (asked_of gives w c f).0) c.phases)

unfoldable pub start_of : ℕ → End → Tick → End → Tick
start_of x p sp c = latest_of (listed p.phases (give_at x (pace_of p c (x + 1)) p sp)) (pace_of p c (x + 1)) c

-- The size. A phase of the producer that has begun by a tick, with which so many tokens are made; one of the consumer that ends at a tick, before which
-- so many tokens are taken.
abbrev pub claiming_of : Pace → Tick → Token → Hold
claiming_of w by made = record { more = made; less = moving_of w.step by; rest = rest_ticks by w.step.ticks }

abbrev pub back_of : Pace → Tick → Token → Hold
back_of w ends taken =
    record {
      more = moving_of w.step (plus_ticks ends w.ticks);
      less = plus_tokens taken w.tokens;
      rest = rest_ticks (plus_ticks ends w.ticks) w.step.ticks;
    }

-- the places that are claimed while the one has begun and the other has not ended
abbrev pub claim_of : Token → Hold → Hold → Token
claim_of = pair_of (λ k. k.0) token (λ t. t.0)

-- phase s of the producer, and phase f of the consumer
abbrev pub claiming_at : Pace → End → Tick → ℕ → Hold
claiming_at w p sp s = claiming_of w (plus_ticks (begins_at sp p.period (firing s)) (tick 1)) (tokens_of (rates_of p) (firing (s + 1)))

abbrev pub back_at : Pace → End → Tick → ℕ → Hold
back_at w c sc f = back_of w (ends_at sc c.period (firing f)) (tokens_of (rates_of c) (firing f))

-- the most places that are claimed while a phase of the consumer has not ended
abbrev pub held_of : List Hold → Token → Hold → Token
held_of = most_of_pairs (λ k. k.0) token (λ t. t.0)

-- the most of all
abbrev pub greatest_of : List Hold → Pace → End → Tick → Token
greatest_of claims w c sc = token (most_of (λ f. (held_of claims w.step.tokens (back_at w c sc f)).0) c.phases)

-- so many cycles of the producer are more ticks than its start
abbrev pub cycles_of : End → Tick → ℕ
cycles_of p sp = sp.0 / (cycle_ticks p).0 + 2

abbrev pub present : ℕ → Hold → Hold
present x h = record { more = plus_tokens h.more (token x); less = h.less; rest = h.rest }

unfoldable pub size_of : ℕ → End → Tick → End → Tick → Token
size_of x p sp c sc =
    greater_token (token x)
    (greatest_of (listed p.phases (λ s. present x (claiming_at (pace_of p c (cycles_of p sp)) p sp s))) (pace_of p c (cycles_of p sp)) c sc)

module _ {A : Type 0} (at : ℕ → A) where
  -- one phase more is put in its place
  pub listed_more : (n : ℕ) (l : List A) (v : A) → n < length l → v ≡ at n → take n l ≡ listed n at → take (n + 1) (set l n v) ≡ listed (n + 1) at
  listed_more n l v h e w =
      take_more_set l n v h ∙ ap₂ (λ (k : List A) (a : A). k ++ a ∷ []) w e ∙ sym (map-range_with_len_more at 0 n n (omega arith))

  -- as many are listed as there are phases, and each is what its phase comes to
  pub listed_long : (n : ℕ) → length (listed n at) ≡ n
  listed_long n = length-map-range_with_len at 0 n

  pub listed_at : (n k : ℕ) (d : A) → k < n → get_or (listed n at) k d ≡ at k
  listed_at n k d l = get_or-map-range_with_len at 0 n k k d l (omega arith)

  -- what holds of the phases holds of all that are listed
  pub listed_all : (P : A → Type 0) (n : ℕ) → ((s : ℕ) → s < n → P (at s)) → All P (listed n at)
  listed_all P n h k d b =
      let l : k < n = omega (arith, length-map-range_with_len at 0 n) in
      subst P (sym (get_or-map-range_with_len at 0 n k k d l (omega arith))) (h k l)

  -- and the greatest of them is the greatest of the phases
  pub most_listed : (f : A → ℕ) (n : ℕ) → most_on f (listed n at) ≡ most_of (λ s. f (at s)) n
  unfolding most_of
  most_listed f zero = refl
  most_listed f (suc n) =
      ap (most_on f) (rw add-one at (map-range_with_len_more at 0 n n (omega arith))) ∙ fold_push _ 0 (listed n at) (at n) ∙ ap (λ (m : ℕ). max m (f (at n))) (most_listed f n)

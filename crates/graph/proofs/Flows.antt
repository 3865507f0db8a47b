-- The flows of a mode's channels and the steps that count by them. Assumes nothing.
use mathlib.Core.Path.{◌≡◌, refl, sym, ap, ap₂, ◌∙◌}
use mathlib.Core.Bool.{Bool, true, false, cond, ◌&&◌, and-false}
use mathlib.Core.List.{List}
use Rattle.std.specs.Prelude.{Option, None, Some, option_map, option_and_then, IfSome}
use Rattle.std.specs.List.{list_all, range_with_len}
use Rattle.std.proofs.lemmas.List.Folds.{list_all_more}
use Rattle.std.proofs.lemmas.List.FromFn.{length-range_with_len, get_or-range_with_len}
use mathlib.Core.Logic.{⊎_elim}
use Prim.Native.Nat.{ℕ, zero, suc, ◌+◌, ◌*◌, ◌/◌, ◌%◌, ◌^◌, ◌≤◌, ◌<◌, zero-le}
use native.Mathlib.Nat.{le_refl, not-suc-le-zero, le_of_suc-le-suc, eq-or-lt_of_le, lt-suc_self, lt_of_not-le, le_trans, mul-le-mul}
use native.Mathlib.Numerals.{add-one}
use native.Mathlib.Omega.{arith}
use native.Mathlib.Decide.{dec_lt, ℕ_discrete}
use borrow.Author.Count.{below_more}
use borrow.Author.Tests.{ltb-true, ltb-false, leb-true, leb-false, lt-ltb, le-ltb, ne_eqb}
use lib.Dec.{leb, ltb}
use lib.ListN.{length, get_or, set, take, replicate, length-set, length-replicate}
use lib.Seq.{get_or-set_same, get_or-set_other, get_or-take, length-take-le, set_out, take_all}
use Rattle.numbers.specs.Bits.{hasb}
use Rattle.numbers.specs.Decides.{Decides, decides_eqb}
use Rattle.numbers.specs.All.{Below, all_decides}
use Rattle.numbers.specs.Extreme.{GreatestIn, greatest_above, greatest_below}
use Rattle.numbers.specs.Sum.{sum_most, sum_one}
use Rattle.numbers.specs.Tab.{tab, length_tab, tab_at, is_tab, filled_more, get_or_replicated}
use Rattle.units.specs.declared.Token.{Token}
use Rattle.units.specs.Bounds.{MOST_CYCLES, MOST_TOKENS}
use Rattle.units.specs.Products.{products, product_fits}
use Rattle.units.specs.Limits.{ACTORS, PHASES, MOST_RATE}
use Rattle.units.specs.Tokens.{times_tokens}
use Rattle.rate.specs.declared.Meeting.{Meeting}
use Rattle.rate.specs.Rate.{rate_of, rate_in}
use Rattle.rate.specs.Reckoned.{meet_of}
use Rattle.tables.specs.Shape.{Mode, channel_at}
use Rattle.tables.specs.Proper.{ProperMode, ProperRates}
use Rattle.graph.specs.declared.balance.Flow.{Flow}
use Rattle.graph.specs.Balance.{cycle_sum, made_on, taken_on}
use Rattle.graph.specs.Counts.{Small, Shallow, FlowIn, flow_of, stays, scaled_of, met_by, fed_of, fed_by, due_at, counts_from, evenb, balancesb}
use Rattle.graph.proofs.Stopped.{none_stays, cond_none}

-- one step more, as a loop counts
pub counts_next : (m : Mode) (es : List (Option ℕ)) (ds : List ℕ) (s n : ℕ) → counts_from m es ds s (n + 1)
    ≡ cond (due_at m ds n) (option_and_then (λ x. fed_by m x (get_or es (n % ACTORS) None) (n % ACTORS)) (counts_from m es ds s n)) (counts_from m es ds s n)
unfolding counts_from
counts_next m es ds s n = rw add-one

-- where a count was above the limit there are none from then on
pub counts_stop : (m : Mode) (es : List (Option ℕ)) (ds : List ℕ) (s n k : ℕ) → n ≤ k → counts_from m es ds s n ≡ None → counts_from m es ds s k ≡ None
unfolding counts_from
counts_stop m es ds s = none_stays (counts_from m es ds s) (λ n e. rw e (cond_none (due_at m ds n)))

-- behind the greatest depth no actor is due
module _ (m : Mode) (es : List (Option ℕ)) (ds : List ℕ) (s last : ℕ) (most : GreatestIn ds last) where
  none_due : (n : ℕ) → ACTORS * last ≤ n → due_at m ds n ≡ false
  none_due n h =
      rw (ne_eqb (get_or ds (n % ACTORS) 0) (n / ACTORS + 1) (λ q. omega (arith, h, q, greatest_above ds last most (n % ACTORS)))) (and-false (hasb m.active (n % ACTORS)))

  counts_stay : (n : ℕ) → ACTORS * last ≤ n → counts_from m es ds s (ACTORS * last) ≡ counts_from m es ds s n
  unfolding counts_from
  counts_stay zero h = let e : ACTORS * last ≡ 0 = omega arith in ap (counts_from m es ds s) e
  counts_stay (suc n) h =
      ⊎_elim (λ (e : ACTORS * last ≡ suc n). ap (counts_from m es ds s) e)
      (λ (l : ACTORS * last < suc n). rw (none_due n (le_of_suc-le-suc l)) (counts_stay n (le_of_suc-le-suc l))) (eq-or-lt_of_le h)

  pub counts_all : Shallow ds → counts_from m es ds s (ACTORS * last) ≡ counts_from m es ds s (ACTORS * ACTORS)
  counts_all shallow = counts_stay (ACTORS * ACTORS) (omega (arith, greatest_below ds last most ACTORS (omega arith) shallow.below))

-- a cycle has some tokens, and not too many
module _ (phases : ℕ) (rates : List ℕ) (p : ProperRates phases rates) (few : phases ≤ PHASES) where
  rate_listed : (k : ℕ) → k < phases → rate_of (take phases rates) k ≡ get_or rates k 0
  rate_listed k h = rate_in (take phases rates) k (omega (arith, length-take-le phases rates (omega (arith, p.long)))) ∙ get_or-take phases rates k 0 h

  pub cycle_most : (cycle_sum phases rates).0 ≤ MOST_TOKENS.0
  cycle_most =
      omega (arith, sum_most (rate_of (take phases rates)) MOST_RATE.0 phases (λ k h. omega (arith, rate_listed k h, p.small k)))

  pub cycle_some : 0 < (cycle_sum phases rates).0
  cycle_some =
      let (k, pos) = p.some in
      let h : k < phases = lt_of_not-le (λ (b : phases ≤ k). omega (arith, p.behind k b)) in
      omega (arith, rate_listed k h, sum_one (rate_of (take phases rates)) k phases h)

-- tokens of so many cycles, or a count so many times, fit into a word
pub made_fits : (n t : ℕ) → n ≤ MOST_CYCLES → t ≤ MOST_TOKENS.0 → n * t < 2 ^ 64
made_fits n t h g = product_fits (le_trans (mul-le-mul h g) products.made)

module _ (m : Mode) (proper : ProperMode m) (k : ℕ) (h : k < m.count) where
  pub flow_in : FlowIn (flow_of m k)
  flow_in =
      let c = proper.channel k h in
      record {
        from = c.from;
        made = cycle_most _ _ c.production (proper.actor _ c.from c.from_active).phases;
        some = cycle_some _ _ c.consumption (proper.actor _ c.to c.to_active).phases;
        taken = cycle_most _ _ c.consumption (proper.actor _ c.to c.to_active).phases;
      }

  pub flow_some : 0 < (made_on m k).0
  flow_some = let c = proper.channel k h in cycle_some _ _ c.production (proper.actor _ c.from c.from_active).phases

-- the counts balance channel k
abbrev pub Even : Mode → List ℕ → ℕ → Type 0
Even m x k = times_tokens (get_or x (channel_at m k).from 0) (made_on m k) ≡ times_tokens (get_or x (channel_at m k).to 0) (taken_on m k)

even_is : (m : Mode) (x : List ℕ) (k : ℕ) → Decides (Even m x k) (evenb m x k)
even_is m x k = decides_eqb _ _ ((λ e i. record { 0 = e i }), (λ e. ap (λ (t : Token). t.0) e))

pub balances_decides : (m : Mode) (x : List ℕ) (n : ℕ) → Decides (Below (Even m x) n) (balancesb m x n)
unfolding balancesb
balances_decides m x n = all_decides (Even m x) (balancesb m x) _ refl (λ n. refl) (even_is m x) n

-- the same test, as it goes over the places of the channels
pub balances_taken : (m : Mode) (x : List ℕ) (n i : ℕ) → i ≤ n → list_all (evenb m x) (take i (range_with_len 0 n)) ≡ balancesb m x i
unfolding balancesb
balances_taken m x n zero h = refl
balances_taken m x n (suc i) h =
    (rw add-one at (list_all_more (evenb m x) (range_with_len 0 n) i 0 (omega (arith, length-range_with_len 0 n))))
    ∙ ap₂ (λ (a b : Bool). a && b) (balances_taken m x n i (omega arith)) (ap (evenb m x) (omega (arith, get_or-range_with_len 0 n i 0 (omega arith))))

pub balances_ranged : (m : Mode) (x : List ℕ) (n : ℕ) → list_all (evenb m x) (range_with_len 0 n) ≡ balancesb m x n
balances_ranged m x n =
    ap (list_all (evenb m x)) (sym (take_all n (range_with_len 0 n) (omega (arith, length-range_with_len 0 n)))) ∙ balances_taken m x n n (le_refl n)

-- whether the counts of the actors below n, so many times, stay within the limit
data Stays (x : List ℕ) (t n : ℕ) : Bool → Type 0 where
  all : ((j : ℕ) → j < n → get_or x j 0 * t ≤ MOST_CYCLES) → Stays x t n true
  some : (j : ℕ) → j < n → MOST_CYCLES < get_or x j 0 * t → Stays x t n false

stays_told : (x : List ℕ) (t n : ℕ) → Stays x t n (stays x t n)
unfolding stays
stays_told x t zero = all (λ j h. absurd (not-suc-le-zero h))
stays_told x t (suc n) = go (stays x t n) (leb (get_or x n 0 * t) MOST_CYCLES) refl (stays_told x t n)
  where
    go : (a b : Bool) → leb (get_or x n 0 * t) MOST_CYCLES ≡ b → Stays x t n a → Stays x t (suc n) (a && b)
    go true true e (all f) = all (λ j h. ⊎_elim (λ (q : j ≡ n). rw q (leb-true _ _ e)) (λ (l : j < n). f j l) (eq-or-lt_of_le (le_of_suc-le-suc h)))
    go true false e (all f) = some n (lt-suc_self n) (leb-false _ _ e)
    go false b e (some j h l) = some j (omega arith) l

-- the counts as they are scaled from the front: those below i are, and stayed within the limit
pub record Scaling (x : List ℕ) (t : ℕ) (next : List ℕ) (i : ℕ) : Type 0 where
  pub long : length next ≡ ACTORS
  pub stayed : (k : ℕ) → k < i → get_or x k 0 * t ≤ MOST_CYCLES
  pub scaled : (k : ℕ) → k < i → get_or next k 0 ≡ get_or x k 0 * t

module _ (x : List ℕ) (t : ℕ) where
  pub scaling_more : (next : List ℕ) (i : ℕ) → i < ACTORS → get_or x i 0 * t ≤ MOST_CYCLES → Scaling x t next i → Scaling x t (set next i (get_or x i 0 * t)) (i + 1)
  scaling_more next i l h p =
      record {
        long = length-set next i (get_or x i 0 * t) ∙ p.long;
        stayed = below_more _ _ p.stayed h;
        scaled = filled_more (λ k. get_or x k 0 * t) next i (get_or x i 0 * t) 0 (omega (arith, p.long)) refl p.scaled;
      }

  pub scaled_all : (next : List ℕ) → Scaling x t next ACTORS → Some next ≡ scaled_of x t
  scaled_all next p = go (stays x t ACTORS) (stays_told x t ACTORS)
    where
      go : (b : Bool) → Stays x t ACTORS b → Some next ≡ cond b (Some (tab ACTORS (λ i. get_or x i 0 * t))) None
      go true (all f) = ap Some (is_tab ACTORS (λ i. get_or x i 0 * t) next 0 p.long p.scaled)
      go false (some j h l) = absurd (omega (arith, p.stayed j h))

  pub scaled_over : (i : ℕ) → i < ACTORS → MOST_CYCLES < get_or x i 0 * t → None ≡ scaled_of x t
  scaled_over i h l = go (stays x t ACTORS) (stays_told x t ACTORS)
    where
      go : (b : Bool) → Stays x t ACTORS b → None ≡ cond b (Some (tab ACTORS (λ i. get_or x i 0 * t))) None
      go true (all f) = absurd (omega (arith, f i h))
      go false (some j h l) = refl

-- what a meeting makes of the counts: the new ones, or that one of them is above the limit
pub data Met (x : List ℕ) (g : Meeting) (i : ℕ) : Option (List ℕ) → Type 0 where
  new : g.takers ≤ MOST_CYCLES → ((j : ℕ) → j < ACTORS → get_or x j 0 * g.times ≤ MOST_CYCLES)
      → Met x g i (Some (set (tab ACTORS (λ j. get_or x j 0 * g.times)) i g.takers))
  taker : MOST_CYCLES < g.takers → Met x g i None
  other : (j : ℕ) → j < ACTORS → MOST_CYCLES < get_or x j 0 * g.times → Met x g i None

pub met_told : (x : List ℕ) (g : Meeting) (i : ℕ) → Met x g i (met_by x g i)
met_told x g i = go (ltb MOST_CYCLES g.takers) refl (stays x g.times ACTORS) (stays_told x g.times ACTORS)
  where
    go : (a : Bool) → ltb MOST_CYCLES g.takers ≡ a → (b : Bool) → Stays x g.times ACTORS b
        → Met x g i (cond a None (option_map (λ y. set y i g.takers) (cond b (Some (tab ACTORS (λ j. get_or x j 0 * g.times))) None)))
    go true e b w = taker (ltb-true _ _ e)
    go false e true (all f) = new (ltb-false _ _ e) f
    go false e false (some j h l) = other j h l

pub met_over : (x : List ℕ) (g : Meeting) (i : ℕ) → MOST_CYCLES < g.takers → None ≡ met_by x g i
met_over x g i h = rw (lt-ltb _ _ h)

pub met_new : (x : List ℕ) (g : Meeting) (i : ℕ) (c : Option (List ℕ)) → g.takers ≤ MOST_CYCLES → c ≡ scaled_of x g.times → option_map (λ y. set y i g.takers) c ≡ met_by x g i
met_new x g i c h e = rw (le-ltb _ _ h, e)

-- counts stay within the limit
small_zero : Small (replicate ACTORS 0)
small_zero = record { long = length-replicate {A = ℕ} ACTORS 0; small = λ i. omega (arith, get_or_replicated {A = ℕ} ACTORS i 0) }

small_set : (x : List ℕ) (i n : ℕ) → n ≤ MOST_CYCLES → Small x → Small (set x i n)
small_set x i n h p = record { long = length-set x i n ∙ p.long; small = λ j. placed (dec_lt i (length x)) (ℕ_discrete j i) }
  where
    placed : {j : ℕ} → Dec (i < length x) → Dec (j ≡ i) → get_or (set x i n) j 0 ≤ MOST_CYCLES
    placed {j} (no f) d = rw (set_out x i n (omega arith)) (p.small j)
    placed {j} (yes l) (no f) = rw (get_or-set_other x i j n 0 f) (p.small j)
    placed {j} (yes l) (yes e) = rw (e, get_or-set_same x i n 0 l) h

fed_small : (x : List ℕ) (f : Flow) (i : ℕ) → Small x → IfSome (fed_of x f i) Small
unfolding fed_of
fed_small x f i p = met (met_told x (meet_of (get_or x f.from 0) f.made f.taken) i)
  where
    met : {g : Meeting} {d : Option (List ℕ)} → Met x g i d → IfSome d Small
    met {g} (new h s) =
        small_set (tab ACTORS (λ j. get_or x j 0 * g.times)) i g.takers h
        (record {
          long = length_tab ACTORS (λ j. get_or x j 0 * g.times);
          small = tab_at (λ n. n ≤ MOST_CYCLES) ACTORS (λ j. get_or x j 0 * g.times) 0 zero-le s;
        })
    met (taker h) = tt
    met (other j h l) = tt

fed_by_small : (m : Mode) (x : List ℕ) (entry : Option ℕ) (i : ℕ) → Small x → IfSome (fed_by m x entry i) Small
fed_by_small m x (Some k) i p = fed_small x (flow_of m k) i p
fed_by_small m x None i p = tt

pub counts_small : (m : Mode) (es : List (Option ℕ)) (ds : List ℕ) (s n : ℕ) → IfSome (counts_from m es ds s n) Small
unfolding counts_from
counts_small m es ds s zero = small_set (replicate ACTORS 0) s 1 (omega arith) small_zero
counts_small m es ds s (suc n) = go (due_at m ds n) (counts_from m es ds s n) (counts_small m es ds s n)
  where
    go : (b : Bool) (c : Option (List ℕ)) → IfSome c Small → IfSome (cond b (option_and_then (λ x. fed_by m x (get_or es (n % ACTORS) None) (n % ACTORS)) c) c) Small
    go true (Some x) p = fed_by_small m x (get_or es (n % ACTORS) None) (n % ACTORS) p
    go true None p = tt
    go false c p = p

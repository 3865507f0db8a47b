-- The numbers of a plan are small. Assumes nothing.
use mathlib.Core.Path.{◌≡◌, refl, sym, ap, subst, ◌∙◌}
use mathlib.Core.Bool.{Bool, true, false, cond}
use mathlib.Core.List.{List}
use Prim.Native.Nat.{ℕ, ◌+◌, ◌*◌, ◌/◌, ◌%◌, ◌≤◌, ◌<◌, zero-le}
use native.Mathlib.Nat.{le_trans, le_of_dvd, div-le_self, mul-le-mul_right}
use native.Mathlib.Omega.{arith}
use native.Mathlib.Decide.{dec_lt}
use borrow.Author.Tests.{ltb-true}
use lib.Dec.{ltb}
use lib.ListN.{length, get_or, take, length-replicate, get_or-eq_default}
use lib.Seq.{length-take-le, get_or-take}
use Rattle.numbers.specs.Bits.{hasb, has_decides}
use Rattle.numbers.specs.Decides.{decides_true}
use Rattle.numbers.specs.Sum.{sum_most}
use Rattle.numbers.specs.Tab.{length_tab, tab_at, get_or_replicated}
use Rattle.units.specs.Bounds.{MOST_FIRINGS, MOST_CARRIED, MOST_START, MOST_DELAY, MOST_SIZE}
use Rattle.units.specs.Limits.{MODES, ACTORS, CHANNELS, PHASES, MOST_RATE, ITERATION_LIMIT}
use Rattle.units.specs.declared.Tick.{Tick}
use Rattle.units.specs.declared.Firing.{Firing}
use Rattle.units.specs.declared.Token.{Token}
use Rattle.units.specs.Ticks.{tick}
use Rattle.units.specs.Tokens.{token}
use Rattle.units.specs.Firings.{firing}
use Rattle.period.specs.Period.{period_of}
use Rattle.rate.specs.Rate.{rate_of}
use Rattle.tables.specs.Shape.{Mode, Table, mode_at, channel_at, Active}
use Rattle.tables.specs.Proper.{ProperMode, ProperRates, ProperTable}
use Rattle.graph.specs.Balance.{firings_of}
use Rattle.graph.specs.Judged.{of_actors}
use Rattle.graph.specs.Laws.{iteration_pos, firings_divide}
use Rattle.channel.specs.Flow.{Paced}
use Rattle.channel.proofs.Laws.{size_within}
use Rattle.schedule.specs.Starts.{producer_of, consumer_of}
use Rattle.schedule.specs.Scheduled.{of_channels, tokens_on, Sizes}
use Rattle.schedule.proofs.Sound.{channel_paced}
use Rattle.schedule.proofs.Laws.{starts_within}
use Rattle.change.specs.declared.Timing.{Timing}
use Rattle.planning.specs.declared.ModePlan.{ModePlan}
use Rattle.planning.specs.Shape.{Plan}
use Rattle.planning.specs.Nothing.{no_timing, empty_part}
use Rattle.planning.specs.Plan.{part_at, change_at, Listed, ModePlanned, IsPart, Leads, IsChange, Planned}
use Rattle.planning.proofs.Told.{judgement_of, planned_numbers, planned_judged}
use Rattle.planning.proofs.Unique.{listed_or_not, leads_or_not}

-- the numbers of a mode, at every place
pub record SmallPart (p : ModePlan) : Type 0 where
  pub source : p.source < ACTORS
  pub sink : p.sink < ACTORS
  pub iteration : p.iteration.0 ≤ ITERATION_LIMIT.0
  pub startup : p.startup.0 ≤ MOST_START.0
  pub firings_long : length p.firings ≡ ACTORS
  pub firings : (i : ℕ) → (get_or p.firings i (firing 0)).0 ≤ MOST_FIRINGS.0
  pub periods_long : length p.periods ≡ ACTORS
  pub periods : (i : ℕ) → (get_or p.periods i (tick 0)).0 ≤ ITERATION_LIMIT.0
  pub starts_long : length p.starts ≡ ACTORS
  pub starts : (i : ℕ) → (get_or p.starts i (tick 0)).0 ≤ MOST_START.0
  pub sizes_long : length p.sizes ≡ CHANNELS
  pub sizes : (k : ℕ) → (get_or p.sizes k (token 0)).0 ≤ MOST_SIZE.0
  pub tokens_long : length p.tokens ≡ CHANNELS
  pub tokens : (k : ℕ) → (get_or p.tokens k (token 0)).0 ≤ MOST_CARRIED.0

-- and of a change
pub record SmallTiming (c : Timing) : Type 0 where
  pub overlap : c.overlap.0 ≤ MOST_START.0
  pub offset : c.offset.0 ≤ MOST_START.0
  pub worst : c.worst.0 ≤ MOST_DELAY.0

-- and of a table
pub record SmallPlan (w : Plan) : Type 0 where
  pub parts_long : length w.parts ≡ MODES
  pub part : (k : ℕ) → k < MODES → SmallPart (part_at w k)
  pub changes_long : length w.changes ≡ MODES * MODES
  pub change : (n : ℕ) → SmallTiming (get_or w.changes n no_timing)

pub empty_small : SmallPart empty_part
empty_small =
    record {
      source = omega arith;
      sink = omega arith;
      iteration = zero-le;
      startup = omega arith;
      firings_long = length-replicate ACTORS (firing 0);
      firings = λ i. rw (get_or_replicated ACTORS i (firing 0)) zero-le;
      periods_long = length-replicate ACTORS (tick 0);
      periods = λ i. rw (get_or_replicated ACTORS i (tick 0)) zero-le;
      starts_long = length-replicate ACTORS (tick 0);
      starts = λ i. rw (get_or_replicated ACTORS i (tick 0)) (omega arith);
      sizes_long = length-replicate CHANNELS (token 0);
      sizes = λ k. rw (get_or_replicated CHANNELS k (token 0)) zero-le;
      tokens_long = length-replicate CHANNELS (token 0);
      tokens = λ k. rw (get_or_replicated CHANNELS k (token 0)) zero-le;
    }

-- what is small for each active actor is small at every place
small_actors : {A : Type 0} (P : A → Type 0) (m : Mode) (f : ℕ → A) (z : A) → P z → ((i : ℕ) → Active m i → P (f i)) → (i : ℕ) → P (get_or (of_actors m f z) i z)
small_actors P m f z o h = tab_at P ACTORS _ z o (λ i l. go i l (hasb m.active i) refl)
  where
    go : (i : ℕ) → i < ACTORS → (b : Bool) → hasb m.active i ≡ b → P (cond b (f i) z)
    go i l true e = h i (l, decides_true (has_decides m.active i) e)
    go i l false e = o

small_channels : {A : Type 0} (P : A → Type 0) (m : Mode) (f : ℕ → A) (z : A) → P z → ((k : ℕ) → k < m.count → P (f k)) → (k : ℕ) → P (get_or (of_channels m f z) k z)
small_channels P m f z o h = tab_at P CHANNELS _ z o (λ k l. go k (ltb k m.count) refl)
  where
    go : (k : ℕ) (b : Bool) → ltb k m.count ≡ b → P (cond b (f k) z)
    go k true e = h k (ltb-true k m.count e)
    go k false e = o

-- no rate is above the greatest
rate_small : (phases : ℕ) (rates : List ℕ) → phases ≤ PHASES → ProperRates phases rates → (n : ℕ) → rate_of (take phases rates) n ≤ MOST_RATE.0
rate_small phases rates h p n = at (n % length (take phases rates))
  where
    at : (k : ℕ) → get_or (take phases rates) k 0 ≤ MOST_RATE.0
    at k = go (dec_lt k phases)
      where
        go : Dec (k < phases) → get_or (take phases rates) k 0 ≤ MOST_RATE.0
        go (yes l) = rw (get_or-take phases rates k 0 l) (p.small k)
        go (no l) =
            omega (arith, get_or-eq_default (take phases rates) 0 {n = k} (omega (arith, l, length-take-le phases rates (omega (arith, h, p.long)))))

sizes_small : (m : Mode) (ps : List Tick) (s : ℕ → Tick) (l : List Token) → ((k : ℕ) → k < m.count → Paced (producer_of m ps k) (consumer_of m ps k))
    → ((i : ℕ) → (s i).0 ≤ MOST_START.0) → Sizes m ps s l → (k : ℕ) → (get_or l k (token 0)).0 ≤ MOST_SIZE.0
sizes_small m ps s l paced small sizes k = go (dec_lt k m.count) (dec_lt k CHANNELS)
  where
    go : Dec (k < m.count) → Dec (k < CHANNELS) → (get_or l k (token 0)).0 ≤ MOST_SIZE.0
    go (yes h) d =
        size_within (producer_of m ps k) _ (consumer_of m ps k) _ (paced k h) (omega (arith, small (channel_at m k).from)) (omega (arith, small (channel_at m k).to)) _
        (sizes.size k h)
    go (no h) (yes d) = rw (sizes.no_size k d (omega (arith, h))) zero-le
    go (no h) (no d) = rw (get_or-eq_default l (token 0) {n = k} (omega (arith, d, sizes.long))) zero-le

-- a planned mode
pub mode_small : (m : Mode) (p : ModePlan) → ProperMode m → ModePlanned m p → SmallPart p
mode_small m p proper w =
    let (ds, ranked, judged) = planned_judged w proper in
    let x = w.counts in
    let s = w.begin in
    let n = w.balanced in
    let pos = iteration_pos m proper x n.smallest.balances.some n.iteration in
    let few : (i : ℕ) → Active m i → (firings_of m x i).0 ≤ MOST_FIRINGS.0
    = λ i a. le_trans (le_of_dvd pos (firings_divide m proper x n.smallest.balances p.iteration n.iteration i a)) n.within in
    let starts-small : (i : ℕ) → (s i).0 ≤ MOST_START.0 = λ i. omega (arith, starts_within m (judgement_of ds p) proper judged s w.least i) in
    let firings-small : (i : ℕ) → (get_or p.firings i (firing 0)).0 ≤ MOST_FIRINGS.0
    = λ i. rw w.firings (small_actors (λ (q : Firing). q.0 ≤ MOST_FIRINGS.0) m (firings_of m x) (firing 0) zero-le few i) in
    record {
      source = n.ends.0.0.0;
      sink = n.ends.1.0.0;
      iteration = n.within;
      startup = rw w.startup (starts-small p.sink);
      firings_long = ap length w.firings ∙ length_tab ACTORS _;
      firings = firings-small;
      periods_long = ap length w.periods ∙ length_tab ACTORS _;
      periods = λ i. rw w.periods
          (small_actors (λ (t : Tick). t.0 ≤ ITERATION_LIMIT.0) m (λ i. period_of p.iteration (firings_of m x i)) (tick 0) zero-le (λ i a. le_trans (div-le_self _ _) n.within) i);
      starts_long = ap length w.starts ∙ length_tab ACTORS _;
      starts = λ i. rw w.starts (small_actors (λ (t : Tick). t.0 ≤ MOST_START.0) m s (tick 0) (omega arith) (λ i a. starts-small i) i);
      sizes_long = w.sizes.long;
      sizes = sizes_small m p.periods s p.sizes (channel_paced m (judgement_of ds p) proper x (planned_numbers w ds ranked)) starts-small w.sizes;
      tokens_long = ap length w.tokens ∙ length_tab CHANNELS _;
      tokens = λ k. rw w.tokens
          (small_channels (λ (v : Token). v.0 ≤ MOST_CARRIED.0) m (tokens_on m p.firings) (token 0) zero-le
          (λ k h.
          let c = proper.channel k h in
          le_trans (sum_most _ MOST_RATE.0 _ (λ i l. rate_small _ _ (proper.actor _ c.from c.from_active).phases c.production i))
          (mul-le-mul_right MOST_RATE.0 (firings-small (channel_at m k).from))) k);
    }

module _ (t : Table) (proper : ProperTable t) where
  pub part_small : (k : ℕ) (p : ModePlan) → k < MODES → IsPart t k p → SmallPart p
  part_small k p l is = go (listed_or_not t k l)
    where
      go : Dec (Listed t k) → SmallPart p
      go (yes h) = mode_small (mode_at t k) p (proper.mode k l) (is.listed h)
      go (no n) = subst SmallPart (sym (is.unlisted n)) empty_small

  -- a plan
  pub planned_small : (w : Plan) → Planned t w → SmallPlan w
  planned_small w p = record { parts_long = p.parts_long; part = part; changes_long = p.changes_long; change = λ n. at n (dec_lt n (MODES * MODES)) }
    where
      part : (k : ℕ) → k < MODES → SmallPart (part_at w k)
      part k l = part_small k (part_at w k) l (p.part k l)

      none : SmallTiming no_timing
      none = record { overlap = omega arith; offset = omega arith; worst = omega arith }

      change : (k l : ℕ) → k < MODES → l < MODES → (c : Timing) → IsChange t w k l c → SmallTiming c
      change k l hk hl c is = go (leads_or_not t k l hk hl)
        where
          go : Dec (Leads t k l) → SmallTiming c
          go (no n) = subst SmallTiming (sym (is.leads_not n)) none
          go (yes h) =
              let d = is.leads h in
              record {
                overlap = omega (arith, d.offset.holds.0, d.offset.holds.1, (part k hk).startup);
                offset = omega (arith, d.offset.holds.1, (part k hk).startup);
                worst = rw d.worst (omega (arith, d.offset.holds.1, (part k hk).startup, (part l hl).starts (part_at w l).sink, (part k hk).iteration));
              }

      at : (n : ℕ) → Dec (n < MODES * MODES) → SmallTiming (get_or w.changes n no_timing)
      at n (no h) = subst SmallTiming (sym (get_or-eq_default w.changes no_timing {n = n} (omega (arith, h, p.changes_long)))) none
      at n (yes h) =
          let e : MODES * (n / MODES) + n % MODES ≡ n = omega arith in
          let k : n / MODES < MODES = omega arith in
          let l : n % MODES < MODES = omega arith in
          subst (λ (i : ℕ). SmallTiming (get_or w.changes i no_timing)) e (change (n / MODES) (n % MODES) k l (change_at w (n / MODES) (n % MODES)) (p.change (n / MODES) (n % MODES) k l))

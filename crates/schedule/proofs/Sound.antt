-- What a judgement that does not refuse gives: a mode whose channels are paced, with depths that grow along them. Assumes nothing.
use mathlib.Core.Path.{◌≡◌, refl, ap, ◌∙◌}
use mathlib.Core.Bool.{Bool, true, false, cond}
use mathlib.Core.List.{List}
use Prim.Native.Nat.{ℕ, ◌*◌, ◌≤◌, ◌<◌}
use native.Mathlib.Nat.{le_of_dvd, lt_of_not-le}
use native.Mathlib.Omega.{arith}
use lib.ListN.{length, get_or, take}
use lib.Seq.{length-take-le, get_or-take}
use Rattle.numbers.specs.Bits.{hasb, has_decides}
use Rattle.numbers.specs.Decides.{decides_true, decides_false}
use Rattle.numbers.specs.Sum.{sum, sum_one}
use Rattle.numbers.specs.Tab.{length_tab, get_or_tab, tab_at}
use Rattle.units.specs.Products.{MOST_COUNTED}
use Rattle.units.specs.Limits.{ACTORS, PHASES}
use Rattle.units.specs.declared.Tick.{Tick}
use Rattle.units.specs.declared.Firing.{Firing}
use Rattle.units.specs.Ticks.{tick, times_ticks}
use Rattle.units.specs.Firings.{firing}
use Rattle.period.specs.Period.{period_of}
use Rattle.rate.specs.Rate.{rate_of, rate_in}
use Rattle.tables.specs.Shape.{Mode, actor_at, channel_at, Active}
use Rattle.tables.specs.Proper.{ProperMode, ProperRates}
use Rattle.std.specs.Prelude.{Ok}
use Rattle.graph.specs.declared.Judgement.{Judgement}
use Rattle.graph.specs.Balance.{firings_of}
use Rattle.graph.specs.Judged.{of_actors, Numbers, Judged, sound}
use Rattle.graph.specs.Laws.{iteration_pos, period_whole, firings_divide}
use Rattle.graph.specs.Lengths.{Few}
use Rattle.graph.proofs.Sorted.{joins_deeper, ranked_below}
use Rattle.channel.specs.Flow.{Proper, Paced}
use Rattle.schedule.specs.Starts.{producer_of, consumer_of}
use Rattle.schedule.specs.Reached.{Ready}

pub numbers_of : {m : Mode} {j : Judgement} → Judged m (Ok j) → (x : ℕ → ℕ) × Numbers m x j
numbers_of (sound x n p f) = (x, p)

-- what stands at an actor's place
pub at_actor : {A : Type 0} (m : Mode) (f : ℕ → A) (z : A) (i : ℕ) → Active m i → get_or (of_actors m f z) i z ≡ f i
at_actor m f z i a = get_or_tab ACTORS _ i z a.0 ∙ go (hasb m.active i) refl
  where
    go : (b : Bool) → hasb m.active i ≡ b → cond b (f i) z ≡ f i
    go true e = refl
    go false e = absurd (decides_false (has_decides m.active i) e a.1)

-- rates of which one is above 0 move tokens
moving : (phases : ℕ) (rates : List ℕ) → phases ≤ PHASES → ProperRates phases rates → 0 < sum (rate_of (take phases rates)) phases
moving phases rates h p =
    let (k, some) = p.some in
    let below : k < phases = lt_of_not-le (λ (l : phases ≤ k). omega (arith, p.behind k l)) in
    let long : length (take phases rates) ≡ phases = length-take-le phases rates (omega (arith, p.long)) in
    let is : rate_of (take phases rates) k ≡ get_or rates k 0 = rate_in (take phases rates) k (omega (arith, long)) ∙ get_or-take phases rates k 0 below in
    omega (arith, some, is, sum_one (rate_of (take phases rates)) k phases below)

module _ (m : Mode) (j : Judgement) (proper : ProperMode m) (x : ℕ → ℕ) (n : Numbers m x j) where
  -- a cycle, so many times, is an iteration
  whole : (i : ℕ) → Active m i → j.iteration ≡ times_ticks (x i) (times_ticks (actor_at m i).phases (get_or j.periods i (tick 0)))
  whole i a =
      let is : get_or j.periods i (tick 0) ≡ period_of j.iteration (firings_of m x i)
      = ap (λ (l : List Tick). get_or l i (tick 0)) n.periods ∙ at_actor m _ (tick 0) i a in
      let e : j.iteration.0 ≡ x i * ((actor_at m i).phases * (get_or j.periods i (tick 0)).0)
      = omega (arith, period_whole m x n.iteration i a, ap (λ (t : Tick). (firings_of m x i).0 * t.0) is) in
      λ k. tick (e k)

  end : (i : ℕ) → Active m i → (rates : List ℕ) (t : Tick) → ProperRates (actor_at m i).phases rates
      → Proper (record { phases = (actor_at m i).phases; rates = rates; period = t })
  end i a rates t p =
      let actor = proper.actor i a.0 a.1 in
      record {
        some = actor.some_phase;
        phases = actor.phases;
        long = p.long;
        rates = λ k h. p.small k;
        moves = moving (actor_at m i).phases rates actor.phases p;
      }

  pub channel_paced : (k : ℕ) → k < m.count → Paced (producer_of m j.periods k) (consumer_of m j.periods k)
  channel_paced k h =
      let c = proper.channel k h in
      let from : Active m (channel_at m k).from = (c.from, c.from_active) in
      let to : Active m (channel_at m k).to = (c.to, c.to_active) in
      record {
        producer = end (channel_at m k).from from (channel_at m k).production _ c.production;
        consumer = end (channel_at m k).to to (channel_at m k).consumption _ c.consumption;
        makers = x (channel_at m k).from;
        takers = x (channel_at m k).to;
        iteration = j.iteration;
        even = n.smallest.balances.even k h;
        made_in = whole (channel_at m k).from from;
        taken_in = whole (channel_at m k).to to;
        some_ticks = iteration_pos m proper x n.smallest.balances.some n.iteration;
        within = n.within;
      }

  pub judged_ready : Ready m j.periods j.depths
  judged_ready =
      record {
        proper = proper;
        periods_long = ap length n.periods ∙ length_tab ACTORS _;
        depths_long = n.ranked.long;
        below = ranked_below m proper j.depths n.ranked;
        idle = n.ranked.no_depth;
        deeper = λ k h.
            let c = proper.channel k h in
            joins_deeper m proper _ _ _ _ (k, h, refl, refl) (n.ranked.depth _ (c.from, c.from_active)) (n.ranked.depth _ (c.to, c.to_active));
        paced = channel_paced;
      }

  pub judged_few : Few j.firings
  judged_few =
      record {
        long = ap length n.firings ∙ length_tab ACTORS _;
        few = λ i.
            rw n.firings
            (tab_at (λ (q : Firing). q.0 ≤ MOST_COUNTED.0) ACTORS _ (firing 0) (omega arith) (λ k l. go k l (hasb m.active k) refl) i);
      }
    where
      go : (k : ℕ) → k < ACTORS → (b : Bool) → hasb m.active k ≡ b → (cond b (firings_of m x k) (firing 0)).0 ≤ MOST_COUNTED.0
      go k l false e = omega arith
      go k l true e =
          let a : Active m k = (l, decides_true (has_decides m.active k) e) in
          omega (
            arith,
            n.within,
            le_of_dvd (iteration_pos m proper x n.smallest.balances.some n.iteration)
                (firings_divide m proper x n.smallest.balances j.iteration n.iteration k a),
          )

-- The starts that are found depth by depth are the starts of the mode. Assumes nothing.
use mathlib.Core.Path.{◌≡◌, refl, ap, ◌∙◌}
use mathlib.Core.Bool.{Bool, true, false, cond}
use mathlib.Core.List.{List}
use Prim.Native.Nat.{ℕ, ◌+◌, ◌*◌, ◌≤◌, ◌<◌}
use native.Mathlib.Nat.{mul-le-mul_right}
use native.Mathlib.Omega.{arith}
use native.Mathlib.Decide.{ℕ_discrete}
use lib.ListN.{get_or, set, replicate, length-set, length-replicate}
use lib.Seq.{get_or-set_same, get_or-set_other}
use Rattle.numbers.specs.Bits.{hasb, has_decides}
use Rattle.numbers.specs.Decides.{decides_false}
use Rattle.numbers.specs.Extreme.{GreatestIn, greatest_above}
use Rattle.numbers.specs.Tab.{is_tab, get_or_replicated}
use Rattle.units.specs.Bounds.{MOST_WAIT}
use Rattle.units.specs.Limits.{ACTORS, CHANNELS}
use Rattle.units.specs.declared.Tick.{Tick}
use Rattle.units.specs.Ticks.{tick, greater_tick}
use Rattle.tables.specs.declared.Channel.{Channel}
use Rattle.tables.specs.Shape.{Mode, channel_at}
use Rattle.graph.specs.Judged.{of_actors}
use Rattle.channel.specs.Flow.{Fed}
use Rattle.channel.specs.Laws.{cycle_p, cycle_c, period_p}
use Rattle.channel.proofs.Laws.{start_within, fed_later, fed_earlier}
use Rattle.schedule.specs.Starts.{producer_of, consumer_of, FedOn, AllFed, Starts}
use Rattle.schedule.specs.Reached.{start_at, to_depth, Asked, Ready, Reached, Fits}

module _ (m : Mode) (ps : List Tick) (ds : List ℕ) (ready : Ready m ps ds) where
  -- no channel leads to depth 0
  pub reached_first : Reached m ps ds 1 0 (replicate ACTORS (tick 0))
  reached_first =
      record {
        long = length-replicate ACTORS (tick 0);
        fed = λ n h l. absurd (omega (arith, l, ready.deeper n h));
        least = λ u t i. rw (get_or_replicated ACTORS i (tick 0)) (omega arith);
        within = λ i. rw (get_or_replicated ACTORS i (tick 0)) (omega arith);
      }

  few : (k : ℕ) → k < m.count → k < CHANNELS
  few k h = omega (arith, ready.proper.count)

  period : (k : ℕ) → k < m.count → 0 < (producer_of m ps k).period.0
  period k h = period_p (producer_of m ps k) (consumer_of m ps k) (ready.paced k h)

  -- what a channel asks is not far
  near : (k : ℕ) → k < m.count → (p s : Tick) → Asked m ps k p s → s.0 ≤ p.0 + MOST_WAIT.0
  near k h p s asked =
      let w = ready.paced k h in
      let a = producer_of m ps k in
      let b = consumer_of m ps k in
      omega (arith, start_within a b w p s.0 asked, cycle_p a b w, cycle_c a b w)

  module _ (d k : ℕ) (l : List Tick) (h : k < m.count) (reached : Reached m ps ds d k l) where
    -- a channel to an actor elsewhere
    pub reached_aside : (to_depth m ds k ≡ d → ⊥) → Reached m ps ds d (k + 1) l
    reached_aside other =
        record { long = reached.long; fed = λ n b e. reached.fed n b (done n b e (ℕ_discrete n k)); least = reached.least; within = reached.within }
      where
        done : (n : ℕ) → n < m.count → to_depth m ds n * CHANNELS + n < d * CHANNELS + (k + 1) → Dec (n ≡ k)
            → to_depth m ds n * CHANNELS + n < d * CHANNELS + k
        done n b e (no q) = omega (arith, e, q, few n b, few k h)
        done n b e (yes q) = omega (arith, e, q, other, ap (to_depth m ds) q, few k h)

    -- and one to an actor at this depth, which starts no earlier than the channel asks
    module _ (at : to_depth m ds k ≡ d) (r : Tick) (asked : Asked m ps k (start_at l (channel_at m k).from) r) where
      abbrev to : ℕ
      to = (channel_at m k).to

      abbrev later : Tick
      later = greater_tick (start_at l to) r

      same : start_at (set l to later) to ≡ later
      same = get_or-set_same l to later (tick 0) (omega (arith, reached.long, (ready.proper.channel k h).to))

      other : (i : ℕ) → (i ≡ to → ⊥) → start_at (set l to later) i ≡ start_at l i
      other i = get_or-set_other l to i later (tick 0)

      pub reached_asked : Reached m ps ds d (k + 1) (set l to later)
      reached_asked =
          record {
            long = length-set l to later ∙ reached.long;
            fed = λ n b e. fed n b e (ℕ_discrete (channel_at m n).to to) (ℕ_discrete n k);
            least = λ u t i. least u t i (ℕ_discrete i to);
            within = λ i. within i (ℕ_discrete i to);
          }
        where
          fed : (n : ℕ) → n < m.count → to_depth m ds n * CHANNELS + n < d * CHANNELS + (k + 1) → Dec ((channel_at m n).to ≡ to) → Dec (n ≡ k)
              → FedOn m ps (start_at (set l to later)) n
          fed n b e x y = rw (other (channel_at m n).from (λ q. omega (arith, e, at, ready.deeper n b, ap (λ (i : ℕ). get_or ds i 0) q, few k h))) (go x y)
            where
              before : (n ≡ k → ⊥) → FedOn m ps (start_at l) n
              before q = reached.fed n b (omega (arith, e, q, few n b, few k h))

              go : Dec ((channel_at m n).to ≡ to) → Dec (n ≡ k)
                  → Fed (producer_of m ps n) (start_at l (channel_at m n).from) (consumer_of m ps n) (start_at (set l to later) (channel_at m n).to)
              go (no x) y = rw (other (channel_at m n).to x) (before (λ q. x (ap (λ (n : ℕ). (channel_at m n).to) q)))
              go (yes x) (no y) =
                  rw (ap (start_at (set l to later)) x ∙ same)
                  (fed_later (producer_of m ps n) (consumer_of m ps n) (period n b) _ (start_at l (channel_at m n).to) later
                  (omega (arith, ap (λ (i : ℕ). (start_at l i).0) x)) (before y))
              go (yes x) (yes y) = rw (y, same) (fed_later (producer_of m ps k) (consumer_of m ps k) (period k h) _ r later (omega arith) asked.holds)

          least : (u : ℕ → Tick) → AllFed m ps u → (i : ℕ) → Dec (i ≡ to) → (start_at (set l to later) i).0 ≤ (u i).0
          least u t i (no q) = rw (other i q) (reached.least u t i)
          least u t i (yes q) =
              rw (q, same)
              (let asks : r.0 ≤ (u to).0
              = asked.least (u to).0
              (fed_earlier (producer_of m ps k) (consumer_of m ps k) (period k h) (start_at l (channel_at m k).from) (u (channel_at m k).from) (u to)
              (reached.least u t (channel_at m k).from) (t k h)) in
              omega (arith, asks, reached.least u t to))

          within : (i : ℕ) → Dec (i ≡ to) → (start_at (set l to later) i).0 ≤ get_or ds i 0 * MOST_WAIT.0
          within i (no q) = rw (other i q) (reached.within i)
          within i (yes q) =
              rw (q, same)
              (omega (
                arith,
                near k h _ r asked,
                reached.within to,
                reached.within (channel_at m k).from,
                mul-le-mul_right MOST_WAIT.0 (ready.deeper k h),
              ))

    -- the channel as it is read
    module _ (c : Channel) (is : c ≡ channel_at m k) where
      pub read_aside : (get_or ds c.to 0 ≡ d → ⊥) → Reached m ps ds d (k + 1) l
      read_aside n = reached_aside (λ e. n (ap (λ (x : Channel). get_or ds x.to 0) is ∙ e))

      pub read_asked : (r v : Tick) → get_or ds c.to 0 ≡ d → Asked m ps k (start_at l (channel_at m k).from) r → v ≡ greater_tick (start_at l c.to) r
          → Reached m ps ds d (k + 1) (set l c.to v)
      read_asked r v at asked e = rw (e, is) (reached_asked (rw is at at) r asked)

  -- all channels to a depth
  pub reached_depth : (d k : ℕ) (l : List Tick) → m.count ≤ k → Reached m ps ds d k l → Reached m ps ds (d + 1) 0 l
  reached_depth d k l h r =
      record { long = r.long; fed = λ n b e. r.fed n b (omega (arith, e, b, h, few n b)); least = r.least; within = r.within }

  -- and to all depths, where no actor is deeper
  pub reached_all : (d last : ℕ) (l : List Tick) → GreatestIn ds last → last < d → Reached m ps ds d 0 l → Reached m ps ds ACTORS 0 l
  reached_all d last l most h r =
      record { long = r.long; fed = λ n b e. r.fed n b (omega (arith, h, greatest_above ds last most (channel_at m n).to, few n b)); least = r.least; within = r.within }

  module _ (l : List Tick) (r : Reached m ps ds ACTORS 0 l) where
    pub reached_starts : Starts m ps (start_at l)
    reached_starts =
        record { timely = λ k h. r.fed k h (omega (arith, ready.below (channel_at m k).to, few k h)); least = r.least }

    pub reached_fits : Fits m ps l
    reached_fits =
        record {
          proper = ready.proper;
          periods_long = ready.periods_long;
          long = r.long;
          paced = ready.paced;
          fed = reached_starts.timely;
          within = λ i. omega (arith, r.within i, mul-le-mul_right MOST_WAIT.0 (ready.below i));
        }

    -- an actor that is not active has start 0
    pub reached_listed : l ≡ of_actors m (start_at l) (tick 0)
    reached_listed = is_tab ACTORS _ l (tick 0) r.long (λ i b. go i b (hasb m.active i) refl)
      where
        go : (i : ℕ) → i < ACTORS → (x : Bool) → hasb m.active i ≡ x → start_at l i ≡ cond x (start_at l i) (tick 0)
        go i b true e = refl
        go i b false e =
            let none : (start_at l i).0 ≡ 0 = omega (arith, r.within i, ready.idle i b (λ a. decides_false (has_decides m.active i) e a.1)) in
            λ n. tick (none n)

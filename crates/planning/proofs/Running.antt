-- A planned mode is ready for a change. Assumes nothing.
use mathlib.Core.Path.{◌≡◌, refl, sym, ap, subst, ◌∙◌}
use mathlib.Core.Bool.{Bool, true, false, cond, ◌&&◌}
use mathlib.Core.List.{List}
use mathlib.Core.Logic.{⊎_elim}
use Prim.Native.Nat.{ℕ, ◌≤◌, ◌<◌, zero-le, ◌-◌}
use native.Mathlib.Nat.{lt_of_not-le, lt_of_lt_of_le, mul_comm}
use native.Mathlib.Omega.{arith}
use native.Mathlib.Decide.{dec_le}
use lib.Dec.{eqb}
use lib.ListN.{get_or}
use Rattle.numbers.specs.Bits.{Has, bit, hasb, has_decides, has_or_not, has_below, some_has, bit_zero}
use Rattle.numbers.specs.Decides.{decides_true}
use Rattle.numbers.specs.Fraction.{AtMost, sum_alike, nothing}
use Rattle.numbers.specs.Tab.{length_tab, get_or_tab}
use Rattle.units.specs.Limits.{MODES, ACTORS, MOST_WCET, LOAD_LIMIT, limit_of}
use Rattle.units.specs.declared.Tick.{Tick}
use Rattle.units.specs.declared.Firing.{Firing}
use Rattle.units.specs.Ticks.{tick}
use Rattle.units.specs.Firings.{firing}
use Rattle.period.specs.Period.{period_of, share_of}
use Rattle.terms.specs.Place.{number_of}
use Rattle.tables.specs.Shape.{Mode, Table, mode_at, actor_at, Active}
use Rattle.tables.specs.Proper.{ProperMode, ProperTable}
use Rattle.graph.specs.Balance.{firings_of}
use Rattle.graph.specs.Load.{Overloaded, is_on, asked_by, asked_of, load_of}
use Rattle.graph.specs.Judged.{of_actors}
use Rattle.graph.specs.Laws.{iteration_pos, period_whole, period_fits}
use Rattle.schedule.specs.Starts.{Late}
use Rattle.schedule.proofs.Sound.{at_actor}
use Rattle.change.specs.Change.{period_in, Bearable}
use Rattle.change.specs.Running.{Fitting, mode_times, Ready}
use Rattle.planning.specs.declared.ModePlan.{ModePlan}
use Rattle.planning.specs.Nothing.{no_part}
use Rattle.planning.specs.Plan.{Listed, ModePlanned, times_of}
use Rattle.planning.specs.Changes.{no_running, AllReady, running_of}
use Rattle.planning.specs.Steps.{runnings_of, FoundParts}
use Rattle.planning.proofs.Bounds.{SmallPart, mode_small}

-- a mode with an actor is listed
pub listed_some : (t : Table) (k : ℕ) → ProperTable t → k < MODES → ((mode_at t k).active ≡ 0 → ⊥) → Listed t k
listed_some t k proper l n =
    let (i, h) = some_has (mode_at t k).active n in
    (l, (i, (has_below ACTORS (mode_at t k).active i (proper.mode k l).active h, h)))

pub listed_none : (t : Table) (k : ℕ) → Listed t k → (mode_at t k).active ≡ 0 → ⊥
listed_none t k (l, (i, a)) e = omega (arith, a.1, ap (λ (m : ℕ). bit m i) e, bit_zero i)

module _ (m : Mode) (proper : ProperMode m) where
  wcet_small : (i : ℕ) → i < ACTORS → (actor_at m i).wcet.0 ≤ MOST_WCET.0
  wcet_small i l =
      ⊎_elim (λ (h : Has m.active i). (proper.actor i l h).wcet)
      (λ (z : bit m.active i ≡ 0). rw (proper.no_actor_law i l (λ h. omega arith)) zero-le) (has_or_not m.active i)

  -- no actor starts after the end of the start-up, where none is late
  in_time : (s : ℕ → Tick) (sink : ℕ) (starts : List Tick) (startup : Tick) → ((i : ℕ) → Late m s sink i → ⊥) → starts ≡ of_actors m s (tick 0) → startup ≡ s sink
      → (i : ℕ) → i < ACTORS → (get_or starts i (tick 0)).0 ≤ startup.0
  in_time s sink starts startup never e f i l = rw (e, f, get_or_tab ACTORS (λ i. cond (hasb m.active i) (s i) (tick 0)) i (tick 0) l) (go (hasb m.active i) refl)
    where
      go : (b : Bool) → hasb m.active i ≡ b → (cond b (s i) (tick 0)).0 ≤ (s sink).0
      go false e = zero-le
      go true e = at (dec_le (s i).0 (s sink).0)
        where
          at : Dec ((s i).0 ≤ (s sink).0) → (s i).0 ≤ (s sink).0
          at (yes h) = h
          at (no h) = absurd (never i ((l, decides_true (has_decides m.active i) e), lt_of_not-le h))

  -- what a mode asks of a processor as it runs is its load, which is not above the limit
  module _ (x : ℕ → ℕ) (p : ModePlan) (period : (i : ℕ) → Active m i → get_or p.periods i (tick 0) ≡ period_of p.iteration (firings_of m x i)) where
    asks : (q : ℕ) → asked_of m (period_in (times_of m p)) (is_on m q) ≡ load_of m x p.iteration q
    asks q = sum_alike _ _ ACTORS (λ i l. go i l (hasb m.active i) refl (eqb (actor_at m i).processor q))
      where
        go : (i : ℕ) → i < ACTORS → (b : Bool) → hasb m.active i ≡ b → (c : Bool)
            → cond (b && c) (asked_by m (period_in (times_of m p)) i) nothing ≡ cond (b && c) (asked_by m (λ i. period_of p.iteration (firings_of m x i)) i) nothing
        go i l true e true = ap (share_of (actor_at m i).wcet) (period i (l, decides_true (has_decides m.active i) e))
        go i l true e false = refl
        go i l false e c = refl

    borne : ((q : ℕ) → Overloaded m x p.iteration q → ⊥) → Bearable limit_of (mode_times (running_of m p))
    borne bears q l h = subst (λ f. AtMost f LOAD_LIMIT) (sym (asks q)) (go (dec_le _ _))
      where
        go : Dec (AtMost (load_of m x p.iteration q) LOAD_LIMIT) → AtMost (load_of m x p.iteration q) LOAD_LIMIT
        go (yes a) = a
        go (no n) = let e : number_of (q - 1) ≡ q = omega arith in absurd (bears (q - 1) (record { processor = omega arith; above = rw e n }))

  pub mode_ready : (p : ModePlan) → ModePlanned m p → Ready (running_of m p)
  mode_ready p w =
      let x = w.counts in
      let n = w.balanced in
      let some = n.smallest.balances.some in
      let period : (i : ℕ) → Active m i → get_or p.periods i (tick 0) ≡ period_of p.iteration (firings_of m x i)
      = λ i a. ap (λ (l : List Tick). get_or l i (tick 0)) w.periods ∙ at_actor m _ (tick 0) i a in
      let firings : (i : ℕ) → Active m i → get_or p.firings i (firing 0) ≡ firings_of m x i
      = λ i a. ap (λ (l : List Firing). get_or l i (firing 0)) w.firings ∙ at_actor m _ (firing 0) i a in
      record {
        actor = λ i a. proper.actor i a.0 a.1;
        no_actor_law = proper.no_actor_law;
        period = λ i a. rw (period i a) (lt_of_lt_of_le (proper.actor i a.0 a.1).some_tick (period_fits m proper x some n.iteration i a));
        whole = λ i a. rw (period i a, firings i a) (mul_comm _ _ ∙ period_whole m x n.iteration i a);
        start = in_time w.begin p.sink _ _ w.prompt w.starts w.startup;
        sink_start_law = (mode_small m p proper w).starts p.sink;
        startup = (mode_small m p proper w).startup;
        some_tick = iteration_pos m proper x some n.iteration;
        iteration = n.within;
        load = borne x p period w.bearable;
        works = refl;
      }

  -- its start-up ends with the start of its sink
  pub startup_sink : (p : ModePlan) → ModePlanned m p → p.startup ≡ get_or p.starts p.sink (tick 0)
  startup_sink p w =
      let sink = w.balanced.ends.1.0 in
      w.startup ∙ sym (ap (λ (l : List Tick). get_or l p.sink (tick 0)) w.starts ∙ at_actor m w.begin (tick 0) p.sink (sink.0, sink.1))

  -- with small numbers it fits what is summed of it
  pub small_fitting : (p : ModePlan) → SmallPart p → Fitting (running_of m p)
  small_fitting p small = record { wcet = wcet_small; few = λ i l. small.firings i; nowhere = nowhere }
    where
      nowhere : (i : ℕ) → i < ACTORS → (actor_at m i).processor ≡ 0 → (actor_at m i).wcet.0 ≡ 0
      nowhere i l e =
          ⊎_elim (λ (h : Has m.active i). absurd (omega (arith, e, (proper.actor i l h).some_processor)))
          (λ (z : bit m.active i ≡ 0). rw (proper.no_actor_law i l (λ h. omega arith)) refl) (has_or_not m.active i)

module _ (t : Table) (proper : ProperTable t) where
  -- all modes of a plan that have an actor
  pub all_ready : (ps : List ModePlan) → FoundParts t ps MODES → AllReady (runnings_of t ps)
  all_ready ps made =
      record {
        long = length_tab MODES _;
        ready = λ k l. rw (get_or_tab MODES (λ k. running_of (mode_at t k) (get_or ps k no_part)) k no_running l)
            (λ n. mode_ready (mode_at t k) (proper.mode k l) (get_or ps k no_part) ((made.each k l).listed (listed_some t k proper l n)));
      }

-- The length that is found: the iteration of the counts, or that it is above the limit; and firings and periods by the rule. Assumes nothing.
use mathlib.Core.Path.{◌≡◌, refl, sym, ap, subst, ◌∙◌}
use mathlib.Core.Bool.{Bool, true, false, cond}
use mathlib.Core.List.{List}
use Rattle.std.specs.Prelude.{Option, None, Some, option_and_then}
use Rattle.std.proofs.lemmas.Option.{none-some}
use mathlib.Core.Logic.{◌⊎◌, inl, inr, ⊎_elim}
use Prim.Native.Nat.{ℕ, zero, suc, ◌+◌, ◌*◌, ◌≤◌, ◌<◌, ◌∣◌, zero-le}
use native.Mathlib.Nat.{le_refl, le_step, lt-suc_self, lt_of_lt_of_le, le_of_dvd, dvd_trans, dvd-mul_left, mul-pos, mul-le-mul, le-mul_of_pos_right, zero-mul, mul_comm, pos_of_ne-zero}
use native.Mathlib.Numerals.{add-one}
use native.Mathlib.Omega.{arith}
use native.Mathlib.Decide.{dec_lt}
use lib.ListN.{get_or, get_or-eq_default}
use Rattle.numbers.specs.Bits.{Has, hasb, has_or_not, has_decides}
use Rattle.numbers.specs.Decides.{decides_true, decides_false}
use Rattle.numbers.specs.Extreme.{most_of, most_greatest}
use Rattle.numbers.specs.Multiples.{LcmOfAll, lcm_none, lcm_more, lcm_past, lcm_pos}
use Rattle.numbers.specs.Quotient.{rounded_of, rounded_of_law}
use Rattle.numbers.specs.Reckoned.{lcm_of, lcm_of_law}
use Rattle.numbers.specs.Tab.{length_tab, get_or_tab, tab_at, tab_same}
use Rattle.units.specs.declared.Tick.{Tick}
use Rattle.units.specs.declared.Firing.{Firing}
use Rattle.units.specs.Ticks.{tick, greater_tick}
use Rattle.units.specs.Bounds.{MOST_FIRINGS}
use Rattle.units.specs.Products.{MOST_COUNTED, MOST_WORK}
use Rattle.units.specs.Limits.{ACTORS, ITERATION_LIMIT}
use Rattle.units.specs.Firings.{firing}
use Rattle.period.specs.Period.{work_of, work_most, period_of, CommonWithin, IterationIs, IterationWithin}
use Rattle.period.specs.Reckoned.{common_of, common_of_law, common_is, length_of as reckoned_of, iteration_of}
use Rattle.period.proofs.Lengths.{iteration_of_law}
use Rattle.tables.specs.declared.Actor.{Actor}
use Rattle.tables.specs.Shape.{Mode, no_actor, actor_at, Active}
use Rattle.tables.specs.Proper.{ProperMode}
use Rattle.graph.specs.Balance.{Balances, Common, Most, Iteration, Unbalanced, firings_of, work_in}
use Rattle.graph.specs.Laws.{iteration_one, iteration_scaled, iteration_pos, period_whole}
use Rattle.graph.specs.Judged.{of_actors}
use Rattle.graph.specs.Counts.{Counted}
use Rattle.graph.specs.Lengths.{Fitting, Few, Light, Fires, firings_in, works_in, most_from, common_from, length_of, periods_in}
use Rattle.graph.proofs.Stopped.{none_stays, cond_none}

-- one actor more, as a loop counts
pub most_next : (ws : List Tick) (n : ℕ) → most_from ws (n + 1) ≡ greater_tick (most_from ws n) (get_or ws n (tick 0))
unfolding most_from
most_next ws n = rw add-one

pub common_next : (qs : List Firing) (active n : ℕ) → common_from qs active (n + 1)
    ≡ cond (hasb active n) (option_and_then (λ l. common_of l (get_or qs n (firing 0)) MOST_FIRINGS) (common_from qs active n)) (common_from qs active n)
unfolding common_from
common_next qs active n = rw add-one

-- what is above the limit stays above it
pub common_stays : (qs : List Firing) (active n k : ℕ) → n ≤ k → common_from qs active n ≡ None → common_from qs active k ≡ None
unfolding common_from
common_stays qs active = none_stays (common_from qs active) (λ n e. rw e (cond_none (hasb active n)))

most_is : (ws : List Tick) (n : ℕ) → (most_from ws n).0 ≡ most_of (λ i. (get_or ws i (tick 0)).0) n
unfolding most_from most_of
most_is ws zero = refl
most_is ws (suc n) = rw (most_is ws n)

module _ (qs : List Firing) (active : ℕ) (fires : Fires qs active) where
  -- one actor more that is active: its firings are taken in
  pub common_taken : (n : ℕ) (l : Firing) (r : Option Firing) → n < ACTORS → hasb active n ≡ true → common_from qs active n ≡ Some l
      → CommonWithin l (get_or qs n (firing 0)) MOST_FIRINGS r → common_from qs active (n + 1) ≡ r
  common_taken n l r h has is p =
      common_next qs active n
      ∙ rw (has, is) (sym (common_is l (get_or qs n (firing 0)) MOST_FIRINGS r (fires.fires n h (decides_true (has_decides active n) has)) p))

  -- the least common multiple of the firings of the actors below n; or that each common multiple is above the limit
  abbrev Multiple : Option Firing → ℕ → Type 0
  Multiple (Some l) n = LcmOfAll (Has active) (λ i. (get_or qs i (firing 0)).0) n l.0 × (0 < l.0)
  Multiple None n = (k : ℕ) → 0 < k → ((i : ℕ) → (i < n) × Has active i → (get_or qs i (firing 0)).0 ∣ k) → MOST_FIRINGS.0 < k

  common_found : (n : ℕ) → n ≤ ACTORS → Multiple (common_from qs active n) n
  unfolding common_from
  common_found zero h = (lcm_none (Has active) (λ i. (get_or qs i (firing 0)).0), lt-suc_self 0)
  common_found (suc n) h = go (hasb active n) refl (common_from qs active n) (common_found n (omega arith))
    where
      q : Firing
      q = get_or qs n (firing 0)

      with_one : Has active n → (l : Firing) → Multiple (Some l) n → (r : Option Firing) → CommonWithin l q MOST_FIRINGS r → Multiple r (suc n)
      with_one a l (p, pos) (Some k) (c, small) = (lcm_more _ _ n a c p, lcm_pos pos (fires.fires n h a) c)
      with_one a l (p, pos) None c = λ k some f.
          let is = lcm_of_law l.0 q.0 (fires.fires n h a) in
          lt_of_lt_of_le (c (firing (lcm_of l.0 q.0)) is)
          (le_of_dvd some (is.least k (p.least k (λ i b. f i (le_step b.0, b.1))) (f n (le_refl (suc n), a))))

      go : (b : Bool) → hasb active n ≡ b → (r : Option Firing) → Multiple r n → Multiple (cond b (option_and_then (λ l. common_of l q MOST_FIRINGS) r) r) (suc n)
      go true e (Some l) p =
          let a = decides_true (has_decides active n) e in
          with_one a l p (common_of l q MOST_FIRINGS) (common_of_law l q MOST_FIRINGS (fires.fires n h a))
      go true e None p = λ k some f. p k some (λ i b. f i (le_step b.0, b.1))
      go false e (Some l) (p, pos) = (lcm_past _ _ n (decides_false (has_decides active n) e) p, pos)
      go false e None p = λ k some f. p k some (λ i b. f i (le_step b.0, b.1))

  pub common_pos : {l : Firing} → common_from qs active ACTORS ≡ Some l → 0 < l.0
  common_pos e = (subst (λ (r : Option Firing). Multiple r ACTORS) e (common_found ACTORS (le_refl ACTORS))).1

module _ (m : Mode) (proper : ProperMode m) where
  -- an actor is active, or there is none
  pub active_or_none : (i : ℕ) → Active m i ⊎ (actor_at m i ≡ no_actor)
  active_or_none i = go (dec_lt i ACTORS)
    where
      go : Dec (i < ACTORS) → Active m i ⊎ (actor_at m i ≡ no_actor)
      go (yes l) = ⊎_elim (λ a. inl (l, a)) (λ z. inr (proper.no_actor_law i l (λ a. omega arith))) (has_or_not m.active i)
      go (no g) = inr (get_or-eq_default m.actors no_actor {n = i} (omega (arith, proper.actors_long)))

  pub actors_fitting : Fitting m.actors
  actors_fitting =
      record {
        long = proper.actors_long;
        phases = λ i. ⊎_elim (λ a. (proper.actor i a.0 a.1).phases) (λ e. rw e zero-le) (active_or_none i);
        wcet = λ i. ⊎_elim (λ a. (proper.actor i a.0 a.1).wcet) (λ e. rw e zero-le) (active_or_none i);
        processor = λ i. ⊎_elim (λ a. (proper.actor i a.0 a.1).processor) (λ e. rw e zero-le) (active_or_none i);
      }

  module _ (x : List ℕ) (counted : Counted m x) where
    abbrev X : ℕ → ℕ
    X i = get_or x i 0

    abbrev qs : List Firing
    qs = firings_in m.actors x

    abbrev ws : List Tick
    ws = works_in m.actors qs

    -- the firings and the works are those of the rule
    pub firings_at_law : (i : ℕ) → i < ACTORS → get_or qs i (firing 0) ≡ firings_of m X i
    firings_at_law i l = get_or_tab ACTORS (firings_of m X) i (firing 0) l

    pub works_at : (i : ℕ) → i < ACTORS → get_or ws i (tick 0) ≡ work_in m X i
    works_at i l =
        get_or_tab ACTORS (λ i. work_of (actor_at m i).wcet (get_or qs i (firing 0))) i (tick 0) l
        ∙ ap (λ (q : Firing). work_of (actor_at m i).wcet q) (firings_at_law i l)

    pub firings_few : Few qs
    firings_few =
        record {
          long = length_tab ACTORS (firings_of m X);
          few = tab_at (λ q. q.0 ≤ MOST_COUNTED.0) ACTORS (firings_of m X) (firing 0) zero-le
              (λ i l. mul-le-mul (actors_fitting.phases i) (counted.small.small i));
        }

    pub works_light : Light ws
    works_light =
        record {
          long = length_tab ACTORS (λ i. work_of (actor_at m i).wcet (get_or qs i (firing 0)));
          light = tab_at (λ w. w.0 ≤ MOST_WORK.0) ACTORS (λ i. work_of (actor_at m i).wcet (get_or qs i (firing 0))) (tick 0) zero-le
              (λ i l. work_most (actors_fitting.wcet i) (firings_few.few i));
        }

    pub firings_fire : Fires qs m.active
    firings_fire =
        record {
          long = length_tab ACTORS (firings_of m X);
          fires = λ i l a. rw (firings_at_law i l) (mul-pos (proper.actor i l a).some_phase (counted.some i (l, a)));
        }

    -- a multiple that is found is that of all firings
    shared_is : (l : Firing) → Multiple qs m.active firings_fire (Some l) ACTORS → Common m X l
    shared_is l (p, pos) =
        record {
          each = λ i a. subst (λ (q : Firing). q.0 ∣ l.0) (firings_at_law i a.0) (p.each i a);
          least = λ n f. p.least n (λ i a. subst (λ (q : Firing). q.0 ∣ n) (sym (firings_at_law i a.0)) (f i a));
        }

    -- the greatest work
    most_of_law : (i : ℕ) → Active m i → Most m X (most_from ws ACTORS)
    most_of_law i a =
        let found = most_greatest (λ j. (get_or ws j (tick 0)).0) (Has m.active) ACTORS i a (works i a) only in
        record {
          holds = let (j, b, e) = found.holds in (j, b, ap (λ (w : Tick). w.0) (sym (works_at j b.0)) ∙ e ∙ sym (most_is ws ACTORS));
          greatest = λ v (j, b, e).
              omega (arith, most_is ws ACTORS, found.greatest v (j, b, ap (λ (w : Tick). w.0) (works_at j b.0) ∙ e));
        }
      where
        works : (i : ℕ) → Active m i → 0 < (get_or ws i (tick 0)).0
        works i a =
            rw (works_at i a.0)
            (omega (arith, mul-pos (mul-pos (proper.actor i a.0 a.1).some_phase (counted.some i a)) (proper.actor i a.0 a.1).some_tick))

        only : (j : ℕ) → j < ACTORS → 0 < (get_or ws j (tick 0)).0 → Has m.active j
        only j l pos =
            ⊎_elim (λ a. a.1)
            (λ e. absurd (omega (arith, rw (works_at j l) at pos, ap (λ (a : Actor). (firings_of m X j).0 * a.wcet.0) e)))
            (active_or_none j)

    -- the length that is found is that of the iteration
    pub length_is : (i : ℕ) × Active m i → (h : Tick) → length_of ws qs m.active ≡ Some h → Iteration m X h × (h.0 ≤ ITERATION_LIMIT.0)
    length_is (i, a) h e = go (common_from qs m.active ACTORS) (common_found qs m.active firings_fire ACTORS (le_refl ACTORS)) e
      where
        w : Tick
        w = most_from ws ACTORS

        go : (r : Option Firing) → Multiple qs m.active firings_fire r ACTORS → option_and_then (λ l. iteration_of l w ITERATION_LIMIT) r ≡ Some h → Iteration m X h × (h.0 ≤ ITERATION_LIMIT.0)
        go (Some l) p e =
            let (is, small) = subst (λ (r : Option Tick). IterationWithin l w ITERATION_LIMIT r) e (iteration_of_law l w ITERATION_LIMIT p.1) in
            ((l, w, shared_is l p, most_of_law i a, is), small)
        go None p e = absurd (none-some h e)

    -- where it is found to be above the limit, each multiple of the counts has an iteration above the limit
    above : length_of ws qs m.active ≡ None → (y : ℕ → ℕ) (n : ℕ) (h : Tick) → 1 ≤ n → ((i : ℕ) → Active m i → y i ≡ n * X i) → Iteration m y h → ITERATION_LIMIT.0 < h.0
    above e y n h some scaled iteration =
        go (common_from qs m.active ACTORS) (common_found qs m.active firings_fire ACTORS (le_refl ACTORS)) e
      where
        w : Tick
        w = most_from ws ACTORS

        counts : (i : ℕ) → Active m i → 1 ≤ y i
        counts i a = rw (scaled i a) (mul-pos some (counted.some i a))

        go : (r : Option Firing) → Multiple qs m.active firings_fire r ACTORS → option_and_then (λ l. iteration_of l w ITERATION_LIMIT) r ≡ None → ITERATION_LIMIT.0 < h.0
        go (Some l) p e =
            let (i, a, d) = iteration.3.holds in
            let g = reckoned_of l w in
            let is : IterationIs l w g = (rounded_of w.0 l.0, rounded_of_law w.0 l.0 p.1, refl) in
            let one : h ≡ tick (n * g.0) = iteration_one m y iteration (iteration_scaled m X y n some scaled (l, w, shared_is l p, most_of_law i a, is)) in
            let long : ITERATION_LIMIT.0 < g.0
            = subst (λ (r : Option Tick). IterationWithin l w ITERATION_LIMIT r) e (iteration_of_law l w ITERATION_LIMIT p.1) g is in
            omega (arith, ap (λ (t : Tick). t.0) one, le-mul_of_pos_right g.0 some, mul_comm g.0 n)
        go None p e =
            p h.0 (iteration_pos m proper y counts iteration)
            (λ i a. subst (λ (q : Firing). q.0 ∣ h.0) (sym (firings_at_law i a.0))
            (dvd_trans (firings_of m X i).0 (subst (λ (q : ℕ). (firings_of m X i).0 ∣ q) (omega (arith, ap (λ (k : ℕ). (actor_at m i).phases * k) (scaled i a))) (dvd-mul_left (firings_of m X i).0 n))
            (subst (λ (t : ℕ). (firings_of m y i).0 ∣ t) (period_whole m y iteration i a) (dvd-mul_left (firings_of m y i).0 (period_of h (firings_of m y i)).0))))

    -- so, where each balancing vector is a multiple of the counts, none has an iteration within the limit
    pub above_unbalanced : length_of ws qs m.active ≡ None
        → ((y : ℕ → ℕ) → Balances m y → (n : ℕ) × ((i : ℕ) → Active m i → y i ≡ n * X i)) → Unbalanced m
    above_unbalanced e each y h balances iteration =
        let (n, scaled) = each y balances in
        let (i, a, d) = iteration.3.holds in
        above e y n h (pos_of_ne-zero (λ (z : n ≡ 0). omega (arith, balances.some i a, scaled i a, ap (λ (k : ℕ). k * X i) z))) scaled iteration

    -- the lists that are found, by the rule
    pub firings_are : qs ≡ of_actors m (firings_of m X) (firing 0)
    firings_are = tab_same ACTORS (firings_of m X) (λ i. cond (hasb m.active i) (firings_of m X i) (firing 0)) (λ i l. go i l (hasb m.active i) refl)
      where
        go : (i : ℕ) → i < ACTORS → (b : Bool) → hasb m.active i ≡ b → firings_of m X i ≡ cond b (firings_of m X i) (firing 0)
        go i l true e = refl
        go i l false e = λ j. firing ((ap (λ (a : Actor). a.phases * X i) (proper.no_actor_law i l (decides_false (has_decides m.active i) e)) ∙ zero-mul (X i)) j)

    pub periods_are : (h : Tick) → periods_in h qs m.active ≡ of_actors m (λ i. period_of h (firings_of m X i)) (tick 0)
    periods_are h =
        tab_same ACTORS (λ i. cond (hasb m.active i) (period_of h (get_or qs i (firing 0))) (tick 0)) (λ i. cond (hasb m.active i) (period_of h (firings_of m X i)) (tick 0))
        (λ i l. ap (λ (q : Firing). cond (hasb m.active i) (period_of h q) (tick 0)) (firings_at_law i l))

-- The overlap and the offset that are found are those of the rules: for any limit, the load is borne from an offset on exactly when each new actor waits for each
-- old one with which its processor would be asked for more. Assumes nothing.
use mathlib.Core.Path.{◌≡◌, refl, sym, ap, ap₂, ◌∙◌}
use mathlib.Core.Bool.{Bool, true, false, cond, ◌&&◌}
use mathlib.Core.Logic.{◌⊎◌, inl, inr, ⊎_elim, ◌↔◌}
use Prim.Native.Nat.{ℕ, suc, ◌+◌, ◌-◌, ◌*◌, ◌≤◌, ◌<◌, max, zero-le}
use native.Mathlib.Nat.{mul-pos, mul-le-mul_left, mul-le-mul_right, lt_of_not-le, not-le_of_lt, le_refl, le_trans, lt_irrefl}
use native.Mathlib.Omega.{arith}
use native.Mathlib.Decide.{dec_le}
use borrow.Author.Tests.{eq-eqb, ne_eqb, eqb-true, eqb-false, leb-true, leb-false}
use lib.Bits.{bit_and}
use lib.Dec.{T, eqb, leb, ltb, ltb→lt, lt→ltb, leb→le, le→leb}
use lib.ListN.{get_or}
use Rattle.numbers.specs.Bits.{bit, Has, hasb, has_and, has_or_not}
use Rattle.numbers.specs.Decides.{decides_and}
use Rattle.numbers.specs.Extreme.{most_of, most_next, most_above, most_within, most_at}
use Rattle.numbers.specs.Fraction.{AtMost, plus, same_plus, same_at_most, at_mostb}
use Rattle.numbers.specs.Sum.{sum_same}
use Rattle.numbers.specs.Tab.{get_or_tab}
use Rattle.numbers.specs.declared.fraction.Fraction.{Fraction}
use Rattle.units.specs.Limits.{ACTORS, PROCESSORS, limit_of}
use Rattle.units.specs.Ticks.{tick, minus_ticks, greater_tick}
use Rattle.units.specs.declared.Tick.{Tick}
use Rattle.period.specs.Period.{share_of}
use Rattle.change.specs.declared.wait.Side.{Side}
use Rattle.tables.specs.declared.Actor.{Actor}
use Rattle.tables.specs.Shape.{Active}
use Rattle.graph.specs.Load.{is_on, asked_of}
use Rattle.change.specs.Change.{period_in, start_of, asked_on, load_at, Bearable, Bears, Overlap, Offset}
use Rattle.change.specs.Work.{tick_at, no_works, works_at}
use Rattle.change.specs.Running.{Running, mode_times, Ready}
use Rattle.change.specs.Waits.{Part, lead_of, overlap_of, processor_at, old_side, new_side, wait_of, wait_on, waits_on, waits_for, longest_wait, offset_from}
use Rattle.change.proofs.Loads.{work_in, work_within, FromFirst, work_first, ToLast, work_last, work_nowhere, on_is, Counting, asked_proper, asked_work}

-- what two works ask together of a processor, each as a part of its mode's iteration
abbrev pub asked : Running → Running → ℕ → ℕ → Fraction
asked old new v w = plus (share_of (tick v) old.iteration) (share_of (tick w) new.iteration)

-- what an old actor and those that start no earlier ask with a new one and those that start no later
abbrev pub together : Running → Running → ℕ → ℕ → Fraction
together old new i j = asked old new (work_in old (processor_at old i) (start_of (mode_times old) i) old.startup.0) (work_in new (processor_at new j) 0 (start_of (mode_times new) j))

-- the new actor waits for the old one, where they are on one processor and that is above the limit
abbrev pub Waits : (ℕ → Fraction) → Running → Running → ℕ → ℕ → ℕ → Type 0
Waits limit old new d i j =
    processor_at old i ≡ processor_at new j → (AtMost (together old new i j) (limit (processor_at old i)) → ⊥) → start_of (mode_times old) i ≤ d + start_of (mode_times new) j

-- one actor more: in both modes, or not
module _ (old new : Running) (i : ℕ) where
  pub lead_both : hasb (bit_and old.active new.active) i ≡ true → most_of (lead_of old new) (i + 1) ≡ max (most_of (lead_of old new) i) (start_of (mode_times old) i - start_of (mode_times new) i)
  lead_both e = most_next (lead_of old new) i ∙ rw e

  pub lead_other : hasb (bit_and old.active new.active) i ≡ false → most_of (lead_of old new) (i + 1) ≡ most_of (lead_of old new) i
  lead_other e = most_next (lead_of old new) i ∙ rw e (omega arith)

-- the greatest lead is the overlap
pub overlap_is : (old new : Running) → Overlap (mode_times old) (mode_times new) (overlap_of old new)
overlap_is old new =
    record {
      holds = some (dec_le 1 (most_of (lead_of old new) ACTORS));
      greatest = λ v. ⊎_elim (λ (z : v ≡ 0). omega arith)
          (λ (i, a, b, e). omega (arith, most_above (lead_of old new) ACTORS i a.0, led i ((has_and old.active new.active i).1 (a.1, b.1))));
    }
  where
    led : (i : ℕ) → Has (bit_and old.active new.active) i → lead_of old new i ≡ start_of (mode_times old) i - start_of (mode_times new) i
    led i h = rw (eq-eqb _ _ h)

    ahead : (i : ℕ) → 0 < lead_of old new i → Has (bit_and old.active new.active) i
    ahead i h = go (hasb (bit_and old.active new.active) i) refl h
      where
        go : (x : Bool) → hasb (bit_and old.active new.active) i ≡ x → 0 < cond x (start_of (mode_times old) i - start_of (mode_times new) i) 0 → Has (bit_and old.active new.active) i
        go true e h = eqb-true _ _ e
        go false e h = absurd (lt_irrefl 0 h)

    some : Dec (1 ≤ most_of (lead_of old new) ACTORS)
        → (most_of (lead_of old new) ACTORS ≡ 0) ⊎ ((i : ℕ) × Active (mode_times old).mode i × Active (mode_times new).mode i × (most_of (lead_of old new) ACTORS ≡ start_of (mode_times old) i - start_of (mode_times new) i))
    some (no n) = inl (omega arith)
    some (yes h) =
        let (i, l, e) = most_at (lead_of old new) ACTORS h in
        let both : Has (bit_and old.active new.active) i = ahead i (rw e h) in
        let w = (has_and old.active new.active i).0 both in
        inr (i, (l, w.0), (l, w.1), sym e ∙ led i both)

-- what a planned mode has of its actors
module _ (r : Running) (ready : Ready r) (i : ℕ) (l : i < ACTORS) where
  works_is : get_or r.works i no_works ≡ record { since = tick (work_in r (processor_at r i) (start_of (mode_times r) i) r.startup.0); until = tick (work_in r (processor_at r i) 0 (start_of (mode_times r) i)) }
  works_is =
      rw ready.works
      (get_or_tab ACTORS (works_at r.actors r.firings r.starts) i no_works l ∙ ap₂ (λ (s u : ℕ). record { since = tick s; until = tick u })
      (sum_same _ _ ACTORS (λ k h. since _ (on k) _ _ (le→leb _ _ (ready.start k h)))) (sum_same _ _ ACTORS (λ k h. until _ (on k) _ (leb 0 (start_of (mode_times r) k)) (le→leb 0 (start_of (mode_times r) k) zero-le))))
    where
      on : ℕ → Bool
      on k = eqb (processor_at r k) (processor_at r i)

      since : (w : Tick) (x y z : Bool) → T z → (cond (x && y) w (tick 0)).0 ≡ (cond (x && (y && z)) w (tick 0)).0
      since w x true true t = refl
      since w x true false t = elim t [ ]
      since w x false z t = refl

      until : (w : Tick) (x y z : Bool) → T z → (cond (x && y) w (tick 0)).0 ≡ (cond (x && (z && y)) w (tick 0)).0
      until w x y true t = refl
      until w x y false t = elim t [ ]

module _ (limit : ℕ → Fraction) where
  -- a mode's work on a processor is within the limit
  pub own_work : (r : Running) → Ready r → Bearable limit (mode_times r) → (p : ℕ) → 1 ≤ p → p ≤ PROCESSORS → (a b : ℕ) → AtMost (share_of (tick (work_in r p a b)) r.iteration) (limit p)
  own_work r ready own p l m a b =
      omega (
        arith,
        mul-le-mul_right (limit p).under (work_within r p a b 0 r.startup.0 (λ i l w. (w.0, (zero-le, ready.start i l)))),
        (same_at_most (asked_of (mode_times r).mode (period_in (mode_times r)) (is_on (mode_times r).mode p)) (share_of (tick (work_in r p 0 r.startup.0)) r.iteration) (limit p)
            (asked_proper r ready p 0 r.startup.0 (is_on (mode_times r).mode p) all) ready.some_tick (asked_work r ready p 0 r.startup.0 (is_on (mode_times r).mode p) all)).0 (own p l m),
      )
    where
      all : Counting r ready p 0 r.startup.0 (is_on (mode_times r).mode p)
      all i l = ((λ t. ((on_is r ready p i).0 t, (zero-le, ready.start i l))), (λ w. (on_is r ready p i).1 w.0))

  module _ (old new : Running) (ready-old : Ready old) (ready-new : Ready new) where
    -- the load at tick k by works
    load_work : (d k p : ℕ) → d ≤ k
        → AtMost (load_at (mode_times old) (mode_times new) d k p) (limit p) ↔ AtMost (asked old new (work_in old p (suc k) old.startup.0) (work_in new p 0 (k - d))) (limit p)
    load_work d k p h =
        same_at_most (load_at (mode_times old) (mode_times new) d k p) (asked old new (work_in old p (suc k) old.startup.0) (work_in new p 0 (k - d))) (limit p)
        (mul-pos (asked_proper old ready-old p (suc k) old.startup.0 counts_old is_old) (asked_proper new ready-new p 0 (k - d) counts_new is_new))
        (mul-pos ready-old.some_tick ready-new.some_tick)
        (same_plus (asked_on (mode_times old) p (λ i. ltb k (start_of (mode_times old) i))) (asked_on (mode_times new) p (λ i. leb (d + start_of (mode_times new) i) k))
        (share_of (tick (work_in old p (suc k) old.startup.0)) old.iteration) (share_of (tick (work_in new p 0 (k - d))) new.iteration)
        (asked_work old ready-old p (suc k) old.startup.0 counts_old is_old) (asked_work new ready-new p 0 (k - d) counts_new is_new))
      where
        counts_old : ℕ → Bool
        counts_old i = is_on (mode_times old).mode p i && ltb k (start_of (mode_times old) i)

        counts_new : ℕ → Bool
        counts_new i = is_on (mode_times new).mode p i && leb (d + start_of (mode_times new) i) k

        less : (s : ℕ) → d + s ≤ k → s ≤ k - d
        less s g = omega arith

        more : (s : ℕ) → s ≤ k - d → d + s ≤ k
        more s g = omega arith

        is_old : Counting old ready-old p (suc k) old.startup.0 counts_old
        is_old i l =
            decides_and (is_on (mode_times old).mode p i) (ltb k (start_of (mode_times old) i)) (on_is old ready-old p i)
            ((λ t. (ltb→lt _ _ t, ready-old.start i l)), (λ w. lt→ltb _ _ w.0))

        is_new : Counting new ready-new p 0 (k - d) counts_new
        is_new i l =
            decides_and (is_on (mode_times new).mode p i) (leb (d + start_of (mode_times new) i) k) (on_is new ready-new p i)
            ((λ t. (zero-le, less (start_of (mode_times new) i) (leb→le _ _ t))), (λ w. le→leb _ _ (more (start_of (mode_times new) i) w.1)))

    -- less work is within the limit too, and so is that of one mode
    less_asked : (f : Fraction) (v w x y : ℕ) → v ≤ x → w ≤ y → AtMost (asked old new x y) f → AtMost (asked old new v w) f
    less_asked f v w x y g h m =
        omega (
          arith,
          m,
          mul-le-mul_right (new.iteration.0 * f.under) g,
          mul-le-mul_right (old.iteration.0 * f.under) h,
        )

    one_asked : (f : Fraction) (w : ℕ) → AtMost (share_of (tick w) new.iteration) f → AtMost (asked old new 0 w) f
    one_asked f w m = omega (arith, mul-le-mul_left old.iteration.0 m)

    other_asked : (f : Fraction) (v : ℕ) → AtMost (share_of (tick v) old.iteration) f → AtMost (asked old new v 0) f
    other_asked f v m = omega (arith, mul-le-mul_left new.iteration.0 m)

    -- an offset from which the load is borne: each new actor waits
    bears_waits : (d : ℕ) → Bears limit (mode_times old) (mode_times new) d → (i j : ℕ) → i < ACTORS → j < ACTORS → Waits limit old new d i j
    bears_waits d bears i j li lj e above = go (dec_le (start_of (mode_times old) i) (d + start_of (mode_times new) j)) (has_or_not old.active i)
      where
        -- the load at the new actor's start
        borne : d + start_of (mode_times new) j < start_of (mode_times old) i → Has old.active i → AtMost (together old new i j) (limit (processor_at old i))
        borne h y =
            let a = ready-old.actor i (li, y) in
            let p = processor_at old i in
            let k = d + start_of (mode_times new) j in
            less_asked (limit p) _ _ (work_in old p (suc k) old.startup.0) (work_in new p 0 (k - d))
            (work_within old p (start_of (mode_times old) i) old.startup.0 (suc k) old.startup.0 (λ n l w. (w.0, (omega (arith, w.1.0), w.1.1))))
            (rw (← e) (work_within new p 0 (start_of (mode_times new) j) 0 (k - d) (λ n l w. (w.0, (zero-le, omega (arith, w.1.1))))))
            ((load_work d k p (omega arith)).0 (bears k p (omega arith) (omega (arith, ready-old.start i li)) a.some_processor a.processor))

        -- an actor that does not run asks for nothing, nor does any other with it
        nowhere : bit old.active i ≡ 0 → AtMost (together old new i j) (limit (processor_at old i))
        nowhere z =
            let q : processor_at old i ≡ 0 = ap (λ (a : Actor). a.processor) (ready-old.no_actor_law i li (λ h. omega arith)) in
            let v : work_in old (processor_at old i) (start_of (mode_times old) i) old.startup.0 ≡ 0 = rw q (work_nowhere old ready-old _ _) in
            let w : work_in new (processor_at new j) 0 (start_of (mode_times new) j) ≡ 0 = rw (← e, q) (work_nowhere new ready-new _ _) in
            rw (v, w) (omega arith)

        go : Dec (start_of (mode_times old) i ≤ d + start_of (mode_times new) j) → Has old.active i ⊎ (bit old.active i ≡ 0) → start_of (mode_times old) i ≤ d + start_of (mode_times new) j
        go (yes h) a = h
        go (no n) (inl y) = absurd (above (borne (lt_of_not-le n) y))
        go (no n) (inr z) = absurd (above (nowhere z))

    -- and the other way
    waits_bears : (d : ℕ) → ((i j : ℕ) → i < ACTORS → j < ACTORS → Waits limit old new d i j) → Bearable limit (mode_times old) → Bearable limit (mode_times new) → Bears limit (mode_times old) (mode_times new) d
    waits_bears d waits own_old own_new k p dk ks l m =
        (load_work d k p dk).1 (go (work_first old p (suc old.startup.0) (suc k) old.startup.0 (omega arith)) (work_last new p (k - d)))
      where
        go : FromFirst old p (suc k) old.startup.0 → ToLast new p (k - d) → AtMost (asked old new (work_in old p (suc k) old.startup.0) (work_in new p 0 (k - d))) (limit p)
        go (inl z) t = rw z (one_asked (limit p) (work_in new p 0 (k - d)) (own_work new ready-new own_new p l m 0 (k - d)))
        go (inr (i, li, wi, vi)) (inl z) =
            rw z (other_asked (limit p) (work_in old p (suc k) old.startup.0) (own_work old ready-old own_old p l m (suc k) old.startup.0))
        go (inr (i, li, (ei, wi), vi)) (inr (j, lj, (ej, wj), vj)) =
            rw (vi, vj) (pair (dec_le _ _))
          where
            pair : Dec (AtMost (asked old new (work_in old p (start_of (mode_times old) i) old.startup.0) (work_in new p 0 (start_of (mode_times new) j))) (limit p))
                → AtMost (asked old new (work_in old p (start_of (mode_times old) i) old.startup.0) (work_in new p 0 (start_of (mode_times new) j))) (limit p)
            pair (yes h) = h
            pair (no n) = let late : start_of (mode_times old) i ≤ d + start_of (mode_times new) j = waits i j li lj (ei ∙ sym ej) (rw (ei, ej) n) in absurd (omega arith)

    -- how long a new actor waits for an old one
    wait_is : (d i j : ℕ) → i < ACTORS → j < ACTORS → (wait_on limit (processor_at old i) (old_side old i) new j ≤ d) ↔ Waits limit old new d i j
    wait_is d i j li lj =
        rw (works_is old ready-old i li, works_is new ready-new j lj) (go (eqb (processor_at new j) (processor_at old i)) refl (at_mostb (together old new i j) (limit (processor_at old i))) refl)
      where
        go : (x : Bool) → eqb (processor_at new j) (processor_at old i) ≡ x → (y : Bool) → at_mostb (together old new i j) (limit (processor_at old i)) ≡ y
            → (cond x (cond y (tick 0) (minus_ticks (tick_at old.starts i) (tick_at new.starts j))).0 0 ≤ d) ↔ Waits limit old new d i j
        go false e y f = ((λ h same n. absurd (eqb-false _ _ e (sym same))), (λ w. zero-le))
        go true e true f = ((λ h same n. absurd (n (leb-true _ _ f))), (λ w. zero-le))
        go true e false f = (
          (λ h same n. omega arith),
          (λ w. let late : start_of (mode_times old) i ≤ d + start_of (mode_times new) j = w (sym (eqb-true _ _ e)) (λ h. not-le_of_lt (leb-false _ _ f) h) in omega arith),
        )

    -- the load is borne from an offset on exactly when it is at least what is found
    pub bears_from : Bearable limit (mode_times old) → Bearable limit (mode_times new) → (d : ℕ) → Bears limit (mode_times old) (mode_times new) d ↔ ((longest_wait limit old new).0 ≤ d)
    bears_from own_old own_new d = (
      (λ b. most_within (waits_for limit old new) d ACTORS (λ i li. most_within (waits i) d ACTORS (λ j lj. (wait_is d i j li lj).1 (bears_waits d b i j li lj)))),
      (λ h. waits_bears d (λ i j li lj. (wait_is d i j li lj).0 (le_trans (most_above (waits i) ACTORS j lj) (le_trans (most_above (waits_for limit old new) ACTORS i li) h))) own_old own_new),
    )
      where
        waits : ℕ → ℕ → ℕ
        waits i = wait_on limit (processor_at old i) (old_side old i) new

    -- so it is from the end of the old mode's start-up
    pub bears_at_last : Bearable limit (mode_times old) → Bearable limit (mode_times new) → Bears limit (mode_times old) (mode_times new) old.startup.0
    bears_at_last own_old own_new =
        waits_bears old.startup.0 (λ i j li lj e n. omega (arith, ready-old.start i li)) own_old own_new

    -- the later of the overlap and what is found is the offset
    pub offset_is : Bearable limit (mode_times old) → Bearable limit (mode_times new) → Offset limit (mode_times old) (mode_times new) (overlap_of old new) (offset_from limit old new (overlap_of old new))
    offset_is own_old own_new =
        record {
          holds = (
            omega arith,
            omega (arith, (bears_from own_old own_new old.startup.0).0 (bears_at_last own_old own_new), short),
            (bears_from own_old own_new _).1 (omega arith),
          );
          least = λ n (x, s, b). omega (arith, (bears_from own_old own_new n).0 b);
        }
      where
        go : (x : Bool) (v : ℕ) → v ≤ old.startup.0 → cond x v 0 ≤ old.startup.0
        go true v h = h
        go false v h = zero-le

        short : (overlap_of old new).0 ≤ old.startup.0
        short = most_within _ _ ACTORS (λ i l. go (hasb (bit_and old.active new.active) i) (start_of (mode_times old) i - start_of (mode_times new) i) (omega (arith, ready-old.start i l)))

-- each is a part of an iteration
module _ (r : Running) (ready : Ready r) (i : ℕ) (l : i < ACTORS) where
  work_part : (a b : ℕ) → Part (share_of (tick (work_in r (processor_at r i) a b)) r.iteration)
  work_part a b = record { some = ready.some_tick; part = ⊎_elim on nowhere (has_or_not r.active i); whole = ready.iteration }
    where
      on : Has r.active i → work_in r (processor_at r i) a b ≤ r.iteration.0
      on y = let p = ready.actor i (l, y) in omega (arith, own_work limit_of r ready ready.load (processor_at r i) p.some_processor p.processor a b)

      nowhere : bit r.active i ≡ 0 → work_in r (processor_at r i) a b ≤ r.iteration.0
      nowhere z =
          let q : processor_at r i ≡ 0 = ap (λ (a : Actor). a.processor) (ready.no_actor_law i l (λ h. omega arith)) in
          let w : work_in r (processor_at r i) a b ≡ 0 = rw q (work_nowhere r ready a b) in
          omega arith

  pub since_part : Part (share_of (get_or r.works i no_works).since r.iteration)
  since_part = rw (works_is r ready i l) (work_part _ _)

  pub until_part : Part (share_of (get_or r.works i no_works).until r.iteration)
  until_part = rw (works_is r ready i l) (work_part _ _)

-- what is found, under the limit in force
pub found : (old new : Running) → Ready old → Ready new → {x d : Tick} → x ≡ overlap_of old new → d ≡ offset_from limit_of old new x
    → Overlap (mode_times old) (mode_times new) x × Offset limit_of (mode_times old) (mode_times new) x d
found old new ready-old ready-new e f =
    rw (f, e) (overlap_is old new, offset_is limit_of old new ready-old ready-new ready-old.load ready-new.load)

-- no wait is longer than the old start
pub wait_most : (limit : Fraction) (a b : Side) → (wait_of limit a b).0 ≤ a.start.0 - b.start.0
wait_most limit a b = go (at_mostb (plus a.asked b.asked) limit)
  where
    go : (x : Bool) → (cond x (tick 0) (minus_ticks a.start b.start)).0 ≤ a.start.0 - b.start.0
    go true = zero-le
    go false = le_refl _

module _ (limit : ℕ → Fraction) (p : ℕ) (a : Side) (new : Running) where
  waits_most : waits_on limit p a new ≤ a.start.0
  waits_most = most_within (wait_on limit p a new) a.start.0 ACTORS (λ j l. go j (eqb (processor_at new j) p))
    where
      go : (j : ℕ) (x : Bool) → cond x (wait_of (limit p) a (new_side new j)).0 0 ≤ a.start.0
      go j true = omega (arith, wait_most (limit p) a (new_side new j))
      go j false = zero-le

  -- one new actor more: on the processor, or on another
  module _ (least : Tick) (j : ℕ) where
    abbrev so_far : ℕ → Tick
    so_far j = greater_tick least (tick (most_of (wait_on limit p a new) j))

    pub wait_more : {most next : Tick} → most ≡ so_far j → processor_at new j ≡ p → next ≡ greater_tick most (wait_of (limit p) a (new_side new j)) → next ≡ so_far (j + 1)
    wait_more e f g = g ∙ rw (e, most_next (wait_on limit p a new) j, eq-eqb _ _ f) (ap tick (omega arith))

    pub wait_no_more : {most : Tick} → most ≡ so_far j → (processor_at new j ≡ p → ⊥) → most ≡ so_far (j + 1)
    wait_no_more e f = e ∙ rw (most_next (wait_on limit p a new) j, ne_eqb _ _ f) (ap tick (omega arith))

-- one old actor more: waited for, or passed over
module _ (limit : ℕ → Fraction) (old new : Running) (least : Tick) (i : ℕ) where
  abbrev longest : ℕ → Tick
  longest i = greater_tick least (tick (most_of (waits_for limit old new) i))

  pub waits_more : {most next : Tick} → most ≡ longest i → next ≡ greater_tick most (tick (waits_for limit old new i)) → next ≡ longest (i + 1)
  waits_more e g = g ∙ rw (e, most_next (waits_for limit old new) i) (ap tick (omega arith))

  pub waits_no_more : {most : Tick} → most ≡ longest i → (tick_at old.starts i).0 ≤ most.0 → most ≡ longest (i + 1)
  waits_no_more e h =
      let short = rw e at h in
      e ∙ rw (most_next (waits_for limit old new) i) (ap tick (omega (arith, waits_most limit (processor_at old i) (old_side old i) new)))

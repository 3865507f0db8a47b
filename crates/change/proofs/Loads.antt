-- The work of a mode between two ticks, and what it asks of a processor as a part of an iteration. Assumes nothing.
use mathlib.Core.Path.{◌≡◌, refl, ap, ap₂, ◌∙◌}
use mathlib.Core.Bool.{Bool, true, false, cond, ◌&&◌}
use mathlib.Core.Logic.{◌⊎◌, inl, inr, ⊎_elim, ◌↔◌}
use Prim.Native.Nat.{ℕ, zero, suc, ◌+◌, ◌*◌, ◌^◌, ◌≤◌, ◌<◌, zero-le}
use native.Mathlib.Nat.{le_antisymm, le_refl}
use native.Mathlib.Omega.{arith}
use native.Mathlib.Decide.{dec_le}
use borrow.Author.Tests.{eq-eqb, ne_eqb, eqb-true}
use lib.Dec.{T, eqb, leb}
use Rattle.numbers.specs.Bits.{bit, Has, hasb, has_or_not, has_decides}
use Rattle.numbers.specs.Decides.{Decides, decides_unique, decides_and, decides_eqb, decides_leb, decides_true, decides_false}
use Rattle.numbers.specs.Fraction.{Proper, Same, sum_proper, sum_common, nothing}
use Rattle.numbers.specs.declared.fraction.Fraction.{Fraction}
use Rattle.numbers.specs.Lowest.{FirstPasses, NonePasses, sought}
use Rattle.numbers.specs.Sum.{sum, sum_next, sum_le, sum_most}
use Rattle.units.specs.Products.{MOST_WORK}
use Rattle.units.specs.Limits.{ACTORS}
use Rattle.units.specs.Ticks.{tick, plus_ticks}
use Rattle.units.specs.declared.Tick.{Tick}
use Rattle.units.specs.declared.Firing.{Firing}
use Rattle.period.specs.Period.{work_of, work_most, share_of}
use Rattle.tables.specs.declared.Actor.{Actor}
use Rattle.graph.specs.Load.{is_on, asked_by, asked_of}
use Rattle.change.specs.Work.{actor_of, firings_at, no_works, counted_of, works_of}
use Rattle.change.specs.Change.{period_in, start_of}
use Rattle.change.specs.Running.{Running, Fitting, mode_times, Ready}

-- the work of those below k that are on processor p and count
abbrev pub work_on : Running → ℕ → (ℕ → Bool) → ℕ → Tick
work_on r p counts k = tick (sum (λ i. (counted_of r.actors r.firings p counts i).0) k)

-- of actors and firings within their ranges it is within 64 bits, and there is none without a processor
module _ (r : Running) (fits : Fitting r) where
  pub work_fits : (p : ℕ) (counts : ℕ → Bool) (k : ℕ) → k < ACTORS → {v w : Tick} → v ≡ work_on r p counts k → w ≡ counted_of r.actors r.firings p counts k → v.0 + w.0 < 2 ^ 64
  work_fits p counts k l e f =
      rw (e, f) (omega (arith, sum_most (λ i. (counted_of r.actors r.firings p counts i).0) MOST_WORK.0 k (λ i h. most i (omega arith)), most k l))
    where
      go : (x : Bool) (w : Tick) → w.0 ≤ MOST_WORK.0 → (cond x w (tick 0)).0 ≤ MOST_WORK.0
      go true w h = h
      go false w h = zero-le

      most : (i : ℕ) → i < ACTORS → (counted_of r.actors r.firings p counts i).0 ≤ MOST_WORK.0
      most i h =
          go (eqb (actor_of r.actors i).processor p && counts i) (work_of (actor_of r.actors i).wcet (firings_at r.firings i)) (work_most (fits.wcet i h) (omega (arith, fits.few i h)))

  pub works_nowhere : (p : ℕ) (start : Tick) → p ≡ 0 → no_works ≡ works_of r.actors r.firings r.starts p start
  works_nowhere p start e = rw e (ap₂ (λ (s u : ℕ). record { since = tick s; until = tick u }) (none _) (none _))
    where
      go : (i : ℕ) → i < ACTORS → (x : Bool) → eqb (actor_of r.actors i).processor 0 ≡ x → (y : Bool) → (cond (x && y) (work_of (actor_of r.actors i).wcet (firings_at r.firings i)) (tick 0)).0 ≤ 0
      go i h true e true = rw (fits.nowhere i h (eqb-true _ _ e)) (omega arith)
      go i h true e false = zero-le
      go i h false e y = zero-le

      none : (counts : ℕ → Bool) → 0 ≡ (work_on r 0 counts ACTORS).0
      none counts = omega (arith, sum_most (λ i. (counted_of r.actors r.firings 0 counts i).0) 0 ACTORS (λ i h. go i h (eqb (actor_of r.actors i).processor 0) refl (counts i)))

-- one actor more: one on processor p that counts, or another
module _ (r : Running) (p k : ℕ) (counts : ℕ → Bool) where
  pub counted_one : {a : Actor} {q : Firing} {v : Tick} → a ≡ actor_of r.actors k → q ≡ firings_at r.firings k → a.processor ≡ p → counts k ≡ true → v ≡ work_of a.wcet q
      → v ≡ counted_of r.actors r.firings p counts k
  counted_one ea eq on c f = rw (f, ← ea, ← eq, eq-eqb _ _ on, c)

  pub work_more : {u v w : Tick} → v ≡ work_on r p counts k → w ≡ counted_of r.actors r.firings p counts k → u ≡ plus_ticks v w → u ≡ work_on r p counts (k + 1)
  work_more e f g = g ∙ rw (e, f, sum_next (λ i. (counted_of r.actors r.firings p counts i).0) k)

  pub work_no_more : {v : Tick} → v ≡ work_on r p counts k → (eqb (actor_of r.actors k).processor p && counts k) ≡ false → v ≡ work_on r p counts (k + 1)
  work_no_more e n = e ∙ rw (sum_next (λ i. (counted_of r.actors r.firings p counts i).0) k, n) (ap tick (omega arith))

  pub work_elsewhere : {v : Tick} → v ≡ work_on r p counts k → ((actor_of r.actors k).processor ≡ p → ⊥) → v ≡ work_on r p counts (k + 1)
  work_elsewhere e n = work_no_more e (rw (ne_eqb _ _ n))

  pub work_uncounted : {v : Tick} → v ≡ work_on r p counts k → counts k ≡ false → v ≡ work_on r p counts (k + 1)
  work_uncounted e n = work_no_more e (rw n (go (eqb (actor_of r.actors k).processor p)))
    where
      go : (b : Bool) → (b && false) ≡ false
      go true = refl
      go false = refl

-- the work of the actors on processor p that start from a to b
abbrev pub work_in : Running → ℕ → ℕ → ℕ → ℕ
work_in r p a b = sum (λ i. (counted_of r.actors r.firings p (λ i. leb a (start_of (mode_times r) i) && leb (start_of (mode_times r) i) b) i).0) ACTORS

-- actor i is on processor p and starts from a to b
abbrev pub Between : Running → ℕ → ℕ → ℕ → ℕ → Type 0
Between r p a b i = ((actor_of r.actors i).processor ≡ p) × ((a ≤ start_of (mode_times r) i) × (start_of (mode_times r) i ≤ b))

module _ (r : Running) (p : ℕ) where
  abbrev test : ℕ → ℕ → ℕ → Bool
  test a b i = eqb (actor_of r.actors i).processor p && (leb a (start_of (mode_times r) i) && leb (start_of (mode_times r) i) b)

  abbrev work : ℕ → Tick
  work i = work_of (actor_of r.actors i).wcet (firings_at r.firings i)

  abbrev counted : ℕ → ℕ → ℕ → ℕ
  counted a b i = (cond (test a b i) (work i) (tick 0)).0

  pub between_is : (a b i : ℕ) → Decides (Between r p a b i) (test a b i)
  between_is a b i =
      decides_and (eqb (actor_of r.actors i).processor p) (leb a (start_of (mode_times r) i) && leb (start_of (mode_times r) i) b) (decides_eqb _ _ ((λ e. e), (λ e. e)))
      (decides_and (leb a (start_of (mode_times r) i)) (leb (start_of (mode_times r) i) b) (decides_leb _ _) (decides_leb _ _))

  -- fewer actors, no more work
  pub work_within : (a b c d : ℕ) → ((i : ℕ) → i < ACTORS → Between r p a b i → Between r p c d i) → work_in r p a b ≤ work_in r p c d
  work_within a b c d h =
      sum_le (counted a b) (counted c d) ACTORS
      (λ i l. go (test a b i) (test c d i) (work i) (λ t. (between_is c d i).1 (h i l ((between_is a b i).0 t))))
    where
      go : (x y : Bool) (w : Tick) → (T x → T y) → (cond x w (tick 0)).0 ≤ (cond y w (tick 0)).0
      go false y w f = zero-le
      go true true w f = le_refl w.0
      go true false w f = absurd (f tt)

  work_same : (a b c d : ℕ) → ((i : ℕ) → i < ACTORS → Between r p a b i ↔ Between r p c d i) → work_in r p a b ≡ work_in r p c d
  work_same a b c d h = le_antisymm (work_within a b c d (λ i l. (h i l).0)) (work_within c d a b (λ i l. (h i l).1))

  -- none that works, no work
  pub work_none : (a b : ℕ) → ((i : ℕ) → i < ACTORS → Between r p a b i → (work_of (actor_of r.actors i).wcet (firings_at r.firings i)).0 ≡ 0) → work_in r p a b ≡ 0
  work_none a b h =
      omega (arith, sum_most (counted a b) 0 ACTORS (λ i l. go (test a b i) (work i) (λ t. h i l ((between_is a b i).0 t))))
    where
      go : (x : Bool) (w : Tick) → (T x → w.0 ≡ 0) → (cond x w (tick 0)).0 ≤ 0
      go false w f = zero-le
      go true w f = omega (arith, f tt)

  -- an actor that starts at t, or none
  abbrev At : ℕ → ℕ → Type 0
  At t i = ((actor_of r.actors i).processor ≡ p) × (start_of (mode_times r) i ≡ t)

  abbrev Sought : ℕ → Type 0
  Sought t = ((i : ℕ) × (i < ACTORS) × At t i) ⊎ ((i : ℕ) → i < ACTORS → At t i → ⊥)

  abbrev starts : ℕ → ℕ → Bool
  starts t i = eqb (actor_of r.actors i).processor p && eqb (start_of (mode_times r) i) t

  at : (t : ℕ) → Sought t
  at t = go (sought (starts t) ACTORS 0)
    where
      is : (i : ℕ) → Decides (At t i) (starts t i)
      is i =
          decides_and (eqb (actor_of r.actors i).processor p) (eqb (start_of (mode_times r) i) t) (decides_eqb _ _ ((λ e. e), (λ e. e)))
          (decides_eqb _ _ ((λ e. e), (λ e. e)))

      go : ((i : ℕ) × FirstPasses (starts t) ACTORS 0 i) ⊎ NonePasses (starts t) ACTORS 0 → Sought t
      go (inl (i, f)) = inl (i, f.below, decides_true (is i) f.passes)
      go (inr n) = inr (λ i l h. decides_false (is i) (n i zero-le l) h)

  -- the work from a on is that from the first start on
  abbrev pub FromFirst : ℕ → ℕ → Type 0
  FromFirst a b = (work_in r p a b ≡ 0) ⊎ ((i : ℕ) × (i < ACTORS) × Between r p a b i × (work_in r p a b ≡ work_in r p (start_of (mode_times r) i) b))

  pub work_first : (n a b : ℕ) → b < a + n → FromFirst a b
  work_first zero a b h = inl (work_none a b (λ i l w. absurd (omega (arith, w.1.0, w.1.1))))
  work_first (suc n) a b h = go (dec_le a b) (at a) (work_first n (suc a) b (omega arith))
    where
      past : (s : ℕ) → a ≤ s → (s ≡ a → ⊥) → suc a ≤ s
      past s g n = omega (arith, n)

      go : Dec (a ≤ b) → Sought a → FromFirst (suc a) b → FromFirst a b
      go (no f) s t = inl (work_none a b (λ i l w. absurd (f (omega (arith, w.1.0, w.1.1)))))
      go (yes f) (inl (i, l, (e, s))) t = inr (i, l, (e, (omega arith, omega arith)), rw s)
      go (yes f) (inr none) t =
          let e : work_in r p a b ≡ work_in r p (suc a) b =
          work_same a b (suc a) b (λ i l. (
            (λ w. (w.0, (past (start_of (mode_times r) i) w.1.0 (λ s. none i l (w.0, s)), w.1.1))),
            (λ w. (w.0, (omega (arith, w.1.0), w.1.1))),
          )) in
          ⊎_elim (λ z. inl (e ∙ z)) (λ (i, l, w, s). inr (i, l, (w.0, (omega (arith, w.1.0), w.1.1)), e ∙ s)) t

  -- and the work up to b is that up to the last
  abbrev pub ToLast : ℕ → Type 0
  ToLast b = (work_in r p 0 b ≡ 0) ⊎ ((j : ℕ) × (j < ACTORS) × Between r p 0 b j × (work_in r p 0 b ≡ work_in r p 0 (start_of (mode_times r) j)))

  pub work_last : (b : ℕ) → ToLast b
  work_last zero =
      ⊎_elim (λ (j, l, (e, s)). inr (j, l, (e, (zero-le, omega arith)), rw s))
      (λ none. inl (work_none 0 0 (λ i l w. absurd (none i l (w.0, omega (arith, w.1.1)))))) (at 0)
  work_last (suc b) = go (at (suc b)) (work_last b)
    where
      past : (s : ℕ) → s ≤ suc b → (s ≡ suc b → ⊥) → s ≤ b
      past s g n = omega (arith, n)

      go : Sought (suc b) → ToLast b → ToLast (suc b)
      go (inl (j, l, (e, s))) t = inr (j, l, (e, (zero-le, omega arith)), rw s)
      go (inr none) t =
          let e : work_in r p 0 (suc b) ≡ work_in r p 0 b =
          work_same 0 (suc b) 0 b (λ i l. (
            (λ w. (w.0, (zero-le, past (start_of (mode_times r) i) w.1.1 (λ s. none i l (w.0, s))))),
            (λ w. (w.0, (zero-le, omega (arith, w.1.1)))),
          )) in
          ⊎_elim (λ z. inl (e ∙ z)) (λ (i, l, w, s). inr (i, l, (w.0, (zero-le, omega (arith, w.1.1))), e ∙ s)) t

module _ (r : Running) (ready : Ready r) where
  -- an actor that does not run does not work, and processor 0 has no other
  idle : (i : ℕ) → i < ACTORS → bit r.active i ≡ 0 → (work_of (actor_of r.actors i).wcet (firings_at r.firings i)).0 ≡ 0
  idle i l z = rw (ready.no_actor_law i l (λ h. omega arith)) (omega arith)

  pub work_nowhere : (a b : ℕ) → work_in r 0 a b ≡ 0
  work_nowhere a b =
      work_none r 0 a b (λ i l w. ⊎_elim (λ (h : Has r.active i). absurd (omega (arith, (ready.actor i (l, h)).some_processor, w.0)))
      (idle i l) (has_or_not r.active i))

  -- an actor runs on processor p
  pub on_is : (p i : ℕ) → Decides (Has r.active i × ((actor_of r.actors i).processor ≡ p)) (is_on (mode_times r).mode p i)
  on_is p i = decides_and (hasb r.active i) (eqb (actor_of r.actors i).processor p) (has_decides r.active i) (decides_eqb _ _ ((λ e. e), (λ e. e)))

  -- those count that run on processor p and start from a to b
  abbrev pub Counting : ℕ → ℕ → ℕ → (ℕ → Bool) → Type 0
  Counting p a b counts = (i : ℕ) → i < ACTORS → Decides ((Has r.active i × ((actor_of r.actors i).processor ≡ p)) × ((a ≤ start_of (mode_times r) i) × (start_of (mode_times r) i ≤ b))) (counts i)

  module _ (p a b : ℕ) (counts : ℕ → Bool) (is : Counting p a b counts) where
    abbrev asks : ℕ → Bool → Fraction
    asks i x = cond x (asked_by (mode_times r).mode (period_in (mode_times r)) i) nothing

    pub asked_proper : Proper (asked_of (mode_times r).mode (period_in (mode_times r)) counts)
    asked_proper = sum_proper (λ i. asks i (counts i)) ACTORS (λ i l. go i (counts i) (λ t. ready.period i (l, ((is i l).0 t).0.0)))
      where
        go : (i : ℕ) (x : Bool) → (T x → 0 < (period_in (mode_times r) i).0) → Proper (asks i x)
        go i false f = omega arith
        go i true f = f tt

    -- what they ask together is their work as a part of an iteration
    pub asked_work : Same (asked_of (mode_times r).mode (period_in (mode_times r)) counts) (share_of (tick (work_in r p a b)) r.iteration)
    asked_work =
        sum_common (λ i. asks i (counts i)) (counted r p a b) r.iteration.0 ACTORS (λ i l. ⊎_elim (runs i l) (rests i l) (has_or_not r.active i))
      where
        part : (i : ℕ) → (firings_at r.firings i).0 * (period_in (mode_times r) i).0 ≡ r.iteration.0 → (x : Bool)
            → Same (asks i x) (record { over = (cond x (work r p i) (tick 0)).0; under = r.iteration.0 })
        part i e true = omega (arith, ap (λ (n : ℕ). (actor_of r.actors i).wcet.0 * n) e)
        part i e false = omega arith

        none : (i : ℕ) (w : Tick) → w.0 ≡ 0 → (x : Bool) → (T x → ⊥) → (t : Bool) → Same (asks i x) (record { over = (cond t w (tick 0)).0; under = r.iteration.0 })
        none i w e true f t = absurd (f tt)
        none i w e false f true = omega arith
        none i w e false f false = omega arith

        runs : (i : ℕ) → i < ACTORS → Has r.active i → Same (asks i (counts i)) (record { over = counted r p a b i; under = r.iteration.0 })
        runs i l y =
            let e : counts i ≡ test r p a b i =
            decides_unique (counts i) (test r p a b i) (is i l) ((λ t. let w = (between_is r p a b i).0 t in ((y, w.0), w.1)), (λ w. (between_is r p a b i).1 (w.0.1, w.1))) in
            rw e (part i (ready.whole i (l, y)) (test r p a b i))

        rests : (i : ℕ) → i < ACTORS → bit r.active i ≡ 0 → Same (asks i (counts i)) (record { over = counted r p a b i; under = r.iteration.0 })
        rests i l z = none i (work r p i) (idle i l z) (counts i) (λ t. omega (arith, ((is i l).0 t).0.0)) (test r p a b i)

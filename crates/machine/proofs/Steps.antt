-- The steps of the machine's code are those of the run. Assumes nothing.
use mathlib.Core.Path.{◌≡◌, refl, sym, ap, subst, ◌∙◌}
use mathlib.Core.Bool.{Bool, true, false, not}
use mathlib.Core.Logic.{◌≢◌}
use mathlib.Core.List.{List}
use Prim.Native.Nat.{ℕ, max, ◌+◌, ◌-◌, ◌*◌, ◌/◌, ◌≤◌, ◌<◌}
use native.Mathlib.Nat.{div-add-mod', mod-lt, mul-le-mul_right, lt_of_not-le, mul_comm, add-mul}
use native.Mathlib.Omega.{arith}
use native.Mathlib.Decide.{dec_le}
use borrow.Author.Tests.{lt-ltb, le-ltb, le-leb, lt-leb, eq-eqb, ne_eqb}
use lib.Dec.{T, eqb}
use Rattle.numbers.specs.Extreme.{least_unique}
use Rattle.numbers.specs.Quotient.{rounded_of, rounded_of_law}
use Rattle.units.specs.Products.{MOST_LEFT}
use Rattle.units.specs.Limits.{MODES, CLOCK_LIMIT}
use Rattle.std.specs.Prelude.{cond, is_some, IsSome, IsSomeAnd, Option, Some, None, MatchOption, Ok}
use Rattle.std.proofs.lemmas.Option.{cond_some, none-some}
use Rattle.units.specs.declared.Tick.{Tick}
use Rattle.units.specs.Ticks.{tick}
use Rattle.terms.specs.declared.refusal.Reason.TheVariants.{NoMode, SameMode, PastClock, Unended, NoMachine}
use Rattle.terms.specs.Place.{number_of}
use Rattle.tables.specs.Shape.{Table, mode_at}
use Rattle.tables.specs.Proper.{ProperTable}
use Rattle.planning.specs.Shape.{Plan}
use Rattle.run.specs.Plan.{RunPlan, sink_start}
use Rattle.run.specs.Machine as Run
use Rattle.run.proofs.Delay as Delay
use Rattle.machine.specs.Plan.{mode_of, part_of, is_listed, plan_of}
use Rattle.machine.proofs.Sound.{listed_is, is_listed_law, runs, iteration_short, offset_short}
use Rattle.planner.specs.Plans.{Leaves}
use Rattle.planner.proofs.Leaving.{leaves_proper}
use Rattle.machine.specs.declared.Machine.{Machine}
use Rattle.layout.specs.declared.load.Pace.{Pace}
use Rattle.machine.specs.declared.Course.{Course}
use Rattle.machine.specs.Answers.{seen, asking, Meant, Begins, begun, delay_of, changed_of, Answers, accepted}
use Rattle.machine.specs.Steps.{Tells, pace_by, pace_at, pace_of, course_of, Near, left_of, delay_by, changed_by}
use Rattle.machine.proofs.Words.{startup_is}

-- a mode in the range is listed when it has an actor, and no other is
pub listed_within : (t : Table) (m : ℕ) → 1 ≤ m → m ≤ MODES → is_listed t m ≡ not (eqb (mode_of t m).active 0)
listed_within t m h k = rw (le-leb 1 m h, le-leb m MODES k)

pub listed_place : (t : Table) (k : ℕ) → k < MODES → is_listed t (number_of k) ≡ not (eqb (mode_at t k).active 0)
listed_place t k h = let e : k + 1 - 1 ≡ k = omega arith in listed_within t (k + 1) (omega arith) (omega arith) ∙ rw e refl

pub listed_zero : (t : Table) (m : ℕ) → m ≡ 0 → is_listed t m ≡ false
listed_zero t m e = rw (lt-leb 1 m (omega arith))

pub listed_above : (t : Table) (m : ℕ) → MODES < m → is_listed t m ≡ false
listed_above t m h = rw (le-leb 1 m (omega arith), lt-leb m MODES h)

pub is_true : {b : Bool} → b ≡ true → T b
is_true e = rw e tt

-- the pace of a mode in the range is that of its place
pub pace_within : (t : Table) (w : Plan) (m : ℕ) → 1 ≤ m → m ≤ MODES → pace_at t w (m - 1) ≡ pace_of t w m
pace_within t w m h k = go (eqb (mode_of t m).active 0) refl
  where
    go : (b : Bool) → eqb (mode_of t m).active 0 ≡ b → pace_at t w (m - 1) ≡ pace_of t w m
    go true e = rw (listed_within t m h k, e)
    go false e = rw (listed_within t m h k, e)

pub no_pace : (t : Table) (w : Plan) (m : ℕ) → pace_of t w m ≡ None → is_listed t m ≡ false
no_pace t w m e = go (is_listed t m) refl e
  where
    go : (b : Bool) → is_listed t m ≡ b → cond b (Some (pace_by (part_of w m))) None ≡ None → is_listed t m ≡ false
    go true f e = absurd (none-some _ (sym e))
    go false f e = f

pub some_pace : (t : Table) (w : Plan) (m : ℕ) (p : Pace) → Some p ≡ pace_of t w m → (is_listed t m ≡ true) × (p ≡ pace_by (part_of w m))
some_pace t w m p e = let (h, f) = cond_some (is_listed t m) (pace_by (part_of w m)) p (sym e) in (h, sym f)

-- a mode with a pace is listed, and no other is
pub paced_listed : {t : Table} {w : Plan} {words : List ℕ} → Leaves t w words → (m : ℕ) (b : Bool) → ((p : Option Pace) × Tells words (λ t w. p ≡ pace_of t w m) × (b ≡ is_some p))
    → is_listed t m ≡ b
paced_listed {t} {w} l m b (p, e, f) = go (is_listed t m) refl ∙ sym (f ∙ ap is_some (e t w l))
  where
    go : (x : Bool) → is_listed t m ≡ x → is_listed t m ≡ is_some (pace_of t w m)
    go true h = rw h refl
    go false h = rw h refl

-- the lowest mode of a table, where the first that is listed was looked for
pub lowest_found : (t : Table) → ProperTable t → (r : Option ℕ)
    → MatchOption r ((k : ℕ) → 1 ≤ k → k < MODES + 1 → is_listed t k ≡ false)
    (λ i. (1 ≤ i) × (i < MODES + 1) × (is_listed t i ≡ true) × ((k : ℕ) → 1 ≤ k → k < i → is_listed t k ≡ false))
    → IsSomeAnd r (Meant t 0)
lowest_found t proper None none =
    let (m, i, l, k, h) = proper.some in
    let e : m + 1 - 1 ≡ m = omega arith in
    absurd (subst T (none (m + 1) (omega arith) (omega arith)) (is_listed_law t proper (m + 1) (omega arith) (rw e (l, (i, (k, h))))))
lowest_found t proper (Some j) (_, _, passes, first) =
    record { lowest = λ _. record { holds = is_true passes; least = λ n h. at n h (dec_le j n) }; named = λ n. absurd (n refl) }
  where
    at : (n : ℕ) → T (is_listed t n) → Dec (j ≤ n) → j ≤ n
    at n h (yes l) = l
    at n h (no l) = absurd (subst T (first n (listed_is t proper n h).0 (omega arith)) h)

pub some_and : (r : Option ℕ) (P : ℕ → Type 0) → IsSomeAnd r P → IsSome r
some_and None P h = absurd h
some_and (Some k) P h = refl

pub meant_named : (t : Table) (mode : ℕ) → (mode ≡ 0 → ⊥) → Meant t mode mode
meant_named t mode n = record { lowest = λ e. absurd (n e); named = λ _. refl }

-- a quotient rounded up, as the code reckons it
rounded_up : (x h : ℕ) → 0 < h → (x + h - 1) / h ≡ rounded_of x h
rounded_up x h pos =
    least_unique (λ (n : ℕ). x ≤ n * h)
    (record {
      holds = omega (arith, div-add-mod' (x + h - 1) h, mod-lt (x + h - 1) pos);
      least = λ n l. omega (arith, lt_of_not-le (λ (g : n + 1 ≤ (x + h - 1) / h). omega (arith, mul-le-mul_right h g, div-add-mod' (x + h - 1) h, add-mul n 1 h)));
    })
    (rounded_of_law x h pos)

-- the old mode is left soon
module _ (m : Machine) (c : Course) (t : Tick) (near : Near m c t) where
  times_most : (t.0 - m.started.0 + c.old.iteration.0 - 1) / c.old.iteration.0 * c.old.iteration.0 ≤ t.0 - m.started.0 + c.old.iteration.0
  times_most = omega (arith, div-add-mod' (t.0 - m.started.0 + c.old.iteration.0 - 1) c.old.iteration.0)

  pub left_soon : (left_of m c t).0 ≤ MOST_LEFT.0
  left_soon = omega (arith, times_most, near.started, near.clock, near.iteration)

-- the first refusal that applies to a request
module _ (p : RunPlan) (m : Run.Machine) (r : Run.Request) where
  pub refused_16 : p.listed m.mode ≡ false → Run.refusal p m r ≡ Some NoMachine
  unfolding Run.refusal
  refused_16 h = rw h

  module _ (old : p.listed m.mode ≡ true) where
    pub refused_disordered : m.ended < m.started → Run.refusal p m r ≡ Some NoMachine
    unfolding Run.refusal
    refused_disordered h = rw (old, lt-ltb m.ended m.started h)

    module _ (ordered : m.started ≤ m.ended) where
      pub refused_11 : p.listed r.mode ≡ false → Run.refusal p m r ≡ Some NoMode
      unfolding Run.refusal
      refused_11 h = rw (old, le-ltb m.ended m.started ordered, h)

      module _ (new : p.listed r.mode ≡ true) where
        pub refused_12 : r.mode ≡ m.mode → Run.refusal p m r ≡ Some SameMode
        unfolding Run.refusal
        refused_12 h = rw (old, le-ltb m.ended m.started ordered, new, eq-eqb r.mode m.mode h)

        module _ (other : r.mode ≢ m.mode) where
          pub refused_13 : CLOCK_LIMIT.0 < r.tick → Run.refusal p m r ≡ Some PastClock
          unfolding Run.refusal
          refused_13 h = rw (old, le-ltb m.ended m.started ordered, new, ne_eqb r.mode m.mode other, lt-ltb CLOCK_LIMIT.0 r.tick h)

          pub refused_14 : r.tick ≤ CLOCK_LIMIT.0 → r.tick < m.ended → Run.refusal p m r ≡ Some Unended
          unfolding Run.refusal
          refused_14 k h =
              rw (
                old,
                le-ltb m.ended m.started ordered,
                new,
                ne_eqb r.mode m.mode other,
                le-ltb CLOCK_LIMIT.0 r.tick k,
                lt-ltb r.tick m.ended h,
              )

module _ {t : Table} {w : Plan} {words : List ℕ} (l : Leaves t w words) where
  -- a listed mode is in the range
  pub in_range : (m : ℕ) → T (is_listed t m) → (1 ≤ m) × (m ≤ MODES)
  in_range m h = let (some, (few, _)) = listed_is t (leaves_proper l) m h in (some, omega (arith, some, few))

  -- an accepted request
  module _ (m : Machine) (mode : ℕ) (clock : Tick) (a : Delay.Accepted (plan_of t w) (seen m) (asking mode clock)) where
    course_near : Near m (course_of w m.mode mode) clock
    course_near =
        let proper = leaves_proper l in
        let p = l.planned in
        record {
          some = (runs t w proper p m.mode a.old).ready.some_tick;
          iteration = omega (arith, iteration_short t w proper p m.mode a.old);
          old = let s = (runs t w proper p m.mode a.old).small in s.starts (part_of w m.mode).sink;
          new = let s = (runs t w proper p mode a.new).small in s.starts (part_of w mode).sink;
          offset = omega (arith, offset_short t w proper p m.mode mode a.old a.new a.other);
          clock = a.clock;
          started = omega (arith, a.ordered, a.settled);
        }

    left_is : (left_of m (course_of w m.mode mode) clock).0 ≡ Run.leaving (plan_of t w) (seen m) (asking mode clock)
    left_is =
        let h = (part_of w m.mode).iteration.0 in
        omega (
          arith,
          ap (λ (n : ℕ). n * h) (rounded_up (clock.0 - m.started.0) h course_near.some),
          mul_comm (rounded_of (clock.0 - m.started.0) h) h,
        )

    delay_is : delay_by m (course_of w m.mode mode) clock ≡ delay_of (plan_of t w) m mode clock
    delay_is = let p = plan_of t w in λ i. tick (left_is i + p.offset m.mode mode + sink_start p mode - clock.0)

    startup : (k : ℕ) → T (is_listed t k) → (pace_by (part_of w k)).sink_start ≡ (part_of w k).startup
    startup k h = let (some, few) = in_range k h in startup_is l (k - 1) (omega arith)

    changed_is : changed_by m (course_of w m.mode mode) mode clock ≡ changed_of (plan_of t w) m mode clock
    changed_is =
        let d = (plan_of t w).offset m.mode mode in
        λ i. record {
          mode = mode;
          started = tick (left_is i + d);
          ended = tick (max (left_is i + (startup m.mode a.old i).0) (left_is i + d + (startup mode a.new i).0));
        }

  pub accepts : {m : Machine} {mode : ℕ} {clock : Tick} {c : Course} {d : Tick} {n : Machine}
      → Run.refusal (plan_of t w) (seen m) (asking mode clock) ≡ None → c ≡ course_of w m.mode mode → d ≡ delay_by m c clock → n ≡ changed_by m c mode clock
      → Answers words m mode clock (Ok d) n
  accepts {m} {mode} {clock} h e f g =
      let a = Delay.accepted (plan_of t w) (seen m) (asking mode clock) h in
      rw (f, g, e, delay_is m mode clock a, changed_is m mode clock a) (accepted l h)

  pub near : {m : Machine} (mode : ℕ) {clock : Tick} {c : Course} → Run.refusal (plan_of t w) (seen m) (asking mode clock) ≡ None → c ≡ course_of w m.mode mode
      → Near m c clock
  near {m} mode {clock} h e = rw e (course_near m mode clock (Delay.accepted (plan_of t w) (seen m) (asking mode clock) h))

  pub begins : {mode k : ℕ} {e : Tick} → Meant t mode k → is_listed t k ≡ true → e ≡ (pace_by (part_of w k)).sink_start
      → Begins words mode (Ok (record { mode = k; started = tick 0; ended = e }))
  begins {k = k} m h e =
      let (some, few) = in_range k (is_true h) in
      rw (e ∙ startup_is l (k - 1) (omega arith)) (begun l m (is_true h))

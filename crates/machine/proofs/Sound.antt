-- The plan of a table is sound. Assumes nothing.
use mathlib.Core.Path.{◌≡◌, refl, sym, ap, subst}
use mathlib.Core.Bool.{Bool, true, false, not, cond, ◌&&◌, and-true}
use mathlib.Core.Logic.{◌≢◌}
use Prim.Native.Nat.{ℕ, suc, ◌+◌, ◌-◌, ◌*◌, ◌≤◌, ◌<◌}
use native.Mathlib.Omega.{arith}
use native.Mathlib.Decide.{dec_le}
use borrow.Author.Tests.{eqb-true}
use lib.Dec.{T, eqb, leb, ltb}
use Rattle.numbers.specs.Bits.{Has, hasb, has_decides}
use Rattle.numbers.specs.Decides.{Decides, decides_and, decides_not, decides_eqb, decides_leb, decides_true}
use Rattle.numbers.specs.Fraction.{AtMost, plus, sum_common, nothing}
use Rattle.numbers.specs.Sum.{sum_none}
use Rattle.numbers.specs.declared.fraction.Fraction.{Fraction}
use Rattle.units.specs.Bounds.{MOST_START}
use Rattle.units.specs.Limits.{MODES, ACTORS, PROCESSORS, ITERATION_LIMIT, LOAD_LIMIT}
use Rattle.units.specs.Firings.{firing}
use Rattle.units.specs.declared.Tick.{Tick}
use Rattle.units.specs.Ticks.{tick}
use Rattle.tables.specs.Shape.{Table, actor_at, Active}
use Rattle.tables.specs.Proper.{ProperActor, ProperTable}
use Rattle.graph.specs.Load.{asked_by}
use Rattle.change.specs.Change.{ModeTimes, Changes, period_in, asked_on, starts_after}
use Rattle.planning.specs.Shape.{Plan}
use Rattle.planning.specs.Plan.{Listed, change_at, times_of, Planned}
use Rattle.planning.proofs.Running.{listed_some, listed_none}
use Rattle.run.specs.Plan.{Acts}
use Rattle.run.specs.Machine.{worst}
use Rattle.run.proofs.Sound.{Sound}
use Rattle.machine.specs.Plan.{mode_of, part_of, is_listed, plan_of}
use Rattle.machine.proofs.Running.{Runs, mode_runs}

-- the number of a processor
abbrev Processor : ℕ → Type 0
Processor q = (1 ≤ q) × (q ≤ PROCESSORS)

processor_or_not : (q : ℕ) → Dec (Processor q)
processor_or_not q = go (dec_le 1 q) (dec_le q PROCESSORS)
  where
    go : Dec (1 ≤ q) → Dec (q ≤ PROCESSORS) → Dec (Processor q)
    go (yes a) (yes b) = yes (a, b)
    go (no a) d = no (λ h. a h.0)
    go (yes a) (no b) = no (λ h. b h.1)

-- of any other number nothing is asked
nowhere : (r : ModeTimes) → ((i : ℕ) → Active r.mode i → ProperActor (actor_at r.mode i)) → (q : ℕ) → (Processor q → ⊥) → (counts : ℕ → Bool) → (asked_on r q counts).over ≡ 0
nowhere r proper q n counts =
    omega (
      arith,
      sum_common _ (λ i. 0) 1 ACTORS (λ i l. go i l (hasb r.mode.active i) refl (eqb (actor_at r.mode i).processor q) refl (counts i)),
      ap (λ (s : ℕ). s * (asked_on r q counts).under) (sum_none (λ i. 0) ACTORS (λ i l. refl)),
    )
  where
    go : (i : ℕ) → i < ACTORS → (a : Bool) → hasb r.mode.active i ≡ a → (b : Bool) → eqb (actor_at r.mode i).processor q ≡ b → (c : Bool)
        → (cond ((a && b) && c) (asked_by r.mode (period_in r) i) nothing).over * 1 ≡ 0 * (cond ((a && b) && c) (asked_by r.mode (period_in r) i) nothing).under
    go i l true e true f c =
        let p = proper i (l, decides_true (has_decides r.mode.active i) e) in
        let is = eqb-true (actor_at r.mode i).processor q f in
        absurd (n (subst Processor is (p.some_processor, p.processor)))
    go i l true e false f c = omega arith
    go i l false e b f c = omega arith

-- nothing, twice, is at most the whole
neither : (a b : Fraction) → a.over ≡ 0 → b.over ≡ 0 → AtMost (plus a b) LOAD_LIMIT
neither a b p q = omega (arith, ap (λ (n : ℕ). n * b.under) p, ap (λ (n : ℕ). n * a.under) q)

module _ (t : Table) (proper : ProperTable t) where
  listed : (m : ℕ) → Decides ((1 ≤ m) × ((m ≤ MODES) × ((mode_of t m).active ≡ 0 → ⊥))) (is_listed t m)
  listed m =
      decides_and (leb 1 m) (leb m MODES && not (eqb (mode_of t m).active 0)) (decides_leb 1 m)
      (decides_and (leb m MODES) (not (eqb (mode_of t m).active 0)) (decides_leb m MODES)
      (decides_not (eqb (mode_of t m).active 0) (decides_eqb (mode_of t m).active 0 ((λ (e : (mode_of t m).active ≡ 0). e), (λ (e : (mode_of t m).active ≡ 0). e)))))

  -- the modes that can be run are those of the table that have an actor
  pub listed_is : (m : ℕ) → T (is_listed t m) → (1 ≤ m) × Listed t (m - 1)
  listed_is m h = let (some, (few, actor)) = (listed m).0 h in (some, listed_some t (m - 1) proper (omega (arith, some, few)) actor)

  pub is_listed_law : (m : ℕ) → 1 ≤ m → Listed t (m - 1) → T (is_listed t m)
  is_listed_law m some l = (listed m).1 (some, (omega (arith, some, l.0), listed_none t (m - 1) l))

module _ (t : Table) (w : Plan) (proper : ProperTable t) (planned : Planned t w) where
  abbrev times : ℕ → ModeTimes
  times m = times_of (mode_of t m) (part_of w m)

  -- each of them is planned
  pub runs : (m : ℕ) → T (is_listed t m) → Runs (mode_of t m) (part_of w m)
  runs m h = let (some, l) = listed_is t proper m h in mode_runs (mode_of t m) (proper.mode (m - 1) l.0) (part_of w m) ((planned.part (m - 1) l.0).listed l)

  -- and so is each change between two of them
  pub changes : (o l : ℕ) → T (is_listed t o) → T (is_listed t l) → l ≢ o → Changes (times o) (times l) (change_at w (o - 1) (l - 1))
  changes o l ho hl other =
      let (a, old) = listed_is t proper o ho in
      let (b, new) = listed_is t proper l hl in
      (planned.change (o - 1) (l - 1) old.0 new.0).leads (old, new, λ e. other (omega (arith, a, b, e)))

  acts : (m i : ℕ) → Acts (plan_of t w) m i → (i < ACTORS) × Has (mode_of t m).active i
  acts m i a = (a.0, (has_decides (mode_of t m).active i).0 a.1)

  -- the worst delay
  pub worst_is : (o l : ℕ) → T (is_listed t o) → T (is_listed t l) → l ≢ o → worst (plan_of t w) o l ≡ (change_at w (o - 1) (l - 1)).worst.0
  worst_is o l ho hl other = ap (λ (s : Tick). s.0) (sym (changes o l ho hl other).worst)

  -- start-ups, iterations and offsets are short
  pub startup_short : (m : ℕ) → T (is_listed t m) → (plan_of t w).startup m ≤ MOST_START.0
  startup_short m h = (runs m h).small.startup

  pub iteration_short : (m : ℕ) → T (is_listed t m) → (plan_of t w).iteration m ≤ ITERATION_LIMIT.0
  iteration_short m h = omega (arith, (runs m h).ready.iteration)

  pub offset_short : (o l : ℕ) → T (is_listed t o) → T (is_listed t l) → l ≢ o → (plan_of t w).offset o l ≤ MOST_START.0
  offset_short o l ho hl other = omega (arith, (changes o l ho hl other).offset.holds.1, (runs o ho).small.startup)

  pub sound : Sound (plan_of t w)
  sound =
      record {
        bound = suc MODES;
        below = λ m h. let (some, l) = listed_is t proper m h in omega (arith, some, l.0);
        some_tick = λ m h. (runs m h).ready.some_tick;
        room = λ m h. omega (arith, startup_short m h, iteration_short m h);
        some_period = λ m i h a. (runs m h).ready.period i (acts m i a);
        filled = λ m i h a. (runs m h).ready.whole i (acts m i a);
        on_time = λ m i h a. (runs m h).ready.start i a.0;
        from_acts = λ m c h l.
            let p = (proper.mode (m - 1) (listed_is t proper m h).1.0).channel c l in (p.from, (has_decides (mode_of t m).active _).1 p.from_active);
        to_acts = λ m c h l. let p = (proper.mode (m - 1) (listed_is t proper m h).1.0).channel c l in (p.to, (has_decides (mode_of t m).active _).1 p.to_active);
        balanced = λ m c h l k. (runs m h).balanced c l k;
        fed = λ m c h l n some e ended. (runs m h).fed c l n some _ (firing e, ended, refl);
        sized = λ m c h l x b e v begun ended claimed. ((runs m h).size c l).greatest v (tick x, (firing b, firing e, begun, ended, claimed));
        load = λ m q h. alone m q h (processor_or_not q);
        change = λ o l q k ho hl other d s. together o l q k ho hl other d s (processor_or_not q);
        waits = λ o l i ho hl other a b. starts_after (times o) (times l) (changes o l ho hl other) i (acts o i a) (acts l i b);
      }
    where
      alone : (m q : ℕ) → T (is_listed t m) → Dec (Processor q) → AtMost (asked_on (times m) q (λ i. true)) LOAD_LIMIT
      alone m q h (yes p) = simp and-true ((runs m h).ready.load q p.0 p.1)
      alone m q h (no n) = omega (arith, nowhere (times m) (runs m h).ready.actor q n (λ i. true))

      together : (o l q k : ℕ) → T (is_listed t o) → T (is_listed t l) → l ≢ o → (plan_of t w).offset o l ≤ k → k ≤ (plan_of t w).startup o → Dec (Processor q)
          → AtMost (plus (asked_on (times o) q (λ i. ltb k ((plan_of t w).start o i))) (asked_on (times l) q (λ i. leb ((plan_of t w).offset o l + (plan_of t w).start l i) k))) LOAD_LIMIT
      together o l q k ho hl other d s (yes p) = (changes o l ho hl other).offset.holds.2 k q d s p.0 p.1
      together o l q k ho hl other d s (no n) = neither _ _ (nowhere (times o) (runs o ho).ready.actor q n _) (nowhere (times l) (runs l hl).ready.actor q n _)

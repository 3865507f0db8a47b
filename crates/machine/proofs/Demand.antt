-- Demand 3, of the words that an accepted table leaves and of every machine that answers by the rules. Assumes nothing.
use mathlib.Core.Path.{◌≡◌, refl, sym, ap, subst, ◌∙◌}
use mathlib.Core.Logic.{◌≢◌}
use mathlib.Core.List.{List}
use Prim.Native.Nat.{ℕ, ◌+◌, ◌-◌, ◌≤◌, zero-le}
use native.Mathlib.Omega.{arith}
use lib.Dec.{T}
use Rattle.std.specs.Prelude.{None, Result, Ok}
use Rattle.units.specs.declared.Tick.{Tick}
use Rattle.units.specs.Ticks.{tick}
use Rattle.terms.specs.declared.refusal.Refusal.{Refusal}
use Rattle.tables.specs.Shape.{Table}
use Rattle.planning.specs.Shape.{Plan}
use Rattle.planning.specs.Plan.{change_at}
use Rattle.run.specs.Machine as Run
use Rattle.run.specs.Machine.{Request, Run, begin, answer, run}
use Rattle.run.specs.Demand.{sink_set, place, RightRuns, OrderlyRuns}
use Rattle.run.proofs.Sound.{Sound}
use Rattle.run.proofs.Delay as Delay
use Rattle.run.proofs.Beside as Beside
use Rattle.run.proofs.Demand.{demand_3}
use Rattle.machine.specs.Plan.{is_listed, plan_of}
use Rattle.machine.proofs.Sound.{sound, worst_is}
use Rattle.planner.specs.Plans.{Leaves}
use Rattle.planner.proofs.Leaving.{leaves_stored, leaves_table, leaves_plan, leaves_proper}
use Rattle.machine.specs.declared.Machine.{Machine}
use Rattle.machine.specs.Answers.{seen, asking, machine, Meant, Begins, changed_of, Answers, Follows}
use Rattle.machine.proofs.Unique.{same_refusal}

module _ {t : Table} {w : Plan} {words : List ℕ} (l : Leaves t w words) where
  -- an answer of the machine leaves the machine of the run
  pub answers_run : {m n : Machine} {a : Result Tick Refusal} (s : Run) (r : Request) → seen m ≡ s.now → Answers words m r.mode (tick r.tick) a n
      → seen n ≡ (answer (plan_of t w) s r).now
  unfolding answer
  answers_run {m} s r e x = go x
    where
      go : {n : Machine} {a : Result Tick Refusal} → Answers words m r.mode (tick r.tick) a n → seen n ≡ (answer (plan_of t w) s r).now
      go (Answers.not_stored n) = absurd (n (leaves_stored l))
      go (Answers.refused k f) = rw (sym (same_refusal k l r e) ∙ f) e
      go (Answers.accepted k f) =
          rw (sym (same_refusal k l r e) ∙ f)
          (λ i. Run.changed (plan_of (leaves_table k l i) (leaves_plan k l i)) (e i) r)

  -- answered one after the other, requests lead to the machine of the run
  pub follows_run : {m n : Machine} {rs : List Request} (s : Run) → seen m ≡ s.now → Follows words m rs n → seen n ≡ (run (plan_of t w) s rs).now
  unfolding run
  follows_run s e Follows.none = e
  follows_run s e (Follows.first {r = r} a f) = follows_run (answer (plan_of t w) s r) (answers_run s r e a) f

  -- A machine that is begun, and then answers any requests, is the machine of a run in the mode that is meant.
  begun_is : {mode : ℕ} {x : Result Machine Refusal} (m : Machine) → Begins words mode x → x ≡ Ok m
      → (k : ℕ) × Meant t mode k × T (is_listed t k) × (seen m ≡ (begin (plan_of t w) k).now)
  begun_is m (Begins.not_stored n) e = absurd cc
  begun_is m (Begins.not_listed p q r) e = absurd cc
  begun_is {mode} m (Begins.begun {t = u} {w = v} {k = k} p q r) e =
      let same : machine (begin (plan_of u v) k).now ≡ m = cc in (
        k,
        subst (λ (u : Table). Meant u mode k) (leaves_table p l) q,
        subst (λ (u : Table). T (is_listed u k)) (leaves_table p l) r,
        sym (ap seen same) ∙ (λ i. (begin (plan_of (leaves_table p l i) (leaves_plan p l i)) k).now),
      )

  pub begun_run : {mode : ℕ} {m n : Machine} {rs : List Request} → Begins words mode (Ok m) → Follows words m rs n
      → (k : ℕ) × Meant t mode k × T (is_listed t k) × (seen n ≡ (run (plan_of t w) (begin (plan_of t w) k) rs).now)
  begun_run {m = m} b f = let (k, d, h, e) = begun_is m b refl in (k, d, h, follows_run (begin (plan_of t w) k) e f)

  plan_sound : Sound (plan_of t w)
  plan_sound = sound t w (leaves_proper l) l.planned

  pub right : RightRuns (plan_of t w)
  right = demand_3 (plan_of t w) plan_sound

  pub orderly : OrderlyRuns (plan_of t w)
  orderly = Beside.orderly (plan_of t w) plan_sound

  -- a request that is told a delay is accepted by the run of the plan, and is told the run's
  pub granted : {m n : Machine} {a : Result Tick Refusal} {d : Tick} (mode : ℕ) (clock : Tick) → Answers words m mode clock a n → a ≡ Ok d
      → (Run.refusal (plan_of t w) (seen m) (asking mode clock) ≡ None) × (d ≡ tick (Run.delay (plan_of t w) (seen m) (asking mode clock)))
      × (seen n ≡ Run.changed (plan_of t w) (seen m) (asking mode clock))
  granted {m} {d = d} mode clock x e = go x e
    where
      go : {n : Machine} {a : Result Tick Refusal} → Answers words m mode clock a n → a ≡ Ok d
          → (Run.refusal (plan_of t w) (seen m) (asking mode clock) ≡ None) × (d ≡ tick (Run.delay (plan_of t w) (seen m) (asking mode clock)))
          × (seen n ≡ Run.changed (plan_of t w) (seen m) (asking mode clock))
      go (Answers.not_stored n) e = absurd (n (leaves_stored l))
      go (Answers.refused k f) e = absurd cc
      go (Answers.accepted {t = u} {w = v} k f) e =
          let told : tick (Run.delay (plan_of u v) (seen m) (asking mode clock)) ≡ d = cc in (
            sym (same_refusal k l (asking mode clock) (refl {a = seen m})) ∙ f,
            sym told ∙ (λ i. tick (Run.delay (plan_of (leaves_table k l i) (leaves_plan k l i)) (seen m) (asking mode clock))),
            (λ i. Run.changed (plan_of (leaves_table k l i) (leaves_plan k l i)) (seen m) (asking mode clock)),
          )

  -- the delay is from the request to the tick set for the sink's first firing
  pub delayed : {m n : Machine} {d : Tick} (mode : ℕ) (clock : Tick) → Answers words m mode clock (Ok d) n → sink_set (plan_of t w) (seen n) ≡ clock.0 + d.0
  delayed {m} mode clock x =
      let (h, f, g) = granted mode clock x refl in
      ap (sink_set (plan_of t w)) g ∙ Delay.delay_set (plan_of t w) plan_sound (seen m) (asking mode clock) h ∙ ap (λ (d : Tick). clock.0 + d.0) (sym f)

  -- the worst delay is the one that is planned: no accepted request is told more ..
  planned_worst : (o n : ℕ) → T (is_listed t o) → T (is_listed t n) → n ≢ o → Run.worst (plan_of t w) o n ≡ (change_at w (o - 1) (n - 1)).worst.0
  planned_worst = worst_is t w (leaves_proper l) l.planned

  pub never_above : {m n : Machine} {d : Tick} (mode : ℕ) (clock : Tick) → Answers words m mode clock (Ok d) n
      → d.0 ≤ (change_at w (m.mode - 1) (mode - 1)).worst.0
  never_above {m} mode clock x =
      let (h, f, _) = granted mode clock x refl in
      let a = Delay.accepted (plan_of t w) (seen m) (asking mode clock) h in
      omega (
        arith,
        Delay.delay_worst (plan_of t w) plan_sound (seen m) (asking mode clock) h,
        planned_worst m.mode mode a.old a.new a.other,
        ap (λ (d : Tick). d.0) f,
      )

  -- .. and some request to a machine that has begun in the old mode is told it
  pub reached : (o n : ℕ) → T (is_listed t o) → T (is_listed t n) → n ≢ o
      → (clock : Tick) × (k : Machine) × Answers words (machine (begin (plan_of t w) o).now) n clock (Ok (change_at w (o - 1) (n - 1)).worst) k
  reached o n ho hn other =
      let p = plan_of t w in
      let m = machine (begin p o).now in
      let (r, new, f, d) = Delay.delay_reached p plan_sound (begin p o).now n ho hn other zero-le (plan_sound.room o ho) in
      let e : r ≡ asking n (tick r.tick) = λ i. record { mode = new i; tick = r.tick } in
      let told : Run.delay p (begin p o).now (asking n (tick r.tick)) ≡ (change_at w (o - 1) (n - 1)).worst.0
      = ap (Run.delay p (begin p o).now) (sym e) ∙ d ∙ planned_worst o n ho hn other in (
        tick r.tick,
        changed_of p m n (tick r.tick),
        subst (λ (d : ℕ). Answers words m n (tick r.tick) (Ok (tick d)) (changed_of p m n (tick r.tick))) told
            (Answers.accepted l (subst (λ (q : Request). Run.refusal p (begin p o).now q ≡ None) e f)),
      )

  -- the delay depends on the two modes and the place in the old iteration alone
  pub alone : {m n j k : Machine} {d e : Tick} (mode : ℕ) (clock later : Tick) → Answers words m mode clock (Ok d) j → Answers words n mode later (Ok e) k
      → m.mode ≡ n.mode → place (plan_of t w) (seen m) (asking mode clock) ≡ place (plan_of t w) (seen n) (asking mode later) → d ≡ e
  alone {m} {n} mode clock later x y same here =
      let (h, f, _) = granted mode clock x refl in
      let (k, g, _) = granted mode later y refl in
      f ∙ ap tick (Delay.delay_same (plan_of t w) plan_sound (seen m) (seen n) (asking mode clock) (asking mode later) h k same refl here) ∙ sym g

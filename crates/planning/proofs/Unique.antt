-- A table has one outcome only. Assumes nothing.
use mathlib.Core.Path.{◌≡◌, refl, sym, ap, ap₂, subst, subst₂, ◌∙◌}
use mathlib.Core.List.{List, []}
use mathlib.Core.Logic.{⊎_elim}
use Prim.Native.Nat.{ℕ, ◌+◌, ◌*◌, ◌/◌, ◌%◌, ◌<◌, zero-le}
use native.Mathlib.Nat.{le_antisymm}
use native.Mathlib.Omega.{arith}
use native.Mathlib.Decide.{dec_lt, ℕ_discrete}
use lib.ListN.{get_or}
use lib.Seq.{ext_get_or}
use Rattle.numbers.specs.Bits.{hasb, has_decides}
use Rattle.numbers.specs.Decides.{decides_true, decides_false}
use Rattle.numbers.specs.Lowest.{sought}
use Rattle.units.specs.Limits.{MODES, ACTORS}
use Rattle.units.specs.declared.Tick.{Tick}
use Rattle.units.specs.Ticks.{tick}
use Rattle.units.specs.Firings.{firing}
use Rattle.period.specs.Period.{period_of}
use Rattle.std.specs.Prelude.{Result, Ok, Err}
use Rattle.terms.specs.Refusal.{refusal_at}
use Rattle.terms.specs.declared.refusal.Reason.TheVariants.{Overload, Late as TooLate}
use Rattle.terms.specs.declared.refusal.Place.TheVariants.{Actor as AtActor, Processor as AtProcessor}
use Rattle.terms.specs.declared.refusal.Refusal.{Refusal}
use Rattle.terms.specs.Place.{number_of}
use Rattle.tables.specs.Shape.{Mode, Table, mode_at}
use Rattle.graph.specs.declared.Judgement.{Judgement}
use Rattle.graph.specs.Balance.{firings_of}
use Rattle.graph.specs.Load.{Overloaded}
use Rattle.graph.proofs.Unique.{only_unique, of_actors_law, smallest_same, lengths_same, over_again}
use Rattle.schedule.specs.declared.Late.{Late as Lateness}
use Rattle.schedule.specs.declared.Timetable.{Timetable}
use Rattle.schedule.specs.Starts.{Starts, Late}
use Rattle.schedule.specs.Scheduled.{Scheduled}
use Rattle.schedule.proofs.Unique.{starts_unique, scheduled_unique}
use Rattle.change.specs.Running.{Running}
use Rattle.change.specs.declared.Timing.{Timing}
use Rattle.change.specs.Change.{Changes, changes_unique}
use Rattle.planning.specs.declared.ModePlan.{ModePlan}
use Rattle.planning.specs.Shape.{Plan}
use Rattle.planning.specs.Nothing.{no_part, no_timing}
use Rattle.planning.specs.Plan.{change_at, Listed, periods_of, Balanced, ModeRefused, by_6, by_7, by_8, by_9, by_10, ModePlanned, IsPart, times_of, Leads, IsChange, Planned, Planning, refused, planned}
use Rattle.planning.specs.OneMode.{Comes}
use Rattle.planning.specs.Changes.{Between}
use Rattle.planning.specs.Steps.{part_from}
use Rattle.planning.proofs.Told.{unbalanced_not, judgement_of, timetable_of, planned_scheduled}

-- the same timetable
ok_same : {x y : Timetable} → ◌≡◌ {A = Result Timetable Lateness} (Ok x) (Ok y) → x ≡ y
ok_same e = cc

module _ {m : Mode} where
  -- a mode is reckoned in one way only
  module _ {s t u v : ℕ} {x y : ℕ → ℕ} {h g : Tick} (p : Balanced m s t x h) (q : Balanced m u v y g) where
    periods_same : periods_of m x h ≡ periods_of m y g
    periods_same =
        of_actors_law m (λ i. period_of h (firings_of m x i)) (λ i. period_of g (firings_of m y i)) (tick 0)
        (λ i a. ap (λ (n : ℕ). period_of h (firings_of m (λ (j : ℕ). n) i)) (smallest_same m x y p.smallest q.smallest i a)
        ∙ ap (λ (t : Tick). period_of t (firings_of m y i)) (lengths_same m x y p.smallest q.smallest p.iteration q.iteration))

    over_same : (n : ℕ) → Overloaded m x h n → Overloaded m y g n
    over_same = over_again m x y p.smallest q.smallest p.iteration q.iteration

    late_same : {b c : ℕ → Tick} → Starts m (periods_of m x h) b → Starts m (periods_of m y g) c → (i : ℕ) → Late m b t i → Late m c v i
    late_same {b} {c} d e i =
        let same : b ≡ c = starts_unique m (periods_of m y g) (subst (λ (ps : List Tick). Starts m ps b) periods_same d) e in
        subst₂ (λ (b : ℕ → Tick) (t : ℕ). Late m b t i) same (only_unique _ p.ends.1 q.ends.1)

  -- a mode has one refusal, or one part, and not both
  pub refusal_unique : {n : ℕ} {r s : Refusal} → ModeRefused m n r → ModeRefused m n s → r ≡ s
  refusal_unique (by_6 c) (by_6 d) = refl
  refusal_unique (by_6 c) (by_7 n e) = absurd (n c)
  refusal_unique (by_6 c) (by_8 n e u) = absurd (n c)
  refusal_unique (by_6 c) (by_9 p o) = absurd (p.acyclic c)
  refusal_unique (by_6 c) (by_10 p f b l) = absurd (p.acyclic c)
  refusal_unique (by_7 n e) (by_6 c) = absurd (n c)
  refusal_unique (by_7 n e) (by_7 k d) = refl
  refusal_unique (by_7 n e) (by_8 k d u) = absurd (e _ _ d)
  refusal_unique (by_7 n e) (by_9 p o) = absurd (e _ _ p.ends)
  refusal_unique (by_7 n e) (by_10 p f b l) = absurd (e _ _ p.ends)
  refusal_unique (by_8 n e u) (by_6 c) = absurd (n c)
  refusal_unique (by_8 n e u) (by_7 k d) = absurd (d _ _ e)
  refusal_unique (by_8 n e u) (by_8 k d v) = refl
  refusal_unique (by_8 n e u) (by_9 p o) = absurd (unbalanced_not u p)
  refusal_unique (by_8 n e u) (by_10 p f b l) = absurd (unbalanced_not u p)
  refusal_unique (by_9 p o) (by_6 c) = absurd (p.acyclic c)
  refusal_unique (by_9 p o) (by_7 k d) = absurd (d _ _ p.ends)
  refusal_unique (by_9 p o) (by_8 k d u) = absurd (unbalanced_not u p)
  refusal_unique {n} (by_9 p o) (by_9 q w) =
      ap (λ (i : ℕ). refusal_at Overload (AtProcessor n (number_of i)))
      (le_antisymm (o.least _ (over_same q p _ w.holds)) (w.least _ (over_same p q _ o.holds)))
  refusal_unique (by_9 p o) (by_10 q f b l) = absurd (f _ (over_same p q _ o.holds))
  refusal_unique (by_10 p f b l) (by_6 c) = absurd (p.acyclic c)
  refusal_unique (by_10 p f b l) (by_7 k d) = absurd (d _ _ p.ends)
  refusal_unique (by_10 p f b l) (by_8 k d u) = absurd (unbalanced_not u p)
  refusal_unique (by_10 p f b l) (by_9 q o) = absurd (f _ (over_same q p _ o.holds))
  refusal_unique {n} (by_10 p f b l) (by_10 q g c k) =
      ap (λ (i : ℕ). refusal_at TooLate (AtActor n (number_of i)))
      (le_antisymm (l.least _ (late_same q p c b _ k.holds)) (k.least _ (late_same p q b c _ l.holds)))

  pub part_unique : {p q : ModePlan} → ModePlanned m p → ModePlanned m q → p ≡ q
  part_unique {p} {q} a b =
      let n = a.balanced in
      let k = b.balanced in
      let source : p.source ≡ q.source = only_unique _ n.ends.0 k.ends.0 in
      let sink : p.sink ≡ q.sink = only_unique _ n.ends.1 k.ends.1 in
      let iteration : p.iteration ≡ q.iteration = lengths_same m a.counts b.counts n.smallest k.smallest n.iteration k.iteration in
      let firings : p.firings ≡ q.firings
      = a.firings
      ∙ of_actors_law m (firings_of m a.counts) (firings_of m b.counts) (firing 0)
      (λ i h. ap (λ (n : ℕ). firings_of m (λ (j : ℕ). n) i) (smallest_same m a.counts b.counts n.smallest k.smallest i h))
      ∙ sym b.firings in
      let periods : p.periods ≡ q.periods = a.periods ∙ periods_same n k ∙ sym b.periods in
      let judgement : judgement_of [] p ≡ judgement_of [] q
      = λ i. record { source = source i; sink = sink i; iteration = iteration i; depths = []; firings = firings i; periods = periods i } in
      ap₂ part_from judgement
      (ok_same (scheduled_unique m _ (subst (λ (j : Judgement). Scheduled m j (Ok (timetable_of p))) judgement (planned_scheduled a [])) (planned_scheduled b [])))

  pub planned_refused : {p : ModePlan} {n : ℕ} {r : Refusal} → ModePlanned m p → ModeRefused m n r → ⊥
  planned_refused w (by_6 c) = w.balanced.acyclic c
  planned_refused w (by_7 k e) = e _ _ w.balanced.ends
  planned_refused w (by_8 k e u) = unbalanced_not u w.balanced
  planned_refused w (by_9 q o) = w.bearable _ (over_same q w.balanced _ o.holds)
  planned_refused w (by_10 q g c l) = w.prompt _ (late_same q w.balanced c (subst (λ (ps : List Tick). Starts m ps w.begin) w.periods w.least) _ l.holds)

-- one thing comes of a mode
pub comes_unique : (m : Mode) (n : ℕ) (x y : Result ModePlan Refusal) → Comes m n x → Comes m n y → x ≡ y
comes_unique m n (Ok p) (Ok q) a b = ap Ok (part_unique a b)
comes_unique m n (Ok p) (Err s) a b = absurd (planned_refused a b)
comes_unique m n (Err r) (Ok q) a b = absurd (planned_refused b a)
comes_unique m n (Err r) (Err s) a b = ap Err (refusal_unique a b)

-- there is one change between two modes as they run
pub between_unique : (old new : Running) (k l : ℕ) {c d : Timing} → Between old new k l c → Between old new k l d → c ≡ d
between_unique old new k l {c} {d} p q = go (ℕ_discrete old.active 0) (ℕ_discrete new.active 0) (ℕ_discrete k l)
  where
    go : Dec (old.active ≡ 0) → Dec (new.active ≡ 0) → Dec (k ≡ l) → c ≡ d
    go (no a) (no b) (no n) = changes_unique _ _ (p.0 a b n) (q.0 a b n)
    go (no a) (no b) (yes e) = p.1 (λ h. h.2 e) ∙ sym (q.1 (λ h. h.2 e))
    go (no a) (yes b) n = p.1 (λ h. h.1 b) ∙ sym (q.1 (λ h. h.1 b))
    go (yes a) b n = p.1 (λ h. h.0 a) ∙ sym (q.1 (λ h. h.0 a))

module _ (t : Table) where
  -- a mode is listed or not
  pub listed_or_not : (k : ℕ) → k < MODES → Dec (Listed t k)
  listed_or_not k l =
      ⊎_elim (λ w. yes (l, (w.0, (w.1.below, decides_true (has_decides (mode_at t k).active w.0) w.1.passes))))
      (λ n. no (λ w. decides_false (has_decides (mode_at t k).active w.1.0) (n w.1.0 zero-le w.1.1.0) w.1.1.1))
      (sought (hasb (mode_at t k).active) ACTORS 0)

  pub leads_or_not : (k l : ℕ) → k < MODES → l < MODES → Dec (Leads t k l)
  leads_or_not k l hk hl = go (listed_or_not k hk) (listed_or_not l hl) (ℕ_discrete k l)
    where
      go : Dec (Listed t k) → Dec (Listed t l) → Dec (k ≡ l) → Dec (Leads t k l)
      go (yes x) (yes y) (no z) = yes (x, y, z)
      go (yes x) (yes y) (yes z) = no (λ h. h.2 z)
      go (yes x) (no y) z = no (λ h. y h.1)
      go (no x) y z = no (λ h. x h.0)

  is_part_unique : (k : ℕ) {p q : ModePlan} → k < MODES → IsPart t k p → IsPart t k q → p ≡ q
  is_part_unique k {p} {q} l a b = go (listed_or_not k l)
    where
      go : Dec (Listed t k) → p ≡ q
      go (yes h) = part_unique (a.listed h) (b.listed h)
      go (no n) = a.unlisted n ∙ sym (b.unlisted n)

  module _ (w v : Plan) (a : Planned t w) (b : Planned t v) where
    parts_same : w.parts ≡ v.parts
    parts_same =
        ext_get_or no_part w.parts v.parts (a.parts_long ∙ sym b.parts_long)
        (λ k l. let h : k < MODES = omega (arith, a.parts_long) in is_part_unique k h (a.part k h) (b.part k h))

    change_same : (k l : ℕ) → k < MODES → l < MODES → change_at w k l ≡ change_at v k l
    change_same k l hk hl = go (a.change k l hk hl) (b.change k l hk hl) (leads_or_not k l hk hl)
      where
        go : IsChange t w k l (change_at w k l) → IsChange t v k l (change_at v k l) → Dec (Leads t k l) → change_at w k l ≡ change_at v k l
        go p q (no n) = p.leads_not n ∙ sym (q.leads_not n)
        go p q (yes h) =
            changes_unique _ _ (p.leads h)
            (subst (λ (ps : List ModePlan). Changes (times_of (mode_at t k) (get_or ps k no_part)) (times_of (mode_at t l) (get_or ps l no_part)) (change_at v k l)) (sym parts_same) (q.leads h))

    changes_same : w.changes ≡ v.changes
    changes_same =
        ext_get_or no_timing w.changes v.changes (a.changes_long ∙ sym b.changes_long)
        (λ n l.
        let e : MODES * (n / MODES) + n % MODES ≡ n = omega arith in
        subst (λ (i : ℕ). get_or w.changes i no_timing ≡ get_or v.changes i no_timing) e
        (change_same (n / MODES) (n % MODES) (omega (arith, a.changes_long)) (omega arith)))

    pub plan_unique : w ≡ v
    plan_unique = λ i. record { parts = parts_same i; changes = changes_same i }

  -- one outcome
  pub planning_unique : {x y : Result Plan Refusal} → Planning t x → Planning t y → x ≡ y
  planning_unique (refused {k} {r} a f p) (refused {k = l} {r = s} b g q) = go (dec_lt k l) (dec_lt l k)
    where
      go : Dec (k < l) → Dec (l < k) → ◌≡◌ {A = Result Plan Refusal} (Err r) (Err s)
      go (yes h) d = absurd (planned_refused (g k h a).1 p)
      go (no n) (yes h) = absurd (planned_refused (f l h b).1 q)
      go (no n) (no d) =
          let e : l ≡ k = omega (arith, n, d) in
          ap Err (refusal_unique p (subst (λ (k : ℕ). ModeRefused (mode_at t k) (number_of k) s) e q))
  planning_unique (refused {k} a f p) (planned w) = absurd (planned_refused ((w.part k a.0).listed a) p)
  planning_unique (planned w) (refused {k} b g q) = absurd (planned_refused ((w.part k b.0).listed b) q)
  planning_unique (planned {w} a) (planned {w = v} b) = ap Ok (plan_unique w v a b)

-- What comes of the modes of a table and of the changes between them, reckoned. Assumes nothing.
use mathlib.Core.Path.{◌≡◌, refl, sym, subst}
use mathlib.Core.Bool.{Bool, true, false, cond, not, ◌&&◌}
use mathlib.Core.List.{List}
use Prim.Native.Nat.{ℕ, ◌*◌, ◌/◌, ◌%◌}
use native.Mathlib.Omega.{arith}
use borrow.Author.Tests.{eqb-true, eqb-false}
use lib.Dec.{eqb}
use Rattle.numbers.specs.Filled.{filled_whole}
use Rattle.numbers.specs.Tab.{tab, length_tab, get_or_tab}
use Rattle.units.specs.Limits.{MODES, limit_of}
use Rattle.units.specs.declared.Tick.{Tick}
use Rattle.terms.specs.Refusal.{refusal_at}
use Rattle.terms.specs.declared.refusal.Reason.TheVariants.{Late as TooLate}
use Rattle.terms.specs.declared.refusal.Refusal.{Refusal}
use Rattle.terms.specs.declared.refusal.Place.TheVariants.{Actor as AtActor}
use Rattle.terms.specs.Place.{number_of}
use Rattle.tables.specs.Shape.{Mode}
use Rattle.tables.specs.Proper.{ProperMode}
use Rattle.graph.specs.declared.Fault.{Fault}
use Rattle.graph.specs.declared.Judgement.{Judgement}
use Rattle.graph.specs.Judged.{Judged}
use Rattle.graph.specs.Judge.{judge_of}
use Rattle.graph.proofs.Judging.{judge_judged}
use Rattle.schedule.specs.declared.Late.{Late as Lateness}
use Rattle.schedule.specs.declared.Timetable.{Timetable}
use Rattle.schedule.specs.Scheduled.{Scheduled}
use Rattle.schedule.specs.Model.{schedule_of}
use Rattle.schedule.proofs.Modelled.{schedule_scheduled}
use Rattle.change.specs.declared.Timing.{Timing}
use Rattle.change.specs.Change.{worst_of}
use Rattle.change.specs.Running.{Running, mode_times, Ready}
use Rattle.change.specs.Waits.{overlap_of, offset_from}
use Rattle.change.proofs.Offsets.{found}
use Rattle.planning.specs.declared.ModePlan.{ModePlan}
use Rattle.std.specs.Prelude.{Result, Ok, Err}
use Rattle.planning.specs.Nothing.{no_timing, empty_part}
use Rattle.planning.specs.OneMode.{Comes}
use Rattle.planning.specs.Changes.{running_at, AllReady, Between, ChangeOf, FoundChanges}
use Rattle.planning.specs.Steps.{refusal_by, part_from, AnyComes}
use Rattle.planning.proofs.Told.{judged_refuses, scheduled_refuses, scheduled_planned}

-- what comes of the mode with number n, by what is judged of it and by its timetable
abbrev pub timed_by : ℕ → Judgement → Result Timetable Lateness → Result ModePlan Refusal
timed_by n j (Ok s) = Ok (part_from j s)
timed_by n j (Err l) = Err (refusal_at TooLate (AtActor n (number_of l.actor)))

abbrev pub answer_by : Mode → ℕ → Result Judgement Fault → Result ModePlan Refusal
answer_by m n (Ok j) = timed_by n j (schedule_of m j)
answer_by m n (Err f) = Err (refusal_by n f)

-- of a mode with an actor, and of any mode
abbrev pub answer_in : Mode → ℕ → Result ModePlan Refusal
answer_in m n = answer_by m n (judge_of m)

unfoldable pub answer_of : Mode → ℕ → Result ModePlan Refusal
answer_of m n = cond (eqb m.active 0) (Ok empty_part) (answer_in m n)

any_decided : (m : Mode) (n : ℕ) (a : Result ModePlan Refusal) → (m.active ≡ 0 → ⊥) → Comes m n a → AnyComes m n a
any_decided m n (Ok p) h c = ((λ l. c), (λ e. absurd (h e)))
any_decided m n (Err r) h c = (h, c)

module _ (m : Mode) (n : ℕ) (proper : ProperMode m) where
  pub mode_decides : Comes m n (answer_in m n)
  mode_decides = judged (judge_of m) (judge_judged m proper)
    where
      timed : (j : Judgement) (s : Result Timetable Lateness) → Judged m (Ok j) → Scheduled m j s → Comes m n (timed_by n j s)
      timed j (Ok s) p q = scheduled_planned p q
      timed j (Err l) p q = scheduled_refuses n p q

      judged : (a : Result Judgement Fault) → Judged m a → Comes m n (answer_by m n a)
      judged (Ok j) p = timed j (schedule_of m j) p (schedule_scheduled m j proper p)
      judged (Err f) p = judged_refuses n p

  pub any_mode_comes : AnyComes m n (answer_of m n)
  unfolding answer_of
  any_mode_comes = go (eqb m.active 0) refl
    where
      go : (b : Bool) → eqb m.active 0 ≡ b → AnyComes m n (cond b (Ok empty_part) (answer_in m n))
      go true e = ((λ h. absurd (h (eqb-true _ _ e))), (λ h. refl))
      go false e = any_decided m n (answer_in m n) (eqb-false _ _ e) mode_decides

-- the change between two modes as they run, where there is one
abbrev change_by : Running → Running → Tick → Timing
change_by old new d = record { overlap = overlap_of old new; offset = d; worst = worst_of (mode_times old) (mode_times new) d }

abbrev change_for : Running → Running → ℕ → ℕ → Timing
change_for old new k l =
    cond (not (eqb old.active 0) && (not (eqb new.active 0) && not (eqb k l)))
    (change_by old new (offset_from limit_of old new (overlap_of old new)))
    no_timing

between : (old new : Running) (k l : ℕ) → ((old.active ≡ 0 → ⊥) → Ready old) → ((new.active ≡ 0 → ⊥) → Ready new) → Between old new k l (change_for old new k l)
between old new k l ready-old ready-new = go (eqb old.active 0) (eqb new.active 0) (eqb k l) refl refl refl
  where
    go : (a b c : Bool) → eqb old.active 0 ≡ a → eqb new.active 0 ≡ b → eqb k l ≡ c
        → Between old new k l (cond (not a && (not b && not c)) (change_by old new (offset_from limit_of old new (overlap_of old new))) no_timing)
    go true b c e f g = ((λ x y z. absurd (x (eqb-true _ _ e))), (λ n. refl))
    go false true c e f g = ((λ x y z. absurd (y (eqb-true _ _ f))), (λ n. refl))
    go false false true e f g = ((λ x y z. absurd (z (eqb-true _ _ g))), (λ n. refl))
    go false false false e f g =
        let (x, d) = found old new (ready-old (eqb-false _ _ e)) (ready-new (eqb-false _ _ f)) refl refl in
        ((λ _ _ _. record { overlap = x; offset = d; worst = refl }), (λ n. absurd (n (eqb-false _ _ e, eqb-false _ _ f, eqb-false _ _ g))))

-- the changes between all pairs of running modes
abbrev pub changes_of : List Running → List Timing
changes_of rs = tab (MODES * MODES) (λ n. change_for (running_at rs (n / MODES)) (running_at rs (n % MODES)) (n / MODES) (n % MODES))

pub changes_found : (rs : List Running) → AllReady rs → FoundChanges rs (changes_of rs) (MODES * MODES)
changes_found rs ready =
    filled_whole (MODES * MODES) (ChangeOf rs) no_timing no_timing (changes_of rs) (length_tab (MODES * MODES) _)
    (λ n h. subst (ChangeOf rs n) (sym (get_or_tab (MODES * MODES) _ n no_timing h))
    (between _ _ _ _ (ready.ready (n / MODES) (omega arith)) (ready.ready (n % MODES) (omega arith))))

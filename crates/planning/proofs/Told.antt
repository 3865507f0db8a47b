-- What a judgement and a timetable say of a mode. Assumes nothing.
use mathlib.Core.Path.{subst}
use mathlib.Core.List.{List}
use Prim.Native.Nat.{ℕ}
use native.Mathlib.Nat.{not-le_of_lt}
use Rattle.units.specs.declared.Tick.{Tick}
use Rattle.std.specs.Prelude.{Result, Ok, Err}
use Rattle.terms.specs.Refusal.{refusal_at}
use Rattle.terms.specs.declared.refusal.Reason.TheVariants.{Late as TooLate}
use Rattle.terms.specs.declared.refusal.Place.TheVariants.{Actor as AtActor}
use Rattle.terms.specs.Place.{number_of}
use Rattle.tables.specs.Shape.{Mode}
use Rattle.tables.specs.Proper.{ProperMode}
use Rattle.graph.specs.declared.Fault.{Fault}
use Rattle.graph.specs.declared.Judgement.{Judgement}
use Rattle.graph.specs.Order.{Cyclic, Ranked}
use Rattle.graph.specs.Balance.{Unbalanced}
use Rattle.graph.specs.Judged.{Numbers, Judged, cyclic, no_ends, unbalanced, overloaded, sound}
use Rattle.graph.proofs.Judging.{judge_judged}
use Rattle.graph.proofs.Unique.{over_again}
use Rattle.schedule.specs.declared.Late.{Late as Lateness}
use Rattle.schedule.specs.declared.Timetable.{Timetable}
use Rattle.schedule.specs.Starts.{Starts}
use Rattle.schedule.specs.Scheduled.{Scheduled, late, on_time}
use Rattle.planning.specs.declared.ModePlan.{ModePlan}
use Rattle.planning.specs.Plan.{Balanced, ModeRefused, by_6, by_7, by_8, by_9, by_10, ModePlanned}
use Rattle.planning.specs.Steps.{refusal_by, part_from}

module _ {m : Mode} where
  pub numbers_balanced : {x : ℕ → ℕ} {j : Judgement} → (Cyclic m → ⊥) → Numbers m x j → Balanced m j.source j.sink x j.iteration
  numbers_balanced c p = record { acyclic = c; ends = p.ends; smallest = p.smallest; iteration = p.iteration; within = p.within }

  -- what is found of its graph refuses by its rule
  pub judged_refuses : {f : Fault} (n : ℕ) → Judged m (Err f) → ModeRefused m n (refusal_by n f)
  judged_refuses n (cyclic c) = by_6 c
  judged_refuses n (no_ends c d) = by_7 c d
  judged_refuses n (unbalanced c d u) = by_8 c d u
  judged_refuses n (overloaded x c d s i w o) = by_9 (record { acyclic = c; ends = d; smallest = s; iteration = i; within = w }) o

  module _ {j : Judgement} where
    -- a late actor refuses by its rule
    pub scheduled_refuses : {a : Lateness} (n : ℕ) → Judged m (Ok j) → Scheduled m j (Err a) → ModeRefused m n (refusal_at TooLate (AtActor n (number_of a.actor)))
    scheduled_refuses n (sound x c p f) (late s q l) =
        by_10 (numbers_balanced c p) f (subst (λ (ps : List Tick). Starts m ps s) p.periods q) l

    -- a mode that is judged sound and scheduled in time is planned
    pub scheduled_planned : {r : Timetable} → Judged m (Ok j) → Scheduled m j (Ok r) → ModePlanned m (part_from j r)
    scheduled_planned (sound x c p f) (on_time s starts prompt times) =
        record {
          counts = x;
          balanced = numbers_balanced c p;
          bearable = f;
          firings = p.firings;
          periods = p.periods;
          begin = s;
          least = starts;
          prompt = prompt;
          starts = times.starts;
          startup = times.startup;
          sizes = times.sizes;
          tokens = times.tokens;
        }

-- the limit that 8 speaks of is passed by every balance, or by none
pub unbalanced_not : {m : Mode} {s t : ℕ} {x : ℕ → ℕ} {h : Tick} → Unbalanced m → Balanced m s t x h → ⊥
unbalanced_not u p = not-le_of_lt (u _ _ p.smallest.balances p.iteration) p.within

-- the judgement and the timetable of a planned mode, whose actors have these depths
abbrev pub judgement_of : List ℕ → ModePlan → Judgement
judgement_of ds p =
    record { source = p.source; sink = p.sink; iteration = p.iteration; depths = ds; firings = p.firings; periods = p.periods }

abbrev pub timetable_of : ModePlan → Timetable
timetable_of p = record { startup = p.startup; starts = p.starts; sizes = p.sizes; tokens = p.tokens }

module _ {m : Mode} {p : ModePlan} (w : ModePlanned m p) where
  pub planned_scheduled : (ds : List ℕ) → Scheduled m (judgement_of ds p) (Ok (timetable_of p))
  planned_scheduled ds =
      on_time w.begin w.least w.prompt (record { startup = w.startup; starts = w.starts; sizes = w.sizes; tokens = w.tokens })

  pub planned_numbers : (ds : List ℕ) → Ranked m ds → Numbers m w.counts (judgement_of ds p)
  planned_numbers ds ranked =
      let b = w.balanced in
      record {
        ends = b.ends;
        smallest = b.smallest;
        iteration = b.iteration;
        within = b.within;
        ranked = ranked;
        firings = w.firings;
        periods = w.periods;
      }

  -- its actors have depths
  planned_ranked : ProperMode m → (ds : List ℕ) × Ranked m ds
  planned_ranked proper = go (judge_judged m proper)
    where
      go : {j : Result Judgement Fault} → Judged m j → (ds : List ℕ) × Ranked m ds
      go (cyclic c) = absurd (w.balanced.acyclic c)
      go (no_ends c n) = absurd (n _ _ w.balanced.ends)
      go (unbalanced c d u) = absurd (unbalanced_not u w.balanced)
      go (overloaded x c d s i h o) = absurd (w.bearable _ (over_again m x w.counts s w.balanced.smallest i w.balanced.iteration _ o.holds))
      go (sound x c n f) = (_, n.ranked)

  pub planned_judged : ProperMode m → (ds : List ℕ) × Ranked m ds × Judged m (Ok (judgement_of ds p))
  planned_judged proper = let (ds, ranked) = planned_ranked proper in (ds, ranked, sound w.counts w.balanced.acyclic (planned_numbers ds ranked) w.bearable)

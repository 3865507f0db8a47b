-- Model of lib.rt: the judgement of a mode.
use Rattle.std.specs.Prelude.{cond, List, Option, None, Some, Result, Ok, Err, ℕ, eqb}
use Rattle.units.specs.declared.Tick.{Tick}
use Rattle.units.specs.declared.Firing.{Firing}
use Rattle.tables.specs.Shape.{Mode}
use Rattle.graph.specs.declared.Fault.{Fault}
use Rattle.graph.specs.declared.Fault.TheVariants.{Cyclic, Ends, Unbalanced, Overloaded}
use Rattle.graph.specs.declared.Judgement.{Judgement}
use Rattle.graph.specs.declared.order.Order.{Order}
use Rattle.graph.specs.Rounds.{preds_of, order_of, firsts_of, lasts_of, only_of}
use Rattle.graph.specs.Counts.{counts_of, balancesb}
use Rattle.graph.specs.Lengths.{firings_in, works_in, length_of, periods_in, shares_in, overloaded_of}

-- the judgement of a mode with these numbers
abbrev pub sound_by : Mode → List ℕ → ℕ → ℕ → List Firing → Tick → Judgement
sound_by m ds s t qs h =
    record {
      source = s;
      sink = t;
      iteration = h;
      depths = ds;
      firings = qs;
      periods = periods_in h qs m.active;
    }

-- a processor that is above its limit refuses it
abbrev pub loaded : Mode → List ℕ → ℕ → ℕ → List Firing → Tick → Option ℕ → Result Judgement Fault
loaded m ds s t qs h (Some p) = Err (Overloaded p)
loaded m ds s t qs h None = Ok (sound_by m ds s t qs h)

-- where the iteration is within its limit, the load decides
abbrev pub lasting : Mode → List ℕ → ℕ → ℕ → List Firing → List Tick → Option Tick → Result Judgement Fault
lasting m ds s t qs ws None = Err Unbalanced
lasting m ds s t qs ws (Some h) = loaded m ds s t qs h (overloaded_of (shares_in m.actors ws) h)

-- by the counts x: their firings, works and length
unfoldable pub timed_of : Mode → List ℕ → ℕ → ℕ → List ℕ → Result Judgement Fault
timed_of m ds s t x =
    lasting m ds s t (firings_in m.actors x) (works_in m.actors (firings_in m.actors x))
    (length_of (works_in m.actors (firings_in m.actors x)) (firings_in m.actors x) m.active)

-- by the counts that are found: where there are none, or a channel is uneven, the mode is unbalanced
abbrev pub by_counts : Mode → List ℕ → ℕ → ℕ → Option (List ℕ) → Result Judgement Fault
by_counts m ds s t None = Err Unbalanced
by_counts m ds s t (Some x) = cond (balancesb m x m.count) (timed_of m ds s t x) (Err Unbalanced)

-- by the depths and the two ends
unfoldable pub balanced_of : Mode → List ℕ → ℕ → ℕ → Result Judgement Fault
balanced_of m ds s t = by_counts m ds s t (counts_of m ds s)

-- by the one source and the one sink, where each is found
abbrev pub by_ends : Mode → List ℕ → Option ℕ → Option ℕ → Result Judgement Fault
by_ends m ds (Some s) (Some t) = balanced_of m ds s t
by_ends m ds (Some s) None = Err Ends
by_ends m ds None t = Err Ends

-- by the order: where an actor is left there is a cycle
abbrev pub by_order : Mode → List ℕ → Order → Result Judgement Fault
by_order m ps o = cond (eqb o.left 0) (by_ends m o.depths (only_of (firsts_of ps m.active)) (only_of (lasts_of ps m.active))) (Err Cyclic)

-- the judgement of a mode
unfoldable pub judge_of : Mode → Result Judgement Fault
judge_of m = by_order m (preds_of m) (order_of (preds_of m) m.active)

-- Model of the code: lists whose elements are found one by one, and the parts of a table.
use Rattle.std.specs.Prelude.{◌≡◌, List, ℕ, ◌<◌, get_or, Result, Ok, Err}
use Rattle.numbers.specs.Filled.{Filled}
use Rattle.numbers.specs.Tab.{tab}
use Rattle.units.specs.Limits.{MODES, PROCESSORS}
use Rattle.terms.specs.Refusal.{refusal_at}
use Rattle.terms.specs.declared.refusal.Reason.TheVariants.{Cycle, NoEnds, NoBalance, Overload}
use Rattle.terms.specs.declared.refusal.Place.TheVariants.{Mode as AtMode, Processor as AtProcessor}
use Rattle.terms.specs.Place.{number_of}
use Rattle.terms.specs.declared.refusal.Refusal.{Refusal}
use Rattle.tables.specs.Shape.{Mode, Table, mode_at}
use Rattle.change.specs.Running.{Running}
use Rattle.graph.specs.declared.Fault.{Fault}
use Rattle.graph.specs.declared.Fault.TheVariants.{Cyclic, Ends, Unbalanced, Overloaded}
use Rattle.graph.specs.declared.Judgement.{Judgement}
use Rattle.schedule.specs.declared.Timetable.{Timetable}
use Rattle.planning.specs.declared.ModePlan.{ModePlan}
use Rattle.planning.specs.Nothing.{no_part, empty_part}
use Rattle.planning.specs.Plan.{Listed, ModeRefused, ModePlanned, IsPart}
use Rattle.planning.specs.Changes.{running_of}

-- a processor that is named is one of those that there are
abbrev pub Numbered : Fault → Type 0
Numbered Cyclic = Unit {0}
Numbered Ends = Unit {0}
Numbered Unbalanced = Unit {0}
Numbered (Overloaded p) = p < PROCESSORS

-- the refusal of the mode with number n by what is found of its graph
abbrev pub refusal_by : ℕ → Fault → Refusal
refusal_by n Cyclic = refusal_at Cycle (AtMode n)
refusal_by n Ends = refusal_at NoEnds (AtMode n)
refusal_by n Unbalanced = refusal_at NoBalance (AtMode n)
refusal_by n (Overloaded p) = refusal_at Overload (AtProcessor n (number_of p))

-- the numbers of a mode that is judged and scheduled
abbrev pub part_from : Judgement → Timetable → ModePlan
part_from j s =
    record {
      source = j.source;
      sink = j.sink;
      iteration = j.iteration;
      startup = s.startup;
      firings = j.firings;
      periods = j.periods;
      starts = s.starts;
      sizes = s.sizes;
      tokens = s.tokens;
    }

-- the parts of the modes below k are found
abbrev pub FoundParts : Table → List ModePlan → ℕ → Type 0
FoundParts t ps k = Filled MODES (IsPart t) empty_part no_part ps k

-- what comes of the mode with number n, which may be unlisted: its part, or its refusal
abbrev pub AnyComes : Mode → ℕ → Result ModePlan Refusal → Type 0
AnyComes m n (Ok p) = ((m.active ≡ 0 → ⊥) → ModePlanned m p) × (m.active ≡ 0 → p ≡ empty_part)
AnyComes m n (Err r) = (m.active ≡ 0 → ⊥) × ModeRefused m n r

-- the lowest mode that is refused, of those that are listed, refuses the table by r
abbrev pub Refusing : Table → Refusal → Type 0
Refusing t r = (k : ℕ) × Listed t k × ((l : ℕ) → l < k → Listed t l → (p : ModePlan) × ModePlanned (mode_at t l) p) × ModeRefused (mode_at t k) (number_of k) r

-- the modes as they run
abbrev pub runnings_of : Table → List ModePlan → List Running
runnings_of t ps = tab MODES (λ k. running_of (mode_at t k) (get_or ps k no_part))

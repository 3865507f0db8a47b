-- What firmware is told: whether it was accepted, the five numbers of a refusal's line, and what then stands behind everything that it lent.
use Rattle.std.specs.Prelude.{Option, Some, None, Result, Ok, Err, ◌≡◌, Bool, true, false, List, [], ◌∷◌, ℕ, get_or}
use Rattle.units.specs.declared.Tick.{Tick}
use Rattle.units.specs.Ticks.{tick}
use Rattle.terms.specs.Refusal.{no_numbers, numbers_of}
use Rattle.terms.specs.declared.refusal.Refusal.{Refusal}
use Rattle.planner.specs.Plans.{Plans, Prints}
use Rattle.planner.specs.Numbers.{plan_numbers, print_numbers}
use Rattle.machine.specs.declared.Machine.{Machine}
use Rattle.machine.specs.Answers.{Begins, Answers}
use Rattle.machine.specs.Numbers.{answer_numbers}

-- a machine as three numbers: its mode, its starting tick and the tick at which its change ends
abbrev pub three_of : Machine → List ℕ
three_of m = m.mode ∷ m.started.0 ∷ m.ended.0 ∷ []

-- and the machine that three numbers are
abbrev pub machine_of : List ℕ → Machine
machine_of l = record { mode = get_or l 0 0; started = tick (get_or l 1 0); ended = tick (get_or l 2 0) }

-- what is told of an answer: what it gives, where it is no refusal, and the five numbers
abbrev pub Tells : {A : Type 0} → Result A Refusal → Option A → List ℕ → Type 0
Tells (Ok a) given numbers = (given ≡ Some a) × (numbers ≡ no_numbers)
Tells (Err r) given numbers = (given ≡ None) × (numbers ≡ numbers_of r)

-- What is told of a text, by the words before: whether its table is accepted, the words after, and the five numbers. A refusal leaves the words as they stood.
pub data PlanTold (text words : List ℕ) : Bool → List ℕ → List ℕ → Type 0 where
  accepted : {after : List ℕ} → Plans text words (Ok tt) after → PlanTold text words true after (plan_numbers (Ok tt))
  refused : {r : Refusal} → Plans text words (Err r) words → PlanTold text words false words (plan_numbers (Err r))

-- What is told of a start, by the numbers of the machine before: whether it is accepted, the machine after, and the five numbers. A refusal gives no machine, and
-- leaves those numbers as they stood.
pub data StartTold (words : List ℕ) (mode : ℕ) (machine : List ℕ) : Bool → List ℕ → List ℕ → Type 0 where
  accepted : {m : Machine} → Begins words mode (Ok m) → StartTold words mode machine true (three_of m) (answer_numbers (Ok m))
  refused : {r : Refusal} → Begins words mode (Err r) → StartTold words mode machine false machine (answer_numbers {A = Machine} (Err r))

-- What is told of a request, by the machine and the delay before: whether it is accepted, the machine and the delay after, and the five numbers. A refusal leaves the
-- machine and the delay as they stood.
pub data RequestTold (words machine : List ℕ) (mode clock delay : ℕ) : Bool → List ℕ → ℕ → List ℕ → Type 0 where
  accepted : {d : Tick} {m : Machine} → Answers words (machine_of machine) mode (tick clock) (Ok d) m
      → RequestTold words machine mode clock delay true (three_of m) d.0 (answer_numbers (Ok d))
  refused : {r : Refusal} → Answers words (machine_of machine) mode (tick clock) (Err r) (machine_of machine)
      → RequestTold words machine mode clock delay false machine delay (answer_numbers {A = Tick} (Err r))

-- What is told of printing, by the bytes and their number before: whether there is a plan to print, the bytes and their number after, and the five numbers. A refusal
-- leaves the bytes and their number as they stood.
pub data PrintTold (words out : List ℕ) (length : ℕ) : Bool → List ℕ → ℕ → List ℕ → Type 0 where
  accepted : {n : ℕ} {after : List ℕ} → Prints words out (Ok n) after → PrintTold words out length true after n (print_numbers (Ok n))
  refused : {r : Refusal} → Prints words out (Err r) out → PrintTold words out length false out length (print_numbers (Err r))

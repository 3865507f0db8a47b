-- What is printed, laid over a buffer.
use Rattle.std.specs.Prelude.{◌≡◌, Result, Ok, Err, List, ℕ, suc, ◌+◌, ◌*◌, ◌≤◌, length}
use Rattle.units.specs.declared.Tick.{Tick}
use Rattle.terms.specs.declared.refusal.Refusal.{Refusal}
use Rattle.rfc4180.specs.Laid.{Laid}
use Rattle.printer.specs.Printed.{PRINTED, Shows}
use Rattle.planner.specs.Plans.{no_plan}
use Rattle.machine.specs.declared.Machine.{Machine}
use Rattle.machine.specs.Answers.{Answers}
use Rattle.arguments.specs.declared.Request.{Request}
use Rattle.arguments.specs.Argument.{arguments_of}
use Rattle.calls.specs.Prints.{PlanPrints, AskPrints, answer_text}

-- the most bytes of a line: its word, five commas and numbers of 64 bits, and CRLF
abbrev pub LINE : ℕ
LINE = 8 + 5 * (1 + 20) + 2

-- a buffer that has room for a line for each byte of the arguments, and one more
abbrev pub Enough : List ℕ → List ℕ → Type 0
Enough arguments buffer = LINE * suc (length arguments) ≤ length buffer

-- a line, laid over a buffer from a place on
pub record LaysLine (text before : List ℕ) (at : ℕ) (after : List ℕ) (end : ℕ) : Type 0 where
  pub laid : Laid before at text after end
  pub short : end ≤ at + LINE

-- the answer to a request, laid over a buffer from a place on, and the machine after it
pub record LaysAnswer (words : List ℕ) (m : Machine) (r : Request) (before : List ℕ) (at : ℕ) (after : List ℕ) (n : Machine) (end : ℕ) : Type 0 where
  pub answer : Result Tick Refusal
  pub answers : Answers words m r.mode r.clock answer n
  pub line : LaysLine (answer_text answer n) before at after end

-- a text that meets a rule, laid over a buffer from a place on
pub record Lays (Rule : List ℕ → Type 0) (before : List ℕ) (at : ℕ) (after : List ℕ) (end : ℕ) : Type 0 where
  pub text : List ℕ
  pub meets : Rule text
  pub laid : Laid before at text after end
  pub fits : end ≤ length before

-- What `plan` prints, in a buffer of the one length, and 0 behind it; 15, and the buffer as it stood, where its length is another.
pub data PlanFills (text before : List ℕ) : Result ℕ Refusal → List ℕ → Type 0 where
  no_room : (length before ≡ PRINTED → ⊥) → PlanFills text before (Err no_plan) before
  fills : {printed after : List ℕ} {n : ℕ} → length before ≡ PRINTED → PlanPrints text printed → Shows printed after n → PlanFills text before (Ok n) after

-- What `ask` prints, laid over the front of a buffer that is long enough; 15, and the buffer as it stood, where it is not.
pub data AskFills (text arguments before : List ℕ) : Result ℕ Refusal → List ℕ → Type 0 where
  no_room : (Enough arguments before → ⊥) → AskFills text arguments before (Err no_plan) before
  fills : {after : List ℕ} {n : ℕ} → Enough arguments before → Lays (AskPrints text (arguments_of arguments)) before 0 after n → AskFills text arguments before (Ok n) after

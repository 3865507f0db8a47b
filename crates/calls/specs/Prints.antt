-- What the programs `plan` and `ask` print.
use Rattle.std.specs.Prelude.{◌≡◌, Some, None, Result, Ok, Err, List, [], ◌∷◌, ◌++◌, ℕ, suc, ◌^◌, ◌<◌, replicate}
use Rattle.units.specs.declared.Tick.{Tick}
use Rattle.terms.specs.Text.{bytes}
use Rattle.terms.specs.declared.refusal.Refusal.{Refusal}
use Rattle.tables.specs.Shape.{Table}
use Rattle.rfc4180.specs.Decimal.{decimal}
use Rattle.planning.specs.Shape.{Plan}
use Rattle.layout.specs.Words.{WORDS}
use Rattle.printer.specs.Printed.{line_text, plan_text, refusal_text}
use Rattle.planner.specs.Plans.{Plans, Leaves}
use Rattle.machine.specs.declared.Machine.{Machine}
use Rattle.machine.specs.Answers.{Begins, Answers}
use Rattle.arguments.specs.declared.Request.{Request}
use Rattle.arguments.specs.Argument.{RequestOf, FirstBad}

-- `plan`, for the text on its input: the plan of its table, or the line of its refusal
pub data PlanPrints (text : List ℕ) : List ℕ → Type 0 where
  planned : {words : List ℕ} {t : Table} {w : Plan} → Plans text (replicate WORDS 0) (Ok tt) words → Leaves t w words → PlanPrints text (plan_text t w)
  refused : {words : List ℕ} {r : Refusal} → Plans text (replicate WORDS 0) (Err r) words → PlanPrints text (refusal_text r)

-- a machine that begins: its mode, the tick at which that started, and the tick at which its change ends
abbrev pub machine_text : Machine → List ℕ
machine_text m = line_text (bytes "machine") (m.mode ∷ m.started.0 ∷ m.ended.0 ∷ [])

-- a request that is accepted: its delay, and the machine after it
abbrev pub accepted_text : Tick → Machine → List ℕ
accepted_text delay m = line_text (bytes "accepted") (delay.0 ∷ m.mode ∷ m.started.0 ∷ m.ended.0 ∷ [])

-- the answer to a request
abbrev pub answer_text : Result Tick Refusal → Machine → List ℕ
answer_text (Ok delay) m = accepted_text delay m
answer_text (Err r) m = refusal_text r

-- the answers to some arguments that are requests, one behind the other, each request asked of the machine that the answer before it leaves
pub data Lines (words : List ℕ) : Machine → List (List ℕ) → List ℕ → Type 0 where
  none : {m : Machine} → Lines words m [] []
  next : {m n : Machine} {argument : List ℕ} {rest : List (List ℕ)} {r : Request} {a : Result Tick Refusal} {lines : List ℕ} → RequestOf argument (Some r)
      → Answers words m r.mode r.clock a n → Lines words n rest lines → Lines words m (argument ∷ rest) (answer_text a n ++ lines)

-- the machine that begins in a mode and the answers to its requests, or the refusal of that mode
pub data SessionPrints (words : List ℕ) (mode : ℕ) (requests : List (List ℕ)) : List ℕ → Type 0 where
  begun : {m : Machine} {lines : List ℕ} → Begins words mode (Ok m) → Lines words m requests lines → SessionPrints words mode requests (machine_text m ++ lines)
  not_begun_law : {r : Refusal} → Begins words mode (Err r) → SessionPrints words mode requests (refusal_text r)

-- an argument is a mode where it is a number below 2^64
abbrev pub ModeOf : List ℕ → ℕ → Type 0
ModeOf argument mode = (argument ≡ decimal mode) × (mode < 2 ^ 64)

abbrev pub NoMode : List ℕ → Type 0
NoMode argument = (mode : ℕ) → argument ≡ decimal mode → mode < 2 ^ 64 → ⊥

-- `ask`, for the text on its input and its arguments, of which the first is the starting mode and each further one a request: the number of the first argument that is
-- not of its form; or the refusal of the text; or what the machine on its plan answers
pub data AskPrints (text : List ℕ) : List (List ℕ) → List ℕ → Type 0 where
  no_argument : AskPrints text [] (line_text (bytes "argument") (1 ∷ []))
  no_mode : {first : List ℕ} {rest : List (List ℕ)} → NoMode first → AskPrints text (first ∷ rest) (line_text (bytes "argument") (1 ∷ []))
  no_request_law : {first : List ℕ} {rest : List (List ℕ)} {mode n : ℕ} → ModeOf first mode → FirstBad 1 rest (Some n)
      → AskPrints text (first ∷ rest) (line_text (bytes "argument") (suc n ∷ []))
  refused : {first words : List ℕ} {rest : List (List ℕ)} {mode : ℕ} {r : Refusal} → ModeOf first mode → FirstBad 1 rest None
      → Plans text (replicate WORDS 0) (Err r) words → AskPrints text (first ∷ rest) (refusal_text r)
  asked : {first words answer : List ℕ} {rest : List (List ℕ)} {mode : ℕ} → ModeOf first mode → FirstBad 1 rest None
      → Plans text (replicate WORDS 0) (Ok tt) words → SessionPrints words mode rest answer → AskPrints text (first ∷ rest) answer

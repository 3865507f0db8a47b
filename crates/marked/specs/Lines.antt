-- The marked lines of document 01, as they read with 2026-02: each is a table, with what is claimed of it. A claim speaks of whatever answer the promises
-- of the planner and of the machine allow.
use Rattle.std.specs.Prelude.{◌≡◌, Result, Ok, Err, List, [], ◌∷◌, ◌++◌, ℕ, ◌-◌, length, get_or}
use Prim.Native.String.{String}
use Rattle.numbers.specs.Fraction.{Same}
use Rattle.units.specs.declared.Tick.{Tick}
use Rattle.units.specs.Ticks.{tick}
use Rattle.terms.specs.Refusal.{number_of, nowhere_for, line_of, printed_of}
use Rattle.terms.specs.Text.{bytes}
use Rattle.terms.specs.declared.refusal.Reason.{Reason}
use Rattle.terms.specs.declared.refusal.Refusal.{Refusal}
use Rattle.tables.specs.Shape.{Table, mode_at}
use Rattle.graph.specs.declared.Fault.{Fault}
use Rattle.graph.specs.declared.Judgement.{Judgement}
use Rattle.graph.specs.Judged.{Judged}
use Rattle.schedule.specs.Starts.{Starts}
use Rattle.change.specs.Change.{ModeTimes, load_at}
use Rattle.planning.specs.Shape.{Plan}
use Rattle.planning.specs.Plan.{part_at, times_of, Planned}
use Rattle.layout.specs.Words.{WORDS}
use Rattle.printer.specs.Printed.{PRINTED, Shows}
use Rattle.planner.specs.Plans.{Reads, Plans, Prints}
use Rattle.machine.specs.declared.Machine.{Machine}
use Rattle.machine.specs.Answers.{Begins, Answers}

-- what is answered to a request
abbrev pub Reply : Type 0
Reply = Result Tick Refusal

-- what a request is told: its delay, or the number of its refusal
pub data Told : Type 0 where
  delay : ℕ → Told
  refused : ℕ → Told

-- this is told in a reply: it accepts, with that delay; or it refuses, for the reason that has this number, at no place of a table
abbrev pub IsTold : Reply → Told → Type 0
IsTold a (delay n) = a ≡ Ok (tick n)
IsTold a (refused n) = (r : Reason) × (number_of r ≡ n) × (a ≡ Err (nowhere_for r))

-- a request for a mode at a tick, and what it is told
pub record Asked : Type 0 where
  pub mode : ℕ
  pub clock : ℕ
  pub told : Told

-- What is claimed of a table. Modes, actors and processors go by their numbers.
pub data Claim : Type 0 where
  -- it is accepted, and these lines are printed of its plan
  prints : List String → Claim
  -- it is refused, and these numbers are printed
  refuses : (number row mode actor processor : ℕ) → Claim
  -- the actors of this mode, from actor 1 on, have these least starts, whether they are refused or not
  starts : (mode : ℕ) → List ℕ → Claim
  -- in the change from the old mode to the new one, with this offset, the load of this processor at this tick of the change would be over / under
  loads : (old new offset clock processor over under : ℕ) → Claim
  -- it is accepted, a machine begins in this mode on its plan, and the requests that it is asked one after the other are told this
  answers : (mode : ℕ) → List Asked → Claim

-- a marked line: its name, the rows of its table, and the claim
pub record Line : Type 0 where
  pub name : String
  pub rows : List String
  pub claim : Claim

-- lines as a text, each ended by CRLF
abbrev pub text_of : List String → List ℕ
text_of [] = []
text_of (s ∷ ss) = bytes s ++ (13 ∷ 10 ∷ text_of ss)

-- P holds of every answer to a text, and of what its buffer of the one length holds before and after
abbrev pub WhenPlanned : List ℕ → (Result (Unit {0}) Refusal → List ℕ → List ℕ → Type 0) → Type 0
WhenPlanned text P = (before after : List ℕ) (a : Result (Unit {0}) Refusal) → length before ≡ WORDS → Plans text before a after → P a before after

-- whatever is printed of these words, into a buffer of the one length, is this text
abbrev pub WhenPrinted : List ℕ → List ℕ → Type 0
WhenPrinted words text =
    (before after : List ℕ) (r : Result ℕ Refusal) → length before ≡ PRINTED → Prints words before r after → (n : ℕ) × (r ≡ Ok n) × Shows text after n

-- whatever this machine answers to these requests on these words, they are told what is claimed; the machine of each answer is asked the next
unfoldable pub WhenAsked : List ℕ → Machine → List Asked → Type 0
WhenAsked words m [] = Unit {0}
WhenAsked words m (q ∷ qs) =
    (a : Reply) (n : Machine) → Answers words m q.mode (tick q.clock) a n → IsTold a q.told × WhenAsked words n qs

-- whatever a start in this mode answers, it is a machine, and that machine is asked these requests
abbrev pub WhenBegun : List ℕ → ℕ → List Asked → Type 0
WhenBegun words mode asked = (b : Result Machine Refusal) → Begins words mode b → (m : Machine) × (b ≡ Ok m) × WhenAsked words m asked

-- mode n of a planned table as it runs
abbrev pub times_at : Table → Plan → ℕ → ModeTimes
times_at t w n = times_of (mode_at t (n - 1)) (part_at w (n - 1))

-- the claim holds of the table of this text
abbrev pub Claimed : List ℕ → Claim → Type 0
Claimed text (prints ls) = WhenPlanned text (λ a before after. (a ≡ Ok tt) × WhenPrinted after (text_of ls))
Claimed text (refuses n r m i p) =
    WhenPlanned text (λ a before after. ((x : Refusal) × (a ≡ Err x) × (printed_of x ≡ line_of n r m i p)) × (after ≡ before))
Claimed text (starts n ss) =
    (t : Table) (r : Result Judgement Fault) → Reads text t → Judged (mode_at t (n - 1)) r
    → (j : Judgement) × (r ≡ Ok j) × Starts (mode_at t (n - 1)) j.periods (λ i. tick (get_or ss i 0))
Claimed text (loads o n d k p over under) =
    (t : Table) (w : Plan) → Reads text t → Planned t w
    → Same (load_at (times_at t w o) (times_at t w n) d k p) (record { over = over; under = under })
Claimed text (answers n asked) = WhenPlanned text (λ a before after. (a ≡ Ok tt) × WhenBegun after n asked)

-- what a marked line says
abbrev pub Holds : Line → Type 0
Holds l = Claimed (text_of l.rows) l.claim

-- the printed table: its rows of mode 1, and of mode 2
abbrev pub one : List String
one =
    "actor,1,1,2,1,1"
    ∷ "actor,1,2,1,4,2"
    ∷ "actor,1,3,1,1,1"
    ∷ "actor,1,5,2,1,1"
    ∷ "channel,1,1,2,1 0,1"
    ∷ "channel,1,2,3,1,1"
    ∷ "channel,1,3,5,1,2 0"
    ∷ []

abbrev pub two : List String
two =
    "actor,2,1,2,1,1"
    ∷ "actor,2,2,1,8,2"
    ∷ "actor,2,3,1,1,1"
    ∷ "actor,2,4,1,3,1"
    ∷ "actor,2,5,2,1,1"
    ∷ "channel,2,1,2,1 0,1"
    ∷ "channel,2,1,4,1 1,2"
    ∷ "channel,2,2,3,1,1"
    ∷ "channel,2,3,5,1,1 0"
    ∷ "channel,2,4,5,1,0 1"
    ∷ []

-- the lines that are printed of each mode, and of the two changes
abbrev plan_one : List String
plan_one =
    "actor,1,1,4,2,0"
    ∷ "actor,1,2,2,4,2"
    ∷ "actor,1,3,2,4,6"
    ∷ "actor,1,5,2,4,14"
    ∷ "channel,1,1,2,2,2"
    ∷ "channel,1,2,3,2,2"
    ∷ "channel,1,3,5,3,2"
    ∷ []

abbrev plan_two : List String
plan_two =
    "actor,2,1,2,4,0"
    ∷ "actor,2,2,1,8,4"
    ∷ "actor,2,3,1,8,12"
    ∷ "actor,2,4,1,8,8"
    ∷ "actor,2,5,2,4,20"
    ∷ "channel,2,1,2,2,1"
    ∷ "channel,2,1,4,4,2"
    ∷ "channel,2,2,3,2,1"
    ∷ "channel,2,3,5,2,1"
    ∷ "channel,2,4,5,3,1"
    ∷ []

abbrev changes : List String
changes =
    "change,1,2,0,0,27"
    ∷ "change,2,1,6,8,29"
    ∷ []

-- a table of two actors by the rows of its source and of its channel: the other actor has the greatest wcet
abbrev slow : String → String → List String
slow source channel = source ∷ "actor,1,2,1,1048576,2" ∷ channel ∷ []

-- the tables of P8, of P9 and of the longest iteration, and the lines that are printed of each
abbrev pub eight : List String
eight = slow "actor,1,1,1,1,1" "channel,1,1,2,16,1"

abbrev pub plan_eight : List String
plan_eight = "actor,1,1,1,16777216,0" ∷ "actor,1,2,16,1048576,16777216" ∷ "channel,1,1,2,32,16" ∷ []

abbrev pub nine : List String
nine = slow "actor,1,1,1,1,1" "channel,1,1,2,17,1"

abbrev pub plan_nine : List String
plan_nine = "actor,1,1,1,17825792,0" ∷ "actor,1,2,17,1048576,17825792" ∷ "channel,1,1,2,34,17" ∷ []

abbrev pub longest : List String
longest = slow "actor,1,1,8,1,1" "channel,1,1,2,128 128 128 128 128 128 128 128,1"

abbrev pub plan_longest : List String
plan_longest = "actor,1,1,8,134217728,0" ∷ "actor,1,2,1024,1048576,134217728" ∷ "channel,1,1,2,256,1024" ∷ []

-- the table of P11: a chain of three
abbrev chain : List String
chain =
    "actor,1,1,1,1,1"
    ∷ "actor,1,2,4,1,2"
    ∷ "actor,1,3,4,1,3"
    ∷ "channel,1,1,2,1,1 0 0 0"
    ∷ "channel,1,2,3,1 0 0 0,0 0 0 1"
    ∷ []

-- a line by its name, its rows and its claim
abbrev line : String → List String → Claim → Line
line name rows claim = record { name = name; rows = rows; claim = claim }

-- a request, and the line of a machine that begins in mode 2 on the plan of the printed table and is asked some
abbrev asked : ℕ → ℕ → Told → Asked
asked mode clock told = record { mode = mode; clock = clock; told = told }

abbrev from_two : String → List Asked → Line
from_two name qs = line name (one ++ two) (answers 2 qs)

-- The marked lines. Where nothing is said, phases, wcets and rates are 1 and each actor has its own processor. The last has no star, and is also run.
unfoldable pub lines : List Line
lines =
    line "P1" one (prints plan_one)
    ∷ line "P2" two (prints plan_two)
    ∷ line "P3 and P4" (one ++ two) (prints (plan_one ++ (plan_two ++ changes)))
    ∷ line "P4 at offset 6" (one ++ two) (loads 2 1 6 6 1 5 4)
    ∷ line "P5" ("actor,1,1,1,7,1" ∷ []) (prints ("actor,1,1,1,7,0" ∷ []))
    ∷ line "P6" ("actor,1,1,1,1,1" ∷ "actor,1,2,1,1,2" ∷ "channel,1,1,2,2,3" ∷ []) (prints ("actor,1,1,3,2,0" ∷ "actor,1,2,2,3,4" ∷ "channel,1,1,2,8,6" ∷ []))
    ∷ line "P7" ("actor,1,1,1,1,1" ∷ "actor,1,2,1,1,2" ∷ "channel,1,1,2,1,1" ∷ "channel,1,1,2,1,2" ∷ []) (refuses 8 0 1 0 0)
    ∷ line "P8" eight (prints plan_eight)
    ∷ line "P9" nine (prints plan_nine)
    ∷ line "2026-02, at the limit" longest (prints plan_longest)
    ∷ line "2026-02, above it" (slow "actor,1,1,8,1,1" "channel,1,1,2,129 128 128 128 128 128 128 128,1") (refuses 8 0 1 0 0)
    ∷ line "P10" ("actor,1,1,1,1,1" ∷ "actor,1,2,1,1,1" ∷ "channel,1,1,2,1,1" ∷ []) (refuses 9 0 1 0 1)
    ∷ line "P11" chain (refuses 10 0 1 2 0)
    ∷ line "P11, its starts" chain (starts 1 (0 ∷ 4 ∷ 2 ∷ []))
    ∷ from_two "P12 at 19" (asked 1 19 (refused 14) ∷ [])
    ∷ from_two "P12 at 20" (asked 1 20 (delay 26) ∷ [])
    ∷ from_two "P12 at 24" (asked 1 24 (delay 22) ∷ [])
    ∷ from_two "P12 at 25" (asked 1 25 (delay 29) ∷ [])
    ∷ from_two "from mode 2" (asked 1 21 (delay 25) ∷ asked 2 45 (refused 14) ∷ asked 2 46 (delay 22) ∷ [])
    ∷ []

-- The three demands, over what the public functions promise. Each function ends with an answer that meets its promise, whatever it is given, and asks nothing
-- of its caller (proofs/Functions.antt):
--   planner::plan promises Plans, planner::print promises Prints, machine::start promises Begins, Machine::request promises Answers;
--   for a caller in C, stellarsnare_plan promises PlanTold, stellarsnare_print PrintTold, stellarsnare_start StartTold, stellarsnare_request RequestTold.
use Rattle.std.specs.Prelude.{◌≡◌, Bool, true, false, Some, None, Result, Ok, Err, ◌⊎◌, ◌≢◌, List, ◌++◌, ℕ, ◌+◌, ◌≤◌, ◌<◌, T, length}
use Rattle.units.specs.declared.Tick.{Tick}
use Rattle.units.specs.Ticks.{tick}
use Rattle.terms.specs.Place.{number_of, place_of}
use Rattle.terms.specs.Refusal.{number_of as number, nowhere_for, no_numbers, numbers_of}
use Rattle.terms.specs.Text.{bytes}
use Rattle.terms.specs.declared.refusal.Reason.{Reason}
use Rattle.terms.specs.declared.refusal.Reason.TheVariants.{NoMode, NoPlan}
use Rattle.terms.specs.declared.refusal.Refusal.{Refusal}
use Rattle.tables.specs.Shape.{Table, mode_at, empty_table}
use Rattle.reader.specs.Numbers.{read_numbers}
use Rattle.reader.specs.Told.{Reading, Told}
use Rattle.change.specs.declared.Timing.{Timing}
use Rattle.planning.specs.declared.ModePlan.{ModePlan}
use Rattle.planning.specs.Shape.{Plan}
use Rattle.planning.specs.Numbers.{modes_numbers}
use Rattle.planning.specs.Plan.{change_at, Listed, ModePlanned, ModeRefused, Planned, Planning}
use Rattle.run.specs.Plan.{RunPlan, Acts}
use Rattle.run.specs.Machine as Run
use Rattle.run.specs.Demand.{sink_set, place, RightRuns, OrderlyRuns}
use Rattle.printer.specs.Printed.{PRINTED, as_five, line_text, tokens_at, plan_text, Shows}
use Rattle.layout.specs.Words.{WORDS, words_of}
use Rattle.planner.specs.Plans.{Plans, Prints, Reads, Leaves, Stored, no_plan}
use Rattle.planner.specs.Numbers.{plan_numbers}
use Rattle.machine.specs.Plan.{part_of, is_listed, plan_of}
use Rattle.machine.specs.declared.Machine.{Machine}
use Rattle.machine.specs.Answers.{seen, asking, machine, delay_of, changed_of, Meant, Begins, Answers, Follows}
use Rattle.stellarsnare.specs.Face.{three_of, machine_of, PlanTold, StartTold, RequestTold, PrintTold}

-- ── Demand 1 ──
-- Every table, every start and every request gets one answer: it is accepted, or refused by a number. The caller has nothing to check first. A refused table
-- leaves the caller's plan as it stood, a refused start gives no machine, and a refused request leaves the machine as it stood: the running mode, its starting
-- tick and the end of its change stay.

-- an answer to a table: it is accepted; or refused by a number from 1 to 10 or by 15, and the caller's plan is as it stood
pub data OnTable (before : List ℕ) : Result (Unit {0}) Refusal → List ℕ → Type 0 where
  accepted : {after : List ℕ} → OnTable before (Ok tt) after
  refused : {r : Refusal} → ((1 ≤ number r.reason) × (number r.reason ≤ 10)) ⊎ (number r.reason ≡ 15) → OnTable before (Err r) before

-- an answer to a start: a machine; or a refusal by 11 or 15, and no machine
pub data OnStart : Result Machine Refusal → Type 0 where
  begun : {m : Machine} → OnStart (Ok m)
  refused : {r : Reason} → (number r ≡ 11) ⊎ (number r ≡ 15) → OnStart (Err (nowhere_for r))

-- an answer to a request, and the machine after it: a delay; or a refusal by a number from 11 to 16, and the machine as it stood
pub data OnRequest (m : Machine) : Result Tick Refusal → Machine → Type 0 where
  accepted : {d : Tick} {n : Machine} → OnRequest m (Ok d) n
  refused : {r : Reason} → 11 ≤ number r → number r ≤ 16 → OnRequest m (Err (nowhere_for r)) m

pub record Demand1 : Type 0 where
  -- whatever is answered to a table, a start or a request is such an answer ..
  pub table : {text before after : List ℕ} {a : Result (Unit {0}) Refusal} → Plans text before a after → OnTable before a after
  pub start : {words : List ℕ} {mode : ℕ} {b : Result Machine Refusal} → Begins words mode b → OnStart b
  pub request : {words : List ℕ} {m : Machine} {mode : ℕ} {clock : Tick} {a : Result Tick Refusal} {n : Machine} → Answers words m mode clock a n → OnRequest m a n
  -- .. and there is one only
  pub one_table : {text before k j : List ℕ} {x y : Result (Unit {0}) Refusal} → Plans text before x k → Plans text before y j → (x ≡ y) × (k ≡ j)
  pub one_start : {words : List ℕ} {mode : ℕ} {x y : Result Machine Refusal} → Begins words mode x → Begins words mode y → x ≡ y
  pub one_request : {words : List ℕ} {m : Machine} {mode : ℕ} {clock : Tick} {x y : Result Tick Refusal} {j k : Machine} → Answers words m mode clock x j
      → Answers words m mode clock y k → (x ≡ y) × (j ≡ k)

-- ── Demand 2 ──
-- Firing counts, periods, starting ticks, buffer sizes, offsets and delays are those of the strictly periodic rules for cyclo-static graphs with modes, and they
-- are what is printed; a table or a request is refused exactly when these rules say so.

-- when a table is refused, in a buffer of the one length: the first refusal of its length and its rows; else that of its lowest mode that is refused
pub data TableRefused (text : List ℕ) : Refusal → Type 0 where
  at_row : {r : Refusal} → Told text (record { answer = Err r; table = empty_table }) → TableRefused text r
  at_mode : {t : Table} {k : ℕ} {r : Refusal} → Reads text t → Listed t k → ((l : ℕ) → l < k → Listed t l → (p : ModePlan) × ModePlanned (mode_at t l) p)
      → ModeRefused (mode_at t k) (number_of k) r → TableRefused text r

-- what is answered to a table
pub record TablesRight : Type 0 where
  -- an accepted table leaves a plan whose numbers are right ..
  pub right : {text before words : List ℕ} → Plans text before (Ok tt) words
      → (t : Table) × (w : Plan) × Reads text t × Planned t w × (words ≡ words_of t w)
  -- .. and a table that has a plan is accepted
  pub accepted : {text before : List ℕ} {t : Table} {w : Plan} → length before ≡ WORDS → Reads text t → Planned t w → Plans text before (Ok tt) (words_of t w)
  -- a table is refused when the rules say so, and only then; 15 where the buffer has another length
  pub refused : {text before : List ℕ} {r : Refusal} → length before ≡ WORDS → TableRefused text r → Plans text before (Err r) before
  pub only_then : {text before after : List ℕ} {r : Refusal} → length before ≡ WORDS → Plans text before (Err r) after → TableRefused text r
  pub no_room : {text before : List ℕ} → (length before ≡ WORDS → ⊥) → Plans text before (Err no_plan) before × (number no_plan.reason ≡ 15)
  -- the rules leave no table that is read without an answer: it has a plan, or it is refused
  pub answered : {text : List ℕ} {t : Table} → Reads text t → ((w : Plan) × Planned t w) ⊎ ((r : Refusal) × TableRefused text r)
  -- the five numbers of an answer are those of what is answered to its text, where that is refused, and else those of what is answered to its modes
  pub text_numbers : {text before after : List ℕ} {x : Reading} {a : Result (Unit {0}) Refusal} → length before ≡ WORDS → Told text x → (x.answer ≡ Ok tt → ⊥) → Plans text before a after
      → plan_numbers a ≡ read_numbers x.answer
  pub modes_numbers_law : {text before after : List ℕ} {t : Table} {x : Result Plan Refusal} {a : Result (Unit {0}) Refusal} → length before ≡ WORDS → Reads text t → Planning t x
      → Plans text before a after → plan_numbers a ≡ modes_numbers x

-- what is planned of the change from mode o to mode l, by their numbers
abbrev pub change_of : Plan → ℕ → ℕ → Timing
change_of w o l = change_at w (place_of o) (place_of l)

-- a line stands in a text: something is before it and something behind it, or nothing
pub record Within (line text : List ℕ) : Type 0 where
  pub front : List ℕ
  pub back : List ℕ
  pub is : text ≡ front ++ (line ++ back)

-- the lines of a plan stand in a text; p is the plan as the run sees it, and its modes go by their numbers
pub record PlanLines (w : Plan) (p : RunPlan) (text : List ℕ) : Type 0 where
  -- of each actor of a mode: mode, actor, firings in an iteration, period, start
  pub actor : (m i : ℕ) → T (p.listed m) → Acts p m i → Within (line_text (bytes "actor") (as_five m (number_of i) (p.firings m i) (p.period m i) (p.start m i))) text
  -- of each channel of a mode: mode, from, to, size, tokens in an iteration
  pub channel : (m c : ℕ) → T (p.listed m) → c < p.channels m
      → Within (line_text (bytes "channel") (as_five m (number_of (p.from m c)) (number_of (p.to m c)) (p.size m c) (tokens_at (part_of w m) c).0)) text
  -- of each change from one mode to another: old, new, overlap, offset, worst delay
  pub change : (o l : ℕ) → T (p.listed o) → T (p.listed l) → l ≢ o
      → Within (line_text (bytes "change") (as_five o l (change_of w o l).overlap.0 (change_of w o l).offset.0 (change_of w o l).worst.0)) text

-- what is printed of words, into a buffer of bytes
pub record PrintsRight : Type 0 where
  -- of those that an accepted table leaves, the text of its plan, with these lines in it; what is behind it in the buffer is 0
  pub printed : {t : Table} {w : Plan} {words before after : List ℕ} {x : Result ℕ Refusal} → Leaves t w words → length before ≡ PRINTED → Prints words before x after
      → (n : ℕ) × (x ≡ Ok n) × Shows (plan_text t w) after n
  pub lines : (t : Table) (w : Plan) → PlanLines w (plan_of t w) (plan_text t w)
  -- of any others nothing: 15, and the bytes as they stood, as where the buffer has another length
  pub print_15 : {words before after : List ℕ} {x : Result ℕ Refusal} → (length before ≡ PRINTED → Stored words → ⊥) → Prints words before x after
      → (x ≡ Err no_plan) × (number no_plan.reason ≡ 15) × (after ≡ before)

-- what is answered to a start and to a request
pub record MachinesRight : Type 0 where
  -- a start is refused by 15 where no accepted table leaves the words, then by 11 where the mode that is meant is not in the plan; else a machine begins in it
  pub start_15 : {words : List ℕ} {mode : ℕ} {b : Result Machine Refusal} → (Stored words → ⊥) → Begins words mode b → (b ≡ Err (nowhere_for NoPlan)) × (number NoPlan ≡ 15)
  pub start_11 : {t : Table} {w : Plan} {words : List ℕ} {mode k : ℕ} {b : Result Machine Refusal} → Leaves t w words → Meant t mode k → (T (is_listed t k) → ⊥) → Begins words mode b
      → (b ≡ Err (nowhere_for NoMode)) × (number NoMode ≡ 11)
  pub start_begun : {t : Table} {w : Plan} {words : List ℕ} {mode k : ℕ} {b : Result Machine Refusal} → Leaves t w words → Meant t mode k → T (is_listed t k) → Begins words mode b
      → b ≡ Ok (machine (Run.begin (plan_of t w) k).now)
  -- a request is refused by 15 likewise; else it is refused, or accepted with its delay and the machine after it, by the rules of the table's plan
  pub request_15 : {words : List ℕ} {m n : Machine} {mode : ℕ} {clock : Tick} {a : Result Tick Refusal} → (Stored words → ⊥) → Answers words m mode clock a n
      → (a ≡ Err (nowhere_for NoPlan)) × (number NoPlan ≡ 15) × (n ≡ m)
  pub request_refused : {t : Table} {w : Plan} {words : List ℕ} {m n : Machine} {mode : ℕ} {clock : Tick} {a : Result Tick Refusal} {r : Reason} → Leaves t w words
      → Run.refusal (plan_of t w) (seen m) (asking mode clock) ≡ Some r → Answers words m mode clock a n → (a ≡ Err (nowhere_for r)) × (n ≡ m)
  pub request_accepted : {t : Table} {w : Plan} {words : List ℕ} {m n : Machine} {mode : ℕ} {clock : Tick} {a : Result Tick Refusal} → Leaves t w words
      → Run.refusal (plan_of t w) (seen m) (asking mode clock) ≡ None → Answers words m mode clock a n
      → (a ≡ Ok (delay_of (plan_of t w) m mode clock)) × (n ≡ changed_of (plan_of t w) m mode clock)

pub record Demand2 : Type 0 where
  pub tables : TablesRight
  pub printing : PrintsRight
  pub machines : MachinesRight

-- ── Demand 3 ──
-- For any accepted table, any starting mode and any list of requests: if each firing ends within its period, no stage ever takes a token that isn't there, no
-- buffer ever holds more than its size, no processor is ever asked for more than its whole time, and a mode that has ended leaves its buffers empty. The delay,
-- from an accepted request to the tick set for the last stage's first firing, never exceeds the printed worst case, some request reaches it, and it depends only on
-- the two modes and the request's place in the old iteration.

-- of the table t and its plan w that leave the words: what its machines do
pub record Runs (t : Table) (w : Plan) (words : List ℕ) : Type 0 where
  -- every run of the plan is right and orderly ..
  pub right : RightRuns (plan_of t w)
  pub orderly : OrderlyRuns (plan_of t w)
  -- .. and a machine that begins, and answers any requests one after the other, is the machine of the run that begins in the mode that was meant
  pub machine_runs : {mode : ℕ} {m n : Machine} {rs : List Run.Request} → Begins words mode (Ok m) → Follows words m rs n
      → (k : ℕ) × Meant t mode k × T (is_listed t k) × (seen n ≡ (Run.run (plan_of t w) (Run.begin (plan_of t w) k) rs).now)

-- machine m accepts a request for a mode at a tick: it is told d, and n is the machine after it
abbrev pub Granted : List ℕ → Machine → ℕ → Tick → Tick → Machine → Type 0
Granted words m mode clock d n = Answers words m mode clock (Ok d) n

-- and what its requests are told; the worst delay is the last number of the change's printed line (`change` of PlanLines)
pub record Delays (t : Table) (w : Plan) (words : List ℕ) : Type 0 where
  -- what an accepted request is told passes from its tick to the one set for the first firing of the last stage
  pub delayed : {m n : Machine} {d : Tick} (mode : ℕ) (clock : Tick) → Granted words m mode clock d n → sink_set (plan_of t w) (seen n) ≡ clock.0 + d.0
  -- none is told more than the worst delay ..
  pub never_above : {m n : Machine} {d : Tick} (mode : ℕ) (clock : Tick) → Granted words m mode clock d n → d.0 ≤ (change_of w m.mode mode).worst.0
  -- .. some is told that, for any two modes: one to a machine that has begun in the first ..
  pub reached : (o l : ℕ) → T (is_listed t o) → T (is_listed t l) → l ≢ o
      → (m n : Machine) × (clock : Tick) × Begins words o (Ok m) × Granted words m l clock (change_of w o l).worst n
  -- .. and two that lead from one mode to another, at one place of the old iteration, are told the same
  pub alone : {m n after later : Machine} {d e : Tick} (mode : ℕ) (clock time : Tick) → Granted words m mode clock d after → Granted words n mode time e later
      → m.mode ≡ n.mode → place (plan_of t w) (seen m) (asking mode clock) ≡ place (plan_of t w) (seen n) (asking mode time) → d ≡ e

abbrev pub Demand3 : Type 0
Demand3 = (text before words : List ℕ) → Plans text before (Ok tt) words
    → (t : Table) × (w : Plan) × Reads text t × Planned t w × (words ≡ words_of t w) × Runs t w words × Delays t w words

-- ── The same for a caller in C ──

-- what is told: true and five zeros, with what then holds; or false and the five numbers of a refusal, with what then holds of it
abbrev pub Says : Bool → List ℕ → Type 0 → (Refusal → Type 0) → Type 0
Says ok numbers Yes No = ((ok ≡ true) × (numbers ≡ no_numbers) × Yes) ⊎ ((ok ≡ false) × ((r : Refusal) × (numbers ≡ numbers_of r) × No r))

-- each function tells what is answered, and where that is a refusal all else that it was lent is as it stood
pub record InC : Type 0 where
  pub plan : {text words after numbers : List ℕ} {ok : Bool} → PlanTold text words ok after numbers
      → Says ok numbers (Plans text words (Ok tt) after) (λ r. (after ≡ words) × Plans text words (Err r) words)
  pub print : {words out after numbers : List ℕ} {size n : ℕ} {ok : Bool} → PrintTold words out size ok after n numbers
      → Says ok numbers (Prints words out (Ok n) after) (λ r. (after ≡ out) × (n ≡ size) × Prints words out (Err r) out)
  pub start : {words three after numbers : List ℕ} {mode : ℕ} {ok : Bool} → StartTold words mode three ok after numbers
      → Says ok numbers ((m : Machine) × (after ≡ three_of m) × Begins words mode (Ok m)) (λ r. (after ≡ three) × Begins words mode (Err r))
  pub request : {words three after numbers : List ℕ} {mode clock delay d : ℕ} {ok : Bool} → RequestTold words three mode clock delay ok after d numbers
      → Says ok numbers ((m : Machine) × (after ≡ three_of m) × Granted words (machine_of three) mode (tick clock) (tick d) m)
      (λ r. (after ≡ three) × (d ≡ delay) × Answers words (machine_of three) mode (tick clock) (Err r) (machine_of three))

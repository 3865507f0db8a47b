-- The three demands hold. Assumes nothing.
use mathlib.Core.Path.{◌≡◌, refl, sym, ap, subst, ◌∙◌}
use mathlib.Core.Bool.{Bool, true, false, cond, not, ◌||◌}
use mathlib.Core.Logic.{◌⊎◌, inl, inr}
use mathlib.Core.List.{List}
use Prim.Native.Nat.{ℕ, ◌^◌, ◌≤◌}
use native.Mathlib.Omega.{arith}
use Rattle.std.specs.Prelude.{Option, Some, None, Result, Ok, Err}
use lib.Dec.{T, ltb, eqb}
use lib.ListN.{length}
use Rattle.units.specs.declared.Tick.{Tick}
use Rattle.units.specs.Ticks.{tick}
use Rattle.terms.specs.Refusal.{number_of as number}
use Rattle.terms.specs.declared.refusal.Reason.{Reason}
use Rattle.terms.specs.declared.refusal.Reason.TheVariants.{NoMode, SameMode, PastClock, Unended, NoMachine}
use Rattle.terms.specs.declared.refusal.Refusal.{Refusal}
use Rattle.tables.specs.Shape.{Mode, Table, empty_table}
use Rattle.reader.specs.Rows.{Row, by_3, by_4, by_5}
use Rattle.reader.specs.Numbers.{read_numbers}
use Rattle.reader.specs.Told.{Reading, Outcome as Rows, rows, refused as rows_refused, FrontRefused, After, Of, reading_of, Told}
use Rattle.reader.proofs.Again.{reads_proper}
use Rattle.planning.specs.Shape.{Plan}
use Rattle.planning.specs.Numbers.{modes_numbers}
use Rattle.planning.specs.Plan.{ModeRefused, Planned, Planning}
use Rattle.planning.proofs.Exists.{planning_exists}
use Rattle.run.specs.Plan.{RunPlan}
use Rattle.run.specs.Machine as Run
use Rattle.machine.specs.Plan.{is_listed, plan_of}
use Rattle.layout.specs.Words.{WORDS, words_of}
use Rattle.printer.specs.Printed.{PRINTED, plan_text, Shows}
use Rattle.planner.specs.Plans.{Plans, Prints, Reads, Leaves, Stored, no_plan}
use Rattle.planner.specs.Numbers.{plan_numbers}
use Rattle.planner.proofs.Answering.{told_refused, plans_unique, prints_unique}
use Rattle.planner.proofs.Leaving.{leaves_stored}
use Rattle.machine.specs.declared.Machine.{Machine}
use Rattle.machine.specs.Answers.{seen, asking, machine, Meant, Begins, Answers}
use Rattle.machine.proofs.Unique.{begins_unique, answers_unique}
use Rattle.machine.proofs.Steps.{listed_zero}
use Rattle.machine.proofs.Demand as Machine'
use Rattle.stellarsnare.specs.Face.{three_of, machine_of, PlanTold, StartTold, RequestTold, PrintTold}
use Rattle.demands.specs.Demands.{OnTable, OnStart, OnRequest, Demand1, TableRefused, TablesRight, MachinesRight, Demand2, Granted, Delays, Demand3, Says, InC}
use Rattle.demands.proofs.Printing.{lines}

-- the numbers of the refusals of rows, and of modes
abbrev OfRow : Rows → Type 0
OfRow (rows rs) = Unit {0}
OfRow (rows_refused r k) = (1 ≤ number r) × (number r ≤ 5)

front_row : {earlier : List Row} {text : List ℕ} {r : Reason} → FrontRefused earlier text r → (1 ≤ number r) × (number r ≤ 5)
front_row (FrontRefused.by_1 x) = (omega arith, omega arith)
front_row (FrontRefused.by_2 x) = (omega arith, omega arith)
front_row (FrontRefused.by_row f (by_3 x)) = (omega arith, omega arith)
front_row (FrontRefused.by_row f (by_4 x y)) = (omega arith, omega arith)
front_row (FrontRefused.by_row f (by_5 x y z)) = (omega arith, omega arith)

after_row : {earlier : List Row} {text : List ℕ} {o : Rows} → After earlier text o → OfRow o
after_row After.done = tt
after_row (After.stopped h x) = front_row x
after_row (After.passed f p a) = after_row a

of_row : {text : List ℕ} {o : Rows} → Of text o → OfRow o
of_row (Of.wrong_length l) = (omega arith, omega arith)
of_row (Of.right_length l m a) = after_row a

told_number : {text : List ℕ} {r : Refusal} → Told text (record { answer = Err r; table = empty_table }) → (1 ≤ number r.reason) × (number r.reason ≤ 10)
told_number {text} {r} (o, of, e) = go o of (ap (λ (x : Reading). x.answer) e)
  where
    go : (o : Rows) → Of text o → Err r ≡ (reading_of o).answer → (1 ≤ number r.reason) × (number r.reason ≤ 10)
    go (rows rs) of e = absurd cc
    go (rows_refused n k) of e =
        let same : n ≡ r.reason = cc in
        let (a, b) = of_row of in
        subst (λ (m : Reason). (1 ≤ number m) × (number m ≤ 10)) same (a, omega (arith, b))

mode_number : {m : Mode} {n : ℕ} {r : Refusal} → ModeRefused m n r → (1 ≤ number r.reason) × (number r.reason ≤ 10)
mode_number (ModeRefused.by_6 c) = (omega arith, omega arith)
mode_number (ModeRefused.by_7 c e) = (omega arith, omega arith)
mode_number (ModeRefused.by_8 c e u) = (omega arith, omega arith)
mode_number (ModeRefused.by_9 b o) = (omega arith, omega arith)
mode_number (ModeRefused.by_10 b o s l) = (omega arith, omega arith)

mode_refused : {text : List ℕ} {t : Table} {x : Result Plan Refusal} {r : Refusal} → Reads text t → Planning t x → x ≡ Err r
    → TableRefused text r × ((1 ≤ number r.reason) × (number r.reason ≤ 10))
mode_refused {text} {r = r} reads (Planning.refused {r = s} listed lower refused) e =
    let same : s ≡ r = cc in
    subst (λ (r : Refusal). TableRefused text r × ((1 ≤ number r.reason) × (number r.reason ≤ 10))) same
    (TableRefused.at_mode reads listed lower refused, mode_number refused)
mode_refused reads (Planning.planned p) e = absurd cc

on_table : {text before after : List ℕ} {a : Result (Unit {0}) Refusal} → Plans text before a after → OnTable before a after
on_table (Plans.wrong_length n) = OnTable.refused (inr refl)
on_table (Plans.not_read l told) = OnTable.refused (inl (told_number told))
on_table (Plans.not_planned l reads p) = OnTable.refused (inl (mode_refused reads p refl).1)
on_table (Plans.accepted l reads p) = OnTable.accepted

on_start : {words : List ℕ} {mode : ℕ} {b : Result Machine Refusal} → Begins words mode b → OnStart b
on_start (Begins.not_stored n) = OnStart.refused (inr refl)
on_start (Begins.not_listed l m n) = OnStart.refused (inl refl)
on_start (Begins.begun l m h) = OnStart.begun

-- a request is refused by a number from 11 to 16, or not at all
abbrev OfRequest : Option Reason → Type 0
OfRequest None = Unit {0}
OfRequest (Some r) = (11 ≤ number r) × (number r ≤ 16)

either : (b : Bool) (r : Reason) (o : Option Reason) → 11 ≤ number r → number r ≤ 16 → OfRequest o → OfRequest (cond b (Some r) o)
either true r o p q h = (p, q)
either false r o p q h = h

of_request : (p : RunPlan) (m : Run.Machine) (r : Run.Request) → OfRequest (Run.refusal p m r)
unfolding Run.refusal
of_request p m r =
    either (not (p.listed m.mode) || ltb m.ended m.started) NoMachine _ (omega arith) (omega arith)
    (either (not (p.listed r.mode)) NoMode _ (omega arith) (omega arith)
    (either (eqb r.mode m.mode) SameMode _ (omega arith) (omega arith)
    (either (ltb (2 ^ 62) r.tick) PastClock _ (omega arith) (omega arith)
    (either (ltb r.tick m.ended) Unended _ (omega arith) (omega arith) tt))))

on_request : {words : List ℕ} {m : Machine} {mode : ℕ} {clock : Tick} {a : Result Tick Refusal} {n : Machine} → Answers words m mode clock a n → OnRequest m a n
on_request (Answers.not_stored n) = OnRequest.refused (omega arith) (omega arith)
on_request {m = m} {mode} {clock} (Answers.refused {t} {w} {r} l e) =
    let (a, b) = subst OfRequest e (of_request (plan_of t w) (seen m) (asking mode clock)) in
    OnRequest.refused a b
on_request (Answers.accepted l e) = OnRequest.accepted

pub demand_1 : Demand1
demand_1 =
    record {
      table = on_table;
      start = on_start;
      request = on_request;
      one_table = plans_unique;
      one_start = begins_unique;
      one_request = answers_unique;
    }

left_planned : {text before words : List ℕ} {a : Result (Unit {0}) Refusal} → Plans text before a words → a ≡ Ok tt
    → (t : Table) × (w : Plan) × Reads text t × Planned t w × (words ≡ words_of t w)
left_planned (Plans.wrong_length n) e = absurd cc
left_planned (Plans.not_read l r) e = absurd cc
left_planned (Plans.not_planned l r p) e = absurd cc
left_planned (Plans.accepted {t} {w} l r p) e = (t, w, r, p, refl)

refuses : {text before : List ℕ} {r : Refusal} → length before ≡ WORDS → TableRefused text r → Plans text before (Err r) before
refuses l (TableRefused.at_row told) = Plans.not_read l told
refuses l (TableRefused.at_mode reads listed lower refused) = Plans.not_planned l reads (Planning.refused listed lower refused)

only_then : {text before after : List ℕ} {a : Result (Unit {0}) Refusal} {r : Refusal} → length before ≡ WORDS → Plans text before a after → a ≡ Err r → TableRefused text r
only_then l (Plans.wrong_length n) e = absurd (n l)
only_then {text} {r = r} l (Plans.not_read {r = s} k told) e = let same : s ≡ r = cc in subst (TableRefused text) same (TableRefused.at_row told)
only_then {text} {r = r} l (Plans.not_planned {r = s} k reads p) e = let same : s ≡ r = cc in subst (TableRefused text) same (mode_refused reads p refl).0
only_then l (Plans.accepted k r p) e = absurd cc

answered : {text : List ℕ} {t : Table} → Reads text t → ((w : Plan) × Planned t w) ⊎ ((r : Refusal) × TableRefused text r)
answered {text} {t} reads = go (planning_exists t (reads_proper text t reads)).1
  where
    go : {x : Result Plan Refusal} → Planning t x → ((w : Plan) × Planned t w) ⊎ ((r : Refusal) × TableRefused text r)
    go (Planning.refused listed lower refused) = inr (_, TableRefused.at_mode reads listed lower refused)
    go (Planning.planned p) = inl (_, p)

text_numbers : {text before after : List ℕ} {x : Reading} {a : Result (Unit {0}) Refusal} → length before ≡ WORDS → Told text x → (x.answer ≡ Ok tt → ⊥)
    → Plans text before a after → plan_numbers a ≡ read_numbers x.answer
text_numbers {text} {before} {x = x} {a} l told n plans = go x.answer refl
  where
    go : (y : Result (Unit {0}) Refusal) → x.answer ≡ y → plan_numbers a ≡ read_numbers x.answer
    go (Ok u) e = absurd (n e)
    go (Err r) e =
        let refused = told_refused (subst (λ (y : Result (Unit {0}) Refusal). Told text (record { answer = y; table = x.table })) e told) in
        ap plan_numbers (plans_unique plans (Plans.not_read l refused)).0 ∙ ap read_numbers (sym e)

modes_numbers_law : {text before after : List ℕ} {t : Table} {x : Result Plan Refusal} {a : Result (Unit {0}) Refusal} → length before ≡ WORDS → Reads text t
    → Planning t x → Plans text before a after → plan_numbers a ≡ modes_numbers x
modes_numbers_law l reads (Planning.refused listed lower refused) plans =
    ap plan_numbers (plans_unique plans (Plans.not_planned l reads (Planning.refused listed lower refused))).0
modes_numbers_law l reads (Planning.planned p) plans = ap plan_numbers (plans_unique plans (Plans.accepted l reads p)).0

tables : TablesRight
tables =
    record {
      right = λ p. left_planned p refl;
      accepted = Plans.accepted;
      refused = refuses;
      only_then = λ l p. only_then l p refl;
      no_room = λ n. (Plans.wrong_length n, refl);
      answered = answered;
      text_numbers = text_numbers;
      modes_numbers_law = modes_numbers_law;
    }

printed : {t : Table} {w : Plan} {words before after : List ℕ} {x : Result ℕ Refusal} → Leaves t w words → length before ≡ PRINTED → Prints words before x after
    → (n : ℕ) × (x ≡ Ok n) × Shows (plan_text t w) after n
printed {t} {w} l long p =
    let (e, f) = prints_unique p (Prints.printed long l (record { long = refl; is = refl })) in
    (length (plan_text t w), e, record { long = refl; is = f })

print_15 : {words before after : List ℕ} {x : Result ℕ Refusal} → (length before ≡ PRINTED → Stored words → ⊥) → Prints words before x after
    → (x ≡ Err no_plan) × (number no_plan.reason ≡ 15) × (after ≡ before)
print_15 n (Prints.no_room h) = (refl, refl, refl)
print_15 n (Prints.not_stored h k) = (refl, refl, refl)
print_15 n (Prints.printed h l s) = absurd (n h (leaves_stored l))

machines : MachinesRight
machines =
    record {
      start_15 = λ n b. (begins_unique b (Begins.not_stored n), refl);
      start_11 = λ l m n b. (begins_unique b (Begins.not_listed l m n), refl);
      start_begun = λ l m h b. begins_unique b (Begins.begun l m h);
      request_15 = λ n a. let (e, f) = answers_unique a (Answers.not_stored n) in (e, refl, f);
      request_refused = λ l e a. answers_unique a (Answers.refused l e);
      request_accepted = λ l e a. answers_unique a (Answers.accepted l e);
    }

pub demand_2 : Demand2
demand_2 = record { tables = tables; printing = record { printed = printed; lines = lines; print_15 = print_15 }; machines = machines }

-- the mode with a number that is listed
meant : (t : Table) (k : ℕ) → T (is_listed t k) → Meant t k k
meant t k h = record { lowest = λ e. absurd (subst T (listed_zero t k e) h); named = λ n. refl }

delays : {t : Table} {w : Plan} {words : List ℕ} → Leaves t w words → Delays t w words
delays {t} {w} {words} l =
    record {
      delayed = Machine'.delayed l;
      never_above = Machine'.never_above l;
      reached = λ o n ho hn other.
          let (clock, k, told) = Machine'.reached l o n ho hn other in
          (machine (Run.begin (plan_of t w) o).now, k, clock, Begins.begun l (meant t o ho) ho, told);
      alone = Machine'.alone l;
    }

pub demand_3 : Demand3
demand_3 text before words p =
    let (t, w, r, q, e) = left_planned p refl in
    let l : Leaves t w words = record { text = text; reads = r; planned = q; left = e } in
    (t, w, r, q, e, record { right = Machine'.right l; orderly = Machine'.orderly l; machine_runs = Machine'.begun_run l }, delays l)

told_plan : {text words after numbers : List ℕ} {ok : Bool} → PlanTold text words ok after numbers
    → Says ok numbers (Plans text words (Ok tt) after) (λ r. (after ≡ words) × Plans text words (Err r) words)
told_plan (PlanTold.accepted p) = inl (refl, refl, p)
told_plan (PlanTold.refused p) = inr (refl, (_, refl, (refl, p)))

told_print : {words out after numbers : List ℕ} {size n : ℕ} {ok : Bool} → PrintTold words out size ok after n numbers
    → Says ok numbers (Prints words out (Ok n) after) (λ r. (after ≡ out) × (n ≡ size) × Prints words out (Err r) out)
told_print (PrintTold.accepted p) = inl (refl, refl, p)
told_print (PrintTold.refused p) = inr (refl, (_, refl, (refl, refl, p)))

told_start : {words three after numbers : List ℕ} {mode : ℕ} {ok : Bool} → StartTold words mode three ok after numbers
    → Says ok numbers ((m : Machine) × (after ≡ three_of m) × Begins words mode (Ok m)) (λ r. (after ≡ three) × Begins words mode (Err r))
told_start (StartTold.accepted p) = inl (refl, refl, (_, refl, p))
told_start (StartTold.refused p) = inr (refl, (_, refl, (refl, p)))

told_request : {words three after numbers : List ℕ} {mode clock delay d : ℕ} {ok : Bool} → RequestTold words three mode clock delay ok after d numbers
    → Says ok numbers ((m : Machine) × (after ≡ three_of m) × Granted words (machine_of three) mode (tick clock) (tick d) m)
    (λ r. (after ≡ three) × (d ≡ delay) × Answers words (machine_of three) mode (tick clock) (Err r) (machine_of three))
told_request (RequestTold.accepted p) = inl (refl, refl, (_, refl, p))
told_request (RequestTold.refused p) = inr (refl, (_, refl, (refl, refl, p)))

pub in_c : InC
in_c = record { plan = told_plan; print = told_print; start = told_start; request = told_request }

-- A claim holds where it is what is reckoned of the table. Assumes nothing.
use mathlib.Core.Path.{◌≡◌, refl, ap, ap₂, subst, subst₂, ◌∙◌}
use mathlib.Core.Bool.{Bool, true, ◌&&◌}
use mathlib.Core.List.{List, [], ◌∷◌, ◌++◌, map}
use mathlib.Core.Logic.Iff
use Prim.Native.Nat.{ℕ, zero, suc, ◌-◌}
use Rattle.std.specs.Prelude.{Result, Ok, Err}
use lib.Dec.{T, leb, ltb, ltb→lt, leb→le}
use lib.ListN.{length, get_or, replicate}
use Rattle.numbers.specs.Decides.{decides_and}
use Rattle.numbers.specs.Every.{Every}
use Rattle.numbers.specs.Fraction.{Same}
use Rattle.numbers.specs.Tab.{get_or_replicated}
use Rattle.units.specs.Limits.{MODES, ACTORS, MOST_BYTES}
use Rattle.units.specs.declared.Tick.{Tick}
use Rattle.units.specs.Ticks.{tick}
use Rattle.terms.specs.Refusal.{line_of, printed_of}
use Rattle.terms.specs.declared.refusal.Refusal.{Refusal}
use Rattle.terms.specs.declared.refusal.Printed.{Printed as Five}
use Rattle.tables.specs.Shape.{Mode, Table, mode_at}
use Rattle.tables.specs.Proper.{ProperMode, ProperTable}
use Rattle.reader.specs.Told.{rows, table_of}
use Rattle.reader.proofs.Again.{reads_proper}
use Rattle.reader.proofs.Computed.{rows_in, readsb, reads_rows}
use Rattle.graph.specs.declared.Fault.{Fault}
use Rattle.graph.specs.declared.Judgement.{Judgement}
use Rattle.graph.specs.Judged.{Judged}
use Rattle.graph.specs.Judge.{judge_of}
use Rattle.graph.proofs.Judging.{judge_judged}
use Rattle.graph.proofs.Unique.{judged_unique}
use Rattle.schedule.specs.Starts.{Starts}
use Rattle.schedule.specs.Reached.{start_at}
use Rattle.schedule.specs.Model.{starts_of}
use Rattle.schedule.proofs.Laws.{starts_exist}
use Rattle.change.specs.Change.{load_at}
use Rattle.planning.specs.declared.ModePlan.{ModePlan}
use Rattle.planning.specs.Shape.{Plan}
use Rattle.planning.specs.Plan.{Planned}
use Rattle.planning.proofs.Unique.{plan_unique}
use Rattle.run.specs.Machine as Run
use Rattle.machine.specs.Plan.{is_listed, plan_of}
use Rattle.printer.specs.Printed.{plan_text, Shows}
use Rattle.planner.specs.Plans.{Reads, accepted, not_planned, Leaves, no_room, not_stored, printed}
use Rattle.planner.proofs.Leaving.{reads_one, leaves_stored, leaves_table, leaves_plan}
use Rattle.planner.proofs.Answering.{plans_unique}
use Rattle.machine.specs.Answers.{machine}
use Rattle.marked.specs.Lines.{Claim, prints, refuses, starts, loads, answers, Line, text_of, WhenPlanned, WhenPrinted, WhenBegun, times_at, Claimed, Holds}
use Rattle.planning.proofs.Reckoned.{answer_of}
use Rattle.marked.proofs.Reckoned.{passes_of, plan_for, plan_planned, first_refused}
use Rattle.marked.proofs.Told.{AllTold, begun_answers}

-- the text is read: it passes the test by computing, and is neither empty nor too long
abbrev pub IsRead : List ℕ → Type 0
IsRead text = T (readsb text && (ltb 0 (length text) && leb (length text) MOST_BYTES))

-- the table of a text
abbrev pub table_in : List ℕ → Table
table_in text = table_of (rows_in text)

-- the text is read, and no mode of its table is refused
abbrev pub Passes : List ℕ → Type 0
Passes text = IsRead text × (passes_of (table_in text) ≡ replicate MODES true)

-- an answer that refuses, with these five numbers
abbrev Refuses : Result ModePlan Refusal → Five → Type 0
Refuses (Ok p) l = ⊥
Refuses (Err x) l = printed_of x ≡ l

-- a judgement that does not refuse, with these starts, and 0 behind them
abbrev Begins : Mode → Result Judgement Fault → List ℕ → Type 0
Begins m (Err f) ss = ⊥
Begins m (Ok j) ss = starts_of m j.periods j.depths ≡ map tick ss ++ replicate (ACTORS - length ss) (tick 0)

-- what is to be reckoned for a claim
abbrev pub Right : List ℕ → Claim → Type 0
Right text (prints ls) = Passes text × (plan_text (table_in text) (plan_for (table_in text)) ≡ text_of ls)
Right text (refuses n row m a q) = IsRead text × Refuses (answer_of (mode_at (table_in text) 0) 1) (line_of n row m a q)
Right text (starts n ss) =
    IsRead text
    × T (ltb (n - 1) MODES)
    × Begins (mode_at (table_in text) (n - 1)) (judge_of (mode_at (table_in text) (n - 1))) ss
Right text (loads o n d k q over under) =
    Passes text
    × Same (load_at (times_at (table_in text) (plan_for (table_in text)) o) (times_at (table_in text) (plan_for (table_in text)) n) d k q)
    (record { over = over; under = under })
Right text (answers n qs) =
    Passes text
    × T (is_listed (table_in text) n)
    × AllTold (plan_of (table_in text) (plan_for (table_in text))) (machine (Run.begin (plan_of (table_in text) (plan_for (table_in text))) n).now) qs

both : (x y : Bool) → T (x && y) → T x × T y
both x y h = (decides_and x y Iff.rfl Iff.rfl).0 h

-- starts, with 0 behind them
starts_at : (ss : List ℕ) (n i : ℕ) → get_or (map tick ss ++ replicate n (tick 0)) i (tick 0) ≡ tick (get_or ss i 0)
starts_at [] n i = get_or_replicated n i (tick 0)
starts_at (s ∷ ss) n zero = refl
starts_at (s ∷ ss) n (suc i) = starts_at ss n i

-- a text reads as its table, which is proper and has the plan that is reckoned
module _ (text : List ℕ) where
  pub reads : IsRead text → Reads text (table_in text)
  reads h =
      let (r, l) = both (readsb text) (ltb 0 (length text) && leb (length text) MOST_BYTES) h in
      let (some, few) = both (ltb 0 (length text)) (leb (length text) MOST_BYTES) l in
      (rows (rows_in text), reads_rows text r (ltb→lt 0 (length text) some) (leb→le (length text) MOST_BYTES few), refl)

  proper : IsRead text → ProperTable (table_in text)
  proper h = reads_proper text (table_in text) (reads h)

  pub planned : Passes text → Planned (table_in text) (plan_for (table_in text))
  planned g = plan_planned (table_in text) (proper g.0) g.1

-- whatever is answered to a text with a plan, it is accepted and leaves that plan
module _ {text : List ℕ} {t : Table} {w : Plan} (r : Reads text t) (p : Planned t w) where
  planning : (P : List ℕ → Type 0) → ((words : List ℕ) → Leaves t w words → P words) → WhenPlanned text (λ a before after. (a ≡ Ok tt) × P after)
  planning P f before after a l q =
      let (e, k) = plans_unique q (accepted l r p) in (e, f after (record { text = text; reads = r; planned = p; left = k }))

  -- and it is the only plan
  pub any_plan : (P : Table → Plan → Type 0) → P t w → (u : Table) (v : Plan) → Reads text u → Planned u v → P u v
  any_plan P h u v s x = let e = reads_one r s in subst₂ P e (plan_unique u w v (subst (λ (y : Table). Planned y w) e p) x) h

-- whatever is printed of words is the text of their plan
printed_is : {t : Table} {w : Plan} {words : List ℕ} → Leaves t w words → (shown : List ℕ) → plan_text t w ≡ shown → WhenPrinted words shown
printed_is l shown e before after x h (no_room n) = absurd (n h)
printed_is l shown e before after x h (not_stored k n) = absurd (n (leaves_stored l))
printed_is l shown e before after x h (printed {n = n} k q s) =
    (n, refl, subst (λ (y : List ℕ). Shows y after n) (ap₂ plan_text (leaves_table q l) (leaves_plan q l) ∙ e) s)

-- whatever is judged of a mode has the starts that are reckoned
judged_starts : (m : Mode) (ss : List ℕ) → ProperMode m → (a : Result Judgement Fault) → Judged m a → Begins m a ss → (r : Result Judgement Fault) → Judged m r
    → (j : Judgement) × (r ≡ Ok j) × Starts m j.periods (λ i. tick (get_or ss i 0))
judged_starts m ss proper (Err f) d e r x = absurd e
judged_starts m ss proper (Ok j) d e r x = (j, judged_unique m x d, subst (Starts m j.periods) (λ k i. same i k) (starts_exist m j proper d))
  where
    same : (i : ℕ) → start_at (starts_of m j.periods j.depths) i ≡ tick (get_or ss i 0)
    same i = ap (λ (l : List Tick). get_or l i (tick 0)) e ∙ starts_at ss (ACTORS - length ss) i

-- whatever is answered to a text whose mode 1 is refused, it is that refusal
refused_is : (text : List ℕ) (n row m a q : ℕ) → IsRead text → (x : Result ModePlan Refusal) → answer_of (mode_at (table_in text) 0) 1 ≡ x → Refuses x (line_of n row m a q)
    → Claimed text (refuses n row m a q)
refused_is text n row m a q r (Ok p) f e = absurd e
refused_is text n row m a q r (Err x) f e = λ before after y l s.
    let (g, k) = plans_unique s (not_planned l (reads text r) (first_refused (table_in text) (proper text r) x f)) in ((x, g, e), k)

claimed : (text : List ℕ) (c : Claim) → Right text c → Claimed text c
claimed text (prints ls) (g, e) = planning (reads text g.0) (planned text g) (λ words. WhenPrinted words (text_of ls)) (λ words l. printed_is l (text_of ls) e)
claimed text (refuses n row m a q) (r, e) = refused_is text n row m a q r (answer_of (mode_at (table_in text) 0) 1) refl e
claimed text (starts n ss) (r, b, e) = λ u v s x.
    subst (λ (y : Table). (v : Result Judgement Fault) → Judged (mode_at y (n - 1)) v → (j : Judgement) × (v ≡ Ok j) × Starts (mode_at y (n - 1)) j.periods (λ i. tick (get_or ss i 0)))
    (reads_one (reads text r) s)
    (judged_starts (mode_at (table_in text) (n - 1)) ss ((proper text r).mode (n - 1) (ltb→lt _ _ b)) _ (judge_judged _ ((proper text r).mode (n - 1) (ltb→lt _ _ b))) e) v x
claimed text (loads o n d k q over under) (g, e) =
    any_plan (reads text g.0) (planned text g) (λ t w. Same (load_at (times_at t w o) (times_at t w n) d k q) (record { over = over; under = under })) e
claimed text (answers n qs) (g, h, e) =
    planning (reads text g.0) (planned text g) (λ words. WhenBegun words n qs) (λ words l. begun_answers l n qs h e)

pub all_hold : (ls : List Line) → Every (λ l. Right (text_of l.rows) l.claim) ls → Every Holds ls
all_hold [] h = tt
all_hold (l ∷ ls) h = (claimed (text_of l.rows) l.claim h.0, all_hold ls h.1)

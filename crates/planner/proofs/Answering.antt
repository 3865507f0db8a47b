-- What is read and planned, by the answer that is given; and one answer only. Assumes nothing.
use mathlib.Core.Path.{◌≡◌, refl, sym, ap, ap₂, subst, ◌∙◌}
use mathlib.Core.List.{List, ◌++◌}
use Prim.Native.Nat.{ℕ, ◌+◌, ◌*◌, ◌-◌, ◌<◌}
use native.Mathlib.Omega.{arith}
use lib.ListN.{length, replicate}
use Rattle.units.specs.Limits.{MODES}
use Rattle.std.specs.Prelude.{Result, Ok, Err}
use Rattle.terms.specs.declared.refusal.Refusal.{Refusal}
use Rattle.tables.specs.Proper.{ProperTable}
use Rattle.tables.specs.Shape.{Table, mode_at, empty_table}
use Rattle.reader.specs.Told.{Reading, Outcome as Rows, rows, refused as rows_refused, Of, reading_of, Told}
use Rattle.reader.proofs.Again.{told_one}
use Rattle.planning.specs.Shape.{Plan}
use Rattle.planning.specs.Plan.{part_at, Planned, Planning, planned}
use Rattle.planning.proofs.Unique.{planning_unique}
use Rattle.planning.proofs.Bounds.{planned_small}
use Rattle.layout.specs.Words.{words_of}
use Rattle.printer.specs.Printed.{PRINTED, plan_text, SmallPart, Small}
use Rattle.planner.specs.Plans.{Reads, Plans, wrong_length, not_read, not_planned, accepted, Prints, no_room, not_stored, printed}
use Rattle.planner.proofs.Leaving.{reads_one, leaves_stored, leaves_table, leaves_plan}

-- a text that is refused leaves nothing in memory
pub told_refused : {text : List ℕ} {t : Table} {r : Refusal} → Told text (record { answer = Err r; table = t }) → Told text (record { answer = Err r; table = empty_table })
told_refused {text} {t} {r} (o, of, s) = go o of s
  where
    go : (o : Rows) → Of text o → ◌≡◌ {A = Reading} (record { answer = Err r; table = t }) (reading_of o) → Told text (record { answer = Err r; table = empty_table })
    go (rows rs) of s = let e : ◌≡◌ {A = Result (Unit {0}) Refusal} (Err r) (Ok tt) = ap (λ (x : Reading). x.answer) s in absurd cc
    go (rows_refused n k) of s = (rows_refused n k, of, ap (λ (x : Reading). record { answer = x.answer; table = empty_table }) s)

-- a table with a plan is not refused
pub planned_refused : {t : Table} {w : Plan} {r : Refusal} → Planned t w → Planning t (Err r) → ⊥
planned_refused {t} {w} {r} p q = let e : ◌≡◌ {A = Result Plan Refusal} (Ok w) (Err r) = planning_unique t (planned p) q in cc

-- a text that is read is not refused
read_refused : {text : List ℕ} {t : Table} {r : Refusal} → Reads text t → Told text (record { answer = Err r; table = empty_table }) → ⊥
read_refused {text} {t} {r} p q =
    let e : ◌≡◌ {A = Result (Unit {0}) Refusal} (Ok tt) (Err r) = ap (λ (x : Reading). x.answer) (told_one p q) in cc

-- the numbers of a plan are within the limits of what is printed
pub small_printed : (t : Table) (w : Plan) → ProperTable t → Planned t w → Small t w
small_printed t w proper p =
    let s = planned_small t proper w p in
    let part : (m : ℕ) → m < MODES → SmallPart (mode_at t m) (part_at w m)
    = λ m l.
    let mode = proper.mode m l in
    let q = s.part m l in
    record {
      count = mode.count;
      from = λ k h. (mode.channel k h).from;
      to = λ k h. (mode.channel k h).to;
      firings = λ i h. q.firings i;
      periods = λ i h. q.periods i;
      starts = λ i h. omega (arith, q.starts i);
      sizes = λ k h. omega (arith, q.sizes k);
      tokens = λ k h. omega (arith, q.tokens k);
    } in
    record {
      parts = part;
      changes = λ o n ho hn. let c = s.change (MODES * o + n) in
          record { overlap = omega (arith, c.overlap); offset = omega (arith, c.offset); worst = omega (arith, c.worst) };
    }

-- the refusal of a table is passed on
unplanned_same : {r s : Refusal} → ◌≡◌ {A = Result Plan Refusal} (Err r) (Err s) → ◌≡◌ {A = Result (Unit {0}) Refusal} (Err r) (Err s)
unplanned_same {r} {s} e = let f : r ≡ s = cc in ap Err f

-- the plan of a table is one
same_plan : {w v : Plan} → ◌≡◌ {A = Result Plan Refusal} (Ok w) (Ok v) → w ≡ v
same_plan e = cc

-- a text's table has one outcome
carried : {text : List ℕ} {t u : Table} {x : Result Plan Refusal} → Reads text t → Reads text u → Planning t x → Planning u x
carried {x = x} p q = subst (λ (y : Table). Planning y x) (reads_one p q)

-- one answer to a text, and one content of the words behind it
pub plans_unique : {text before k j : List ℕ} {x y : Result (Unit {0}) Refusal} → Plans text before x k → Plans text before y j → (x ≡ y) × (k ≡ j)
plans_unique (wrong_length n) (wrong_length m) = (refl, refl)
plans_unique (wrong_length n) (not_read l r) = absurd (n l)
plans_unique (wrong_length n) (not_planned l r p) = absurd (n l)
plans_unique (wrong_length n) (accepted l r p) = absurd (n l)
plans_unique (not_read l r) (wrong_length n) = absurd (n l)
plans_unique (not_read l p) (not_read m q) = (ap (λ (x : Reading). x.answer) (told_one p q), refl)
plans_unique (not_read l p) (not_planned m q r) = absurd (read_refused q p)
plans_unique (not_read l p) (accepted m q r) = absurd (read_refused q p)
plans_unique (not_planned l r p) (wrong_length n) = absurd (n l)
plans_unique (not_planned l q r) (not_read m p) = absurd (read_refused q p)
plans_unique (not_planned l p r) (not_planned {t = u} m q s) = (unplanned_same (planning_unique u (carried p q r) s), refl)
plans_unique (not_planned l p r) (accepted m q s) = absurd (planned_refused s (carried p q r))
plans_unique (accepted l r p) (wrong_length n) = absurd (n l)
plans_unique (accepted l q r) (not_read m p) = absurd (read_refused q p)
plans_unique (accepted l p r) (not_planned m q s) = absurd (planned_refused r (carried q p s))
plans_unique (accepted l p r) (accepted {t = u} m q s) =
    (refl, ap₂ words_of (reads_one p q) (same_plan (planning_unique u (carried p q (planned r)) (planned s))))

-- one answer to words, and one content of the bytes behind it
pub prints_unique : {words before k j : List ℕ} {x y : Result ℕ Refusal} → Prints words before x k → Prints words before y j → (x ≡ y) × (k ≡ j)
prints_unique (no_room n) (no_room m) = (refl, refl)
prints_unique (no_room n) (not_stored l m) = absurd (n l)
prints_unique (no_room n) (printed l q s) = absurd (n l)
prints_unique (not_stored l n) (no_room m) = absurd (m l)
prints_unique (not_stored l n) (not_stored k m) = (refl, refl)
prints_unique (not_stored l n) (printed k q s) = absurd (n (leaves_stored q))
prints_unique (printed l p r) (no_room n) = absurd (n l)
prints_unique (printed l p r) (not_stored k n) = absurd (n (leaves_stored p))
prints_unique (printed l p r) (printed k q s) =
    let e = ap₂ plan_text (leaves_table p q) (leaves_plan p q) in
    let same = r.long ∙ ap length e ∙ sym s.long in
    (ap Ok same, r.is ∙ ap₂ (λ (text : List ℕ) (n : ℕ). text ++ replicate (PRINTED - n) 0) e same ∙ sym s.is)

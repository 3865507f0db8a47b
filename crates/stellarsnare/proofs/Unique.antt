-- One thing only is told of each answer. Assumes nothing.
use mathlib.Core.Path.{◌≡◌, refl, ap}
use mathlib.Core.Bool.{Bool}
use mathlib.Core.List.{List}
use Prim.Native.Nat.{ℕ}
use Rattle.units.specs.declared.Tick.{Tick}
use Rattle.terms.specs.Refusal.{numbers_of}
use Rattle.planner.proofs.Answering.{plans_unique, prints_unique}
use Rattle.machine.proofs.Unique.{begins_unique, answers_unique}
use Rattle.stellarsnare.specs.Face.{three_of, PlanTold, StartTold, RequestTold, PrintTold}
use Rattle.stellarsnare.proofs.Telling.{apart}

pub plan_unique : {text words k l i j : List ℕ} {x y : Bool} → PlanTold text words x k i → PlanTold text words y l j → (x ≡ y) × (k ≡ l) × (i ≡ j)
plan_unique (PlanTold.accepted p) (PlanTold.accepted q) = (refl, (plans_unique p q).1, refl)
plan_unique (PlanTold.accepted p) (PlanTold.refused q) = absurd (apart (plans_unique p q).0)
plan_unique (PlanTold.refused p) (PlanTold.accepted q) = absurd (apart (plans_unique q p).0)
plan_unique (PlanTold.refused {r} p) (PlanTold.refused {r = s} q) =
    let (e, _) = plans_unique p q in
    let f : r ≡ s = cc in
    (refl, refl, ap numbers_of f)

pub start_unique : {words machine k l i j : List ℕ} {mode : ℕ} {x y : Bool} → StartTold words mode machine x k i → StartTold words mode machine y l j
    → (x ≡ y) × (k ≡ l) × (i ≡ j)
start_unique (StartTold.accepted {m} p) (StartTold.accepted {m = n} q) =
    let e = begins_unique p q in
    let f : m ≡ n = cc in
    (refl, ap three_of f, refl)
start_unique (StartTold.accepted p) (StartTold.refused q) = absurd (apart (begins_unique p q))
start_unique (StartTold.refused p) (StartTold.accepted q) = absurd (apart (begins_unique q p))
start_unique (StartTold.refused {r} p) (StartTold.refused {r = s} q) =
    let e = begins_unique p q in
    let f : r ≡ s = cc in
    (refl, refl, ap numbers_of f)

pub request_unique : {words machine k l i j : List ℕ} {mode clock delay d e : ℕ} {x y : Bool} → RequestTold words machine mode clock delay x k d i
    → RequestTold words machine mode clock delay y l e j → (x ≡ y) × (k ≡ l) × (d ≡ e) × (i ≡ j)
request_unique (RequestTold.accepted {d} p) (RequestTold.accepted {d = e} q) =
    let (f, g) = answers_unique p q in
    let h : d ≡ e = cc in
    (refl, ap three_of g, ap (λ (t : Tick). t.0) h, refl)
request_unique (RequestTold.accepted p) (RequestTold.refused q) = absurd (apart (answers_unique p q).0)
request_unique (RequestTold.refused p) (RequestTold.accepted q) = absurd (apart (answers_unique q p).0)
request_unique (RequestTold.refused {r} p) (RequestTold.refused {r = s} q) =
    let (e, _) = answers_unique p q in
    let f : r ≡ s = cc in
    (refl, refl, refl, ap numbers_of f)

pub print_unique : {words out k l i j : List ℕ} {length m n : ℕ} {x y : Bool} → PrintTold words out length x k m i → PrintTold words out length y l n j
    → (x ≡ y) × (k ≡ l) × (m ≡ n) × (i ≡ j)
print_unique (PrintTold.accepted {n = m} p) (PrintTold.accepted {n} q) =
    let (e, f) = prints_unique p q in
    let g : m ≡ n = cc in
    (refl, f, g, refl)
print_unique (PrintTold.accepted p) (PrintTold.refused q) = absurd (apart (prints_unique p q).0)
print_unique (PrintTold.refused p) (PrintTold.accepted q) = absurd (apart (prints_unique q p).0)
print_unique (PrintTold.refused {r} p) (PrintTold.refused {r = s} q) =
    let (e, _) = prints_unique p q in
    let f : r ≡ s = cc in
    (refl, refl, refl, ap numbers_of f)

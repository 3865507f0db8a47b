-- What is told of an answer. Assumes nothing.
use mathlib.Core.Path.{◌≡◌, refl, sym}
use mathlib.Core.Bool.{true, false}
use mathlib.Core.List.{List}
use Prim.Native.Nat.{ℕ}
use Rattle.std.specs.Prelude.{Option, Some, None, is_some, Result, Ok, Err}
use Rattle.std.proofs.lemmas.Option.{none-some}
use Rattle.units.specs.declared.Tick.{Tick}
use Rattle.units.specs.Ticks.{tick}
use Rattle.terms.specs.Refusal.{no_numbers, numbers_of}
use Rattle.terms.specs.declared.refusal.Refusal.{Refusal}
use Rattle.planner.specs.Plans.{Plans, Prints}
use Rattle.machine.specs.declared.Machine.{Machine}
use Rattle.machine.specs.Answers.{Begins, Answers}
use Rattle.stellarsnare.specs.Face.{three_of, machine_of, Tells, PlanTold, StartTold, RequestTold, PrintTold}

-- no answer is both
pub apart : {A : Type 0} {a : A} {r : Refusal} → ◌≡◌ {A = Result A Refusal} (Ok a) (Err r) → ⊥
apart e = cc

-- what an answer is, by what is told of it
pub given : {A : Type 0} (x : Result A Refusal) {a : A} {l : List ℕ} → Tells x (Some a) l → (x ≡ Ok a) × (l ≡ no_numbers)
given (Ok b) (e, f) = (cc, f)
given (Err r) (e, f) = absurd (none-some _ (sym e))

pub denied : {A : Type 0} (x : Result A Refusal) {l : List ℕ} → Tells x None l → (r : Refusal) × (x ≡ Err r) × (l ≡ numbers_of r)
denied (Ok b) (e, f) = absurd (none-some _ e)
denied (Err r) (e, f) = (r, refl, f)

-- a refusal leaves the words, the machine and the bytes as they stood
plan_kept : {text words after : List ℕ} {a : Result (Unit {0}) Refusal} {r : Refusal} → Plans text words a after → a ≡ Err r → after ≡ words
plan_kept (Plans.wrong_length n) e = refl
plan_kept (Plans.not_read h p) e = refl
plan_kept (Plans.not_planned h p q) e = refl
plan_kept (Plans.accepted h p q) e = absurd (apart e)

module _ {words : List ℕ} {m : Machine} {mode : ℕ} {clock : Tick} where
  request_kept : {n : Machine} {a : Result Tick Refusal} {r : Refusal} → Answers words m mode clock a n → a ≡ Err r → n ≡ m
  request_kept (Answers.not_stored n) e = refl
  request_kept (Answers.refused h k) e = refl
  request_kept (Answers.accepted h k) e = absurd (apart e)

print_kept : {words out after : List ℕ} {a : Result ℕ Refusal} {r : Refusal} → Prints words out a after → a ≡ Err r → after ≡ out
print_kept (Prints.no_room n) e = refl
print_kept (Prints.not_stored h n) e = refl
print_kept (Prints.printed h q s) e = absurd (apart e)

-- of an answer to a table
pub plan_told : {text words after l : List ℕ} (a : Result (Unit {0}) Refusal) (o : Option (Unit {0})) → Plans text words a after → Tells a o l
    → PlanTold text words (is_some o) after l
plan_told (Ok u) o p (e, f) = rw (e, f) (PlanTold.accepted p)
plan_told (Err r) o p (e, f) = let k = plan_kept p refl in rw (k, e, f) (PlanTold.refused (rw k at p))

-- of an answer to a start
pub start_told : {words machine after l : List ℕ} {mode : ℕ} {a : Result Machine Refusal} {m : Machine} → Begins words mode a → Tells a (Some m) l → after ≡ three_of m
    → StartTold words mode machine true after l
start_told {a = a} p t e = let (f, g) = given a t in rw (e, g) (StartTold.accepted (rw f at p))

pub start_denied : {words machine l : List ℕ} {mode : ℕ} {a : Result Machine Refusal} → Begins words mode a → Tells a None l
    → StartTold words mode machine false machine l
start_denied {a = a} p t = let (r, f, g) = denied a t in rw g (StartTold.refused (rw f at p))

-- of an answer to a request
pub request_told : (machine : List ℕ) {words after l : List ℕ} {mode clock delay u : ℕ} {a : Result Tick Refusal} {d : Tick} {m : Machine}
    → Answers words (machine_of machine) mode (tick clock) a m → Tells a (Some d) l → after ≡ three_of m → u ≡ d.0
    → RequestTold words machine mode clock delay true after u l
request_told machine {a = a} p t e h = let (f, g) = given a t in rw (e, h, g) (RequestTold.accepted (rw f at p))

pub request_denied : (machine : List ℕ) {words l : List ℕ} {mode clock delay : ℕ} {a : Result Tick Refusal} {m : Machine}
    → Answers words (machine_of machine) mode (tick clock) a m → Tells a None l → RequestTold words machine mode clock delay false machine delay l
request_denied machine {a = a} p t = let (r, f, g) = denied a t in rw g (RequestTold.refused (rw (request_kept p f, f) at p))

-- of an answer to printing
pub print_told : {words out after l : List ℕ} {length n : ℕ} {a : Result ℕ Refusal} → Prints words out a after → Tells a (Some n) l
    → PrintTold words out length true after n l
print_told {a = a} p t = let (f, g) = given a t in rw g (PrintTold.accepted (rw f at p))

pub print_denied : {words out after l : List ℕ} {length : ℕ} {a : Result ℕ Refusal} → Prints words out a after → Tells a None l
    → PrintTold words out length false after length l
print_denied {a = a} p t = let (r, f, g) = denied a t in let k = print_kept p f in rw (k, g) (PrintTold.refused (rw (k, f) at p))

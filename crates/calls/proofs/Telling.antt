-- Laws of what the programs print: from what the functions below say, and one text only. Assumes nothing.
use mathlib.Core.Path.{◌≡◌, refl, sym, ap, ap₂, subst, ◌∙◌}
use mathlib.Core.List.{List, [], ◌∷◌, ◌++◌}
use Prim.Native.Nat.{ℕ, suc, ◌+◌, ◌-◌, ◌<◌}
use native.Mathlib.Numerals.{add-one}
use native.Mathlib.Omega.{arith}
use lib.ListN.{length, take, drop, replicate, length-take}
use Rattle.std.specs.Prelude.{Some, None, Result, Ok, Err}
use Rattle.terms.specs.Text.{bytes}
use Rattle.terms.specs.declared.refusal.Refusal.{Refusal}
use Rattle.std.proofs.lemmas.Option.{none-some, same_Some}
use Rattle.rfc4180.specs.Numbers.{NumberOf}
use Rattle.rfc4180.specs.Laid.{Laid}
use Rattle.rfc4180.proofs.Decimals.{decimal_writes, writes_some, decimal_injective}
use Rattle.rfc4180.proofs.Laying.{laid_one}
use Rattle.layout.specs.Words.{WORDS}
use Rattle.printer.specs.Printed.{PRINTED, line_text, plan_text, refusal_text}
use Rattle.planner.specs.Plans.{Plans, Leaves, Prints}
use Rattle.planner.proofs.Leaving.{leaves_table, leaves_plan}
use Rattle.planner.proofs.Answering.{plans_unique}
use Rattle.machine.specs.declared.Machine.{Machine}
use Rattle.machine.proofs.Unique.{begins_unique, answers_unique}
use Rattle.arguments.specs.Argument.{arguments_of, first_of, FirstBad}
use Rattle.arguments.proofs.Reading.{TOP, request_unique, number_good, number_bad}
use Rattle.arguments.proofs.Parting.{argument_then, bad_unique}
use Rattle.calls.specs.Prints.{PlanPrints, machine_text, answer_text, Lines, SessionPrints, ModeOf, AskPrints}
use Rattle.calls.specs.Fills.{PlanFills, AskFills}

-- What is printed of a plan.

pub prints_fills : {text words before after : List ℕ} {x : Result ℕ Refusal} → length before ≡ PRINTED → Plans text (replicate WORDS 0) (Ok tt) words → Prints words before x after
    → PlanFills text before x after
prints_fills l p (Prints.no_room m) = absurd (m l)
prints_fills l p (Prints.not_stored k m) = absurd (m (_, _, p))
prints_fills l p (Prints.printed k q s) = PlanFills.fills l (PlanPrints.planned p q) s

-- What is said of the arguments.

none_there : arguments_of [] ≡ []
unfolding arguments_of
none_there = refl

module _ (text args : List ℕ) (end : ℕ) (e : end ≡ 0 + length (first_of (arguments_of (drop 0 args)))) where
  parts : 0 < length args → arguments_of args ≡ take end args ∷ arguments_of (drop (end + 1) args)
  parts l =
      let z : end - 0 ≡ end = omega arith in
      argument_then args 0 end e l ∙ ap (λ (k : ℕ). take k args ∷ arguments_of (drop (end + 1) args)) z

  pub bad_mode : NumberOf (take end args) 0 TOP None → AskPrints text (arguments_of args) (line_text (bytes "argument") (1 ∷ []))
  bad_mode p = go args refl
    where
      go : (s : List ℕ) → args ≡ s → AskPrints text (arguments_of args) (line_text (bytes "argument") (1 ∷ []))
      go [] f = rw (f, none_there) AskPrints.no_argument
      go (b ∷ s) f = rw (parts (omega (arith, ap length f))) (AskPrints.no_mode (number_bad (take end args) p))

  module _ {mode : ℕ} (p : NumberOf (take end args) 0 TOP (Some mode)) where
    first_mode : ModeOf (take end args) mode
    first_mode = number_good (take end args) p

    first_then : arguments_of args ≡ take end args ∷ arguments_of (drop (end + 1) args)
    first_then = parts (omega (arith, writes_some (decimal_writes mode), ap length first_mode.0, length-take end args))

    pub bad_request : (n : ℕ) → FirstBad 1 (arguments_of (drop (end + 1) args)) (Some n) → AskPrints text (arguments_of args) (line_text (bytes "argument") ((n + 1) ∷ []))
    bad_request n f = rw (first_then, add-one n) (AskPrints.no_request_law first_mode f)

    module _ (good : FirstBad 1 (arguments_of (drop (end + 1) args)) None) where
      pub says_refused : {words : List ℕ} {r : Refusal} → Plans text (replicate WORDS 0) (Err r) words → AskPrints text (arguments_of args) (refusal_text r)
      says_refused q = rw first_then (AskPrints.refused first_mode good q)

      pub says_asked : {words answer : List ℕ} → Plans text (replicate WORDS 0) (Ok tt) words → SessionPrints words mode (arguments_of (drop (end + 1) args)) answer
          → AskPrints text (arguments_of args) answer
      says_asked q s = rw first_then (AskPrints.asked first_mode good q s)

-- One text only.

-- no answer is both; and the text of the one refusal
apart : {A : Type 0} {a : A} {r : Refusal} → ◌≡◌ {A = Result A Refusal} (Ok a) (Err r) → ⊥
apart e = cc

refused_same : {A : Type 0} {r s : Refusal} → ◌≡◌ {A = Result A Refusal} (Err r) (Err s) → refusal_text r ≡ refusal_text s
refused_same {r = r} {s} e = let f : r ≡ s = cc in ap refusal_text f

pub plan_unique : {text x y : List ℕ} → PlanPrints text x → PlanPrints text y → x ≡ y
plan_unique (PlanPrints.planned p l) (PlanPrints.planned {t = t} {w} q k) =
    let m = subst (Leaves t w) (sym (plans_unique p q).1) k in ap₂ plan_text (leaves_table l m) (leaves_plan l m)
plan_unique (PlanPrints.planned p l) (PlanPrints.refused q) = absurd (apart (plans_unique p q).0)
plan_unique (PlanPrints.refused p) (PlanPrints.planned q l) = absurd (apart (plans_unique q p).0)
plan_unique (PlanPrints.refused p) (PlanPrints.refused q) = refused_same (plans_unique p q).0

lines_unique : {words : List ℕ} {m n : Machine} {s : List (List ℕ)} {x y : List ℕ} → m ≡ n → Lines words m s x → Lines words n s y → x ≡ y
lines_unique e Lines.none Lines.none = refl
lines_unique {words} e (Lines.next {r = r} p q l) (Lines.next {r = u} p' q' k) =
    let same = request_unique p p' in
    let f : r ≡ u = cc in
    let (g, h) = answers_unique q (rw (e, f) q') in
    ap₂ ◌++◌ (ap₂ answer_text g h) (lines_unique h l k)

session_unique : {words : List ℕ} {mode : ℕ} {s : List (List ℕ)} {x y : List ℕ} → SessionPrints words mode s x → SessionPrints words mode s y → x ≡ y
session_unique (SessionPrints.begun {m} p l) (SessionPrints.begun {m = n} q k) =
    let f = begins_unique p q in
    let e : m ≡ n = cc in
    ap₂ ◌++◌ (ap machine_text e) (lines_unique e l k)
session_unique (SessionPrints.begun p l) (SessionPrints.not_begun_law q) = absurd (apart (begins_unique p q))
session_unique (SessionPrints.not_begun_law p) (SessionPrints.begun q k) = absurd (apart (begins_unique q p))
session_unique (SessionPrints.not_begun_law p) (SessionPrints.not_begun_law q) = refused_same (begins_unique p q)

mode_same : {a : List ℕ} {m n : ℕ} → ModeOf a m → ModeOf a n → m ≡ n
mode_same {m = m} {n} p q = decimal_injective m n (sym p.0 ∙ q.0)

pub ask_unique : {text : List ℕ} {s : List (List ℕ)} {x y : List ℕ} → AskPrints text s x → AskPrints text s y → x ≡ y
ask_unique AskPrints.no_argument AskPrints.no_argument = refl
ask_unique (AskPrints.no_mode p) (AskPrints.no_mode q) = refl
ask_unique (AskPrints.no_mode p) (AskPrints.no_request_law q f) = absurd (p _ q.0 q.1)
ask_unique (AskPrints.no_mode p) (AskPrints.refused q f a) = absurd (p _ q.0 q.1)
ask_unique (AskPrints.no_mode p) (AskPrints.asked q f a b) = absurd (p _ q.0 q.1)
ask_unique (AskPrints.no_request_law p f) (AskPrints.no_mode q) = absurd (q _ p.0 p.1)
ask_unique (AskPrints.no_request_law p f) (AskPrints.no_request_law q g) = ap (λ (n : ℕ). line_text (bytes "argument") (suc n ∷ [])) (same_Some _ _ (bad_unique f g))
ask_unique (AskPrints.no_request_law p f) (AskPrints.refused q g a) = absurd (none-some _ (bad_unique g f))
ask_unique (AskPrints.no_request_law p f) (AskPrints.asked q g a b) = absurd (none-some _ (bad_unique g f))
ask_unique (AskPrints.refused p f a) (AskPrints.no_mode q) = absurd (q _ p.0 p.1)
ask_unique (AskPrints.refused p f a) (AskPrints.no_request_law q g) = absurd (none-some _ (bad_unique f g))
ask_unique (AskPrints.refused p f a) (AskPrints.refused q g b) = refused_same (plans_unique a b).0
ask_unique (AskPrints.refused p f a) (AskPrints.asked q g b c) = absurd (apart (plans_unique b a).0)
ask_unique (AskPrints.asked p f a b) (AskPrints.no_mode q) = absurd (q _ p.0 p.1)
ask_unique (AskPrints.asked p f a b) (AskPrints.no_request_law q g) = absurd (none-some _ (bad_unique f g))
ask_unique (AskPrints.asked p f a b) (AskPrints.refused q g c) = absurd (apart (plans_unique a c).0)
ask_unique (AskPrints.asked {rest = s} p f a b) (AskPrints.asked {answer = y} q g c d) =
    session_unique b (rw (mode_same p q, (plans_unique a c).1) d)

-- and one content of the buffer
pub plan_fills_unique : {text before k j : List ℕ} {x y : Result ℕ Refusal} → PlanFills text before x k → PlanFills text before y j → (x ≡ y) × (k ≡ j)
plan_fills_unique (PlanFills.no_room m) (PlanFills.no_room n) = (refl, refl)
plan_fills_unique (PlanFills.no_room m) (PlanFills.fills l q s) = absurd (m l)
plan_fills_unique (PlanFills.fills l p s) (PlanFills.no_room m) = absurd (m l)
plan_fills_unique (PlanFills.fills {n = n} l p s) (PlanFills.fills {n = m} k q t) =
    let e = plan_unique p q in
    let g : n ≡ m = s.long ∙ ap length e ∙ sym t.long in
    (ap Ok g, s.is ∙ ap₂ (λ (a : List ℕ) (i : ℕ). a ++ replicate (PRINTED - i) 0) e g ∙ sym t.is)

pub ask_fills_unique : {text args before k j : List ℕ} {x y : Result ℕ Refusal} → AskFills text args before x k → AskFills text args before y j → (x ≡ y) × (k ≡ j)
ask_fills_unique (AskFills.no_room m) (AskFills.no_room n) = (refl, refl)
ask_fills_unique (AskFills.no_room m) (AskFills.fills l q) = absurd (m l)
ask_fills_unique (AskFills.fills l p) (AskFills.no_room m) = absurd (m l)
ask_fills_unique {before = before} (AskFills.fills {after = k} {n = n} l p) (AskFills.fills h q) =
    let o = laid_one (subst (λ (t : List ℕ). Laid before 0 t k n) (ask_unique p.meets q.meets) p.laid) q.laid in
    (ap Ok o.0, o.1)

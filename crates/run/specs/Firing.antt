-- The firings of a run's visits: the tokens and places they move, and what they ask of the processors.
use Rattle.std.specs.Prelude.{ℕ, suc, ◌+◌, ◌-◌, ◌*◌, ◌≤◌, Bool, true, ◌&&◌, cond, List, [], ◌∷◌, T, leb, ltb, eqb}
use Rattle.numbers.specs.Sum.{sum}
use Rattle.numbers.specs.Fraction.{plus, sum_of, nothing}
use Rattle.numbers.specs.declared.fraction.Fraction.{Fraction}
use Rattle.run.specs.Plan.{RunPlan, Acts, works_on, wcet_over_period}
use Rattle.run.specs.Machine.{Leave, stays, leaves, Visit}

-- firing n of actor i of a visit begins at this tick ..
abbrev pub begins : RunPlan → Visit → ℕ → ℕ → ℕ
begins p v i n = v.start + p.start v.mode i + n * p.period v.mode i

-- .. if it is a firing of the visit: in a visit that is left at F, actor i ends at F + S, and has the firings that begin before that tick
abbrev pub inside : Leave → ℕ → ℕ → Bool
inside stays start after = true
inside (leaves f) start after = ltb after (f - start)

abbrev pub fires : RunPlan → Visit → ℕ → ℕ → Bool
fires p v i n = inside v.leave v.start (n * p.period v.mode i)

-- firing n is under way at tick t: it has begun, and its period is not over
abbrev pub under_way : RunPlan → Visit → ℕ → ℕ → ℕ → Bool
under_way p v i t n = fires p v i n && (leb (begins p v i n) t && ltb t (begins p v i n + p.period v.mode i))

-- a visit is under way at tick t: it has started, and not all its actors have ended
abbrev pub before : Leave → ℕ → ℕ → Bool
before stays after t = true
before (leaves f) after t = ltb t (f + after)

abbrev pub is_open : RunPlan → ℕ → Visit → Bool
is_open p t v = leb v.start t && before v.leave (p.startup v.mode) t

-- when each firing of each actor of each visit ends
abbrev pub EndTimes : Type 0
EndTimes = Visit → ℕ → ℕ → ℕ

-- each firing of a visit ends within its period
abbrev pub InPeriod : RunPlan → EndTimes → Visit → Type 0
InPeriod p e v = (i n : ℕ) → Acts p v.mode i → T (fires p v i n) → (begins p v i n ≤ e v i n) × (e v i n ≤ begins p v i n + p.period v.mode i)

-- the earliest and the latest ends: a firing ends as it begins, or as its period does
abbrev pub earliest : RunPlan → EndTimes
earliest p v i n = begins p v i n

abbrev pub latest : RunPlan → EndTimes
latest p v i n = begins p v i n + p.period v.mode i

-- the sum of f n over the numbers n below a bound that pass a test
unfoldable pub tally : (ℕ → Bool) → (ℕ → ℕ) → ℕ → ℕ
tally test f bound = sum (λ n. cond (test n) (f n) 0) bound

-- what the firings of actor i of a visit come to that have begun by tick t, and those that have ended by then, if firing n counts f n
-- (firing n does not begin before tick n, so those up to t are all)
unfoldable pub begun : RunPlan → Visit → ℕ → (ℕ → ℕ) → ℕ → ℕ
begun p v i f t = tally (λ n. fires p v i n && leb (begins p v i n) t) f (suc t)

unfoldable pub done : RunPlan → EndTimes → Visit → ℕ → (ℕ → ℕ) → ℕ → ℕ
done p e v i f t = tally (λ n. fires p v i n && leb (e v i n) t) f (suc t)

-- Of channel c, by tick t, in one visit: the tokens taken, when a firing begins, and made, when one ends; and the places claimed, when a firing
-- begins, and given back, when one ends.
abbrev pub taken : RunPlan → ℕ → ℕ → Visit → ℕ
taken p c t v = begun p v (p.to v.mode c) (p.consumption v.mode c) t

abbrev pub made : RunPlan → EndTimes → ℕ → ℕ → Visit → ℕ
made p e c t v = done p e v (p.from v.mode c) (p.production v.mode c) t

abbrev pub claimed : RunPlan → ℕ → ℕ → Visit → ℕ
claimed p c t v = begun p v (p.from v.mode c) (p.production v.mode c) t

abbrev pub given_back : RunPlan → EndTimes → ℕ → ℕ → Visit → ℕ
given_back p e c t v = done p e v (p.to v.mode c) (p.consumption v.mode c) t

-- what a count of one visit comes to over a list of visits, and over those of mode m
unfoldable pub total : List Visit → (Visit → ℕ) → ℕ
total [] f = 0
total (v ∷ vs) f = f v + total vs f

abbrev pub total_in : List Visit → ℕ → (Visit → ℕ) → ℕ
total_in vs m f = total vs (λ v. cond (eqb v.mode m) (f v) 0)

-- how many visits of mode m are under way at tick t: where none is, the mode has ended, or has not begun
abbrev pub open_in : RunPlan → List Visit → ℕ → ℕ → ℕ
open_in p vs m t = total_in vs m (λ v. cond (is_open p t v) 1 0)

-- how many firings of actor i of a visit are under way at tick t
unfoldable pub busy : RunPlan → ℕ → ℕ → Visit → ℕ
busy p i t v = cond (p.active v.mode i) (tally (under_way p v i t) (λ n. 1) (suc t)) 0

-- What a visit asks of a processor at tick t: each firing under way asks for wcet / T. And what all the visits of a list ask.
unfoldable pub asks : RunPlan → ℕ → ℕ → Visit → Fraction
asks p proc t v =
    sum_of (λ i. cond (works_on p v.mode proc i) (sum_of (λ n. cond (under_way p v i t n) (wcet_over_period p v.mode i) nothing) (suc t)) nothing) p.actors

unfoldable pub asked : RunPlan → ℕ → ℕ → List Visit → Fraction
asked p proc t [] = nothing
asked p proc t (v ∷ vs) = plus (asks p proc t v) (asked p proc t vs)

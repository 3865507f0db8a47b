-- What the arguments of a call are.
use Rattle.std.specs.Prelude.{◌≡◌, cond, List, [], ◌∷◌, ◌++◌, ℕ, suc, ◌^◌, ◌<◌, eqb, Option, Some, None}
use Rattle.units.specs.Ticks.{tick}
use Rattle.rfc4180.specs.Decimal.{decimal}
use Rattle.arguments.specs.declared.Request.{Request}

-- the arguments that stand in some bytes: each is ended by a 0, which the last may lack
abbrev pub longer : ℕ → List (List ℕ) → List (List ℕ)
longer b [] = (b ∷ []) ∷ []
longer b (a ∷ rest) = (b ∷ a) ∷ rest

unfoldable pub arguments_of : List ℕ → List (List ℕ)
arguments_of [] = []
arguments_of (b ∷ s) = cond (eqb b 0) ([] ∷ arguments_of s) (longer b (arguments_of s))

-- the first of some arguments; no bytes where there is none
abbrev pub first_of : List (List ℕ) → List ℕ
first_of [] = []
first_of (a ∷ rest) = a

abbrev pub a_request : ℕ → ℕ → Request
a_request mode clock = record { mode = mode; clock = tick clock }

-- a mode and a clock, parted by @
abbrev pub request_text : ℕ → ℕ → List ℕ
request_text mode clock = decimal mode ++ (64 ∷ decimal clock)

-- bytes are a request where they are a mode and a clock, each below 2^64
pub data RequestOf (bytes : List ℕ) : Option Request → Type 0 where
  good : {mode clock : ℕ} → bytes ≡ request_text mode clock → mode < 2 ^ 64 → clock < 2 ^ 64 → RequestOf bytes (Some (a_request mode clock))
  bad : ((mode clock : ℕ) → bytes ≡ request_text mode clock → mode < 2 ^ 64 → clock < 2 ^ 64 → ⊥) → RequestOf bytes None

-- which of some arguments is the first that is no request, where the first of them has this number; None where all are requests
pub data FirstBad : ℕ → List (List ℕ) → Option ℕ → Type 0 where
  none : {number : ℕ} → FirstBad number [] None
  here : {number : ℕ} {a : List ℕ} {rest : List (List ℕ)} → RequestOf a None → FirstBad number (a ∷ rest) (Some number)
  later : {number : ℕ} {n : Option ℕ} {a : List ℕ} {rest : List (List ℕ)} {r : Request} → RequestOf a (Some r) → FirstBad (suc number) rest n
      → FirstBad number (a ∷ rest) n

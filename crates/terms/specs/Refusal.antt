-- The numbers of the refusals, and what is printed of one, case by case.
use Rattle.terms.specs.declared.refusal.Reason.{Reason}
use Rattle.terms.specs.declared.refusal.Reason.TheVariants.{Unreadable, BadField, Mislisted, Elsewhere, BadRates, Cycle, NoEnds, NoBalance, Overload, Late, NoMode, SameMode, PastClock, Unended, NoPlan, NoMachine}
use Rattle.terms.specs.declared.refusal.Place.{Place}
use Rattle.terms.specs.declared.refusal.Place.TheVariants.{Nowhere, Row, Mode, Actor, Processor}
use Rattle.terms.specs.declared.refusal.Refusal.{Refusal}
use Rattle.terms.specs.declared.refusal.Printed.{Printed}
use Rattle.std.specs.Prelude.{List, [], ◌∷◌, ℕ}

-- the numbers of the refusals
abbrev pub number_of : Reason → ℕ
-- the text is empty or too long, or a record is not RFC 4180 or has not the fields of a row
number_of Unreadable = 1
-- the first field is unknown, or a number is badly written or out of its range
number_of BadField = 2
-- an actor is listed twice in a mode, an end of a channel is not yet listed in it, or it has a channel too many
number_of Mislisted = 3
-- an actor is on another processor than in an earlier row
number_of Elsewhere = 4
-- a list of rates is not as long as its actor has phases, or all of it is 0
number_of BadRates = 5
-- the channels of a mode form a cycle
number_of Cycle = 6
-- a mode has not exactly one actor without incoming channels, and one without outgoing ones
number_of NoEnds = 7
-- a mode has no balance within range
number_of NoBalance = 8
-- the load of a processor is above its limit
number_of Overload = 9
-- an actor starts later than the sink
number_of Late = 10
-- a mode is not in the plan
number_of NoMode = 11
-- the mode that is asked for is the one now running
number_of SameMode = 12
-- the clock is past its limit
number_of PastClock = 13
-- the current change has not ended
number_of Unended = 14
-- a buffer has not the one length, or is not what some accepted table leaves
number_of NoPlan = 15
-- the machine's mode is not in the plan, or its starting tick is after the end of its change
number_of NoMachine = 16

-- the refusal for this reason, at this place
abbrev pub refusal_at : Reason → Place → Refusal
refusal_at r p = record { reason = r; place = p }

-- the refusal for this reason, at no place of a table
abbrev pub nowhere_for : Reason → Refusal
nowhere_for r = refusal_at r Nowhere

-- a line of five numbers
abbrev pub line_of : ℕ → ℕ → ℕ → ℕ → ℕ → Printed
line_of n r m a p = record { number = n; row = r; mode = m; actor = a; processor = p }

-- the number, and the row, the mode, the actor and the processor of the place, with 0 where none is named
abbrev pub printed_at : ℕ → Place → Printed
printed_at n Nowhere = line_of n 0 0 0 0
printed_at n (Row r) = line_of n r 0 0 0
printed_at n (Mode m) = line_of n 0 m 0 0
printed_at n (Actor m a) = line_of n 0 m a 0
printed_at n (Processor m p) = line_of n 0 m 0 p

abbrev pub printed_of : Refusal → Printed
printed_of r = printed_at (number_of r.reason) r.place

-- the five numbers of a line: number, row, mode, actor, processor
abbrev pub five : Printed → List ℕ
five l = l.number ∷ l.row ∷ l.mode ∷ l.actor ∷ l.processor ∷ []

-- the numbers of an answer: those of its refusal's line, with 0 where none is named; and all 0 where nothing is refused
abbrev pub numbers_of : Refusal → List ℕ
numbers_of r = five (printed_of r)

abbrev pub no_numbers : List ℕ
no_numbers = 0 ∷ 0 ∷ 0 ∷ 0 ∷ 0 ∷ []

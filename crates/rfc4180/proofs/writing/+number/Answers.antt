-- rfc4180::writing::number meets its contract. The measure is the number.
use Rattle.std.proofs.Common.{[], ◌∷◌, ◌++◌, ℕ, ◌+◌, ◌%◌, ◌/◌, ◌≤◌, List, arith}
use Rattle.rfc4180.specs.Decimal.{decimal}
use Rattle.rfc4180.specs.Laid.{Room, Laid}
use Rattle.rfc4180.proofs.Laying.{laid_byte, laid_then, room_first, room_then}
use Rattle.rfc4180.proofs.Decimals.{decimal_one, decimal_more}
use Rattle.rfc4180.proofs.writing.+number.Goals as goal

-- the room for all digits, at a number of more than one, and what is left of it for the last one
room : (s : List ℕ) (at n : ℕ) → 10 ≤ n → Room s at (decimal n) → Room s at (decimal (n / 10) ++ ((48 + n % 10) ∷ []))
room s at n h r = rw (decimal_more n h) at r

room_last : (s k : List ℕ) (at n end : ℕ) → 10 ≤ n → Room s at (decimal n) → Laid s at (decimal (n / 10)) k end → Room k end ((48 + n % 10) ∷ [])
room_last s k at n end h r a = room_then (room s at n h r) a

pub bounds-out-at : goal.bounds-out-at
bounds-out-at t c = omega (arith, rw (decimal_one c.args.n c.if-n-lt10.true) at c.requires.fits)

pub returns-then-n-lt10 : goal.returns-then-n-lt10
returns-then-n-lt10 t c = rw (decimal_one c.args.n c.if-n-lt10.true) (laid_byte c.args.out.now c.args.at (48 + c.args.n))

pub number-last-requires : goal.number-last-requires
number-last-requires t c =
    (omega arith, room_first ((48 + c.args.n % 10) ∷ []) (room c.args.out.now c.args.at c.args.n c.if-n-lt10.false c.requires))

pub bounds-out-last : goal.bounds-out-last
bounds-out-last t c = omega (arith, (room_last c.args.out.now c.number-last.new.out c.args.at c.args.n c.number-last.result c.if-n-lt10.false c.requires c.number-last.ensures).fits)

pub overflow_add-result-2 : goal.overflow_add-result-2
overflow_add-result-2 t c = omega (arith, (room_last c.args.out.now c.number-last.new.out c.args.at c.args.n c.number-last.result c.if-n-lt10.false c.requires c.number-last.ensures).fits)

pub returns : goal.returns
returns t c =
    rw (decimal_more c.args.n c.if-n-lt10.false) (laid_then c.number-last.ensures (laid_byte c.number-last.new.out c.number-last.result (48 + c.args.n % 10)))

-- Laws of requests one behind the other. Assumes nothing.
use mathlib.Core.Path.{◌≡◌, subst}
use mathlib.Core.List.{List, [], ◌∷◌, ◌++◌, append-nil, append_assoc}
use Prim.Native.Nat.{ℕ, suc, ◌+◌, ◌-◌, ◌*◌, ◌≤◌, ◌<◌}
use native.Mathlib.Omega.{arith}
use lib.ListN.{length, take, drop}
use Rattle.std.specs.Prelude.{Option, Some, None}
use Rattle.rfc4180.specs.Laid.{Laid}
use Rattle.rfc4180.proofs.Laying.{laid_none, laid_then, laid_length}
use Rattle.machine.specs.declared.Machine.{Machine}
use Rattle.arguments.specs.declared.Request.{Request}
use Rattle.arguments.specs.Argument.{arguments_of, first_of, RequestOf, FirstBad}
use Rattle.arguments.proofs.Reading.{request_unique}
use Rattle.arguments.proofs.Parting.{argument_then, arguments_none}
use Rattle.calls.specs.Prints.{answer_text, Lines, none, next}
use Rattle.calls.specs.Fills.{LINE, Lays, LaysAnswer}

-- the lines of the requests before a place, the machine and the place behind them, and what is to be laid there
pub record Sofar (words arguments : List ℕ) (first : Machine) (before : List ℕ) (at from : ℕ) (after : List ℕ) (now : Machine) (reached place : ℕ) : Type 0 where
  pub lines : List ℕ
  pub then : (rest : List ℕ) → Lines words now (arguments_of (drop place arguments)) rest → Lines words first (arguments_of (drop from arguments)) (lines ++ rest)
  pub laid : Laid before at lines after reached
  pub room : reached + LINE * (length arguments - place) ≤ length before
  pub good : (number : ℕ) × FirstBad number (arguments_of (drop place arguments)) None

pub sofar_none : (words arguments : List ℕ) (first : Machine) (before : List ℕ) (at from : ℕ) → at + LINE * (length arguments - from) ≤ length before
    → FirstBad 1 (arguments_of (drop from arguments)) None → Sofar words arguments first before at from before first at from
sofar_none words arguments first before at from h g = record { lines = []; then = λ rest l. l; laid = laid_none before at; room = h; good = (1, g) }

-- the first of some arguments that are requests, and those behind it
first_good : {number : ℕ} {a : List ℕ} {rest : List (List ℕ)} → FirstBad number (a ∷ rest) None
    → (r : Request) × RequestOf a (Some r) × FirstBad (suc number) rest None
first_good (FirstBad.later {r = r} p q) = (r, p, q)

module _ {words arguments before after : List ℕ} {first now : Machine} {at from reached place : ℕ} (s : Sofar words arguments first before at from after now reached place) where
  -- room for the next line
  pub line_room : place < length arguments → reached + LINE ≤ length after
  line_room l = omega (arith, s.room, laid_length s.laid)

  -- one request more
  module _ {end : ℕ} (l : place < length arguments) (e : end ≡ place + length (first_of (arguments_of (drop place arguments)))) where
    abbrev argument : List ℕ
    argument = take (end - place) (drop place arguments)

    pub its_request : (r : Request) × RequestOf argument (Some r) × FirstBad (suc s.good.0) (arguments_of (drop (end + 1) arguments)) None
    its_request = first_good (rw (argument_then arguments place end e l) at s.good.1)

    pub is_request : {x : Option Request} → RequestOf argument x → x ≡ Some its_request.0
    is_request p = request_unique p its_request.1

    pub sofar_next : {stop : ℕ} {r : Request} {then : List ℕ} {new : Machine} → RequestOf argument (Some r) → LaysAnswer words now r after reached then new stop
        → Sofar words arguments first before at from then new stop (end + 1)
    sofar_next {new = new} p a =
        let t = answer_text a.answer new in
        record {
          lines = s.lines ++ t;
          then = λ rest h. rw (append_assoc s.lines t rest) (s.then (t ++ rest) (rw (argument_then arguments place end e l) (next p a.answers h)));
          laid = laid_then s.laid a.line.laid;
          room = omega (arith, s.room, a.line.short, e, l);
          good = (suc s.good.0, its_request.2);
        }

  -- and none left
  pub sofar_all : length arguments ≤ place → Lays (Lines words first (arguments_of (drop from arguments))) before at after reached
  sofar_all l = record {
    text = s.lines;
    meets = subst (Lines words first (arguments_of (drop from arguments))) (append-nil s.lines) (s.then [] (rw (arguments_none arguments place l) none));
    laid = s.laid;
    fits = omega (arith, s.room);
  }

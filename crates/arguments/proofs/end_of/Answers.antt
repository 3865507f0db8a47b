-- arguments::end_of meets its contract.
use Rattle.std.proofs.Common.{◌≡◌, ◌∙◌, sym, ap, eqb, List, ℕ, ◌+◌, ◌-◌, length, take, drop, arith, length-drop, Option}
use Rattle.std.specs.Prelude.{unwrap_or}
use Rattle.std.specs.List.{position}
use Rattle.std.proofs.lemmas.List.{take_rest}
use Rattle.arguments.specs.Argument.{arguments_of, first_of}
use Rattle.arguments.proofs.Reading.{sign_or_length}
use Rattle.arguments.proofs.Parting.{first_sign, first_within, arguments_none}
use Rattle.arguments.proofs.end_of.Goals as goal

-- what stands before the first 0 from the place on, or all of it
counted : (s : List ℕ) (at n : ℕ) (r : Option ℕ) → r ≡ position (λ b. eqb b 0) (take (length s - at) (drop at s)) → n ≡ unwrap_or r (length (take (length s - at) (drop at s)))
    → n ≡ length (first_of (arguments_of (drop at s)))
counted s at n r e f =
    let g : n ≡ unwrap_or (position (λ b. eqb b 0) (drop at s)) (length (drop at s)) = rw take_rest at (f ∙ ap (λ (o : Option ℕ). unwrap_or o (length (take (length s - at) (drop at s)))) e) in
    g ∙ sign_or_length 0 (drop at s) ∙ sym (first_sign (drop at s))

pub returns-then-bytes-at : goal.returns-then-bytes-at
returns-then-bytes-at c =
    let e = ap (λ (t : List (List ℕ)). length (first_of t)) (arguments_none c.args.bytes.now c.args.at c.if-bytes-at.true) in
    omega (arith, e)

pub overflow_add-result : goal.overflow_add-result
overflow_add-result c =
    let s = c.args.bytes.now in
    let at = c.args.at in
    omega (arith, counted s at c.unwrap_or.result c.sign_in.result c.sign_in.ensures c.unwrap_or.ensures, first_within (drop at s), length-drop at s)

pub returns : goal.returns
returns c = ap (λ (n : ℕ). c.args.at + n) (counted c.args.bytes.now c.args.at c.unwrap_or.result c.sign_in.result c.sign_in.ensures c.unwrap_or.ensures)

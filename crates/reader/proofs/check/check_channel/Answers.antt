-- reader::check::check_channel meets its contract.
use Rattle.std.proofs.Common.{◌≡◌, ◌⊎◌, ℕ, ◌≤◌, ◌<◌, ⊎_elim, Bool, true, inl, inr, arith}
use Rattle.numbers.specs.Decides.{Decides, decides_true, decides_false}
use Rattle.units.specs.Limits.{CHANNELS}
use Rattle.reader.specs.Rows.{by_3, by_5}
use Rattle.reader.specs.Checks.{refused, passes}
use Rattle.reader.proofs.check.check_channel.Goals.{then-not-has-via-then-not-has, then-not-has-via-else-not-has+then-not-has-2, then-not-has-via-else-not-has+else-not-has-2+then-full, then-unfit-via-then-unfit, then-unfit-via-else-unfit+then-unfit-2}
use Rattle.reader.proofs.check.check_channel.Goals as goal

-- both ends are there, and there is room
clear : {from to : Type 0} {n : ℕ} {r q : Bool} → Decides from r → r ≡ true → Decides to q → q ≡ true → n < CHANNELS
    → (from → ⊥) ⊎ ((to → ⊥) ⊎ (CHANNELS ≤ n)) → ⊥
clear d e f g h = ⊎_elim (λ n. n (decides_true d e)) (⊎_elim (λ n. n (decides_true f g)) (λ l. omega arith))

pub returns-then-not-has : goal.returns-then-not-has
returns-then-not-has c =
    refused (by_3 (elim c.then-not-has.branch [
      | then-not-has-via-then-not-has w ↦ inl (decides_false {r = c.has.result} c.has.ensures w.if-not-has.true)
      | then-not-has-via-else-not-has+then-not-has-2 w ↦ inr (inl (decides_false {r = w.has-else-not-has.result} w.has-else-not-has.ensures w.if-not-has-2.true))
      | then-not-has-via-else-not-has+else-not-has-2+then-full w ↦ inr (inr w.if-full.true)
    ]))

pub returns-then-unfit : goal.returns-then-unfit
returns-then-unfit c =
    let room = clear c.has.ensures c.if-not-has.false c.has-else-not-has.ensures c.if-not-has-2.false c.if-full.false in
    refused (by_5 room (λ w. w) (elim c.then-unfit.branch [
      | then-unfit-via-then-unfit w ↦ inl (decides_true c.unfit.ensures w.if-unfit.true)
      | then-unfit-via-else-unfit+then-unfit-2 w ↦ inr (decides_true w.unfit-else-unfit.ensures w.if-unfit-2.true)
    ]))

pub returns : goal.returns
returns c =
    passes (
      clear c.has.ensures c.if-not-has.false c.has-else-not-has.ensures c.if-not-has-2.false c.if-full.false,
      λ w. w,
      ⊎_elim (decides_false c.unfit.ensures c.if-unfit.false) (decides_false c.unfit-else-unfit.ensures c.if-unfit-2.false),
    )

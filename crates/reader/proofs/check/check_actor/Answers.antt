-- reader::check::check_actor meets its contract.
use Rattle.std.proofs.Common.{◌≡◌, refl, sym, ◌∙◌, Bool, true, false, Option, Some, None, MatchOption, rules}
use Rattle.std.proofs.lemmas.Bool.{false≢true}
use borrow.Author.Tests.{tests}
use Rattle.numbers.specs.Decides.{decides_true, decides_false}
use Rattle.reader.specs.Rows.{by_3, by_4}
use Rattle.reader.specs.Checks.{refused, passes}
use Rattle.reader.proofs.check.check_actor.Goals as goal

-- a test that holds is one of a value that is there
tested : {A : Type 0} (o : Option A) {P : A → Type 0} {r : Bool} → MatchOption o (r ≡ false) P → r ≡ true → (x : A) × (o ≡ Some x) × P x
tested None h t = absurd (false≢true (sym h ∙ t))
tested (Some x) h t = (x, refl, h)

pub returns-then-has : goal.returns-then-has
returns-then-has c = refused (by_3 (decides_true c.has.ensures c.if-has.true))

pub returns-then-is_some_and : goal.returns-then-is_some_and
returns-then-is_some_and c =
    let (h, e, w) = tested c.args.home c.is_some_and.ensures c.if-is_some_and.true in
    refused (by_4 (decides_false c.has.ensures c.if-has.false) (h, e, λ q. search (rules, tests)))

pub returns : goal.returns
returns c =
    passes (decides_false c.has.ensures c.if-has.false, (λ (h, e, n). let w = rw e at c.is_some_and.ensures in search (rules, tests)), λ w. w)

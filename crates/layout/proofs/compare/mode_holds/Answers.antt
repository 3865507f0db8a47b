-- layout::compare::mode_holds meets its contract.
use Rattle.std.proofs.Common.{◌≡◌, subst, ◌∙◌, List, ℕ, Bool, take, rules}
use lib.Dec.{eqb}
use lib.Pointwise.{pointwise}
use Rattle.numbers.specs.Decides.{Decides}
use Rattle.tables.specs.Memory.{FRONT_WORDS}
use Rattle.layout.proofs.Laying.{copied_closed, copied_laid}
use Rattle.layout.proofs.compare.mode_holds.Goals as goal

-- words are compared one by one
compared : (a b l : List ℕ) (r : Bool) → r ≡ pointwise eqb a b → b ≡ l → Decides (a ≡ l) r
compared a b l r e same = subst (λ (x : List ℕ). Decides (a ≡ x) r) same (search rules)

pub put_mode-requires : goal.put_mode-requires
put_mode-requires c = (
  search rules,
  search rules,
  search rules,
  search rules,
  copied_closed (take FRONT_WORDS c.args.words.now) c.args.channels.now _ _ _ c.args.part c.copy_from_slice.ensures.after c.put_part.ensures.0 c.put_part.ensures.1 c.requires.2,
)

pub returns : goal.returns
returns c =
    compared c.args.words.now _ _ c.eq.result c.eq.ensures
    (c.put_mode.ensures
    ∙ copied_laid (take FRONT_WORDS c.args.words.now) c.args.channels.now _ _ _ c.args.part c.copy_from_slice.ensures.after c.put_part.ensures.0 c.put_part.ensures.1)

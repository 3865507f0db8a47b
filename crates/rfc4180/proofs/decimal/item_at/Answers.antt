-- rfc4180::decimal::item_at meets its contract.
use Rattle.rfc4180.proofs.Runs.{item_unparted, listed_is, parted_over, parted_there}
use Rattle.rfc4180.proofs.decimal.item_at.Goals.{else-item-s-via-then-item-s+else-s-item-ne32, else-item-s-via-else-item-s}
use Rattle.rfc4180.proofs.decimal.item_at.Goals as goal

pub returns-then-s-item-ne32 : goal.returns-then-s-item-ne32
returns-then-s-item-ne32 c = λ n end w. item_unparted c.in_ok-item.ensures c.if-item-s.true c.if-s-item-ne32.true w

pub returns : goal.returns
returns c =
    listed_is c.in_ok-item.ensures
    (elim c.else-item-s.branch [
      | else-item-s-via-then-item-s+else-s-item-ne32 v ↦ parted_there _ _ v.if-item-s.true v.if-s-item-ne32.false
      | else-item-s-via-else-item-s v ↦ parted_over _ _ v.if-item-s.false
    ])

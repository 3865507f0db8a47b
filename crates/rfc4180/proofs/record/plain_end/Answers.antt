-- rfc4180::record::plain_end meets its contract.
use Rattle.std.proofs.Common.{◌≡◌, rules, sym, tests}
use Rattle.std.proofs.lemmas.Iterator.{IsFirst-from_position, YieldsList-from_slice}
use Rattle.std.proofs.lemmas.List.{take_rest}
use Rattle.rfc4180.specs.declared.bytes.Class.TheVariants.{Text}
use Rattle.rfc4180.specs.Bytes.{class_of}
use Rattle.rfc4180.proofs.Scanning.{plain_found}
use Rattle.rfc4180.proofs.record.plain_end.Goals as goal

pub returns : goal.returns
returns c =
    rw c.unwrap_or.ensures
    (plain_found _ _ c.position.result (sym (take_rest c.args.text.now c.args.from))
    (IsFirst-from_position _ _ _ (λ b. class_of b ≡ Text → ⊥) (λ b. class_of b ≡ Text) c.position.ensures.ran (YieldsList-from_slice _ c.iter.ensures.rest)
    (λ x q k. search (rules, tests)) (λ x q k. search (rules, tests))))

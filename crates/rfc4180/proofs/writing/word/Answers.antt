-- rfc4180::writing::word meets its contract.
use Rattle.std.proofs.Common.{◌≡◌, ◌+◌, ◌-◌, length, arith, refl, append_assoc}
use Rattle.std.proofs.lemmas.List.Edits.{sets-eq}
use Rattle.std.proofs.Math.Seq.{drop-drop}
use Rattle.rfc4180.proofs.writing.word.Goals as goal

pub returns : goal.returns
returns c =
    let a = c.args in
    let e : a.at + length a.text.now - a.at ≡ length a.text.now = omega arith in
    record { ends = refl; is = rw (e, c.copy_from_slice.ensures.after, sets-eq a.text.now a.out.now a.at c.requires.fits, drop-drop, append_assoc) refl }

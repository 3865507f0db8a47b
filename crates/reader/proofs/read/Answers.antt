-- reader::read meets its contract.
use mathlib.Core.Path.{refl}
use mathlib.Core.Logic.{inl, inr}
use Prim.Native.Nat.{◌<◌}
use native.Mathlib.Omega.{arith}
use lib.ListN.{length}
use Rattle.terms.specs.declared.refusal.Reason.TheVariants.{Unreadable}
use Rattle.reader.specs.Told.{refused, wrong_length, right_length, Told}
use Rattle.reader.proofs.Progress.{refused_into}
use Rattle.reader.proofs.read.Goals as goal

pub returns-then-length-eq0 : goal.returns-then-length-eq0
returns-then-length-eq0 c =
    refused_into (Told c.args.text.now) Unreadable 0 (refused Unreadable 0, wrong_length (inl c.if-length-eq0.true), refl) c.at_row.ensures c.requires

pub returns-then-length-gt-MOST_BYTES : goal.returns-then-length-gt-MOST_BYTES
returns-then-length-gt-MOST_BYTES c =
    refused_into (Told c.args.text.now) Unreadable 0 (refused Unreadable 0, wrong_length (inr c.if-length-gt-MOST_BYTES.true), refl) c.at_row-then-length-gt-MOST_BYTES.ensures c.requires

pub returns : goal.returns
returns c =
    let i = c.rows.ensures in let (o, after, is) = i.told in
    let some : 0 < length c.args.text.now = omega (arith, c.if-length-eq0.false) in
    record { table = i.table; told = (o, right_length some c.if-length-gt-MOST_BYTES.false after, is); fronts_are = i.fronts_are; channels_are = i.channels_are }

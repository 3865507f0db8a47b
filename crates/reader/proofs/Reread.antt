-- Rows that passed, written as text, are read again; and whatever was read has passed. Assumes nothing.
use mathlib.Core.Path.{◌≡◌, refl, sym, subst}
use mathlib.Core.List.{List, [], ◌∷◌, ◌++◌, map, append_assoc, append-nil}
use Prim.Native.Nat.{ℕ, ◌≤◌, ◌<◌}
use native.Mathlib.Omega.{arith}
use lib.ListN.{length}
use Rattle.rfc4180.specs.Grammar.{plain, FirstRecord}
use Rattle.rfc4180.specs.Writing.{joined}
use Rattle.units.specs.Limits.{MOST_BYTES, FIELDS}
use Rattle.reader.specs.Rows.{Row, actor, channel, word, behind, InRange, contents}
use Rattle.reader.specs.Told.{Outcome, rows, FirstRow, After, done, passed, Of, right_length}
use Rattle.reader.specs.Writing.{line_text, text_of}
use Rattle.rfc4180.proofs.Records.{joined_first}
use Rattle.reader.proofs.Lookup.{Passed, start, then}
use Rattle.reader.proofs.Written.{contents_plain}

-- a row has six fields
pub row_fields : (r : Row) → length (contents r) ≡ FIELDS
row_fields (actor r) = refl
row_fields (channel r) = refl

-- a line is read as its row
pub line_first : (r : Row) (t : List ℕ) → InRange r → FirstRow (line_text r ++ t) r t
line_first r t i =
    record {
      fields = map plain (contents r);
      stands =
          subst (λ (s : List ℕ). FirstRecord s (map plain (contents r)) (contents r) t) (sym (append_assoc (joined (contents r)) (13 ∷ 10 ∷ []) t))
          (joined_first (word r) (behind r) t (contents_plain r));
      in_range = i;
    }

-- and reading goes over the lines of rows that passed
pub read_on : {rs : List Row} {o : Outcome} → Passed rs → (t : List ℕ) → After rs t o → After [] (text_of rs ++ t) o
unfolding text_of
read_on start t a = a
read_on {o = o} (then {r} {rs} i q p) t a =
    subst (λ (s : List ℕ). After [] s o) (sym (append_assoc (text_of rs) (line_text r) t)) (read_on p (line_text r ++ t) (passed (line_first r t i) q a))

pub read_again : (rs : List Row) → Passed rs → 0 < length (text_of rs) → length (text_of rs) ≤ MOST_BYTES → Of (text_of rs) (rows rs)
read_again rs p some few = right_length some few (subst (λ (s : List ℕ). After [] s (rows rs)) (append-nil (text_of rs)) (read_on p [] done))

-- whatever was read has passed
pub after_passed : {rs ws : List Row} {t : List ℕ} → After rs t (rows ws) → Passed rs → Passed ws
after_passed done p = p
after_passed (passed f q a) p = after_passed a (then f.in_range q p)

-- of a text that is not empty some row was read
after_longer : {rs ws : List Row} {t : List ℕ} → After rs t (rows ws) → length rs ≤ length ws
after_longer done = omega arith
after_longer (passed f q a) = omega (arith, after_longer a)

pub after_some : {rs ws : List Row} {t : List ℕ} → After rs t (rows ws) → 0 < length t → 0 < length ws
after_some done h = absurd (omega arith)
after_some (passed f q a) h = omega (arith, after_longer a)

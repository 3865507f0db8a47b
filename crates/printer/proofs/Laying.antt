-- Laws of bytes laid over a buffer. Assumes nothing.
use mathlib.Core.Path.{◌≡◌, refl, sym, ap, ap₂, subst, ◌∙◌}
use mathlib.Core.Bool.{Bool, true, false}
use mathlib.Core.List.{List, [], ◌++◌, append_assoc, append-nil}
use Prim.Native.Nat.{ℕ, zero, suc, ◌+◌, ◌-◌, ◌≤◌, ◌<◌}
use native.Mathlib.Numerals.{add-one}
use native.Mathlib.Omega.{arith}
use lib.Dec.{leb}
use lib.ListN.{length, take, drop, replicate, length-append, length-take, length-drop, length-replicate, drop_of_length-le}
use lib.Seq.{sets-eq, drop-drop}
use borrow.Rule.Slice.PartMut.{put_mid}
use borrow.Author.Tests.{leb-true, leb-false}
use Rattle.rfc4180.specs.Laid.{Room, Laid}
use Rattle.rfc4180.proofs.Laying.{laid_none, laid_length, laid_then, room_then}
use Rattle.printer.specs.Texts.{texts}
use Rattle.printer.specs.Printed.{PRINTED, Shows}

-- a text as long as the buffer is all that there is
pub laid_all : {l k s : List ℕ} {end : ℕ} → Laid l 0 s k end → length s ≡ length l → k ≡ s
laid_all {l} {k} {s} a e =
    let h : 0 + length s ≤ length l = omega arith in
    let g : length l ≤ 0 + length s = omega arith in
    a.is ∙ sets-eq s l 0 h ∙ ap (λ (r : List ℕ). s ++ r) (drop_of_length-le l g) ∙ append-nil s

-- nothing but 0 in the place of all that stands from a place on
pub laid_cleared : (l : List ℕ) (from k : ℕ) {b : List ℕ} → from ≤ length l → k ≡ length l - from → b ≡ replicate (length (take k (drop from l))) 0
    → Laid l from (replicate (length l - from) 0) (put_mid from k l b) (length l)
laid_cleared l from k h e g =
    let zeros = replicate {A = ℕ} (length l - from) 0 in
    let many : length zeros ≡ length l - from = length-replicate (length l - from) 0 in
    let lent : length (take k (drop from l)) ≡ length l - from = length-take k (drop from l) ∙ simp length-drop (omega arith) in
    let behind : from + k ≡ from + length zeros = omega arith in
    record {
      ends = omega arith;
      is = ap₂ (λ (x y : List ℕ). take from l ++ (x ++ y)) (g ∙ ap (λ (n : ℕ). replicate {A = ℕ} n 0) lent) (drop-drop k from l ∙ ap (λ (n : ℕ). drop n l) behind)
          ∙ sym (append_assoc (take from l) zeros (drop (from + length zeros) l)) ∙ sym (sets-eq zeros l from (omega arith));
    }

module _ (f : ℕ → List ℕ) where
  pub texts_none : texts f 0 ≡ []
  unfolding texts
  texts_none = refl

  pub texts_next : (n : ℕ) → texts f (n + 1) ≡ texts f n ++ f n
  unfolding texts
  texts_next n = rw add-one

  texts_within : (i n : ℕ) → i < n → length (texts f (suc i)) ≤ length (texts f n)
  unfolding texts
  texts_within i zero h = absurd (omega arith)
  texts_within i (suc n) h = go (leb n i) refl (texts_within i n)
    where
      go : (b : Bool) → leb n i ≡ b → (i < n → length (texts f (suc i)) ≤ length (texts f n)) → length (texts f (suc i)) ≤ length (texts f n ++ f n)
      go true e ih = let q : i ≡ n = omega (arith, leb-true n i e) in rw q (omega arith)
      go false e ih = omega (arith, ih (omega (arith, leb-false n i e)), length-append (texts f n) (f n))

  -- the first of some texts, the next, and the room for it
  pub laid_first : (l : List ℕ) (at : ℕ) → Laid l at (texts f 0) l at
  laid_first l at = rw texts_none (laid_none l at)

  pub laid_next : {l k j : List ℕ} {at mid end : ℕ} (i : ℕ) → Laid l at (texts f i) k mid → Laid k mid (f i) j end → Laid l at (texts f (i + 1)) j end
  laid_next i a b = rw texts_next (laid_then a b)

  pub room_next : {l k : List ℕ} {at mid : ℕ} (i n : ℕ) → i < n → Room l at (texts f n) → Laid l at (texts f i) k mid → Room k mid (f i)
  unfolding texts
  room_next {l} {k} {at} i n h r a =
      let g : Room l at (texts f i ++ f i) = record { fits = omega (arith, r.fits, texts_within i n h) } in
      room_then g a

  -- all of them
  pub laid_last : {l k : List ℕ} {at end : ℕ} (i n : ℕ) → i ≤ n → n ≤ i → Laid l at (texts f i) k end → Laid l at (texts f n) k end
  laid_last i n h g a = let e : n ≡ i = omega arith in rw e a

-- a text, and nothing but 0 behind it
pub shown : {l k j s : List ℕ} {end : ℕ} → length l ≡ PRINTED → Room l 0 s → Laid l 0 s k end → Laid k end (replicate (length k - end) 0) j (length k) → Shows s j end
shown {l} {k} {j} {s} {end} e r a b =
    let n = laid_length a in
    let z = length-append s (replicate (length k - end) 0) in
    let y = length-replicate {A = ℕ} (length k - end) 0 in
    record {
      long = omega (arith, a.ends);
      is = laid_all (laid_then a b) (omega (arith, a.ends, r.fits)) ∙ ap (λ (m : ℕ). s ++ replicate (m - end) 0) (n ∙ e);
    }

-- the same text, said otherwise
pub room_as : {l s t : List ℕ} {at : ℕ} → s ≡ t → Room l at s → Room l at t
room_as {l} {s} {t} {at} e r = subst (λ (x : List ℕ). Room l at x) e r

pub laid_as : {l k s t : List ℕ} {at end : ℕ} → s ≡ t → Laid l at t k end → Laid l at s k end
laid_as {l} {k} {s} {t} {at} {end} e a = subst (λ (x : List ℕ). Laid l at x k end) (sym e) a

pub room_end : {l k s : List ℕ} {at end : ℕ} → Room l at s → Laid l at s k end → end ≤ length k
room_end r a = omega (arith, r.fits, a.ends, laid_length a)

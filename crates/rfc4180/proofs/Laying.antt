-- Laws of bytes laid over a buffer. Assumes nothing.
use mathlib.Core.Path.{◌≡◌, refl, sym, ap, ◌∙◌}
use mathlib.Core.List.{List, [], ◌∷◌, ◌++◌}
use Prim.Native.Nat.{ℕ, suc, ◌+◌}
use native.Mathlib.Omega.{arith}
use lib.ListN.{length, set, length-append}
use lib.Seq.{sets, length-sets}
use Rattle.rfc4180.specs.Laid.{Room, Laid}

sets_append : (l : List ℕ) (i : ℕ) (s t : List ℕ) → sets l i (s ++ t) ≡ sets (sets l i s) (i + length s) t
sets_append l i [] t = let e : i + 0 ≡ i = omega arith in rw e
sets_append l i (a ∷ s) t =
    let e : i + suc (length s) ≡ suc i + length s = omega arith in
    rw e (sets_append (set l i a) (suc i) s t)

pub laid_none : (l : List ℕ) (at : ℕ) → Laid l at [] l at
laid_none l at = record { ends = omega arith; is = refl }

-- one byte
pub laid_byte : (l : List ℕ) (at b : ℕ) → Laid l at (b ∷ []) (set l at b) (at + 1)
laid_byte l at b = record { ends = refl; is = refl }

pub laid_length : {l k s : List ℕ} {at end : ℕ} → Laid l at s k end → length k ≡ length l
laid_length {l} {k} {s} {at} a = ap length a.is ∙ length-sets l at s

-- a text behind another
pub laid_then : {l k j s t : List ℕ} {at mid end : ℕ} → Laid l at s k mid → Laid k mid t j end → Laid l at (s ++ t) j end
laid_then {l} {k} {j} {s} {t} {at} a b = record {
  ends = omega (arith, a.ends, b.ends, length-append s t);
  is = b.is ∙ rw (a.is, a.ends) (sym (sets_append l at s t));
}

pub room_first : {l s : List ℕ} {at : ℕ} (t : List ℕ) → Room l at (s ++ t) → Room l at s
room_first {l} {s} t r = record { fits = omega (arith, r.fits, length-append s t) }

-- the room that is left for it
pub room_then : {l k s t : List ℕ} {at mid : ℕ} → Room l at (s ++ t) → Laid l at s k mid → Room k mid t
room_then {l} {k} {s} {t} r a = record { fits = omega (arith, r.fits, a.ends, laid_length a, length-append s t) }

-- a buffer with a text laid over it is one only
pub laid_one : {l k j s : List ℕ} {at x y : ℕ} → Laid l at s k x → Laid l at s j y → (x ≡ y) × (k ≡ j)
laid_one a b = (a.ends ∙ sym b.ends, a.is ∙ sym b.is)

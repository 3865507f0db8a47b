-- Laws of lists of numbers, for those who read them number by number. Assumes nothing.
use mathlib.Core.Path.{◌≡◌, refl, sym, ap, ap₂, subst, ◌∙◌}
use mathlib.Core.List.{List, [], ◌∷◌, ◌++◌, append-nil}
use mathlib.Core.Logic.{◌↔◌}
use Prim.Native.Nat.{ℕ, suc, ◌+◌, ◌-◌, ◌≤◌, ◌<◌}
use native.Mathlib.Numerals.{add-one}
use native.Mathlib.Omega.{arith}
use lib.ListN.{length, drop, length-append, length-drop}
use lib.Seq.{drop-cons, drop-drop, drop-length, drop-append_seam, take-append_seam}
use Rattle.numbers.specs.Every.{Every, every_append}
use Rattle.rfc4180.specs.Decimal.{decimal, spaced, IsDigit}
use Rattle.rfc4180.specs.Numbers.{Parted, Listed}
use Rattle.rfc4180.proofs.Decimals.{decimal_writes, decimal_is, decimal_injective, writes_some, writes_digits, decimal_every}
use Rattle.rfc4180.proofs.Runs.{parts, front_one, parted_stops, parted_space}

-- what stands behind the first number of a list
abbrev pub behind : List ℕ → List ℕ
behind [] = []
behind (x ∷ xs) = 32 ∷ spaced (x ∷ xs)

pub spaced_first : (x : ℕ) (xs : List ℕ) → spaced (x ∷ xs) ≡ decimal x ++ behind xs
unfolding spaced
spaced_first x [] = sym (append-nil (decimal x))
spaced_first x (y ∷ ys) = refl

pub spaced_more : (x : ℕ) (xs : List ℕ) → 0 < length xs → spaced (x ∷ xs) ≡ decimal x ++ (32 ∷ spaced xs)
spaced_more x [] h = absurd (omega arith)
spaced_more x (y ∷ ys) h = spaced_first x (y ∷ ys)

-- what holds of each digit and of a space holds of each byte of a list
pub spaced_every : (P : ℕ → Type 0) → ((b : ℕ) → IsDigit b → P b) → P 32 → (xs : List ℕ) → Every P (spaced xs)
unfolding spaced
spaced_every P f space [] = tt
spaced_every P f space (x ∷ []) = decimal_every P f x
spaced_every P f space (x ∷ y ∷ ys) = every_append P (decimal x) (32 ∷ spaced (y ∷ ys)) (decimal_every P f x) (space, spaced_every P f space (y ∷ ys))

behind_parted : (xs : List ℕ) → Parted (behind xs)
behind_parted [] = Parted.over
behind_parted (x ∷ xs) = Parted.space

-- a number and what parts it from the next are one only
parted_one : (x y : ℕ) (u v : List ℕ) → Parted u → Parted v → decimal x ++ u ≡ decimal y ++ v → (x ≡ y) × (u ≡ v)
parted_one x y u v p q e =
    let w = front_one (decimal x) (decimal y) u v (writes_digits (decimal_writes x)) (writes_digits (decimal_writes y)) (parted_stops p) (parted_stops q) e in
    (decimal_injective x y w.0, w.1)

firsts : (x y : ℕ) (xs ys : List ℕ) → spaced (x ∷ xs) ≡ spaced (y ∷ ys) → (x ≡ y) × (behind xs ≡ behind ys)
firsts x y xs ys e = parted_one x y (behind xs) (behind ys) (behind_parted xs) (behind_parted ys) (sym (spaced_first x xs) ∙ e ∙ spaced_first y ys)

never : {A : Type 0} → ◌≡◌ {A = ℕ} 0 1 → A
never e = absurd (omega arith)

behind_none : (xs : List ℕ) → behind xs ≡ [] → xs ≡ []
behind_none [] e = refl
behind_none (x ∷ xs) e = never (cc)

behind_some : (xs t : List ℕ) → behind xs ≡ 32 ∷ t → (0 < length xs) × (t ≡ spaced xs)
behind_some [] t e = never (cc)
behind_some (x ∷ xs) t e = (omega arith, cc)

-- a list is one only
pub spaced_one : (x y : ℕ) (xs ys : List ℕ) → spaced (x ∷ xs) ≡ spaced (y ∷ ys) → x ∷ xs ≡ y ∷ ys
spaced_one x y xs [] e = let w = firsts x y xs [] e in ap₂ (λ (n : ℕ) (t : List ℕ). n ∷ t) w.0 (behind_none xs w.1)
spaced_one x y [] (b ∷ ys) e = let w = firsts x y [] (b ∷ ys) e in never (cc)
spaced_one x y (a ∷ xs) (b ∷ ys) e =
    let w = firsts x y (a ∷ xs) (b ∷ ys) e in
    ap₂ (λ (n : ℕ) (t : List ℕ). n ∷ t) w.0 (spaced_one a b xs ys (sym (behind_some (a ∷ xs) (spaced (b ∷ ys)) w.1).1))

-- the text from a number of a list on
pub item_text : {s : List ℕ} {at most n end : ℕ} → Listed s at most n end → drop at s ≡ decimal n ++ drop end s
item_text {s} {at} {end} w = sym (parts s at end w.begins) ∙ ap (λ (t : List ℕ). t ++ drop end s) (sym (decimal_is w.writes))

-- the last number
pub item_last : {s : List ℕ} {at most n : ℕ} → Listed s at most n (length s) → drop at s ≡ spaced (n ∷ [])
item_last {s} {n} w = item_text w ∙ ap (λ (t : List ℕ). decimal n ++ t) (drop-length s) ∙ sym (spaced_first n [])

-- a number before others
item_space : {s : List ℕ} {at most n end : ℕ} → Listed s at most n end → end < length s → drop end s ≡ 32 ∷ drop (end + 1) s
item_space {s} {end} w l =
    let e = drop-cons s end 0 l in
    e ∙ ap₂ (λ (c k : ℕ). c ∷ drop k s) (parted_space {t = drop (suc end) s} (subst (λ (t : List ℕ). Parted t) e w.parted)) (sym (add-one end))

pub item_more : {s : List ℕ} {at most n end : ℕ} → Listed s at most n end → end < length s → drop at s ≡ decimal n ++ (32 ∷ drop (end + 1) s)
item_more {n} w l = item_text w ∙ ap (λ (t : List ℕ). decimal n ++ t) (item_space w l)

-- the list that begins with a number that was read
module _ {s : List ℕ} {at most n end : ℕ} (w : Listed s at most n end) (x : ℕ) (xs : List ℕ) where
  item_first : drop at s ≡ spaced (x ∷ xs) → (x ≡ n) × (behind xs ≡ drop end s)
  item_first e = parted_one x n (behind xs) (drop end s) (behind_parted xs) w.parted (sym (spaced_first x xs) ∙ sym e ∙ item_text w)

  pub item_then : end < length s → (drop at s ≡ spaced (x ∷ xs)) ↔ ((x ≡ n) × (0 < length xs) × (drop (end + 1) s ≡ spaced xs))
  item_then l = (
    λ e. let f = item_first e in let g = behind_some xs (drop (end + 1) s) (f.1 ∙ item_space w l) in (f.0, g.0, g.1),
    λ f. item_more w l ∙ ap₂ (λ (m : ℕ) (t : List ℕ). decimal m ++ (32 ∷ t)) (sym f.0) f.2 ∙ sym (spaced_more x xs f.1),
  )

-- no list begins where no number is read
pub item_missing : {s : List ℕ} {at most : ℕ} → ((n end : ℕ) → Listed s at most n end → ⊥) → (x : ℕ) (xs : List ℕ) → x ≤ most → drop at s ≡ spaced (x ∷ xs) → ⊥
item_missing {s} {at} f x xs h e =
    let t : drop at s ≡ decimal x ++ behind xs = e ∙ spaced_first x xs in
    let k : at + length (decimal x) - at ≡ length (decimal x) = omega arith in
    let long = sym (length-drop at s) ∙ ap length t ∙ length-append (decimal x) (behind xs) in
    f x (at + length (decimal x))
    (record {
      begins = omega arith;
      inside = omega (arith, long, writes_some (decimal_writes x));
      small = h;
      writes = rw (k, t, take-append_seam (decimal x) (behind xs)) (decimal_writes x);
      parted = rw (← drop-drop (length (decimal x)) at s, t, drop-append_seam (decimal x) (behind xs)) (behind_parted xs);
    })

-- The rates of a text that were read, and those that follow. Assumes nothing.
use mathlib.Core.Path.{◌≡◌, refl, sym, ap, subst, ◌∙◌}
use mathlib.Core.List.{List, [], ◌∷◌, ◌++◌, append_assoc}
use mathlib.Core.Logic.{◌⊎◌, inl, inr}
use Prim.Native.Nat.{ℕ, ◌+◌, ◌-◌, ◌≤◌, ◌<◌}
use native.Mathlib.Omega.{arith}
use lib.ListN.{length, set, drop, replicate, length-append, length-take}
use Rattle.std.specs.Prelude.{Some, None}
use Rattle.numbers.specs.Every.{Every, every_append, every_behind}
use Rattle.numbers.specs.Padded.{padded, padded_none, padded_more, padded_full}
use Rattle.rfc4180.specs.Decimal.{spaced}
use Rattle.rfc4180.specs.Numbers.{Listed}
use Rattle.rfc4180.proofs.Decimals.{writes_some}
use Rattle.rfc4180.proofs.Lists.{item_last, item_then, item_missing}
use Rattle.units.specs.Limits.{MOST_RATE, PHASES}
use Rattle.reader.specs.Rows.{Rates}
use Rattle.reader.specs.Lines.{RatesOf, listed, none}

-- the rates before a place are read: the text lists them and others exactly when the text from the place on lists the others
pub record Listing (s values : List ℕ) (count at : ℕ) : Type 0 where
  pub read : List ℕ
  pub small : Every (λ x. x ≤ MOST_RATE.0) read
  pub many : count ≡ length read
  pub few : count ≤ at
  pub kept : values ≡ padded PHASES 0 read
  pub whole : (x : ℕ) (xs : List ℕ) → drop at s ≡ spaced (x ∷ xs) → s ≡ spaced (read ++ (x ∷ xs))
  pub rest : (ys : List ℕ) → 0 < length ys → s ≡ spaced ys → (x : ℕ) × (xs : List ℕ) × (ys ≡ read ++ (x ∷ xs)) × (drop at s ≡ spaced (x ∷ xs))

pub listing_none : (s : List ℕ) → Listing s (replicate PHASES 0) 0 0
listing_none s =
    record {
      read = [];
      small = tt;
      many = refl;
      few = omega arith;
      kept = sym (padded_none PHASES 0);
      whole = λ x xs e. e;
      rest = λ ys h e. first ys h e;
    }
  where
    first : (ys : List ℕ) → 0 < length ys → s ≡ spaced ys → (x : ℕ) × (xs : List ℕ) × (ys ≡ x ∷ xs) × (s ≡ spaced (x ∷ xs))
    first [] h e = absurd (omega arith)
    first (x ∷ xs) h e = (x, xs, refl, e)

-- a rate takes a byte at least
pub listed_some : {s : List ℕ} {at most n end : ℕ} → Listed s at most n end → at < end
listed_some {s} {at} {end = end} l = omega (arith, writes_some l.writes, length-take (end - at) (drop at s))

-- one rate more in memory, where there is room
abbrev pub Stored : List ℕ → ℕ → ℕ → List ℕ → Type 0
Stored values count x after = ((count < PHASES) × (after ≡ set values count x)) ⊎ ((PHASES ≤ count) × (after ≡ values))

module _ {s values : List ℕ} {count at : ℕ} (g : Listing s values count at) where
  -- the rates so far and one more
  module _ (x : ℕ) (after : List ℕ) (w : Stored values count x after) where
    kept_more : after ≡ padded PHASES 0 (g.read ++ (x ∷ []))
    kept_more = go w
      where
        go : Stored values count x after → after ≡ padded PHASES 0 (g.read ++ (x ∷ []))
        go (inl (h, e)) = e ∙ rw (g.kept, g.many) (padded_more PHASES 0 g.read x (omega (arith, h, g.many)))
        go (inr (h, e)) = e ∙ g.kept ∙ sym (padded_full PHASES 0 g.read x (omega (arith, h, g.many)))

    many_more : count + 1 ≡ length (g.read ++ (x ∷ []))
    many_more = omega (arith, g.many, length-append g.read (x ∷ []))

    -- the last one
    pub listing_all : Listed s at MOST_RATE.0 x (length s) → RatesOf s (Some (record { count = count + 1; values = after }))
    listing_all l =
        subst (λ (n : ℕ). RatesOf s (Some (record { count = n; values = after }))) (sym many_more)
        (subst (λ (v : List ℕ). RatesOf s (Some (record { count = length (g.read ++ (x ∷ [])); values = v }))) (sym kept_more)
        (listed (g.read ++ (x ∷ [])) (omega (arith, many_more), every_append (λ n. n ≤ MOST_RATE.0) g.read (x ∷ []) g.small (l.small, tt)) (sym (g.whole x [] (item_last l)))))

    -- one before others
    pub listing_more : {end : ℕ} → Listed s at MOST_RATE.0 x end → end < length s → Listing s after (count + 1) (end + 1)
    listing_more {end} l h =
        record {
          read = g.read ++ (x ∷ []);
          small = every_append (λ n. n ≤ MOST_RATE.0) g.read (x ∷ []) g.small (l.small, tt);
          many = many_more;
          few = omega (arith, g.few, l.begins);
          kept = kept_more;
          whole = λ y ys e. g.whole x (y ∷ ys) ((item_then l x (y ∷ ys) h).1 (refl, omega arith, e)) ∙ ap spaced (sym (append_assoc g.read (x ∷ []) (y ∷ ys)));
          rest = λ ys some e. onward ys (g.rest ys some e);
        }
      where
        onward : (ys : List ℕ) → (y : ℕ) × (zs : List ℕ) × (ys ≡ g.read ++ (y ∷ zs)) × (drop at s ≡ spaced (y ∷ zs))
            → (z : ℕ) × (zs : List ℕ) × (ys ≡ (g.read ++ (x ∷ [])) ++ (z ∷ zs)) × (drop (end + 1) s ≡ spaced (z ∷ zs))
        onward ys (y, zs, e, f) = further zs e ((item_then l y zs h).0 f)
          where
            further : (zs : List ℕ) → ys ≡ g.read ++ (y ∷ zs) → (y ≡ x) × (0 < length zs) × (drop (end + 1) s ≡ spaced zs)
                → (z : ℕ) × (us : List ℕ) × (ys ≡ (g.read ++ (x ∷ [])) ++ (z ∷ us)) × (drop (end + 1) s ≡ spaced (z ∷ us))
            further [] e w = absurd (omega arith)
            further (z ∷ us) e w = (z, us, e ∙ ap (λ (n : ℕ). g.read ++ (n ∷ z ∷ us)) w.0 ∙ sym (append_assoc g.read (x ∷ []) (z ∷ us)), w.2)

  -- no rate follows
  pub listing_bad : ((n end : ℕ) → Listed s at MOST_RATE.0 n end → ⊥) → RatesOf s None
  listing_bad f = none (λ ys r e. go ys r (g.rest ys r.0 (sym e)))
    where
      go : (ys : List ℕ) → Rates ys → (x : ℕ) × (xs : List ℕ) × (ys ≡ g.read ++ (x ∷ xs)) × (drop at s ≡ spaced (x ∷ xs)) → ⊥
      go ys r (x, xs, e, d) = item_missing f x xs (every_behind (λ n. n ≤ MOST_RATE.0) g.read (x ∷ xs) (subst (Every (λ n. n ≤ MOST_RATE.0)) e r.1)).0 d

-- The least numbers at which two ends meet are those that the model reckons.
use Rattle.std.specs.Prelude.{◌≡◌, ℕ, ◌*◌, ◌<◌}
use Rattle.numbers.specs.Reckoned.{gcd_of_law}
use Rattle.units.specs.declared.Token.{Token}
use Rattle.rate.specs.declared.Meeting.{Meeting}
use Rattle.rate.specs.Rate.{Meets, meets_unique, meets_reduced}
use Rattle.rate.specs.Reckoned.{meet_of}

pub meet_of_law : (makers : ℕ) (made taken : Token) → 0 < taken.0 → Meets makers made taken (meet_of makers made taken)
meet_of_law makers made taken pos = meets_reduced makers _ made taken pos (gcd_of_law (makers * made.0) taken.0)

pub meet_is : (makers : ℕ) (made taken : Token) (r : Meeting) → 0 < taken.0 → Meets makers made taken r → r ≡ meet_of makers made taken
meet_is makers made taken r pos p = meets_unique makers made taken r (meet_of makers made taken) p (meet_of_law makers made taken pos)

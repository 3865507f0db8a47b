-- Places and numbers: modes, actors and processors have numbers from 1 in a table and in what is printed; in memory the one with number n stands at
-- place n - 1.
use Rattle.std.specs.Prelude.{ℕ, ◌+◌, ◌-◌}

abbrev pub number_of : ℕ → ℕ
number_of place = place + 1

abbrev pub place_of : ℕ → ℕ
place_of number = number - 1

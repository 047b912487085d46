-- What reading a number of so many bytes promises.
use Rattle.std.specs.Prelude.{ℕ, ◌^◌, ◌<◌, ◌≡◌}

-- r is the number n, which has no more than `size` bytes
pub record Reads (n size r : ℕ) : Type 0 where
  pub right : r ≡ n
  pub small : r < 256 ^ size

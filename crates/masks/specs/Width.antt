-- How many operations a set of operations can hold.
use Rattle.std.specs.Prelude.{ℕ}

abbrev pub set_width : ℕ
set_width = 32

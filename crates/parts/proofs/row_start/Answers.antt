-- `parts::row_start` meets its contract. Assumes nothing.
use Prim.Native.Nat.{◌*◌}
use native.Mathlib.Omega.{arith}
use mathlib.Core.Path.{◌≡◌, refl}
use Rattle.meaning.specs.TableFile.{row_bytes, mask_bytes}
use Rattle.meaning.proofs.TableFile.{row-end}
use Rattle.parts.proofs.row_start.Goals as goal
use Rattle.parts.proofs.row_start.Goals.{After-row_bytes}

-- the rows' bytes, as a product that is linear
bytes : (c : After-row_bytes) → c.row_bytes.result * c.args.rows ≡ 8 * c.args.rows
unfolding row_bytes mask_bytes
bytes c = rw c.row_bytes.ensures refl

pub returns : goal.returns
returns c = record { right = rw (row-end, c.row_bytes.ensures) refl; small = omega (arith, bytes c) }

pub overflow_mul-result : goal.overflow_mul-result
overflow_mul-result c = omega (arith, bytes c)

pub overflow_add-result : goal.overflow_add-result
overflow_add-result c = omega (arith, bytes c)

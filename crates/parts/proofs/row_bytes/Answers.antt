-- `parts::row_bytes` meets its contract. Assumes nothing.
use native.Mathlib.Omega.{arith}
use mathlib.Core.Path.{refl}
use Rattle.meaning.specs.TableFile.{row_bytes, mask_bytes}
use Rattle.parts.proofs.row_bytes.Goals as goal

pub overflow_mul-result : goal.overflow_mul-result
unfolding mask_bytes
overflow_mul-result c = omega (arith, c.mask_bytes.ensures)

pub overflow_add-result : goal.overflow_add-result
unfolding mask_bytes
overflow_add-result c = omega (arith, c.mask_bytes.ensures)

pub returns : goal.returns
unfolding row_bytes
returns c = rw c.mask_bytes.ensures refl

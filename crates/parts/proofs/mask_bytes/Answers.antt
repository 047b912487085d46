-- `parts::mask_bytes` meets its contract. Assumes nothing.
use mathlib.Core.Path.{refl}
use Rattle.meaning.specs.TableFile.{mask_bytes}
use Rattle.parts.proofs.mask_bytes.Goals as goal

pub returns : goal.returns
unfolding mask_bytes
returns c = refl

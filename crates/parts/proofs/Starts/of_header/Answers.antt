-- `parts::Starts::of_header` meets its contract. Assumes nothing.
use native.Mathlib.Omega.{arith}
use Prim.Native.Nat.{ℕ, ◌*◌}
use mathlib.Core.Path.{◌≡◌, refl}
use Rattle.meaning.specs.Graph.{content, operation_bytes, arc_bytes, operations_start, controls_start, arcs_start, file_end}
use Rattle.parts.proofs.Starts.of_header.Goals as goal

-- the bytes of so many operations
bytes : (size count : ℕ) → size ≡ 3 → size * count ≡ 3 * count
bytes size count e = rw e refl

pub overflow_mul-controls : goal.overflow_mul-controls
unfolding operation_bytes
overflow_mul-controls c = omega (arith, bytes _ c.of_header-counts.result.operations c.operation_bytes.ensures, c.of_header-counts.ensures.operations-small)

pub overflow_add-controls : goal.overflow_add-controls
unfolding operation_bytes
overflow_add-controls c =
    let n = c.of_header-counts.ensures in
    omega (arith, bytes _ c.of_header-counts.result.operations c.operation_bytes.ensures, n.operations-small, n.classes-small)

pub overflow_add-arcs : goal.overflow_add-arcs
unfolding operation_bytes
overflow_add-arcs c =
    let n = c.of_header-counts.ensures in
    omega (arith, bytes _ c.of_header-counts.result.operations c.operation_bytes.ensures, n.operations-small, n.classes-small, n.controls-small)

pub overflow_add-result : goal.overflow_add-result
unfolding operation_bytes
overflow_add-result c =
    let n = c.of_header-counts.ensures in
    omega (arith, bytes _ c.of_header-counts.result.operations c.operation_bytes.ensures, n.operations-small, n.classes-small, n.controls-small, n.arcs-small)

pub returns : goal.returns
unfolding content operation_bytes arc_bytes operations_start controls_start arcs_start file_end
returns c =
    let n = c.of_header-counts.ensures in
    record {
      operations = record { right = rw n.classes refl; small = omega (arith, n.classes-small) };
      controls = record {
        right = rw (n.classes, n.operations, c.operation_bytes.ensures) refl;
        small = omega (arith, bytes _ c.of_header-counts.result.operations c.operation_bytes.ensures, n.operations-small, n.classes-small);
      };
      arcs = record {
        right = rw (n.classes, n.operations, n.controls, c.operation_bytes.ensures) refl;
        small = omega (arith, bytes _ c.of_header-counts.result.operations c.operation_bytes.ensures, n.operations-small, n.classes-small, n.controls-small);
      };
      end = record {
        right = rw (n.classes, n.operations, n.controls, n.arcs, c.operation_bytes.ensures) refl;
        small = omega (arith, bytes _ c.of_header-counts.result.operations c.operation_bytes.ensures, n.operations-small, n.classes-small, n.controls-small, n.arcs-small);
      };
    }

-- The number of each refusal, and the verdict of what is taken with some value or refused with a fault.
use Rattle.std.specs.Prelude.{ℕ, List, ◌++◌, Result, Ok, Err, codes}
use Rattle.std.specs.Fmt.{decimal}
use Rattle.machine.specs.Refusals.{Verdict, taken, refused}
use Rattle.refusals.specs.declared.Fault.{Fault}
use Rattle.refusals.specs.declared.Refusal.{Refusal}
use Rattle.refusals.specs.declared.Refusal.TheVariants.{Short, Unmarked, Overfull, Misplaced, Length, Class, Path, Producer, Branch, Arc, Join, Slots, Unschedulable, Room, Layout, Order, Unfounded, Illegal, Gap, Cycles}

unfoldable pub number_of : Refusal → ℕ
number_of Short = 1
number_of Unmarked = 2
number_of Overfull = 3
number_of Misplaced = 4
number_of Length = 5
number_of Class = 6
number_of Path = 7
number_of Producer = 8
number_of Branch = 9
number_of Arc = 10
number_of Join = 11
number_of Slots = 12
number_of Unschedulable = 13
number_of Room = 14
number_of Layout = 15
number_of Order = 16
number_of Unfounded = 17
number_of Illegal = 18
number_of Gap = 19
number_of Cycles = 20

-- the verdict of a fault
unfoldable pub fault_verdict : Fault → Verdict
fault_verdict f = refused (number_of f.refusal) f.place

unfoldable pub verdict_of : {A : Type 0} → Result A Fault → Verdict
verdict_of (Ok value) = taken
verdict_of (Err fault) = fault_verdict fault

-- the text of a fault: its number and its place in decimal
unfoldable pub shown : Fault → List ℕ
shown f = codes "refused " ++ decimal (number_of f.refusal) ++ codes " " ++ decimal f.place

-- Where no reachable state is stuck, each finishes within its rank, so a schedule is certain. Assumes nothing.
use Prim.Native.Nat.{ℕ, zero, suc, ◌≤◌}
use native.Mathlib.Nat.{le_refl, le_trans, not-suc-le-zero}
use native.Mathlib.Omega.{arith}
use mathlib.Core.Logic.{⊎_elim}
use mathlib.Core.Bool.{not}
use lib.Dec.{T}
use Rattle.machine.specs.Machine.{Machine, finish, remaining, Reachable}
use Rattle.machine.proofs.Truth.{decided, false_of}
use Rattle.machine.proofs.Lawful.{Lawful}
use Rattle.machine.proofs.Finish.{leads_of, finish-complete, finish-step, remaining-least}
use Rattle.machine.proofs.Reach.{reachable_rank}

-- Every reachable state that is not complete has a legal step.
abbrev pub Progress : Machine → Type 0
Progress M = (s : M.State) → Reachable M s → T (not (M.complete s)) → (x : ℕ) × T (M.legal s x)

module _ (M : Machine) (L : Lawful M) (go : Progress M) where
  pub progress_finish : (t : ℕ) (s : M.State) → Reachable M s → L.rank s ≤ t → T (finish M t s)
  progress_finish zero s r h = ⊎_elim (finish-complete M 0 s) stuck (decided (M.complete s))
    where
      stuck : T (not (M.complete s)) → T (finish M 0 s)
      stuck n = let x = go s r n in absurd (not-suc-le-zero (le_trans (L.rank_falls s x.0 0 x.1) h))
  progress_finish (suc t) s r h = ⊎_elim (finish-complete M (suc t) s) (λ (n : T (not (M.complete s))). onward n (go s r n) (progress_finish t)) (decided (M.complete s))
    where
      onward : T (not (M.complete s)) → (x : ℕ) × T (M.legal s x)
          → ((s : M.State) → Reachable M s → L.rank s ≤ t → T (finish M t s)) → T (finish M (suc t) s)
      onward n (x, l) ih =
          finish-step M t s x (L.step-below s x l)
          (leads_of M (finish M t) s x l (λ w k. ih (M.next s x w) (Reachable.step r (false_of (M.complete s) n) x l w k) (omega (arith, L.rank_falls s x w l))))

  -- A reachable state has a remaining number, which is its rank at most.
  pub progress_remaining : (s : M.State) → Reachable M s → remaining M s ≤ L.rank s
  progress_remaining s r =
      remaining-least M (L.rank s) s (progress_finish (L.rank s) s r (le_refl (L.rank s))) (reachable_rank M L s r)

  -- So the start has one, within the horizon.
  pub certain-number : remaining M M.start ≤ M.horizon
  certain-number = le_trans (progress_remaining M.start Reachable.begin) L.rank_start

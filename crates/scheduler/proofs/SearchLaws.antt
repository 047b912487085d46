-- Laws of the search: what storing a state keeps, and when the slots are too few. Assumes nothing.
use Prim.Native.Nat.{ℕ, suc, ◌^◌, ◌≤◌, ◌<◌}
use native.Mathlib.Nat.{le_refl, lt_of_lt_of_le}
use native.Mathlib.Omega.{arith}
use mathlib.Core.Path.{◌≡◌, refl, sym, ◌∙◌, subst, subst₂}
use mathlib.Core.Logic.{inl, inr, ⊎_elim}
use mathlib.Core.Bool.{not, ◌||◌}
use mathlib.Core.List.{List, ◌∷◌}
use lib.ListN.{length, replicate}
use lib.Dec.{T}
use lib.Pow.{pow_mono}
use Rattle.machine.specs.Machine.{Machine, Reachable, begin, step, holds, state_count}
use Rattle.machine.proofs.Truth.{or_cases, contrary, refuted}
use Rattle.machine.proofs.Lawful.{Lawful}
use Rattle.machine.proofs.Reach.{more, distinct_length, distinct_all}
use Rattle.machine.proofs.Search.{Right, complete-right, Good, good-all}
use Rattle.meaning.specs.Graph.{Graph, control_count}
use Rattle.meaning.specs.Steps.{State, machine_of, same, complete, legal, after as next}
use Rattle.meaning.proofs.Taken.{Accepted, few-controls}
use Rattle.meaning.proofs.Instance.{undone, lawful}
use Rattle.std.specs.Prelude.{Option, Some, None}
use Rattle.scheduler.specs.Slots.{Holds, InOrder, Finds, Added, StoredAs}
use Rattle.scheduler.specs.Search.{Held, Store, Grown, Ready, Settles, SettledTo, Storable}
use Rattle.scheduler.proofs.SlotLaws.{Listed, listed, cleared-holds}

-- a state that is not held makes one more reachable state than slots are in use
store_full : (g : Graph) → Accepted g → (slots : List ℕ) (used : ℕ) → InOrder slots used → (s : State) (number : ℕ) → Storable g slots s number
    → used ≡ length slots → length slots < state_count (machine_of g)
unfolding holds
store_full g accepted slots used order s number a e = omega (arith, distinct_length M L (s ∷ l.list) (more absent l.distinct) reached, l.size)
  where
    M : Machine
    M = machine_of g

    L : Lawful (machine_of g)
    L = lawful g accepted.taken

    l : Listed g slots used
    l = listed g L slots used order

    absent : T (not (holds (machine_of g) l.list s))
    absent = refuted (holds (machine_of g) l.list s) (λ t. let h = l.held s t in a.absent h.0 h.1)

    reached : (r : State) → T (same s r || holds (machine_of g) l.list r) → Reachable (machine_of g) r
    reached r t =
        ⊎_elim (λ (k : T (same s r)). subst (Reachable (machine_of g)) (L.same-eq s r k) a.ready.reachable)
        (λ (k : T (holds (machine_of g) l.list r)). let h = l.held r k in a.ready.store.good.reach r h.0 h.1)
        (or_cases (same s r) (holds (machine_of g) l.list r) t)

module _ (g : Graph) (slots after : List ℕ) (s : State) (number : ℕ) (a : Storable g slots s number)
    (added : Added slots after s number) where
  -- a held state and its number are old, or are those stored
  old_or-new : (P : State → ℕ → Type 0) → ((r : State) (n : ℕ) → Holds slots r n → P r n) → P s number → (r : State) (n : ℕ) → Holds after r n → P r n
  old_or-new P old new r n h =
      ⊎_elim (old r n) (λ (e : (r ≡ s) × (n ≡ number)). subst₂ P (sym e.0) (sym e.1) new) (added.only r n h)

  still : {r : State} → Held slots r → Held after r
  still {r} h = (h.0, added.kept r h.0 h.1)

  store-good : Good (machine_of g) (Holds after)
  store-good =
      record {
        right = old_or-new (Right (machine_of g)) a.ready.store.good.right a.right;
        reach = old_or-new (λ r n. Reachable (machine_of g) r) a.ready.store.good.reach a.ready.reachable;
        closed = old_or-new
            (λ r n. T (not (complete g r)) → (x : ℕ) → T (legal g r x)
            → (w : ℕ) → w < 2 ^ control_count g → Held after (next g r x w))
            (λ r n h c x t w k. still (a.ready.store.good.closed r n h c x t w k))
            (λ c x t w k. still (a.closed c x t w k));
      }

  store_settles : Settles g slots after s number
  store_settles =
      record {
        grown = record {
          store = record { good = store-good };
          same_length = added.same_length;
          kept = added.kept;
          fresh = λ r n h.
              ⊎_elim (λ (k : Holds slots r n). inl k)
              (λ (k : (r ≡ s) × (n ≡ number)). inr (subst (λ (q : State). undone g q < suc (undone g s)) (sym k.0) (le_refl (suc (undone g s)))))
              (added.only r n h);
        };
        held = added.new;
      }

-- what storing gives, as what settling gives
pub stored_settled : (g : Graph) → Accepted g → (slots after : List ℕ) (used : ℕ) → InOrder slots used → (s : State) (number : ℕ) → Storable g slots s number
    → (r : Option ℕ) → StoredAs slots after used s number r → SettledTo g slots after s r
stored_settled g accepted slots after used order s number a None q = store_full g accepted slots used order s number a q
stored_settled g accepted slots after used order s number a (Some n) q =
    subst (Settles g slots after s) (sym q.1) (store_settles g slots after s number a q.0)

-- what grew, and grew again by states of rank below a bound that is no higher
pub grown_again : (g : Graph) (a b c : List ℕ) (bound next : ℕ) → Grown g a b bound → Grown g b c next → next ≤ bound → Grown g a c bound
grown_again g a b c bound next p q h =
    record {
      store = q.store;
      same_length = q.same_length ∙ p.same_length;
      kept = λ s n k. q.kept s n (p.kept s n k);
      fresh = λ s n k.
          ⊎_elim (λ (l : Holds b s n). p.fresh s n l) (λ (l : undone g s < next). inr (omega arith)) (q.fresh s n k);
    }

pub grown_none : (g : Graph) (slots : List ℕ) (bound : ℕ) → Store g slots → Grown g slots slots bound
grown_none g slots bound s = record { store = s; same_length = refl; kept = λ r n h. h; fresh = λ r n h. inl h }

-- the values of a reachable state fit four bits
pub reachable-values : (g : Graph) → Accepted g → (s : State) → Reachable (machine_of g) s → s.values < 16
reachable-values g a s begin = omega arith
reachable-values g a s (step {s = r} q c x t w h) =
    lt_of_lt_of_le ((lawful g a.taken).word_next r x w) (pow_mono (few-controls a.within))

-- a state that is held already
pub found_settles : (g : Graph) (slots : List ℕ) (s : State) (number : ℕ) → Store g slots → Holds slots s number
    → Settles g slots slots s number
found_settles g slots s number store h = record { grown = grown_none g slots (suc (undone g s)) store; held = h }

-- a complete state has the number 0
pub complete_storable : (g : Graph) (slots : List ℕ) (s : State) → Ready g slots s → Finds slots s None
    → T (complete g s) → Storable g slots s 0
complete_storable g slots s r n c =
    record {
      ready = r;
      absent = n;
      right = complete-right (machine_of g) s c;
      closed = λ u. absurd (contrary (complete g s) c u);
    }

-- what settling a state gives, from where its search began
pub settled-after : (g : Graph) (before slots after : List ℕ) (s : State) (r : Option ℕ) → Grown g before slots (undone g s)
    → SettledTo g slots after s r → SettledTo g before after s r
settled-after g before slots after s None p q = subst (λ (k : ℕ). k < state_count (machine_of g)) p.same_length q
settled-after g before slots after s (Some number) p q =
    record {
      grown = record {
        store = q.grown.store;
        same_length = q.grown.same_length ∙ p.same_length;
        kept = λ r n h. q.grown.kept r n (p.kept r n h);
        fresh = λ r n h.
            ⊎_elim (λ (k : Holds slots r n). ⊎_elim (λ (l : Holds before r n). inl l) (λ (l : undone g r < undone g s). inr (omega arith)) (p.fresh r n k))
            (λ (k : undone g r < suc (undone g s)). inr k) (q.grown.fresh r n h);
      };
      held = q.held;
    }

-- slots that are all 0 are ready for the start
pub start-ready : (g : Graph) (n : ℕ) → Ready g (replicate n 0) (machine_of g).start
start-ready g n =
    record {
      store = record {
        good = record {
          right = λ s v h. absurd (cleared-holds n s v h);
          reach = λ s v h. absurd (cleared-holds n s v h);
          closed = λ s v h. absurd (cleared-holds n s v h);
        };
      };
      reachable = begin;
    }

-- where the start is held, every reachable state is, each in a slot of its own
pub all-met : (g : Graph) (slots : List ℕ) (used number : ℕ) → InOrder slots used → Accepted g → Store g slots
    → Holds slots (machine_of g).start number → used ≡ state_count (machine_of g)
all-met g slots used number order a store h =
    sym l.size
    ∙ distinct_all (machine_of g) L l.list l.distinct (λ s t. let k = l.held s t in store.good.reach s k.0 k.1)
    (λ s q. let k = good-all (machine_of g) (Holds slots) store.good number h s q in l.all s k.0 k.1)
  where
    L : Lawful (machine_of g)
    L = lawful g a.taken

    l : Listed g slots used
    l = listed g L slots used order

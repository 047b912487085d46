-- Sound tables clock by clock, without words fixed in advance: the same tables are sound. Assumes nothing.
use Prim.Native.Nat.{ℕ, zero, suc, ◌≤◌, ◌<◌}
use mathlib.Core.Path.{◌≡◌, sym, ◌∙◌, ap, subst}
use mathlib.Core.Logic.{◌↔◌}
use mathlib.Core.Bool.{false, ◌||◌}
use lib.Dec.{T}
use Rattle.machine.specs.Machine.{Machine, run, Met}
use Rattle.machine.specs.Tables.{Table, prescribed, Sound}
use Rattle.machine.proofs.Lawful.{Lawful}
use Rattle.machine.proofs.Runs.{met-run, run-met}

module _ (M : Machine) (table : Table M) where
  -- s can be met after t cycles of the steps that the table prescribes, where each test falls either way when it is begun
  abbrev pub MetAfter : ℕ → M.State → Type 0
  MetAfter = Met M (prescribed M table)

  -- Demand 3, by the states met clock by clock: what an accepted table is. A clock of `Met` takes a word for its next state,
  -- which only says how the tests begun in that step fall; the next clock takes any word again.
  pub record SoundByClock : Type 0 where
    -- in every state met that is not complete the step prescribed for the next cycle is legal
    pub legal : (t : ℕ) (s : M.State) → MetAfter t s → T (M.complete s || M.legal s (prescribed M table (suc t) s))
    -- every run ends complete: after some number of cycles every state met is
    pub ends : (t : ℕ) × ((s : M.State) → MetAfter t s → T (M.complete s))
    -- every row is that of an unfinished state met just before its cycle
    pub met : (p : ℕ) → zero < p → p ≤ table.rows
        → (t : ℕ) × ((table.row p).cycle ≡ suc t) × MetAfter t (table.row p).state × (M.complete (table.row p).state ≡ false)
    -- every unfinished state met has a row in the next cycle
    pub listed : (t : ℕ) (s : M.State) → MetAfter t s → M.complete s ≡ false
        → (p : ℕ) × (zero < p) × (p ≤ table.rows) × ((table.row p).cycle ≡ suc t) × ((table.row p).state ≡ s)
    -- the cycle number is the longest run's: by then every state met is complete, and in every cycle before some is not
    pub enough : (s : M.State) → MetAfter table.cycles s → T (M.complete s)
    pub needed : (t : ℕ) → t < table.cycles → (s : M.State) × MetAfter t s × (M.complete s ≡ false)

module _ (M : Machine) (L : Lawful M) (table : Table M) where
  -- A table is sound by words fixed in advance exactly when it is sound clock by clock.
  pub sound_by_clock : Sound M table ↔ SoundByClock M table
  sound_by_clock = (to, from)
    where
      f : ℕ → M.State → ℕ
      f = prescribed M table

      to : Sound M table → SoundByClock M table
      to sound = record {
        legal = λ t s m. let q = met-run M L f m in
            subst (λ (r : M.State). T (M.complete r || M.legal r (f (suc t) r))) q.2 (sound.legal q.0 q.1 t);
        ends = (table.cycles, complete);
        met = λ p h k. let q = sound.met p h k in
            (q.0, q.3, subst (MetAfter M table q.0) (sym q.4) (run-met M L f q.0 q.1 q.2), q.5);
        listed = λ t s m c. let q = met-run M L f m in
            let r = sound.listed q.0 q.1 t (ap M.complete q.2 ∙ c) in
            (r.0, r.1, r.2, r.3, r.4 ∙ q.2);
        enough = complete;
        needed = λ t h. let q = sound.needed t h in (run M f t q.0, run-met M L f t q.0 q.1, q.2);
      }
        where
          complete : (s : M.State) → MetAfter M table table.cycles s → T (M.complete s)
          complete s m =
              let q = met-run M L f m in
              subst (λ (r : M.State). T (M.complete r)) q.2 (sound.enough q.0 q.1)

      from : SoundByClock M table → Sound M table
      from clock = record {
        legal = λ w h t. clock.legal t (run M f t w) (run-met M L f t w h);
        ends = λ w h. let t = clock.ends.0 in (t, clock.ends.1 (run M f t w) (run-met M L f t w h));
        met = λ p h k. let q = clock.met p h k in
            let r = met-run M L f q.2 in
            (q.0, r.0, r.1, q.1, sym r.2, q.3);
        listed = λ w h t c. clock.listed t (run M f t w) (run-met M L f t w h) c;
        enough = λ w h. clock.enough (run M f table.cycles w) (run-met M L f table.cycles w h);
        needed = λ t h. let q = clock.needed t h in
            let r = met-run M L f q.1 in
            (r.0, r.1, ap M.complete r.2 ∙ q.2);
      }

-- Laws of the work slots: what a slot says, and what slots in order hold. Assumes nothing.
use Prim.Native.Nat.{ℕ, zero, suc, ◌+◌, ◌-◌, ◌*◌, ◌^◌, ◌/◌, ◌%◌, ◌≤◌, ◌<◌, zero-le, suc-le-suc}
use native.Mathlib.Nat.{add_comm, eq-or-lt_of_le, mod-eq_of_lt, not-suc-le-zero, le_refl, lt_irrefl, le_of_suc-le-suc}
use native.Mathlib.Omega.{arith}
use mathlib.Core.Path.{◌≡◌, refl, sym, ◌∙◌, ap, subst}
use mathlib.Core.Logic.{◌⊎◌, inl, inr, ⊎_elim, ◌≢◌}
use mathlib.Core.Bool.{Bool, true, false, cond, not}
use mathlib.Core.List.{List, [], ◌∷◌, ◌++◌, Memᴰ}
use Rattle.std.specs.Prelude.{Some, None}
use lib.ListN.{length, take, get_or, set, replicate, length-set, get_or-append}
use lib.Seq.{get_or-set_same, get_or-set_other, length-take-le}
use Rattle.std.proofs.lemmas.List.{length_push, get_or_push, get_or-take}
use lib.Dec.{T, le→leb}
use lib.Bits.{bit_and, bit_or, and_mask, or_shifted_r}
use Rattle.machine.specs.Machine.{holds}
use Rattle.machine.proofs.Truth.{contrary, refuted, true_of, false_of, of_true}
use Rattle.machine.proofs.Sets.{le-or-lt, trichotomy}
use Rattle.machine.proofs.Lawful.{Lawful}
use Rattle.machine.proofs.Reach.{Distinct, none, more, holds-mem, mem-holds}
use Rattle.meaning.specs.Graph.{Graph}
use Rattle.meaning.specs.Steps.{State, machine_of}
use Rattle.scheduler.specs.Slots.{values_bit, number_bit, mark_bit, key_of, slot_of, in_use, state_in, number_in, Holds, InOrder, Finds, Reads, Added}

-- a state fits a slot
pub record Fits (s : State) : Type 0 where
  pub done : s.done < 2 ^ values_bit
  pub values : s.values < 2 ^ 4

-- a field is put above all that stands below its first bit
put_above : (low field k : ℕ) → low < 2 ^ k → field * 2 ^ k < 2 ^ 64 → bit_or low (field * 2 ^ k % 2 ^ 64) ≡ low + field * 2 ^ k
put_above low field k h l = ap (bit_or low) (mod-eq_of_lt l) ∙ or_shifted_r field k low h ∙ add_comm (field * 2 ^ k) low

-- the key and the slot, as shifts make them
pub key_packed : (s : State) → Fits s → bit_or s.done (s.values * 2 ^ values_bit % 2 ^ 64) ≡ key_of s
unfolding key_of
key_packed s f = put_above s.done s.values values_bit f.done (omega (arith, f.values))

pub slot_packed : (s : State) (key number : ℕ) → Fits s → number < 2 ^ 6 → key ≡ key_of s
    → bit_or (bit_or key (number * 2 ^ number_bit % 2 ^ 64)) (2 ^ mark_bit) ≡ slot_of s number
unfolding slot_of key_of
slot_packed s key number f h e =
    let key-small : key < 2 ^ number_bit = omega (arith, f.done, f.values) in
    ap (λ (x : ℕ). bit_or x (2 ^ mark_bit)) (put_above key number number_bit key-small (omega arith))
    ∙ put_above (key + number * 2 ^ number_bit) 1 mark_bit (omega arith) (omega arith)
    ∙ omega arith

state_ext : (r s : State) → r.done ≡ s.done → r.values ≡ s.values → r ≡ s
state_ext r s d v = λ i. record { done = d i; values = v i }

slot_used : (s : State) (number : ℕ) → T (in_use (slot_of s number))
unfolding in_use slot_of
slot_used s number = le→leb (2 ^ mark_bit) (key_of s + number * 2 ^ number_bit + 2 ^ mark_bit) (omega arith)

slot_state : (s : State) (number : ℕ) → Fits s → number < 2 ^ 6 → state_in (slot_of s number) ≡ s
unfolding state_in slot_of key_of
slot_state s number f h = state_ext (state_in (slot_of s number)) s (omega (arith, f.done, f.values)) (omega (arith, f.done, f.values))

slot_number : (s : State) (number : ℕ) → Fits s → number < 2 ^ 6 → number_in (slot_of s number) ≡ number
unfolding number_in slot_of key_of
slot_number s number f h = omega (arith, f.done, f.values)

-- the key of a slot, all bits below the number, says which state it holds
abbrev pub key_in : ℕ → ℕ
key_in slot = bit_and slot (2 ^ number_bit - 1)

-- The bits of a key: the state that they say fits a slot, and they are its key.
module _ (bits : ℕ) (small : bits < 2 ^ 44) where
  pub bits_fit : Fits (state_in bits)
  unfolding state_in
  bits_fit = record { done = omega arith; values = omega (arith, small) }

  bits-key : bits ≡ key_of (state_in bits)
  unfolding state_in key_of
  bits-key = omega (arith, small)

  pub slot_made : (number : ℕ) → number < 2 ^ 6
      → bit_or (bit_or bits (number * 2 ^ number_bit % 2 ^ 64)) (2 ^ mark_bit) ≡ slot_of (state_in bits) number
  slot_made number h = slot_packed (state_in bits) bits number bits_fit h bits-key

  -- what a slot holds with the state, by its key
  pub read_here : (slot : ℕ) → key_in slot ≡ bits → Reads slot (state_in bits) (Some (bit_and (slot / 2 ^ number_bit) (2 ^ 6 - 1)))
  unfolding state_in number_in key_of
  read_here slot e =
      let low : slot % 2 ^ number_bit ≡ bits = sym (and_mask slot number_bit) ∙ e in
      (state_ext (state_in slot) (state_in bits) (omega (arith, low)) (omega (arith, low)), sym (and_mask (slot / 2 ^ number_bit) 6))

  pub read_nothing : (slot : ℕ) → (key_in slot ≡ bits → ⊥) → Reads slot (state_in bits) None
  unfolding state_in
  read_nothing slot n e =
      n (and_mask slot number_bit ∙ omega (arith, small, ap (λ (r : State). r.done) e, ap (λ (r : State). r.values) e))

-- the key of a state, as shifts make it
pub key_made : (s : State) → Fits s → state_in (bit_or s.done (s.values * 2 ^ values_bit % 2 ^ 64)) ≡ s
unfolding state_in key_of
key_made s f =
    ap state_in (key_packed s f)
    ∙ state_ext (state_in (key_of s)) s (omega (arith, f.done, f.values)) (omega (arith, f.done, f.values))

pub key-small : (s : State) → Fits s → bit_or s.done (s.values * 2 ^ values_bit % 2 ^ 64) < 2 ^ 44
unfolding key_of
key-small s f = omega (arith, key_packed s f, f.done, f.values)

-- The slots that are left to read, in a walk over those in use, are the first; those that are read do not hold the state.
pub record Left (slots : List ℕ) (used : ℕ) (s : State) (rest : List ℕ) : Type 0 where
  pub within : length rest ≤ used
  pub first : (i : ℕ) → i < length rest → get_or rest i 0 ≡ get_or slots i 0
  pub passed : (i : ℕ) → length rest ≤ i → i < used → Reads (get_or slots i 0) s None

module _ (slots : List ℕ) (used : ℕ) (s : State) where
  pub left_all : used ≤ length slots → Left slots used s (take used slots)
  left_all h =
      let all : length (take used slots) ≡ used = length-take-le used slots h in
      record {
        within = omega (arith, all);
        first = λ i k. get_or-take used slots i 0 (omega (arith, all));
        passed = λ i k l. absurd (lt_irrefl i (omega (arith, all)));
      }

  module _ (rest next : List ℕ) (slot : ℕ) (e : rest ≡ next ++ (slot ∷ [])) (l : Left slots used s rest) where
    one_less : length rest ≡ length next + 1
    one_less = ap length e ∙ length_push next slot

    left-last : (length next < used) × (slot ≡ get_or slots (length next) 0)
    left-last = (
      omega (arith, one_less, l.within),
      sym (get_or_push next slot 0 (length next) refl) ∙ ap (λ (r : List ℕ). get_or r (length next) 0) (sym e)
          ∙ l.first (length next) (omega (arith, one_less)),
    )

    pub left-next : Reads slot s None → Left slots used s next
    left-next n =
        record {
          within = omega (arith, left-last.0);
          first = λ i k. sym (get_or-append next (slot ∷ []) 0 i k) ∙ ap (λ (r : List ℕ). get_or r i 0) (sym e) ∙ l.first i (omega (arith, one_less));
          passed = λ i k h.
              ⊎_elim (λ (j : length next ≡ i). subst (λ (m : ℕ). Reads (get_or slots m 0) s None) j (subst (λ (x : ℕ). Reads x s None) left-last.1 n))
              (λ (j : length next < i). l.passed i (omega (arith, one_less)) h) (eq-or-lt_of_le k);
        }

-- What a walk over the slots in use finds.
module _ (slots : List ℕ) (used : ℕ) (order : InOrder slots used) (s : State) (fits : Fits s) where
  pub found_here : (i number : ℕ) → i < used → Reads (get_or slots i 0) s (Some number) → Holds slots s number
  found_here i number h r =
      record { place = i; within = omega (arith, order.within); used = order.front i h; state = r.0; numbered = r.1 }

  pub found_nowhere : ((i : ℕ) → i < used → Reads (get_or slots i 0) s None) → Finds slots s None
  found_nowhere nowhere number h =
      ⊎_elim (λ (l : used ≤ h.place). contrary (in_use (get_or slots h.place 0)) h.used (order.rest h.place l))
      (λ (l : h.place < used). nowhere h.place l h.state) (le-or-lt used h.place)

  -- none of them is left to read
  pub found_none : (rest : List ℕ) → length rest ≡ 0 → Left slots used s rest → Finds slots s None
  found_none rest e l = found_nowhere (λ i h. l.passed i (omega (arith, e)) h)

  -- the last of those left holds the state
  pub found_last : (rest next : List ℕ) (slot number : ℕ) → rest ≡ next ++ (slot ∷ []) → Left slots used s rest
      → Reads slot s (Some number) → Holds slots s number
  found_last rest next slot number e l r =
      let n = left-last slots used s rest next slot e l in
      found_here (length next) number n.0 (subst (λ (x : ℕ). Reads x s (Some number)) n.1 r)

  -- one more slot in use
  module _ (number : ℕ) (small : number < 2 ^ 6) (room : used < length slots) (absent : Finds slots s None) where
    abbrev after : List ℕ
    after = set slots used (slot_of s number)

    here : get_or after used 0 ≡ slot_of s number
    here = get_or-set_same slots used (slot_of s number) 0 room

    elsewhere : (i : ℕ) → i ≢ used → get_or after i 0 ≡ get_or slots i 0
    elsewhere i n = get_or-set_other slots used i (slot_of s number) 0 n

    -- what holds of the new slot, and of the others as they were, holds of the slots as they are
    each : (P : ℕ → ℕ → Type 0) → P used (slot_of s number) → ((i : ℕ) → i ≢ used → P i (get_or slots i 0)) → (i : ℕ) → P i (get_or after i 0)
    each P p q i =
        ⊎_elim (λ (e : i ≡ used). subst (λ (k : ℕ). P k (get_or after k 0)) (sym e) (subst (P used) (sym here) p))
        (λ (l : (i < used) ⊎ (used < i)). let n : i ≢ used = λ e. ⊎_elim (λ (h : i < used). omega arith) (λ (h : used < i). omega arith) l in
        subst (P i) (sym (elsewhere i n)) (q i n)) (trichotomy i used)

    not_here : (i : ℕ) → i < used → state_in (get_or slots i 0) ≡ s → ⊥
    not_here i h e = absent (number_in (get_or slots i 0)) (record { place = i; within = omega arith; used = order.front i h; state = e; numbered = refl })

    -- the state in each slot after: the new one, or that of before
    once_after : (i j : ℕ) → i < used + 1 → j < used + 1 → state_in (get_or after i 0) ≡ state_in (get_or after j 0) → i ≡ j
    once_after i j h k =
        each (λ a x. a < used + 1 → state_in x ≡ state_in (get_or after j 0) → a ≡ j)
        (λ l e. each (λ b y. b < used + 1 → state_in (slot_of s number) ≡ state_in y → used ≡ b) (λ m d. refl)
        (λ b n m d. absurd (not_here b (omega arith) (sym d ∙ slot_state s number fits small))) j k e)
        (λ a n l e. each (λ b y. b < used + 1 → state_in (get_or slots a 0) ≡ state_in y → a ≡ b)
        (λ m d. absurd (not_here a (omega arith) (d ∙ slot_state s number fits small)))
        (λ b o m d. order.once a b (omega arith) (omega arith) d) j k e) i h

    pub inserted-order : InOrder after (used + 1)
    inserted-order =
        record {
          within = omega (arith, length-set slots used (slot_of s number));
          front = each (λ i x. i < used + 1 → T (in_use x)) (λ h. slot_used s number) (λ i n h. order.front i (omega arith));
          rest = each (λ i x. used + 1 ≤ i → T (not (in_use x))) (λ h. absurd (lt_irrefl used (omega arith))) (λ i n h. order.rest i (omega arith));
          once = once_after;
        }

    pub inserted : Added slots after s number
    inserted =
        record {
          same_length = length-set slots used (slot_of s number);
          new = record {
            place = used;
            within = omega (arith, length-set slots used (slot_of s number));
            used = subst (λ (x : ℕ). T (in_use x)) (sym here) (slot_used s number);
            state = ap state_in here ∙ slot_state s number fits small;
            numbered = ap number_in here ∙ slot_number s number fits small;
          };
          kept = kept;
          only = only;
        }
      where
        kept : (r : State) (n : ℕ) → Holds slots r n → Holds after r n
        kept r n h =
            let other : h.place ≢ used = λ e.
            contrary (in_use (get_or slots used 0)) (subst (λ (k : ℕ). T (in_use (get_or slots k 0))) e h.used) (order.rest used (le_refl used)) in
            let same = elsewhere h.place other in
            record {
              place = h.place;
              within = omega (arith, h.within, length-set slots used (slot_of s number));
              used = subst (λ (x : ℕ). T (in_use x)) (sym same) h.used;
              state = ap state_in same ∙ h.state;
              numbered = ap number_in same ∙ h.numbered;
            }

        only : (r : State) (n : ℕ) → Holds after r n → Holds slots r n ⊎ ((r ≡ s) × (n ≡ number))
        only r n h =
            each (λ i x. i < length after → T (in_use x) → state_in x ≡ r → number_in x ≡ n → Holds slots r n ⊎ ((r ≡ s) × (n ≡ number)))
            (λ l u d e. inr (sym d ∙ slot_state s number fits small, sym e ∙ slot_number s number fits small))
            (λ i o l u d e. inl (record {
              place = i;
              within = omega (arith, l, length-set slots used (slot_of s number));
              used = u;
              state = d;
              numbered = e;
            })) h.place h.within h.used h.state h.numbered

-- Slots that are all 0 hold nothing.
zeros : (n i : ℕ) → get_or {A = ℕ} (replicate n 0) i 0 ≡ 0
zeros zero i = refl
zeros (suc n) zero = refl
zeros (suc n) (suc i) = zeros n i

zero_unused : (n i : ℕ) → T (not (in_use (get_or (replicate n 0) i 0)))
unfolding in_use
zero_unused n i = subst (λ (x : ℕ). T (not (in_use x))) (sym (zeros n i)) tt

pub cleared : (n : ℕ) → InOrder (replicate n 0) 0
cleared n =
    record {
      within = zero-le;
      front = λ i h. absurd (not-suc-le-zero h);
      rest = λ i h. zero_unused n i;
      once = λ i j h k e. absurd (not-suc-le-zero h);
    }

pub cleared-holds : (n : ℕ) (s : State) (number : ℕ) → Holds (replicate n 0) s number → ⊥
cleared-holds n s number h = contrary (in_use (get_or (replicate n 0) h.place 0)) h.used (zero_unused n h.place)

-- The states in use, whichever places they have.
states_in : List ℕ → List State
states_in [] = []
states_in (x ∷ xs) = cond (in_use x) (state_in x ∷ states_in xs) (states_in xs)

-- place i is in use for the state s
record At (slots : List ℕ) (s : State) (i : ℕ) : Type 0 where
  below : i < length slots
  used : T (in_use (get_or slots i 0))
  state : state_in (get_or slots i 0) ≡ s

later : {x : ℕ} {xs : List ℕ} {s : State} (i : ℕ) → At xs s i → At (x ∷ xs) s (suc i)
later i a = record { below = suc-le-suc a.below; used = a.used; state = a.state }

mem-at : (slots : List ℕ) (s : State) → Memᴰ s (states_in slots) → (i : ℕ) × At slots s i
unfolding states_in
mem-at [] s m = absurd (mathlib.Core.List.Memᴰ.not-nil m)
mem-at (x ∷ xs) s m = go (in_use x) refl m (mem-at xs s)
  where
    go : (b : Bool) → in_use x ≡ b → Memᴰ s (cond b (state_in x ∷ states_in xs) (states_in xs))
        → (Memᴰ s (states_in xs) → (i : ℕ) × At xs s i) → (i : ℕ) × At (x ∷ xs) s i
    go true e n ih =
        ⊎_elim (λ (k : s ≡ state_in x). (0, record { below = omega arith; used = of_true e; state = sym k }))
        (λ (k : Memᴰ s (states_in xs)). let r = ih k in (suc r.0, later r.0 r.1)) (mathlib.Core.List.Memᴰ.cases_cons n)
    go false e n ih = let r = ih n in (suc r.0, later r.0 r.1)

at_mem : (slots : List ℕ) (s : State) (i : ℕ) → At slots s i → Memᴰ s (states_in slots)
unfolding states_in
at_mem [] s i a = absurd (not-suc-le-zero a.below)
at_mem (x ∷ xs) s zero a = rw (true_of (in_use x) a.used) (mathlib.Core.List.Memᴰ.head (sym a.state))
at_mem (x ∷ xs) s (suc i) a =
    go (in_use x) (at_mem xs s i (record { below = le_of_suc-le-suc a.below; used = a.used; state = a.state }))
  where
    go : (b : Bool) → Memᴰ s (states_in xs) → Memᴰ s (cond b (state_in x ∷ states_in xs) (states_in xs))
    go true m = mathlib.Core.List.Memᴰ.tail m
    go false m = m

states-length : (slots : List ℕ) (used : ℕ) → used ≤ length slots → ((i : ℕ) → i < used → T (in_use (get_or slots i 0)))
    → ((i : ℕ) → used ≤ i → T (not (in_use (get_or slots i 0)))) → length (states_in slots) ≡ used
unfolding states_in
states-length [] used h front rest = omega arith
states-length (x ∷ xs) zero h front rest =
    rw (false_of (in_use x) (rest 0 zero-le))
    (states-length xs zero zero-le (λ i k. absurd (not-suc-le-zero k)) (λ i k. rest (suc i) zero-le))
states-length (x ∷ xs) (suc used) h front rest =
    rw (true_of (in_use x) (front 0 (suc-le-suc zero-le)))
    (ap suc (states-length xs used (le_of_suc-le-suc h) (λ i k. front (suc i) (suc-le-suc k)) (λ i k. rest (suc i) (suc-le-suc k))))

-- What slots in order hold can be listed: as many states as slots are in use, each once.
pub record Listed (g : Graph) (slots : List ℕ) (used : ℕ) : Type 0 where
  pub list : List State
  pub size : length list ≡ used
  pub distinct : Distinct (machine_of g) list
  pub held : (s : State) → T (holds (machine_of g) list s) → (number : ℕ) × Holds slots s number
  pub all : (s : State) (number : ℕ) → Holds slots s number → T (holds (machine_of g) list s)

module _ (g : Graph) (L : Lawful (machine_of g)) where
  states_distinct : (slots : List ℕ) → ((s : State) (i j : ℕ) → At slots s i → At slots s j → i ≡ j)
      → Distinct (machine_of g) (states_in slots)
  unfolding states_in
  states_distinct [] once = none
  states_distinct (x ∷ xs) once = go (in_use x) refl (states_distinct xs (λ s i j a b. omega (arith, once s (suc i) (suc j) (later i a) (later j b))))
    where
      go : (b : Bool) → in_use x ≡ b → Distinct (machine_of g) (states_in xs)
          → Distinct (machine_of g) (cond b (state_in x ∷ states_in xs) (states_in xs))
      go true e d =
          more (refuted (holds (machine_of g) (states_in xs) (state_in x)) (λ t.
          let r = mem-at xs (state_in x) (holds-mem (machine_of g) L (states_in xs) (state_in x) t) in
          omega (arith, once (state_in x) 0 (suc r.0) (record { below = omega arith; used = of_true e; state = refl }) (later r.0 r.1)))) d
      go false e d = d

  pub listed : (slots : List ℕ) (used : ℕ) → InOrder slots used → Listed g slots used
  listed slots used order = record {
    list = states_in slots;
    size = states-length slots used order.within order.front order.rest;
    distinct = states_distinct slots (λ s i j a b. order.once i j (front i a) (front j b) (a.state ∙ sym b.state));
    held = λ s t.
        let r = mem-at slots s (holds-mem (machine_of g) L (states_in slots) s t) in
        (number_in (get_or slots r.0 0), record { place = r.0; within = r.1.below; used = r.1.used; state = r.1.state; numbered = refl });
    all = λ s number h.
        mem-holds (machine_of g) L (at_mem slots s h.place (record { below = h.within; used = h.used; state = h.state }));
  }
    where
      front : {s : State} (i : ℕ) → At slots s i → i < used
      front i a =
          ⊎_elim (λ (h : used ≤ i). absurd (contrary (in_use (get_or slots i 0)) a.used (order.rest i h))) (λ (h : i < used). h)
          (le-or-lt used i)

-- The cells that two rings stand for: a cell more, and the first one gone.
use Rattle.std.proofs.Common.{◌≡◌, ◌∙◌, ℕ, ◌-◌, ◌<◌, List, [], ◌∷◌, ◌++◌, Some}
use Rattle.std.proofs.Common.{None, length, drop, slice_get, slice_index, refl, ap, arith, length-append, length-drop}
use Rattle.std.proofs.lemmas.List.{length_push}
use Rattle.std.proofs.lemmas.Option.{same_Some}
use Rattle.circular_buffer.specs.Buffer.{Buffer, buffer, keep_last}
use Rattle.arrival_queues.specs.declared.queueing.Queueing.{Queueing}
use Rattle.arrival_queues.specs.declared.queueing.Queueing.TheVariants.{ByPair, ByInput, ByOutput}
use Rattle.arrival_queues.specs.FieldSteps.{cell_told, cells_told, AreBeside, AreRings, places_of_ports}

-- what is pushed into a ring that has room stands at its end
keeps_all : (n : ℕ) (xs : List ℕ) (x : ℕ) → length xs < n → keep_last n (xs ++ x ∷ []) ≡ xs ++ x ∷ []
keeps_all n xs x room = let none : length (xs ++ x ∷ []) - n ≡ 0 = omega (arith, length-append xs (x ∷ [])) in rw none refl

-- before a cell came
pub AreBeside-empty : (queueing : Queueing) (depth : ℕ) → AreBeside queueing (buffer [] depth) (buffer [] (places_of_ports queueing depth))
AreBeside-empty ByPair depth = tt
AreBeside-empty ByInput depth = (refl, refl)
AreBeside-empty ByOutput depth = (refl, refl)

module _ (input output : ℕ) where
  -- ---- a cell more
  told-more : (queueing : Queueing) (slots ports : List ℕ) (slot port : ℕ) → length ports ≡ length slots
      → cells_told queueing input output (slots ++ slot ∷ []) (ports ++ port ∷ []) ≡ cells_told queueing input output slots ports
      ++ cell_told queueing input output slot port ∷ []
  told-more queueing [] [] slot port same = refl
  told-more queueing [] (p ∷ ports) slot port same = absurd (omega arith)
  told-more queueing (s ∷ slots) [] slot port same = absurd (omega arith)
  told-more queueing (s ∷ slots) (p ∷ ports) slot port same =
      ap (λ cells. cell_told queueing input output s p ∷ cells) (told-more queueing slots ports slot port (omega arith))

  -- where the queue tells both ports, it does not matter which are kept
  pair-more : (slots ports others : List ℕ) (slot port : ℕ) → cells_told ByPair input output (slots ++ slot ∷ []) others
      ≡ cells_told ByPair input output slots ports ++ cell_told ByPair input output slot port ∷ []
  pair-more [] ports others slot port = refl
  pair-more (s ∷ slots) ports others slot port =
      ap (λ cells. cell_told ByPair input output s 0 ∷ cells) (pair-more slots (drop 1 ports) (drop 1 others) slot port)

  beside-more : (queueing : Queueing) (slots ports : Buffer ℕ) (slot port : ℕ) → length ports.items ≡ length slots.items → ports.capacity ≡ slots.capacity
      → length slots.items < slots.capacity
      → cells_told queueing input output (slots.items ++ slot ∷ []) (keep_last ports.capacity (ports.items ++ port ∷ []))
      ≡ cells_told queueing input output slots.items ports.items ++ cell_told queueing input output slot port ∷ []
  beside-more queueing slots ports slot port long deep room =
      ap (cells_told queueing input output (slots.items ++ slot ∷ [])) (keeps_all ports.capacity ports.items port (omega arith))
      ∙ told-more queueing slots.items ports.items slot port long

  pub told-entered : (queueing : Queueing) (slots ports : Buffer ℕ) (slot port : ℕ) → AreBeside queueing slots ports → length slots.items < slots.capacity
      → cells_told queueing input output (slots.items ++ slot ∷ []) (keep_last ports.capacity (ports.items ++ port ∷ []))
      ≡ cells_told queueing input output slots.items ports.items ++ cell_told queueing input output slot port ∷ []
  told-entered ByPair slots ports slot port beside room =
      pair-more slots.items ports.items (keep_last ports.capacity (ports.items ++ port ∷ [])) slot port
  told-entered ByInput slots ports slot port beside room = beside-more ByInput slots ports slot port beside.0 beside.1 room
  told-entered ByOutput slots ports slot port beside room = beside-more ByOutput slots ports slot port beside.0 beside.1 room

  -- ---- the first cell
  pub told-first : (queueing : Queueing) (slots ports : List ℕ) (slot : ℕ) → Some slot ≡ slice_get slots 0
      → Some (cell_told queueing input output slot (slice_index ports 0)) ≡ slice_get (cells_told queueing input output slots ports) 0
  told-first queueing [] ports slot is = absurd cc
  told-first queueing (s ∷ slots) ports slot is =
      ap (λ t. Some (cell_told queueing input output t (slice_index ports 0))) (same_Some slot s is)

  pub told-none : (queueing : Queueing) (slots ports : List ℕ) → None ≡ slice_get slots 0 → None ≡ slice_get (cells_told queueing input output slots ports) 0
  told-none queueing [] ports is = refl
  told-none queueing (s ∷ slots) ports is = absurd cc

  pub told-rest : (queueing : Queueing) (slots ports : List ℕ)
      → cells_told queueing input output (drop 1 slots) (drop 1 ports) ≡ drop 1 (cells_told queueing input output slots ports)
  told-rest queueing [] ports = refl
  told-rest queueing (s ∷ slots) ports = refl

  pub length-told : (queueing : Queueing) (slots ports : List ℕ) → length (cells_told queueing input output slots ports) ≡ length slots
  length-told queueing [] ports = refl
  length-told queueing (s ∷ slots) ports = let rest = length-told queueing slots (drop 1 ports) in omega arith

-- ---- the rings stay as long as each other
beside-entered : (slots ports : Buffer ℕ) (slot port : ℕ) → length ports.items ≡ length slots.items → ports.capacity ≡ slots.capacity
    → length slots.items < slots.capacity
    → (length (keep_last ports.capacity (ports.items ++ port ∷ [])) ≡ length (slots.items ++ slot ∷ []))
    × (ports.capacity ≡ slots.capacity)
beside-entered slots ports slot port long deep room = (
  ap length (keeps_all ports.capacity ports.items port (omega arith))
      ∙ omega (arith, length_push ports.items port, length_push slots.items slot),
  deep,
)

AreBeside-entered : (queueing : Queueing) (slots ports : Buffer ℕ) (slot port : ℕ) → AreBeside queueing slots ports → length slots.items < slots.capacity
    → AreBeside queueing (buffer (slots.items ++ slot ∷ []) slots.capacity)
    (buffer (keep_last ports.capacity (ports.items ++ port ∷ [])) ports.capacity)
AreBeside-entered ByPair slots ports slot port beside room = tt
AreBeside-entered ByInput slots ports slot port beside room = beside-entered slots ports slot port beside.0 beside.1 room
AreBeside-entered ByOutput slots ports slot port beside room = beside-entered slots ports slot port beside.0 beside.1 room

pub AreRings-entered : (queueing : Queueing) (slots ports : Buffer ℕ) (slot port : ℕ) → AreRings queueing slots ports → length slots.items < slots.capacity
    → AreRings queueing (buffer (slots.items ++ slot ∷ []) slots.capacity)
    (buffer (keep_last ports.capacity (ports.items ++ port ∷ [])) ports.capacity)
AreRings-entered queueing slots ports slot port rings room =
    record { room = rings.room; beside = AreBeside-entered queueing slots ports slot port rings.beside room }

AreBeside-left : (queueing : Queueing) (slots ports : Buffer ℕ) → AreBeside queueing slots ports
    → AreBeside queueing (buffer (drop 1 slots.items) slots.capacity) (buffer (drop 1 ports.items) ports.capacity)
AreBeside-left ByPair slots ports beside = tt
AreBeside-left ByInput slots ports beside = (omega (arith, beside.0, length-drop 1 slots.items, length-drop 1 ports.items), beside.1)
AreBeside-left ByOutput slots ports beside = (omega (arith, beside.0, length-drop 1 slots.items, length-drop 1 ports.items), beside.1)

pub AreRings-left : (queueing : Queueing) (slots ports : Buffer ℕ) → AreRings queueing slots ports
    → AreRings queueing (buffer (drop 1 slots.items) slots.capacity) (buffer (drop 1 ports.items) ports.capacity)
AreRings-left queueing slots ports rings = record { room = rings.room; beside = AreBeside-left queueing slots ports rings.beside }

-- A queue as numbers, by which proofs tell two apart.
use Rattle.std.specs.Prelude.{ℕ, Bool, List, refl}
use Rattle.std.specs.Coded.{Coded, code_by, coded×, coded_list, coded_bool, coded_ℕ}
use Rattle.voq_banks.specs.declared.ring.QueuedCell.{QueuedCell}
use Rattle.voq_banks.specs.CellQueues.{CellQueue}

module _ {F : Type 0} where
  -- a cell: its packet and number, whether it is the last, and what is kept of its packet
  abbrev pub cell_code : Coded F → Coded (QueuedCell F)
  cell_code code =
      code_by ((ℕ × ℕ) × (Bool × F)) (coded× (coded× coded_ℕ coded_ℕ) (coded× coded_bool code)) (λ c. ((c.name.packet, c.name.number), (c.name.last, c.fan)))
      (λ p. record { name = record { packet = p.0.0; number = p.0.1; last = p.1.0 }; fan = p.1.1 }) (λ _. refl)

  -- a queue: its depth and spare, and its cells
  abbrev pub queue_code : Coded F → Coded (CellQueue F)
  queue_code code =
      code_by ((ℕ × ℕ) × List (QueuedCell F)) (coded× (coded× coded_ℕ coded_ℕ) (coded_list (cell_code code))) (λ q. ((q.depth, q.spare), q.cells))
      (λ p. record { depth = p.0.0; cells = p.1; spare = p.0.1 }) (λ _. refl)

-- Three slots of two ports in which a request is served in the last one alone, with any number of rounds.
--
-- Output 0 and both inputs point at port 1. Input 0 takes output 1, and then points at output 0. Input 1 takes
-- output 0, while input 0 takes output 1 again. At last input 0 is served.
use Rattle.std.proofs.Common.{ℕ, ◌+◌, ◌<◌, List, [], ◌∷◌, refl, inl, inr, arith}
use Rattle.pointer_state.specs.Places.{Places}
use Rattle.service_bound.proofs.Postings.{Posting}
use Rattle.service_bound.proofs.PostedRuns.{IsLate, IsLate-last}
use Rattle.service_bound.proofs.Descents.{lowers, passes, downs, late_downs, late_passes, served_last_slot, IsBeginning}

-- the three slots
abbrev pub family : List Posting
family = downs 0 1 1 (passes 1 ∷ lowers 0 0 ∷ [])

module _ (rounds : ℕ) (some : 0 < rounds) where
  pub late_family : (t : ℕ) (places : Places) → IsBeginning 2 places → IsLate 2 rounds t places family
  late_family t places begins =
      late_downs 2 rounds some 1 1 2 0 1 (passes 1 ∷ lowers 0 0 ∷ []) (omega arith) (inl (omega arith)) (inl refl) (inl refl) (inr (inl (refl, inl refl)))
      (λ t places next. late_passes 2 rounds some (lowers 0 0 ∷ []) 1 2 2 1 1 t places (omega arith) (omega arith) (omega arith)
      (record { switch = next.switch; grant = next.grant; accept = next.fresh 1 (omega arith) (omega arith); fresh = λ i low high. absurd (omega arith) })
      (omega arith)
      (λ places last. IsLate-last 2 rounds (t + 1) places (lowers 0 0) (served_last_slot 2 rounds some (t + 1) places (omega arith) last.switch)))
      1 1 t places (omega arith) refl begins

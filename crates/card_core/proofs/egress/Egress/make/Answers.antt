use Rattle.std.proofs.Common.{◌≡◌, ◌*◌, ℕ, zero, suc, List, [], ◌∷◌, map, length, slice_index_or, sym, subst, arith, refl}
use Rattle.reassembly.specs.Flows.{fresh}
use Rattle.card_core.specs.CardSteps.{AreFull, IsRoom}
use Rattle.card_core.proofs.egress.Egress.make.Goals as goal

fresh_at : (sizes : List ℕ) (place : ℕ)
    → length (slice_index_or (map fresh sizes) place (fresh 0)).bytes ≡ 56 * (slice_index_or (map fresh sizes) place (fresh 0)).next
fresh_at [] place = refl
fresh_at (size ∷ sizes) zero = refl
fresh_at (size ∷ sizes) (suc place) = fresh_at sizes place

-- a list with exactly so much room, in which nothing stands
empty_room : (len room capacity : ℕ) → len ≡ 0 → capacity ≡ room → IsRoom len room capacity
empty_room len room capacity none exact = (omega arith, omega arith)

pub invariant_of-result : goal.invariant_of-result
invariant_of-result c = (
  empty_room _ _ _ c.in_ok-with_capacity.ensures.len c.in_ok-with_capacity.ensures.exact,
  (
    (empty_room _ _ _ c.in_ok-with_capacity-2.ensures.len c.in_ok-with_capacity-2.ensures.exact).0,
    c.in_ok-with_capacity-2.ensures.exact,
  ),
  λ place. subst AreFull (sym c.in_ok-make.ensures) (fresh_at c.args.sizes.now) place,
)

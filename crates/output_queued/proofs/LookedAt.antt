-- Packets of an input, as far as they were looked at.
use Rattle.std.proofs.Common.{◌≡◌, ◌∙◌, ℕ, ◌+◌, ◌<◌, ◌≤◌, List, map, length, Some, slice_get, slice_index_or, sym, ap, subst}
use Rattle.std.proofs.Common.{arith, inl, inr}
use Rattle.std.proofs.lemmas.Bool.{cases_eq}
use Rattle.std.proofs.lemmas.List.{get_or-map, length-map}
use Rattle.std.proofs.lemmas.Option.{get_or_from_slice_get}
use Rattle.card_core.specs.Plans.{AreRising}
use Rattle.card_core.proofs.Ascending.{RisesTo, rises_more, rises_not}
use Rattle.output_queued.specs.declared.coming.Coming.{Coming}
use Rattle.output_queued.specs.Switches.{planned_of, IsInput}
use Rattle.output_queued.proofs.Sources.{planned-at, at-planned}

abbrev pub no_coming : Coming
no_coming = record { slot = 0; cells = 0; fan = 0; level = 0 }

module _ {X : Type 0} where
  -- this holds of those before a place
  abbrev HoldsBefore : ℕ → (X → Type 0) → List X → Type 0
  HoldsBefore i P xs = (k : ℕ) (x : X) → k < i → slice_get xs k ≡ Some x → P x

  -- and of the one there
  pub each_more : (P : X → Type 0) (xs : List X) (i : ℕ) (d : X) → HoldsBefore i P xs → P (slice_index_or xs i d) → HoldsBefore (i + 1) P xs
  each_more P xs i d before here k x below is = elim (cases_eq k i) [
    | inl same ↦ subst P (get_or_from_slice_get xs i x d (ap (slice_get xs) (sym same) ∙ is)) here
    | inr other ↦ before k x (omega arith) is
  ]

pub rising_of : (coming : List Coming) → AreRising (map planned_of coming) → (k m : ℕ) (c d : Coming) → slice_get coming k ≡ Some c
    → slice_get coming m ≡ Some d → k < m → c.slot < d.slot
rising_of coming rising k m c d at there before = rising k m (planned_of c) (planned_of d) (at-planned coming k c at) (at-planned coming m d there) before

pub rising_to : (n : ℕ) (coming : List Coming) → IsInput n coming → AreRising (map planned_of coming)
rising_to n coming is k j p r a b before =
    let (c, at, same) = planned-at coming k p a in
    let (d, there, same') = planned-at coming j r b in
    let less = is.rising k j c d at there before in
    let first : c.slot ≡ p.arrival = ap (λ q. q.arrival) same in
    let second : d.slot ≡ r.arrival = ap (λ q. q.arrival) same' in
    omega arith

pub rises_on : (coming : List Coming) (i least : ℕ) (d : Coming) → RisesTo (map planned_of coming) i least → i < length coming
    → least ≤ (slice_index_or coming i d).slot → RisesTo (map planned_of coming) (i + 1) ((slice_index_or coming i d).slot + 1)
rises_on coming i least d so_far inside from =
    let same = ap (λ p. p.arrival) (get_or-map planned_of coming i d (planned_of d) inside) in
    subst (λ a. RisesTo (map planned_of coming) (i + 1) (a + 1)) same (rises_more (map planned_of coming) i least (planned_of d) so_far (omega arith))

pub rises_no_more : (n : ℕ) (coming : List Coming) (i least : ℕ) (d : Coming) → RisesTo (map planned_of coming) i least → i < length coming
    → (slice_index_or coming i d).slot < least → IsInput n coming → ⊥
rises_no_more n coming i least d so_far inside less is =
    let long = length-map coming planned_of in
    let same = ap (λ p. p.arrival) (get_or-map planned_of coming i d (planned_of d) inside) in
    rises_not (map planned_of coming) i least (planned_of d) so_far (omega arith) (omega arith) (rising_to n coming is)

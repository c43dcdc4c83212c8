-- Steps of a walk over the rows.
use Rattle.std.proofs.Common.{◌≡◌, ◌≢◌, ◌∙◌, ◌↔◌, ℕ, zero, suc, ◌+◌, ◌-◌, ◌<◌, ◌≤◌, ◌==◌, Bool, true, false, List, [], ◌∷◌, ◌++◌, length, map, drop}
use Rattle.std.proofs.Common.{if◌then◌else◌, Option, None, Some, option_map, refl, sym, ap, subst, arith, inl, inr, slice_get, slice_index_or}
use Rattle.std.specs.List.{flat_map, range_with_len}
use Rattle.std.proofs.lemmas.Bool.{cases_lt, eqb-true, ne_eqb}
use Rattle.std.proofs.lemmas.List.{drop_all, get_or_past}
use Rattle.std.proofs.lemmas.Option.{none-some, same_Some, slice_get-get_or}
use Rattle.std.proofs.Math.Seq.{drop-nil}
use Rattle.rotating_pick.specs.PortSets.{Has}
use Rattle.rotating_pick.specs.declared.limits.TheConstants.{MAX_PORTS}
use Rattle.rotating_pick.proofs.Bits.{no_member-zero}
use Rattle.card_core.specs.declared.plan.Planned.{Planned}
use Rattle.card_core.specs.Plans.{no_packet}
use Rattle.packet_times.specs.declared.walk.Outcome.{Outcome}
use Rattle.packet_times.specs.declared.walk.Walk.{Walk}
use Rattle.packet_times.specs.NotingSteps.{Input, Times, no_input}
use Rattle.packet_times.specs.Rows.{outputs_in, aside_row}
use Rattle.packet_times.specs.KeptSteps.{kept_state, kept_row, kept_rows, counts_after, begun, rows_from, rows_of, input_rows}
use Rattle.packet_times.specs.KeptSteps.{walk_at, kept_outcome, passed, rows_left}
use Rattle.packet_times.proofs.Rowing.{outputs-next, no-outputs}

-- what is left of a list from an element on
drop-at : {X : Type 0} (xs : List X) (k : ℕ) (x : X) → slice_get xs k ≡ Some x → drop k xs ≡ x ∷ drop (k + 1) xs
drop-at [] k x is = absurd (none-some x is)
drop-at (y ∷ xs) zero x is = ap (λ z. z ∷ xs) (same_Some y x is)
drop-at (y ∷ xs) (suc k) x is =
    let next : suc (k + 1) ≡ suc k + 1 = omega arith in
    drop-at xs k x is ∙ ap (λ n. x ∷ drop n (y ∷ xs)) next

past : (times : Times) (i : ℕ) → length times.inputs ≤ i → slice_index_or times.inputs i no_input ≡ no_input
past times i over = get_or_past times.inputs i no_input over

-- past the last input no rows are left
pub no-rows : (times : Times) (walk : Walk) → length times.inputs ≤ walk.input → rows_left times walk ≡ []
no-rows times walk over =
    let few : length times.inputs - (walk.input + 1) ≡ 0 = omega arith in
    ap (λ (own : Input). rows_from times own walk.input walk.number walk.counts walk.outputs (drop walk.number own.counters.packets)
    ++ flat_map (input_rows times) (range_with_len (walk.input + 1) (length times.inputs - (walk.input + 1)))) (past times walk.input over)
    ∙ ap (λ (ps : List Planned). rows_from times no_input walk.input walk.number walk.counts walk.outputs ps
    ++ flat_map (input_rows times) (range_with_len (walk.input + 1) (length times.inputs - (walk.input + 1)))) (drop-nil walk.number)
    ∙ ap (λ n. flat_map (input_rows times) (range_with_len (walk.input + 1) n)) few

module _ (times : Times) (walk : Walk) where
  abbrev own : Input
  own = slice_index_or times.inputs walk.input no_input

  -- the rows of later inputs
  abbrev later : List (List (List ℕ))
  later = flat_map (input_rows times) (range_with_len (walk.input + 1) (length times.inputs - (walk.input + 1)))

  -- a packet of which rows are left
  module _ (p : Planned) (at : slice_get own.counters.packets walk.number ≡ Some p) where
    abbrev admitted : Bool
    admitted = slice_index_or own.admitted walk.number false

    -- the rows of the packets after it
    abbrev after : List (List (List ℕ))
    after = rows_of times walk.input (walk.number + 1) (counts_after admitted p walk.counts) 0

    abbrev row : ℕ → List (List ℕ)
    row = kept_row times walk.counts walk.input walk.number p admitted

    abbrev own_rows : ℕ → List (List (List ℕ))
    own_rows = kept_rows times walk.counts walk.input walk.number p admitted

    here : (outputs : ℕ) → rows_of times walk.input walk.number walk.counts outputs ≡ own_rows (begun p outputs) ++ after
    here outputs = ap (rows_from times own walk.input walk.number walk.counts outputs) (drop-at own.counters.packets walk.number p at)

    -- its one row, where it goes nowhere
    aside-of : begun p walk.outputs ≡ 0
        → rows_left times walk ≡ aside_row walk.input walk.number p (kept_state p admitted) ∷ rows_left times (passed p admitted 0 walk)
    aside-of none = ap (λ rows. rows ++ later) (here walk.outputs ∙ ap (λ outputs. own_rows outputs ++ after) none)

    routed-rows : (outputs : ℕ) → (outputs == 0) ≡ false → own_rows outputs ≡ map row (outputs_in MAX_PORTS outputs)
    routed-rows outputs some = rw some refl

    -- the row to the least of the outputs that are left
    routed-of : (left rest x : ℕ) → left ≡ begun p walk.outputs → Has left x → ((y : ℕ) → Has left y → x ≤ y)
        → ((y : ℕ) → Has rest y ↔ ((y ≢ x) × Has left y)) → x < MAX_PORTS
        → rows_left times walk ≡ row x ∷ rows_left times (passed p admitted rest walk)
    routed-of left rest x is member least members inside =
        let some : left ≢ 0 = λ none. no_member-zero x (subst (λ s. Has s x) none member) in
        ap (λ rows. rows ++ later)
        (here walk.outputs
        ∙ ap (λ rows. rows ++ after)
        (ap own_rows (sym is)
        ∙ routed-rows left (ne_eqb left 0 some)
        ∙ ap (map row) (outputs-next left rest x member least members MAX_PORTS inside)))
        ∙ ap (λ rows. row x ∷ rows) (go (rest == 0) refl)
      where
        go : (b : Bool) → (rest == 0) ≡ b
            → (map row (outputs_in MAX_PORTS rest) ++ after) ++ later
            ≡ rows_left times (if b then record { input = walk.input; number = walk.number + 1; outputs = 0; counts = counts_after admitted p walk.counts }
            else record { input = walk.input; number = walk.number; outputs = rest; counts = walk.counts })
        go true is = ap (λ outputs. (map row outputs ++ after) ++ later) (no-outputs rest MAX_PORTS (eqb-true rest 0 is))
        go false is =
            let begins : begun p rest ≡ rest = rw is refl in
            sym (ap (λ rows. rows ++ later) (here rest ∙ ap (λ rows. rows ++ after) (ap own_rows begins ∙ routed-rows rest is)))

  -- the packet that the walk is at
  outcome-is : (P : Outcome → Type 0)
      → ((p : Planned) → slice_get own.counters.packets walk.number ≡ Some p
      → P (record { input = walk.input; number = walk.number; packet = p; admitted = slice_index_or own.admitted walk.number false }))
      → (o : Outcome) → kept_outcome times walk ≡ Some o → P o
  outcome-is P each o is = go (slice_get own.counters.packets walk.number) refl is where
    outcome_of : Planned → Outcome
    outcome_of p = record { input = walk.input; number = walk.number; packet = p; admitted = slice_index_or own.admitted walk.number false }

    go : (x : Option Planned) → slice_get own.counters.packets walk.number ≡ x → option_map outcome_of x ≡ Some o → P o
    go None at some = absurd (cc)
    go (Some p) at some = subst P (same_Some (outcome_of p) o some) (each p at)

  module _ (o : Outcome) (is : kept_outcome times walk ≡ Some o) where
    -- its one row, where it goes nowhere
    pub aside-next : begun o.packet walk.outputs ≡ 0
        → rows_left times walk ≡ aside_row o.input o.number o.packet (kept_state o.packet o.admitted) ∷ rows_left times (passed o.packet o.admitted 0 walk)
    aside-next = outcome-is
        (λ (o : Outcome). begun o.packet walk.outputs ≡ 0
        → rows_left times walk ≡ aside_row o.input o.number o.packet (kept_state o.packet o.admitted) ∷ rows_left times (passed o.packet o.admitted 0 walk))
        aside-of o is

    -- its row to the least of the outputs that are left
    pub routed-next : (left rest x : ℕ) → left ≡ begun o.packet walk.outputs → Has left x → ((y : ℕ) → Has left y → x ≤ y)
        → ((y : ℕ) → Has rest y ↔ ((y ≢ x) × Has left y)) → x < MAX_PORTS
        → rows_left times walk ≡ kept_row times walk.counts o.input o.number o.packet o.admitted x ∷ rows_left times (passed o.packet o.admitted rest walk)
    routed-next left rest x = outcome-is
        (λ (o : Outcome). left ≡ begun o.packet walk.outputs → Has left x → ((y : ℕ) → Has left y → x ≤ y)
        → ((y : ℕ) → Has rest y ↔ ((y ≢ x) × Has left y)) → x < MAX_PORTS
        → rows_left times walk ≡ kept_row times walk.counts o.input o.number o.packet o.admitted x ∷ rows_left times (passed o.packet o.admitted rest walk))
        (λ p at. routed-of p at left rest x) o is

  -- where it is at none, no rows are left
  pub none-next : kept_outcome times walk ≡ None → (walk.input < length times.inputs → walk.number < length own.counters.packets) → rows_left times walk ≡ []
  none-next none there = elim (cases_lt walk.input (length times.inputs)) [
    | inl inside ↦ let at = slice_get-get_or own.counters.packets walk.number no_packet (there inside) in absurd (cc)
    | inr over ↦ no-rows times walk over
  ]

  -- no packet of the input is left
  pub input-next : walk.input < length times.inputs → length own.counters.packets ≤ walk.number
      → rows_left times (walk_at (walk.input + 1)) ≡ rows_left times walk
  input-next inside done =
      let i = walk.input in
      let none : rows_of times i walk.number walk.counts walk.outputs ≡ [] =
      ap (rows_from times own i walk.number walk.counts walk.outputs) (drop_all walk.number own.counters.packets done) in
      first-of (length times.inputs - (i + 1)) (omega arith) ∙ sym (ap (λ rows. rows ++ later) none) where
        first-of : (more : ℕ) → more ≡ length times.inputs - (walk.input + 1)
            → rows_left times (walk_at (walk.input + 1)) ≡ flat_map (input_rows times) (range_with_len (walk.input + 1) more)
        first-of zero is = no-rows times (walk_at (walk.input + 1)) (omega arith)
        first-of (suc more) is =
            let fewer : length times.inputs - (walk.input + 1 + 1) ≡ more = omega arith in
            ap (λ n. input_rows times (walk.input + 1) ++ flat_map (input_rows times) (range_with_len (walk.input + 1 + 1) n)) fewer

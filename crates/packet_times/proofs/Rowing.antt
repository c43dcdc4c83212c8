-- The outputs of a set, one by one, and the row to one of them.
use Rattle.std.proofs.Common.{◌≡◌, ◌≢◌, ◌∙◌, ◌↔◌, ℕ, zero, suc, ◌+◌, ◌-◌, ◌^◌, ◌<◌, ◌≤◌, ◌&&◌, Bool, true, false, List, [], ◌∷◌, ◌++◌, map, filter}
use Rattle.std.proofs.Common.{Option, None, inl, inr, refl, sym, ap, subst, arith, zero-add, if◌then◌else◌}
use Rattle.std.specs.Int.{bit_at}
use Rattle.std.specs.List.{range_with_len}
use Rattle.std.proofs.lemmas.Bool.{cases_eq, eq-eqb, ne_eqb}
use Rattle.std.proofs.lemmas.List.{append-nil, map-append}
use Rattle.std.proofs.lemmas.List.Elements.{filter-append}
use Rattle.std_lemmas.proofs.Ranges.{range_more}
use Rattle.rotating_pick.specs.PortSets.{Has}
use Rattle.rotating_pick.proofs.Bits.{Has-lt, no_member-zero}
use Rattle.eslip_rounds.specs.Schedulers.{Scheduler}
use Rattle.slot_histories.specs.Tests.{has}
use Rattle.card_core.specs.declared.plan.Planned.{Planned}
use Rattle.card_core.specs.Queues.{is_routed}
use Rattle.switch_plan.specs.GoodPlans.{SwitchPlan}
use Rattle.run_laws.specs.Runs.{card_at, parts_under}
use Rattle.run_laws.specs.Departures.{departure_under}
use Rattle.packet_times.specs.declared.state.PacketState.TheVariants.{Forwarded, Dropped, Unrouted, Oversize}
use Rattle.packet_times.specs.NotingSteps.{was_admitted}
use Rattle.packet_times.specs.Rows.{routed_row, state_of, departure_if, outputs_in}
use Rattle.packet_times.specs.WalkingSteps.{row_to}

-- ---- the departure of a packet by its state
departed : (r a o : Bool) (d : Option ℕ)
    → (if r && a then d else None) ≡ departure_if (if r then (if a then Forwarded else Dropped) else (if o then Oversize else Unrouted)) d
departed true true o d = refl
departed true false o d = refl
departed false a true d = refl
departed false a false d = refl

-- ---- the outputs of a set, of which one is the least
filter-one : (fan n : ℕ) (b : Bool) → has fan n ≡ b → filter (has fan) (n ∷ []) ≡ (if b then n ∷ [] else [])
filter-one fan n true e = rw e refl
filter-one fan n false e = rw e refl

pub outputs-more : (fan n : ℕ) (b : Bool) → has fan n ≡ b → outputs_in (n + 1) fan ≡ outputs_in n fan ++ (if b then n ∷ [] else [])
outputs-more fan n b e =
    ap (filter (has fan)) (range_more n)
    ∙ filter-append (has fan) (range_with_len 0 n) (n ∷ [])
    ∙ ap (λ (js : List ℕ). outputs_in n fan ++ js) (filter-one fan n b e)

pub outputs-yes : (fan n : ℕ) → Has fan n → outputs_in (n + 1) fan ≡ outputs_in n fan ++ n ∷ []
outputs-yes fan n member = outputs-more fan n true (eq-eqb _ 1 member)

pub outputs-no : (fan n : ℕ) → (Has fan n → ⊥) → outputs_in (n + 1) fan ≡ outputs_in n fan
outputs-no fan n none = outputs-more fan n false (ne_eqb _ 1 none) ∙ append-nil (outputs_in n fan)

-- none is below the least
outputs-below : (fan n : ℕ) → ((y : ℕ) → Has fan y → n ≤ y) → outputs_in n fan ≡ []
outputs-below fan zero least = refl
outputs-below fan (suc n) least =
    let next : suc n ≡ n + 1 = omega arith in
    ap (λ (m : ℕ). outputs_in m fan) next
    ∙ outputs-no fan n (λ has. let low = least n has in absurd (omega (arith, low)))
    ∙ outputs-below fan n (λ y has. let low = least y has in omega (arith, low))

module _ (left rest x : ℕ) (member : Has left x) (least : (y : ℕ) → Has left y → x ≤ y) (members : (y : ℕ) → Has rest y ↔ ((y ≢ x) × Has left y)) where
  least-here : outputs_in (x + 1) left ≡ x ∷ outputs_in (x + 1) rest
  least-here =
      outputs-yes left x member
      ∙ ap (λ (js : List ℕ). js ++ x ∷ []) (outputs-below left x least)
      ∙ ap (λ (js : List ℕ). x ∷ js)
      (sym (outputs-no rest x (λ has. ((members x).0 has).0 refl) ∙ outputs-below rest x (λ y has. least y ((members y).0 has).1)))

  least-more : (n : ℕ) → n ≢ x → outputs_in n left ≡ x ∷ outputs_in n rest → outputs_in (n + 1) left ≡ x ∷ outputs_in (n + 1) rest
  least-more n apart was = elim (cases_eq (bit_at left n) 1) [
    | inl there ↦
        outputs-yes left n there
        ∙ ap (λ (js : List ℕ). js ++ n ∷ []) was
        ∙ ap (λ (js : List ℕ). x ∷ js) (sym (outputs-yes rest n ((members n).1 (apart, there))))
    | inr none ↦
        outputs-no left n none
        ∙ was
        ∙ ap (λ (js : List ℕ). x ∷ js) (sym (outputs-no rest n (λ has. none ((members n).0 has).1)))
  ]

  least-first : (more : ℕ) → outputs_in (more + (x + 1)) left ≡ x ∷ outputs_in (more + (x + 1)) rest
  least-first zero = subst (λ (n : ℕ). outputs_in n left ≡ x ∷ outputs_in n rest) (sym (zero-add (x + 1))) least-here
  least-first (suc more) =
      let next : suc more + (x + 1) ≡ more + (x + 1) + 1 = omega arith in
      subst (λ (n : ℕ). outputs_in n left ≡ x ∷ outputs_in n rest) (sym next)
      (least-more (more + (x + 1)) (λ same. absurd (omega (arith, same))) (least-first more))

  pub outputs-next : (ports : ℕ) → x < ports → outputs_in ports left ≡ x ∷ outputs_in ports rest
  outputs-next ports inside =
      let size : ports ≡ (ports - (x + 1)) + (x + 1) = omega (arith, inside) in
      subst (λ (n : ℕ). outputs_in n left ≡ x ∷ outputs_in n rest) (sym size) (least-first (ports - (x + 1)))

-- an empty set has none
pub no-outputs : (fan n : ℕ) → fan ≡ 0 → outputs_in n fan ≡ []
no-outputs fan n none = outputs-below fan n (λ y has. absurd (no_member-zero y (subst (λ s. Has s y) none has)))

-- those of a set within the ports are the same where more ports are asked
pub outputs-within : (fan ports more : ℕ) → fan < 2 ^ ports → outputs_in (more + ports) fan ≡ outputs_in ports fan
outputs-within fan ports zero few = ap (λ n. outputs_in n fan) (zero-add ports)
outputs-within fan ports (suc more) few =
    let next : suc more + ports ≡ more + ports + 1 = omega arith in
    ap (λ n. outputs_in n fan) next
    ∙ outputs-no fan (more + ports) (λ has. let low = Has-lt ports fan (more + ports) few has in absurd (omega arith))
    ∙ outputs-within fan ports more few

-- two functions that agree on the ports give one list
pub map-outputs : {X : Type 0} (f g : ℕ → X) (fan n : ℕ) → ((j : ℕ) → j < n → f j ≡ g j) → map f (outputs_in n fan) ≡ map g (outputs_in n fan)
map-outputs f g fan zero same = refl
map-outputs f g fan (suc n) same =
    let next : suc n ≡ n + 1 = omega arith in
    let last : List ℕ = if has fan n then n ∷ [] else [] in
    subst (λ m. map f (outputs_in m fan) ≡ map g (outputs_in m fan)) (sym next)
    (ap (map f) (outputs-more fan n (has fan n) refl)
    ∙ map-append f (outputs_in n fan) last
    ∙ ap (λ xs. xs ++ map f last) (map-outputs f g fan n (λ j below. same j (omega arith)))
    ∙ ap (λ xs. map g (outputs_in n fan) ++ xs) (one (has fan n) (same n (omega arith)))
    ∙ sym (map-append g (outputs_in n fan) last)
    ∙ sym (ap (map g) (outputs-more fan n (has fan n) refl))) where
      one : (b : Bool) → f n ≡ g n → map f (if b then n ∷ [] else []) ≡ map g (if b then n ∷ [] else [])
      one true is = ap (λ x. x ∷ []) is
      one false is = refl

-- the row of a packet that was admitted or not, with the departure that is known of it
pub row-is : (scheduler : Scheduler) (plan : SwitchPlan) (slots i k : ℕ) (p : Planned) (n : ℕ) (admitted : Bool)
    → admitted ≡ was_admitted (card_at plan i) (parts_under scheduler plan i slots) p
    → routed_row i k p (state_of (card_at plan i) (parts_under scheduler plan i slots) p) n
    (if admitted then departure_under scheduler plan slots i n k p else None) ≡ row_to scheduler plan slots i k p n
row-is scheduler plan slots i k p n admitted known =
    ap (routed_row i k p (state_of (card_at plan i) (parts_under scheduler plan i slots) p) n)
    (ap (λ (b : Bool). if b then departure_under scheduler plan slots i n k p else None) known
    ∙ departed (is_routed p) _ _ (departure_under scheduler plan slots i n k p))

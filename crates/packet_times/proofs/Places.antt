-- The places of flows, and what a slot adds to the ends of each.
use Rattle.std.proofs.Common.{◌≡◌, ◌≢◌, ◌∙◌, ℕ, ◌+◌, ◌*◌, ◌<◌, ◌==◌, ◌&&◌, Bool, true, false, List, [], ◌∷◌, ◌++◌, length, Option, Some, None}
use Rattle.std.proofs.Common.{refl, sym, ap, arith, slice_set, slice_index_or, get_or-set_same, get_or-set_other, length-set, if◌then◌else◌}
use Rattle.std.proofs.lemmas.Bool.{eqb-true, eq-eqb}
use Rattle.std.proofs.lemmas.List.{append-nil}
use Rattle.std.proofs.lemmas.Nat.{mul-add-lt, same_from_place}
use Rattle.card_core.proofs.Delivering.{kind_refl}
use Rattle.rotating_pick.specs.declared.kinds.Kind.{Kind}
use Rattle.rotating_pick.specs.declared.kinds.Kind.TheVariants.{Uni, Multi}
use Rattle.reassembly.specs.declared.limits.TheConstants.{FLOWS_PER_INPUT}
use Rattle.cell_cutter.specs.declared.cell.Cell.{Cell}
use Rattle.eslip_rounds.specs.Decisions.{is_kind}
use Rattle.run_laws.specs.Departures.{Flow, is_end_of}
use Rattle.packet_times.specs.NotingSteps.{IsFlow, kind_place, flow_place}
use Rattle.packet_times.specs.Steps.{ends_at, EndsAt, AddsEnd}

pub kind_few : (k : Kind) → kind_place k < 2
kind_few Uni = omega arith
kind_few Multi = omega arith

pub kind_same : (k l : Kind) → kind_place k ≡ kind_place l → k ≡ l
kind_same Uni Uni e = refl
kind_same Uni Multi e = absurd (omega arith)
kind_same Multi Uni e = absurd (omega arith)
kind_same Multi Multi e = refl

-- two flows at one place are one
pub place-same : (ports : ℕ) (f g : Flow) → IsFlow ports f → IsFlow ports g → flow_place ports f ≡ flow_place ports g → f ≡ g
place-same ports f g is are e =
    let few = kind_few f.kind in
    let less = kind_few g.kind in
    let low = is.level in
    let high = are.level in
    let pairs : ports * f.output + f.input ≡ ports * g.output + g.input = omega arith in
    let pair = same_from_place f.output f.input g.output g.input ports is.input are.input (omega (arith, pairs)) in
    let level : f.level ≡ g.level = omega arith in
    let kind = kind_same f.kind g.kind (omega arith) in
    λ t. record { input = pair.1 t; output = pair.0 t; level = level t; kind = kind t }

-- a flow's place is among those of the switch
pub place-inside : (ports : ℕ) (f : Flow) → IsFlow ports f → flow_place ports f < FLOWS_PER_INPUT * (ports * ports)
place-inside ports f is =
    let few = kind_few f.kind in
    let low = is.level in
    let pair = mul-add-lt f.output ports f.input ports is.output is.input in
    omega (arith, pair)

-- ---- what crosses to one output
same_kind : (a b c : Kind) → is_kind a b ≡ true → is_kind a c ≡ true → b ≡ c
same_kind Uni Uni Uni x y = refl
same_kind Uni Uni Multi x y = absurd (cc)
same_kind Uni Multi c x y = absurd (cc)
same_kind Multi Uni c x y = absurd (cc)
same_kind Multi Multi Uni x y = absurd (cc)
same_kind Multi Multi Multi x y = refl

parts : (a b c d : Bool) → a && (b && c && d) ≡ true → (b ≡ true) × (c ≡ true) × (d ≡ true)
parts true true true true e = (refl, refl, refl)
parts true true true false e = absurd (cc)
parts true true false d e = absurd (cc)
parts true false c d e = absurd (cc)
parts false b c d e = absurd (cc)

-- a cell ends a message of one flow at most
end-same : (f g : Flow) (cell : Option Cell) → is_end_of f cell ≡ true → is_end_of g cell ≡ true → f.output ≡ g.output → f ≡ g
end-same f g None x y e = absurd (cc)
end-same f g (Some cell) x y e =
    let p = parts cell.last (cell.input == f.input) (cell.level == f.level) (is_kind cell.kind f.kind) x in
    let q = parts cell.last (cell.input == g.input) (cell.level == g.level) (is_kind cell.kind g.kind) y in
    let input : f.input ≡ g.input = sym (eqb-true cell.input f.input p.0) ∙ eqb-true cell.input g.input q.0 in
    let level : f.level ≡ g.level = sym (eqb-true cell.level f.level p.1) ∙ eqb-true cell.level g.level q.1 in
    let kind = same_kind cell.kind f.kind g.kind p.2 q.2 in
    λ t. record { input = input t; output = e t; level = level t; kind = kind t }

module _ (ports slot output : ℕ) (cell : Option Cell) (old new : List (List ℕ)) where
  module _ (place : ℕ) (ends : EndsAt ports output cell place) (inside : place < length old)
      (set : new ≡ slice_set old place (slice_index_or old place [] ++ slot ∷ [])) where
    elsewhere : (flow : Flow) → flow_place ports flow ≢ place → ends_at ports new flow ≡ ends_at ports old flow
    elsewhere flow other =
        ap (λ lists. ends_at ports lists flow) set
        ∙ get_or-set_other old place (flow_place ports flow) (slice_index_or old place [] ++ slot ∷ []) [] other

    here : (flow : Flow) → flow_place ports flow ≡ place → ends_at ports new flow ≡ ends_at ports old flow ++ slot ∷ []
    here flow at =
        ap (λ lists. slice_index_or lists (flow_place ports flow) []) set
        ∙ ap (λ k. slice_index_or (slice_set old place (slice_index_or old place [] ++ slot ∷ [])) k []) at
        ∙ get_or-set_same old place (slice_index_or old place [] ++ slot ∷ []) [] inside
        ∙ ap (λ k. slice_index_or old k [] ++ slot ∷ []) (sym at)

    own_of : (flow : Flow) → IsFlow ports flow → flow.output ≡ output → (b : Bool) → is_end_of flow cell ≡ b → ends_at ports new flow ≡ ends_at ports old flow
        ++ (if b then slot ∷ [] else [])
    own_of flow is goes true e =
        let same = end-same flow ends.flow cell e ends.ends (goes ∙ sym ends.goes) in
        here flow (ap (flow_place ports) same ∙ sym ends.is)
    own_of flow is goes false e =
        elsewhere flow
        (λ at.
        let same = place-same ports flow ends.flow is ends.is_flow (at ∙ ends.is) in
        let yes' : is_end_of flow cell ≡ true = ap (λ f. is_end_of f cell) same ∙ ends.ends in
        absurd (cc))
        ∙ sym (append-nil (ends_at ports old flow))

    pub adds-one : AddsEnd ports slot output cell old new
    adds-one = record {
      count = ap length set ∙ length-set old place (slice_index_or old place [] ++ slot ∷ []);
      own = λ flow is goes. own_of flow is goes (is_end_of flow cell) refl;
      others = λ flow is other. elsewhere flow
          (λ at. let same = place-same ports flow ends.flow is ends.is_flow (at ∙ ends.is) in other (ap (λ f. f.output) same ∙ ends.goes));
    }

all_true : (a b c d : Bool) → a ≡ true → b ≡ true → c ≡ true → d ≡ true → a && (b && c && d) ≡ true
all_true a b c d p q r s = cc

-- a last cell ends a message of its flow
pub ends-own : (input output : ℕ) (cell : Option Cell) (c : Cell) → cell ≡ Some c → c.last ≡ true → input ≡ c.input
    → is_end_of (record { input = input; output = output; level = c.level; kind = c.kind }) cell ≡ true
ends-own input output cell c is last same =
    ap (is_end_of (record { input = input; output = output; level = c.level; kind = c.kind })) is
    ∙ all_true c.last (c.input == input) (c.level == c.level) (is_kind c.kind c.kind) last (eq-eqb c.input input (sym same))
    (eq-eqb c.level c.level refl) (kind_refl c.kind)

-- Which set of an input's row changes where a packet enters a queue, or where cells leave one: none but that of its level and kind.
use Rattle.std.proofs.Common.{◌≡◌, ◌≢◌, ◌∙◌, ℕ, zero, suc, ◌<◌, Bool, List, Option, Some, None, map, length, slice_index, slice_set, refl, sym, ap, subst, inl, inr}
use Rattle.std.proofs.Common.{arith, length-set, get_or-set_same, get_or-set_other}
use Rattle.std.specs.List.{range_with_len}
use Rattle.std.proofs.lemmas.Bool.{cases_eq}
use Rattle.std.proofs.lemmas.List.{ext_get_or}
use Rattle.std.proofs.lemmas.List.FromFn.{get_or-map-range_with_len, length-map-range_with_len}
use Rattle.rotating_pick.specs.declared.kinds.Kind.{Kind}
use Rattle.rotating_pick.specs.declared.kinds.Kind.TheVariants.{Uni, Multi}
use Rattle.rotating_pick.specs.declared.limits.TheConstants.{LEVELS}
use Rattle.cell_cutter.specs.declared.cell.CellName.{CellName}
use Rattle.slot_match.specs.declared.rows.Row.{Row}
use Rattle.slot_match.specs.declared.matching.Served.{Served}
use Rattle.slot_match.specs.Parts.{set_of}
use Rattle.voq_banks.specs.Queues.{Queues as UniQueues, queue_at as uni_at, OthersStay as UnisStay}
use Rattle.multicast_queue.specs.FanQueues.{Queues as FanQueues, queue_at as fan_at, OthersStay}
use Rattle.card_core.specs.StateSteps.{has_names, row_of, Enters, MayLeave, Leaves}
use Rattle.descriptor_runs.specs.InputSteps.{DiffersAt, ChangesAt, IsKindOf, IsQueueOf}

-- tests that agree below n give one set
set-same : (n : ℕ) (test test' : ℕ → Bool) → ((j : ℕ) → j < n → test j ≡ test' j) → set_of n test ≡ set_of n test'
set-same zero test test' same = refl
set-same (suc n) test test' same =
    let rest = set-same n test test' (λ j below. same j (omega arith)) in
    let last = same n (omega arith) in
    rw (rest, last) refl

-- a list that is another one but at one place is that one with the place replaced
one-replaced : (old new : List ℕ) (k : ℕ) → length new ≡ length old
    → ((i : ℕ) → i < length old → (i ≡ k → ⊥) → slice_index new i ≡ slice_index old i) → new ≡ slice_set old k (slice_index new k)
one-replaced old new k long others =
    let put : List ℕ = slice_set old k (slice_index new k) in
    ext_get_or 0 new put (long ∙ sym (length-set old k (slice_index new k))) (λ i inside. elim (cases_eq i k) [
      | inl here ↦
          let P : ℕ → Type 0 = λ x. slice_index new x ≡ slice_index put x in
          subst P (sym here) (sym (get_or-set_same old k (slice_index new k) 0 (omega arith)))
      | inr apart ↦ others i (omega arith) apart ∙ sym (get_or-set_other old k i (slice_index new k) 0 apart)
    ])

-- sets by level that differ at one level only
levels-replaced : (old new : ℕ → ℕ) (level : ℕ) → ((l : ℕ) → l < LEVELS → (l ≡ level → ⊥) → new l ≡ old l)
    → map new (range_with_len 0 LEVELS)
    ≡ slice_set (map old (range_with_len 0 LEVELS)) level (slice_index (map new (range_with_len 0 LEVELS)) level)
levels-replaced old new level others =
    let long_old = length-map-range_with_len old 0 LEVELS in
    let long_new = length-map-range_with_len new 0 LEVELS in
    one-replaced (map old (range_with_len 0 LEVELS)) (map new (range_with_len 0 LEVELS)) level (long_new ∙ sym long_old) (λ i inside apart.
    let below : i < LEVELS = omega arith in
    get_or-map-range_with_len new 0 LEVELS i i 0 below (omega arith) ∙ (others i below apart ∙ sym (get_or-map-range_with_len old 0 LEVELS i i 0 below (omega arith))))

-- where all unicast queues stay but one, and all multicast queues
uni-differs : (banks banks' : UniQueues) (fans fans' : FanQueues) (j level : ℕ) → UnisStay j level banks banks' → fans' ≡ fans
    → DiffersAt (row_of banks fans) (row_of banks' fans') level Uni
uni-differs banks banks' fans fans' j level stay same =
    let named : UniQueues → ℕ → ℕ → Bool = λ b l y. has_names (uni_at b y l) in
    let sets : UniQueues → ℕ → ℕ = λ b l. set_of b.ports (named b l) in
    let with_unis : List ℕ → Row = λ unis. record { uni = unis; multi = map (λ l. (fan_at fans l).rest) (range_with_len 0 LEVELS) } in
    subst (λ (f : FanQueues). DiffersAt (row_of banks fans) (row_of banks' f) level Uni) (sym same)
    (ap with_unis (levels-replaced (sets banks) (sets banks') level (λ l below apart.
    ap (λ n. set_of n (named banks' l)) stay.ports
    ∙ set-same banks.ports (named banks' l) (named banks l) (λ y inside. ap has_names (stay.queues y l below (λ both. apart both.1))))))

-- where all multicast queues stay but one, and all unicast queues
multi-differs : (banks banks' : UniQueues) (fans fans' : FanQueues) (level : ℕ) → OthersStay level fans fans' → banks' ≡ banks
    → DiffersAt (row_of banks fans) (row_of banks' fans') level Multi
multi-differs banks banks' fans fans' level stay same =
    let rests : FanQueues → ℕ → ℕ = λ f l. (fan_at f l).rest in
    let with_fans : List ℕ → Row = λ fans. record {
      uni = map (λ l. set_of banks.ports (λ y. has_names (uni_at banks y l))) (range_with_len 0 LEVELS);
      multi = fans;
    } in
    subst (λ (b : UniQueues). DiffersAt (row_of banks fans) (row_of b fans') level Multi) (sym same)
    (ap with_fans (levels-replaced (rests fans) (rests fans') level (λ l below apart. ap (λ q. q.rest) (stay.queues l apart))))

-- a packet entered a queue of its level and kind, if it fitted
enters-differs : (kind : Kind) (number fan level count : ℕ) (fits : Bool) (banks banks' : UniQueues) (fans fans' : FanQueues) → fan ≢ 0 → IsKindOf fan kind
    → Enters number fan level count fits banks fans banks' fans' → DiffersAt (row_of banks fans) (row_of banks' fans') level kind
enters-differs Uni number fan level count fits banks banks' fans fans' some (j, is) enters =
    let (entered, same) = enters.unicast some j is in uni-differs banks banks' fans fans' j level entered.others same
enters-differs Multi number fan level count fits banks banks' fans fans' some several enters =
    let (entered, same) = enters.multicast some several in multi-differs banks banks' fans fans' level entered.others same

pub changed-by-entering : (answer : Option (ℕ × Kind)) (number fan level count : ℕ) (fits : Bool) (banks banks' : UniQueues) (fans fans' : FanQueues)
    → level < LEVELS → fan ≢ 0 → IsQueueOf level fan answer → Enters number fan level count fits banks fans banks' fans'
    → ChangesAt (row_of banks fans) (row_of banks' fans') answer
changed-by-entering None number fan level count fits banks banks' fans fans' level_in some none enters = absurd (some none)
changed-by-entering (Some (l, kind)) number fan level count fits banks banks' fans fans' level_in some (same, routed, is) enters = (
  omega (arith, same, level_in),
  subst (λ x. DiffersAt (row_of banks fans) (row_of banks' fans') x kind) (sym same)
      (enters-differs kind number fan level count fits banks banks' fans fans' some is enters),
)

-- it goes nowhere
pub unchanged-by-passing : (answer : Option (ℕ × Kind)) (fan level : ℕ) (row : Row) → fan ≡ 0 → IsQueueOf level fan answer → ChangesAt row row answer
unchanged-by-passing None fan level row none is = refl
unchanged-by-passing (Some (l, kind)) fan level row none (same, routed, is) = absurd (routed none)

-- a part left the queue that it serves
pub changed-by-leaving : (kind : Kind) (part : Served) (name : CellName) (banks banks' : UniQueues) (fans fans' : FanQueues) → MayLeave kind banks fans part
    → Leaves kind part name banks fans banks' fans' → ChangesAt (row_of banks fans) (row_of banks' fans') (Some (part.level, kind))
changed-by-leaving Uni part name banks banks' fans fans' (j, outputs, inside, below, waits) left =
    (below, uni-differs banks banks' fans fans' j part.level ((left.0 j outputs).others) left.1)
changed-by-leaving Multi part name banks banks' fans fans' (some, below, routed, within) left =
    (below, multi-differs banks banks' fans fans' part.level left.0.others left.1)

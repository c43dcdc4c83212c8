-- The table of inputs and the marks, read as what feeds each output.
use Rattle.std.proofs.Common.{◌≡◌, ◌≢◌, ℕ, ◌<◌, ◌≤◌, ◌∙◌, List, Option, None, Some, length, replicate, set, slice_index, refl, sym, ap, inl, inr, arith}
use Rattle.std.proofs.Common.{length-set, get_or-set_same, get_or-set_other, lt-ltb, le-ltb}
use Rattle.std.proofs.lemmas.Bool.{cases_eq, cases_lt}
use Rattle.std.proofs.lemmas.List.{ext_get_or, get_or_past, get_or-replicate, length-replicate}
use Rattle.std.proofs.lemmas.Option.{same_Some, none-some}
use Rattle.std.proofs.lemmas.List.FromFn.{get_or-map-range_with_len, length-map-range_with_len}
use Rattle.rotating_pick.specs.declared.kinds.Kind.{Kind}
use Rattle.rotating_pick.specs.declared.kinds.Kind.TheVariants.{Multi}
use Rattle.rotating_pick.specs.declared.limits.TheConstants.{MAX_PORTS}
use Rattle.slot_match.specs.declared.marks.Marks.{Marks}
use Rattle.slot_match.specs.declared.matching.Fed.{Fed}
use Rattle.slot_match.specs.Matches.{unmatched, fed_of, Serves}
use Rattle.slot_match.specs.FieldSteps.{level_at, kind_at, fed_as, fed_at, feeds_of, AreMarked}

-- a byte that names a port feeds the output
pub fed_as-some : (input level : ℕ) (kind : Kind) → input < MAX_PORTS → fed_as input level kind ≡ Some (record { input = input; level = level; kind = kind })
unfolding fed_as
fed_as-some input level kind below = rw (lt-ltb input MAX_PORTS below) refl

-- a byte that names no port leaves the output free
pub fed_as-none : (input level : ℕ) (kind : Kind) → MAX_PORTS ≤ input → fed_as input level kind ≡ None
unfolding fed_as
fed_as-none input level kind above = rw (le-ltb input MAX_PORTS above) refl

-- what an output is fed by, part by part
pub fed_as-is : (input level : ℕ) (kind : Kind) (f : Fed) → fed_as input level kind ≡ Some f
    → (input < MAX_PORTS) × (input ≡ f.input) × (level ≡ f.level) × (kind ≡ f.kind)
fed_as-is input level kind f e = elim (cases_lt input MAX_PORTS) [
  | inl below ↦
      let g : Fed = record { input = input; level = level; kind = kind } in
      let same : g ≡ f = same_Some g f (sym (fed_as-some input level kind below) ∙ e) in
      (below, ap (λ x. x.input) same, ap (λ x. x.level) same, ap (λ x. x.kind) same)
  | inr above ↦ absurd (none-some f (sym (fed_as-none input level kind above) ∙ e))
]

-- there are as many outputs as a switch can have
pub length-feeds_of : (inputs : List ℕ) (marks : Marks) → length (feeds_of inputs marks) ≡ MAX_PORTS
unfolding feeds_of
length-feeds_of inputs marks = length-map-range_with_len (fed_at inputs marks) 0 MAX_PORTS

-- what feeds an output is what the table and the marks say of it
pub fed_of-feeds_of : (inputs : List ℕ) (marks : Marks) (j : ℕ) → j < MAX_PORTS → fed_of (feeds_of inputs marks) j ≡ fed_at inputs marks j
unfolding feeds_of
fed_of-feeds_of inputs marks j below =
    let none : Option Fed = None in
    get_or-map-range_with_len (fed_at inputs marks) 0 MAX_PORTS j j none below (omega arith)

-- a table that names no port feeds no output
pub feeds_of-none : (inputs : List ℕ) (marks : Marks) (byte : ℕ) → MAX_PORTS ≤ byte → inputs ≡ replicate MAX_PORTS byte
    → feeds_of inputs marks ≡ unmatched MAX_PORTS
feeds_of-none inputs marks byte above e =
    let none : Option Fed = None in
    ext_get_or none (feeds_of inputs marks) (unmatched MAX_PORTS) (length-feeds_of inputs marks ∙ sym (length-replicate MAX_PORTS none))
    (λ j below.
    let inside : j < MAX_PORTS = let long = length-feeds_of inputs marks in omega arith in
    let at : slice_index inputs j ≡ byte = ap (λ xs. slice_index xs j) e ∙ get_or-replicate MAX_PORTS j byte 0 inside in
    fed_of-feeds_of inputs marks j inside
    ∙ (fed_as-none (slice_index inputs j) (level_at marks j) (kind_at marks j) (omega (arith, at)) ∙ sym (get_or-replicate MAX_PORTS j none none inside)))

-- one output is marked with the level and the kind
pub record IsMarked (before after : Marks) (output l : ℕ) (k : Kind) : Type 0 where
  pub level : level_at after output ≡ l
  pub kind : kind_at after output ≡ k
  pub others : (j : ℕ) → j ≢ output → (level_at after j ≡ level_at before j) × (kind_at after j ≡ kind_at before j)

-- one output is fed anew
pub feeds_of-set : (inputs : List ℕ) (before after : Marks) (output : ℕ) (by : Fed) → length inputs ≡ MAX_PORTS → output < MAX_PORTS → by.input < MAX_PORTS
    → IsMarked before after output by.level by.kind → feeds_of (set inputs output by.input) after ≡ set (feeds_of inputs before) output (Some by)
feeds_of-set inputs before after output by long inside port marked =
    let none : Option Fed = None in
    let old = feeds_of inputs before in
    let later = set inputs output by.input in
    ext_get_or none (feeds_of later after) (set old output (Some by))
    (length-feeds_of later after ∙ sym (length-set old output (Some by) ∙ length-feeds_of inputs before))
    (λ j below.
    let j_in : j < MAX_PORTS = let long_after = length-feeds_of later after in omega arith in
    fed_of-feeds_of later after j j_in
    ∙ elim (cases_eq j output) [
      | inl same ↦ rw (same, get_or-set_same inputs output by.input 0 (omega arith), marked.level, marked.kind)
          (fed_as-some by.input by.level by.kind port ∙ sym (get_or-set_same old output (Some by) none (omega (arith, length-feeds_of inputs before))))
      | inr other ↦ let alike = marked.others j other in
          rw (get_or-set_other inputs output j by.input 0 other, alike.0, alike.1)
          (sym (fed_of-feeds_of inputs before j j_in) ∙ sym (get_or-set_other old output j (Some by) none other))
    ])

-- the marks still are of outputs that are fed
pub AreMarked-set : (inputs : List ℕ) (before after : Marks) (output input : ℕ) → output < length inputs → input < MAX_PORTS
    → ((j : ℕ) → j ≢ output → kind_at after j ≡ kind_at before j) → AreMarked inputs before → AreMarked (set inputs output input) after
AreMarked-set inputs before after output input inside port others marked j multi = elim (cases_eq j output) [
  | inl same ↦ rw (same, get_or-set_same inputs output input 0 inside) port
  | inr other ↦ rw (get_or-set_other inputs output j input 0 other) (marked j (sym (others j other) ∙ multi))
]

-- what the marks say of an output that is fed
pub marks-fed : (inputs : List ℕ) (marks : Marks) (j : ℕ) (f : Fed) → fed_of (feeds_of inputs marks) j ≡ Some f
    → (j < MAX_PORTS) × (level_at marks j ≡ f.level) × (kind_at marks j ≡ f.kind)
marks-fed inputs marks j f e = elim (cases_lt j MAX_PORTS) [
  | inl below ↦
      let p = fed_as-is (slice_index inputs j) (level_at marks j) (kind_at marks j) f (sym (fed_of-feeds_of inputs marks j below) ∙ e) in
      (below, p.2, p.3)
  | inr above ↦ absurd (none-some f (sym (get_or_past (feeds_of inputs marks) j None (let long = length-feeds_of inputs marks in omega arith)) ∙ e))
]

-- what the table and the marks say of an output that is served as multicast
pub Serves-marked : (inputs : List ℕ) (marks : Marks) (i j level : ℕ) → Serves (feeds_of inputs marks) i j level Multi
    → (j < MAX_PORTS) × (slice_index inputs j ≡ i) × (level_at marks j ≡ level) × (kind_at marks j ≡ Multi)
Serves-marked inputs marks i j level s =
    let f : Fed = record { input = i; level = level; kind = Multi } in
    elim (cases_lt j MAX_PORTS) [
      | inl below ↦
          let p = fed_as-is (slice_index inputs j) (level_at marks j) (kind_at marks j) f (sym (fed_of-feeds_of inputs marks j below) ∙ s) in
          (below, p.1, p.2, p.3)
      | inr above ↦ absurd (none-some f (sym (get_or_past (feeds_of inputs marks) j None (let long = length-feeds_of inputs marks in omega arith)) ∙ s))
    ]

-- the input of an output whose byte and marks say so is served by it as multicast
pub Serves-from_marks : (inputs : List ℕ) (marks : Marks) (j level : ℕ) → j < MAX_PORTS → slice_index inputs j < MAX_PORTS → level_at marks j ≡ level
    → kind_at marks j ≡ Multi → Serves (feeds_of inputs marks) (slice_index inputs j) j level Multi
Serves-from_marks inputs marks j level below port leveled multi =
    fed_of-feeds_of inputs marks j below ∙ rw (sym leveled, sym multi) (fed_as-some (slice_index inputs j) (level_at marks j) (kind_at marks j) port)

-- The pointers after a slot, computed, are those of the definition.
use Rattle.std.proofs.Common.{◌≡◌, ℕ, ◌<◌, ◌≤◌, ◌⊎◌, ◌∙◌, ◌&&◌, false, not, cond, List, [], Option, None, Some, length, map, slice_index}
use Rattle.std.proofs.Common.{slice_index_or, refl, sym, ap, inl, inr, arith}
use Rattle.std.specs.Bool.{Decides}
use Rattle.std.specs.List.{find}
use Rattle.std.specs.Option.{option_and_then}
use Rattle.std.proofs.lemmas.Bool.{cases_lt, cases_Bool, cond-true, cond-false, false_from_ne_true}
use Rattle.std.proofs.lemmas.Bool.Decides.{Decides-and, Decides-not}
use Rattle.std.proofs.lemmas.List.{get_or_past}
use Rattle.std.proofs.lemmas.List.FromFn.{length-map-range_with_len, get_or-map-range_with_len}
use Rattle.rotating_pick.specs.Rotation.{IsFirstFrom}
use Rattle.rotating_pick.specs.declared.kinds.Kind.TheVariants.{Uni, Multi}
use Rattle.rotating_pick.specs.declared.limits.TheConstants.{LEVELS, MAX_PORTS}
use Rattle.rotating_pick.proofs.First.{IsFirstFrom-along}
use Rattle.slot_match.specs.declared.rows.Row.{Row}
use Rattle.slot_match.specs.declared.matching.Fed.{Fed}
use Rattle.slot_match.specs.Rows.{Names, row_of, AreWithin, HasHead}
use Rattle.slot_match.specs.Matches.{fed_of, Serves, IsMatch, Completes}
use Rattle.slot_match.proofs.Pairs.{fed_of-lt, Serves-once}
use Rattle.pointer_state.specs.Places.{Places, place_of, shared_of, IsTable, AreAtPorts}
use Rattle.eslip_rounds.specs.Decisions.{ports, ports_from, is_named, is_fed, table_of, is_head, is_left, passed}
use Rattle.eslip_rounds.proofs.Testing.{any_port, Decides-named, Decides-fed}
use Rattle.eslip_rounds.proofs.Finding.{finds_port, finds_no_port, first_found, finds_first}

module _ (place : ℕ → ℕ → ℕ) where
  row_at : ℕ → List ℕ
  row_at level = map (place level) (ports MAX_PORTS)

  table_row : (level : ℕ) → level < LEVELS → slice_index_or (table_of place) level [] ≡ row_at level
  unfolding table_of row_at
  table_row level level_in = get_or-map-range_with_len row_at 0 LEVELS level level [] level_in (omega arith)

  table_levels : length (table_of place) ≡ LEVELS
  unfolding table_of row_at
  table_levels = length-map-range_with_len row_at 0 LEVELS

  row_ports : (level : ℕ) → length (row_at level) ≡ MAX_PORTS
  unfolding row_at
  row_ports level = length-map-range_with_len (place level) 0 MAX_PORTS

  pub IsTable-table_of : IsTable (table_of place)
  IsTable-table_of = record { levels = table_levels; ports = λ level level_in. ap length (table_row level level_in) ∙ row_ports level }

  -- a place of the table
  pub table_at : (level port : ℕ) → level < LEVELS → port < MAX_PORTS → place_of (table_of place) level port ≡ place level port
  unfolding row_at
  table_at level port level_in port_in = ap (λ row. slice_index row port) (table_row level level_in)
      ∙ get_or-map-range_with_len (place level) 0 MAX_PORTS port port 0 port_in (omega arith)

-- tables have no place beyond their levels and ports
table_past : (table : List (List ℕ)) → IsTable table → (level port : ℕ) → (LEVELS ≤ level) ⊎ ((level < LEVELS) × (MAX_PORTS ≤ port))
    → place_of table level port ≡ 0
table_past table whole level port past = elim past [
  | inl above ↦ ap (λ row. slice_index row port) (get_or_past table level [] (let long = whole.levels in omega arith))
  | inr p ↦ get_or_past (slice_index_or table level []) port 0 (let long = whole.ports level p.0 in let above = p.1 in omega arith)
]

-- a place that stays
pub table_stays : (place : ℕ → ℕ → ℕ) (table : List (List ℕ)) → IsTable table → (level port : ℕ) → place level port ≡ place_of table level port
    → place_of (table_of place) level port ≡ place_of table level port
table_stays place table whole level port e = elim (cases_lt level LEVELS) [
  | inr above ↦ table_past (table_of place) (IsTable-table_of place) level port (inl above) ∙ sym (table_past table whole level port (inl above))
  | inl level_in ↦ elim (cases_lt port MAX_PORTS) [
    | inr above ↦ table_past (table_of place) (IsTable-table_of place) level port (inr (level_in, above))
        ∙ sym (table_past table whole level port (inr (level_in, above)))
    | inl port_in ↦ table_at place level port level_in port_in ∙ e
  ]
]

module _ (n : ℕ) (first_match : List (Option Fed)) (whole : IsMatch n first_match) where
  -- the input that output j has as unicast of the level, and the output that input i has
  pub input_of : (i j level : ℕ) → Serves first_match i j level Uni → find (λ x. is_fed x level Uni (fed_of first_match j)) (ports n) ≡ Some i
  input_of i j level s =
      finds_port (λ x. is_fed x level Uni (fed_of first_match j)) n i (whole.input_in i j level Uni s) ((Decides-fed i level Uni (fed_of first_match j)).1 s)
      (λ y h. let once = Serves-once first_match j y i level level Uni Uni ((Decides-fed y level Uni (fed_of first_match j)).0 h) s in once.0)

  pub no_input_of : (j level : ℕ) → ((i : ℕ) → Serves first_match i j level Uni → ⊥) → find (λ x. is_fed x level Uni (fed_of first_match j)) (ports n) ≡ None
  no_input_of j level none =
      finds_no_port (λ x. is_fed x level Uni (fed_of first_match j)) n (λ y h. none y ((Decides-fed y level Uni (fed_of first_match j)).0 h))

  pub fed_in : (i j level : ℕ) → Serves first_match i j level Uni → j < n
  fed_in i j level s = let lt = fed_of-lt first_match j (record { input = i; level = level; kind = Uni }) s in let size = whole.count in omega arith

  pub output_of : (i j level : ℕ) → Serves first_match i j level Uni → find (λ y. is_fed i level Uni (fed_of first_match y)) (ports n) ≡ Some j
  output_of i j level s =
      finds_port (λ y. is_fed i level Uni (fed_of first_match y)) n j (fed_in i j level s) ((Decides-fed i level Uni (fed_of first_match j)).1 s)
      (λ y h. elim (whole.once i y level Uni j level Uni ((Decides-fed i level Uni (fed_of first_match y)).0 h) s) [
        | inl same ↦ same
        | inr multi ↦ let never =
            multi.1 in absurd (cc)
      ])

  pub no_output_of : (i level : ℕ) → ((j : ℕ) → Serves first_match i j level Uni → ⊥) → find (λ y. is_fed i level Uni (fed_of first_match y)) (ports n) ≡ None
  no_output_of i level none =
      finds_no_port (λ y. is_fed i level Uni (fed_of first_match y)) n (λ y h. none y ((Decides-fed i level Uni (fed_of first_match y)).0 h))

module _ (n : ℕ) (rows : List Row) (matched : List (Option Fed)) (before : Places) (within : AreWithin n rows) (at_ports : AreAtPorts before)
    (ports_are : before.ports ≡ n) where
  -- a head, as the test sees it
  abbrev Head : ℕ → ℕ → Type 0
  Head level i = (j : ℕ) × (j < n) × Names (row_of rows i) level Multi j

  head_test : (level i : ℕ) → Decides (is_head n rows level i) (Head level i)
  head_test level i = any_port (is_named (row_of rows i) level Multi) (λ j. Names (row_of rows i) level Multi j) (Decides-named (row_of rows i) level Multi) n

  heads : (level i : ℕ) → i < n → (HasHead rows level i → Head level i) × (Head level i → HasHead rows level i)
  heads level i i_in = (λ h. (h.0, within.ports i i_in level h.0 Multi h.1, h.1), λ h. (h.0, h.2))

  left_test : (level i : ℕ)
      → Decides (is_left n rows matched level i) ((j : ℕ) × (j < n) × (Names (row_of rows i) level Multi j × (Serves matched i j level Multi → ⊥)))
  left_test level i =
      any_port (λ j. is_named (row_of rows i) level Multi j && not (is_fed i level Multi (fed_of matched j)))
      (λ j. Names (row_of rows i) level Multi j × (Serves matched i j level Multi → ⊥))
      (λ j. Decides-and (is_named (row_of rows i) level Multi j) (not (is_fed i level Multi (fed_of matched j))) (Decides-named (row_of rows i) level Multi j)
      (Decides-not (is_fed i level Multi (fed_of matched j)) (Decides-fed i level Multi (fed_of matched j)))) n

  -- a head completes exactly where nothing of it is left
  nothing_left : (level i : ℕ) → Completes rows matched level i → is_left n rows matched level i ≡ false
  nothing_left level i done = false_from_ne_true (is_left n rows matched level i) (λ e. let f = (left_test level i).0 e in f.2.1 (done f.0 f.2.0))

  Completes-from_test : (level i : ℕ) → i < n → is_left n rows matched level i ≡ false → Completes rows matched level i
  Completes-from_test level i i_in e j named =
      elim (cases_Bool (is_fed i level Multi (fed_of matched j))) [
        | inl served ↦ (Decides-fed i level Multi (fed_of matched j)).0 served
        | inr fail ↦
            let left = (left_test level i).1
            (j, within.ports i i_in level j Multi named, (named, λ s. let pass = (Decides-fed i level Multi (fed_of matched j)).1 s in absurd (cc))) in
            absurd (cc)
      ]

  module _ (level : ℕ) (level_in : level < LEVELS) where
    shared_in : shared_of before level < n
    shared_in = let lt = (at_ports.pointing level level_in).shared in omega arith

    found_head : (i : ℕ) → find (is_head n rows level) (ports_from n (shared_of before level)) ≡ Some i
        → IsFirstFrom n (shared_of before level) (HasHead rows level) i
    found_head i e =
        IsFirstFrom-along n (shared_of before level) (Head level) (HasHead rows level) i (λ y y_in. ((heads level y y_in).1, (heads level y y_in).0))
        (first_found n (shared_of before level) (is_head n rows level) (Head level) (head_test level) shared_in i e)

    pub passed_some : (i : ℕ) → IsFirstFrom n (shared_of before level) (HasHead rows level) i → Completes rows matched level i
        → passed n rows matched before level ≡ Some i
    passed_some i head done =
        let found = finds_first n (shared_of before level) (is_head n rows level) (Head level) (head_test level) shared_in i
        (IsFirstFrom-along n (shared_of before level) (HasHead rows level) (Head level) i (heads level) head) in
        ap (option_and_then (λ x. cond (is_left n rows matched level x) None (Some x))) found
        ∙ cond-false (is_left n rows matched level i) None (Some i) (nothing_left level i done)

    pub passed_none : ((i : ℕ) → IsFirstFrom n (shared_of before level) (HasHead rows level) i → Completes rows matched level i → ⊥)
        → passed n rows matched before level ≡ None
    passed_none none = go (find (is_head n rows level) (ports_from n (shared_of before level))) refl where
      go : (o : Option ℕ) → find (is_head n rows level) (ports_from n (shared_of before level)) ≡ o → passed n rows matched before level ≡ None
      go None e = ap (option_and_then (λ x. cond (is_left n rows matched level x) None (Some x))) e
      go (Some i) e =
          let head = found_head i e in
          ap (option_and_then (λ x. cond (is_left n rows matched level x) None (Some x))) e
          ∙ elim (cases_Bool (is_left n rows matched level i)) [
            | inl left ↦ cond-true (is_left n rows matched level i) None (Some i) left
            | inr fail ↦ absurd (none i head (Completes-from_test level i head.below fail))
          ]

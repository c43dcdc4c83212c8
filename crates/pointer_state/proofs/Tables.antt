-- Tables of places: what one has after another place was set.
use Rattle.std.proofs.Common.{◌≡◌, ◌≢◌, ℕ, ◌<◌, ◌∙◌, List, [], length, replicate, slice_index, slice_index_or, slice_set, sym, ap, inl, inr, arith}
use Rattle.std.proofs.Common.{length-set, get_or-set_same, get_or-set_other}
use Rattle.std.proofs.lemmas.Bool.{cases_eq, cases_lt}
use Rattle.std.proofs.lemmas.List.{length-replicate, get_or-replicate, get_or_past, ext_get_or}
use Rattle.std_lemmas.proofs.Lists.{get_or-same}
use Rattle.rotating_pick.specs.declared.limits.TheConstants.{LEVELS, MAX_PORTS}
use Rattle.pointer_state.specs.Places.{place_of, with_place, IsTable}

-- a row of the table after one place was set
row-with_same : (table : List (List ℕ)) (level port place : ℕ) → level < length table
    → slice_index_or (with_place table level port place) level [] ≡ slice_set (slice_index_or table level []) port place
row-with_same table level port place level_in = get_or-set_same table level (slice_set (slice_index_or table level []) port place) [] level_in

row-with_other : (table : List (List ℕ)) (level port place other : ℕ) → other ≢ level
    → slice_index_or (with_place table level port place) other [] ≡ slice_index_or table other []
row-with_other table level port place other differ = get_or-set_other table level other (slice_set (slice_index_or table level []) port place) [] differ

module _ (table : List (List ℕ)) (whole : IsTable table) (level port place : ℕ) (level_in : level < LEVELS) (port_in : port < MAX_PORTS) where
  level_there : level < length table
  level_there = let long = whole.levels in omega arith

  pub IsTable-with : IsTable (with_place table level port place)
  IsTable-with =
      record {
        levels = length-set table level (slice_set (slice_index_or table level []) port place) ∙ whole.levels;
        ports = λ other other_in. elim (cases_eq other level) [
          | inl same ↦ rw same (ap length (row-with_same table level port place level_there)
              ∙ (length-set (slice_index_or table level []) port place ∙ whole.ports level level_in))
          | inr differ ↦ ap length (row-with_other table level port place other differ) ∙ whole.ports other other_in
        ];
      }

  -- the place that was set
  pub place_of-with_same : place_of (with_place table level port place) level port ≡ place
  place_of-with_same =
      let port_there : port < length (slice_index_or table level []) = let long = whole.ports level level_in in omega arith in
      ap (λ row. slice_index row port) (row-with_same table level port place level_there)
      ∙ get_or-set_same (slice_index_or table level []) port place 0 port_there

  -- every other place
  pub place_of-with_other : (other x : ℕ) → (other ≡ level → x ≡ port → ⊥) → place_of (with_place table level port place) other x ≡ place_of table other x
  place_of-with_other other x differ =
      elim (cases_eq other level) [
        | inl same ↦
            let here : place_of (with_place table level port place) level x ≡ place_of table level x =
            ap (λ row. slice_index row x) (row-with_same table level port place level_there)
            ∙ get_or-set_other (slice_index_or table level []) port x place 0 (differ same) in
            rw same here
        | inr apart ↦ ap (λ row. slice_index row x) (row-with_other table level port place other apart)
      ]

pub shared-at_first : (level : ℕ) → slice_index (replicate LEVELS 0) level ≡ 0
shared-at_first level = get_or-same 0 LEVELS level

pub place_of-at_first : (level port : ℕ) → place_of (replicate LEVELS (replicate MAX_PORTS 0)) level port ≡ 0
place_of-at_first level port =
    let table : List (List ℕ) = replicate LEVELS (replicate MAX_PORTS 0) in
    elim (cases_lt level LEVELS) [
      | inl below ↦ ap (λ row. slice_index row port) (get_or-replicate LEVELS level (replicate {A = ℕ} MAX_PORTS 0) [] below) ∙ get_or-same 0 MAX_PORTS port
      | inr above ↦ ap (λ row. slice_index row port)
          (get_or_past table level [] (let long : length table ≡ LEVELS = length-replicate LEVELS (replicate {A = ℕ} MAX_PORTS 0) in omega arith))
    ]

pub IsTable-at_first : IsTable (replicate LEVELS (replicate MAX_PORTS 0))
IsTable-at_first =
    record {
      levels = length-replicate LEVELS (replicate {A = ℕ} MAX_PORTS 0);
      ports = λ level level_in. ap length (get_or-replicate LEVELS level (replicate {A = ℕ} MAX_PORTS 0) [] level_in) ∙ length-replicate {A = ℕ} MAX_PORTS 0;
    }

-- two tables with equal places are one
pub IsTable-same : (a b : List (List ℕ)) → IsTable a → IsTable b → ((level port : ℕ) → place_of a level port ≡ place_of b level port) → a ≡ b
IsTable-same a b x y same =
    ext_get_or [] a b (x.levels ∙ sym y.levels)
    (λ level below.
    let level_in : level < LEVELS = let long = x.levels in omega arith in
    ext_get_or 0 (slice_index_or a level []) (slice_index_or b level []) (x.ports level level_in ∙ sym (y.ports level level_in))
    (λ port port_in. same level port))

-- Every move leaves the pointers at ports, and what each pointer is after it.
use Rattle.std.proofs.Common.{◌≡◌, ℕ, ◌+◌, ◌%◌, ◌<◌, ◌≤◌, ◌∙◌, List, length, slice_index, slice_set, inl, inr, arith, length-set, get_or-set_same}
use Rattle.std.proofs.Common.{get_or-set_other}
use Rattle.std.proofs.lemmas.Bool.{cases_eq}
use Rattle.std.proofs.lemmas.List.{length-replicate}
use Rattle.std.proofs.lemmas.Nat.{mod_below}
use Rattle.std_lemmas.proofs.Numbers.{below_by}
use Rattle.rotating_pick.specs.declared.limits.TheConstants.{LEVELS, MAX_PORTS}
use Rattle.pointer_state.specs.Places.{Places, place_of, with_place, AreAtPorts, places_at_first, places_met, places_passed}
use Rattle.pointer_state.proofs.Tables.{IsTable-with, place_of-with_same, place_of-with_other, IsTable-at_first, place_of-at_first, shared-at_first}

-- each place of the table is below n, also after another was set
below-with : (table : List (List ℕ)) (level port place n other x : ℕ) → place_of (with_place table level port place) level port ≡ place
    → ((l y : ℕ) → (l ≡ level → y ≡ port → ⊥) → place_of (with_place table level port place) l y ≡ place_of table l y) → place < n
    → place_of table other x < n → place_of (with_place table level port place) other x < n
below-with table level port place n other x here others place_in before =
    elim (cases_eq other level) [
      | inr apart ↦ below_by n _ _ (others other x (λ e f. apart e)) before
      | inl same ↦ elim (cases_eq x port) [
        | inr apart ↦ below_by n _ _ (others other x (λ e f. apart f)) before
        | inl also ↦ rw (same, also) (below_by n _ _ here place_in)
      ]
    ]

below-set : (places : List ℕ) (level place n other : ℕ) → level < length places → place < n → slice_index places other < n
    → slice_index (slice_set places level place) other < n
below-set places level place n other level_in place_in before =
    elim (cases_eq other level) [
      | inl same ↦ rw same (below_by n _ _ (get_or-set_same places level place 0 level_in) place_in)
      | inr apart ↦ below_by n _ _ (get_or-set_other places level other place 0 apart) before
    ]

pub AreAtPorts-at_first : (n : ℕ) → 0 < n → n ≤ MAX_PORTS → AreAtPorts (places_at_first n)
unfolding places_at_first
AreAtPorts-at_first n some size =
    record {
      some = some;
      size = size;
      grant_table = IsTable-at_first;
      accept_table = IsTable-at_first;
      shared_levels = length-replicate {A = ℕ} LEVELS 0;
      pointing = λ level level_in. record {
        grant = λ j j_in. below_by n _ _ (place_of-at_first level j) some;
        accept = λ i i_in. below_by n _ _ (place_of-at_first level i) some;
        shared = below_by n _ _ (shared-at_first level) some;
      };
    }

module _ (p : Places) (at_ports : AreAtPorts p) (level : ℕ) (level_in : level < LEVELS) where
  next_in : (x : ℕ) → (x + 1) % p.ports < p.ports
  next_in x = mod_below (x + 1) p.ports at_ports.some

  fits : (x : ℕ) → x < p.ports → x < MAX_PORTS
  fits x x_in = let size = at_ports.size in omega arith

  level_shared : level < length p.shared
  level_shared = let long = at_ports.shared_levels in omega arith

  module _ (input output : ℕ) (input_in : input < p.ports) (output_in : output < p.ports) where
    pub AreAtPorts-met : AreAtPorts (places_met p input output level)
    unfolding places_met
    AreAtPorts-met =
        let g = at_ports.grant_table in
        let a = at_ports.accept_table in
        record {
          some = at_ports.some;
          size = at_ports.size;
          grant_table = IsTable-with p.grant g level output _ level_in (fits output output_in);
          accept_table = IsTable-with p.accept a level input _ level_in (fits input input_in);
          shared_levels = at_ports.shared_levels;
          pointing = λ other other_in.
              let before = at_ports.pointing other other_in in record {
                grant = λ j j_in. below-with p.grant level output _ p.ports other j
                    (place_of-with_same p.grant g level output _ level_in (fits output output_in))
                    (place_of-with_other p.grant g level output _ level_in (fits output output_in)) (next_in input) (before.grant j j_in);
                accept = λ i i_in. below-with p.accept level input _ p.ports other i
                    (place_of-with_same p.accept a level input _ level_in (fits input input_in))
                    (place_of-with_other p.accept a level input _ level_in (fits input input_in)) (next_in output) (before.accept i i_in);
                shared = before.shared;
              };
        }

  pub AreAtPorts-passed : (input : ℕ) → AreAtPorts (places_passed p level input)
  unfolding places_passed
  AreAtPorts-passed input =
      record {
        some = at_ports.some;
        size = at_ports.size;
        grant_table = at_ports.grant_table;
        accept_table = at_ports.accept_table;
        shared_levels = length-set p.shared level _ ∙ at_ports.shared_levels;
        pointing = λ other other_in.
            let before = at_ports.pointing other other_in in record {
              grant = before.grant;
              accept = before.accept;
              shared = below-set p.shared level _ p.ports other level_shared (next_in input) before.shared;
            };
      }

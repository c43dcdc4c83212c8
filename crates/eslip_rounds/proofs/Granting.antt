-- What the outputs grant, computed, is what the definition of a grant says.
use Rattle.std.proofs.Common.{◌≡◌, ℕ, ◌<◌, ◌≤◌, ◌↔◌, ◌∙◌, true, List, Option, None, Some, map, refl, sym, ap, subst, inl, inr, arith}
use Rattle.std.specs.Bool.{Decides}
use Rattle.std.specs.List.{find, list_any}
use Rattle.std.specs.Option.{is_none, option_map, option_and_then}
use Rattle.std.proofs.lemmas.Bool.{cases_lt, cases_Bool, cond-true, cond-false}
use Rattle.std.proofs.lemmas.List.{get_or_past}
use Rattle.std.proofs.lemmas.List.FromFn.{length-map-range_with_len, get_or-map-range_with_len}
use Rattle.std.proofs.lemmas.Option.{same_Some, none-some}
use Rattle.rotating_pick.specs.Rotation.{IsFirstFrom}
use Rattle.rotating_pick.specs.declared.kinds.Kind.{Kind}
use Rattle.rotating_pick.specs.declared.limits.TheConstants.{LEVELS}
use Rattle.slot_match.specs.declared.rows.Row.{Row}
use Rattle.slot_match.specs.declared.matching.Fed.{Fed}
use Rattle.slot_match.specs.Matches.{fed_of, Serves, IsMatch}
use Rattle.pointer_state.specs.Places.{Places, AreAtPorts}
use Rattle.eslip_rounds.specs.Rounds.{from_of, Requests, Grants}
use Rattle.eslip_rounds.specs.Decisions.{Rank, ranks, ports, ports_from, is_request, granted_at, granted}
use Rattle.eslip_rounds.proofs.Choosing.{level_asked}
use Rattle.eslip_rounds.proofs.Deciding.{from_in}
use Rattle.eslip_rounds.proofs.Testing.{any_port, Decides-request}
use Rattle.eslip_rounds.proofs.Finding.{first_found, finds_first}
use Rattle.eslip_rounds.proofs.Ranking.{found_rank, finds_rank}

-- what a list by ports has at a port, and beyond the ports
pub fed_of-ports : (f : ℕ → Option Fed) (n j : ℕ) → j < n → fed_of (map f (ports n)) j ≡ f j
fed_of-ports f n j j_in = get_or-map-range_with_len f 0 n j j None j_in (omega arith)

pub fed_of-ports_past : (f : ℕ → Option Fed) (n j : ℕ) → n ≤ j → fed_of (map f (ports n)) j ≡ None
fed_of-ports_past f n j above = get_or_past (map f (ports n)) j None (let long = length-map-range_with_len f 0 n in omega arith)

-- only a port is fed
pub fed_of-ports_some : (f : ℕ → Option Fed) (n j : ℕ) (g : Fed) → fed_of (map f (ports n)) j ≡ Some g → (j < n) × (f j ≡ Some g)
fed_of-ports_some f n j g e = elim (cases_lt j n) [
  | inl j_in ↦ (j_in, sym (fed_of-ports f n j j_in) ∙ e)
  | inr above ↦ absurd (none-some g (sym (fed_of-ports_past f n j above) ∙ e))
]

-- what a value that was mapped, or passed on, comes from
pub option_map_some : {A B : Type 0} (g : A → B) (o : Option A) (y : B) → option_map g o ≡ Some y → (x : A) × (o ≡ Some x) × (g x ≡ y)
option_map_some g None y e = absurd (none-some y e)
option_map_some g (Some x) y e = (x, refl, same_Some (g x) y e)

pub option_and_then_from : {A B : Type 0} (g : A → Option B) (o : Option A) (y : B) → option_and_then g o ≡ Some y → (x : A) × (o ≡ Some x) × (g x ≡ Some y)
option_and_then_from g None y e = absurd (none-some y e)
option_and_then_from g (Some x) y e = (x, refl, e)

pub none_from_test : (o : Option Fed) → is_none o ≡ true → o ≡ None
none_from_test None e = refl
none_from_test (Some f) e = absurd (cc)

module _ (n t : ℕ) (rows : List Row) (places : Places) (before : List (Option Fed)) (whole : IsMatch n before) (at_ports : AreAtPorts places)
    (ports_are : places.ports ≡ n) where
  -- some input asks output j
  abbrev Asked : ℕ → ℕ → Kind → Type 0
  Asked j m k = (x : ℕ) × (x < n) × Requests rows before x j m k

  asked_level : (j m : ℕ) (k : Kind) → Asked j m k → m < LEVELS
  asked_level j m k p = level_asked rows before p.0 j m k p.2

  asked_decides : (j m : ℕ) (k : Kind) → m < LEVELS → Decides (list_any (λ x. is_request rows before x j m k) (ports n)) (Asked j m k)
  asked_decides j m k level_in =
      any_port (λ x. is_request rows before x j m k) (λ x. Requests rows before x j m k) (λ x. Decides-request n rows before whole x j m k level_in) n

  module _ (j : ℕ) (j_in : j < n) where
    asked_rank : Option Rank
    asked_rank = find (λ rank. list_any (λ x. is_request rows before x j rank.level rank.kind) (ports n)) (ranks t)

    -- what output j grants at its rank
    granted_first : (level i : ℕ) (kind : Kind) → level < LEVELS
        → find (λ x. is_request rows before x j level kind) (ports_from n (from_of places j level kind)) ≡ Some i
        → IsFirstFrom n (from_of places j level kind) (λ x. Requests rows before x j level kind) i
    granted_first level i kind level_in e =
        first_found n (from_of places j level kind) (λ x. is_request rows before x j level kind) (λ x. Requests rows before x j level kind)
        (λ x. Decides-request n rows before whole x j level kind level_in)
        (from_in n t rows places before whole at_ports ports_are j level kind j_in level_in) i e

    pub Grants-from_granted : (f : Fed) → granted n t rows places before j ≡ Some f → Grants n t rows places before f.input j f.level f.kind
    unfolding granted asked_rank
    Grants-from_granted f e =
        let all : Option Fed = option_and_then (granted_at n rows places before j) asked_rank in
        elim (cases_Bool (is_none (fed_of before j))) [
          | inr busy ↦ absurd (none-some f (sym (cond-false (is_none (fed_of before j)) all None busy) ∙ e))
          | inl vacant ↦
              let at_rank = option_and_then_from (granted_at n rows places before j) asked_rank f (sym (cond-true (is_none (fed_of before j)) all None vacant)
              ∙ e) in
              let rank : Rank = at_rank.0 in
              let best = found_rank t (λ m k. list_any (λ x. is_request rows before x j m k) (ports n)) (Asked j) (asked_level j)
              (asked_decides j) rank at_rank.1 in
              let picked = option_map_some (λ i. record { input = i; level = rank.level; kind = rank.kind })
              (find (λ x. is_request rows before x j rank.level rank.kind) (ports_from n (from_of places j rank.level rank.kind))) f at_rank.2 in
              let g : Grants n t rows places before picked.0 j rank.level rank.kind = record {
                output_in = j_in;
                output_free = none_from_test (fed_of before j) vacant;
                best = best;
                first = granted_first rank.level picked.0 rank.kind (asked_level j rank.level rank.kind best.there) picked.1;
              } in
              let Q : Fed → Type 0 = λ h. Grants n t rows places before h.input j h.level h.kind in
              subst Q picked.2 g
        ]

    pub granted_from_Grants : (i level : ℕ) (kind : Kind) → Grants n t rows places before i j level kind
        → granted n t rows places before j ≡ Some (record { input = i; level = level; kind = kind })
    unfolding granted asked_rank
    granted_from_Grants i level kind g =
        let all : Option Fed = option_and_then (granted_at n rows places before j) asked_rank in
        let rank : asked_rank ≡ Some (record { level = level; kind = kind }) =
        finds_rank t (λ m k. list_any (λ x. is_request rows before x j m k) (ports n)) (Asked j) (asked_level j) (asked_decides j) level kind g.best in
        let level_in = asked_level j level kind g.best.there in
        let first = finds_first n (from_of places j level kind) (λ x. is_request rows before x j level kind) (λ x. Requests rows before x j level kind)
        (λ x. Decides-request n rows before whole x j level kind level_in)
        (from_in n t rows places before whole at_ports ports_are j level kind j_in level_in) i g.first in
        cond-true (is_none (fed_of before j)) all None (ap is_none g.output_free)
        ∙ (ap (option_and_then (granted_at n rows places before j)) rank ∙ ap (option_map (λ x. record { input = x; level = level; kind = kind })) first)

  -- the grants as a list by outputs
  pub Serves-granted : (i j level : ℕ) (kind : Kind) → Serves (map (granted n t rows places before) (ports n)) i j level kind
      ↔ Grants n t rows places before i j level kind
  Serves-granted i j level kind =
      let f : Fed = record { input = i; level = level; kind = kind } in (
        λ s. let at = fed_of-ports_some (granted n t rows places before) n j f s in Grants-from_granted j at.0 f at.1,
        λ g. fed_of-ports (granted n t rows places before) n j g.output_in ∙ granted_from_Grants j g.output_in i level kind g,
      )

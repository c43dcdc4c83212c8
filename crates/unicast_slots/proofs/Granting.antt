-- What free outputs grant, output after output.
use Rattle.std.proofs.Common.{◌≡◌, ℕ, ◌<◌, ◌≤◌, ◌↔◌, List, Option, length, sym, subst, inl, arith}
use Rattle.rotating_pick.specs.PortSets.{Has}
use Rattle.rotating_pick.specs.Rotation.{IsFirstFrom}
use Rattle.rotating_pick.specs.declared.kinds.Kind.TheVariants.{Uni}
use Rattle.rotating_pick.specs.declared.limits.TheConstants.{MAX_PORTS}
use Rattle.rotating_pick.proofs.First.{IsFirstFrom-along, IsFirstFrom-only}
use Rattle.slot_match.specs.declared.rows.Row.{Row}
use Rattle.slot_match.specs.declared.matching.Fed.{Fed}
use Rattle.slot_match.specs.Rows.{Names, row_of}
use Rattle.slot_match.specs.Matches.{IsFreeInput, IsFreeOutput}
use Rattle.pointer_state.specs.Places.{AreAtPorts, Places, grant_of}
use Rattle.eslip_rounds.specs.Steps.{AreOffers, AreOpen}
use Rattle.unicast_slots.specs.declared.grants.Offers.{Offers}
use Rattle.unicast_slots.specs.RoundSteps.{GrantsUnicast, offers_of}
use Rattle.unicast_slots.specs.RowSteps.{AreAsking, IsAsked}

-- output j picks input i among these inputs that ask for it
abbrev pub Picks : ℕ → List Row → Places → ℕ → ℕ → ℕ → Type 0
Picks n rows places free i j = IsFirstFrom n (grant_of places j 0) (λ x. Has free x × Names (row_of rows x) 0 Uni j) i

-- the choice of the set of those that ask is this pick
pub Picks-chosen : (n from asking column free j i : ℕ) (rows : List Row) (places : Places) → length rows ≡ n → from ≡ grant_of places j 0
    → ((x : ℕ) → Has asking x ↔ (Has column x × Has free x)) → AreAsking rows j column
    → IsFirstFrom n from (Has asking) i ↔ Picks n rows places free i j
Picks-chosen n from asking column free j i rows places long from_is both asks =
    let Q : ℕ → Type 0 = λ x. Has free x × Names (row_of rows x) 0 Uni j in
    let to : (x : ℕ) → Has asking x → Q x = λ x has. let p = (both x).0 has in (p.1, ((asks x).0 p.0).1) in
    let back : (x : ℕ) → x < n → Q x → Has asking x = λ x x_in q. (both x).1 ((asks x).1 (omega (arith, long, x_in), q.1), q.0) in
    let F : ℕ → Type 0 = λ f. IsFirstFrom n f (Has asking) i in (
      λ first. IsFirstFrom-along n (grant_of places j 0) (Has asking) Q i (λ x x_in. (to x, back x x_in)) (subst F from_is first),
      λ first. subst F (sym from_is) (IsFirstFrom-along n (grant_of places j 0) Q (Has asking) i (λ x x_in. (back x x_in, to x)) first),
    )

-- the free outputs that some input asks for pick as all free outputs grant
pub GrantsUnicast-picked : (n free outputs asked wanted i j : ℕ) (rows : List Row) (places : Places) (before : List (Option Fed)) → n ≤ MAX_PORTS
    → length rows ≡ n → length before ≡ n → ((x : ℕ) → Has free x ↔ ((x < length before) × IsFreeInput before x))
    → ((y : ℕ) → Has outputs y ↔ ((y < length before) × IsFreeOutput before y))
    → ((y : ℕ) → Has asked y ↔ ((y < MAX_PORTS) × ((x : ℕ) × IsAsked rows x y))) → ((y : ℕ) → Has wanted y ↔ (Has outputs y × Has asked y))
    → (Has wanted j × Picks n rows places free i j) ↔ GrantsUnicast n rows places before i j
GrantsUnicast-picked n free outputs asked wanted i j rows places before size long count inputs free_outputs asks both =
    let P : ℕ → Type 0 = λ x. Has free x × Names (row_of rows x) 0 Uni j in
    let Q : ℕ → Type 0 = λ x. IsFreeInput before x × Names (row_of rows x) 0 Uni j in
    let to : (x : ℕ) → P x → Q x = λ x p. (((inputs x).0 p.0).1, p.1) in
    let back : (x : ℕ) → x < n → Q x → P x = λ x x_in q. ((inputs x).1 (omega (arith, count, x_in), q.0), q.1) in (
      λ p.
          let free_output = (free_outputs j).0 ((both j).0 p.0).0 in
          record {
            output_in = let below = free_output.0 in omega (arith, count);
            output_free = free_output.1;
            first = IsFirstFrom-along n (grant_of places j 0) P Q i (λ x x_in. (to x, back x x_in)) p.1;
          },
      λ g. (
        (both j).1 (
          (free_outputs j).1 (let below = g.output_in in omega (arith, count), g.output_free),
          (asks j).1 (let below = g.output_in in omega (arith, size), (i, (let below = g.first.below in omega (arith, long), g.first.member.1))),
        ),
        IsFirstFrom-along n (grant_of places j 0) Q P i (λ x x_in. (back x x_in, to x)) g.first,
      ),
    )

-- what the free outputs grant may be taken
pub AreOpen-granted : (n : ℕ) (rows : List Row) (places : Places) (before : List (Option Fed)) (offers : Offers) → AreAtPorts places → places.ports ≡ n
    → AreOffers (λ i j rank. GrantsUnicast n rows places before i j × (rank ≡ 0)) (offers_of offers) → AreOpen n Uni before (offers_of offers)
AreOpen-granted n rows places before offers at_ports ports o =
    record {
      each = λ i has.
          let s = o.some i has in
          record {
            input_in = s.1.0.first.below;
            rank_in = omega arith;
            some = (s.0, (o.listed i s.0 has).1 s.1);
            free = λ j h. let g = ((o.listed i j has).0 h).0 in (g.output_in, g.output_free);
            ready = inl s.1.0.first.member.0;
          };
      apart = λ i k j i_has k_has a b.
          let f = ((o.listed i j i_has).0 a).0 in
          let g = ((o.listed k j k_has).0 b).0 in
          let from_in : grant_of places j 0 < n = let below = (at_ports.pointing 0 (omega arith)).grant j (let out = f.output_in in omega arith) in
          omega arith in
          IsFirstFrom-only n (grant_of places j 0) (λ x. IsFreeInput before x × Names (row_of rows x) 0 Uni j) i k from_in f.first g.first;
    }

-- The choice of an output by the columns is its grant.
use Rattle.std.proofs.Common.{◌≡◌, ℕ, ◌<◌, ◌↔◌, List, Option, Some, sym, ap, subst, inl, inr, arith, slice_index}
use Rattle.std.proofs.lemmas.Bool.{cases_lt}
use Rattle.std.proofs.lemmas.Option.{same_Some}
use Rattle.rotating_pick.specs.Rotation.{IsFirstFrom}
use Rattle.rotating_pick.specs.declared.kinds.Kind.{Kind}
use Rattle.rotating_pick.specs.declared.kinds.Kind.TheVariants.{Uni, Multi}
use Rattle.rotating_pick.specs.declared.limits.TheConstants.{LEVELS}
use Rattle.rotating_pick.proofs.First.{IsFirstFrom-along, IsFirstFrom-only}
use Rattle.rotating_pick.proofs.Picking.{Decides, least}
use Rattle.slot_match.specs.declared.rows.Row.{Row}
use Rattle.slot_match.specs.declared.matching.Fed.{Fed}
use Rattle.slot_match.specs.Rows.{Names, row_of}
use Rattle.slot_match.specs.Matches.{IsFreeOutput}
use Rattle.slot_match.proofs.Sets.{zero-has, Has-or}
use Rattle.pointer_state.specs.Places.{Places, AreAtPorts}
use Rattle.eslip_rounds.specs.declared.asks.Asks.{Asks}
use Rattle.eslip_rounds.specs.declared.ranks.TheConstants.{RANKS}
use Rattle.eslip_rounds.specs.declared.grants.Choice.{Choice}
use Rattle.eslip_rounds.specs.declared.grants.Ready.{Ready}
use Rattle.eslip_rounds.specs.RankSteps.{level_at, kind_at, rank_of, set_at}
use Rattle.eslip_rounds.specs.Rounds.{preferred, from_of, Requests, Grants}
use Rattle.eslip_rounds.specs.Steps.{IsUsed, AreAsks, MayAsk, AreReady, AsksAt, IsChosen}
use Rattle.eslip_rounds.proofs.RankLemmas.{kind_at-rank_of, level_at-rank_of, rank_of-at, rank_of-lt, rank_of-high, level_at-lt, set_at-lt, Names-set}
use Rattle.eslip_rounds.proofs.Bests.{IsBest-from_rank, IsBest-to_rank}

-- at which level something is asked
pub level_asked : (rows : List Row) (before : List (Option Fed)) (i j level : ℕ) (kind : Kind) → Requests rows before i j level kind → level < LEVELS
level_asked rows before i j level kind r = elim r [ inl free ↦ free.1.level_in | inr on ↦ on.level_in ]

-- every output picks from a port
pub from_of-lt : (places : Places) → AreAtPorts places → (j level : ℕ) (kind : Kind) → j < places.ports → level < LEVELS
    → from_of places j level kind < places.ports
from_of-lt places at_ports j level Uni j_in level_in = (at_ports.pointing level level_in).grant j j_in
from_of-lt places at_ports j level Multi j_in level_in = (at_ports.pointing level level_in).shared

module _ (n : ℕ) (first_kind : Kind) (asks : Asks) (ready : Ready) (places : Places) (j : ℕ) where
  asks-decides : (rank i : ℕ) → Decides (AsksAt first_kind asks ready j rank i)
  asks-decides rank i = elim (Has-or ready.ranks rank) [
    | inr lacks ↦ inr (λ p. lacks p.0.0)
    | inl occurs ↦ elim (Has-or _ i) [
      | inr lacks ↦ inr (λ p. lacks p.0.1)
      | inl named ↦ elim (Has-or (slice_index ready.inputs rank) i) [ inr lacks ↦ inr (λ p. lacks p.1) | inl has ↦ inl ((occurs, named), has) ]
    ]
  ]

  -- an output chooses once
  pub IsChosen-only : (f g : Choice) → from_of places j (level_at f.rank) (kind_at first_kind f.rank) < n → IsChosen n first_kind asks ready places j f
      → IsChosen n first_kind asks ready places j g → f ≡ g
  IsChosen-only f g from_in a b =
      let ranks : f.rank ≡ g.rank = elim (cases_lt f.rank g.rank) [
        | inl less ↦ absurd (b.best f.rank f.input less a.picked.member)
        | inr more ↦ elim (cases_lt g.rank f.rank) [ inl less ↦ absurd (a.best g.rank g.input less b.picked.member) | inr same ↦ omega arith ]
      ] in
      let P : ℕ → Type 0 = λ r. IsFirstFrom n (from_of places j (level_at r) (kind_at first_kind r)) (AsksAt first_kind asks ready j r) g.input in
      let inputs = IsFirstFrom-only n (from_of places j (level_at f.rank) (kind_at first_kind f.rank))
      (AsksAt first_kind asks ready j f.rank) f.input g.input from_in a.picked (subst P (sym ranks) b.picked) in
      λ t. record { rank = ranks t; input = inputs t }

  pub Some-iff_chosen : (f g : Choice) → from_of places j (level_at f.rank) (kind_at first_kind f.rank) < n → IsChosen n first_kind asks ready places j f
      → (Some f ≡ Some g) ↔ IsChosen n first_kind asks ready places j g
  Some-iff_chosen f g from_in a = (λ e. subst (IsChosen n first_kind asks ready places j) (same_Some f g e) a, λ b. ap Some (IsChosen-only f g from_in a b))

module _ (n t : ℕ) (rows : List Row) (asks : Asks) (ready : Ready) (before : List (Option Fed)) (are : AreAsks n rows asks)
    (readies : AreReady n (preferred t) asks before ready) (j : ℕ) (j_in : j < n) where
  -- an input that may ask and names the output stands in the column
  AsksAt-named : (x m : ℕ) (k : Kind) → x < n → m < LEVELS → MayAsk before m k x → Names (row_of rows x) m k j
      → AsksAt (preferred t) asks ready j (rank_of (preferred t) m k) x
  AsksAt-named x m k x_in level_in may named =
      let first_kind = preferred t in
      let rank = rank_of first_kind m k in
      let rank_in : rank < RANKS = rank_of-lt first_kind m k level_in in
      let level_is : level_at rank ≡ m = level_at-rank_of first_kind m k in
      let kind_is : kind_at first_kind rank ≡ k = kind_at-rank_of first_kind m k in
      let P : ℕ → Type 0 = λ l. Names (row_of rows x) l k j × MayAsk before l k x in
      let Q : Kind → Type 0 = λ q. Names (row_of rows x) (level_at rank) q j × MayAsk before (level_at rank) q x in
      let here = subst Q (sym kind_is) (subst P (sym level_is) (named, may)) in
      let set = set_at first_kind rank in
      let set_in = set_at-lt first_kind rank rank_in in
      let there = (Names-set (row_of rows x) first_kind rank j).0 here.0 in
      let used : IsUsed asks set = λ none. zero-has (slice_index asks.outputs set) j none (are.outputs set x j set_in x_in there) in
      let occurs = (readies.ranks rank).1 (rank_in, used) in
      ((occurs, (are.columns set x j set_in used j_in).1 (x_in, there)), (readies.inputs rank x occurs).1 (x_in, here.1))

  -- an input in the column of a rank that occurs names the output there
  named_in : (rank x : ℕ) → AsksAt (preferred t) asks ready j rank x → (x < n) × Names (row_of rows x) (level_at rank) (kind_at (preferred t) rank) j
  named_in rank x p =
      let occurs = (readies.ranks rank).0 p.0.0 in
      let there = (are.columns (set_at (preferred t) rank) x j (set_at-lt (preferred t) rank occurs.0) occurs.1 j_in).0 p.0.1 in
      (there.0, (Names-set (row_of rows x) (preferred t) rank j).1 there.1)

  -- what is asked stands in the columns
  pub AsksAt-asked : (x m : ℕ) (k : Kind) → x < n → Requests rows before x j m k → AsksAt (preferred t) asks ready j (rank_of (preferred t) m k) x
  AsksAt-asked x m k x_in r =
      let S : Kind → Type 0 = λ q. Names (row_of rows x) m q j in
      elim r [
        | inl p ↦ AsksAt-named x m k x_in p.1.level_in (inl p.0) p.1.named
        | inr on ↦ AsksAt-named x m k x_in on.level_in (inr (on.multicast, on.going_on)) (subst S (sym on.multicast) on.named)
      ]

  -- and what stands in the columns at the lowest rank is asked
  pub asked_at_least : (rank x : ℕ) → rank < RANKS → AsksAt (preferred t) asks ready j rank x
      → ((r y : ℕ) → r < rank → AsksAt (preferred t) asks ready j r y → ⊥) → Requests rows before x j (level_at rank) (kind_at (preferred t) rank)
  asked_at_least rank x rank_in p none =
      let first_kind = preferred t in
      let named = named_in rank x p in
      let may = (readies.inputs rank x p.0.0).0 p.1 in
      let level_in = level_at-lt rank rank_in in
      elim may.1 [
        | inl free ↦ inl (
          free,
          record {
            level_in = level_in;
            named = named.1;
            best = λ better other lt h.
                let high = rank_of-high first_kind better other in
                let lower : rank_of first_kind better other < rank = omega arith in
                let better_in : better < LEVELS = omega arith in
                none (rank_of first_kind better other) x lower (AsksAt-named x better other named.0 better_in (inl free) h);
          },
        )
        | inr on ↦
            let S : Kind → Type 0 = λ q. Names (row_of rows x) (level_at rank) q j in
            inr (record { level_in = level_in; going_on = on.1; multicast = on.0; named = subst S on.0 named.1 })
      ]

  column_in : (rank x : ℕ) → AsksAt (preferred t) asks ready j rank x → x < n
  column_in rank x p = (named_in rank x p).0

  module _ (places : Places) (vacant : IsFreeOutput before j) where
    pub Grants-from_chosen : (rank i : ℕ) → IsChosen n (preferred t) asks ready places j (record { rank = rank; input = i })
        → Grants n t rows places before i j (level_at rank) (kind_at (preferred t) rank)
    Grants-from_chosen rank i c =
        let first_kind = preferred t in
        let P : ℕ → Kind → Type 0 = λ m k. (x : ℕ) × (x < n) × Requests rows before x j m k in
        let asked = λ (x : ℕ) (p : AsksAt (preferred t) asks ready j rank x). asked_at_least rank x c.rank_in p c.best in
        let back : (x : ℕ) → x < n → Requests rows before x j (level_at rank) (kind_at first_kind rank) → AsksAt (preferred t) asks ready j rank x = λ x x_in r.
        subst (λ m. AsksAt (preferred t) asks ready j m x) (rank_of-at first_kind rank) (AsksAt-asked x (level_at rank) (kind_at first_kind rank) x_in r) in
        record {
          output_in = j_in;
          output_free = vacant;
          best = IsBest-from_rank t P rank (i, c.picked.below, asked i c.picked.member)
              (λ m k p. elim (cases_lt (rank_of first_kind m k) rank) [
                | inl lower ↦ absurd
                    (c.best (rank_of first_kind m k) p.0 lower (AsksAt-asked p.0 m k p.1 p.2))
                | inr above ↦ above
              ]);
          first = IsFirstFrom-along n (from_of places j (level_at rank) (kind_at first_kind rank)) (AsksAt (preferred t) asks ready j rank)
              (λ x. Requests rows before x j (level_at rank) (kind_at first_kind rank)) i
              (λ x x_in. (asked x, back x x_in)) c.picked;
        }

    pub chosen_from_grants : (i m : ℕ) (k : Kind) → Grants n t rows places before i j m k
        → IsChosen n (preferred t) asks ready places j (record { rank = rank_of (preferred t) m k; input = i })
    chosen_from_grants i m k g =
        let first_kind = preferred t in
        let rank = rank_of first_kind m k in
        let P : ℕ → Kind → Type 0 = λ l q. (x : ℕ) × (x < n) × Requests rows before x j l q in
        let level_in = level_asked rows before i j m k g.first.member in
        let rank_in = rank_of-lt first_kind m k level_in in
        let Some_asks : ℕ → Type 0 = λ r. (x : ℕ) × (x < n) × AsksAt (preferred t) asks ready j r x in
        let asks_there = asks-decides n first_kind asks ready places j in
        let decides : (r : ℕ) → Decides (Some_asks r) = λ r. elim (least (AsksAt (preferred t) asks ready j r) (asks_there r) n) [
          | inl found ↦ inl (found.0, found.1, found.2)
          | inr none ↦ inr (λ p. none p.0 p.1 p.2)
        ] in
        let none_lower : (r x : ℕ) → r < rank → AsksAt (preferred t) asks ready j r x → ⊥ = λ r x lower p. elim (least Some_asks decides rank) [
          | inr none ↦ none r lower (x, column_in r x p, p)
          | inl found ↦
              let low = found.0 in
              let low_in : low < RANKS = let below = found.1 in omega arith in
              let none_below : (q y : ℕ) → q < low → AsksAt (preferred t) asks ready j q y → ⊥ = λ q y less h. found.3 q less (y, column_in q y h, h) in
              let asked = asked_at_least low found.2.0 low_in found.2.2 none_below in
              let above = IsBest-to_rank t P m k g.best (level_at low) (kind_at first_kind low) (found.2.0, found.2.1, asked) in
              let at = rank_of-at first_kind low in
              absurd (let below = found.1 in omega arith)
        ] in
        let level_is : level_at rank ≡ m = level_at-rank_of first_kind m k in
        let kind_is : kind_at first_kind rank ≡ k = kind_at-rank_of first_kind m k in
        let asked : (x : ℕ) → AsksAt (preferred t) asks ready j rank x → Requests rows before x j m k = λ x p.
        let here = asked_at_least rank x rank_in p none_lower in
        let R : ℕ → Type 0 = λ l. Requests rows before x j l (kind_at first_kind rank) in
        let S : Kind → Type 0 = λ q. Requests rows before x j m q in
        subst S kind_is (subst R level_is here) in
        let first_here = IsFirstFrom-along n (from_of places j m k) (λ x. Requests rows before x j m k) (AsksAt (preferred t) asks ready j rank) i
        (λ x x_in. (AsksAt-asked x m k x_in, asked x)) g.first in
        let F : ℕ → Type 0 = λ l. IsFirstFrom n (from_of places j l k) (AsksAt (preferred t) asks ready j rank) i in
        let G : Kind → Type 0 = λ q. IsFirstFrom n (from_of places j (level_at rank) q) (AsksAt (preferred t) asks ready j rank) i in
        record { rank_in = rank_in; picked = subst G (sym kind_is) (subst F (sym level_is) first_here); best = none_lower }

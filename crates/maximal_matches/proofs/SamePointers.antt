-- Pointers at the same ports make the same rounds, whatever their tables have beyond the levels and ports.
use Rattle.std.proofs.Common.{◌≡◌, ℕ, ◌<◌, ◌≤◌, List, [], ◌∷◌, Option, map, sym, subst, inl, inr, arith}
use Rattle.std.specs.List.{range_with_len}
use Rattle.std.proofs.lemmas.List.FromFn.{length-map-range_with_len, get_or-map-range_with_len}
use Rattle.std_lemmas.proofs.Numbers.{below_by}
use Rattle.rotating_pick.specs.Rotation.{IsFirstFrom}
use Rattle.rotating_pick.specs.declared.kinds.Kind.{Kind}
use Rattle.rotating_pick.specs.declared.kinds.Kind.TheVariants.{Uni, Multi}
use Rattle.rotating_pick.specs.declared.limits.TheConstants.{LEVELS, MAX_PORTS}
use Rattle.slot_match.specs.declared.rows.Row.{Row}
use Rattle.slot_match.specs.declared.matching.Fed.{Fed}
use Rattle.pointer_state.specs.Places.{Places, AreAtPorts, ArePointing, grant_of, accept_of, shared_of}
use Rattle.eslip_rounds.specs.Decisions.{table_of}
use Rattle.eslip_rounds.specs.Rounds.{from_of, Requests, Takes, Grants, IsAccepted, Accepts, IsRound, AreRounds}
use Rattle.eslip_rounds.proofs.Bests.{IsAccepted-along}
use Rattle.eslip_rounds.proofs.Choosing.{level_asked}
use Rattle.eslip_rounds.proofs.Placing.{IsTable-table_of, table_at}

-- the pointers of n ports are at the same ports
pub record AreSame (n : ℕ) (p q : Places) : Type 0 where
  pub grant : (j level : ℕ) → j < n → level < LEVELS → grant_of p j level ≡ grant_of q j level
  pub accept : (i level : ℕ) → i < n → level < LEVELS → accept_of p i level ≡ accept_of q i level
  pub shared : (level : ℕ) → level < LEVELS → shared_of p level ≡ shared_of q level

AreSame-sym : (n : ℕ) (p q : Places) → AreSame n p q → AreSame n q p
AreSame-sym n p q same =
    record {
      grant = λ j level j_in level_in. sym (same.grant j level j_in level_in);
      accept = λ i level i_in level_in. sym (same.accept i level i_in level_in);
      shared = λ level level_in. sym (same.shared level level_in);
    }

from_of-same : (n : ℕ) (p q : Places) → AreSame n p q → (j level : ℕ) (kind : Kind) → j < n → level < LEVELS → from_of p j level kind ≡ from_of q j level kind
from_of-same n p q same j level Uni j_in level_in = same.grant j level j_in level_in
from_of-same n p q same j level Multi j_in level_in = same.shared level level_in

module _ (n t : ℕ) (rows : List Row) where
  Grants-same : (p q : Places) → AreSame n p q → (before : List (Option Fed)) (i j level : ℕ) (kind : Kind) → Grants n t rows p before i j level kind
      → Grants n t rows q before i j level kind
  Grants-same p q same before i j level kind g =
      let level_in = level_asked rows before i j level kind g.first.member in
      record {
        output_in = g.output_in;
        output_free = g.output_free;
        best = g.best;
        first = subst (λ from. IsFirstFrom n from (λ x. Requests rows before x j level kind) i)
            (from_of-same n p q same j level kind g.output_in level_in) g.first;
      }

  Accepts-same : (p q : Places) → AreSame n p q → (before : List (Option Fed)) (i j level : ℕ) (kind : Kind) → Accepts n t rows p before i j level kind
      → Accepts n t rows q before i j level kind
  Accepts-same p q same before i j level kind a =
      let g = a.best.there in
      let level_in = level_asked rows before i g.0 level kind g.1.first.member in
      let there : IsAccepted n t p (Grants n t rows q before) i j level kind =
      IsAccepted-along n t p (Grants n t rows p before) (Grants n t rows q before)
      (λ x y m k. (Grants-same p q same before x y m k, Grants-same q p (AreSame-sym n p q same) before x y m k)) i j level kind a in
      record {
        best = there.best;
        taken = subst (λ from. Takes kind n from (λ y. Grants n t rows q before i y level kind) j) (same.accept i level g.1.first.below level_in) there.taken;
      }

  IsRound-same : (p q : Places) → AreSame n p q → (before after : List (Option Fed)) → IsRound n t rows p before after → IsRound n t rows q before after
  IsRound-same p q same before after r =
      record {
        count = r.count;
        pairs = λ i j level kind. (
          λ served. elim ((r.pairs i j level kind).0 served) [ inl old ↦ inl old | inr a ↦ inr (Accepts-same p q same before i j level kind a) ],
          λ either. elim either [
            | inl old ↦ (r.pairs i j level kind).1 (inl old)
            | inr a ↦ (r.pairs i j level kind).1 (inr (Accepts-same q p (AreSame-sym n p q same) before i j level kind a))
          ],
        );
      }

  pub AreRounds-same : (p q : Places) → AreSame n p q → (before : List (Option Fed)) (steps : List (List (Option Fed))) → AreRounds n t rows p before steps
      → AreRounds n t rows q before steps
  AreRounds-same p q same before [] chain = tt
  AreRounds-same p q same before (step ∷ steps) chain = (IsRound-same p q same before step chain.0, AreRounds-same p q same step steps chain.1)

-- all pointers of n ports are at ports
abbrev pub AreAllPointing : ℕ → Places → Type 0
AreAllPointing n places = (level : ℕ) → level < LEVELS → ArePointing n level places

-- the same pointers in whole tables
abbrev pub in_tables : ℕ → Places → Places
in_tables n places =
    record {
      ports = n;
      grant = table_of (λ level j. grant_of places j level);
      accept = table_of (λ level i. accept_of places i level);
      shared = map (shared_of places) (range_with_len 0 LEVELS);
    }

module _ (n : ℕ) (places : Places) (some : 0 < n) (size : n ≤ MAX_PORTS) where
  pub AreSame-in_tables : AreSame n places (in_tables n places)
  AreSame-in_tables =
      record {
        grant = λ j level j_in level_in. sym (table_at (λ l y. grant_of places y l) level j level_in (omega arith));
        accept = λ i level i_in level_in. sym (table_at (λ l y. accept_of places y l) level i level_in (omega arith));
        shared = λ level level_in. sym (get_or-map-range_with_len (shared_of places) 0 LEVELS level level 0 level_in (omega arith));
      }

  pub AreAtPorts-in_tables : AreAllPointing n places → AreAtPorts (in_tables n places)
  AreAtPorts-in_tables pointing =
      let same = AreSame-in_tables in
      record {
        some = some;
        size = size;
        grant_table = IsTable-table_of (λ level j. grant_of places j level);
        accept_table = IsTable-table_of (λ level i. accept_of places i level);
        shared_levels = length-map-range_with_len (shared_of places) 0 LEVELS;
        pointing = λ level level_in.
            let here = pointing level level_in in
            record {
              grant = λ j j_in. below_by n (grant_of (in_tables n places) j level) (grant_of places j level)
                  (sym (same.grant j level j_in level_in)) (here.grant j j_in);
              accept = λ i i_in. below_by n (accept_of (in_tables n places) i level) (accept_of places i level)
                  (sym (same.accept i level i_in level_in)) (here.accept i i_in);
              shared = below_by n (shared_of (in_tables n places) level) (shared_of places level) (sym (same.shared level level_in)) here.shared;
            };
      }

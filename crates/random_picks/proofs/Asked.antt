-- Each pair of a match was asked.
use Rattle.std.proofs.Common.{◌≡◌, ◌∙◌, ◌<◌, ◌&&◌, ℕ, zero, suc, Bool, true, false, if◌then◌else◌, List, [], Option, None, Some}
use Rattle.std.proofs.Common.{filter, is_none, map, slice_get, slice_index, All, refl, sym, subst, arith, inl, inr}
use Rattle.std.specs.List.{range_with_len}
use Rattle.std.proofs.lemmas.Bool.{cases_eq}
use Rattle.std.proofs.lemmas.List.Elements.{All-filter}
use Rattle.std.proofs.lemmas.List.FromFn.{get_or-map-range_with_len, get_or-range_with_len, length-map-range_with_len, length-range_with_len}
use Rattle.std.proofs.lemmas.Option.{get_or_from_slice_get, none-some, same_Some, slice_get_within}
use Rattle.rotating_pick.specs.declared.kinds.Kind.{Kind}
use Rattle.rotating_pick.specs.declared.kinds.Kind.TheVariants.{Uni}
use Rattle.slot_match.specs.declared.rows.Row.{Row}
use Rattle.slot_match.specs.declared.matching.Fed.{Fed}
use Rattle.slot_match.specs.Matches.{Serves, fed_of}
use Rattle.slot_match.specs.Rows.{Names, row_of}
use Rattle.slot_match.proofs.Pairs.{fed_of-lt}
use Rattle.std_lemmas.proofs.Lists.{get_or-same}
use Rattle.islip_rounds.specs.Numbers.{last_of}
use Rattle.random_picks.specs.Rounds.{RandomMatch, RandomRounds, accepted, asking, asks, fed_by, granted, is_free, is_port, round, rounds_made, with_round}
use Rattle.random_picks.proofs.Filters.{filtered-passes}
use Rattle.random_picks.proofs.Listing.{has-member}
use Rattle.random_picks.proofs.Picking.{picked-from}
use Rattle.random_picks.proofs.Rounding.{with-more, with-still}

-- what feeds an output was asked for
abbrev IsAsked : ℕ → List Row → ℕ → Fed → Type 0
IsAsked n rows j f = (f.input < n) × (f.level ≡ 0) × (f.kind ≡ Uni) × Names (row_of rows f.input) 0 Uni j

abbrev AreAllAsked : ℕ → List Row → List (Option Fed) → Type 0
AreAllAsked n rows matched = (j : ℕ) (f : Fed) → fed_of matched j ≡ Some f → IsAsked n rows j f

second_true : (a b : Bool) → (a && b) ≡ true → b ≡ true
second_true true b is = is
second_true false b is = absurd cc

below-range : (n : ℕ) → All (λ x. x < n) (range_with_len 0 n)
below-range n k d below =
    let inside : k < n = omega (arith, below, length-range_with_len 0 n) in
    subst (λ (x : ℕ). x < n) (sym (get_or-range_with_len 0 n k d inside)) (omega (arith, inside))

filtered-below : (p : ℕ → Bool) (n k x : ℕ) → slice_get (filter p (range_with_len 0 n)) k ≡ Some x → x < n
filtered-below p n k x is =
    subst (λ (y : ℕ). y < n) (get_or_from_slice_get (filter p (range_with_len 0 n)) k x x is)
    (All-filter p (λ y. y < n) (range_with_len 0 n) (below-range n) k x (slice_get_within (filter p (range_with_len 0 n)) k x is))

module _ (n : ℕ) (rows : List Row) where
  -- who is granted has asked
  granted-asked : (before : RandomMatch) (j x : ℕ) → granted n rows before j ≡ Some x → (x < n) × Names (row_of rows x) 0 Uni j
  granted-asked before j x is =
      let from = picked-from (asking n rows before.matched j) _ x is in
      go (is_none (fed_of before.matched j)) from.0 from.1
    where
      go : (b : Bool) (k : ℕ) → slice_get (if b then filter (λ i. is_free before.matched i && asks rows i j) (range_with_len 0 n) else []) k ≡ Some x
          → (x < n) × Names (row_of rows x) 0 Uni j
      go true k found =
          let passes = filtered-passes (λ i. is_free before.matched i && asks rows i j) (range_with_len 0 n) k x found in (
            filtered-below (λ i. is_free before.matched i && asks rows i j) n k x found,
            has-member (slice_index (row_of rows x).uni 0) j (second_true (is_free before.matched x) (asks rows x j) passes),
          )
      go false k found = absurd (none-some x found)

  fed-asked : (before : RandomMatch) (j : ℕ) → AreAllAsked n rows before.matched → (o : Option ℕ) → granted n rows before j ≡ o → (f : Fed)
      → fed_by (accepted n rows before) j (fed_of before.matched j) o ≡ Some f → IsAsked n rows j f
  fed-asked before j all None grants f fed = all j f fed
  fed-asked before j all (Some x) grants f fed = go (is_port j (accepted n rows before x)) fed
    where
      go : (b : Bool) → (if b then Some (record { input = x; level = 0; kind = Uni }) else fed_of before.matched j) ≡ Some f → IsAsked n rows j f
      go true is =
          let asked = granted-asked before j x grants in
          let pair : Fed = record { input = x; level = 0; kind = Uni } in
          subst (IsAsked n rows j) (same_Some pair f is) (asked.0, refl, refl, asked.1)
      go false is = all j f is

  round-asked : (before : RandomMatch) → AreAllAsked n rows before.matched → AreAllAsked n rows (round n rows before).matched
  unfolding round
  round-asked before all j f fed =
      let feeds = λ (k : ℕ). fed_by (accepted n rows before) k (fed_of before.matched k) (granted n rows before k) in
      let inside : j < n = omega (arith, fed_of-lt (map feeds (range_with_len 0 n)) j f fed, length-map-range_with_len feeds 0 n) in
      fed-asked before j all (granted n rows before j) refl f
      (sym (get_or-map-range_with_len feeds 0 n j j None inside (omega arith)) ∙ fed)

  with-asked : (before : RandomRounds) → AreAllAsked n rows before.made.matched → AreAllAsked n rows (with_round n rows before).made.matched
  with-asked before all = elim (cases_eq (last_of 1 before.added) 0) [
    | inl none ↦ subst (λ (made : RandomRounds). AreAllAsked n rows made.made.matched) (sym (with-still n rows before none)) all
    | inr some ↦ subst (λ (made : RandomRounds). AreAllAsked n rows made.made.matched) (sym (with-more n rows before some)) (round-asked before.made all)
  ]

  rounds-asked : (stream k : ℕ) → AreAllAsked n rows (rounds_made n rows stream k).made.matched
  unfolding rounds_made
  rounds-asked stream zero = λ j f fed. absurd (none-some f (sym (get_or-same None n j) ∙ fed))
  rounds-asked stream (suc k) = with-asked (rounds_made n rows stream k) (rounds-asked stream k)

  pub pairs-asked : (rounds stream i j level : ℕ) (kind : Kind) → Serves (rounds_made n rows stream rounds).made.matched i j level kind
      → (i < n) × (level ≡ 0) × (kind ≡ Uni) × Names (row_of rows i) 0 Uni j
  pairs-asked rounds stream i j level kind serves = rounds-asked stream rounds j (record { input = i; level = level; kind = kind }) serves

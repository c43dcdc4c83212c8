-- A round in which rows name unicast of one level alone is a round of iSLIP.
use Rattle.std.proofs.Common.{◌≡◌, ℕ, ◌<◌, ◌≤◌, ◌↔◌, ◌∙◌, List, Option, None, Some, length, map, slice_index, slice_index_or, refl, sym, ap, subst, inl}
use Rattle.std.proofs.Common.{inr, arith}
use Rattle.std.specs.List.{range_with_len}
use Rattle.std.specs.Option.{option_map}
use Rattle.std.proofs.Math.ListN.{get_or-map}
use Rattle.std.proofs.lemmas.Bool.{cases_lt}
use Rattle.std.proofs.lemmas.List.{get_or_past}
use Rattle.std.proofs.lemmas.List.FromFn.{length-map-range_with_len, get_or-map-range_with_len}
use Rattle.std.proofs.lemmas.Option.{same_Some, none-some}
use Rattle.rotating_pick.specs.PortSets.{Has}
use Rattle.rotating_pick.specs.declared.kinds.Kind.{Kind}
use Rattle.rotating_pick.specs.declared.kinds.Kind.TheVariants.{Uni, Multi}
use Rattle.rotating_pick.specs.declared.limits.TheConstants.{LEVELS, MAX_PORTS}
use Rattle.rotating_pick.proofs.First.{IsFirstFrom-along}
use Rattle.slot_match.specs.declared.rows.Row.{Row}
use Rattle.slot_match.specs.declared.matching.Fed.{Fed}
use Rattle.slot_match.specs.Rows.{Names, row_of, no_row}
use Rattle.slot_match.specs.Matches.{fed_of, Serves, IsFreeInput, IsFreeOutput}
use Rattle.slot_match.proofs.Pairs.{Serves-from, Serves-along}
use Rattle.pointer_state.specs.Places.{Places, accept_of, grant_of}
use Rattle.islip_rounds.specs.Rounds as islip
use Rattle.eslip_rounds.specs.Rounds.{preferred, Requests, IsBest, Grants, Accepts, IsRound}
use Rattle.eslip_rounds.specs.OneLevel.{AreUnicastOf, unicast_of, pointers_of, inputs_of}
use Rattle.eslip_rounds.proofs.Bests.{taken_from}

-- all pairs are unicast of the level
pub record ArePairsOf (level : ℕ) (matched : List (Option Fed)) : Type 0 where
  pub pairs : (i j l : ℕ) (k : Kind) → Serves matched i j l k → (l ≡ level) × (k ≡ Uni)
  pub long : length matched ≤ MAX_PORTS

-- what feeds an output, of a match of no more ports than a switch can have
pub inputs_at : (matched : List (Option Fed)) → length matched ≤ MAX_PORTS → (j : ℕ)
    → slice_index_or (inputs_of matched) j None ≡ option_map (λ fed. fed.input) (fed_of matched j)
unfolding inputs_of
inputs_at matched long j =
    let input : ℕ → Option ℕ = λ y. option_map (λ fed. fed.input) (fed_of matched y) in
    elim (cases_lt j MAX_PORTS) [
      | inl j_in ↦ get_or-map-range_with_len input 0 MAX_PORTS j j None j_in (omega arith)
      | inr above ↦
          get_or_past (map input (range_with_len 0 MAX_PORTS)) j None (let size = length-map-range_with_len input 0 MAX_PORTS in omega arith)
          ∙ sym (ap (option_map (λ fed. fed.input)) (get_or_past matched j None (omega arith)))
    ]

fed_input : (o : Option Fed) (i : ℕ) → option_map (λ fed. fed.input) o ≡ Some i → (f : Fed) × (o ≡ Some f) × (f.input ≡ i)
fed_input None i e = absurd (none-some i e)
fed_input (Some f) i e = (f, refl, same_Some f.input i e)

not_fed : (o : Option Fed) → option_map (λ fed. fed.input) o ≡ None → o ≡ None
not_fed None e = refl
not_fed (Some f) e = absurd (none-some f.input (sym e))

module _ (level : ℕ) (matched : List (Option Fed)) (are : ArePairsOf level matched) where
  pub feeds : (i j : ℕ) → islip.Feeds (inputs_of matched) i j ↔ Serves matched i j level Uni
  feeds i j = (
    λ e.
        let found = fed_input (fed_of matched j) i (sym (inputs_at matched are.long j) ∙ e) in
        let f = found.0 in
        let s : Serves matched f.input j f.level f.kind = Serves-from matched j f found.1 in
        let only = are.pairs f.input j f.level f.kind s in
        let P : ℕ → Type 0 = λ x. Serves matched x j level Uni in
        subst P found.2 (Serves-along matched f.input j f.level level f.kind Uni only.0 only.1 s),
    λ s. inputs_at matched are.long j ∙ ap (option_map (λ fed. fed.input)) s,
  )

  pub free_output : (j : ℕ) → islip.IsFreeOutput (inputs_of matched) j ↔ IsFreeOutput matched j
  free_output j = (
    λ e. not_fed (fed_of matched j) (sym (inputs_at matched are.long j) ∙ e),
    λ e. inputs_at matched are.long j ∙ ap (option_map (λ fed. fed.input)) e,
  )

  pub free_input : (i : ℕ) → islip.IsFreeInput (inputs_of matched) i ↔ IsFreeInput matched i
  free_input i = (
    λ free j l k s. let only = are.pairs i j l k s in free j ((feeds i j).1 (Serves-along matched i j l level k Uni only.0 only.1 s)),
    λ free j f. free j level Uni ((feeds i j).0 f),
  )

-- what a row names as unicast of the level
named_of : (level : ℕ) (rows : List Row) (i : ℕ) → slice_index (unicast_of level rows) i ≡ slice_index ((row_of rows i).uni) level
named_of level rows i = get_or-map (λ (row : Row). slice_index row.uni level) rows i no_row

module _ (n t level : ℕ) (rows : List Row) (places : Places) (level_in : level < LEVELS) (unicast : AreUnicastOf level rows) (before : List (Option Fed))
    (are : ArePairsOf level before) where
  asked : (i j : ℕ) → Has (slice_index (unicast_of level rows) i) j ↔ Names (row_of rows i) level Uni j
  asked i j = (λ has. subst (λ set. Has set j) (named_of level rows i) has, λ named. subst (λ set. Has set j) (sym (named_of level rows i)) named)

  requests : (i j : ℕ) → islip.Requests (unicast_of level rows) (inputs_of before) i j ↔ Requests rows before i j level Uni
  requests i j = (
    λ r.
        inl (
          (free_input level before are i).0 r.0,
          record {
            level_in = level_in;
            named = (asked i j).0 r.1;
            best = λ better other lt named. let same = (unicast i j better other named).0 in
                absurd (omega arith);
          },
        ),
    λ r. elim r [
      | inl p ↦ ((free_input level before are i).1 p.0, (asked i j).1 p.1.named)
      | inr on ↦ let never = on.multicast in absurd (cc)
    ],
  )

  -- nothing else is requested
  requests_only : (i j m : ℕ) (k : Kind) → Requests rows before i j m k → (m ≡ level) × (k ≡ Uni)
  requests_only i j m k r = elim r [
    | inl p ↦ unicast i j m k p.1.named
    | inr on ↦ let never = (unicast i j m Multi on.named).1 in absurd (cc)
  ]

  best_of : (P : ℕ → Kind → Type 0) → ((m : ℕ) (k : Kind) → P m k → (m ≡ level) × (k ≡ Uni)) → P level Uni → IsBest t P level Uni
  best_of P only there =
      record {
        there = there;
        least = λ m k p. let same = (only m k p).0 in omega arith;
        preferred_first = λ p. sym ((only level (preferred t) p).1);
      }

  grants : (i j : ℕ) → islip.Grants n (unicast_of level rows) (pointers_of level places) (inputs_of before) i j ↔ Grants n t rows places before i j level Uni
  grants i j = (
    λ g. record {
      output_in = g.output_in;
      output_free = (free_output level before are j).0 g.output_free;
      best = best_of (λ m k. (x : ℕ) × (x < n) × Requests rows before x j m k) (λ m k p. requests_only p.0 j m k p.2)
          (i, g.first.below, (requests i j).0 g.first.member);
      first = IsFirstFrom-along n (grant_of places j level) (λ x. islip.Requests (unicast_of level rows) (inputs_of before) x j)
          (λ x. Requests rows before x j level Uni) i (λ y y_in. requests y j) g.first;
    },
    λ g. record {
      output_in = g.output_in;
      output_free = (free_output level before are j).1 g.output_free;
      first = IsFirstFrom-along n (grant_of places j level) (λ x. Requests rows before x j level Uni)
          (λ x. islip.Requests (unicast_of level rows) (inputs_of before) x j) i (λ y y_in. ((requests y j).1, (requests y j).0)) g.first;
    },
  )

  grants_only : (i j m : ℕ) (k : Kind) → Grants n t rows places before i j m k → (m ≡ level) × (k ≡ Uni)
  grants_only i j m k g = requests_only i j m k g.first.member

  accepts : (i j : ℕ) → islip.Accepts n (unicast_of level rows) (pointers_of level places) (inputs_of before) i j ↔ Accepts n t rows places before i j level Uni
  accepts i j = (
    λ a. record {
      best = best_of (λ m k. (y : ℕ) × Grants n t rows places before i y m k) (λ m k p. grants_only i p.0 m k p.1) (j, (grants i j).0 a.member);
      taken = IsFirstFrom-along n (accept_of places i level) (λ y. islip.Grants n (unicast_of level rows) (pointers_of level places) (inputs_of before) i y)
          (λ y. Grants n t rows places before i y level Uni) j (λ y y_in. grants i y) a;
    },
    λ a. IsFirstFrom-along n (accept_of places i level) (λ y. Grants n t rows places before i y level Uni)
        (λ y. islip.Grants n (unicast_of level rows) (pointers_of level places) (inputs_of before) i y) j
        (λ y y_in. ((grants i y).1, (grants i y).0)) a.taken,
  )

  accepts_only : (i j m : ℕ) (k : Kind) → Accepts n t rows places before i j m k → (m ≡ level) × (k ≡ Uni)
  accepts_only i j m k a = grants_only i j m k (taken_from k n (accept_of places i m) (λ y. Grants n t rows places before i y m k) j a.taken)

  module _ (after : List (Option Fed)) (round : IsRound n t rows places before after) (size : n ≤ MAX_PORTS) where
    pub ArePairsOf-round : ArePairsOf level after
    ArePairsOf-round =
        record {
          pairs = λ i j l k s. elim ((round.pairs i j l k).0 s) [ inl old ↦ are.pairs i j l k old | inr new ↦ accepts_only i j l k new ];
          long = let count = round.count in omega arith;
        }

    pub IsRound-islip : islip.IsRound n (unicast_of level rows) (pointers_of level places) (inputs_of before) (inputs_of after)
    IsRound-islip i j =
        let now = feeds level after ArePairsOf-round i j in
        let old = feeds level before are i j in (
          λ f. elim ((round.pairs i j level Uni).0 (now.0 f)) [ inl s ↦ inl (old.1 s) | inr a ↦ inr ((accepts i j).1 a) ],
          λ f. now.1 (elim f [ inl s ↦ (round.pairs i j level Uni).1 (inl (old.0 s)) | inr a ↦ (round.pairs i j level Uni).1 (inr ((accepts i j).0 a)) ]),
        )

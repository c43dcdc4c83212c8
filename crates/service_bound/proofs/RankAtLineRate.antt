-- In a slot at line rate, of any number of rounds: where a request's rank is less by one than in general, it falls by two or is so again.
use Rattle.std.proofs.Common.{◌≡◌, ℕ, ◌+◌, ◌-◌, ◌%◌, ◌<◌, ◌≤◌, ◌⊎◌, min, List, Option, ap, sym, subst, inl, inr, arith}
use Rattle.std.proofs.lemmas.Bool.{cases_eq, cases_lt}
use Rattle.rotating_pick.specs.Rotation.{distance}
use Rattle.rotating_pick.specs.declared.kinds.Kind.TheVariants.{Uni}
use Rattle.rotating_pick.proofs.Circle.{distance-lt}
use Rattle.rotating_pick.proofs.Picking.{IsFirstFrom-some, distance-injective}
use Rattle.slot_match.specs.declared.rows.Row.{Row}
use Rattle.slot_match.specs.declared.matching.Fed.{Fed}
use Rattle.slot_match.specs.Rows.{Names, row_of}
use Rattle.slot_match.specs.Matches.{Serves}
use Rattle.pointer_state.specs.Places.{Places, grant_of, accept_of}
use Rattle.eslip_rounds.proofs.Deciding.{Names-decides}
use Rattle.service_bound.specs.Windows.{GainAtMostOne}
use Rattle.service_bound.proofs.Distances.{distance-passed}
use Rattle.service_bound.proofs.Fresh.{fresh_of, fresh-accepted}
use Rattle.service_bound.proofs.Rank.{twice_rank-turns_twice, twice_rank-near_twice, twice_rank-near_by_two, twice_rank-far_twice}
use Rattle.service_bound.proofs.FirstRound.{grants_first, first_granted}
use Rattle.service_bound.proofs.LaterRounds.{Turn}
use Rattle.service_bound.proofs.Granting.{IsQuietFor-clean, kind_is_first, served_by_first, refused}
use Rattle.service_bound.proofs.InWindows.{AskOn}
use Rattle.service_bound.proofs.RankFalls.{distances_of, twice_rank_of, falls}
use Rattle.service_bound.proofs.LineRateClasses.{IsFarAmongFresh, IsAlone, IsBeside, IsLower, IsOpening, other_asks, apart_from_next}
use Rattle.service_bound.proofs.LineRateClasses.{FallsByTwo, two_steps, alone_refused}

-- By an input that asks next, the request's rank falls by two or more, or by one into rows of either class.
pub record FallsLower (n level i j g : ℕ) (before after : Places) (later : List Row) : Type 0 where
  pub input : ℕ
  pub input_in : input < n
  pub asks : Names (row_of later input) level Uni j
  pub lower : (twice_rank_of n level after i j input + 4 ≤ twice_rank_of n level before i j g)
      ⊎ ((twice_rank_of n level after i j input + 2 ≤ twice_rank_of n level before i j g) × IsLower n level i j after later)

-- Input i's request for output j is left in a slot, where input g asks for output j too. The rows that come next keep it, at line rate.
pub record IsLeft (n level : ℕ) (rows : List Row) (matched : List (Option Fed)) (later : List Row) (i j g : ℕ) : Type 0 where
  pub input_in : i < n
  pub output_in : j < n
  pub other_in : g < n
  pub named : Names (row_of rows i) level Uni j
  pub asks : Names (row_of rows g) level Uni j
  pub left : Serves matched i j level Uni → ⊥
  pub on : AskOn n level matched rows later j
  pub gains : GainAtMostOne n level rows later

module _ (n t level : ℕ) (rows : List Row) (first matched : List (Option Fed)) (before after : Places)
    (slot : IsOpening n t level rows first matched before after) where
  module _ (later : List Row) (i j g : ℕ) (request : IsLeft n level rows matched later i j g) where
    abbrev Two : ℕ → Type 0
    Two v = FallsByTwo n t level rows first matched before after slot v i j

    -- by one, whatever the class, into rows of either
    once : IsLower n level i j after later → FallsLower n level i j g before after later
    once into =
        let turn : Turn n level = record {
          t = t;
          rows = rows;
          first = first;
          matched = matched;
          before = before;
          after = after;
          level_in = slot.level_in;
          begins = slot.begins;
          moved = slot.moved;
          pointing = slot.pointing;
        } in
        let by = falls n level turn i j g (record {
          input = request.input_in;
          output = request.output_in;
          other = request.other_in;
          quiet = IsQuietFor-clean n level j rows slot.clean slot.alone;
          named = request.named;
          asks = request.asks;
          left = request.left;
        }) in
        record { input = by.0; input_in = by.1.input_in; asks = request.on by.0 by.1.input_in by.1.asks by.1.left; lower = inr (by.1.lower, into) }

    -- any other is nearer than input i
    nearer_than : IsFarAmongFresh n level i j before → (x : ℕ) → x < n → (x ≡ i → ⊥)
        → distance n (grant_of before j level) x < distance n (grant_of before j level) i
    nearer_than base x x_in other =
        let from_in = slot.pointing.grant j request.output_in in
        let place_in = distance-lt n (grant_of before j level) x from_in in
        let far = base.far in
        let differ : distance n (grant_of before j level) x ≡ distance n (grant_of before j level) i
        → ⊥ = λ e. other (distance-injective n (grant_of before j level) x i from_in x_in request.input_in e) in
        omega (arith, far, place_in, differ)

    module _ (base : IsFarAmongFresh n level i j before) (nobody : (x : ℕ) → Serves first x j level Uni → ⊥) where
      -- output j's grant pointer stays
      stays : (x : ℕ) → distance n (grant_of after j level) x ≡ distance n (grant_of before j level) x
      stays x = ap (λ p. distance n p x) (slot.moved.grant_stays j level nobody)

      -- where the input made two steps
      by_steps : Two g → twice_rank_of n level after i j g + 4 ≤ twice_rank_of n level before i j g
      by_steps two =
          twice_rank-turns_twice n (distances_of n level after i j g) (distances_of n level before i j g) (omega (arith, stays i)) (omega (arith, stays g))
          two.nearer

      -- where a nearer one asks
      by_nearer : (x : ℕ) → distance n (grant_of before j level) x < distance n (grant_of before j level) g
          → min (distance n (accept_of after x level) j) (n - 2) + fresh_of n level after i j + 2 ≤ (n - 2) +
          (min (distance n (accept_of before g level) j) (n - 2) + fresh_of n level before i j)
          → twice_rank_of n level after i j x + 4 ≤ twice_rank_of n level before i j g
      by_nearer x less lower =
          twice_rank-near_twice n (distances_of n level after i j x) (distances_of n level before i j g) (omega (arith, stays i)) (omega (arith, stays x, less))
          lower

      -- where one nearer by two asks
      by_two_nearer : (x : ℕ) → distance n (grant_of before j level) x + 2 ≤ distance n (grant_of before j level) g
          → 1 ≤ min (distance n (accept_of before g level) j) (n - 2) → fresh_of n level after i j ≤ fresh_of n level before i j
          → twice_rank_of n level after i j x + 4 ≤ twice_rank_of n level before i j g
      by_two_nearer x less some also =
          twice_rank-near_by_two n (distances_of n level after i j x) (distances_of n level before i j g) (omega (arith, stays i))
          (omega (arith, stays x, less)) some also

      -- class A
      from_alone : IsAlone n level i j before rows → (y : ℕ) → Serves first i y level Uni
          → distance n (accept_of before i level) y ≤ distance n (accept_of before i level) j → FallsLower n level i j g before after later
      from_alone now y served at_most =
          let own : g ≡ i = now.only g request.other_in request.asks in
          let turns : distance n (accept_of before g level) j ≡ distance n (accept_of before i level) j =
          ap (λ v. distance n (accept_of before v level) j) own in
          let place : distance n (grant_of before j level) g ≡ distance n (grant_of before j level) i = ap (distance n (grant_of before j level)) own in
          let silent_before : (x : ℕ) → x < n → (x ≡ i → ⊥) → Names (row_of rows x) level Uni j → ⊥ = λ x x_in other asks. other (now.only x x_in asks) in
          elim (alone_refused n t level rows first matched before after slot i j request.input_in request.output_in base nobody y
          served at_most now.passed) [
            | inl two ↦ record {
              input = g;
              input_in = request.other_in;
              asks = request.on g request.other_in request.asks (subst (λ v. Serves matched v j level Uni → ⊥) (sym own) request.left);
              lower = inl (by_steps (subst Two (sym own) two));
            }
            | inr rest ↦ elim (other_asks n level later j i i) [
              | inr only ↦ once (inl (record {
                base = rest.base;
                only = λ x x_in asks. elim (only x x_in asks) [ inl same ↦ same | inr same ↦ same ];
                passed = inr rest.passed;
              }))
              | inl found ↦
                  let less = nearer_than base found.0 found.1 found.2.0 in
                  elim rest.next [
                    | inl fewer ↦ record {
                      input = found.0;
                      input_in = found.1;
                      asks = found.3;
                      lower = inl (by_nearer found.0 (omega (arith, less, place)) (omega (arith, fewer, turns)));
                    }
                    | inr stale ↦ elim (other_asks n level later j i found.0) [
                      | inl second ↦
                          let also_less = nearer_than base second.0 second.1 second.2.0 in
                          let differ : distance n (grant_of before j level) second.0 ≡ distance n (grant_of before j level) found.0
                          → ⊥ = λ e. second.2.1 (distance-injective n (grant_of before j level) second.0 found.0
                          (slot.pointing.grant j request.output_in) second.1 found.1 e) in
                          let some : 1 ≤ min (distance n (accept_of before g level) j) (n - 2) = let here = stale.0 in omega (arith, here, turns) in
                          elim (cases_lt (distance n (grant_of before j level) found.0) (distance n (grant_of before j level) second.0)) [
                            | inl before_it ↦ record {
                              input = found.0;
                              input_in = found.1;
                              asks = found.3;
                              lower = inl (by_two_nearer found.0 (omega (arith, before_it, also_less, place)) some stale.1);
                            }
                            | inr after_it ↦ record {
                              input = second.0;
                              input_in = second.1;
                              asks = second.3;
                              lower = inl (by_two_nearer second.0 (omega (arith, after_it, less, differ, place)) some stale.1);
                            }
                          ]
                      | inr only ↦
                          let not_asked : Names (row_of rows found.0) level Uni ((j + 1) % n) → ⊥ = λ asked. found.2.0 (stale.2 found.0 found.1 asked) in
                          once (inr (
                            found.0,
                            record {
                              base = rest.base;
                              below = found.1;
                              other = found.2.0;
                              asks = found.3;
                              only = only;
                              not_next = λ also. apart_from_next n j slot.more request.output_in
                                  (request.gains found.0 found.1 j ((j + 1) % n) found.3 also (silent_before found.0 found.1 found.2.0) not_asked);
                            },
                          ))
                    ]
                  ]
            ]
          ]

      -- class B: the other input x takes another output y
      from_beside : (x : ℕ) → IsBeside n level i j before rows x → (y : ℕ) → Serves first x y level Uni → Names (row_of rows x) level Uni y
          → distance n (accept_of before x level) y ≤ distance n (accept_of before x level) j → FallsLower n level i j g before after later
      from_beside x now y served asked at_most =
          let full : distance n (accept_of before x level) j + 1 ≡ n = base.fresh x now.below now.other in
          let two = two_steps n t level rows first matched before after slot i j request.input_in request.output_in base nobody x y
          now.below served at_most full (λ same. now.not_next (subst (Names (row_of rows x) level Uni) same asked)) in
          let steps = two.nearer in
          let less = nearer_than base x now.below now.other in
          record {
            input = x;
            input_in = now.below;
            asks = request.on x now.below now.asks (λ taken. nobody x (slot.begins.no_more x y j level level Uni served taken));
            lower = inl (elim (now.only g request.other_in request.asks) [
              | inl own ↦
                  let place : distance n (grant_of before j level) g ≡ distance n (grant_of before j level) i = ap (distance n (grant_of before j level)) own in
                  by_nearer x (omega (arith, less, place)) (omega (arith, steps))
              | inr own ↦ subst (λ v. twice_rank_of n level after i j v + 4 ≤ twice_rank_of n level before i j g) own (by_steps (subst Two (sym own) two))
            ]);
          }

    -- class B: the other input x takes the output
    from_accepted : (x : ℕ) → IsBeside n level i j before rows x → Serves first x j level Uni → FallsLower n level i j g before after later
    from_accepted x now served =
        let from_in = slot.pointing.grant j request.output_in in
        let ahead = nearer_than now.base x now.below now.other in
        let passed = distance-passed n (grant_of before j level) x i from_in now.below request.input_in ahead in
        let place = slot.moved.granted x j level served in
        let no_fresher = fresh-accepted n t level rows first matched slot.begins.opening.count before after slot.moved slot.pointing i j
        request.input_in request.output_in x now.below served ahead in
        let some : 1 ≤ distance n (grant_of before j level) g + min (distance n (accept_of before g level) j) (n - 2) =
        elim (now.only g request.other_in request.asks) [
          | inl own ↦ let e : distance n (grant_of before j level) g ≡ distance n (grant_of before j level) i =
              ap (distance n (grant_of before j level)) own in omega (arith, e, ahead)
          | inr own ↦
              let e : distance n (accept_of before g level) j ≡ distance n (accept_of before x level) j =
              ap (λ v. distance n (accept_of before v level) j) own in
              let full = now.base.fresh x now.below now.other in
              omega (arith, e, full, slot.more)
        ] in
        let closer : distance n (grant_of after j level) i < distance n (grant_of before j level) i = rw place (omega (arith, passed)) in
        let lower = twice_rank-far_twice n (distances_of n level after i j i) (distances_of n level before i j g) closer (omega arith) no_fresher
        slot.more some in
        record { input = i; input_in = request.input_in; asks = request.on i request.input_in request.named request.left; lower = inl lower }

    -- from rows of either class
    pub falls_lower : IsLower n level i j before rows → FallsLower n level i j g before after later
    falls_lower lower =
        let first_kind = kind_is_first n t level rows first before slot.level_in slot.begins.opening slot.pointing slot.clean slot.alone in
        let nearest = IsFirstFrom-some n (grant_of before j level) (λ x. Names (row_of rows x) level Uni j) (λ x. Names-decides (row_of rows x) level Uni j)
        (slot.pointing.grant j request.output_in) g request.other_in request.asks in
        let h = nearest.0 in
        let granted = grants_first n t rows before level slot.level_in slot.clean Uni first_kind h j request.output_in nearest.1 in
        let met = served_by_first n t level rows first before slot.level_in slot.begins.opening slot.pointing slot.clean slot.alone h j nearest.1.below
        granted in
        let at_most = met.1.least j request.output_in granted in
        let asked = (first_granted n t rows before level slot.level_in slot.clean Uni first_kind h met.0 met.1.member).member in
        let refuses : (met.0 ≡ j → ⊥) → (x : ℕ) → Serves first x j level Uni
        → ⊥ = λ other. refused n t level rows first before slot.level_in slot.begins.opening slot.pointing slot.clean slot.alone h j met.0
        granted met.1 other in
        elim lower [
          | inl now ↦
              let own : h ≡ i = now.only h nearest.1.below nearest.1.member in
              let served : Serves first i met.0 level Uni = subst (λ v. Serves first v met.0 level Uni) own met.2 in
              let other : met.0 ≡ j → ⊥ = λ same. request.left (slot.begins.stays i j level Uni (subst (λ v. Serves first i v level Uni) same served)) in
              from_alone now.base (refuses other) now met.0 served
              (subst (λ v. distance n (accept_of before v level) met.0 ≤ distance n (accept_of before v level) j) own at_most)
          | inr late ↦
              let x = late.0 in
              let now = late.1 in
              let own : h ≡ x = elim (now.only h nearest.1.below nearest.1.member) [
                | inr same ↦ same
                | inl as_i ↦
                    let least = nearest.1.least x now.below now.asks in
                    let less = nearer_than now.base x now.below now.other in
                    let e : distance n (grant_of before j level) h ≡ distance n (grant_of before j level) i = ap (distance n (grant_of before j level)) as_i in
                    absurd (omega (arith, least, less, e))
              ] in
              let served : Serves first x met.0 level Uni = subst (λ v. Serves first v met.0 level Uni) own met.2 in
              elim (cases_eq met.0 j) [
                | inl same ↦ from_accepted x now (subst (λ v. Serves first x v level Uni) same served)
                | inr other ↦ from_beside now.base (refuses other) x now met.0 served (subst (λ v. Names (row_of rows v) level Uni met.0) own asked)
                    (subst (λ v. distance n (accept_of before v level) met.0 ≤ distance n (accept_of before v level) j) own at_most)
              ]
        ]

-- In a slot of one round at line rate: where a request's rank is less by one than in general, it falls by two or is so again.
use Rattle.std.proofs.Common.{◌≡◌, ℕ, ◌+◌, ◌-◌, ◌%◌, ◌<◌, ◌≤◌, ◌⊎◌, ◌∙◌, min, List, ap, sym, subst, inl, inr, arith}
use Rattle.std.proofs.lemmas.Bool.{cases_eq}
use Rattle.rotating_pick.specs.Rotation.{distance}
use Rattle.rotating_pick.specs.declared.kinds.Kind.TheVariants.{Uni}
use Rattle.rotating_pick.proofs.Circle.{distance-lt}
use Rattle.rotating_pick.proofs.Picking.{distance-injective}
use Rattle.slot_match.specs.declared.rows.Row.{Row}
use Rattle.slot_match.specs.Rows.{Names, row_of}
use Rattle.slot_match.specs.Matches.{Serves}
use Rattle.pointer_state.specs.Places.{grant_of, accept_of}
use Rattle.eslip_rounds.proofs.Testing.{Decides-named}
use Rattle.eslip_rounds.specs.Decisions.{is_named}
use Rattle.service_bound.specs.Windows.{IsClean, IsWithoutMulticast, GainAtMostOne}
use Rattle.service_bound.proofs.Sums.{sum_below-le, sum_below-less, sum_below-two}
use Rattle.service_bound.proofs.Distances.{distance-passed}
use Rattle.service_bound.proofs.Fresh.{fresh-accepted}
use Rattle.service_bound.proofs.OneRoundRank.{silent_at-before, silent_at-after, OneDistances, one_low_of, one_rank, one_rank-far_twice}
use Rattle.service_bound.proofs.OneRoundRank.{one_rank-silent_twice, one_rank-two_silent, one_rank-turns_twice}
use Rattle.service_bound.proofs.FirstRound.{grants_first, first_granted}
use Rattle.service_bound.proofs.LaterRounds.{Turn}
use Rattle.service_bound.proofs.Granting.{kind_is_first, served_by_first, refused}
use Rattle.service_bound.proofs.LineRateClasses.{IsFarAmongFresh, IsAlone, IsBeside, IsLower, IsOpening, other_asks, apart_from_next}
use Rattle.service_bound.proofs.LineRateClasses.{FallsByTwo, two_steps, alone_refused}
use Rattle.service_bound.proofs.OneRound.{OneLeft, ahead_of, no_farther, no_more_silent, one_distances_of, one_falls, silent_accepted, silent_for, stays}

-- Rows of a window without multicast at the level, for three ports or more, and those that are posted next, at line rate.
pub record ComeAtLineRate (n level : ℕ) (rows later : List Row) : Type 0 where
  pub more : 2 < n
  pub clean : IsClean n level rows
  pub alone : IsWithoutMulticast n level rows
  pub gains : GainAtMostOne n level rows later

module _ (n level : ℕ) (turn : Turn n level) (later : List Row) (i j : ℕ) (asked : OneLeft n level turn later i j)
    (rate : ComeAtLineRate n level turn.rows later) where
  -- how far an input is from the output's grant pointer before the slot, and the output from the input's accept pointer
  abbrev far : ℕ → ℕ
  far = distance n (grant_of turn.before j level)

  abbrev turns_of : ℕ → ℕ
  turns_of x = distance n (accept_of turn.before x level) j

  -- what the rank is made of before the slot, and after it
  abbrev old : OneDistances
  old = one_distances_of n level turn.before turn.rows i j asked.now

  abbrev new : OneDistances
  new = one_distances_of n level turn.after later i j asked.next

  abbrev IsTwoLess : Type 0
  IsTwoLess = one_rank n new + 2 ≤ one_rank n old

  abbrev FallsAtLineRate : Type 0
  FallsAtLineRate = IsTwoLess ⊎ ((one_rank n new + 1 ≤ one_rank n old) × IsLower n level i j turn.after later)

  opened : IsOpening n turn.t level turn.rows turn.first turn.matched turn.before turn.after
  opened = record {
    level_in = turn.level_in;
    begins = turn.begins;
    moved = turn.moved;
    pointing = turn.pointing;
    clean = rate.clean;
    alone = rate.alone;
    more = rate.more;
  }

  abbrev Two : ℕ → Type 0
  Two v = FallsByTwo n turn.t level turn.rows turn.first turn.matched turn.before turn.after opened v i j

  falls_once : one_rank n new + 1 ≤ one_rank n old
  falls_once = one_falls n level turn later i j asked

  from_in : grant_of turn.before j level < n
  from_in = turn.pointing.grant j asked.output

  apart : (x : ℕ) → x < n → (x ≡ i → ⊥) → far x ≡ far i → ⊥
  apart x x_in other e = other (distance-injective n (grant_of turn.before j level) x i from_in x_in asked.input e)

  -- an input that begins to ask for the output
  record Begins (x : ℕ) : Type 0 where
    below : x < n
    other : x ≡ i → ⊥
    silent : Names (row_of turn.rows x) level Uni j → ⊥
    asks : Names (row_of later x) level Uni j

  -- the nearest input takes another output y
  module _ (base : IsFarAmongFresh n level i j turn.before) (y : ℕ) (nobody : (x : ℕ) → Serves turn.first x j level Uni → ⊥)
      (served : Serves turn.first asked.now y level Uni)
      (at_most : distance n (accept_of turn.before asked.now level) y ≤ turns_of asked.now) (asks : Names (row_of turn.rows asked.now) level Uni y) where
    stay : new.far ≤ old.far
    stay = omega (arith, stays n level turn later i j asked nobody i)

    silent_on : (x : ℕ) → x < n → silent_for n level turn.after later i j x ≤ silent_for n level turn.before turn.rows i j x
    silent_on = no_more_silent n level turn later i j asked nobody

    -- an input that begins to ask is silent no more
    begun : (x : ℕ) → Begins x → silent_for n level turn.before turn.rows i j x ≡ silent_for n level turn.after later i j x + 1
    begun x begins =
        let place_in = distance-lt n (grant_of turn.before j level) x from_in in
        let last = base.far in
        let differ = apart x begins.below begins.other in
        let was = silent_at-before (far i) (far x) (is_named (row_of turn.rows x) level Uni j) (omega (arith, last, place_in, differ))
        (λ named. begins.silent ((Decides-named (row_of turn.rows x) level Uni j).0 named)) in
        let gone = silent_at-after (distance n (grant_of turn.after j level) i) (distance n (grant_of turn.after j level) x)
        (is_named (row_of later x) level Uni j) ((Decides-named (row_of later x) level Uni j).1 begins.asks) in
        omega (arith, was, gone)

    -- the rank falls by two where an input begins to ask,
    two_by_begun : (x : ℕ) → Begins x → new.fresh + 2 ≤ one_low_of n old → IsTwoLess
    two_by_begun x begins fewer =
        let sums = sum_below-less (silent_for n level turn.after later i j) (silent_for n level turn.before turn.rows i j) n x begins.below silent_on in
        let own = begun x begins in
        one_rank-silent_twice n new old stay (omega (arith, sums, own)) fewer

    -- where two do,
    two_by_two : (x z : ℕ) → (x ≡ z → ⊥) → Begins x → Begins z → 1 ≤ min (turns_of asked.now) (n - 2) → new.fresh ≤ old.fresh → IsTwoLess
    two_by_two x z differ begins also some fresh =
        let sums = sum_below-two (silent_for n level turn.after later i j) (silent_for n level turn.before turn.rows i j) n x z begins.below also.below
        differ silent_on in
        let own = begun x begins in
        let second = begun z also in
        one_rank-two_silent n new old stay (omega (arith, sums, own, second)) some fresh

    -- and where the nearest has made two steps, whether it is the nearest again or another is
    two_by_steps : Two asked.now → ((asked.next ≡ asked.now → ⊥) → Begins asked.next) → IsTwoLess
    two_by_steps two new_asks = elim (cases_eq asked.now asked.next) [
      | inr other ↦ two_by_begun asked.next (new_asks (λ e. other (sym e))) two.fewer
      | inl same ↦
          let turns = ap (λ x. distance n (accept_of turn.after x level) j) same in
          let nearer = two.nearer in
          one_rank-turns_twice n new old stay
          (sum_below-le (silent_for n level turn.after later i j) (silent_for n level turn.before turn.rows i j) n silent_on)
          (omega (arith, nearer, turns))
    ]

    -- class A
    from_alone : IsAlone n level i j turn.before turn.rows → FallsAtLineRate
    from_alone now =
        let own : asked.now ≡ i = now.only asked.now asked.nearest.below asked.nearest.member in
        let begins : (x : ℕ) → x < n → (x ≡ i → ⊥) → Names (row_of later x) level Uni j → Begins x = λ x x_in other names.
        record { below = x_in; other = other; silent = λ named. other (now.only x x_in named); asks = names } in
        let own_served : Serves turn.first i y level Uni = subst (λ v. Serves turn.first v y level Uni) own served in
        let own_most : distance n (accept_of turn.before i level) y ≤ turns_of i =
        subst (λ v. distance n (accept_of turn.before v level) y ≤ turns_of v) own at_most in
        let turns : turns_of asked.now ≡ turns_of i = ap turns_of own in
        elim (alone_refused n turn.t level turn.rows turn.first turn.matched turn.before turn.after opened i j asked.input asked.output base nobody y
        own_served own_most now.passed) [
          | inl two ↦ inl (two_by_steps (subst Two (sym own) two)
              (λ differs. begins asked.next asked.nearest_next.below (λ e. differs (e ∙ sym own)) asked.nearest_next.member))
          | inr rest ↦ elim (other_asks n level later j i i) [
            | inr only ↦ inr (
              falls_once,
              inl (record {
                base = rest.base;
                only = λ x x_in names. elim (only x x_in names) [ inl same ↦ same | inr same ↦ same ];
                passed = inr rest.passed;
              }),
            )
            | inl found ↦
                let first = begins found.0 found.1 found.2.0 found.3 in
                elim rest.next [
                  | inl fewer ↦ inl (two_by_begun found.0 first (omega (arith, fewer, turns)))
                  | inr stale ↦ elim (other_asks n level later j i found.0) [
                    | inl second ↦ inl (two_by_two found.0 second.0 (λ e. second.2.1 (sym e)) first (begins second.0 second.1 second.2.0 second.3)
                        (let some = stale.0 in omega (arith, some, turns)) stale.1)
                    | inr only ↦
                        let not_asked : Names (row_of turn.rows found.0) level Uni ((j + 1) % n) → ⊥ = λ named. found.2.0 (stale.2 found.0 found.1 named) in
                        inr (
                          falls_once,
                          inr (
                            found.0,
                            record {
                              base = rest.base;
                              below = found.1;
                              other = found.2.0;
                              asks = found.3;
                              only = only;
                              not_next = λ also. apart_from_next n j rate.more asked.output
                                  (rate.gains found.0 found.1 j ((j + 1) % n) found.3 also first.silent not_asked);
                            },
                          ),
                        )
                  ]
                ]
          ]
        ]

    -- class B
    from_beside : (x : ℕ) → IsBeside n level i j turn.before turn.rows x → asked.now ≡ x → IsTwoLess
    from_beside x now own =
        let other : asked.now ≡ i → ⊥ = λ e. now.other (sym own ∙ e) in
        let full = base.fresh asked.now asked.nearest.below other in
        let not_next : y ≡ (j + 1) % n → ⊥ = λ same. now.not_next
        (subst (λ v. Names (row_of turn.rows v) level Uni ((j + 1) % n)) own (subst (Names (row_of turn.rows asked.now) level Uni) same asks)) in
        let not_own : asked.next ≡ i → ⊥ = λ e.
        let last = base.far in
        let least = no_farther n level turn later i j asked nobody in
        let place_in = distance-lt n (grant_of turn.before j level) asked.now from_in in
        apart asked.now asked.nearest.below other (omega (arith, last, least, place_in, ap far e)) in
        two_by_steps (two_steps n turn.t level turn.rows turn.first turn.matched turn.before turn.after opened i j asked.input asked.output base
        nobody asked.now y asked.nearest.below served at_most full not_next)
        (λ differs. record {
          below = asked.nearest_next.below;
          other = not_own;
          silent = λ names. elim (now.only asked.next asked.nearest_next.below names) [ inl e ↦ not_own e | inr e ↦ differs (e ∙ sym own) ];
          asks = asked.nearest_next.member;
        })

  -- the nearest input of class B takes the output itself
  from_accepted : (x : ℕ) → IsBeside n level i j turn.before turn.rows x → asked.now ≡ x → Serves turn.first asked.now j level Uni → IsTwoLess
  from_accepted x now own served =
      let full = now.base.fresh asked.now asked.nearest.below (λ e. now.other (sym own ∙ e)) in
      let ahead = ahead_of n level turn later i j asked served in
      let passed = distance-passed n (grant_of turn.before j level) asked.now i from_in asked.nearest.below asked.input ahead in
      let place = turn.moved.granted asked.now j level served in
      let closer : distance n (grant_of turn.after j level) i < far i = rw place (omega (arith, passed)) in
      let no_fresher = fresh-accepted n turn.t level turn.rows turn.first turn.matched turn.begins.opening.count turn.before turn.after turn.moved
      turn.pointing i j asked.input asked.output asked.now asked.nearest.below served ahead in
      one_rank-far_twice n new old closer (silent_accepted n level turn later i j asked served) no_fresher rate.more (omega (arith, full))

  -- in class B the other input is the nearest
  beside_nearest : (x : ℕ) → IsBeside n level i j turn.before turn.rows x → asked.now ≡ x
  beside_nearest x now = elim (now.only asked.now asked.nearest.below asked.nearest.member) [
    | inr same ↦ same
    | inl own ↦
        let least = asked.nearest.least x now.below now.asks in
        let place_in = distance-lt n (grant_of turn.before j level) x from_in in
        let last = now.base.far in
        absurd (apart x now.below now.other (omega (arith, least, place_in, last, ap far own)))
  ]

  -- from either class the rank falls by two or more, or by one into one of them
  pub falls_at_line_rate : IsLower n level i j turn.before turn.rows → FallsAtLineRate
  falls_at_line_rate lower =
      let opening = turn.begins.opening in
      let first_kind = kind_is_first n turn.t level turn.rows turn.first turn.before turn.level_in opening turn.pointing rate.clean rate.alone in
      let granted = grants_first n turn.t turn.rows turn.before level turn.level_in rate.clean Uni first_kind asked.now j asked.output asked.nearest in
      let met = served_by_first n turn.t level turn.rows turn.first turn.before turn.level_in opening turn.pointing rate.clean rate.alone asked.now j
      asked.nearest.below granted in
      let at_most = met.1.least j asked.output granted in
      let asks = (first_granted n turn.t turn.rows turn.before level turn.level_in rate.clean Uni first_kind asked.now met.0 met.1.member).member in
      elim (cases_eq met.0 j) [
        | inl same ↦
            let served = subst (λ y. Serves turn.first asked.now y level Uni) same met.2 in
            elim lower [
              | inl now ↦
                  let own = now.only asked.now asked.nearest.below asked.nearest.member in
                  absurd (asked.left (subst (λ x. Serves turn.matched x j level Uni) own (turn.begins.stays asked.now j level Uni served)))
              | inr late ↦ inl (from_accepted late.0 late.1 (beside_nearest late.0 late.1) served)
            ]
        | inr other ↦
            let nobody = refused n turn.t level turn.rows turn.first turn.before turn.level_in opening turn.pointing rate.clean rate.alone asked.now j met.0
            granted met.1 other in
            elim lower [
              | inl now ↦ from_alone now.base met.0 nobody met.2 at_most asks now
              | inr late ↦ inl (from_beside late.1.base met.0 nobody met.2 at_most asks late.0 late.1 (beside_nearest late.0 late.1))
            ]
      ]

-- In a slot of a window without multicast the rank of a request falls where it is not served.
use Rattle.std.proofs.Common.{◌≡◌, ℕ, ◌+◌, ◌<◌, ◌≤◌, ap, subst, inl, inr, arith}
use Rattle.std.proofs.lemmas.Bool.{cases_eq}
use Rattle.rotating_pick.specs.Rotation.{distance, IsFirstFrom}
use Rattle.rotating_pick.specs.declared.kinds.Kind.TheVariants.{Uni}
use Rattle.rotating_pick.proofs.Circle.{distance-lt}
use Rattle.rotating_pick.proofs.Picking.{IsFirstFrom-some, distance-injective}
use Rattle.slot_match.specs.Rows.{Names, row_of}
use Rattle.slot_match.specs.Matches.{unmatched, Serves}
use Rattle.pointer_state.specs.Places.{Places, ArePointing, grant_of, accept_of}
use Rattle.eslip_rounds.specs.Rounds.{Grants}
use Rattle.eslip_rounds.proofs.Deciding.{Names-decides}
use Rattle.service_bound.specs.Windows.{IsQuietFor}
use Rattle.service_bound.proofs.Distances.{distance-passed}
use Rattle.service_bound.proofs.Fresh.{fresh_of, fresh_of-most, fresh-accepted, stale-refused}
use Rattle.service_bound.proofs.Rank.{Distances, twice_longest, twice_rank, twice_rank-far, twice_rank-near, twice_rank-turns, twice_rank-bound}
use Rattle.service_bound.proofs.LaterRounds.{Turn}
use Rattle.service_bound.proofs.Granting.{quiet_grants, quiet_served, quiet_refused}

-- what the rank of the request of input i for output j is made of, where input g asks for it too
abbrev pub distances_of : ℕ → ℕ → Places → ℕ → ℕ → ℕ → Distances
distances_of n level places i j g = record {
  far = distance n (grant_of places j level) i;
  near = distance n (grant_of places j level) g;
  turns = distance n (accept_of places g level) j;
  fresh = fresh_of n level places i j;
}

-- twice that rank
abbrev pub twice_rank_of : ℕ → ℕ → Places → ℕ → ℕ → ℕ → ℕ
twice_rank_of n level places i j g = twice_rank n (distances_of n level places i j g)

-- The slot leaves the request of input i for output j, which is asked as unicast of the level alone; input g asks for it too.
pub record IsLeft (n level : ℕ) (turn : Turn n level) (i j g : ℕ) : Type 0 where
  pub input : i < n
  pub output : j < n
  pub other : g < n
  pub quiet : IsQuietFor n level j turn.rows
  pub named : Names (row_of turn.rows i) level Uni j
  pub asks : Names (row_of turn.rows g) level Uni j
  pub left : Serves turn.matched i j level Uni → ⊥

-- After the slot input h asks on, not served and no farther from the grant pointer than i, and by it the
-- request's rank is lower than it was by g.
pub record FallsBy (n level : ℕ) (turn : Turn n level) (i j g h : ℕ) : Type 0 where
  pub input_in : h < n
  pub asks : Names (row_of turn.rows h) level Uni j
  pub left : Serves turn.matched h j level Uni → ⊥
  pub within : distance n (grant_of turn.after j level) h ≤ distance n (grant_of turn.after j level) i
  pub lower : twice_rank_of n level turn.after i j h + 2 ≤ twice_rank_of n level turn.before i j g

module _ (n level : ℕ) (turn : Turn n level) (i j g : ℕ) (asked : IsLeft n level turn i j g) where
  -- how far an input is from the output's grant pointer before the slot, and after it
  abbrev far : ℕ → ℕ
  far = distance n (grant_of turn.before j level)

  abbrev far_later : ℕ → ℕ
  far_later = distance n (grant_of turn.after j level)

  from_in : grant_of turn.before j level < n
  from_in = turn.pointing.grant j asked.output

  apart : (x y : ℕ) → x < n → y < n → (x ≡ y → ⊥) → far x ≡ far y → ⊥
  apart x y x_in y_in other e = other (distance-injective n (grant_of turn.before j level) x y from_in x_in y_in e)

  -- the input that is granted took the output: the grant pointer passes it, and comes nearer to i
  falls_where_accepted : (h : ℕ) → IsFirstFrom n (grant_of turn.before j level) (λ x. Names (row_of turn.rows x) level Uni j) h
      → Serves turn.first h j level Uni → FallsBy n level turn i j g i
  falls_where_accepted h nearest served =
      let other : h ≡ i → ⊥ = λ same. asked.left (subst (λ x. Serves turn.matched x j level Uni) same (turn.begins.stays h j level Uni served)) in
      let at_most = nearest.least i asked.input asked.named in
      let differ : far h ≡ far i → ⊥ = apart h i nearest.below asked.input other in
      let ahead : far h < far i = omega arith in
      let nearer = distance-passed n (grant_of turn.before j level) h i from_in nearest.below asked.input ahead in
      let place = turn.moved.granted h j level served in
      let closer : far_later i < far i = rw place (omega arith) in
      let no_fresher = fresh-accepted n turn.t level turn.rows turn.first turn.matched turn.begins.opening.count turn.before turn.after turn.moved
      turn.pointing i j asked.input asked.output h nearest.below served ahead in
      record {
        input_in = asked.input;
        asks = asked.named;
        left = asked.left;
        within = omega arith;
        lower = twice_rank-far n (distances_of n level turn.after i j i) (distances_of n level turn.before i j g) closer (omega arith) no_fresher;
      }

  -- the input h that is granted took another output y: its accept pointer passes y, and comes nearer to j
  falls_where_refused : (h y : ℕ) → IsFirstFrom n (grant_of turn.before j level) (λ x. Names (row_of turn.rows x) level Uni j) h
      → Grants n turn.t turn.rows turn.before (unmatched n) h j level Uni
      → IsFirstFrom n (accept_of turn.before h level) (λ k. Grants n turn.t turn.rows turn.before (unmatched n) h k level Uni) y
      → Serves turn.first h y level Uni → (y ≡ j → ⊥) → FallsBy n level turn i j g h
  falls_where_refused h y nearest granted accepted served other =
      let h_in = nearest.below in
      let nobody = quiet_refused n turn.t level turn.rows turn.first turn.before turn.level_in turn.begins.opening turn.pointing j asked.output asked.quiet
      h y h_in granted accepted other in
      let stays = turn.moved.grant_stays j level nobody in
      let here : far_later h ≡ far h = ap (λ from. distance n from h) stays in
      let own : far_later i ≡ far i = ap (λ from. distance n from i) stays in
      let least = nearest.least i asked.input asked.named in
      let no_farther = nearest.least g asked.other asked.asks in
      let stale = stale-refused n turn.t level turn.rows turn.first turn.matched turn.begins.opening.count turn.before turn.after turn.moved turn.pointing
      i j asked.input asked.output nobody h y h_in accepted.below served other (accepted.least j asked.output granted) least in
      let new = distances_of n level turn.after i j h in
      let old = distances_of n level turn.before i j g in
      record {
        input_in = h_in;
        asks = nearest.member;
        left = λ also. nobody h (turn.begins.no_more h y j level level Uni served also);
        within = omega (arith, here, own, least);
        lower = elim (cases_eq h g) [
          | inl same ↦
              let turns = ap (λ x. distance n (accept_of turn.before x level) j) same in
              twice_rank-turns n new old (omega (arith, own)) (omega (arith, here, no_farther, ap far same)) (omega (arith, stale, turns))
          | inr differs ↦
              let differ : far h ≡ far g → ⊥ = apart h g h_in asked.other differs in
              twice_rank-near n new old (omega (arith, own)) (omega (arith, here, no_farther, differ)) (omega (arith, stale))
        ];
      }

  -- either way some input asks on by which the rank falls
  pub falls : (h : ℕ) × FallsBy n level turn i j g h
  falls =
      let nearest = IsFirstFrom-some n (grant_of turn.before j level) (λ x. Names (row_of turn.rows x) level Uni j)
      (λ x. Names-decides (row_of turn.rows x) level Uni j) from_in g asked.other asked.asks in
      let h = nearest.0 in
      let granted = quiet_grants n turn.t level turn.rows turn.first turn.before turn.level_in turn.begins.opening turn.pointing j asked.output asked.quiet
      h nearest.1 in
      let met = quiet_served n turn.t level turn.rows turn.first turn.before turn.level_in turn.begins.opening turn.pointing j asked.output asked.quiet
      h nearest.1.below granted in
      elim (cases_eq met.0 j) [
        | inl same ↦ (i, falls_where_accepted h nearest.1 (subst (λ y. Serves turn.first h y level Uni) same met.2))
        | inr other ↦ (h, falls_where_refused h met.0 nearest.1 granted met.1 met.2 other)
      ]

-- a request that is alone with itself has a rank, and it is below the bound
pub twice_rank_of-bound : (n level : ℕ) (places : Places) (i j : ℕ) → ArePointing n level places → i < n → j < n
    → twice_rank_of n level places i j i + 2 ≤ twice_longest n
twice_rank_of-bound n level places i j pointing i_in j_in =
    twice_rank-bound n (distances_of n level places i j i) (distance-lt n (grant_of places j level) i (pointing.grant j j_in)) (omega arith)
    (fresh_of-most n level places i j pointing j_in)

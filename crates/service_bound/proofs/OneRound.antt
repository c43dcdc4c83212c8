-- In a slot of one round the rank of a request falls where it is not served, whatever is posted next.
use Rattle.std.proofs.Common.{◌≡◌, ℕ, ◌+◌, ◌%◌, ◌<◌, ◌≤◌, ◌∙◌, true, List, [], ◌∷◌, Option, length, refl, ap, sym, subst, inl, inr, arith}
use Rattle.std.proofs.lemmas.Bool.{cases_eq, cases_lt}
use Rattle.rotating_pick.specs.Rotation.{distance, IsFirstFrom}
use Rattle.rotating_pick.specs.declared.kinds.Kind.TheVariants.{Uni}
use Rattle.rotating_pick.proofs.Circle.{distance-lt}
use Rattle.rotating_pick.proofs.Picking.{IsFirstFrom-some, distance-injective}
use Rattle.slot_match.specs.declared.rows.Row.{Row}
use Rattle.slot_match.specs.declared.matching.Fed.{Fed}
use Rattle.slot_match.specs.Rows.{Names, row_of}
use Rattle.slot_match.specs.Matches.{unmatched, Serves}
use Rattle.slot_match.proofs.Pairs.{Serves-once}
use Rattle.pointer_state.specs.Places.{Places, ArePointing, grant_of, accept_of}
use Rattle.islip_rounds.specs.Numbers.{last_of}
use Rattle.eslip_rounds.specs.Decisions.{is_named}
use Rattle.eslip_rounds.specs.Rounds.{Grants}
use Rattle.eslip_rounds.specs.Slots.{AreMoved, IsSlotBy}
use Rattle.eslip_rounds.specs.Schedules.{DecidedSlot}
use Rattle.eslip_rounds.proofs.Deciding.{Names-decides}
use Rattle.eslip_rounds.proofs.Testing.{Decides-named}
use Rattle.service_bound.specs.Windows.{IsQuietFor}
use Rattle.service_bound.specs.Waits.{longest_service_in_one_round}
use Rattle.service_bound.proofs.Sums.{sum_below, sum_below-le, sum_below-less, sum_below-most}
use Rattle.service_bound.proofs.Distances.{distance-passed, distance-after}
use Rattle.service_bound.proofs.Fresh.{fresh_of, fresh_of-most, fresh-accepted, stale-refused}
use Rattle.service_bound.proofs.OneRoundRank.{silent_at, silent_at-le, silent_at-most, silent_at-own, silent_at-before, silent_at-after}
use Rattle.service_bound.proofs.OneRoundRank.{OneDistances, one_rank, one_rank-far, one_rank-silent, one_rank-turns, one_rank-bound}
use Rattle.service_bound.proofs.LaterRounds.{first_of, Turn}
use Rattle.service_bound.proofs.Granting.{quiet_grants, quiet_served, quiet_refused}
use Rattle.service_bound.proofs.InWindows.{AskOn}

-- whether input x is silent for the request of input i for output j, where these rows are posted: 1 or 0
abbrev pub silent_for : ℕ → ℕ → Places → List Row → ℕ → ℕ → ℕ → ℕ
silent_for n level places rows i j x =
    silent_at (distance n (grant_of places j level) i) (distance n (grant_of places j level) x) (is_named (row_of rows x) level Uni j)

-- how many inputs are silent
abbrev pub silent_of : ℕ → ℕ → Places → List Row → ℕ → ℕ → ℕ
silent_of n level places rows i j = sum_below (silent_for n level places rows i j) n

-- the request's own input is not
pub silent_of-lt : (n level : ℕ) (places : Places) (rows : List Row) (i j : ℕ) → i < n → silent_of n level places rows i j < n
silent_of-lt n level places rows i j i_in =
    let all = sum_below-less (silent_for n level places rows i j) (λ x. 1) n i i_in
    (λ x x_in. silent_at-most (distance n (grant_of places j level) i) (distance n (grant_of places j level) x) (is_named (row_of rows x) level Uni j)) in
    let ones = sum_below-most (λ x. 1) n 1 (λ x x_in. omega arith) in
    let own = silent_at-own (distance n (grant_of places j level) i) (is_named (row_of rows i) level Uni j) in
    omega (arith, all, ones, own)

-- what the rank of the request of input i for output j is made of, where these rows are posted, by input g
abbrev pub one_distances_of : ℕ → ℕ → Places → List Row → ℕ → ℕ → ℕ → OneDistances
one_distances_of n level places rows i j g = record {
  far = distance n (grant_of places j level) i;
  silent = silent_of n level places rows i j;
  turns = distance n (accept_of places g level) j;
  fresh = fresh_of n level places i j;
}

-- that rank
abbrev pub one_rank_of : ℕ → ℕ → Places → List Row → ℕ → ℕ → ℕ → ℕ
one_rank_of n level places rows i j g = one_rank n (one_distances_of n level places rows i j g)

-- input g is the first from the output's grant pointer on that asks for it
abbrev pub IsNearest : ℕ → ℕ → Places → List Row → ℕ → ℕ → Type 0
IsNearest n level places rows j g = IsFirstFrom n (grant_of places j level) (λ x. Names (row_of rows x) level Uni j) g

-- where some input asks, one is the nearest
pub nearest_of : (n level : ℕ) (places : Places) (rows : List Row) (i j : ℕ) → grant_of places j level < n → i < n → Names (row_of rows i) level Uni j
    → (g : ℕ) × IsNearest n level places rows j g
nearest_of n level places rows i j from_in i_in named =
    IsFirstFrom-some n (grant_of places j level) (λ x. Names (row_of rows x) level Uni j) (λ x. Names-decides (row_of rows x) level Uni j) from_in i i_in named

-- the level's pointers are at ports, and so are the input and the output of the request
pub record IsAtPorts (n level : ℕ) (places : Places) (i j : ℕ) : Type 0 where
  pub pointing : ArePointing n level places
  pub input : i < n
  pub output : j < n

-- The request of input i for output j is left in a slot of one round, in which the output is asked as unicast of the level
-- alone: the nearest input then, and the nearest where the rows `later` are posted next, which keep what is asked.
pub record OneLeft (n level : ℕ) (turn : Turn n level) (later : List Row) (i j : ℕ) : Type 0 where
  pub one : turn.first ≡ turn.matched
  pub input : i < n
  pub output : j < n
  pub quiet : IsQuietFor n level j turn.rows
  pub named : Names (row_of turn.rows i) level Uni j
  pub left : Serves turn.matched i j level Uni → ⊥
  pub on : AskOn n level turn.matched turn.rows later j
  pub now : ℕ
  pub nearest : IsNearest n level turn.before turn.rows j now
  pub next : ℕ
  pub nearest_next : IsNearest n level turn.after later j next

module _ (n level : ℕ) (turn : Turn n level) (later : List Row) (i j : ℕ) (asked : OneLeft n level turn later i j) where
  -- how far an input is from the output's grant pointer before the slot
  abbrev far : ℕ → ℕ
  far = distance n (grant_of turn.before j level)

  -- what the rank is made of before the slot, and after it
  abbrev old : OneDistances
  old = one_distances_of n level turn.before turn.rows i j asked.now

  abbrev new : OneDistances
  new = one_distances_of n level turn.after later i j asked.next

  from_in : grant_of turn.before j level < n
  from_in = turn.pointing.grant j asked.output

  apart : (x y : ℕ) → x < n → y < n → (x ≡ y → ⊥) → far x ≡ far y → ⊥
  apart x y x_in y_in other e = other (distance-injective n (grant_of turn.before j level) x y from_in x_in y_in e)

  -- what is asked and not served in the one round goes on
  pub asks_on : (x : ℕ) → x < n → (Serves turn.first x j level Uni → ⊥) → Names (row_of turn.rows x) level Uni j → Names (row_of later x) level Uni j
  asks_on x x_in none names = asked.on x x_in names (λ taken. none (subst (λ m. Serves m x j level Uni) (sym asked.one) taken))

  -- so as a test
  tests_on : (x : ℕ) → x < n → (Serves turn.first x j level Uni → ⊥) → is_named (row_of turn.rows x) level Uni j ≡ true
      → is_named (row_of later x) level Uni j ≡ true
  tests_on x x_in none asks = (Decides-named (row_of later x) level Uni j).1 (asks_on x x_in none ((Decides-named (row_of turn.rows x) level Uni j).0 asks))

  -- the nearest is before i where it took the output
  pub ahead_of : Serves turn.first asked.now j level Uni → far asked.now < far i
  ahead_of served =
      let at_most = asked.nearest.least i asked.input asked.named in
      let other : asked.now ≡ i
      → ⊥ = λ same. asked.left (subst (λ x. Serves turn.matched x j level Uni) same (turn.begins.stays asked.now j level Uni served)) in
      let differ : far asked.now ≡ far i → ⊥ = apart asked.now i asked.nearest.below asked.input other in
      omega arith

  -- no input becomes silent where the nearest took the output
  pub silent_accepted : Serves turn.first asked.now j level Uni → new.silent ≤ old.silent
  silent_accepted served =
      let g_in = asked.nearest.below in
      let ahead = ahead_of served in
      let far_in = distance-lt n (grant_of turn.before j level) i from_in in
      let passed = distance-passed n (grant_of turn.before j level) asked.now i from_in g_in asked.input ahead in
      let place = turn.moved.granted asked.now j level served in
      let stay : (x : ℕ) → x < n → silent_for n level turn.after later i j x ≤ silent_for n level turn.before turn.rows i j x = λ x x_in.
      rw place (silent_at-le (far i) (far x) (distance n ((asked.now + 1) % n) i) (distance n ((asked.now + 1) % n) x)
      (is_named (row_of turn.rows x) level Uni j) (is_named (row_of later x) level Uni j)
      (λ near. elim (cases_lt (far asked.now) (far x)) [
        | inr not_before ↦ let end = distance-after n (grant_of turn.before j level) asked.now x from_in g_in x_in not_before in absurd (omega arith)
        | inl beyond ↦
            let also = distance-passed n (grant_of turn.before j level) asked.now x from_in g_in x_in beyond in (
              omega arith,
              tests_on x x_in (λ taken. let same : x ≡ asked.now = (Serves-once turn.first j x asked.now level level Uni Uni taken served).0 in let e =
                  ap far same in absurd (omega arith)),
            )
      ])) in
      sum_below-le (silent_for n level turn.after later i j) (silent_for n level turn.before turn.rows i j) n stay

  -- the nearest input took the output: the grant pointer passes it, and comes nearer to i
  one_falls_where_accepted : Serves turn.first asked.now j level Uni → one_rank n new + 1 ≤ one_rank n old
  one_falls_where_accepted served =
      let ahead = ahead_of served in
      let passed = distance-passed n (grant_of turn.before j level) asked.now i from_in asked.nearest.below asked.input ahead in
      let place = turn.moved.granted asked.now j level served in
      let closer : distance n (grant_of turn.after j level) i < far i = rw place (omega arith) in
      let no_fresher = fresh-accepted n turn.t level turn.rows turn.first turn.matched turn.begins.opening.count turn.before turn.after turn.moved
      turn.pointing i j asked.input asked.output asked.now asked.nearest.below served ahead in
      one_rank-far n new old closer (silent_accepted served) no_fresher

  module _ (nobody : (x : ℕ) → Serves turn.first x j level Uni → ⊥) where
    -- where the output serves nobody its pointer stays
    pub stays : (x : ℕ) → distance n (grant_of turn.after j level) x ≡ far x
    stays x = ap (λ p. distance n p x) (turn.moved.grant_stays j level nobody)

    -- and no input becomes silent
    pub no_more_silent : (x : ℕ) → x < n → silent_for n level turn.after later i j x ≤ silent_for n level turn.before turn.rows i j x
    no_more_silent x x_in =
        silent_at-le (far i) (far x) (distance n (grant_of turn.after j level) i) (distance n (grant_of turn.after j level) x)
        (is_named (row_of turn.rows x) level Uni j) (is_named (row_of later x) level Uni j)
        (λ near. (omega (arith, near, stays i, stays x), tests_on x x_in (nobody x)))

    -- the nearest then is no farther next
    pub no_farther : far asked.next ≤ far asked.now
    no_farther =
        let least = asked.nearest_next.least asked.now asked.nearest.below
        (asks_on asked.now asked.nearest.below (nobody asked.now) asked.nearest.member) in
        omega (arith, least, stays asked.next, stays asked.now)

  -- the nearest input took another output y: it asks on, and is the nearest unless a nearer one begins to ask
  one_falls_where_refused : (y : ℕ) → Grants n turn.t turn.rows turn.before (unmatched n) asked.now j level Uni
      → IsFirstFrom n (accept_of turn.before asked.now level) (λ k. Grants n turn.t turn.rows turn.before (unmatched n) asked.now k level Uni) y
      → Serves turn.first asked.now y level Uni → (y ≡ j → ⊥) → one_rank n new + 1 ≤ one_rank n old
  one_falls_where_refused y granted accepted served other =
      let g_in = asked.nearest.below in
      let h_in = asked.nearest_next.below in
      let nobody = quiet_refused n turn.t level turn.rows turn.first turn.before turn.level_in turn.begins.opening turn.pointing j asked.output asked.quiet
      asked.now y g_in granted accepted other in
      let at_most = asked.nearest.least i asked.input asked.named in
      let stale = stale-refused n turn.t level turn.rows turn.first turn.matched turn.begins.opening.count turn.before turn.after turn.moved turn.pointing
      i j asked.input asked.output nobody asked.now y g_in accepted.below served other (accepted.least j asked.output granted) at_most in
      let here = stays nobody i in
      elim (cases_eq asked.now asked.next) [
        | inl same ↦
            let turns = ap (λ x. distance n (accept_of turn.after x level) j) same in
            one_rank-turns n new old (omega (arith, here))
            (sum_below-le (silent_for n level turn.after later i j) (silent_for n level turn.before turn.rows i j) n (no_more_silent nobody))
            (omega (arith, stale, turns))
        | inr begins ↦
            let within = no_farther nobody in
            let differ : far asked.now ≡ far asked.next → ⊥ = apart asked.now asked.next g_in h_in begins in
            let was = silent_at-before (far i) (far asked.next) (is_named (row_of turn.rows asked.next) level Uni j) (omega arith)
            (λ asks. let least = asked.nearest.least asked.next h_in ((Decides-named (row_of turn.rows asked.next) level Uni j).0 asks) in
            absurd (omega arith)) in
            let gone = silent_at-after (distance n (grant_of turn.after j level) i) (distance n (grant_of turn.after j level) asked.next)
            (is_named (row_of later asked.next) level Uni j) ((Decides-named (row_of later asked.next) level Uni j).1 asked.nearest_next.member) in
            let fewer = sum_below-less (silent_for n level turn.after later i j) (silent_for n level turn.before turn.rows i j) n asked.next h_in
            (no_more_silent nobody) in
            one_rank-silent n new old (omega (arith, here)) (omega (arith, fewer, was, gone)) (omega (arith, stale))
      ]

  -- either way the rank falls
  pub one_falls : one_rank_of n level turn.after later i j asked.next + 1 ≤ one_rank_of n level turn.before turn.rows i j asked.now
  one_falls =
      let granted = quiet_grants n turn.t level turn.rows turn.first turn.before turn.level_in turn.begins.opening turn.pointing j asked.output asked.quiet
      asked.now asked.nearest in
      let met = quiet_served n turn.t level turn.rows turn.first turn.before turn.level_in turn.begins.opening turn.pointing j asked.output asked.quiet
      asked.now asked.nearest.below granted in
      elim (cases_eq met.0 j) [
        | inl same ↦ one_falls_where_accepted (subst (λ y. Serves turn.first asked.now y level Uni) same met.2)
        | inr other ↦ one_falls_where_refused met.0 granted met.1 met.2 other
      ]

-- of one round, the first is the last
pub one_is_first : (n : ℕ) (steps : List (List (Option Fed))) → length steps ≡ 1 → first_of n steps ≡ last_of (unmatched n) steps
one_is_first n [] one = absurd (omega arith)
one_is_first n (step ∷ []) one = refl
one_is_first n (step ∷ second ∷ steps) one = absurd (omega arith)

-- in a slot of one round the first match is the whole one
pub one_in_slot : (n t : ℕ) (places : Places) (slot : DecidedSlot) (decided : IsSlotBy AreMoved n 1 t slot.rows places slot.decision)
    → first_of n decided.steps ≡ slot.decision.matched
one_in_slot n t places slot decided = one_is_first n decided.steps decided.count ∙ sym decided.result

-- every rank is below the bound
pub one_rank_of-bound : (n level : ℕ) (places : Places) (rows : List Row) (i j g : ℕ) → IsAtPorts n level places i j
    → one_rank_of n level places rows i j g + 1 ≤ longest_service_in_one_round n
one_rank_of-bound n level places rows i j g at =
    one_rank-bound n (one_distances_of n level places rows i j g) (distance-lt n (grant_of places j level) i (at.pointing.grant j at.output))
    (silent_of-lt n level places rows i j at.input) (fresh_of-most n level places i j at.pointing at.output)

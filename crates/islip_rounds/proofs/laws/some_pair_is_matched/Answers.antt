use Rattle.std.proofs.Common.{◌≡◌, ℕ, ◌<◌, List, [], ◌∷◌, Option, None, length, slice_index, sym, subst, arith, inr}
use Rattle.std_lemmas.proofs.Lists.{get_or-same}
use Rattle.rotating_pick.specs.PortSets.{Has}
use Rattle.islip_rounds.specs.Numbers.{last_of}
use Rattle.islip_rounds.specs.Rounds.{Feeds, AreRounds}
use Rattle.islip_rounds.specs.Slots.{unmatched}
use Rattle.islip_rounds.proofs.Maximal.{some_accepts}
use Rattle.islip_rounds.proofs.Running.{nothing_fed}
use Rattle.islip_rounds.proofs.laws.some_pair_is_matched.Goals as goal

pub returns : goal.returns
returns c n i j asks before after matched numbers grant_in accept_in slot i_in j_in has = from_steps slot.steps slot.count slot.chain slot.result where
  from_steps : (steps : List (List (Option ℕ))) → length steps ≡ 1 → AreRounds n asks before unmatched steps → matched ≡ last_of unmatched steps → (x : ℕ)
      × (y : ℕ) × (x < n) × (y < n) × Has (slice_index asks x) y × Feeds matched x y
  from_steps [] count chain result = absurd (omega (arith, count))
  from_steps (step ∷ []) count chain result =
      let nothing = λ (x y : ℕ) (feeds : Feeds unmatched x y). absurd (nothing_fed x y feeds) in
      let (x, y, accepts) = some_accepts n asks before grant_in accept_in unmatched nothing i j i_in j_in (nothing_fed i) (get_or-same None 64 j) has in
      let grant = accepts.member in
      (x, y, grant.first.below, accepts.below, grant.first.member.1, subst (λ m. Feeds m x y) (sym result) ((chain.0 x y).1 (inr accepts)))
  from_steps (step ∷ other ∷ steps) count chain result = absurd (omega (arith, count))

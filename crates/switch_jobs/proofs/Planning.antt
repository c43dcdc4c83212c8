-- Members among groups: a group that gets a member more, and groups that were driven.
use Rattle.std.proofs.Common.{◌≡◌, ◌∙◌, ℕ, ◌+◌, ◌<◌, true, List, [], ◌∷◌, ◌++◌, length, set, get_or, sym, ap, subst, arith, inl, inr}
use Rattle.std.specs.Prelude.{Some, slice_get, vec_capacity}
use Rattle.std.proofs.lemmas.Bool.{cases_eq}
use Rattle.std.proofs.lemmas.Option.{slice_get_within, get_or_from_slice_get}
use Rattle.std_lemmas.proofs.Options.{some_same}
use Rattle.std_lemmas.proofs.Lists.{at_place, get-set_same, get-set_other, get-snoc}
use Rattle.slot_histories.specs.declared.events.Event.{Event}
use Rattle.turn_lock.specs.Seats.{TurnValue}
use Rattle.slot_board.specs.Seats.{is_due, refusals}
use Rattle.card_core.specs.Plans.{Plan as CardPlan}
use Rattle.card_worker.specs.declared.hands.Member.{Member}
use Rattle.card_worker.specs.declared.hands.Group.{Group}
use Rattle.card_worker.specs.Disbanding.{IsAmong}
use Rattle.card_worker.specs.Driving.{IsSameMember}
use Rattle.card_worker.specs.Groups.{IsDrivenGroup}
use Rattle.switch_jobs.specs.ReadinessSteps.{AreEmptyGroups, HaveRoomFor}
use Rattle.switch_jobs.specs.OneJournal.{HaveWaited}
use Rattle.switch_jobs.specs.SharingSteps.{ArePlanned, AreUnrefused}

-- groups without members
no_member : (groups : List Group) → AreEmptyGroups groups → (m : Member) → IsAmong m groups → ⊥
no_member groups empty m among =
    let none : length among.group.members.items ≡ 0 = ap length (empty among.place among.group among.found) in
    let inside : among.within < length among.group.members.items = slice_get_within among.group.members.items among.within m among.at in
    omega arith

pub ArePlanned-none : (plans : List CardPlan) (groups : List Group) → AreEmptyGroups groups → ArePlanned plans groups
ArePlanned-none plans groups empty m among = absurd (no_member groups empty m among)

pub AreUnrefused-none : (groups : List Group) → AreEmptyGroups groups → AreUnrefused groups
AreUnrefused-none groups empty m among = absurd (no_member groups empty m among)

-- ---- a member more
module _ (groups : List Group) (p : ℕ) (group new : Group) (member : Member) (found : slice_get groups p ≡ Some group)
    (items : new.members.items ≡ group.members.items ++ member ∷ []) where
  now_found : slice_get (set groups p new) p ≡ Some new
  now_found = get-set_same groups p new (slice_get_within groups p group found)

  each_more : (P : Member → Type 0) → ((m : Member) → IsAmong m groups → P m) → P member → (m : Member) → IsAmong m (set groups p new) → P m
  each_more P each own m among =
      elim (cases_eq among.place p) [
        | inl same ↦
            let is : among.group ≡ new =
            some_same among.group new (slice_get (set groups p new) among.place) among.found (ap (slice_get (set groups p new)) same ∙ now_found) in
            let at : slice_get (group.members.items ++ member ∷ []) among.within ≡ Some m = ap (λ ms. slice_get ms among.within) (sym items)
            ∙ ap (λ (g : Group). slice_get g.members.items among.within) (sym is) ∙ among.at in
            elim (get-snoc group.members.items member m among.within at) [
              | inl early ↦ each m (record { place = p; group = group; within = among.within; found = found; at = early })
              | inr last ↦ subst P last.1 own
            ]
        | inr other ↦ each m (record {
          place = among.place;
          group = among.group;
          within = among.within;
          found = sym (get-set_other groups p among.place new other) ∙ among.found;
          at = among.at;
        })
      ]

  pub ArePlanned-more : (plans : List CardPlan) → ArePlanned plans groups → slice_get plans member.seat.number ≡ Some member.hand.card.sends.plan
      → ArePlanned plans (set groups p new)
  ArePlanned-more plans planned own = each_more (λ m. slice_get plans m.seat.number ≡ Some m.hand.card.sends.plan) planned own

  pub AreUnrefused-more : AreUnrefused groups → refusals member.seat ≡ 0 → AreUnrefused (set groups p new)
  AreUnrefused-more unrefused own = each_more (λ m. refusals m.seat ≡ 0) unrefused own

-- a group that gets a member keeps its room
pub HaveRoomFor-set : (groups : List Group) (p : ℕ) (group new : Group) (room : ℕ) → slice_get groups p ≡ Some group
    → vec_capacity new.members ≡ vec_capacity group.members → HaveRoomFor room groups → HaveRoomFor room (set groups p new)
HaveRoomFor-set groups p group new room found same have place g at =
    elim (cases_eq place p) [
      | inl here ↦
          let is : g ≡ new = some_same g new (slice_get (set groups p new) place) at
          (ap (slice_get (set groups p new)) here ∙ get-set_same groups p new (slice_get_within groups p group found)) in
          let wide = have p group found in
          let capacity : vec_capacity g.members ≡ vec_capacity group.members = ap (λ (x : Group). vec_capacity x.members) is ∙ same in
          omega arith
      | inr other ↦ have place g (sym (get-set_other groups p place new other) ∙ at)
    ]

-- ---- groups that were driven
-- a member that is among them now was one of the same card before
pub record WasAmong (patience : ℕ) (olds : List Group) (new : Member) : Type 0 where
  pub old : Member
  pub among : IsAmong old olds
  pub same : IsSameMember old new
  pub waited : is_due new.seat ≡ true → refusals new.seat ≡ refusals old.seat + patience

module _ (board : TurnValue Event) (patience : ℕ) (olds news : List Group) (long : length news ≡ length olds)
    (driven : (p : ℕ) (d : Group) → p < length olds → IsDrivenGroup board patience (get_or olds p d) (get_or news p d)) where
  -- each by its place
  pub driven_at : (p : ℕ) (old new : Group) → slice_get olds p ≡ Some old → slice_get news p ≡ Some new → IsDrivenGroup board patience old new
  driven_at p old new at too =
      let was : get_or olds p old ≡ old = get_or_from_slice_get olds p old old at in
      let is : get_or news p old ≡ new = get_or_from_slice_get news p new old too in
      subst (λ (x : Group). IsDrivenGroup board patience old x) is
      (subst (λ (x : Group). IsDrivenGroup board patience x (get_or news p old)) was (driven p old (slice_get_within olds p old at)))

  was_among : (m : Member) → IsAmong m news → WasAmong patience olds m
  was_among m among =
      let inside : among.place < length news = slice_get_within news among.place among.group among.found in
      let old = at_place olds among.place (omega arith) in
      let passes = (driven_at among.place old.0 among.group old.1 among.found).passes in
      let count = passes.count in
      let within : among.within < length among.group.members.items = slice_get_within among.group.members.items among.within m among.at in
      let was = at_place old.0.members.items among.within (omega arith) in
      record {
        old = was.0;
        among = record { place = among.place; group = old.0; within = among.within; found = old.1; at = was.1 };
        same = passes.same among.within was.0 m was.1 among.at;
        waited = (passes.ended among.within was.0 m was.1 among.at).waited;
      }

  pub ArePlanned-driven : (plans : List CardPlan) → ArePlanned plans olds → ArePlanned plans news
  ArePlanned-driven plans planned m among =
      let was = was_among m among in
      ap (slice_get plans) was.same.number ∙ planned was.old was.among ∙ ap Some (sym was.same.plan)

  pub HaveWaited-driven : AreUnrefused olds → HaveWaited patience news
  HaveWaited-driven unrefused m among due =
      let was = was_among m among in
      let waited = was.waited due in
      let none = unrefused was.old was.among in
      omega arith

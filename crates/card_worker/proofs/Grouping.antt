-- Groups of a board: made, driven and disbanded.
use Rattle.std.proofs.Common.{◌≡◌, ◌∙◌, ℕ, zero, suc, ◌+◌, ◌<◌, ◌≤◌, false, List, [], ◌∷◌, ◌++◌, length, set, get_or, refl, sym, ap, subst, arith, inl, inr}
use Rattle.std.specs.Prelude.{None, Some, slice_get}
use Rattle.std.proofs.lemmas.Bool.{cases_eq}
use Rattle.std.proofs.lemmas.List.{length_push}
use Rattle.std.proofs.lemmas.List.Sums.{sum_by-set, sum_by-cons}
use Rattle.std.proofs.lemmas.Option.{slice_get_within, get_or_from_slice_get}
use Rattle.std_lemmas.proofs.Options.{some_same}
use Rattle.std_lemmas.proofs.Lists.{at_place, get-set_same, get-set_other, get-snoc, slice_get-seam}
use Rattle.slot_histories.specs.declared.events.Event.{Event}
use Rattle.turn_lock.specs.Seats.{TurnValue, SeatValue, AreSeats, new_seat}
use Rattle.slot_board.specs.Columns.{IsBoard}
use Rattle.slot_board.specs.Seats.{column_at}
use Rattle.slot_board.specs.Columns.{slots_posted}
use Rattle.card_core.specs.Cards.{IsAfter}
use Rattle.card_worker.specs.declared.hands.Hand.{Hand}
use Rattle.card_worker.specs.declared.hands.Member.{Member}
use Rattle.card_worker.specs.declared.hands.Group.{Group}
use Rattle.card_worker.specs.Agreeing.{IsInStep, IsLevel}
use Rattle.card_worker.specs.Trying.{IsMember}
use Rattle.card_worker.specs.Driving.{AfterPasses}
use Rattle.card_worker.specs.Disbanding.{IsAmong, HasCard, AreFrom, member_count}
use Rattle.card_worker.specs.Groups.{AreGroups}

-- a new card and its new seat
pub IsMember-new : (board : TurnValue Event) (hand : Hand) → IsBoard board → hand.kept ≡ None → IsAfter hand.card [] false
    → hand.card.sends.plan.ports ≡ board.seats → IsMember board (record { hand = hand; seat = new_seat board hand.card.sends.plan.card })
IsMember-new board hand is none after ports =
    let column = column_at (new_seat board hand.card.sends.plan.card) in
    let free : hand.card.sends.posted ≡ false = after.sent.phase in
    let level : IsLevel hand.card column = record {
      given = [];
      are_given = tt;
      after = subst (IsAfter hand.card []) (sym free) after;
      posts = ap (λ b. slots_posted b 0) (sym free);
    } in
    record {
      turn = refl;
      agrees = record {
        ports = ports ∙ is.seats;
        card = refl;
        driven = λ t below. absurd (omega arith);
        step = subst (λ k. IsInStep k hand.card column) (sym none) level;
      };
    }

-- groups without members
counts_none : (groups : List Group) → ((p : ℕ) (g : Group) → slice_get groups p ≡ Some g → g.members.items ≡ []) → member_count groups ≡ 0
counts_none [] none = refl
counts_none (group ∷ groups) none =
    let first : length group.members.items ≡ 0 = ap length (none 0 group refl) in
    let rest = counts_none groups (λ p g at. none (suc p) g at) in
    let sums = sum_by-cons (λ (g : Group). length g.members.items) group groups in
    omega arith

pub AreGroups-none : (board : TurnValue Event) (groups : List Group) → ((p : ℕ) (g : Group) → slice_get groups p ≡ Some g → g.members.items ≡ [])
    → AreGroups board 0 groups
AreGroups-none board groups none =
    record {
      count = counts_none groups none;
      each = λ i below. absurd (omega arith);
      members = λ m among.
          let empty : length among.group.members.items ≡ 0 = ap length (none among.place among.group among.found) in
          let inside : among.within < length among.group.members.items = slice_get_within among.group.members.items among.within m among.at in
          absurd (omega arith);
    }

-- ---- a member more
get-push : {X : Type 0} (xs : List X) (y x : X) (i : ℕ) → slice_get xs i ≡ Some x → slice_get (xs ++ y ∷ []) i ≡ Some x
get-push [] y x i is = let below : i < 0 = slice_get_within [] i x is in absurd (omega arith)
get-push (z ∷ xs) y x zero is = is
get-push (z ∷ xs) y x (suc i) is = get-push xs y x i is

module _ (board : TurnValue Event) (cards : ℕ) (groups : List Group) (p : ℕ) (group new : Group) (member : Member) (are : AreGroups board cards groups)
    (found : slice_get groups p ≡ Some group) (items : new.members.items ≡ group.members.items ++ member ∷ []) (is : IsMember board member)
    (number : member.seat.number ≡ cards) where
  now_found : slice_get (set groups p new) p ≡ Some new
  now_found = get-set_same groups p new (slice_get_within groups p group found)

  among_more : (m : Member) → IsAmong m groups → IsAmong m (set groups p new)
  among_more m among =
      elim (cases_eq among.place p) [
        | inl same ↦
            let own : among.group ≡ group = some_same among.group group (slice_get groups among.place) among.found (ap (slice_get groups) same ∙ found) in
            let at : slice_get group.members.items among.within ≡ Some m = ap (λ (g : Group). slice_get g.members.items among.within) (sym own) ∙ among.at in
            record {
              place = p;
              group = new;
              within = among.within;
              found = now_found;
              at = ap (λ ms. slice_get ms among.within) items
                  ∙ get-push group.members.items member m among.within at;
            }
        | inr other ↦ record {
          place = among.place;
          group = among.group;
          within = among.within;
          found = get-set_other groups p among.place new other
              ∙ among.found;
          at = among.at;
        }
      ]

  member_more : (m : Member) → IsAmong m (set groups p new) → IsMember board m
  member_more m among =
      elim (cases_eq among.place p) [
        | inl same ↦
            let own : among.group ≡ new =
            some_same among.group new (slice_get (set groups p new) among.place) among.found (ap (slice_get (set groups p new)) same ∙ now_found) in
            let at : slice_get (group.members.items ++ member ∷ []) among.within ≡ Some m = ap (λ ms. slice_get ms among.within) (sym items)
            ∙ ap (λ (g : Group). slice_get g.members.items among.within) (sym own) ∙ among.at in
            elim (get-snoc group.members.items member m among.within at) [
              | inl early ↦ are.members m (record { place = p; group = group; within = among.within; found = found; at = early })
              | inr last ↦ subst (IsMember board) last.1 is
            ]
        | inr other ↦ are.members m
            (record {
              place = among.place;
              group = among.group;
              within = among.within;
              found = sym (get-set_other groups p among.place new other)
                  ∙ among.found;
              at = among.at;
            })
      ]

  card_more : (i : ℕ) → i < cards + 1 → HasCard (set groups p new) i
  card_more i below =
      elim (cases_eq i cards) [
        | inl last ↦
            record {
              member = member;
              among = record {
                place = p;
                group = new;
                within = length group.members.items;
                found = now_found;
                at = ap (λ ms. slice_get ms (length group.members.items)) items ∙ slice_get-seam group.members.items [] member;
              };
              number = number ∙ sym last;
            }
        | inr other ↦ let has = are.each i (omega arith) in record { member = has.member; among = among_more has.member has.among; number = has.number }
      ]

  pub AreGroups-more : AreGroups board (cards + 1) (set groups p new)
  AreGroups-more =
      let inside : p < length groups = slice_get_within groups p group found in
      let old : get_or groups p group ≡ group = get_or_from_slice_get groups p group group found in
      let long : length new.members.items ≡ length group.members.items + 1 = ap length items ∙ length_push group.members.items member in
      let long_old : length (get_or groups p group).members.items ≡ length group.members.items = ap (λ (g : Group). length g.members.items) old in
      let sums = sum_by-set (λ (g : Group). length g.members.items) groups p new group inside in
      let all = are.count in
      record { count = omega arith; each = card_more; members = member_more }

-- ---- groups that were driven
counts_same : (olds news : List Group) → length news ≡ length olds
    → ((p : ℕ) (old new : Group) → slice_get olds p ≡ Some old → slice_get news p ≡ Some new → length new.members.items ≡ length old.members.items)
    → member_count news ≡ member_count olds
counts_same [] [] long same = refl
counts_same [] (new ∷ news) long same = absurd (omega (arith, long))
counts_same (old ∷ olds) [] long same = absurd (omega (arith, long))
counts_same (old ∷ olds) (new ∷ news) long same =
    let first = same 0 old new refl refl in
    let rest = counts_same olds news (omega (arith, long)) (λ p a b at too. same (suc p) a b at too) in
    let a = sum_by-cons (λ (g : Group). length g.members.items) old olds in
    let b = sum_by-cons (λ (g : Group). length g.members.items) new news in
    omega arith

module _ (board : TurnValue Event) (cards patience : ℕ) (olds news : List Group) (are : AreGroups board cards olds) (long : length news ≡ length olds)
    (passes : (p : ℕ) (old new : Group) → slice_get olds p ≡ Some old → slice_get news p ≡ Some new → (made : ℕ)
    × AfterPasses board old.members.items new.members.items patience made) where
  pub AreGroups-driven : AreGroups board cards news
  AreGroups-driven =
      record {
        count = counts_same olds news long (λ p old new at too. (passes p old new at too).1.count) ∙ are.count;
        each = λ i below.
            let has = are.each i below in
            let among = has.among in
            let inside : among.place < length olds = slice_get_within olds among.place among.group among.found in
            let new = at_place news among.place (omega arith) in
            let driven = (passes among.place among.group new.0 among.found new.1).1 in
            let count = driven.count in
            let within : among.within < length among.group.members.items = slice_get_within among.group.members.items among.within has.member among.at in
            let last = at_place new.0.members.items among.within (omega arith) in
            let same = driven.same among.within has.member last.0 among.at last.1 in
            record {
              member = last.0;
              among = record { place = among.place; group = new.0; within = among.within; found = new.1; at = last.1 };
              number = same.number ∙ has.number;
            };
        members = λ m among.
            let inside : among.place < length news = slice_get_within news among.place among.group among.found in
            let old = at_place olds among.place (omega arith) in
            let driven = (passes among.place old.0 among.group old.1 among.found).1 in
            (driven.sound among.within m among.at).agrees;
      }

-- ---- groups that were disbanded
module _ (board : TurnValue Event) (groups : List Group) (seats : List (SeatValue Event)) (hands : List Hand) (are : AreGroups board board.seats groups)
    (from : AreFrom groups seats hands (member_count groups)) where
  pub member_at : (i : ℕ) (hand : Hand) (seat : SeatValue Event) → slice_get hands i ≡ Some hand → slice_get seats i ≡ Some seat
      → IsMember board (record { hand = hand; seat = seat })
  member_at i hand seat at too = are.members (record { hand = hand; seat = seat }) (from.each i hand seat at too).1

  hand_at : (i : ℕ) (seat : SeatValue Event) → slice_get seats i ≡ Some seat → (hand : Hand) × (slice_get hands i ≡ Some hand)
  hand_at i seat at =
      let inside : i < length seats = slice_get_within seats i seat at in
      let a = from.seats_are in
      let b = from.hands_are in
      at_place hands i (omega arith)

  pub all_seats : AreSeats board seats × (length hands ≡ length seats)
  all_seats = (
    record {
      count = from.seats_are ∙ are.count;
      turns = λ i seat at. let hand = hand_at i seat at in (member_at i hand.0 seat hand.1 at).turn;
      numbers = λ i seat at. let hand = hand_at i seat at in (from.each i hand.0 seat hand.1 at).0;
    },
    from.hands_are ∙ sym from.seats_are,
  )

-- a group has no more members than all groups
pub few_members : (groups : List Group) (p : ℕ) (g : Group) → slice_get groups p ≡ Some g → length g.members.items ≤ member_count groups
few_members [] p g at = let below : p < 0 = slice_get_within [] p g at in absurd (omega arith)
few_members (group ∷ groups) zero g at =
    let same : length group.members.items ≡ length g.members.items = ap (λ (x : Group). length x.members.items) (some_same group g (Some group) refl at) in
    let sums = sum_by-cons (λ (x : Group). length x.members.items) group groups in
    omega arith
few_members (group ∷ groups) (suc p) g at =
    let rest = few_members groups p g at in
    let sums = sum_by-cons (λ (x : Group). length x.members.items) group groups in
    omega arith

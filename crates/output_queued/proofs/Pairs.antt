-- What a pair of a slot's match grants: one cell, of one queue of one input.
use Rattle.std.proofs.Common.{◌≡◌, ◌∙◌, ℕ, ◌<◌, ◌==◌, Bool, true, false, List, [], length, Option, None, Some, slice_index_or, refl, sym, ap, subst}
use Rattle.std.proofs.Common.{inl, inr, if◌then◌else◌}
use Rattle.std.proofs.lemmas.Bool.{eq-eqb, eqb-true, and_from, and_parts}
use Rattle.card_core.proofs.Carding.{kinds_differ}
use Rattle.rotating_pick.specs.declared.kinds.Kind.{Kind}
use Rattle.rotating_pick.specs.declared.kinds.Kind.TheVariants.{Uni, Multi}
use Rattle.slot_match.specs.declared.rows.Row.{Row}
use Rattle.slot_match.specs.declared.matching.Served.{Served}
use Rattle.slot_match.specs.Rows.{Names}
use Rattle.slot_match.specs.Matches.{Serves, IsMatch}
use Rattle.slot_match.specs.Parts.{served_of}
use Rattle.slot_match.proofs.Pairs.{Serves-once, Serves-along}
use Rattle.slot_match.proofs.ServedParts.{served_of-is, served_of-served}
use Rattle.multicast_queue.specs.FanQueues.{FanCell}
use Rattle.slot_histories.specs.Parts.{IsPartOf}
use Rattle.slot_histories.specs.Tests.{gives}
use Rattle.slot_histories.proofs.KeepingTests.{Decides-gives}
use Rattle.card_core.specs.Plans.{Plan, Queue, OfOutput, OfLevel, IsGoodPlan, level_of, kind_of, is_queue}
use Rattle.card_core.specs.Queues.{waiting, queue_in}
use Rattle.card_core.specs.Posts.{has_cells, row_at, IsServable}
use Rattle.card_core.specs.Grants.{serves, first_of}
use Rattle.card_core.proofs.Accepting.{uni-in, multi-in, left_waits}
use Rattle.card_core.proofs.CellCounts.{one_first}
use Rattle.card_core.proofs.Passing.{is_queue-same}
use Rattle.card_core.proofs.Arriving.{is_queue-refl}
use Rattle.output_queued.specs.Switches.{Matched}
use Rattle.output_queued.proofs.Shares.{over, over-none, over-one, over-same, grant_for, IsTo, unicast, multicast}

-- the queue of an input from which it feeds output j, at a level with a kind
abbrev pub to_queue : ℕ → ℕ → Kind → Queue
to_queue j level Uni = OfOutput j level
to_queue j level Multi = OfLevel level

is_to : (j level : ℕ) (kind : Kind) → level < 4 → IsTo j (to_queue j level kind)
is_to j level Uni below = unicast level below
is_to j level Multi below = multicast level below

module _ (n : ℕ) (matched : Matched) (whole : IsMatch n matched) (i : ℕ) where
  -- ---- an input's part of the match
  module _ (row : Row) (named : (j level : ℕ) (kind : Kind) → Serves matched i j level kind → Names row level kind j) where
    part_is : (part : Served) → served_of matched i ≡ Some part → IsPartOf row part
    part_is part is =
        let mine = served_of-is n matched whole i part is in
        record {
          some = mine.some;
          named = λ j has. named j part.level part.kind ((mine.outputs j).0 has);
          one = λ uni j k has again. elim (whole.once i j part.level part.kind k part.level part.kind ((mine.outputs j).0 has) ((mine.outputs k).0 again)) [
            | inl same ↦ same
            | inr twice ↦ absurd (kinds_differ (sym uni ∙ twice.1))
          ];
          level = let first = mine.some in whole.level_in i first.0 part.level part.kind ((mine.outputs first.0).0 first.1);
        }

    by_part : (part : Option Served) → served_of matched i ≡ part → IsServable row part
    by_part None is = tt
    by_part (Some part) is = part_is part is

    pub may_serve : IsServable row (served_of matched i)
    may_serve = by_part (served_of matched i) refl

  given_of : (j level : ℕ) (kind : Kind) (part : Option Served) → served_of matched i ≡ part → gives part j level kind ≡ true → Serves matched i j level kind
  given_of j level kind None is given = absurd ((Decides-gives None j level kind).0 given)
  given_of j level kind (Some part) is given =
      let g = (Decides-gives (Some part) j level kind).0 given in
      let mine = served_of-is n matched whole i part is in
      Serves-along matched i j part.level level part.kind kind (sym g.1) (sym g.2) ((mine.outputs j).0 g.0)

  gives-pair : (j level : ℕ) (kind : Kind) → Serves matched i j level kind → gives (served_of matched i) j level kind ≡ true
  gives-pair j level kind pair =
      let found = served_of-served n matched whole i j level kind pair in
      let part = found.0 in
      let alike = found.2.only j level kind pair in
      let member = (found.2.outputs j).1 (Serves-along matched i j level part.level kind part.kind alike.0 alike.1 pair) in
      ap (λ served. gives served j level kind) found.1 ∙ (Decides-gives (Some part) j level kind).1 (member, alike.0, alike.1)

  serves_pair : (q : Queue) (j : ℕ) → serves q j (served_of matched i) ≡ true → Serves matched i j (level_of q) (kind_of q)
      × (q ≡ to_queue j (level_of q) (kind_of q))
  serves_pair (OfOutput k level) j is =
      let both = and_parts (k == j) (gives (served_of matched i) j level Uni) is in
      (given_of j level Uni (served_of matched i) refl both.1, ap (λ x. OfOutput x level) (eqb-true k j both.0))
  serves_pair (OfLevel level) j is = (given_of j level Multi (served_of matched i) refl is, refl)

  pair_serves : (j level : ℕ) (kind : Kind) → Serves matched i j level kind → serves (to_queue j level kind) j (served_of matched i) ≡ true
  pair_serves j level Uni pair = and_from (j == j) (gives (served_of matched i) j level Uni) (eq-eqb j j refl) (gives-pair j level Uni pair)
  pair_serves j level Multi pair = gives-pair j level Multi pair

  -- ---- what is granted of its queues
  no_first : (b : Bool) (w : List FanCell) → (b ≡ true → ⊥) → length (if b then first_of w else []) ≡ 0
  no_first true w never = absurd (never refl)
  no_first false w never = refl

  module _ (plan : Plan) (good : IsGoodPlan plan) (served : List (Option Served)) (t : ℕ) (now : slice_index_or served t None ≡ served_of matched i)
      (named : (j level : ℕ) (kind : Kind) → Serves matched i j level kind → Names (row_at plan served t) level kind j) where
    waits : (j level : ℕ) (kind : Kind) → Names (row_at plan served t) level kind j
        → has_cells (waiting (queue_in plan (to_queue j level kind) served t)) ≡ true
    waits j level Uni names = (uni-in plan good served t level j names).2
    waits j level Multi names = left_waits plan good (OfLevel level) (queue_in plan (OfLevel level) served t) j (multi-in plan good served t level j names).1

    grant_now : (j : ℕ) (q : Queue)
        → grant_for plan served j q t ≡ length (if serves q j (served_of matched i) then first_of (waiting (queue_in plan q served t)) else [])
    grant_now j q = ap (λ part. length (if serves q j part then first_of (waiting (queue_in plan q served t)) else [])) now

    grant_if : (j level : ℕ) (kind : Kind) → Serves matched i j level kind → (q : Queue) (b : Bool) → is_queue q (to_queue j level kind) ≡ b
        → length (if serves q j (served_of matched i) then first_of (waiting (queue_in plan q served t)) else []) ≡ (if b then 1 else 0)
    grant_if j level kind pair q true is =
        let same = is_queue-same q (to_queue j level kind) is in
        ap (λ r. length (if serves r j (served_of matched i) then first_of (waiting (queue_in plan r served t)) else [])) same
        ∙ one_first (serves (to_queue j level kind) j (served_of matched i)) (waiting (queue_in plan (to_queue j level kind) served t))
        (pair_serves j level kind pair) (waits j level kind (named j level kind pair))
    grant_if j level kind pair q false is =
        no_first (serves q j (served_of matched i)) (waiting (queue_in plan q served t)) (λ serving.
        let other = serves_pair q j serving in
        let alike = Serves-once matched j i i (level_of q) level (kind_of q) kind other.0 pair in
        let same : q ≡ to_queue j level kind = other.1 ∙ ap (λ l. to_queue j l (kind_of q)) alike.1 ∙ ap (to_queue j level) alike.2 in
        let yes' : is_queue q (to_queue j level kind) ≡ true = subst (λ r. is_queue q r ≡ true) same (is_queue-refl q) in
        absurd (cc))

    -- a pair grants one cell
    pub pair_grants : (j level : ℕ) (kind : Kind) → Serves matched i j level kind → over j (λ q. grant_for plan served j q t) ≡ 1
    pair_grants j level kind pair =
        over-same j (λ q. grant_for plan served j q t) (λ q. if is_queue q (to_queue j level kind) then 1 else 0)
        (λ q to. grant_now j q ∙ grant_if j level kind pair q (is_queue q (to_queue j level kind)) refl)
        ∙ over-one j 1 (to_queue j level kind) (is_to j level kind (whole.level_in i j level kind pair))

    -- and where the input does not feed the output, nothing is granted to it
    pub none_granted : (j : ℕ) → ((level : ℕ) (kind : Kind) → Serves matched i j level kind → ⊥) → over j (λ q. grant_for plan served j q t) ≡ 0
    none_granted j never = over-none j (λ q. grant_for plan served j q t) (λ q.
        grant_now j q ∙ no_first (serves q j (served_of matched i)) (waiting (queue_in plan q served t))
        (λ serving. never (level_of q) (kind_of q) (serves_pair q j serving).0))

-- The cells that are granted of a queue are the first that entered it, in order.
use Rattle.std.proofs.Common.{◌≡◌, ◌∙◌, ℕ, zero, suc, ◌+◌, ◌^◌, ◌<◌, ◌≤◌, ◌==◌, ◌&&◌, not, Bool, true, false, List, [], ◌∷◌, ◌++◌, drop, take, length}
use Rattle.std.proofs.Common.{Option, Some, None, slice_index_or, refl, sym, ap, subst, arith, if◌then◌else◌, append_assoc}
use Rattle.std.specs.Option.{option_map}
use Rattle.std.proofs.lemmas.Bool.{and_parts, and_from, eqb-true, eq-eqb, false_from_ne_true}
use Rattle.std.proofs.lemmas.List.{append-nil, take-append-le, take_all, length-drop}
use Rattle.std.proofs.lemmas.List.Elements.{filter-append}
use Rattle.std.proofs.lemmas.Nat.Bits.{bit_at-pow_same}
use Rattle.std.specs.Cmp.{both_ways}
use Rattle.card_core.proofs.Carding.{kinds_differ}
use Rattle.rotating_pick.specs.PortSets.{Has}
use Rattle.rotating_pick.specs.declared.kinds.Kind.{Kind}
use Rattle.rotating_pick.specs.declared.kinds.Kind.TheVariants.{Uni, Multi}
use Rattle.slot_match.specs.declared.matching.Served.{Served}
use Rattle.slot_match.specs.declared.rows.Row.{Row}
use Rattle.slot_match.specs.Rows.{Names}
use Rattle.slot_match.specs.Keeping.{Gives}
use Rattle.slot_match.proofs.Sets.{zero-has}
use Rattle.slot_histories.specs.Tests.{has, gives}
use Rattle.slot_histories.proofs.SetTests.{Decides-has}
use Rattle.slot_histories.proofs.KeepingTests.{Decides-gives}
use Rattle.multicast_queue.specs.FanQueues.{FanCell, first_fan, first_name}
use Rattle.card_core.specs.Plans.{Plan, Queue, OfOutput, OfLevel, IsGoodPlan, level_of, kind_of, arriving, cell_named}
use Rattle.card_core.specs.Queues.{Passed, waiting, remaining, rest_of, coming, with_arrival, with_since, head_gone, after_part_of, before, queue_in}
use Rattle.card_core.specs.Posts.{has_cells, row_at, granted_by, granted_at, queue_by, IsServable}
use Rattle.slot_histories.specs.Parts.{IsPartOf}
use Rattle.card_core.specs.Grants.{serves, first_of, granted_to, to_output, begun_for}
use Rattle.card_core.proofs.Remaining.{remaining-has, remaining-part}
use Rattle.card_core.proofs.Passing.{AreOf, AreOf-drop, kept-gone, IsHeld, IsKept, kept-before, kept-in, kept-arrival, waiting-more, small_fan}
use Rattle.card_core.proofs.Accepting.{uni-in, multi-in, rest_output, output_left, one_output, last-only}
use Rattle.card_core.proofs.Taking.{remaining-whole}

-- ---- what a part serves
serves-gives : (q : Queue) (j : ℕ) (part : Option Served) → serves q j part ≡ true → gives part j (level_of q) (kind_of q) ≡ true
serves-gives (OfOutput k l) j part is = (and_parts (k == j) (gives part j l Uni) is).1
serves-gives (OfLevel l) j part is = is

gives-names : (row : Row) (part : Option Served) (j l : ℕ) (kind : Kind) → IsServable row part → Gives part j l kind → Names row l kind j
gives-names row None j l kind may given = absurd given
gives-names row (Some part) j l kind may given =
    subst (λ m. Names row m kind j) (sym given.1) (subst (λ k. Names row part.level k j) (sym given.2) (may.named j given.0))

-- ---- one cell more
and_true : (b : Bool) → b && not false ≡ b
and_true true = refl
and_true false = refl

pieces : (goes left after served : Bool) (c : FanCell) → (served ≡ true → left ≡ true) → (left ≡ true → goes ≡ true) → after ≡ (left && not served)
    → (if goes && not left then c ∷ [] else []) ++ (if served then c ∷ [] else []) ≡ (if goes && not after then c ∷ [] else [])
pieces goes left after true c named among is = let l = named refl in let g = among l in rw (is, l, g) refl
pieces goes left after false c named among is = append-nil (if goes && not left then c ∷ [] else [])
    ∙ ap (λ (b : Bool). if goes && not b then c ∷ [] else []) (sym (is ∙ and_true left))

gone_is : (goes : Bool) (c : FanCell) → (if goes && not false then c ∷ [] else []) ≡ (if goes then c ∷ [] else [])
gone_is goes c = ap (λ (b : Bool). if b then c ∷ [] else []) (and_true goes)

-- of nothing served nothing was begun
fresh_begun : (a b : Bool) (cells : List FanCell) → (a ≡ true → b ≡ true) → (if a && not b then cells else []) ≡ []
fresh_begun true b cells tells = rw (tells refl) refl
fresh_begun false b cells tells = refl

first_of_nil : (b : Bool) → (if b then [] else []) ≡ (let e : List FanCell = [] in e)
first_of_nil true = refl
first_of_nil false = refl

not_true : (b : Bool) → (b ≡ true → ⊥) → not b ≡ true
not_true true none = absurd (none refl)
not_true false none = refl

false_not : (b : Bool) → not b ≡ true → b ≡ true → ⊥
false_not true e is = cc
false_not false e is = cc

none_has : (j : ℕ) → has 0 j ≡ false
none_has j = false_from_ne_true (has 0 j) (λ e. zero-has 0 j refl ((Decides-has 0 j).0 e))

take_next : (n : ℕ) (xs : List FanCell) (c : FanCell) (v : List FanCell) → drop n xs ≡ c ∷ v → take (n + 1) xs ≡ take n xs ++ c ∷ []
take_next zero [] c v is = absurd (cc)
take_next zero (x ∷ xs) c v is = let e : x ≡ c = cc in ap (λ y. y ∷ []) e
take_next (suc n) [] c v is = absurd (cc)
take_next (suc n) (x ∷ xs) c v is =
    let e : suc n + 1 ≡ suc (n + 1) = omega arith in
    ap (λ k. take k (x ∷ xs)) e ∙ ap (λ ys. x ∷ ys) (take_next n xs c v is)

module _ (plan : Plan) (good : IsGoodPlan plan) (q : Queue) (j : ℕ) where
  -- what was granted of the head of some cells
  abbrev pub begun_by : List FanCell → List (Option Served) → List FanCell
  begun_by w since = if has (first_fan w) j && not (has (remaining q (first_fan w) since) j) then first_of w else []

  whole_has : (w : List FanCell) → AreOf plan q w → has (first_fan w) j ≡ true → has (remaining q (first_fan w) []) j ≡ true
  whole_has [] are goes = ap (λ x. has x j) (remaining-whole q 0 (omega arith)) ∙ goes
  whole_has (c ∷ w) are goes = ap (λ x. has x j) (remaining-whole q c.fan (small_fan plan good q c are.0)) ∙ goes

  begun_fresh : (s : Passed) → AreOf plan q (waiting s) → s.since ≡ [] → begun_for q j s ≡ []
  begun_fresh s are none =
      fresh_begun (has (first_fan (waiting s)) j) (has (rest_of q s) j) (first_of (waiting s))
      (λ goes. ap (λ parts. has (remaining q (first_fan (waiting s)) parts) j) none ∙ whole_has (waiting s) are goes)

  begun_none : (s : Passed) → waiting s ≡ [] → begun_for q j s ≡ []
  begun_none s none = ap (λ w. if has (first_fan (waiting s)) j && not (has (rest_of q s) j) then first_of w else []) none
      ∙ first_of_nil (has (first_fan (waiting s)) j && not (has (rest_of q s) j))

  -- what the queue gave so far
  abbrev pub given_of : Passed → List FanCell
  given_of s = to_output j (take s.left s.entered) ++ begun_for q j s

  waits_of : (s : Passed) → IsKept plan q s → AreOf plan q (waiting s)
  waits_of s kept = AreOf-drop plan q s.left s.entered kept.cells

  -- ---- an arrival
  begun_case : (s : Passed) (t : ℕ) (w : List FanCell) → waiting s ≡ w → IsKept plan q s
      → begun_for q j (with_arrival plan q (arriving plan t) s) ≡ begun_for q j s
  begun_case s t [] is kept =
      let none : s.since ≡ [] = subst (λ w. IsHeld q w s.since) is kept.held in
      let now = with_arrival plan q (arriving plan t) s in
      begun_fresh now (waits_of now (kept-arrival plan good q s t kept)) none ∙ sym (begun_none s is)
  begun_case s t (c ∷ v) is kept =
      let come = coming plan q s (arriving plan t) in
      ap (λ w. begun_by w s.since) (waiting-more plan good q s t kept.within ∙ ap (λ w. w ++ come) is) ∙ ap (λ w. begun_by w s.since) (sym is)

  given_arrival : (s : Passed) (t : ℕ) → IsKept plan q s → given_of (with_arrival plan q (arriving plan t) s) ≡ given_of s
  given_arrival s t kept =
      let come = coming plan q s (arriving plan t) in
      let now = with_arrival plan q (arriving plan t) s in
      ap (λ xs. to_output j xs ++ begun_for q j now) (take-append-le s.left s.entered come kept.within)
      ∙ ap (λ xs. to_output j (take s.left s.entered) ++ xs) (begun_case s t (waiting s) refl kept)

  -- ---- a part
  after_rest : (s : Passed) (part : Option Served) → (gives part j (level_of q) (kind_of q) ≡ true → Has (rest_of q s) j → serves q j part ≡ true)
      → has (rest_of q (with_since s (part ∷ s.since))) j ≡ (has (rest_of q s) j && not (serves q j part))
  after_rest s part back =
      let of = remaining-part q (first_fan (waiting s)) s.since part j in
      let tells = Decides-gives part j (level_of q) (kind_of q) in
      let rest = rest_of q s in
      let next = rest_of q (with_since s (part ∷ s.since)) in
      both_ways (has next j) (has rest j && not (serves q j part))
      (λ m.
      let both = of.0 ((Decides-has next j).0 m) in
      and_from (has rest j) (not (serves q j part)) ((Decides-has rest j).1 both.0)
      (not_true (serves q j part) (λ served. both.1 (tells.0 (serves-gives q j part served)))))
      (λ m.
      let both = and_parts (has rest j) (not (serves q j part)) m in
      let left = (Decides-has rest j).0 both.0 in
      (Decides-has next j).1 (of.1 (left, λ given. false_not (serves q j part) both.1 (back (tells.1 given) left))))

  part_if : (s : Passed) (part : Option Served) (c : FanCell) (v : List FanCell) → waiting s ≡ c ∷ v → IsKept plan q s
      → (serves q j part ≡ true → has (rest_of q s) j ≡ true)
      → has (rest_of q (with_since s (part ∷ s.since))) j ≡ (has (rest_of q s) j && not (serves q j part))
      → given_of s ++ (if serves q j part then first_of (waiting s) else [])
      ≡ given_of (if rest_of q (with_since s (part ∷ s.since)) == 0 then head_gone s else with_since s (part ∷ s.since))
  part_if s part c v is kept named after =
      let out = to_output j (take s.left s.entered) in
      let goes = has (first_fan (waiting s)) j in
      let left = has (rest_of q s) j in
      let among : left ≡ true → goes ≡ true =
      λ m. (Decides-has (first_fan (waiting s)) j).1 (remaining-has q (first_fan (waiting s)) s.since j ((Decides-has (rest_of q s) j).0 m)).0 in
      let joined = λ (next : Bool) (e : next ≡ (left && not (serves q j part))).
      ap (λ w. (if goes && not left then first_of w else []) ++ (if serves q j part then first_of w else [])) is
      ∙ pieces goes left next (serves q j part) c named among e in
      let start = append_assoc out (begun_for q j s) (if serves q j part then first_of (waiting s) else []) in
      elim (rest_of q (with_since s (part ∷ s.since)) == 0) as (λ v'. (rest_of q (with_since s (part ∷ s.since)) == 0) ≡ v'
      → given_of s ++ (if serves q j part then first_of (waiting s) else []) ≡ given_of (if v' then head_gone s else with_since s (part ∷ s.since))) [
        | true ↦ λ none.
            let zero' : rest_of q (with_since s (part ∷ s.since)) ≡ 0 = eqb-true (rest_of q (with_since s (part ∷ s.since))) 0 none in
            let lost : false ≡ (left && not (serves q j part)) = sym (ap (λ x. has x j) zero' ∙ none_has j) ∙ after in
            let gone = head_gone s in
            start
            ∙ ap (λ xs. out ++ xs) (joined false lost ∙ gone_is goes c ∙ ap (λ f. if has f j then c ∷ [] else []) (ap first_fan is))
            ∙ sym (filter-append (λ (cell : FanCell). has cell.fan j) (take s.left s.entered) (c ∷ []))
            ∙ ap (to_output j) (sym (take_next s.left s.entered c v is))
            ∙ sym (append-nil (to_output j (take (s.left + 1) s.entered)))
            ∙ ap (λ xs. to_output j (take (s.left + 1) s.entered) ++ xs) (sym (begun_fresh gone (waits_of gone (kept-gone plan good q s c v is kept)) refl))
        | false ↦ λ some.
            start
            ∙ ap (λ xs. out ++ xs) (joined (has (rest_of q (with_since s (part ∷ s.since))) j) after
            ∙ ap (λ w. if goes && not (has (rest_of q (with_since s (part ∷ s.since))) j) then first_of w else []) (sym is))
      ] refl

  part_case : (s : Passed) (part : Option Served) (w : List FanCell) → waiting s ≡ w → IsKept plan q s
      → (serves q j part ≡ true → has (rest_of q s) j ≡ true)
      → has (rest_of q (with_since s (part ∷ s.since))) j ≡ (has (rest_of q s) j && not (serves q j part))
      → given_of s ++ (if serves q j part then first_of (waiting s) else []) ≡ given_of (after_part_of q s part w)
  part_case s part [] is kept named after =
      let out = to_output j (take s.left s.entered) in
      ap (λ w. (out ++ begun_for q j s) ++ (if serves q j part then first_of w else [])) is
      ∙ ap (λ xs. (out ++ begun_for q j s) ++ xs) (first_of_nil (serves q j part))
      ∙ append-nil (out ++ begun_for q j s)
      ∙ ap (λ xs. out ++ xs) (begun_none s is ∙ sym (begun_none (with_since s []) is))
  part_case s part (c ∷ v) is kept named after =
      part_if s part c v is kept named after

-- ---- the slots
module _ (plan : Plan) (good : IsGoodPlan plan) (served : List (Option Served)) where
  -- a part that is served stands in the row
  rest_served : (q : Queue) (j t : ℕ) → IsServable (row_at plan served t) (slice_index_or served t None) → serves q j (slice_index_or served t None) ≡ true
      → Has (rest_of q (queue_in plan q served t)) j
  rest_served (OfOutput k l) j t may is =
      let both = and_parts (k == j) (gives (slice_index_or served t None) j l Uni) is in
      let given = (Decides-gives (slice_index_or served t None) j l Uni).0 both.1 in
      let named = uni-in plan good served t l j (gives-names (row_at plan served t) (slice_index_or served t None) j l Uni may given) in
      let port : k ≡ j = eqb-true k j both.0 in
      subst (λ i. Has (rest_of (OfOutput i l) (queue_in plan (OfOutput i l) served t)) j) (sym port)
      (output_left plan good j l (queue_in plan (OfOutput j l) served t) (kept-in plan good (OfOutput j l) served t) named.2)
  rest_served (OfLevel l) j t may is =
      let given = (Decides-gives (slice_index_or served t None) j l Multi).0 is in
      (multi-in plan good served t l j (gives-names (row_at plan served t) (slice_index_or served t None) j l Multi may given)).1

  -- and what was given of the rest was served of the queue
  served_rest : (q : Queue) (j : ℕ) (s : Passed) (part : Option Served) → IsKept plan q s → gives part j (level_of q) (kind_of q) ≡ true → Has (rest_of q s) j
      → serves q j part ≡ true
  served_rest (OfOutput k l) j s part kept given left =
      let port : j ≡ k = rest_output plan good k l s kept j left in
      and_from (k == j) (gives part j l Uni) (eq-eqb k j (sym port)) given
  served_rest (OfLevel l) j s part kept given left = given

  pub granted_is : (q : Queue) (j t : ℕ) → ((u : ℕ) → u < t → IsServable (row_at plan served u) (slice_index_or served u None))
      → granted_to plan q j served t ≡ given_of plan good q j (before plan q served t)
  granted_is q j zero may = sym (begun_none plan good q j (before plan q served 0) refl)
  granted_is q j (suc t) may =
      let part = slice_index_or served t None in
      let s = queue_in plan q served t in
      let kept = kept-in plan good q served t in
      let so_far = granted_is q j t (λ u less. may u (omega arith)) in
      ap (λ xs. xs ++ (if serves q j part then first_of (waiting s) else []))
      (so_far ∙ sym (given_arrival plan good q j (before plan q served t) t (kept-before plan good q served t)))
      ∙ part_case plan good q j s part (waiting s) refl kept
      (λ is. (Decides-has (rest_of q s) j).1 (rest_served q j t (may t (omega arith)) is))
      (after_rest plan good q j s part (served_rest q j s part kept))

  pub all_granted : (q : Queue) (j t : ℕ) → ((u : ℕ) → u < t → IsServable (row_at plan served u) (slice_index_or served u None))
      → waiting (before plan q served t) ≡ []
      → granted_to plan q j served t ≡ to_output j (before plan q served t).entered
  all_granted q j t may empty =
      let s = before plan q served t in
      let all : length s.entered ≤ s.left = let e = ap length empty in omega (arith, length-drop s.left s.entered) in
      granted_is q j t may
      ∙ ap (λ xs. to_output j xs ++ begun_for q j s) (take_all s.left s.entered all)
      ∙ ap (λ xs. to_output j s.entered ++ xs) (begun_none plan good q j s empty)
      ∙ append-nil (to_output j s.entered)

  -- every cell of a unicast queue goes to its output
  goes_there : (j l : ℕ) (cells : List FanCell) → AreOf plan (OfOutput j l) cells → to_output j cells ≡ cells
  goes_there j l [] are = refl
  goes_there j l (c ∷ cells) are =
      let fan : c.fan ≡ 2 ^ j = are.0.fan ∙ one_output j l are.0.packet are.0.queue in
      let goes : has c.fan j ≡ true = (Decides-has c.fan j).1 (subst (λ f. Has f j) (sym fan) (bit_at-pow_same j)) in
      ap (λ (b : Bool). if b then c ∷ to_output j cells else to_output j cells) goes ∙ ap (λ xs. c ∷ xs) (goes_there j l cells are.1)

  are_take : (q : Queue) (n : ℕ) (cells : List FanCell) → AreOf plan q cells → AreOf plan q (take n cells)
  are_take q zero cells are = tt
  are_take q (suc n) [] are = tt
  are_take q (suc n) (c ∷ cells) are = (are.0, are_take q n cells are.1)

  -- and of the one that is head nothing was granted yet
  unbegun : (j l : ℕ) (s : Passed) (w : List FanCell) → waiting s ≡ w → IsKept plan (OfOutput j l) s → begun_for (OfOutput j l) j s ≡ []
  unbegun j l s [] is kept = begun_none plan good (OfOutput j l) j s is
  unbegun j l s (c ∷ v) is kept =
      let left = output_left plan good j l s kept (ap has_cells is) in
      fresh_begun (has (first_fan (waiting s)) j) (has (rest_of (OfOutput j l) s) j) (first_of (waiting s))
      (λ goes. (Decides-has (rest_of (OfOutput j l) s) j).1 left)

  pub unicast_granted : (j l t : ℕ) → ((u : ℕ) → u < t → IsServable (row_at plan served u) (slice_index_or served u None))
      → granted_to plan (OfOutput j l) j served t ≡ take (before plan (OfOutput j l) served t).left (before plan (OfOutput j l) served t).entered
  unicast_granted j l t may =
      let s = before plan (OfOutput j l) served t in
      let kept = kept-before plan good (OfOutput j l) served t in
      let cells = take s.left s.entered in
      granted_is (OfOutput j l) j t may
      ∙ ap (λ xs. to_output j cells ++ xs) (unbegun j l s (waiting s) refl kept)
      ∙ append-nil (to_output j cells)
      ∙ goes_there j l cells (are_take (OfOutput j l) s.left s.entered kept.cells)

-- ---- the queue that a part serves

queue_is : (row : Row) (part : Served) (kind : Kind) (q : Queue) (j : ℕ) → ((l : ℕ) → Names row l Uni j → j < 64) → part.kind ≡ kind → IsPartOf row part
    → serves q j (Some part) ≡ true → queue_by kind part ≡ q
queue_is row part Uni (OfOutput k l) j inside is may served =
    let both = and_parts (k == j) (gives (Some part) j l Uni) served in
    let port : k ≡ j = eqb-true k j both.0 in
    let given = (Decides-gives (Some part) j l Uni).0 both.1 in
    let only = last-only 64 part.outputs j (inside l (gives-names row (Some part) j l Uni may given)) given.0 (λ y other. may.one is y j other given.0) in
    ap (λ i. OfOutput i part.level) (only ∙ sym port) ∙ ap (OfOutput k) (sym given.1)
queue_is row part Uni (OfLevel l) j inside is may served = let given = (Decides-gives (Some part) j l Multi).0 served in
    absurd (kinds_differ (sym is ∙ sym given.2))
queue_is row part Multi (OfOutput k l) j inside is may served =
    let both = and_parts (k == j) (gives (Some part) j l Uni) served in
    let given = (Decides-gives (Some part) j l Uni).0 both.1 in
    absurd (kinds_differ (given.2 ∙ is))
queue_is row part Multi (OfLevel l) j inside is may served = let given = (Decides-gives (Some part) j l Multi).0 served in ap OfLevel (sym given.1)

module _ (plan : Plan) (good : IsGoodPlan plan) (served : List (Option Served)) where
  granted_case : (q : Queue) (j t : ℕ) (part : Option Served) → IsServable (row_at plan served t) part → serves q j part ≡ true
      → granted_by plan served t part ≡ option_map (cell_named plan) (first_name (waiting (queue_in plan q served t)))
  granted_case q j t None may is = absurd ((Decides-gives None j (level_of q) (kind_of q)).0 (serves-gives q j None is))
  granted_case q j t (Some part) may is =
      ap (λ r. option_map (cell_named plan) (first_name (waiting (queue_in plan r served t))))
      (queue_is (row_at plan served t) part part.kind q j (λ l named. let m = uni-in plan good served t l j named in omega (arith, m.1, good.size)) refl may is)

  pub first_granted : (q : Queue) (j t : ℕ) → IsServable (row_at plan served t) (slice_index_or served t None)
      → serves q j (slice_index_or served t None) ≡ true
      → granted_at plan served (suc t) ≡ option_map (cell_named plan) (first_name (waiting (queue_in plan q served t)))
  first_granted q j t may is = granted_case q j t (slice_index_or served t None) may is

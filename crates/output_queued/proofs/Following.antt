-- One slot more: what a reference keeps after it.
use Rattle.std.proofs.Common.{◌≡◌, ◌∙◌, ℕ, zero, suc, ◌+◌, ◌-◌, ◌<◌, ◌≤◌, ◌&&◌, nat_lt, Bool, true, false, List, [], ◌∷◌, ◌++◌, map, length, Option}
use Rattle.std.proofs.Common.{None, Some, refl, sym, ap, subst, arith, inl, inr, if◌then◌else◌, length-append}
use Rattle.std.specs.Prelude.{is_some, max}
use Rattle.std.proofs.lemmas.Bool.{cases_lt, le-ltb}
use Rattle.std.proofs.lemmas.List.{map-append, length-map}
use Rattle.std.proofs.Math.ListN.{get_or-append}
use Rattle.std.proofs.Math.Seq.{get_or-append_seam}
use Rattle.slot_match.specs.declared.matching.Served.{Served}
use Rattle.slot_match.specs.Matches.{fed_of}
use Rattle.slot_match.specs.Parts.{served_of, set_of}
use Rattle.rotating_pick.specs.declared.limits.TheConstants.{LEVELS}
use Rattle.std.specs.List.{range_with_len}
use Rattle.card_core.specs.declared.plan.Planned.{Planned}
use Rattle.card_core.specs.Plans.{Plan, Queue, OfOutput, OfLevel, queue_of, arriving, size_of}
use Rattle.card_core.specs.Queues.{Passed, waiting, rest_of, queue_in, fits}
use Rattle.card_core.specs.Posts.{has_cells, row_at}
use Rattle.card_core.proofs.Taking.{before-more, queue_in-more}
use Rattle.slot_histories.specs.Tests.{has}
use Rattle.output_queued.specs.declared.line.RefLine.{RefLine}
use Rattle.output_queued.specs.declared.tally.Tally.{Tally}
use Rattle.output_queued.specs.Ideal.{total, queued, given}
use Rattle.output_queued.specs.Switches.{Matched, match_at, served_in, card_of, brought, cells_from, comes, feeds}
use Rattle.output_queued.specs.Lines.{ideal, ran, end_of, greatest_of, ahead, line_by, line_of}
use Rattle.output_queued.specs.NotingSteps.{IsTally, IsSmall}
use Rattle.output_queued.specs.Steps.{Ticks}
use Rattle.output_queued.proofs.Totals.{total-same}
use Rattle.output_queued.proofs.Ideals.{given-queued, recurrence}

-- ---- counts that are the same so far
queued-same : (f g : ℕ → ℕ) (n : ℕ) → ((u : ℕ) → u < n → f u ≡ g u) → queued f n ≡ queued g n
queued-same f g zero same = refl
queued-same f g (suc n) same =
    let rest = queued-same f g n (λ u below. same u (omega arith)) in
    let here = same n (omega arith) in
    omega arith

pub given-same : (f g : ℕ → ℕ) (n : ℕ) → ((u : ℕ) → u < n → f u ≡ g u) → given f n ≡ given g n
given-same f g zero same = refl
given-same f g (suc n) same =
    let rest = given-same f g n (λ u below. same u (omega arith)) in
    let waits = queued-same f g n (λ u below. same u (omega arith)) in
    let here = same n (omega arith) in
    omega arith

end-same : (f g : ℕ → ℕ) (n : ℕ) → ((u : ℕ) → u ≤ n → f u ≡ g u) → end_of f n ≡ end_of g n
end-same f g zero same = refl
end-same f g (suc n) same =
    let rest = end-same f g n (λ u within. same u (omega arith)) in
    let here = same n (omega arith) in
    let next = same (suc n) (omega arith) in
    rw (here, next, rest) refl

greatest-same : (f g : ℕ → ℕ) (n : ℕ) → ((u : ℕ) → u < n → f u ≡ g u) → greatest_of f n ≡ greatest_of g n
greatest-same f g zero same = refl
greatest-same f g (suc n) same =
    let rest = greatest-same f g n (λ u below. same u (omega arith)) in
    let here = same n (omega arith) in
    rw (here, rest) refl

-- two lines with the same numbers
line-is : (l m : RefLine) → l.ends ≡ m.ends → l.runs ≡ m.runs → l.lead ≡ m.lead → l.extra ≡ m.extra → l ≡ m
line-is l m p q r s = same where
  same : ◌≡◌ {A = RefLine} (record { ends = l.ends; runs = l.runs; lead = l.lead; extra = l.extra })
      (record { ends = m.ends; runs = m.runs; lead = m.lead; extra = m.extra })
  same = rw (p, q, r, s) refl

pub line-same : (f f' g g' : ℕ → ℕ) (n : ℕ) → ((u : ℕ) → u ≤ n → f u ≡ f' u) → ((u : ℕ) → u ≤ n → g u ≡ g' u) → line_by f g n ≡ line_by f' g' n
line-same f f' g g' n first second =
    let apart : (u : ℕ) → u < n → ahead f g u ≡ ahead f' g' u = λ u below. let a = first (suc u) (omega arith) in let b = second (suc u) (omega arith) in
    omega arith in
    line-is (line_by f g n) (line_by f' g' n) (end-same f f' n first) (end-same g g' n second) (greatest-same (ahead f g) (ahead f' g') n apart)
    (total-same (ahead f g) (ahead f' g') n apart)

-- ---- what an input did in earlier slots
module _ (plan : Plan) (served more : List (Option Served)) (t : ℕ) (within : t ≤ length served) where
  pub row-more : row_at plan (served ++ more) t ≡ row_at plan served t
  row-more =
      let queues : (λ (q : Queue). queue_in plan q (served ++ more) t) ≡ (λ q. queue_in plan q served t) = λ x q. queue_in-more plan q served more t within x in
      ap (λ (at : Queue → Passed). record {
        uni = map (λ level. set_of plan.ports (λ j. has_cells (waiting (at (OfOutput j level))))) (range_with_len 0 LEVELS);
        multi = map (λ level. rest_of (OfLevel level) (at (OfLevel level))) (range_with_len 0 LEVELS);
      }) queues

  brought-more : (j : ℕ) (arrives : Option (ℕ × Planned)) → brought plan (served ++ more) j t arrives ≡ brought plan served j t arrives
  brought-more j None = refl
  brought-more j (Some (k, p)) = ap (λ s. if has p.fan j && fits plan s p then size_of p else 0) (before-more plan (queue_of p) served more t within)

  pub cells-more : (j : ℕ) → cells_from plan (served ++ more) j t ≡ cells_from plan served j t
  cells-more j = brought-more j (arriving plan t)

-- ---- a match more
module _ (matches : List Matched) (matched : Matched) where
  pub served-more : (i : ℕ) → served_in (matches ++ matched ∷ []) i ≡ served_in matches i ++ served_of matched i ∷ []
  served-more i = map-append (λ (m : Matched). served_of m i) matches (matched ∷ [])

  pub served-long : (i : ℕ) → length (served_in matches i) ≡ length matches
  served-long i = length-map matches (λ (m : Matched). served_of m i)

  pub slots-more : length (matches ++ matched ∷ []) ≡ suc (length matches)
  slots-more = omega (arith, length-append matches (matched ∷ []))

  pub match-before : (t : ℕ) → t < length matches → match_at (matches ++ matched ∷ []) t ≡ match_at matches t
  match-before t below = get_or-append matches (matched ∷ []) [] t below

  pub match-last : match_at (matches ++ matched ∷ []) (length matches) ≡ matched
  match-last = get_or-append_seam matches matched [] []

  pub row-before : (plan : Plan) (i t : ℕ) → t ≤ length matches → row_at plan (served_in (matches ++ matched ∷ []) i) t ≡ row_at plan (served_in matches i) t
  row-before plan i t within =
      ap (λ served. row_at plan served t) (served-more i)
      ∙ row-more plan (served_in matches i) (served_of matched i ∷ []) t (let long = served-long i in omega arith)

  pub cells-before : (plan : Plan) (i j t : ℕ) → t ≤ length matches
      → cells_from plan (served_in (matches ++ matched ∷ []) i) j t ≡ cells_from plan (served_in matches i) j t
  cells-before plan i j t within =
      ap (λ served. cells_from plan served j t) (served-more i)
      ∙ cells-more plan (served_in matches i) (served_of matched i ∷ []) t (let long = served-long i in omega arith) j

  pub feeds-before : (j t : ℕ) → t < length matches → feeds (matches ++ matched ∷ []) j t ≡ feeds matches j t
  feeds-before j t below = ap (λ m. if is_some (fed_of m j) then 1 else 0) (match-before t below)

  pub feeds-last : (j : ℕ) → feeds (matches ++ matched ∷ []) j (length matches) ≡ (if is_some (fed_of matched j) then 1 else 0)
  feeds-last j = ap (λ m. if is_some (fed_of m j) then 1 else 0) match-last

  pub ran-before : (j t : ℕ) → t ≤ length matches → ran (matches ++ matched ∷ []) j t ≡ ran matches j t
  ran-before j t within = total-same (feeds (matches ++ matched ∷ []) j) (feeds matches j) t (λ u below. feeds-before j u (omega arith))

  module _ (cards : List Plan) where
    pub comes-before : (j t : ℕ) → t ≤ length matches → comes cards (matches ++ matched ∷ []) j t ≡ comes cards matches j t
    unfolding comes
    comes-before j t within =
        total-same (λ i. cells_from (card_of cards i) (served_in (matches ++ matched ∷ []) i) j t)
        (λ i. cells_from (card_of cards i) (served_in matches i) j t) (length cards)
        (λ i below. cells-before (card_of cards i) i j t within)

    pub came-before : (j t : ℕ) → t ≤ length matches + 1 → total (comes cards (matches ++ matched ∷ []) j) t ≡ total (comes cards matches j) t
    came-before j t within = total-same (comes cards (matches ++ matched ∷ []) j) (comes cards matches j) t (λ u below. comes-before j u (omega arith))

    pub ideal-before : (j t : ℕ) → t ≤ length matches + 1 → ideal cards (matches ++ matched ∷ []) j t ≡ ideal cards matches j t
    ideal-before j t within = given-same (comes cards (matches ++ matched ∷ []) j) (comes cards matches j) t (λ u below. comes-before j u (omega arith))

    -- ---- what is counted at an output
    module _ (j : ℕ) (old new : Tally) (was : IsTally cards matches (length matches + 1) j old)
        (ticks : Ticks (length matches) (if is_some (fed_of matched j) then 1 else 0) old new) where
      came-now : new.came ≡ total (comes cards (matches ++ matched ∷ []) j) (length (matches ++ matched ∷ []))
      came-now =
          let more : length matches + 1 ≡ length (matches ++ matched ∷ []) = omega (arith, slots-more) in
          ticks.came ∙ was.came ∙ sym (came-before j (length matches + 1) (omega arith)) ∙ ap (total (comes cards (matches ++ matched ∷ []) j)) more

      given-next : new.given ≡ ideal cards (matches ++ matched ∷ []) j (suc (length matches))
      given-next =
          let f = comes cards (matches ++ matched ∷ []) j in
          let next = recurrence f (length matches) in
          let sum = given-queued f (length matches) in
          let more : length matches + 1 ≡ suc (length matches) = omega arith in
          let came : old.came ≡ total f (suc (length matches)) = was.came ∙ sym (came-before j (length matches + 1) (omega arith)) ∙ ap (total f) more in
          let before' : old.given ≡ given f (length matches) = was.given ∙ sym (ideal-before j (length matches) (omega arith)) in
          let now = ticks.given in
          omega arith

      ran-next : new.ran ≡ ran (matches ++ matched ∷ []) j (suc (length matches))
      ran-next =
          let now = ticks.ran in
          let before' : old.ran ≡ ran (matches ++ matched ∷ []) j (length matches) = was.ran ∙ sym (ran-before j (length matches) (omega arith)) in
          let last = feeds-last j in
          omega arith

      line-next : new.line ≡ line_by (ideal cards (matches ++ matched ∷ []) j) (ran (matches ++ matched ∷ []) j) (suc (length matches))
      unfolding line_of
      line-next =
          let f = ideal cards (matches ++ matched ∷ []) j in
          let g = ran (matches ++ matched ∷ []) j in
          let t = length matches in
          let line : old.line ≡ line_by f g t = was.line
          ∙ sym (line-same f (ideal cards matches j) g (ran matches j) t (λ u within. ideal-before j u (omega arith))
          (λ u within. ran-before j u within)) in
          let given-old : old.given ≡ f t = was.given ∙ sym (ideal-before j t (omega arith)) in
          let ran-old : old.ran ≡ g t = was.ran ∙ sym (ran-before j t (omega arith)) in
          let given-new : new.given ≡ f (suc t) = given-next in
          let ran-new : new.ran ≡ g (suc t) = ran-next in
          line-is new.line (line_by f g (suc t))
          (ticks.ends ∙ ends-by f t old.given new.given old.line.ends given-old given-new (ap (λ (l : RefLine). l.ends) line))
          (ticks.runs ∙ ends-by g t old.ran new.ran old.line.runs ran-old ran-new (ap (λ (l : RefLine). l.runs) line))
          (ticks.lead ∙ lead-by old.line.lead (greatest_of (ahead f g) t) new.given new.ran (f (suc t)) (g (suc t))
          (ap (λ (l : RefLine). l.lead) line) given-new ran-new)
          (ticks.extra ∙ extra-by old.line.extra (total (ahead f g) t) new.given new.ran (f (suc t)) (g (suc t))
          (ap (λ (l : RefLine). l.extra) line) given-new ran-new) where
            ends-by : (h : ℕ → ℕ) (t a b e : ℕ) → a ≡ h t → b ≡ h (suc t) → e ≡ end_of h t → (if nat_lt a b then t + 1 else e) ≡ end_of h (suc t)
            ends-by h t a b e p q x = let one : t + 1 ≡ suc t = omega arith in rw (p, q, one, x) refl

            lead-by : (l l' a b a' b' : ℕ) → l ≡ l' → a ≡ a' → b ≡ b' → max l (a - b) ≡ max l' (a' - b')
            lead-by l l' a b a' b' p q r = rw (p, q, r) refl

            extra-by : (l l' a b a' b' : ℕ) → l ≡ l' → a ≡ a' → b ≡ b' → l + (a - b) ≡ l' + (a' - b')
            extra-by l l' a b a' b' p q r = rw (p, q, r) refl

      -- the tally of one slot more, before the packets of the next
      pub tally-next : IsTally cards (matches ++ matched ∷ []) (length (matches ++ matched ∷ [])) j new
      unfolding line_of
      tally-next =
          let long = sym slots-more in
          record {
            came = came-now;
            given = given-next ∙ ap (ideal cards (matches ++ matched ∷ []) j) long;
            ran = ran-next ∙ ap (ran (matches ++ matched ∷ []) j) long;
            line = line-next ∙ ap (line_by (ideal cards (matches ++ matched ∷ []) j) (ran (matches ++ matched ∷ []) j)) long;
          }

-- ---- numbers that stay within their types
if-le : (b : Bool) (x y n : ℕ) → x ≤ n → y ≤ n → (if b then x else y) ≤ n
if-le true x y n first second = first
if-le false x y n first second = second

-- at most one cell is fed in a slot, and only where one waits, and so few come after it
pub record AreFew (fed more : ℕ) (old : Tally) : Type 0 where
  pub one : fed ≤ 1
  pub waits : fed ≡ 1 → old.ran < old.came
  pub within : more ≤ 131072

pub small-next : (t fed more : ℕ) (old new : Tally) → t + 1 < 4294967296 → IsSmall t old → Ticks t fed old new → AreFew fed more old
    → IsSmall (t + 1) (record { came = new.came + more; given = new.given; ran = new.ran; line = new.line })
small-next t fed more old new few small ticks cells =
    let one = cells.one in
    let within = cells.within in
    let came = ticks.came in
    let given' = ticks.given in
    let ran' = ticks.ran in
    let lead' = ticks.lead in
    let extra' = ticks.extra in
    let a = small.came in
    let b = small.behind in
    let c = small.given in
    let d = small.few in
    let e = small.lead in
    let f = small.extra in
    let behind' : new.ran ≤ new.given = elim (cases_lt fed 1) [ inl less ↦ omega arith | inr le ↦ let w = cells.waits (omega arith) in omega arith ] in
    let high : new.given ≤ t + 1 = omega arith in
    let under : new.given ≤ new.came + more = omega arith in
    record {
      came = omega arith;
      behind = behind';
      given = under;
      few = high;
      lead = omega arith;
      ends = subst (λ x. x ≤ t + 1) (sym ticks.ends)
          (if-le (nat_lt old.given new.given) (t + 1) old.line.ends (t + 1) (omega arith) (let g = small.ends in omega arith));
      runs = subst (λ x. x ≤ t + 1) (sym ticks.runs)
          (if-le (nat_lt old.ran new.ran) (t + 1) old.line.runs (t + 1) (omega arith) (let g = small.runs in omega arith));
      extra = omega arith;
    }

-- an output of which the run has served all that came, and to which nothing is fed, stays as it is
no_less : (x : ℕ) (a b : ℕ) → (if nat_lt x x then a else b) ≡ b
no_less x a b = rw (le-ltb x x (omega arith)) refl

pub idle : (t : ℕ) (old : Tally) → IsSmall t old → old.came ≤ old.ran → Ticks t 0 old old
idle t old small all =
    let a = small.behind in
    let b = small.given in
    record {
      came = refl;
      given = omega arith;
      ran = omega arith;
      ends = sym (no_less old.given (t + 1) old.line.ends);
      runs = sym (no_less old.ran (t + 1) old.line.runs);
      lead = omega arith;
      extra = omega arith;
    }
